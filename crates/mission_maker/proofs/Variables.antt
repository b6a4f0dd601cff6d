-- How many variables there are where all are among some: no more than these.
use Rattle.std.proofs.Common.{◌≡◌, ℕ, suc, ◌+◌, ◌≤◌, Bool, true, false, cond, ◌||◌, List, [], ◌∷◌, ◌++◌, length, refl, ap, sym, ◌∙◌, subst, arith, bytes_eq, length-append, inl, inr}
use Rattle.std.specs.Prelude.{All, fold}
use Rattle.std.specs.List.{list_any}
use Rattle.std.proofs.lemmas.Bool.{or_cases}
use Rattle.std.proofs.lemmas.List.Elements.{All-head, All-tail}
use Rattle.std.proofs.lemmas.List.Folds.{list_any-append}
use Rattle.std.proofs.lemmas.Slice.Eq.{bytes_eq-Decides}
use Rattle.moos_post.specs.declared.value.Post.{Post}
use Rattle.script_reader.specs.Script.{with_variable}

-- the text is among these
abbrev pub is_one_of : List (List ℕ) → List ℕ → Bool
is_one_of texts text = list_any (bytes_eq text) texts

-- 1 where the text is missing
abbrev one_if : Bool → ℕ
one_if known = cond known 0 1

-- how many of some texts aren't among the known ones
missing : List (List ℕ) → List (List ℕ) → ℕ
missing [] known = 0
missing (text ∷ texts) known = one_if (is_one_of known text) + missing texts known

missing_few : (texts known : List (List ℕ)) → missing texts known ≤ length texts
unfolding missing
missing_few [] known = omega arith
missing_few (text ∷ texts) known = at (is_one_of known text) (missing_few texts known)
  where
    at : (b : Bool) → missing texts known ≤ length texts → one_if b + missing texts known ≤ length (text ∷ texts)
    at true few = omega arith
    at false few = omega arith

-- what one more known text does to the count of one
one_less : (known more : Bool) → one_if (known || more) ≤ one_if known
one_less true more = omega arith
one_less false true = omega arith
one_less false false = omega arith

joined : (known : List (List ℕ)) (text one : List ℕ) → is_one_of (known ++ one ∷ []) text ≡ (is_one_of known text || bytes_eq text one)
joined known text one = list_any-append (bytes_eq text) known (one ∷ []) ∙ ap (λ b. is_one_of known text || b) (alone (bytes_eq text one))
  where
    alone : (b : Bool) → (b || false) ≡ b
    alone true = refl
    alone false = refl

missing_less : (texts known : List (List ℕ)) (one : List ℕ) → missing texts (known ++ one ∷ []) ≤ missing texts known
unfolding missing
missing_less [] known one = omega arith
missing_less (text ∷ texts) known one =
    let here : one_if (is_one_of (known ++ one ∷ []) text) ≤ one_if (is_one_of known text)
    = subst (λ b. one_if b ≤ one_if (is_one_of known text)) (sym (joined known text one)) (one_less (is_one_of known text) (bytes_eq text one)) in
    let later = missing_less texts known one in
    omega (arith, here, later)

missing_one_less : (texts known : List (List ℕ)) (one : List ℕ) → is_one_of texts one ≡ true → is_one_of known one ≡ false → suc (missing texts (known ++ one ∷ [])) ≤ missing texts known
unfolding missing
missing_one_less [] known one among new = absurd cc
missing_one_less (text ∷ texts) known one among new =
    elim (or_cases (bytes_eq one text) (is_one_of texts one) among) [
      | inl same ↦
          let is : one ≡ text = (bytes_eq-Decides one text).0 same in
          let before : one_if (is_one_of known text) ≡ 1 = ap one_if (ap (is_one_of known) (sym is) ∙ new) in
          let behind : one_if (is_one_of (known ++ one ∷ []) text) ≡ 0
          = ap one_if (joined known text one ∙ ap (λ b. is_one_of known text || b) ((bytes_eq-Decides text one).1 (sym is)) ∙ or_true (is_one_of known text)) in
          let later = missing_less texts known one in
          omega (arith, before, behind, later)
      | inr behind ↦
          let here : one_if (is_one_of (known ++ one ∷ []) text) ≤ one_if (is_one_of known text)
          = subst (λ b. one_if b ≤ one_if (is_one_of known text)) (sym (joined known text one)) (one_less (is_one_of known text) (bytes_eq text one)) in
          let later = missing_one_less texts known one behind new in
          omega (arith, here, later)
    ]
  where
    or_true : (b : Bool) → (b || true) ≡ true
    or_true true = refl
    or_true false = refl

-- one variable more
with_one : (texts known : List (List ℕ)) (one : List ℕ) → is_one_of texts one ≡ true → length (with_variable known one) + missing texts (with_variable known one) ≤ length known + missing texts known
with_one texts known one among = at (is_one_of known one) refl
  where
    at : (b : Bool) → is_one_of known one ≡ b → length (cond b known (known ++ one ∷ [])) + missing texts (cond b known (known ++ one ∷ [])) ≤ length known + missing texts known
    at true is = omega arith
    at false is = omega (arith, length-append known (one ∷ []), missing_one_less texts known one among is)

with_all : (texts known : List (List ℕ)) (posts : List Post) → All (λ post. is_one_of texts post.var ≡ true) posts
    → length (fold (λ vars post. with_variable vars post.var) known posts) ≤ length known + missing texts known
with_all texts known [] among = omega arith
with_all texts known (post ∷ posts) among =
    let first = with_one texts known post.var (All-head (λ (post : Post). is_one_of texts post.var ≡ true) post posts among) in
    let later = with_all texts (with_variable known post.var) posts (All-tail (λ (post : Post). is_one_of texts post.var ≡ true) post posts among) in
    omega (arith, first, later)

-- posts of these variables alone post no more variables than these
pub few_among : (texts : List (List ℕ)) (posts : List Post) → All (λ post. is_one_of texts post.var ≡ true) posts → length (fold (λ vars post. with_variable vars post.var) [] posts) ≤ length texts
few_among texts posts among = omega (arith, with_all texts [] posts among, missing_few texts [])
