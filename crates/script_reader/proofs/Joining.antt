-- The clients so far: what each of them keeps, and how one is looked up and joins.
use Rattle.std.proofs.Common.{◌≡◌, ℕ, suc, ◌+◌, ◌<◌, ◌≤◌, Bool, true, false, ◌||◌, cond, not, nat_lt, nat_le, List, [], ◌∷◌, ◌++◌, length, map, get_or, refl, sym, ap, subst, ◌∙◌, arith, length-append, codes, bytes_eq, Some, None}
use Rattle.std.specs.Prelude.{Result, Ok, Err, IfOk, IsTrue}
use Rattle.std.specs.List.{All, list_any, position, position_or_len}
use Rattle.std.specs.Option.{unwrap_or}
use Rattle.std.proofs.Math.Numerals.{one-add}
use Rattle.std.proofs.lemmas.Bool.{leb-false, le-ltb, lt-leb, lt-ltb, ltb-false, ltb-true}
use Rattle.std.proofs.lemmas.List.{length-map, map-append, map-id}
use Rattle.std.proofs.lemmas.List.Elements.{All-get_or}
use Rattle.std.proofs.lemmas.List.Quantifiers.{position-Some}
use Rattle.std.proofs.lemmas.Slice.Eq.{bytes_eq-Decides}
use Rattle.moos_post.specs.Words.{is_name}
use Rattle.moos_post.proofs.Texts.{bytes_eq_comm}
use Rattle.moos_text.specs.declared.cause.Cause.{Cause}
use Rattle.moos_text.specs.declared.cause.Cause.TheVariants.{S4, S8, S9}
use Rattle.moos_text.specs.declared.cause.Limit.TheVariants.{Clients}
use Rattle.moos_text.proofs.Judging.{cond_good}
use Rattle.moos_text.proofs.WordLemmas.{position_or_len_of}
use Rattle.script_reader.specs.Script.{client_number, with_client, client_of}

abbrev pub Named : List ℕ → Type 0
Named name = IsTrue (is_name name)

abbrev pub IsOwn : List ℕ → Type 0
IsOwn name = IsTrue (not (bytes_eq name (codes "pHelmIvP")))

-- a client is one of the first 64, and not the helm
pub record IsClient (names : List (List ℕ)) (name : List ℕ) (number : ℕ) : Type 0 where
  pub named : Named name
  pub own : IsOwn name
  pub among : number < 64
  pub number_is : number ≡ client_number names name

pub client_good : (names : List (List ℕ)) (word : List ℕ) → IfOk (client_of names word) (IsClient names word)
client_good names word =
    cond_good (IsClient names word) (not (is_name word)) (Err S4) named (λ _. tt)
    (λ good. cond_good (IsClient names word) (bytes_eq word (codes "pHelmIvP")) (Err S9) placed (λ _. tt)
    (λ other. cond_good (IsClient names word) (nat_le 64 (client_number names word)) (Err (S8 Clients)) (Ok (client_number names word)) (λ _. tt)
    (λ room. record { named = no_other (is_name word) good; own = ap not other; among = leb-false 64 (client_number names word) room; number_is = refl })))
  where
    no_other : (b : Bool) → not b ≡ false → b ≡ true
    no_other true good = refl
    no_other false good = absurd cc

    placed : Result ℕ Cause
    placed = cond (nat_le 64 (client_number names word)) (Err (S8 Clients)) (Ok (client_number names word))

    named : Result ℕ Cause
    named = cond (bytes_eq word (codes "pHelmIvP")) (Err S9) (cond (nat_le 64 (client_number names word)) (Err (S8 Clients)) (Ok (client_number names word)))

-- a name is the same as one that comes first
pub first_place : (same : Bool) (name client : List ℕ) (names : List (List ℕ)) → bytes_eq name client ≡ same → client_number (name ∷ names) client ≡ cond same 0 (suc (client_number names client))
first_place true name client names is = ap (λ b. cond (not b) (1 + client_number names client) 0) is
first_place false name client names is = ap (λ b. cond (not b) (1 + client_number names client) 0) is ∙ one-add (client_number names client)

pub client_length : (names : List (List ℕ)) (name : List ℕ) → length names ≤ 64 → client_number names name < 64 → length (with_client names name) ≤ 64
client_length names name few among = at (nat_lt (client_number names name) (length names)) refl
  where
    at : (known : Bool) → nat_lt (client_number names name) (length names) ≡ known → length (cond known names (names ++ name ∷ [])) ≤ 64
    at true is = few
    at false is = let past = ltb-false (client_number names name) (length names) is in omega (arith, length-append names (name ∷ []))

-- a name that `position` finds is the client of that number
is_number : (names : List (List ℕ)) (name : List ℕ) (number : ℕ) → position (λ client. bytes_eq client name) names ≡ Some number → client_number names name ≡ number
is_number names name number found =
    sym (position_or_len_of (λ client. bytes_eq client name) names) ∙ ap (λ place. unwrap_or place (length names)) found

-- a name that it doesn't find is new
pub is_new : (names : List (List ℕ)) (name : List ℕ) → position (λ client. bytes_eq client name) names ≡ None → client_number names name ≡ length names
is_new names name none = sym (position_or_len_of (λ client. bytes_eq client name) names) ∙ ap (λ place. unwrap_or place (length names)) none

-- a client that is among the names isn't refused
pub known_client : (names : List (List ℕ)) (name : List ℕ) (number : ℕ) → All Named names → All IsOwn names → length names ≤ 64 → position (λ client. bytes_eq client name) names ≡ Some number
    → client_of names name ≡ Ok number
known_client names name number named own few found =
    let at = position-Some (λ client. bytes_eq client name) names number [] found in
    let same : get_or names number [] ≡ name = (bytes_eq-Decides (get_or names number []) name).0 at.1 in
    let is = is_number names name number found in
    judged (is_name name) (bytes_eq name (codes "pHelmIvP")) (nat_le 64 (client_number names name))
    (subst Named same (All-get_or Named names number [] at.0 named))
    (subst IsOwn same (All-get_or IsOwn names number [] at.0 own))
    (lt-leb 64 (client_number names name) (omega (arith, at.0)))
    ∙ ap Ok is
  where
    judged : (good helm last : Bool) → good ≡ true → not helm ≡ true → last ≡ false
        → cond (not good) (Err S4) (cond helm (Err S9) (cond last (Err (S8 Clients)) (Ok (client_number names name)))) ≡ Ok (client_number names name)
    judged true false false good own room = refl
    judged true false true good own room = absurd cc
    judged true true last good own room = absurd cc
    judged false helm last good own room = absurd cc

suc_lt : (a b : ℕ) → nat_lt a b ≡ nat_lt (suc a) (suc b)
suc_lt a b = at (nat_lt a b) refl
  where
    at : (less : Bool) → nat_lt a b ≡ less → less ≡ nat_lt (suc a) (suc b)
    at true is = let below = ltb-true a b is in sym (lt-ltb (suc a) (suc b) (omega arith))
    at false is = let above = ltb-false a b is in sym (le-ltb (suc a) (suc b) (omega arith))

module _ {Key : Type 0} (shown : Key → List ℕ) where
  -- the place of a name among keys that show the names
  place : (name : List ℕ) (keys : List Key) → position_or_len (λ key. bytes_eq name (shown key)) keys ≡ client_number (map shown keys) name
  place name [] = refl
  place name (key ∷ keys) =
      ap (λ same. cond (not same) (1 + position_or_len (λ key. bytes_eq name (shown key)) keys) 0) (bytes_eq_comm name (shown key))
      ∙ ap (λ place. cond (not (bytes_eq (shown key) name)) (1 + place) 0) (place name keys)

  pub looked_up : (name : List ℕ) (keys : List Key) → position (λ key. bytes_eq name (shown key)) keys ≡ position (λ client. bytes_eq client name) (map shown keys)
  looked_up name keys =
      ap (λ n. cond (nat_lt n (length keys)) (Some n) None) (place name keys)
      ∙ ap (λ n. cond (nat_lt (client_number (map shown keys) name) n) (Some (client_number (map shown keys) name)) None) (sym (length-map keys shown))

  -- a name is among them where its place is
  is_among : (name : List ℕ) (keys : List Key) → list_any (λ key. bytes_eq name (shown key)) keys ≡ nat_lt (client_number (map shown keys) name) (length (map shown keys))
  is_among name [] = refl
  is_among name (key ∷ keys) = at (bytes_eq (shown key) name) refl (is_among name keys)
    where
      at : (same : Bool) → bytes_eq (shown key) name ≡ same → list_any (λ key. bytes_eq name (shown key)) keys ≡ nat_lt (client_number (map shown keys) name) (length (map shown keys))
          → (bytes_eq name (shown key) || list_any (λ key. bytes_eq name (shown key)) keys) ≡ nat_lt (client_number (shown key ∷ map shown keys) name) (suc (length (map shown keys)))
      at true is later =
          ap (λ same. same || list_any (λ key. bytes_eq name (shown key)) keys) (bytes_eq_comm name (shown key) ∙ is)
          ∙ sym (lt-ltb 0 (suc (length (map shown keys))) (omega arith))
          ∙ ap (λ n. nat_lt n (suc (length (map shown keys)))) (sym (first_place true (shown key) name (map shown keys) is))
      at false is later =
          ap (λ same. same || list_any (λ key. bytes_eq name (shown key)) keys) (bytes_eq_comm name (shown key) ∙ is) ∙ later
          ∙ suc_lt (client_number (map shown keys) name) (length (map shown keys))
          ∙ ap (λ n. nat_lt n (suc (length (map shown keys)))) (sym (first_place false (shown key) name (map shown keys) is))

  pub inserted : (name : Key) (keys : List Key)
      → map shown (cond (list_any (λ key. bytes_eq (shown name) (shown key)) keys) keys (keys ++ name ∷ [])) ≡ with_client (map shown keys) (shown name)
  inserted name keys = at (list_any (λ key. bytes_eq (shown name) (shown key)) keys) (is_among (shown name) keys)
    where
      at : (known : Bool) → known ≡ nat_lt (client_number (map shown keys) (shown name)) (length (map shown keys))
          → map shown (cond known keys (keys ++ name ∷ [])) ≡ with_client (map shown keys) (shown name)
      at true is = ap (λ known. cond known (map shown keys) (map shown keys ++ shown name ∷ [])) is
      at false is = map-append shown keys (name ∷ []) ∙ ap (λ known. cond known (map shown keys) (map shown keys ++ shown name ∷ [])) is

-- a name is among these where its place is
among : (name : List ℕ) (names : List (List ℕ)) → list_any (bytes_eq name) names ≡ nat_lt (client_number names name) (length names)
among name names = is_among (λ one. one) name names ∙ ap (λ ones. nat_lt (client_number ones name) (length ones)) (map-id names)

-- a name that has a place is among them
pub placed_among : (name : List ℕ) (names : List (List ℕ)) (place : ℕ) → position (λ client. bytes_eq client name) names ≡ Some place → true ≡ list_any (bytes_eq name) names
placed_among name names place found =
    let at = position-Some (λ client. bytes_eq client name) names place [] found in
    sym (among name names ∙ ap (λ n. nat_lt n (length names)) (is_number names name place found) ∙ lt-ltb place (length names) at.0)

-- a name that has no place isn't
pub none_among : (name : List ℕ) (names : List (List ℕ)) → position (λ client. bytes_eq client name) names ≡ None → false ≡ list_any (bytes_eq name) names
none_among name names none =
    sym (among name names ∙ ap (λ n. nat_lt n (length names)) (is_new names name none) ∙ le-ltb (length names) (length names) (omega arith))

-- what stands at the place of a name is that name
pub placed_same : (name : List ℕ) (names : List (List ℕ)) (place : ℕ) (known : List ℕ) → position (λ client. bytes_eq client name) names ≡ Some place → known ≡ get_or names place known → known ≡ name
placed_same name names place known found got =
    let at = position-Some (λ client. bytes_eq client name) names place known found in
    got ∙ (bytes_eq-Decides (get_or names place known) name).0 at.1

-- a name that isn't among them joins them behind all others
pub new_joins : (name : List ℕ) (names : List (List ℕ)) → list_any (bytes_eq name) names ≡ false → with_client names name ≡ names ++ name ∷ []
new_joins name names none = ap (λ known. cond known names (names ++ name ∷ [])) (sym (among name names) ∙ none)
