-- Which posts are the latest of their variables, and that the others needn't be looked at to catch up.
use Rattle.std.proofs.Common.{◌≡◌, ◌≢◌, ◌∙◌, ◌≤◌, ◌+◌, ◌==◌, ◌&&◌, ◌||◌, ◌⊎◌, ℕ, zero, suc, Bool, true, false, not, List, [], ◌∷◌, length, fold, drop, Option, None, Some, bytes_eq, slice_get, refl, ap, sym, subst, arith, inl, inr, if◌then◌else◌}
use Rattle.std.specs.List.{list_any}
use Rattle.std.proofs.lemmas.Bool.{and_left, and_right, cases_Bool, eq-eqb, eqb-false, eqb-true, false_from_ne_true, ne_eqb, not-true, or_left, or_right}
use Rattle.std.proofs.lemmas.List.{length-drop}
use Rattle.std.proofs.lemmas.Option.{same_Some, slice_get_within}
use Rattle.std.proofs.lemmas.Slice.Eq.{bytes_eq-Decides}
use Rattle.moos_mail.proofs.Lists.{list_any-alike, list_any-map}
use Rattle.moos_post.specs.declared.value.Post.{Post}
use Rattle.moos_post.specs.Delivery.{after_catching_up, catches_up, Inbox, is_latest, is_new_for, Live, was_mailed, with_came, with_caught_up}
use Rattle.moos_post.specs.History.{name_of}
use Rattle.moos_post.specs.Patterns.{matches}
use Rattle.moos_db.specs.Registering.{catch_number, catch_post}
use Rattle.moos_db.specs.Tables.{latest_post_from, latest_post_of}
use Rattle.moos_db.proofs.Hearing.{passed}

-- the number is one of these
abbrev pub is_one_of : ℕ → List ℕ → Bool
is_one_of number numbers = list_any (λ one. one == number) numbers

-- the post with this number is the latest of its variable
pub record IsLatestOf (var : List ℕ) (posts : List Post) (number : ℕ) : Type 0 where
  pub post : Post
  pub there : slice_get posts number ≡ Some post
  pub var_is : post.var ≡ var
  pub latest : is_latest post (drop (suc number) posts) ≡ true

no-later : (var : List ℕ) (number : ℕ) (found : Option ℕ) (posts : List Post) → list_any (λ (other : Post). bytes_eq other.var var) posts ≡ false → latest_post_from var number found posts ≡ found
no-later var number found [] none = refl
no-later var number found (post ∷ posts) none = through (bytes_eq post.var var) none (λ rest. no-later var (suc number) found posts rest)
  where
    through : (b : Bool) → (b || list_any (λ (other : Post). bytes_eq other.var var) posts) ≡ false → (list_any (λ (other : Post). bytes_eq other.var var) posts ≡ false → latest_post_from var (suc number) found posts ≡ found) →
        latest_post_from var (suc number) (if b then Some number else found) posts ≡ found
    through true is rest = absurd (let e : true ≡ false = is in cc)
    through false is rest = rest is

-- what is found is the latest
latest-found : (var : List ℕ) (number k : ℕ) (found : Option ℕ) (posts : List Post) → latest_post_from var number found posts ≡ Some k →
    ((found ≡ Some k) × (list_any (λ (other : Post). bytes_eq other.var var) posts ≡ false)) ⊎ ((place : ℕ) × (number + place ≡ k) × IsLatestOf var posts place)
latest-found var number k found [] is = inl (is, refl)
latest-found var number k found (post ∷ posts) is = through (bytes_eq post.var var) refl (latest-found var (suc number) k (if bytes_eq post.var var then Some number else found) posts is)
  where
    through : (b : Bool) → bytes_eq post.var var ≡ b →
        (((if bytes_eq post.var var then Some number else found) ≡ Some k) × (list_any (λ (other : Post). bytes_eq other.var var) posts ≡ false)) ⊎ ((place : ℕ) × (suc number + place ≡ k) × IsLatestOf var posts place) →
        ((found ≡ Some k) × ((bytes_eq post.var var || list_any (λ (other : Post). bytes_eq other.var var) posts) ≡ false)) ⊎ ((place : ℕ) × (number + place ≡ k) × IsLatestOf var (post ∷ posts) place)
    through b same (inr later) =
        inr (suc later.0, (let e : suc number + later.0 ≡ k = later.1 in omega arith), record { post = later.2.post; there = later.2.there; var_is = later.2.var_is; latest = later.2.latest })
    through true same (inl here) =
        let own : post.var ≡ var = (bytes_eq-Decides post.var var).0 same in
        let at : number ≡ k = (let e : Some number ≡ Some k = ap (λ b. if b then Some number else found) (sym same) ∙ here.0 in cc) in
        inr (0, (omega arith), record { post = post; there = refl; var_is = own; latest = ap (λ (v : List ℕ). not (list_any (λ (other : Post). bytes_eq other.var v) posts)) own ∙ ap not here.1 })
    through false same (inl past) =
        inl (ap (λ b. if b then Some number else found) (sym same) ∙ past.0, ap (λ b. b || list_any (λ (other : Post). bytes_eq other.var var) posts) same ∙ past.1)

pub found-is-latest : (posts : List Post) (var : List ℕ) (k : ℕ) → latest_post_of var posts ≡ Some k → IsLatestOf var posts k
found-is-latest posts var k is = elim (latest-found var 0 k None posts is) [
  | inl none ↦ absurd (let e : None ≡ Some k = none.0 in cc)
  | inr found ↦ subst (IsLatestOf var posts) (let e : 0 + found.0 ≡ k = found.1 in omega arith) found.2
]

-- and the latest is found
found-latest : (number place : ℕ) (found : Option ℕ) (posts : List Post) (post : Post) → slice_get posts place ≡ Some post → is_latest post (drop (suc place) posts) ≡ true → latest_post_from post.var number found posts ≡ Some (number + place)
found-latest number place found [] post there latest = absurd (let e : None ≡ Some post = there in cc)
found-latest number zero found (one ∷ posts) post there latest =
    let same : one ≡ post = (let e : Some one ≡ Some post = there in cc) in
    ap (λ b. latest_post_from post.var (suc number) (if b then Some number else found) posts) ((bytes_eq-Decides one.var post.var).1 (ap (λ (p : Post). p.var) same))
    ∙ no-later post.var (suc number) (Some number) posts (not-true (list_any (λ (other : Post). bytes_eq other.var post.var) posts) latest)
    ∙ (let e : number ≡ number + 0 = omega arith in ap (λ n. Some n) e)
found-latest number (suc place) found (one ∷ posts) post there latest =
    found-latest (suc number) place (if bytes_eq one.var post.var then Some number else found) posts post there latest ∙ (let e : suc number + place ≡ number + suc place = omega arith in ap (λ n. Some n) e)

pub latest-is-found : (posts : List Post) (number : ℕ) (post : Post) → slice_get posts number ≡ Some post → is_latest post (drop (suc number) posts) ≡ true → latest_post_of post.var posts ≡ Some number
latest-is-found posts number post there latest =
    found-latest 0 number None posts post there latest ∙ (let e : 0 + number ≡ number = omega arith in ap (λ n. Some n) e)

-- numbers that rise, from this one on
abbrev pub IsAbove : ℕ → List ℕ → Type 0
IsAbove from [] = Unit {0}
IsAbove from (number ∷ numbers) = (from ≤ number) × IsAbove (suc number) numbers

above-member : (from number : ℕ) (numbers : List ℕ) → IsAbove from numbers → is_one_of number numbers ≡ true → from ≤ number
above-member from number [] above is = absurd (let e : false ≡ true = is in cc)
above-member from number (one ∷ numbers) above is = through (one == number) refl is (above-member (suc one) number numbers above.1)
  where
    through : (b : Bool) → (one == number) ≡ b → (b || is_one_of number numbers) ≡ true → (is_one_of number numbers ≡ true → suc one ≤ number) → from ≤ number
    through true same is rest = let at : one ≡ number = eqb-true one number same in let h : from ≤ one = above.0 in omega arith
    through false apart is rest = let h : from ≤ one = above.0 in let more : suc one ≤ number = rest is in omega arith

-- a registration made now hears the variable
abbrev pub is_made : ℕ → List ℕ → Live → Bool
is_made entry var live = live.made == entry && matches live.reg.var var

abbrev pub has_new : List ℕ → Inbox → Bool
has_new var inbox = list_any (is_made inbox.entries var) inbox.lives

new-caught : (names : List (List ℕ)) (sought : List ℕ) (inbox : Inbox) (number : ℕ) (post : Post) (b : Bool) → has_new sought (if b then with_caught_up names inbox number post else inbox) ≡ has_new sought inbox
new-caught names sought inbox number post false = refl
new-caught names sought inbox number post true =
    list_any-map (is_made inbox.entries sought) (passed (is_new_for names inbox.entries post) post) inbox.lives
    ∙ list_any-alike _ (is_made inbox.entries sought) inbox.lives (λ live. through live (is_new_for names inbox.entries post live))
  where
    through : (live : Live) (new : Bool) → is_made inbox.entries sought (if new then with_came post live else live) ≡ is_made inbox.entries sought live
    through live true = refl
    through live false = refl

-- where no registration made now hears the variable, none is new for its post
none-new : (names : List (List ℕ)) (entry : ℕ) (post : Post) (lives : List Live) → list_any (is_made entry post.var) lives ≡ false → list_any (is_new_for names entry post) lives ≡ false
none-new names entry post [] none = refl
none-new names entry post (live ∷ lives) none = through (live.made == entry) (matches live.reg.var post.var) none (none-new names entry post lives)
  where
    through : (a b : Bool) → (a && b || list_any (is_made entry post.var) lives) ≡ false → (list_any (is_made entry post.var) lives ≡ false → list_any (is_new_for names entry post) lives ≡ false) →
        (a && (b && matches live.reg.source (name_of names post.source)) || list_any (is_new_for names entry post) lives) ≡ false
    through true true is rest = absurd (let e : true ≡ false = is in cc)
    through true false is rest = rest is
    through false b is rest = rest is

-- these are numbers of latest posts, and of all that a registration made now hears
pub record ArePicked (posts : List Post) (from : ℕ) (inbox : Inbox) (numbers : List ℕ) : Type 0 where
  pub rising : IsAbove from numbers
  pub only : (number : ℕ) → is_one_of number numbers ≡ true → (post : Post) × (slice_get posts number ≡ Some post) × (is_latest post (drop (suc number) posts) ≡ true)
  pub each : (number : ℕ) (post : Post) → from ≤ number → slice_get posts number ≡ Some post → is_latest post (drop (suc number) posts) ≡ true → has_new post.var inbox ≡ true → is_one_of number numbers ≡ true

drop-first : (posts : List Post) (n : ℕ) (post : Post) (later : List Post) → drop n posts ≡ post ∷ later → (slice_get posts n ≡ Some post) × (drop (suc n) posts ≡ later)
drop-first [] zero post later is = absurd (let e : [] ≡ post ∷ later = is in cc)
drop-first [] (suc n) post later is = absurd (let e : [] ≡ post ∷ later = is in cc)
drop-first (one ∷ posts) zero post later is =
    let e : one ∷ posts ≡ post ∷ later = is in
    let first : one ≡ post = cc in
    let rest : posts ≡ later = cc in
    (ap (λ p. Some p) first, rest)
drop-first (one ∷ posts) (suc n) post later is = drop-first posts n post later is

-- The posts that may catch up are found by these numbers alone.
pub catching-picked : (names : List (List ℕ)) (all : List Post) (from : ℕ) (inbox : Inbox) (posts : List Post) (numbers : List ℕ) → drop from all ≡ posts → ArePicked all from inbox numbers →
    after_catching_up names from inbox posts ≡ fold (catch_number names all) inbox numbers
catching-picked names all from inbox [] [] is picked = refl
catching-picked names all from inbox [] (number ∷ numbers) is picked =
    let found = picked.only number (or_left (number == number) (is_one_of number numbers) (eq-eqb number number refl)) in
    let above : from ≤ number = picked.rising.0 in
    absurd (omega (arith, above, slice_get_within all number found.0 found.1, ap length is, length-drop from all))
catching-picked names all from inbox (post ∷ later) numbers is picked = by (λ now numbers. catching-picked names all (suc from) now later numbers rest) numbers picked
  where
    there : slice_get all from ≡ Some post
    there = (drop-first all from post later is).0

    rest : drop (suc from) all ≡ later
    rest = (drop-first all from post later is).1

    Again : Type 0
    Again = (now : Inbox) (numbers : List ℕ) → ArePicked all (suc from) now numbers → after_catching_up names (suc from) now later ≡ fold (catch_number names all) now numbers

    -- one that isn't picked doesn't catch up
    without : Again → (numbers : List ℕ) → ArePicked all from inbox numbers → IsAbove (suc from) numbers → after_catching_up names from inbox (post ∷ later) ≡ fold (catch_number names all) inbox numbers
    without again numbers picked above =
        ap (λ b. after_catching_up names (suc from) (if b then with_caught_up names inbox from post else inbox) later) stays
        ∙ again inbox numbers (record { rising = above; only = picked.only; each = λ number one higher at latest new. picked.each number one (omega (arith, higher)) at latest new })
      where
        old : is_latest post later ≡ true → has_new post.var inbox ≡ false
        old latest = false_from_ne_true (has_new post.var inbox) (λ new.
            let low : suc from ≤ from = above-member (suc from) from numbers above (picked.each from post (omega arith) there (ap (is_latest post) rest ∙ latest) new) in
            omega (arith, low))

        stays : catches_up names inbox from post later ≡ false
        stays = and_left (is_latest post later && list_any (is_new_for names inbox.entries post) inbox.lives) (not (was_mailed from inbox.mailed)) (elim (cases_Bool (is_latest post later)) [
          | inl latest ↦ and_right (is_latest post later) (list_any (is_new_for names inbox.entries post) inbox.lives) (none-new names inbox.entries post inbox.lives (old latest))
          | inr older ↦ and_left (is_latest post later) (list_any (is_new_for names inbox.entries post) inbox.lives) older
        ])

    -- one that is does as its number says
    with-it : Again → (number : ℕ) (numbers : List ℕ) → number ≡ from → ArePicked all from inbox (number ∷ numbers) → after_catching_up names from inbox (post ∷ later) ≡ fold (catch_number names all) inbox (number ∷ numbers)
    with-it again number numbers first picked =
        let found = picked.only from (or_left (number == from) (is_one_of from numbers) (eq-eqb number from first)) in
        let same : found.0 ≡ post = same_Some found.0 post (sym found.1 ∙ there) in
        let latest : is_latest post later ≡ true = (λ i. is_latest (sym same i) (sym rest i)) ∙ found.2 in
        let new : Bool = list_any (is_new_for names inbox.entries post) inbox.lives && not (was_mailed from inbox.mailed) in
        let now : Inbox = if new then with_caught_up names inbox from post else inbox in
        let step : catch_number names all inbox number ≡ now = ap (catch_number names all inbox) first ∙ ap (catch_post names from inbox) there in
        ap (λ b. after_catching_up names (suc from) (if (b && list_any (is_new_for names inbox.entries post) inbox.lives) && not (was_mailed from inbox.mailed) then with_caught_up names inbox from post else inbox) later) latest
        ∙ again now numbers (record {
          rising = subst (λ n. IsAbove (suc n) numbers) first picked.rising.1;
          only = λ k among. picked.only k (or_right (number == k) (is_one_of k numbers) among);
          each = λ k one higher at latest' new'.
              ap (λ b. b || is_one_of k numbers) (sym (ne_eqb number k (λ same. omega (arith, same, first, higher))))
              ∙ picked.each k one (omega (arith, higher)) at latest' (sym (new-caught names one.var inbox from post new) ∙ new');
        })
        ∙ ap (λ inbox. fold (catch_number names all) inbox numbers) (sym step)

    by : Again → (numbers : List ℕ) → ArePicked all from inbox numbers → after_catching_up names from inbox (post ∷ later) ≡ fold (catch_number names all) inbox numbers
    by again [] picked = without again [] picked tt
    by again (number ∷ numbers) picked = elim (cases_Bool (number == from)) [
      | inl same ↦ with-it again number numbers (eqb-true number from same) picked
      | inr apart ↦ without again (number ∷ numbers) picked ((let low : from ≤ number = picked.rising.0 in let other : number ≢ from = eqb-false number from apart in omega arith), picked.rising.1)
    ]
