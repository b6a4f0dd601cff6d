-- Lists: what stands at a place, fronts, and tests.
use Rattle.std.proofs.Common.{◌≡◌, ℕ, zero, suc, ◌<◌, Bool, true, false, cond, ◌||◌, filter, map, All, List, [], ◌∷◌, ◌++◌, length, take, get_or, slice_get, Some, refl, ap, ◌∙◌, arith}
use Rattle.std.specs.List.{list_any}
use Rattle.std.proofs.Math.Bool.{or-false}
use Rattle.std.proofs.Math.Seq.{take-suc}
use Rattle.std.proofs.iter.runs.Lists.{nth_left}
use Rattle.std.proofs.lemmas.Bool.{both_ways, false_from_ne_true}
use Rattle.std.proofs.lemmas.Option.{get_or_from_slice_get, slice_get_within}
use Rattle.std.proofs.lemmas.List.Folds.{list_any_at, list_any-append}
use Rattle.std.proofs.lemmas.List.Elements.{All-head, All-tail}

pub length-push : {X : Type 0} (xs : List X) (x : X) → length (xs ++ x ∷ []) ≡ suc (length xs)
length-push [] x = refl
length-push (y ∷ xs) x = ap suc (length-push xs x)

-- where nothing passes a test, what stands at a place doesn't
pub none-at : {X : Type 0} (p : X → Bool) (xs : List X) (k : ℕ) (d : X) → list_any p xs ≡ false → k < length xs → p (get_or xs k d) ≡ false
none-at p xs k d none within = false_from_ne_true (p (get_or xs k d)) (λ passes. both_ways (list_any p xs) none (list_any_at p xs k d within passes))

-- a front that is longer by what stands behind it
pub take-next : {X : Type 0} (xs : List X) (k : ℕ) (x : X) → slice_get xs k ≡ Some x → take (suc k) xs ≡ take k xs ++ x ∷ []
take-next xs k x there = take-suc xs k x (slice_get_within xs k x there) ∙ ap (λ y. take k xs ++ y ∷ []) (get_or_from_slice_get xs k x x there)

pub found-below : {X : Type 0} (xs : List X) (k : ℕ) → k < length xs → (x : X) × (slice_get xs k ≡ Some x)
found-below [] k below = absurd (omega arith)
found-below (x ∷ xs) zero below = (x, refl)
found-below (x ∷ xs) (suc k) below = found-below xs k (omega arith)

-- tests that answer alike where these elements stand
pub filter-alike : {X : Type 0} (p q : X → Bool) (xs : List X) → All (λ x. p x ≡ q x) xs → filter p xs ≡ filter q xs
filter-alike p q [] alike = refl
filter-alike p q (x ∷ xs) alike =
    ap (λ b. cond b (x ∷ filter p xs) (filter p xs)) (All-head (λ y. p y ≡ q y) x xs alike)
    ∙ ap (λ rest. cond (q x) (x ∷ rest) rest) (filter-alike p q xs (All-tail (λ y. p y ≡ q y) x xs alike))

pub filter-none : {X : Type 0} (p : X → Bool) (xs : List X) → All (λ x. p x ≡ false) xs → filter p xs ≡ []
filter-none p [] none = refl
filter-none p (x ∷ xs) none =
    ap (λ b. cond b (x ∷ filter p xs) (filter p xs)) (All-head (λ y. p y ≡ false) x xs none) ∙ filter-none p xs (All-tail (λ y. p y ≡ false) x xs none)

pub filter-all : {X : Type 0} (p : X → Bool) (xs : List X) → ((x : X) → p x ≡ true) → filter p xs ≡ xs
filter-all p [] all = refl
filter-all p (x ∷ xs) all = ap (λ b. cond b (x ∷ filter p xs) (filter p xs)) (all x) ∙ ap (λ rest. x ∷ rest) (filter-all p xs all)

pub filter-map : {X Y : Type 0} (p : Y → Bool) (h : X → Y) (xs : List X) → filter p (map h xs) ≡ map h (filter (λ x. p (h x)) xs)
filter-map p h [] = refl
filter-map p h (x ∷ xs) = through (p (h x)) (filter-map p h xs)
  where
    through : (passes : Bool) → filter p (map h xs) ≡ map h (filter (λ y. p (h y)) xs) → cond passes (h x ∷ filter p (map h xs)) (filter p (map h xs)) ≡ map h (cond passes (x ∷ filter (λ y. p (h y)) xs) (filter (λ y. p (h y)) xs))
    through true rest = ap (λ more. h x ∷ more) rest
    through false rest = rest

pub list_any-push : {X : Type 0} (p : X → Bool) (xs : List X) (x : X) → list_any p (xs ++ x ∷ []) ≡ (list_any p xs || p x)
list_any-push p xs x = list_any-append p xs (x ∷ []) ∙ ap (λ b. list_any p xs || b) (or-false (p x))

pub list_any-map : {X Y : Type 0} (p : Y → Bool) (h : X → Y) (xs : List X) → list_any p (map h xs) ≡ list_any (λ x. p (h x)) xs
list_any-map p h [] = refl
list_any-map p h (x ∷ xs) = ap (λ rest. p (h x) || rest) (list_any-map p h xs)

pub list_any-alike : {X : Type 0} (p q : X → Bool) (xs : List X) → ((x : X) → p x ≡ q x) → list_any p xs ≡ list_any q xs
list_any-alike p q xs alike = ap (λ (test : _ → Bool). list_any test xs) (λ i x. alike x i)

pub slice_get-front : {X : Type 0} (xs ys : List X) (i : ℕ) (x : X) → slice_get xs i ≡ Some x → slice_get (xs ++ ys) i ≡ Some x
slice_get-front xs ys i x there = nth_left xs ys i (slice_get_within xs i x there) ∙ there
