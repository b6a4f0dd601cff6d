-- The vertices of a polygon from one of them on, around, and a test of each of its sides.
use Rattle.std.proofs.Common.{◌≡◌, ℕ, zero, suc, Bool, true, false, ◌+◌, ◌<◌, ◌≤◌, List, [], ◌∷◌, length, map, take, drop, get_or, refl, sym, ap, ◌∙◌, add-one, arith}
use Rattle.std.proofs.Math.Seq.{drop-cons}
use Rattle.std.proofs.lemmas.Bool.{and_parts, and_from}
use Rattle.std.proofs.lemmas.List.{drop_all}
use Rattle.std.proofs.lemmas.List.Folds.{list_all-append, list_all-map, list_all_at}
use Rattle.std.proofs.lemmas.List.FromFn.{get_or-range_with_len, length-range_with_len, map-range_with_len_more}
use Rattle.std.specs.List.{list_all, range_with_len}
use Rattle.std.specs.Prelude.{◌&&◌}
use Rattle.helm_geo.specs.declared.spot.Spot.{Spot}
use Rattle.helm_geo.specs.Plane.{is_left_of, is_right_of, is_spot}
use Rattle.helm_geo.specs.Polygons.{are_spots, at_each_side, has_on_left, has_on_right, round_from}

-- what holds of all spots holds of those behind one of them, and of those before it
spots_behind : (n : ℕ) (xs : List Spot) → are_spots xs ≡ true → are_spots (drop n xs) ≡ true
spots_behind zero xs h = h
spots_behind (suc n) [] h = refl
spots_behind (suc n) (x ∷ xs) h = spots_behind n xs (and_parts _ (are_spots xs) h).1

pub spots_before : (n : ℕ) (xs : List Spot) → are_spots xs ≡ true → are_spots (take n xs) ≡ true
spots_before zero xs h = refl
spots_before (suc n) [] h = refl
spots_before (suc n) (x ∷ xs) h =
    let parts = and_parts _ (are_spots xs) h in
    and_from _ (are_spots (take n xs)) parts.0 (spots_before n xs parts.1)

pub spots_between : (m n : ℕ) (xs : List Spot) → are_spots xs ≡ true → are_spots (take m (drop n xs)) ≡ true
spots_between m n xs h = spots_before m (drop n xs) (spots_behind n xs h)

-- a side that fails a test decides it
pub side_fails : (test : List Spot → Bool) (vertices : List Spot) (place : ℕ) → place < length vertices → test (round_from place vertices) ≡ false → at_each_side test vertices ≡ false
side_fails test vertices place inside fails =
    list_all_at (λ at. test (round_from at vertices)) (range_with_len 0 (length vertices)) place 0 (rw (length-range_with_len 0 (length vertices)) inside)
    (ap (λ at. test (round_from at vertices)) (get_or-range_with_len 0 (length vertices) place 0 inside ∙ omega arith) ∙ fails)

-- a test that the sides so far pass, and the next one too
pub side_passes : (test : List Spot → Bool) (vertices : List Spot) (place : ℕ) → list_all (λ at. test (round_from at vertices)) (range_with_len 0 place) ≡ true → test (round_from place vertices) ≡ true → list_all (λ at. test (round_from at vertices)) (range_with_len 0 (place + 1)) ≡ true
side_passes test vertices place before passes =
    let h : ℕ → Bool = λ at. test (round_from at vertices) in
    let p : Bool → Bool = λ b. b in
    let told = list_all-map p h (range_with_len 0 (place + 1)) in
    let told_before = list_all-map p h (range_with_len 0 place) in
    let more = ap (list_all p) (map-range_with_len_more h 0 place place (omega arith)) in
    let parted = list_all-append p (map h (range_with_len 0 place)) (h place ∷ []) in
    let both = and_from (list_all p (map h (range_with_len 0 place))) (h place && true) (told_before ∙ before) (and_from (h place) true passes refl) in
    sym told ∙ more ∙ parted ∙ both

-- a vertex is within the bounds
pub spot_at : (n : ℕ) (xs : List Spot) (d : Spot) → n < length xs → are_spots xs ≡ true → is_spot (get_or xs n d) ≡ true
spot_at n [] d h all = absurd (omega arith)
spot_at zero (x ∷ xs) d h all = (and_parts _ (are_spots xs) all).0
spot_at (suc n) (x ∷ xs) d h all = spot_at n xs d (omega arith) (and_parts _ (are_spots xs) all).1

-- the first two of the vertices from a place on, around
pub ends_inner : (place : ℕ) (xs : List Spot) (d e : Spot) → place + 1 < length xs → take 2 (round_from place xs) ≡ get_or xs place d ∷ get_or xs (place + 1) e ∷ []
ends_inner place xs d e h =
    let first : drop place xs ≡ get_or xs place d ∷ drop (suc place) xs = drop-cons xs place d (omega arith) in
    let second : drop (suc place) xs ≡ get_or xs (suc place) e ∷ drop (suc (suc place)) xs = drop-cons xs (suc place) e (omega arith) in
    rw (add-one, first, second) refl

pub ends_last : (place : ℕ) (xs : List Spot) (d e : Spot) → place + 1 ≡ length xs → 2 ≤ length xs → take 2 (round_from place xs) ≡ get_or xs place d ∷ get_or xs 0 e ∷ []
ends_last place [] d e h many = absurd (omega arith)
ends_last zero (x ∷ xs) d e h many = absurd (omega arith)
ends_last (suc place) (x ∷ xs) d e h many =
    let first : drop place xs ≡ get_or xs place d ∷ drop (suc place) xs = drop-cons xs place d (omega arith) in
    let nothing : drop (suc place) xs ≡ [] = drop_all (suc place) xs (omega arith) in
    rw (first, nothing) refl

-- the ends of a side decide on which side of it a spot lies
pub left_by_ends : (xs : List Spot) (a b p : Spot) → take 2 xs ≡ a ∷ b ∷ [] → has_on_left p xs ≡ is_left_of a b p
left_by_ends [] a b p e = cc
left_by_ends (c ∷ []) a b p e = cc
left_by_ends (c ∷ d ∷ others) a b p e = cc

pub right_by_ends : (xs : List Spot) (a b p : Spot) → take 2 xs ≡ a ∷ b ∷ [] → has_on_right p xs ≡ is_right_of a b p
right_by_ends [] a b p e = cc
right_by_ends (c ∷ []) a b p e = cc
right_by_ends (c ∷ d ∷ others) a b p e = cc
