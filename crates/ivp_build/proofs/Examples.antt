-- The definitions on worked examples.
use Rattle.std.proofs.Common.{◌≡◌, ℕ, true, false, ℤ, pos, neg_ℤ, ◌*◌, List, [], ◌∷◌, map, refl}
use Rattle.std.specs.Prelude.{codes, slice_index, Bool, ◌&&◌, ◌-◌, ◌/◌, nat_abs}
use Rattle.std.specs.List.{list_all}
use Rattle.std.specs.Ordering.{int_eq}
use Rattle.ivp_domain.specs.declared.axis.Axis.{Axis}
use Rattle.ivp_domain.specs.declared.boxes.BoxN.{BoxN}
use Rattle.ivp_domain.specs.Boxes.{numbers_from}
use Rattle.ivp_domain.specs.Domains.{points_of}
use Rattle.ivp_func.specs.declared.piece.Piece.{Piece}
use Rattle.ivp_func.specs.Functions.{is_partition, has_values}
use Rattle.ivp_func.specs.Pieces.{value_at, are_pieces_of}
use Rattle.ivp_build.specs.declared.shape.Peak.{Peak}
use Rattle.ivp_build.specs.Places.{wraps, near, last_up_to, first_from}
use Rattle.ivp_build.specs.declared.crest.Crest.TheVariants.{At, Round}
use Rattle.ivp_build.specs.Shapes.{distance_from, peak_at, at_most_at, at_least_at}
use Rattle.ivp_build.specs.Builders.{peak_pieces, at_most_pieces, at_least_pieces}

abbrev axis : List ℕ → ℕ → ℕ → Axis
axis name high points = record { name = name; low = pos 0; high = pos high; points = points }

abbrev course : Axis
course = axis (codes "course") 359000 360

-- a piece on the first axis alone: low, high, base, slope
abbrev piece : ℕ → ℕ → ℤ → ℤ → Piece
piece low high base slope = record { area = record { low = low ∷ 0 ∷ 0 ∷ 0 ∷ []; high = high ∷ 0 ∷ 0 ∷ 0 ∷ [] }; base = base; slope = slope ∷ pos 0 ∷ pos 0 ∷ pos 0 ∷ [] }

abbrev area : ℕ → ℕ → ℕ → ℕ → BoxN
area low high low' high' = record { low = low ∷ low' ∷ 0 ∷ 0 ∷ []; high = high ∷ high' ∷ 0 ∷ 0 ∷ [] }

abbrev peak : ℤ → ℕ → ℕ → ℕ → ℕ → Peak
peak summit peakwidth basewidth summitdelta max = record { summit = summit; peakwidth = pos peakwidth; basewidth = pos basewidth; summitdelta = pos summitdelta; max = pos max }

abbrev at_359 : Peak
at_359 = peak (pos 359000) 2000 3000 20000 100000

-- a peak across north: seven pieces, and the utility at index 4
across_north : peak_pieces (course ∷ []) 0 at_359 ≡
    piece 0 1 (pos 90000) (neg_ℤ (pos 10000)) ∷ piece 2 4 (pos 106666) (neg_ℤ (pos 26666)) ∷ piece 5 179 (pos 0) (pos 0)
    ∷ piece 180 353 (pos 0) (pos 0) ∷ piece 354 356 (neg_ℤ (pos 9439762)) (pos 26666) ∷ piece 357 358 (neg_ℤ (pos 3490000)) (pos 10000)
    ∷ piece 359 359 (pos 3690000) (neg_ℤ (pos 10000)) ∷ []
across_north = refl

at_four : peak_at course at_359 4 ≡ 2
at_four = refl

-- the pieces partition the domain, and have this utility at each point
abbrev fit : List Axis → (ℕ → ℕ) → List Piece → Bool
fit axes utility pieces =
    is_partition axes pieces && has_values axes pieces && are_pieces_of axes pieces
    && list_all (λ point. int_eq (value_at pieces point) (pos (utility (slice_index point.at 0)))) (points_of axes)

-- an even and an odd axis that wrap: 36 places of 10 degrees, and 5 of 72
abbrev even : Axis
even = axis (codes "course") 350000 36

abbrev odd : Axis
odd = axis (codes "course") 288000 5

-- an axis that wraps, and ones that don't: another name, an end at 360
wrapping : (wraps course ≡ true) × (wraps even ≡ true) × (wraps odd ≡ true) × (wraps (axis (codes "depth") 350000 36) ≡ false) × (wraps (axis (codes "course") 360000 361) ≡ false)
wrapping = (refl, refl, refl, refl, refl)

-- the nearest place round the circle, the least of two as near; a summit beyond the ends
nearest : (near even (pos 356000) ≡ 0) × (near even (pos 355000) ≡ 0) × (near even (pos 5000) ≡ 0) × (near even (pos 715000) ≡ 0) × (near even (neg_ℤ (pos 14000)) ≡ 35)
nearest = (refl, refl, refl, refl, refl)

apart : (distance_from (Round 35 36) 0 ≡ 1) × (distance_from (Round 18 36) 0 ≡ 18) × (distance_from (Round 19 36) 0 ≡ 17) × (distance_from (Round 3 5) 0 ≡ 2) × (distance_from (At 3) 0 ≡ 3)
apart = (refl, refl, refl, refl, refl)

-- at the far side of an even circle, half way round, the place is on the right
abbrev even_peak : Peak
even_peak = peak (pos 0) 90000 90000 45000 100000

even_pieces : peak_pieces (even ∷ []) 0 even_peak ≡
    piece 0 9 (pos 100000) (neg_ℤ (pos 5000)) ∷ piece 10 18 (pos 109999) (neg_ℤ (pos 6111)) ∷ piece 19 26 (neg_ℤ (pos 109997)) (pos 6111) ∷ piece 27 35 (neg_ℤ (pos 80000)) (pos 5000) ∷ []
even_pieces = refl

even_fits : fit (even ∷ []) (peak_at even even_peak) (peak_pieces (even ∷ []) 0 even_peak) ≡ true
even_fits = refl

odd_pieces : peak_pieces (odd ∷ []) 0 (peak (pos 144000) 72000 72000 40000 100000) ≡
    piece 0 0 (pos 0) (pos 60000) ∷ piece 1 1 (pos 20000) (pos 40000) ∷ piece 2 3 (pos 180000) (neg_ℤ (pos 40000)) ∷ piece 4 4 (pos 240000) (neg_ℤ (pos 60000)) ∷ []
odd_pieces = refl

-- two places, the summit at the second: the run ends before the summit
abbrev two : Axis
two = axis (codes "course") 180000 2

at_the_second : peak_pieces (two ∷ []) 0 (peak (pos 180000) 180000 180000 25000 100000) ≡ piece 0 0 (pos 75000) (neg_ℤ (pos 25000)) ∷ piece 1 1 (pos 125000) (neg_ℤ (pos 25000)) ∷ []
at_the_second = refl

at_the_first : peak_pieces (two ∷ []) 0 (peak (pos 0) 180000 180000 25000 100000) ≡ piece 0 1 (pos 100000) (neg_ℤ (pos 25000)) ∷ []
at_the_first = refl

-- a peak on an axis that doesn't wrap, with a width below one step
abbrev speed : Axis
speed = axis (codes "speed") 4000 41

on_speed : peak_pieces (speed ∷ []) 0 (peak (pos 2000) 0 1000 25000 100000) ≡
    piece 0 8 (pos 0) (pos 0) ∷ piece 9 18 (neg_ℤ (pos 67500)) (pos 7500) ∷ piece 19 19 (neg_ℤ (pos 400000)) (pos 25000)
    ∷ piece 20 21 (pos 600000) (neg_ℤ (pos 25000)) ∷ piece 22 31 (pos 232500) (neg_ℤ (pos 7500)) ∷ piece 32 40 (pos 0) (pos 0) ∷ []
on_speed = refl

speed_fits : fit (speed ∷ []) (peak_at speed (peak (pos 2000) 0 1000 25000 100000)) (peak_pieces (speed ∷ []) 0 (peak (pos 2000) 0 1000 25000 100000)) ≡ true
speed_fits = refl

-- an upper limit below the axis, on it, between places and above it
abbrev depth : Axis
depth = record { name = codes "depth"; low = pos 10000; high = pos 50000; points = 5 }

below : at_most_pieces (depth ∷ []) 0 (pos 0) 20000 100000 ≡ piece 0 0 (pos 100000) (pos 0) ∷ piece 1 2 (pos 100000) (neg_ℤ (pos 50000)) ∷ piece 3 4 (pos 0) (pos 0) ∷ []
below = refl

within_axis : (last_up_to depth (pos 30000) ≡ 2) × (last_up_to depth (pos 39999) ≡ 2) × (map (at_most_at depth (pos 30000) 20000 100000) (numbers_from 0 5) ≡ 100000 ∷ 100000 ∷ 100000 ∷ 50000 ∷ 0 ∷ [])
within_axis = (refl, refl, refl)

above : at_most_pieces (depth ∷ []) 0 (pos 60000) 20000 100000 ≡ piece 0 4 (pos 100000) (pos 0) ∷ []
above = refl

-- the mirror: a lower limit
at_least : (first_from depth (pos 30001) ≡ 3) × (first_from depth (pos 60000) ≡ 4)
    × (at_least_pieces (depth ∷ []) 0 (pos 30001) 20000 100000 ≡ piece 0 0 (pos 0) (pos 0) ∷ piece 1 2 (neg_ℤ (pos 50000)) (pos 50000) ∷ piece 3 4 (pos 100000) (pos 0) ∷ [])
at_least = (refl, refl, refl)

limits_fit : (fit (depth ∷ []) (at_most_at depth (pos 0) 20000 100000) (at_most_pieces (depth ∷ []) 0 (pos 0) 20000 100000) ≡ true)
    × (fit (depth ∷ []) (at_least_at depth (pos 30001) 20000 100000) (at_least_pieces (depth ∷ []) 0 (pos 30001) 20000 100000) ≡ true)
limits_fit = (refl, refl)

-- on each circle of so many places, about each summit, and on the same axis when it doesn't wrap, the pieces fit the utility
abbrev circle : List ℕ → ℕ → Axis
circle name places = axis name (360000 * (places - 1) / places) places

abbrev peaks_fit : Axis → Bool
peaks_fit axis =
    let step = nat_abs axis.high / (axis.points - 1) in
    list_all (λ place. list_all (λ width. let one = peak (pos (place * step)) (width * step) (2 * step) 30000 100000 in fit (axis ∷ []) (peak_at axis one) (peak_pieces (axis ∷ []) 0 one)) (1 ∷ 2 ∷ [])) (numbers_from 0 axis.points)

circles_fit : list_all (λ places. wraps (circle (codes "course") places) && peaks_fit (circle (codes "course") places) && peaks_fit (circle (codes "depth") places)) (2 ∷ 3 ∷ 4 ∷ 5 ∷ 6 ∷ 8 ∷ 9 ∷ []) ≡ true
circles_fit = refl
