-- Pieces over a run of one axis and the whole of the others: what they hold, that they fit, and their values.
use Rattle.std.proofs.Common.{◌≡◌, ℕ, Bool, zero, suc, true, false, ◌&&◌, ◌+◌, ◌-◌, ◌*◌, ◌^◌, ◌<◌, ◌≤◌, ℤ, pos, neg_ℤ, ◌+ℤ◌, ◌-ℤ◌, ◌*ℤ◌, ◌≤ℤ◌, List, [], ◌∷◌, length, refl, sym, ◌∙◌, arith}
use Rattle.std.proofs.Math.Bool.{or-true}
use Rattle.std.proofs.lemmas.Bool.{and_parts, le-leb, leb-true, lt-ltb}
use Rattle.std.proofs.lemmas.Bool.Decides.{nat_tests}
use Rattle.std.proofs.lemmas.Int.{ints}
use Rattle.std.specs.List.{list_all}
use Rattle.std.specs.Prelude.{nat_le, nat_lt, slice_index, is_none, if◌then◌else◌, ◌==◌, ◌/◌}
use Rattle.ivp_domain.specs.declared.axis.Axis.{Axis}
use Rattle.ivp_domain.specs.declared.boxes.Point.{Point}
use Rattle.ivp_domain.specs.Axes.{is_good_axis}
use Rattle.ivp_domain.specs.Boxes.{has_place, has_point}
use Rattle.ivp_domain.specs.Domains.{is_domain, is_point, repeated_place, size_of, size_on, whole}
use Rattle.ivp_func.specs.Pieces.{are_pieces_of, is_base, is_piece_of, is_slope, is_value, piece_value}
use Rattle.ivp_build.specs.declared.profile.Profile.{Profile}
use Rattle.ivp_build.specs.declared.slopes.Slopes.{Slopes}
use Rattle.ivp_build.specs.Builders.{flat_pieces, piece_over}
use Rattle.ivp_build.specs.Cuts.{Run, band}
use Rattle.ivp_build.specs.Shapes.{AreSlopes, change_at, distance_from, fall_in, height_at, is_right, shoulder, utility_along, zone_at}
use Rattle.ivp_build.proofs.Lines.{IsLine}
use Rattle.ivp_build.proofs.Rises.{rise_small}
use Rattle.ivp_build.proofs.Tiles.{is_in}

-- one test of four is left where the others hold
left_first : (a b c d : Bool) → b ≡ true → c ≡ true → d ≡ true → (a && b && c && d) ≡ a
left_first true b c d e f g = rw (e, f, g) refl
left_first false b c d e f g = refl

left_second : (a b c d : Bool) → a ≡ true → c ≡ true → d ≡ true → (a && b && c && d) ≡ b
left_second a true c d e f g = rw (e, f, g) refl
left_second a false c d e f g = rw e refl

left_third : (a b c d : Bool) → a ≡ true → b ≡ true → d ≡ true → (a && b && c && d) ≡ c
left_third a b true d e f g = rw (e, f, g) refl
left_third a b false d e f g = rw (e, f) refl

left_fourth : (a b c d : Bool) → a ≡ true → b ≡ true → c ≡ true → (a && b && c && d) ≡ d
left_fourth a b c d e f g = rw (e, f, g) refl

four_parts : (a b c d : Bool) → (a && b && c && d) ≡ true → (a ≡ true) × (b ≡ true) × (c ≡ true) × (d ≡ true)
four_parts a b c d e =
    let three = and_parts (a && b && c) d e in
    let two = and_parts (a && b) c three.0 in
    let one = and_parts a b two.0 in
    (one.0, one.1, two.1, three.1)

-- the band has a point of the domain where the run has its place
pub band_has : (axes : List Axis) (number : ℕ) (run : Run) (p : Point) → number < 4 → is_point axes p ≡ true → has_point (band axes number run) p ≡ is_in (slice_index p.at number) run
band_has axes number run p h inside =
    let parts = four_parts (has_place 0 (whole axes) p) (has_place 1 (whole axes) p) (has_place 2 (whole axes) p) (has_place 3 (whole axes) p) inside in
    by number h parts.0 parts.1 parts.2 parts.3
  where
    by : (number : ℕ) → number < 4 → has_place 0 (whole axes) p ≡ true → has_place 1 (whole axes) p ≡ true → has_place 2 (whole axes) p ≡ true → has_place 3 (whole axes) p ≡ true
        → has_point (band axes number run) p ≡ is_in (slice_index p.at number) run
    by zero h e f g i = left_first (is_in (slice_index p.at 0) run) (has_place 1 (whole axes) p) (has_place 2 (whole axes) p) (has_place 3 (whole axes) p) f g i
    by (suc zero) h e f g i = left_second (has_place 0 (whole axes) p) (is_in (slice_index p.at 1) run) (has_place 2 (whole axes) p) (has_place 3 (whole axes) p) e g i
    by (suc (suc zero)) h e f g i = left_third (has_place 0 (whole axes) p) (has_place 1 (whole axes) p) (is_in (slice_index p.at 2) run) (has_place 3 (whole axes) p) e f i
    by (suc (suc (suc zero))) h e f g i = left_fourth (has_place 0 (whole axes) p) (has_place 1 (whole axes) p) (has_place 2 (whole axes) p) (is_in (slice_index p.at 3) run) e f g
    by (suc (suc (suc (suc n)))) h e f g i = absurd (omega arith)

-- a point of the domain has a place of each axis
pub place_within : (axes : List Axis) (number : ℕ) (p : Point) → number < 4 → is_point axes p ≡ true → 0 < size_on number axes → slice_index p.at number < size_on number axes
place_within axes number p h inside some =
    let parts = four_parts (has_place 0 (whole axes) p) (has_place 1 (whole axes) p) (has_place 2 (whole axes) p) (has_place 3 (whole axes) p) inside in
    by number h some parts.0 parts.1 parts.2 parts.3
  where
    below : (k : ℕ) → (nat_le 0 (slice_index p.at k) && nat_le (slice_index p.at k) (size_on k axes - 1)) ≡ true → 0 < size_on k axes → slice_index p.at k < size_on k axes
    below k e some =
        let most = leb-true (slice_index p.at k) (size_on k axes - 1) (and_parts (nat_le 0 (slice_index p.at k)) (nat_le (slice_index p.at k) (size_on k axes - 1)) e).1 in
        omega arith

    by : (number : ℕ) → number < 4 → 0 < size_on number axes → has_place 0 (whole axes) p ≡ true → has_place 1 (whole axes) p ≡ true → has_place 2 (whole axes) p ≡ true → has_place 3 (whole axes) p ≡ true
        → slice_index p.at number < size_on number axes
    by zero h some e f g i = below 0 e some
    by (suc zero) h some e f g i = below 1 f some
    by (suc (suc zero)) h some e f g i = below 2 g some
    by (suc (suc (suc zero))) h some e f g i = below 3 i some
    by (suc (suc (suc (suc n)))) h some e f g i = absurd (omega arith)

-- each axis has a place
pub some_places : (axes : List Axis) (k : ℕ) → list_all is_good_axis axes ≡ true → 0 < size_on k axes
some_places [] k e = omega arith
some_places (axis ∷ axes) zero e =
    let good = and_parts (is_good_axis axis) (list_all is_good_axis axes) e in
    let two : 2 ≤ axis.points = grind (arith, nat_tests, good.0) in
    omega arith
some_places (axis ∷ axes) (suc k) e = some_places axes k (and_parts (is_good_axis axis) (list_all is_good_axis axes) e).1

-- what a domain keeps of its axes
pub domain_parts : (axes : List Axis) → is_domain axes ≡ true → (length axes ≤ 4) × (list_all is_good_axis axes ≡ true)
domain_parts axes lawful =
    let some = nat_lt 0 (length axes) in
    let four = nat_le (length axes) 4 in
    let good = list_all is_good_axis axes in
    let small = nat_le (size_of axes) (2 ^ 28) in
    let last = and_parts (some && four && good && small) (is_none (repeated_place axes)) lawful in
    let third = and_parts (some && four && good) small last.0 in
    let second = and_parts (some && four) good third.0 in
    (leb-true (length axes) 4 (and_parts some four second.0).1, second.1)

-- how small the numbers of a profile are
fall_small : (s : Slopes) (z : ℕ) → AreSlopes s → fall_in s z ≤ 100000
fall_small s z h = by (z == 0) (z == 1)
  where
    by : (a b : Bool) → (if a then s.fall else if b then shoulder s / s.foot else 0) ≤ 100000
    by true b = let one = h.one in let most = h.most in omega arith
    by false true = let some = h.some in let most = h.most in let part : shoulder s / s.foot ≤ shoulder s = grind arith in omega arith
    by false false = omega arith

height_small : (s : Slopes) (d : ℕ) → AreSlopes s → height_at s d ≤ 100000
height_small s d h = by (nat_le d s.top) (nat_le d (s.top + s.foot))
  where
    by : (a b : Bool) → (if a then s.max - s.fall * d else if b then shoulder s - shoulder s / s.foot * (d - s.top) else 0) ≤ 100000
    by true b = let most = h.most in omega arith
    by false true = let most = h.most in omega arith
    by false false = omega arith

pub utility_small : (p : Profile) (x : ℕ) → AreSlopes p.slopes → utility_along p x ≤ 100000
utility_small p x h = height_small p.slopes (distance_from p.crest x) h

change_by : (b : Bool) (f : ℕ) → f ≤ 100000 → (neg_ℤ (pos 100000) ≤ℤ (if b then neg_ℤ (pos f) else pos f)) × ((if b then neg_ℤ (pos f) else pos f) ≤ℤ pos 100000)
change_by true f h = (omega (arith, ints), omega (arith, ints))
change_by false f h = (omega (arith, ints), omega (arith, ints))

change_small : (p : Profile) (x : ℕ) → AreSlopes p.slopes → (neg_ℤ (pos 100000) ≤ℤ change_at p x) × (change_at p x ≤ℤ pos 100000)
change_small p x h = change_by (is_right p.crest x) (fall_in p.slopes (zone_at p x)) (fall_small p.slopes (zone_at p x) h)

slope_good : (z : ℤ) → neg_ℤ (pos 100000) ≤ℤ z → z ≤ℤ pos 100000 → is_slope z ≡ true
slope_good z a b = grind (arith, nat_tests, ints)

base_good : (z : ℤ) → neg_ℤ (pos (10 ^ 14)) ≤ℤ z → z ≤ℤ pos (10 ^ 14) → is_base z ≡ true
base_good z a b = grind (arith, nat_tests, ints)

-- a piece over a run fits the domain
pub piece_fits : (axes : List Axis) (number : ℕ) (p : Profile) (run : Run) → number < 4 → number < length axes → list_all is_good_axis axes ≡ true → AreSlopes p.slopes → size_on number axes ≤ 2 ^ 28
    → run.low ≤ run.high → run.high < size_on number axes → is_piece_of axes (piece_over axes number p run) ≡ true
piece_fits axes number p run h listed good s few ordered inside =
    let c = change_at p run.low in
    let bounds = change_small p run.low s in
    let rise = rise_small c run.low bounds.0 bounds.1 (omega arith) in
    let most = utility_small p run.low s in
    let base : is_base (pos (utility_along p run.low) -ℤ c *ℤ pos run.low) ≡ true = base_good (pos (utility_along p run.low) -ℤ c *ℤ pos run.low) (omega (arith, ints)) (omega (arith, ints)) in
    by number h listed inside base (slope_good c bounds.0 bounds.1)
  where
    at : (k : ℕ) → nat_lt (size_on k axes - 1) (size_on k axes) ≡ true
    at k = let some = some_places axes k good in lt-ltb (size_on k axes - 1) (size_on k axes) (omega arith)

    le : (k : ℕ) → nat_le 0 (size_on k axes - 1) ≡ true
    le k = le-leb 0 (size_on k axes - 1) (omega arith)

    by : (number : ℕ) → number < 4 → number < length axes → run.high < size_on number axes → is_base (pos (utility_along p run.low) -ℤ change_at p run.low *ℤ pos run.low) ≡ true
        → is_slope (change_at p run.low) ≡ true → is_piece_of axes (piece_over axes number p run) ≡ true
    by zero h listed inside base slope =
        rw (le-leb run.low run.high ordered, le 1, le 2, le 3, lt-ltb run.high (size_on 0 axes) inside, at 1, at 2, at 3, base, slope, or-true, or-true, or-true) refl
    by (suc zero) h listed inside base slope =
        rw (le-leb run.low run.high ordered, le 0, le 2, le 3, lt-ltb run.high (size_on 1 axes) inside, at 0, at 2, at 3, base, slope, lt-ltb 1 (length axes) listed, or-true, or-true) refl
    by (suc (suc zero)) h listed inside base slope =
        rw (le-leb run.low run.high ordered, le 0, le 1, le 3, lt-ltb run.high (size_on 2 axes) inside, at 0, at 1, at 3, base, slope, lt-ltb 2 (length axes) listed, or-true, or-true) refl
    by (suc (suc (suc zero))) h listed inside base slope =
        rw (le-leb run.low run.high ordered, le 0, le 1, le 2, lt-ltb run.high (size_on 3 axes) inside, at 0, at 1, at 2, base, slope, lt-ltb 3 (length axes) listed, or-true, or-true) refl
    by (suc (suc (suc (suc n)))) h listed inside base slope = absurd (omega arith)

-- so does one piece of one value
pub flat_fits : (axes : List Axis) (value : ℤ) → is_domain axes ≡ true → is_value value ≡ true → are_pieces_of axes (flat_pieces axes value) ≡ true
flat_fits axes value lawful h =
    rw (le 0, le 1, le 2, le 3, at 0, at 1, at 2, at 3, base_good value (omega (arith, ints, bounds.0)) (omega (arith, ints, bounds.1)), or-true, or-true, or-true) refl
  where
    bounds : (pos 0 ≤ℤ value) × (value ≤ℤ pos 100000)
    bounds = (grind (arith, nat_tests, ints), grind (arith, nat_tests, ints))

    at : (k : ℕ) → nat_lt (size_on k axes - 1) (size_on k axes) ≡ true
    at k = let some = some_places axes k (domain_parts axes lawful).1 in lt-ltb (size_on k axes - 1) (size_on k axes) (omega arith)

    le : (k : ℕ) → nat_le 0 (size_on k axes - 1) ≡ true
    le k = le-leb 0 (size_on k axes - 1) (omega arith)

-- one rise of four is left where there is no other slope
rise_first : (b r : ℤ) (y z w : ℕ) → b +ℤ r +ℤ pos 0 *ℤ pos y +ℤ pos 0 *ℤ pos z +ℤ pos 0 *ℤ pos w ≡ b +ℤ r
rise_first b r y z w = omega (arith, ints)

rise_second : (b r : ℤ) (y z w : ℕ) → b +ℤ pos 0 *ℤ pos y +ℤ r +ℤ pos 0 *ℤ pos z +ℤ pos 0 *ℤ pos w ≡ b +ℤ r
rise_second b r y z w = omega (arith, ints)

rise_third : (b r : ℤ) (y z w : ℕ) → b +ℤ pos 0 *ℤ pos y +ℤ pos 0 *ℤ pos z +ℤ r +ℤ pos 0 *ℤ pos w ≡ b +ℤ r
rise_third b r y z w = omega (arith, ints)

rise_fourth : (b r : ℤ) (y z w : ℕ) → b +ℤ pos 0 *ℤ pos y +ℤ pos 0 *ℤ pos z +ℤ pos 0 *ℤ pos w +ℤ r ≡ b +ℤ r
rise_fourth b r y z w = omega (arith, ints)

-- the base of the piece over a run
abbrev base_of : Profile → Run → ℤ
base_of p run = pos (utility_along p run.low) -ℤ change_at p run.low *ℤ pos run.low

-- and has the utility at the place
pub piece_line : (axes : List Axis) (number : ℕ) (p : Profile) (run : Run) (point : Point) → number < 4 → IsLine (λ x. pos (utility_along p x)) (change_at p) run
    → run.low ≤ slice_index point.at number → slice_index point.at number ≤ run.high → piece_value (piece_over axes number p run) point ≡ pos (utility_along p (slice_index point.at number))
piece_line axes number p run point h line above below = by number h (line (slice_index point.at number) above below)
  where
    by : (number : ℕ) → number < 4
        → pos (utility_along p (slice_index point.at number)) ≡ (pos (utility_along p run.low) -ℤ change_at p run.low *ℤ pos run.low) +ℤ change_at p run.low *ℤ pos (slice_index point.at number)
        → piece_value (piece_over axes number p run) point ≡ pos (utility_along p (slice_index point.at number))
    by zero h e = rise_first (base_of p run) (change_at p run.low *ℤ pos (slice_index point.at 0)) (slice_index point.at 1) (slice_index point.at 2) (slice_index point.at 3) ∙ sym e
    by (suc zero) h e = rise_second (base_of p run) (change_at p run.low *ℤ pos (slice_index point.at 1)) (slice_index point.at 0) (slice_index point.at 2) (slice_index point.at 3) ∙ sym e
    by (suc (suc zero)) h e = rise_third (base_of p run) (change_at p run.low *ℤ pos (slice_index point.at 2)) (slice_index point.at 0) (slice_index point.at 1) (slice_index point.at 3) ∙ sym e
    by (suc (suc (suc zero))) h e = rise_fourth (base_of p run) (change_at p run.low *ℤ pos (slice_index point.at 3)) (slice_index point.at 0) (slice_index point.at 1) (slice_index point.at 2) ∙ sym e
    by (suc (suc (suc (suc n)))) h e = absurd (omega arith)
