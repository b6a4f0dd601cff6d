-- The pieces of a utility of any form, sampled, are worth what the sampled utility says; so are those by the approach of a contact.
use Rattle.std.proofs.Common.{◌≡◌, ℕ, zero, suc, Bool, true, false, ◌&&◌, ◌-◌, ◌/◌, ◌<◌, ◌≤◌, ◌==◌, ℤ, pos, ◌-ℤ◌, nat_abs, cond, Some, List, length, refl, sym, ap, subst, ◌∙◌, arith}
use Rattle.std.specs.Option.{option_map}
use Rattle.std.specs.Prelude.{codes, int_div, slice_get, slice_index, slice_index_or}
use Rattle.std.proofs.lemmas.Bool.{le-leb, lt-ltb}
use Rattle.std.proofs.lemmas.Bool.Decides.{nat_tests}
use Rattle.std.proofs.lemmas.Int.{ints}
use Rattle.std.proofs.lemmas.List.{length-map}
use Rattle.std.proofs.lemmas.Option.{slice_get-map, slice_get_within}
use Rattle.ivp_domain.specs.declared.axis.Axis.{Axis}
use Rattle.ivp_domain.specs.declared.boxes.BoxN.{BoxN}
use Rattle.ivp_domain.specs.declared.boxes.Point.{Point}
use Rattle.ivp_domain.specs.Boxes.{has_point, points_in}
use Rattle.ivp_domain.specs.Domains.{is_domain, is_point, size_on}
use Rattle.ivp_domain.proofs.BoxLemmas.{listed_point}
use Rattle.ivp_domain.proofs.Sizes.{positive}
use Rattle.ivp_func.specs.declared.piece.Piece.{Piece}
use Rattle.ivp_func.specs.Pieces.{is_box_of, is_slope, is_value, value_at}
use Rattle.ivp_func.proofs.Facts.{box_parts, place_in}
use Rattle.ivp_build.specs.Sampled.{IsSampled, all_runs, box_of_runs, boxes_of, first_of_run, high_end, last_of_run, low_corner, sampled_piece, sampled_slope, sampled_slopes, uniform_at, uniform_pieces}
use Rattle.ivp_build.specs.Worths.{AreWorth}
use Rattle.ivp_build.proofs.Covers.{ArePieces, box_small, boxes_partition, boxes_values, some_at, uniform_value}
use Rattle.ivp_build.proofs.Samples.{sampled_fits}
use Rattle.ivp_build.proofs.Sampling.{by_place_small, run_begins, value_bounds}
use Rattle.helm_geo.specs.declared.spot.Spot.{Spot}
use Rattle.bhv_file.specs.declared.spec.Avoidance.{Avoidance}
use Rattle.contact_avoid.specs.declared.motion.Track.{Track}
use Rattle.contact_avoid.specs.Avoids.{clearance_at, clearance_pieces, number_named, sampled_clearance}
use Rattle.contact_avoid.proofs.Clearing.{utility_few}

-- the ends of a run stand on its axis, in order
ends : (size count run : ℕ) → 0 < size → 0 < count → run ≤ (count - 1) / size → (first_of_run size run ≤ last_of_run size count run) × (last_of_run size count run < count)
ends size count run some many within =
    let begins = run_begins (count - 1) size run within in
    (omega (arith, begins), omega (arith, begins))

-- so a box of runs is one of the domain
all_hold : (a b c d e f g h : Bool) → a ≡ true → b ≡ true → c ≡ true → d ≡ true → e ≡ true → f ≡ true → g ≡ true → h ≡ true → ((a && b && c && d) && e && f && g && h) ≡ true
all_hold a b c d e f g h p q r s t u v w = rw (p, q, r, s, t, u, v, w) refl

runs_fit : (axes : List Axis) (size : ℕ) (runs : Point) → 0 < size → is_domain axes ≡ true → has_point (all_runs axes size) runs ≡ true → is_box_of axes (box_of_runs axes size runs) ≡ true
runs_fit axes size runs some lawful inside =
    let one = on 0 (place_in (all_runs axes size) runs inside 0 (omega arith)).1 in
    let two = on 1 (place_in (all_runs axes size) runs inside 1 (omega arith)).1 in
    let three = on 2 (place_in (all_runs axes size) runs inside 2 (omega arith)).1 in
    let four = on 3 (place_in (all_runs axes size) runs inside 3 (omega arith)).1 in
    all_hold _ _ _ _ _ _ _ _ (le-leb _ _ one.0) (le-leb _ _ two.0) (le-leb _ _ three.0) (le-leb _ _ four.0) (lt-ltb _ _ one.1) (lt-ltb _ _ two.1) (lt-ltb _ _ three.1) (lt-ltb _ _ four.1)
  where
    on : (k : ℕ) → slice_index runs.at k ≤ (size_on k axes - 1) / size
        → (first_of_run size (slice_index runs.at k) ≤ last_of_run size (size_on k axes) (slice_index runs.at k)) × (last_of_run size (size_on k axes) (slice_index runs.at k) < size_on k axes)
    on k within = ends size (size_on k axes) (slice_index runs.at k) some (positive axes lawful k) within

box_fits : (axes : List Axis) (size number : ℕ) (area : BoxN) → 0 < size → is_domain axes ≡ true → slice_get (boxes_of axes size) number ≡ Some area → is_box_of axes area ≡ true
box_fits axes size number area some lawful there =
    let runs = points_in (all_runs axes size) in
    let within : number < length runs = omega (arith, slice_get_within (boxes_of axes size) number area there, length-map runs (box_of_runs axes size)) in
    let own = some_at runs number within in
    let mapped : slice_get (boxes_of axes size) number ≡ Some (box_of_runs axes size own.0) = slice_get-map (box_of_runs axes size) runs number ∙ ap (option_map (box_of_runs axes size)) own.1 in
    let same : Some area ≡ Some (box_of_runs axes size own.0) = sym there ∙ mapped in
    let is : box_of_runs axes size own.0 ≡ area = cc in
    subst (λ (box : BoxN). is_box_of axes box ≡ true) is (runs_fit axes size own.0 some lawful (listed_point (all_runs axes size) number own.0 own.1))

-- a utility from 0 to 100
abbrev IsUtility : (Point → ℕ) → Type 0
IsUtility utility = (point : Point) → utility point ≤ 100000

-- as a function to whole numbers
abbrev whole_of : (Point → ℕ) → Point → ℤ
whole_of utility point = pos (utility point)

value_good : (n : ℕ) → n ≤ 100000 → is_value (pos n) ≡ true
value_good n few = grind (arith, nat_tests, ints)

-- its slopes on a box are small, and none where the box has one place
slope_small : (utility : Point → ℕ) (area : BoxN) (axis : ℕ) → IsUtility utility → is_slope (sampled_slope (whole_of utility) area axis) ≡ true
slope_small utility area axis is = by (slice_index area.high axis - slice_index area.low axis == 0)
  where
    by : (b : Bool) → is_slope (cond b (pos 0) (int_div (pos (utility (high_end area axis)) -ℤ pos (utility (low_corner area))) (pos (slice_index area.high axis - slice_index area.low axis)))) ≡ true
    by true = refl
    by false = by_place_small (pos (utility (high_end area axis))) (pos (utility (low_corner area))) (slice_index area.high axis - slice_index area.low axis) (value_good (utility (high_end area axis)) (is (high_end area axis))) (value_good (utility (low_corner area)) (is (low_corner area)))

slope_flat : (utility : Point → ℤ) (area : BoxN) (axis : ℕ) → slice_index area.high axis ≤ slice_index area.low axis → sampled_slope utility area axis ≡ pos 0
slope_flat utility area axis one =
    let none : slice_index area.high axis - slice_index area.low axis ≡ 0 = omega arith in
    rw none refl

slopes_small : (utility : Point → ℕ) (area : BoxN) → IsUtility utility → (k : ℕ) → k < 4 → is_slope (slice_index_or (sampled_slopes (whole_of utility) area) k (pos 0)) ≡ true
slopes_small utility area is zero h = slope_small utility area 0 is
slopes_small utility area is (suc zero) h = slope_small utility area 1 is
slopes_small utility area is (suc (suc zero)) h = slope_small utility area 2 is
slopes_small utility area is (suc (suc (suc zero))) h = slope_small utility area 3 is
slopes_small utility area is (suc (suc (suc (suc k)))) h = absurd (omega arith)

slopes_flat : (utility : Point → ℤ) (area : BoxN) (k : ℕ) → k < 4 → slice_index area.high k ≤ slice_index area.low k → slice_index_or (sampled_slopes utility area) k (pos 0) ≡ pos 0
slopes_flat utility area zero h one = slope_flat utility area 0 one
slopes_flat utility area (suc zero) h one = slope_flat utility area 1 one
slopes_flat utility area (suc (suc zero)) h one = slope_flat utility area 2 one
slopes_flat utility area (suc (suc (suc zero))) h one = slope_flat utility area 3 one
slopes_flat utility area (suc (suc (suc (suc k)))) h one = absurd (omega arith)

-- so its pieces are good ones
piece_sampled : (axes : List Axis) (utility : Point → ℕ) (area : BoxN) → is_domain axes ≡ true → IsUtility utility → is_box_of axes area ≡ true → IsSampled axes area (sampled_piece (whole_of utility) area)
piece_sampled axes utility area lawful is box =
    sampled_fits axes area (pos (utility (low_corner area))) (sampled_slopes (whole_of utility) area) lawful box
    (record {
      proper = (box_parts axes area box).0;
      few = box_small axes area lawful box;
      value_fits = value_good (utility (low_corner area)) (is (low_corner area));
      slopes_fit = slopes_small utility area is;
    })
    (slopes_flat (whole_of utility) area)

pieces_are : (axes : List Axis) (size : ℕ) (utility : Point → ℕ) → 0 < size → is_domain axes ≡ true → IsUtility utility → ArePieces axes size (uniform_pieces axes size (whole_of utility))
pieces_are axes size utility some lawful is = record {
  some = some;
  domain = lawful;
  sampled = record { all = length-map (boxes_of axes size) (sampled_piece (whole_of utility)); each = each };
}
  where
    each : (number : ℕ) (area : BoxN) (piece : Piece) → slice_get (boxes_of axes size) number ≡ Some area → slice_get (uniform_pieces axes size (whole_of utility)) number ≡ Some piece → IsSampled axes area piece
    each number area piece at_box at_piece =
        let mapped : slice_get (uniform_pieces axes size (whole_of utility)) number ≡ Some (sampled_piece (whole_of utility) area) = slice_get-map (sampled_piece (whole_of utility)) (boxes_of axes size) number ∙ ap (option_map (sampled_piece (whole_of utility))) at_box in
        let same : Some (sampled_piece (whole_of utility) area) ≡ Some piece = sym mapped ∙ at_piece in
        let here : sampled_piece (whole_of utility) area ≡ piece = cc in
        subst (IsSampled axes area) here (piece_sampled axes utility area lawful is (box_fits axes size number area some lawful at_box))

-- a value that isn't below 0
same_value : (z : ℤ) → is_value z ≡ true → z ≡ pos (nat_abs z)
same_value z good =
    let above = (value_bounds z good).0 in
    omega (arith, ints, above)

-- and they are worth what the sampled utility says
uniform_worth : (axes : List Axis) (size : ℕ) (utility : Point → ℕ) → 0 < size → is_domain axes ≡ true → IsUtility utility
    → AreWorth axes (uniform_pieces axes size (whole_of utility)) (λ point. nat_abs (uniform_at axes size (whole_of utility) point))
uniform_worth axes size utility some lawful is =
    let are = pieces_are axes size utility some lawful is in
    record { partition = boxes_partition axes size (uniform_pieces axes size (whole_of utility)) are; value = value are }
  where
    value : ArePieces axes size (uniform_pieces axes size (whole_of utility)) → (point : Point) → is_point axes point ≡ true
        → value_at (uniform_pieces axes size (whole_of utility)) point ≡ pos (nat_abs (uniform_at axes size (whole_of utility) point))
    value are point inside =
        let same = uniform_value axes size (whole_of utility) are point inside in
        let good : is_value (uniform_at axes size (whole_of utility) point) ≡ true = ap is_value (sym same) ∙ boxes_values axes size (uniform_pieces axes size (whole_of utility)) are point inside in
        same ∙ same_value (uniform_at axes size (whole_of utility) point) good

-- the pieces by the approach of a contact
pub clearance_worth : (axes : List Axis) (avoidance : Avoidance) (own : Spot) (track : Track) → is_domain axes ≡ true → 0 < avoidance.piece_size
    → AreWorth axes (clearance_pieces axes avoidance own track) (sampled_clearance axes avoidance own track)
clearance_worth axes avoidance own track lawful some =
    uniform_worth axes avoidance.piece_size (clearance_at axes avoidance own track) some lawful
    (λ point. utility_few (nat_abs avoidance.near) (nat_abs avoidance.far) own track (number_named axes (codes "speed") point) (number_named axes (codes "course") point))
