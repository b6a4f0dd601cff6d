-- Pieces whose numbers are within their bounds.
use Rattle.std.proofs.Common.{◌≡◌, ℕ, Bool, true, false, ◌&&◌, nat_lt, List, length, refl}
use Rattle.std.specs.Prelude.{IsTrue}
use Rattle.std.proofs.lemmas.Bool.{and_from, and_parts}
use Rattle.ivp_domain.specs.declared.axis.Axis.{Axis}
use Rattle.ivp_func.specs.declared.piece.Piece.{Piece}
use Rattle.ivp_func.specs.Pieces.{is_base, is_box_of, is_flat_past, is_piece_of, is_slope, is_small, slope_on}
use Rattle.ivp_cert.specs.Pieces.{are_slopes, is_slope_where}

kept : (box small one two three : Bool) → small ≡ true → one ≡ true → two ≡ true → three ≡ true → (box && small && one && two && three) ≡ box
kept box small one two three a b d e = rw (a, b, d, e) (at box)
  where
    at : (box : Bool) → (box && true && true && true && true) ≡ box
    at true = refl
    at false = refl

-- such a piece may stand in a function over the axes where its box lies there
pub fits_by_box : (axes : List Axis) (count : ℕ) (piece : Piece) → count ≡ length axes → IsTrue (is_base piece.base && are_slopes count piece.slope) → is_piece_of axes piece ≡ is_box_of axes piece.area
fits_by_box axes count piece long good =
    let where_on = λ (axis : ℕ). is_slope_where (nat_lt axis (length axes)) (slope_on axis piece) in
    let good' : (is_base piece.base && are_slopes (length axes) piece.slope) ≡ true = rw long at good in
    let base = and_parts (is_base piece.base) (are_slopes (length axes) piece.slope) good' in
    let three = and_parts (where_on 0 && where_on 1 && where_on 2) (where_on 3) base.1 in
    let two = and_parts (where_on 0 && where_on 1) (where_on 2) three.0 in
    let one = and_parts (where_on 0) (where_on 1) two.0 in
    let both = λ (axis : ℕ) (holds : where_on axis ≡ true). and_parts (is_slope (slope_on axis piece)) (is_flat_past axes axis piece) holds in
    let s0 = (both 0 one.0).0 in
    let s1 = (both 1 one.1).0 in
    let s2 = (both 2 two.1).0 in
    let s3 = (both 3 three.1).0 in
    let small : is_small piece ≡ true =
    and_from (is_base piece.base && is_slope (slope_on 0 piece) && is_slope (slope_on 1 piece) && is_slope (slope_on 2 piece)) (is_slope (slope_on 3 piece))
    (and_from (is_base piece.base && is_slope (slope_on 0 piece) && is_slope (slope_on 1 piece)) (is_slope (slope_on 2 piece))
    (and_from (is_base piece.base && is_slope (slope_on 0 piece)) (is_slope (slope_on 1 piece))
    (and_from (is_base piece.base) (is_slope (slope_on 0 piece)) base.0 s0) s1) s2) s3 in
    kept (is_box_of axes piece.area) (is_small piece) (is_flat_past axes 1 piece) (is_flat_past axes 2 piece) (is_flat_past axes 3 piece) small (both 1 one.1).1 (both 2 two.1).1 (both 3 three.1).1
