-- Functions along the axis of a name.
use Rattle.std.proofs.Common.{◌≡◌, ℕ, ℤ, pos, true, List, ap, ◌∙◌, subst}
use Rattle.std.specs.Prelude.{nat_abs, slice_index}
use Rattle.ivp_domain.specs.declared.axis.Axis.{Axis}
use Rattle.ivp_domain.specs.declared.boxes.Point.{Point}
use Rattle.ivp_domain.specs.Domains.{is_point}
use Rattle.ivp_func.specs.declared.piece.Piece.{Piece}
use Rattle.ivp_func.specs.Functions.{Function}
use Rattle.ivp_func.specs.Pieces.{value_at}
use Rattle.ivp_build.specs.Places.{axis_on}
use Rattle.ivp_build.specs.Shapes.{peak_at}
use Rattle.ivp_build.specs.declared.shape.Peak.{Peak}
use Rattle.ivp_build.specs.Builders.{at_most_pieces, peak_pieces}
use Rattle.bhv_file.specs.Named.{axis_number}
use Rattle.bhv_kinds.specs.Utilities.{AtMostOn, PeakOn, function_of, worth_at}

-- a function along the axis of a name is along its number
pub peak_function : (axes : List Axis) (name : List ℕ) (number : ℕ) (peak : Peak) (func : Function) → number ≡ axis_number axes name → func ≡ record { axes = axes; pieces = peak_pieces axes number peak } → func ≡ function_of axes (PeakOn name peak)
peak_function axes name number peak func same is = is ∙ ap (λ n. record { axes = axes; pieces = peak_pieces axes n peak }) same

pub limit_function : (axes : List Axis) (name : List ℕ) (number : ℕ) (limit read width wide : ℤ) (max : ℕ) (func : Function) → number ≡ axis_number axes name → read ≡ limit → wide ≡ width → func ≡ record { axes = axes; pieces = at_most_pieces axes number read (nat_abs wide) max } → func ≡ function_of axes (AtMostOn name limit (nat_abs width) max)
limit_function axes name number limit read width wide max func same limits widths is =
    subst (λ (l : ℤ). func ≡ function_of axes (AtMostOn name l (nat_abs width) max)) limits
    (subst (λ (w : ℤ). func ≡ function_of axes (AtMostOn name read (nat_abs w) max)) widths (is ∙ ap (λ n. record { axes = axes; pieces = at_most_pieces axes n read (nat_abs wide) max }) same))

-- and so are its values
pub peak_value : (axes : List Axis) (name : List ℕ) (number : ℕ) (peak : Peak) (pieces : List Piece) → number ≡ axis_number axes name → ((p : Point) → is_point axes p ≡ true → value_at pieces p ≡ pos (peak_at (axis_on axes number) peak (slice_index p.at number)))
    → (p : Point) → is_point axes p ≡ true → value_at pieces p ≡ pos (worth_at axes (PeakOn name peak) p)
peak_value axes name number peak pieces same value = subst (λ (n : ℕ). (p : Point) → is_point axes p ≡ true → value_at pieces p ≡ pos (peak_at (axis_on axes n) peak (slice_index p.at n))) same value
