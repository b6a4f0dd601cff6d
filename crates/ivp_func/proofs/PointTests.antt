-- The tests over all points of a domain, and what they say of each point.
use Rattle.std.proofs.Common.{◌≡◌, true, Bool, ◌==◌, Some, List, refl, ap, sym, ◌∙◌, arith}
use Rattle.std.specs.Prelude.{find, Option, None, slice_index}
use Rattle.std.specs.List.{list_all}
use Rattle.ivp_domain.specs.declared.axis.Axis.{Axis}
use Rattle.ivp_domain.specs.declared.boxes.Point.{Point}
use Rattle.ivp_domain.specs.Boxes.{point_from}
use Rattle.ivp_domain.specs.Domains.{is_point, points_of, whole}
use Rattle.ivp_domain.proofs.BoxLemmas.{listed_point, point_listed}
use Rattle.ivp_func.specs.declared.piece.Piece.{Piece}
use Rattle.ivp_func.specs.Functions.{has_values, HasValues, is_partition, IsPartition}
use Rattle.ivp_func.specs.Pieces.{count_at, piece_has, is_value, value_at, value_in}
use Rattle.ivp_func.proofs.Facts.{passes_at, passes_each}

-- the point with the same places that is listed
abbrev same_places : Point → Point
same_places p = point_from (slice_index p.at 0) (slice_index p.at 1) (slice_index p.at 2) (slice_index p.at 3)

-- a test of places that all listed points pass holds at each point of the domain
at_each : (test : Point → Bool) (axes : List Axis) → ((p : Point) → test (same_places p) ≡ test p) → list_all test (points_of axes) ≡ true → (p : Point) → is_point axes p ≡ true → test p ≡ true
at_each test axes places all p inside =
    let found = point_listed (whole axes) (same_places p) refl inside in
    sym (places p) ∙ passes_at test (points_of axes) found.0 (same_places p) all found.1

for_all : (test : Point → Bool) (axes : List Axis) → ((p : Point) → is_point axes p ≡ true → test p ≡ true) → list_all test (points_of axes) ≡ true
for_all test axes each = passes_each test (points_of axes) (λ n p here. each p (listed_point (whole axes) n p here))

-- exactly one piece holds each point
pub partition_passes : (axes : List Axis) (pieces : List Piece) → IsPartition axes pieces → is_partition axes pieces ≡ true
partition_passes axes pieces each = for_all (λ p. count_at pieces p == 1) axes (λ p inside. let one : count_at pieces p ≡ 1 = each p inside in rw one refl)

pub passes_partition : (axes : List Axis) (pieces : List Piece) → is_partition axes pieces ≡ true → IsPartition axes pieces
passes_partition axes pieces all p inside =
    let one : (count_at pieces p == 1) ≡ true = at_each (λ q. count_at pieces q == 1) axes (λ q. refl) all p inside in grind arith

pub values_pass : (axes : List Axis) (pieces : List Piece) → HasValues axes pieces → has_values axes pieces ≡ true
values_pass axes pieces each = for_all (λ p. is_value (value_at pieces p)) axes each

value_in-places : (piece : Option Piece) (p : Point) → value_in piece (same_places p) ≡ value_in piece p
value_in-places None p = refl
value_in-places (Some piece) p = refl

pub passes_values : (axes : List Axis) (pieces : List Piece) → has_values axes pieces ≡ true → HasValues axes pieces
passes_values axes pieces all p inside =
    at_each (λ q. is_value (value_at pieces q)) axes (λ q. ap is_value (value_in-places (find (piece_has q) pieces) q)) all p inside
