-- A domain: its size on each axis, its points, the index of a point, and the lists of axes that make one.
use Rattle.std.specs.Prelude.{ℕ, ◌+◌, ◌-◌, ◌*◌, ◌^◌, Bool, true, false, ◌&&◌, not, nat_le, nat_lt, if◌then◌else◌, Option, Some, None, Result, Ok, Err, List, [], ◌∷◌, ◌++◌, length, is_none, slice_get, slice_index, position}
use Rattle.std.specs.List.{list_all, list_any}
use Rattle.std.specs.Str.{bytes_eq}
use Rattle.ivp_domain.specs.declared.axis.Axis.{Axis}
use Rattle.ivp_domain.specs.declared.boxes.Point.{Point}
use Rattle.ivp_domain.specs.declared.boxes.BoxN.{BoxN}
use Rattle.ivp_domain.specs.declared.domain.DomainFault.{DomainFault}
use Rattle.ivp_domain.specs.declared.domain.DomainFault.TheVariants.{BadAxis, TooLarge, SameName}
use Rattle.ivp_domain.specs.Axes.{is_good_axis}
use Rattle.ivp_domain.specs.Boxes.{has_point, points_in}

-- the points of an axis, one if there is no axis
abbrev pub size_of_axis : Option Axis → ℕ
size_of_axis None = 1
size_of_axis (Some axis) = axis.points

-- how many places the domain has on this axis: one past its last axis
abbrev pub size_on : ℕ → List Axis → ℕ
size_on axis axes = size_of_axis (slice_get axes axis)

-- the product of the axes' points
abbrev pub size_of : List Axis → ℕ
size_of axes = size_on 0 axes * size_on 1 axes * size_on 2 axes * size_on 3 axes

-- the box of all points of the domain
abbrev pub whole : List Axis → BoxN
whole axes =
    record {
      low = 0 ∷ 0 ∷ 0 ∷ 0 ∷ [];
      high = (size_on 0 axes - 1) ∷ (size_on 1 axes - 1) ∷ (size_on 2 axes - 1) ∷ (size_on 3 axes - 1) ∷ [];
    }

-- the point is one of the domain
abbrev pub is_point : List Axis → Point → Bool
is_point axes point = has_point (whole axes) point

-- all points of the domain, the first axis outermost
abbrev pub points_of : List Axis → List Point
points_of axes = points_in (whole axes)

-- mixed radix, the first axis counting most
abbrev pub index_of : List Axis → Point → ℕ
index_of axes point =
    ((slice_index point.at 0 * size_on 1 axes + slice_index point.at 1) * size_on 2 axes + slice_index point.at 2) * size_on 3 axes + slice_index point.at 3

-- the place of the first axis that is not good
abbrev pub bad_axis : List Axis → Option ℕ
bad_axis axes = position (λ axis. not (is_good_axis axis)) axes

-- two axes have the same name
abbrev pub same_name : Axis → Axis → Bool
same_name a b = bytes_eq a.name b.name

-- the place of the first axis named as one before it, if `past` is before these
abbrev pub repeated_after : List Axis → List Axis → Option ℕ
repeated_after past [] = None
repeated_after past (axis ∷ axes) = if list_any (same_name axis) past then Some (length past) else repeated_after (past ++ axis ∷ []) axes

-- the place of the first axis named as one before it
abbrev pub repeated_place : List Axis → Option ℕ
repeated_place axes = repeated_after [] axes

-- one to four good axes of different names, with at most 2^28 points
abbrev pub is_domain : List Axis → Bool
is_domain axes =
    nat_lt 0 (length axes) && nat_le (length axes) 4 && list_all is_good_axis axes && nat_le (size_of axes) (2 ^ 28) && is_none (repeated_place axes)

-- the axes themselves, or the first refusal: a bad axis, too many points, a repeated name
abbrev pub judged_axes : List Axis → Option ℕ → Bool → Option ℕ → Result (List Axis) DomainFault
judged_axes axes (Some place) fits same = Err (BadAxis place)
judged_axes axes None false same = Err TooLarge
judged_axes axes None true (Some place) = Err (SameName place)
judged_axes axes None true None = Ok axes

-- the domain that axes make, or the first refusal; that they are one to four isn't asked here
abbrev pub domain_of : List Axis → Result (List Axis) DomainFault
domain_of axes = judged_axes axes (bad_axis axes) (nat_le (size_of axes) (2 ^ 28)) (repeated_place axes)
