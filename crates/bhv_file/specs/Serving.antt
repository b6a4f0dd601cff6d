-- What a domain must be for a behaviour: it suits one that keeps clear of a contact if its speeds are slow and the boxes few.
use Rattle.std.specs.Prelude.{ℕ, pos, int_le, Bool, true, not, ◌&&◌, ◌||◌, nat_le, List, length, codes}
use Rattle.ivp_domain.specs.declared.axis.Axis.{Axis}
use Rattle.ivp_build.specs.Sampled.{boxes_of}
use Rattle.bhv_file.specs.declared.spec.Shape.{Shape}
use Rattle.bhv_file.specs.declared.spec.Shape.TheVariants.{AvoidCollision}
use Rattle.bhv_file.specs.Named.{named_axis}
use Rattle.bhv_file.specs.Params.{has_axis, is_avoid}

-- a domain is cut into at most 4,096 boxes of this size
abbrev pub few_boxes : List Axis → ℕ → Bool
few_boxes domain size = nat_le (length (boxes_of domain size)) 4096

-- if a behaviour keeps clear of a contact, the boxes of its piece size are few
abbrev pub has_few_boxes : List Axis → Shape → Bool
has_few_boxes domain (AvoidCollision avoidance) = few_boxes domain avoidance.piece_size
has_few_boxes domain other = true

-- an axis lies within 0 to 100
abbrev pub lies_slow : Axis → Bool
lies_slow axis = int_le (pos 0) axis.low && int_le axis.high (pos 100000)

-- the axis of speed lies within 0 to 100, if there is one
abbrev pub is_slow : List Axis → Bool
is_slow domain = not (has_axis domain (codes "speed")) || lies_slow (named_axis domain (codes "speed"))

-- The domain suits a behaviour: if that keeps clear of a contact, its speeds are slow and the boxes of its function few.
abbrev pub suits : List Axis → Shape → Bool
suits domain shape = (not (is_avoid shape) || is_slow domain) && has_few_boxes domain shape
