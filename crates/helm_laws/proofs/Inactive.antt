-- Where a behaviour isn't stepped, or one raised a fault, none is active.
use Rattle.std.proofs.Common.{◌≡◌, Bool, true, false, not, ◌&&◌, ◌||◌, List, [], ◌∷◌, map, refl, ap}
use Rattle.std.specs.Prelude.{is_some, nat_lt}
use Rattle.std.specs.List.{list_any}
use Rattle.ivp_domain.specs.declared.axis.Axis.{Axis}
use Rattle.bhv_life.specs.Lives.{is_stepped}
use Rattle.helm_core.specs.Behaviors.{BhvSoFar, Judged, TurnSoFar, all_begun, begun_at, begun_by_step, beginning_at, has_fault, is_active_in, judged_at, past_so_far, showing_of, weight_now}
use Rattle.helm_core.specs.Decisions.{some_active}
use Rattle.helm_core.specs.Posts.{some_fault}
use Rattle.helm_core.specs.Ticks.{Seen}
use Rattle.helm_laws.specs.Influences.{has_say}

-- a parked helm steps none
pub unstepped_if : (parked held able time : Bool) → parked ≡ true → (not parked && held && able && time) ≡ false
unstepped_if true held able time is = refl
unstepped_if false held able time is = absurd (let e : false ≡ true = is in cc)

silent_by : (axes : List Axis) (seen : Seen) (one : BhvSoFar) (judged : Judged) (stepped : Bool) → stepped ≡ false → has_say (begun_by_step axes seen one judged stepped) ≡ false
silent_by axes seen one judged true is = absurd (let e : true ≡ false = is in cc)
silent_by axes seen one judged false is = refl

pub silent_unstepped : (axes : List Axis) (seen : Seen) (one : BhvSoFar) → is_stepped one.block.common (past_so_far one) (beginning_at seen one.block.common) ≡ false → has_say (begun_at axes seen one) ≡ false
silent_unstepped axes seen one is = silent_by axes seen one (judged_at axes seen one) (is_stepped one.block.common (past_so_far one) (beginning_at seen one.block.common)) is

inactive_by : (fault given weight other : Bool) → (fault || (given && weight)) ≡ false → (given && weight && not other) ≡ false
inactive_by true given weight other is = absurd (let e : true ≡ false = is in cc)
inactive_by false true true other is = absurd (let e : true ≡ false = is in cc)
inactive_by false true false other is = refl
inactive_by false false weight other is = refl

-- without a say it isn't active
pub silent_inactive : (fault : Bool) (one : TurnSoFar) → has_say one ≡ false → is_active_in fault one ≡ false
silent_inactive fault one is = inactive_by (has_fault one) (is_some one.out.func) (nat_lt 0 (weight_now one)) fault is

-- nor does it raise a fault
pub silent_faultless : (one : TurnSoFar) → has_say one ≡ false → has_fault one ≡ false
silent_faultless one is = by (has_fault one) (is_some one.out.func && nat_lt 0 (weight_now one)) is
  where
    by : (fault other : Bool) → (fault || other) ≡ false → fault ≡ false
    by true other is = is
    by false other is = refl

or_false : (a b : Bool) → a ≡ false → b ≡ false → (a || b) ≡ false
or_false a b one other = rw (one, other) refl

pub none_parked : (axes : List Axis) (seen : Seen) (fault : Bool) (ones : List BhvSoFar) → seen.parked ≡ true → some_active (map (showing_of seen fault) (all_begun axes seen ones)) ≡ false
none_parked axes seen fault [] is = refl
none_parked axes seen fault (one ∷ ones) is =
    or_false (is_active_in fault (begun_at axes seen one)) (some_active (map (showing_of seen fault) (all_begun axes seen ones)))
    (silent_inactive fault (begun_at axes seen one) (silent_unstepped axes seen one (unstepped_if seen.parked _ _ _ is)))
    (none_parked axes seen fault ones is)

unable : (given weight fault : Bool) → fault ≡ true → (given && weight && not fault) ≡ false
unable given weight false is = absurd (let e : false ≡ true = is in cc)
unable true true true is = refl
unable true false true is = refl
unable false weight true is = refl

pub none_at_fault : (seen : Seen) (fault : Bool) (all : List TurnSoFar) → fault ≡ true → some_active (map (showing_of seen fault) all) ≡ false
none_at_fault seen fault [] is = refl
none_at_fault seen fault (one ∷ all) is =
    or_false (is_active_in fault one) (some_active (map (showing_of seen fault) all)) (unable (is_some one.out.func) (nat_lt 0 (weight_now one)) fault is) (none_at_fault seen fault all is)

-- the faults that are told are those that were raised
pub faults_told : (seen : Seen) (fault : Bool) (all : List TurnSoFar) → some_fault (map (showing_of seen fault) all) ≡ list_any has_fault all
faults_told seen fault [] = refl
faults_told seen fault (one ∷ all) = ap (λ b. has_fault one || b) (faults_told seen fault all)
