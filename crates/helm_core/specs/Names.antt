-- The names in the list of a helm: no two behaviours have one, so at most one keeps clear of a contact by its name; and that one is let
-- go once its contact is clear for good.
use Rattle.std.specs.Prelude.{◌≡◌, ℕ, ◌≤◌, Bool, true, false, List, ◌++◌, codes, is_some}
use Rattle.std.specs.List.{count_by}
use Rattle.ivp_domain.specs.declared.axis.Axis.{Axis}
use Rattle.bhv_file.specs.declared.file.BhvFile.{BhvFile}
use Rattle.bhv_file.specs.declared.spec.Avoidance.{Avoidance}
use Rattle.bhv_file.specs.declared.spec.Shape.TheVariants.{AvoidCollision}
use Rattle.bhv_file.specs.Validity.{IsValidFile}
use Rattle.bhv_kinds.specs.Changes.{params_at}
use Rattle.bhv_life.specs.Lives.{is_stepped}
use Rattle.mission_reader.specs.declared.mission.Mission.{Mission}
use Rattle.helm_core.specs.Behaviors.{BhvSoFar, begun_at, beginning_at, bhv_after, judged_at, past_so_far}
use Rattle.helm_core.specs.Lists.{list_at, stays}
use Rattle.helm_core.specs.Plans.{plan_made}
use Rattle.helm_core.specs.Templates.{bears_name}
use Rattle.helm_core.specs.Ticks.{Seen, Tick}

-- how many of these behaviours have a name
abbrev pub count_named : List ℕ → List BhvSoFar → ℕ
count_named name ones = count_by (bears_name name) ones

-- Of a valid behaviour file, whatever the helm hears: in each iteration at most one behaviour of the list has a given name.
abbrev pub ValidFilesNameOnce : Type 0
ValidFilesNameOnce = (mission : Mission) (file : BhvFile) → IsValidFile file → (ticks : List Tick) (i : ℕ) (name : List ℕ) → count_named name (list_at (plan_made mission file) ticks i) ≤ 1

-- the name by which the contact manager speaks to the behaviour that keeps clear of a contact
abbrev pub clear_of : List ℕ → List ℕ
clear_of contact = codes "avd_" ++ contact

-- Of a valid behaviour file, whatever the helm hears: in each iteration at most one behaviour of the list has the name of the one
-- that keeps clear of a contact.
abbrev pub OneOfEachContact : Type 0
OneOfEachContact = (mission : Mission) (file : BhvFile) → IsValidFile file → (ticks : List Tick) (i : ℕ) (contact : List ℕ) → count_named (clear_of contact) (list_at (plan_made mission file) ticks i) ≤ 1

-- A behaviour that a letter made and that isn't perpetual, and whose contact is clear for good after its updates: if it is
-- stepped its step is done, and behind its turn it leaves the list.
abbrev pub ResolvedLeave : Type 0
ResolvedLeave = (axes : List Axis) (seen : Seen) (fault : Bool) (one : BhvSoFar) (avoidance : Avoidance) → is_some one.born ≡ true → one.block.common.perpetual ≡ false
    → (params_at one.block.spec (judged_at axes seen one).changes).shape ≡ AvoidCollision avoidance → avoidance.resolved ≡ true
    → is_stepped one.block.common (past_so_far one) (beginning_at seen one.block.common) ≡ true
    → ((begun_at axes seen one).out.done ≡ true) × (stays (bhv_after seen fault (begun_at axes seen one)) ≡ false)
