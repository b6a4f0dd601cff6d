-- What happens to each behaviour in each iteration: its updates, its step, and what its turn comes to.
use Rattle.std.specs.Prelude.{ℕ, nat_lt, Bool, true, false, not, ◌&&◌, if◌then◌else◌, List, [], ◌∷◌, ◌++◌, map, fold, bytes_eq, Option, Some, None, is_some}
use Rattle.std.specs.List.{list_any}
use Rattle.std.specs.Option.{option_eq}
use Rattle.moos_post.specs.declared.value.Pair.{Pair}
use Rattle.moos_post.specs.declared.value.Value.{Value}
use Rattle.moos_post.specs.declared.value.Value.TheVariants.{Num, Text}
use Rattle.ivp_domain.specs.declared.axis.Axis.{Axis}
use Rattle.bhv_file.specs.declared.common.Common.{Common}
use Rattle.bhv_file.specs.declared.file.Block.{Block}
use Rattle.bhv_file.specs.declared.spec.Spec.{Spec}
use Rattle.bhv_file.specs.declared.out.Out.{Out}
use Rattle.bhv_kinds.specs.Giving.{out_at}
use Rattle.bhv_kinds.specs.Changes.{KindChange, Updated, Stepped, params_at, step_of}
use Rattle.bhv_file.specs.Updates.{updated}
use Rattle.bhv_life.specs.declared.outcome.Outcome.{Outcome}
use Rattle.bhv_life.specs.Lives.{Beginning, BhvPast, BhvTurn, beginning_of, can_run, is_fresh, is_stepped, past_of, turn_after}
use Rattle.bhv_life.specs.Outcomes.{flags_at}
use Rattle.helm_core.specs.declared.showing.TurnShown.{TurnShown}
use Rattle.helm_core.specs.Ticks.{Seen}

-- the letter that made a behaviour: its iteration, and its number among the letters to templates that are judged there
pub record Birth : Type 0 where
  pub iteration : ℕ
  pub letter : ℕ

-- a behaviour of the list before an iteration: its name; what the file says of it, or of its template if a letter made it; that
-- letter, which one of the file has none of; its turns so far in order; and its updates and steps so far, the latest first
pub record BhvSoFar : Type 0 where
  pub name : List ℕ
  pub block : Block
  pub born : Option Birth
  pub lived : List BhvTurn
  pub changes : List KindChange

-- a behaviour of the file before the first iteration
abbrev pub unstarted : Block → BhvSoFar
unstarted block = record { name = block.common.name; block = block; born = None; lived = []; changes = [] }

-- what the behaviour's turns so far came to
abbrev pub past_so_far : BhvSoFar → List BhvPast
past_so_far one = past_of one.block.common one.lived

-- what a behaviour's turn begins with
abbrev pub beginning_at : Seen → Common → Beginning
beginning_at seen common = beginning_of common seen.known seen.mode seen.parked seen.stamp

-- updates that were judged: what is then the list of updates and steps, and which of the updates were good
pub record Judged : Type 0 where
  pub changes : List KindChange
  pub taken : List Bool

-- before the updates of an iteration
abbrev pub none_judged : List KindChange → Judged
none_judged changes = record { changes = changes; taken = [] }

-- the updates judged so far and one more, over these axes, of a behaviour with these parameters in its file: a text may be good,
-- a number never is
abbrev pub judged_with : List Axis → Spec → Judged → Value → Judged
judged_with axes spec so_far (Num number) = record { changes = so_far.changes; taken = so_far.taken ++ false ∷ [] }
judged_with axes spec so_far (Text text) = record {
  changes = Updated axes text ∷ so_far.changes;
  taken = so_far.taken ++ is_some (updated axes (params_at spec so_far.changes) text) ∷ [];
}

-- the updates judged so far behind one more letter, which is an update if it is of the behaviour's variable for updates
abbrev pub heard_with : List Axis → Option (List ℕ) → Spec → Judged → Pair → Judged
heard_with axes updates spec so_far letter = if option_eq bytes_eq updates (Some letter.var) then judged_with axes spec so_far letter.value else so_far

-- the updates among these letters, in order
abbrev pub judged_in : List Axis → Option (List ℕ) → Spec → List KindChange → List Pair → Judged
judged_in axes updates spec changes letters = fold (heard_with axes updates spec) (none_judged changes) letters

-- the variable of a behaviour's own updates: one that a letter made has none
abbrev pub own_updates : BhvSoFar → Option (List ℕ)
own_updates one = if is_some one.born then None else one.block.common.updates

-- the updates that an iteration's letters bring, unless the behaviour completed for good in an earlier one
abbrev pub judged_at : List Axis → Seen → BhvSoFar → Judged
judged_at axes seen one = judged_in axes (own_updates one) one.block.spec one.changes (if can_run one.block.common (past_so_far one) then seen.letters else [])

-- what a step gives that wasn't made
abbrev pub no_out : Out
no_out = record { func = None; course = false; speed = false; depth = false; done = false; fault = None }

-- a behaviour in an iteration, after its updates and its step: which updates were good, and what the step gave
pub record TurnSoFar : Type 0 where
  pub standing : BhvSoFar
  pub taken : List Bool
  pub out : Out

-- a behaviour after its updates, and after its step if it has one
abbrev pub begun_by_step : List Axis → Seen → BhvSoFar → Judged → Bool → TurnSoFar
begun_by_step axes seen one judged true =
    let step = step_of axes seen.known seen.stamp (is_fresh (past_so_far one)) in
    record { standing = record one { changes = Stepped step ∷ judged.changes }; taken = judged.taken; out = out_at one.block.spec judged.changes step }
begun_by_step axes seen one judged false = record { standing = record one { changes = judged.changes }; taken = judged.taken; out = no_out }

-- a behaviour in an iteration, before its turn ends
abbrev pub begun_at : List Axis → Seen → BhvSoFar → TurnSoFar
begun_at axes seen one =
    begun_by_step axes seen one (judged_at axes seen one) (is_stepped one.block.common (past_so_far one) (beginning_at seen one.block.common))

-- the behaviour's step raised a fault
abbrev pub has_fault : TurnSoFar → Bool
has_fault one = is_some one.out.fault

-- the weight that the behaviour has after its updates, in thousandths
abbrev pub weight_now : TurnSoFar → ℕ
weight_now one = (params_at one.standing.block.spec one.standing.changes).weight

-- A behaviour is active: its step gave a function, its weight is above 0, and no behaviour raised a fault. So one fault leaves no
-- behaviour active.
abbrev pub is_active_in : Bool → TurnSoFar → Bool
is_active_in fault one = is_some one.out.func && nat_lt 0 (weight_now one) && not fault

-- the turn that a behaviour has
abbrev pub turn_at : Seen → Bool → TurnSoFar → BhvTurn
turn_at seen fault one = record { start = beginning_at seen one.standing.block.common; gave = is_active_in fault one; done = one.out.done }

-- a behaviour after an iteration
abbrev pub bhv_after : Seen → Bool → TurnSoFar → BhvSoFar
bhv_after seen fault one = record one.standing { lived = one.standing.lived ++ turn_at seen fault one ∷ [] }

-- what a behaviour's turn came to
abbrev pub outcome_at : Seen → Bool → TurnSoFar → Outcome
outcome_at seen fault one = (turn_after one.standing.block.common (past_so_far one.standing) (turn_at seen fault one)).outcome

-- what an iteration says of a behaviour
abbrev pub showing_of : Seen → Bool → TurnSoFar → TurnShown
showing_of seen fault one = record {
  name = one.standing.name;
  taken = one.taken;
  out = one.out;
  weight = weight_now one;
  active = is_active_in fault one;
  outcome = outcome_at seen fault one;
  flags = flags_at one.standing.block.common (outcome_at seen fault one);
}

-- all behaviours in an iteration, before their turns end
abbrev pub all_begun : List Axis → Seen → List BhvSoFar → List TurnSoFar
all_begun axes seen before = map (begun_at axes seen) before

-- all behaviours after an iteration
abbrev pub all_after : Seen → List TurnSoFar → List BhvSoFar
all_after seen all = map (bhv_after seen (list_any has_fault all)) all

-- what an iteration says of all behaviours
abbrev pub all_showings : Seen → List TurnSoFar → List TurnShown
all_showings seen all = map (showing_of seen (list_any has_fault all)) all
