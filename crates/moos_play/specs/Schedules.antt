-- The schedule of a script and its helm, which is a client that answers each tick.
use Rattle.std.specs.Prelude.{ℕ, ◌-◌, List, [], ◌∷◌, length, nat_lt, if◌then◌else◌, Option, None, Some}
use Rattle.moos_post.specs.declared.entry.Call.TheVariants.{Register, Post as Posts}
use Rattle.helm_core.specs.Iterations.{iteration_at}
use Rattle.helm_core.specs.Plans.{wants_of}
use Rattle.helm_core.specs.Ticks.{Tick}
use Rattle.moos_lawful.specs.Answering.{Answerer, schedule_of}
use Rattle.moos_lawful.specs.Schedules.{Schedule}
use Rattle.moos_play.specs.Lawful.{mailed_in, HelmSetup}
use Rattle.script_reader.specs.declared.script.Order.{Order}
use Rattle.script_reader.specs.declared.script.Script.{Script}

-- the helm as a client that answers: at each turn it posts what the iteration over what it has heard by then says
abbrev pub answering : HelmSetup → Answerer Tick
answering helm = record {
  opening = Register (wants_of helm.plan) ∷ (if nat_lt 0 (length helm.plan.opening) then Posts helm.plan.opening ∷ [] else []);
  says = λ heard. (iteration_at helm.plan heard (length heard - 1)).posts;
}

-- the clients that answer: the helm if there is one
abbrev pub answerers : Option HelmSetup → List (Answerer Tick)
answerers None = []
answerers (Some helm) = answering helm ∷ []

-- the milliseconds from one tick to the next, any number without a helm
abbrev pub tick_period : Option HelmSetup → ℕ
tick_period None = 1
tick_period (Some helm) = helm.period

-- the schedule of a script in an order with a helm, if there is one, under these names of the clients
abbrev pub schedule_with : Order → Script → Option HelmSetup → List (List ℕ) → Schedule Tick
schedule_with order script helm names = schedule_of order script.lines (length script.names) script.stop (tick_period helm) (answerers helm) (length names) (mailed_in names)
