-- What the clients of the vehicle do in one turn. This serves the private calls alone.
use Rattle.std.specs.Prelude.{◌≡◌, ◌⊎◌, ℕ, suc, ◌+◌, ◌*◌, ◌<◌, if◌then◌else◌, nat_le, nat_lt, List, [], ◌∷◌, ◌++◌, length, Some, IsTrue}
use Rattle.std.specs.List.{list_all}
use Rattle.moos_client.specs.Calls.{entry_of}
use Rattle.moos_lawful.specs.Schedules.{IsLawfulSoFar}
use Rattle.moos_post.specs.declared.entry.Call.TheVariants.{Fetch, Post as Posts}
use Rattle.moos_post.specs.declared.value.Pair.{Pair}
use Rattle.moos_post.specs.History.{History}
use Rattle.moos_play.specs.Lawful.{HelmSetup, ticks_to}
use Rattle.moos_play.specs.Plays.{clients_in, GoesOnWith, history_in, IsBetween, iterations_made, left_in, next_stamp, Playing, script_played, StaysSeated}
use Rattle.moos_simulate.specs.declared.gear.Gear.{Gear}
use Rattle.moos_simulate.specs.declared.vehicle.Vehicle.{Vehicle}
use Rattle.moos_simulate.specs.Sailing.{HaveMadeTurns, IsBeside, KeepMails, pid_number}
use Rattle.moos_simulate.specs.Simulated.{schedule_simulated, vehicle_clients}
use Rattle.script_reader.specs.declared.script.Script.{Script}

-- whatever is entered, the play goes on between the same two rounds
pub record StaysBetween (before after : Playing) : Type 0 where
  pub between : IsBetween after
  pub seated : StaysSeated before after
  pub same : GoesOnWith before after
  pub left : left_in after ≡ left_in before
  pub next : next_stamp after ≡ next_stamp before
  pub iterations : iterations_made after ≡ iterations_made before

-- the client has fetched and has posted this
abbrev pub HasSaid : ℕ → ℕ → List Pair → Playing → Playing → Type 0
HasSaid client stamp said before after = history_in after ≡ (history_in before ++ entry_of client stamp Fetch ∷ []) ++ entry_of client stamp (Posts said) ∷ []

-- the client has made no call, or has fetched alone
abbrev pub HasHeardAtMost : ℕ → ℕ → Playing → Playing → Type 0
HasHeardAtMost client stamp before after = (history_in after ≡ history_in before) ⊎ (history_in after ≡ history_in before ++ entry_of client stamp Fetch ∷ [])

-- how many turns the client of a number has made, if each of the vehicle's clients has made `count`, and those below `next` one more
abbrev pub turns_made : ℕ → ℕ → ℕ → ℕ
turns_made count next client = if nat_lt client next then suc count else count

-- A tick that the vehicle's clients below a number have answered, and that the others have yet to: the helm has made one more than these,
-- it has this stamp, nothing that is left for the script's clients and the helm is of this stamp or before, and what is so far isn't later.
pub record IsAwaited (gear : Gear) (helm : HelmSetup) (script : Script) (names : List (List ℕ)) (count left next stamp client : ℕ) (history : History) : Type 0 where
  pub so_far : IsLawfulSoFar (schedule_simulated script (Some helm) gear names) history
  pub turned : HaveMadeTurns (schedule_simulated script (Some helm) gear names) (vehicle_clients gear helm.period) (pid_number script) helm.period (ticks_to script.stop helm) (turns_made count client) history so_far
  pub more : count < ticks_to script.stop helm
  pub at : stamp ≡ count * helm.period
  pub late : (n : ℕ) → n < length script.names + 1 → IsTrue (list_all (λ entry. nat_le (suc (count * helm.period)) entry.stamp) (so_far.left n))
  pub behind : (left ≡ 0) ⊎ (stamp < next)
  pub early : IsTrue (list_all (λ entry. nat_le entry.stamp stamp) so_far.rest)

-- such a play, with a count of the turns so far
pub record IsAnswering (vehicle : Vehicle) (play : Playing) (stamp client : ℕ) : Type 0 where
  pub helm : HelmSetup
  pub beside : IsBeside vehicle helm play
  pub count : ℕ
  pub ticks : length (iterations_made play) ≡ suc count
  pub awaited : IsAwaited vehicle.gear helm (script_played play) (clients_in play) count (left_in play) (next_stamp play) stamp client (history_in play)
  pub kept : KeepMails vehicle helm (script_played play) (clients_in play) (history_in play) awaited.so_far
