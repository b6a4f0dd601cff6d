-- By which posts of the manual override a helm is parked, and from which of its ticks on.
use Rattle.std.specs.Prelude.{◌≡◌, ◌≢◌, ℕ, ◌*◌, ◌≤◌, ◌<◌, ◌==◌, Bool, not, nat_le, nat_lt, if◌then◌else◌, List, [], ◌∷◌, ◌++◌, filter, map, Option, None, Some}
use Rattle.helm_core.specs.Iterations.{iteration_at}
use Rattle.helm_core.specs.Ticks.{is_false, is_parked, latest_override}
use Rattle.moos_db.specs.Database.{pair_posted}
use Rattle.moos_play.specs.Lawful.{heard_of, HelmSetup}
use Rattle.moos_post.specs.declared.entry.Entry.{Entry}
use Rattle.moos_post.specs.declared.value.Value.{Value}
use Rattle.moos_post.specs.History.{History, posts_of}
use Rattle.crew_laws.specs.Hearing.{before_tick}
use Rattle.crew_laws.specs.InTime.{in_time}

-- whether the helm is parked in its iteration i
abbrev pub parked_at : HelmSetup → List (List ℕ) → History → ℕ → Bool
parked_at helm names history i = (iteration_at helm.plan (heard_of names helm.client history) i).parked

-- A helm is parked in an iteration unless the last override that was posted before it, and came in time, is `false`.
abbrev pub ParkedByLastInTime : ℕ → HelmSetup → List (List ℕ) → History → Type 0
ParkedByLastInTime ticks helm names history = (i : ℕ) → i < ticks → parked_at helm names history i ≡ is_parked (map pair_posted (in_time (posts_of (before_tick helm history i))))

-- In order Stamp it is parked unless the last override that was posted before the iteration is `false`.
abbrev pub ParkedByLastPost : ℕ → HelmSetup → List (List ℕ) → History → Type 0
ParkedByLastPost ticks helm names history = (i : ℕ) → i < ticks → parked_at helm names history i ≡ is_parked (map pair_posted (posts_of (before_tick helm history i)))

-- the last override that these entries post, in either spelling
abbrev pub override_in : History → Option Value
override_in entries = latest_override (map pair_posted (posts_of entries))

-- in order Stamp an entry is heard by the helm's tick i if its stamp isn't above the tick's, and the helm's own if its stamp is below
abbrev pub is_heard_by : HelmSetup → ℕ → Entry → Bool
is_heard_by helm i entry = if entry.client == helm.client then nat_lt entry.stamp (i * helm.period) else nat_le entry.stamp (i * helm.period)

-- Another client posts this override, at a stamp that isn't above that of the helm's tick i, and no entry behind it that is heard by then
-- posts another one.
pub record IsLastOverride (helm : HelmSetup) (history : History) (i : ℕ) (value : Value) : Type 0 where
  pub before : History
  pub entry : Entry
  pub later : History
  pub is : history ≡ before ++ entry ∷ later
  pub other : entry.client ≢ helm.client
  pub says : override_in (entry ∷ []) ≡ Some value
  pub stamp : entry.stamp ≤ i * helm.period
  pub last : override_in (filter (is_heard_by helm i) later) ≡ None

-- In order Stamp an override holds from the helm's first tick at or after its stamp on, up to the next one: the helm is parked there,
-- unless it is the text `false`; then the helm drives.
abbrev pub HoldsFromItsStamp : ℕ → HelmSetup → List (List ℕ) → History → Type 0
HoldsFromItsStamp ticks helm names history = (i : ℕ) (value : Value) → i < ticks → IsLastOverride helm history i value → parked_at helm names history i ≡ not (is_false value)
