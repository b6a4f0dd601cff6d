-- The states of a behaviour, and the flags that a change of state raises.
use Rattle.std.specs.Prelude.{Bool, true, false, not, ◌&&◌, List, [], ◌++◌}
use Rattle.moos_post.specs.declared.value.Pair.{Pair}
use Rattle.bhv_file.specs.declared.common.Common.{Common}
use Rattle.bhv_life.specs.declared.outcome.BhvState.{BhvState}
use Rattle.bhv_life.specs.declared.outcome.BhvState.TheVariants.{Idle, Running, Active, Completed}
use Rattle.bhv_life.specs.declared.outcome.Outcome.{Outcome}

-- the state is idle
abbrev pub is_idle : BhvState → Bool
is_idle Idle = true
is_idle Running = false
is_idle Active = false
is_idle Completed = false

-- the state is active
abbrev pub is_active : BhvState → Bool
is_active Idle = false
is_active Running = false
is_active Active = true
is_active Completed = false

-- the behaviour is under way: running or active
abbrev pub is_under_way : BhvState → Bool
is_under_way Idle = false
is_under_way Running = true
is_under_way Active = true
is_under_way Completed = false

-- what an iteration brings, by the states before and now, and whether the behaviour completes in it
abbrev pub outcome_of : BhvState → BhvState → Bool → Outcome
outcome_of before now ended = record {
  now = now;
  run = is_under_way now && not (is_under_way before);
  idle = is_idle now && not (is_idle before);
  active = is_active now && not (is_active before);
  inactive = is_active before && not (is_active now);
  ended = ended;
}

-- the flags that are raised: all of these, or none
abbrev pub raised : Bool → List Pair → List Pair
raised true flags = flags
raised false flags = []

-- the flags that an iteration raises, in the order in which they are posted
abbrev pub flags_at : Common → Outcome → List Pair
flags_at common outcome =
    raised outcome.inactive common.inactiveflags ++ raised outcome.idle common.idleflags ++ raised outcome.run common.runflags
    ++ raised outcome.active common.activeflags ++ raised outcome.ended common.endflags
