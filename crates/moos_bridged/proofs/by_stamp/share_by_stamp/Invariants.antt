-- All stamps so far are shared.
use Rattle.std.proofs.Common.{◌≡◌}
use Rattle.moos_bridged.specs.Communities.{community_script}
use Rattle.moos_bridged.specs.Stamping.{IsSharedSoFar, lines_left}
use Rattle.moos_bridged.proofs.by_stamp.share_by_stamp.Given as goal

abbrev pub invariant-loop : goal.invariant-loop
invariant-loop g l = record {
  so_far : IsSharedSoFar l.bridge l.one l.two;
  rules : l.bridge.rules ≡ l.fn.bridge.rules;
  first : community_script l.one ≡ community_script l.fn.one;
  second : community_script l.two ≡ community_script l.fn.two;
}

abbrev pub decreases-loop : goal.decreases-loop
decreases-loop g l = lines_left l.one l.two
