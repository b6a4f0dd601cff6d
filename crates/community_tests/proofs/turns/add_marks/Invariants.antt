use Rattle.std.proofs.Common.{◌≡◌}
use Rattle.community_tests.proofs.turns.add_marks.Given as goal

abbrev pub invariant-loop-count : goal.invariant-loop-count
invariant-loop-count g l = l.pass ≡ record l.initial.pass { seen = l.pass.seen; mine = l.pass.mine }
