-- The registrations so far.
use Rattle.std.proofs.Common.{◌≡◌, take}
use Rattle.moos_share.specs.Bridged.{regs_of_rules}
use Rattle.moos_bridged.proofs.sharing.regs_of.Given as goal

abbrev pub invariant-loop-rule : goal.invariant-loop-rule
invariant-loop-rule l = l.regs ≡ regs_of_rules (take l.rule-index l.rules)
