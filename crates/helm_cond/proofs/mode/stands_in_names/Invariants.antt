use Rattle.std.proofs.Common.{◌≡◌, length}
use Rattle.helm_cond.specs.Conditions.{mode_names, stands_in}
use Rattle.helm_cond.proofs.mode.stands_in_names.Given as goal

abbrev pub invariant-parts : goal.invariant-parts
invariant-parts l = stands_in (mode_names l.text) (mode_names l.mode) ≡ stands_in (mode_names l.text) (mode_names l.rest)

abbrev pub decreases-parts : goal.decreases-parts
decreases-parts l = length l.rest
