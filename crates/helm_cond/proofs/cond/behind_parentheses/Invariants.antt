use Rattle.std.proofs.Common.{◌≡◌, length}
use Rattle.helm_cond.specs.Flat.{behind_parentheses}
use Rattle.helm_cond.proofs.cond.behind_parentheses.Given as goal

abbrev pub invariant-parentheses : goal.invariant-parentheses
invariant-parentheses l = behind_parentheses l.symbols ≡ behind_parentheses l.rest

abbrev pub decreases-parentheses : goal.decreases-parentheses
decreases-parentheses l = length l.rest
