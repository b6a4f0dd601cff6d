use Rattle.std.proofs.Common.{subst, sym}
use Rattle.helm_core.specs.Doers.{IsDoerOf}
use Rattle.helm_core.specs.Templates.{with_said}
use Rattle.helm_core.proofs.making.doer_with.Goals as goal

pub returns-clause-stands : goal.returns-clause-stands
returns-clause-stands c spec changes is = subst (IsDoerOf spec (with_said c.args.domain.now changes c.args.pairs.now)) (sym c.in_ok-boxed.ensures) (c.in_ok-take_pairs.ensures.stands spec changes is)
