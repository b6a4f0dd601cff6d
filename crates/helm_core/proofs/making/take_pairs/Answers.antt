use Rattle.std.proofs.Common.{subst, sym}
use Rattle.helm_core.specs.Doers.{IsDoerOf}
use Rattle.helm_core.specs.Templates.{with_said}
use Rattle.helm_core.proofs.making.take_pairs.Goals as goal

pub returns-in_ok-good-in-Some-clause-stands : goal.returns-in_ok-good-in-Some-clause-stands
returns-in_ok-good-in-Some-clause-stands c spec changes was =
    subst (λ pairs. IsDoerOf spec (with_said c.args.domain.now changes pairs) c.update.new.self) (sym c.in-Some.is) (c.in_ok-good-in-Some.ensures.stands spec changes was)
