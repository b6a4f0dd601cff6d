use Rattle.std.proofs.Common.{refl, subst, sym}
use Rattle.helm_core.specs.Doers.{IsDoerOf}
use Rattle.helm_core.proofs.Turning.{ends, fits_when_active}
use Rattle.helm_core.proofs.begun.TurnBegun.finish.Goals as goal

pub returns-clause-ends : goal.returns-clause-ends
returns-clause-ends c blocks seen one is =
    ends blocks seen c.args.fault one c.args.self c.weight-weight.result c.is_active-active.result c.finish.result.0 c.finish.result.1 c.in_ok-name.flags c.in_ok-name.name c.can_run.result c.stays-stays.result is
    (λ spec changes stands. c.weight-weight.ensures.weight spec changes (subst (IsDoerOf spec changes) (sym c.lent.ensures) stands))
    c.is_active-active.ensures c.finish.ensures.life c.finish.ensures.outcome c.in_ok-name.ensures.flags c.in_ok-name.ensures.name c.can_run.ensures c.stays-stays.ensures

pub returns-clause-fit : goal.returns-clause-fit
returns-clause-fit c axes blocks fit = record {
  kept = record { within = fit.within; ready = fit.ready };
  fit = fits_when_active axes blocks c.args.fault c.args.self c.weight-weight.result c.is_active-active.result _
      (λ spec changes stands. c.weight-weight.ensures.most spec changes (subst (IsDoerOf spec changes) (sym c.lent.ensures) stands))
      c.is_active-active.ensures fit refl refl refl;
}
