use Rattle.std.proofs.Common.{◌≡◌, ap, refl, ◌∙◌, arith}
use Rattle.helm_core.specs.Helms.{allstop_text}
use Rattle.helm_core.specs.Posts.{allstop_by}
use Rattle.helm_core.proofs.helm.Helm.iterate.Goals as goal

pub returns-clause-iterated : goal.returns-clause-iterated
returns-clause-iterated g c =
    let turned = c.in_ok-answers.turned in
    let axes = c.args.self.now.behavior_list.axes in
    let parked = c.args.now.now.parked in
    let stops : allstop_text c.of-allstop.result ≡ allstop_by axes parked turned.showings.items
    = c.of-allstop.ensures ∙ ap (λ domain. allstop_by domain parked c.as_slice.result.now) c.domain.ensures ∙ ap (allstop_by axes parked) c.as_slice.ensures.value in
    record { answers = c.in_ok-answers.answers; turned = turned; ended = c.in_ok-answers.ensures.turned; is = c.in_ok-iteration.ensures; keeps = refl; stops = stops }

pub returns-clause-few : goal.returns-clause-few
returns-clause-few g c = let fits = c.in_ok-answers.ensures.fit in omega (arith, fits.few, fits.fit.few)

pub returns-clause-fit : goal.returns-clause-fit
returns-clause-fit g c = c.in_ok-answers.ensures.fit.fit.kept

pub iteration-requires-clause-few : goal.iteration-requires-clause-few
iteration-requires-clause-few g c = let fits = c.in_ok-answers.ensures.fit in omega (arith, fits.few, fits.fit.showings)
