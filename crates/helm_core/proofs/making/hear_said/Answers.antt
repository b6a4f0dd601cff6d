use Rattle.std.proofs.Common.{Option, refl, subst, sym, ◌∙◌}
use Rattle.helm_core.specs.declared.iteration.How.TheVariants.{Refused}
use Rattle.helm_core.specs.declared.named.NamedPairs.{NamedPairs}
use Rattle.helm_core.specs.Standings.{HasAnswered}
use Rattle.helm_core.specs.Templates.{heard_said}
use Rattle.helm_core.proofs.Spawns.{nothing_there, spawned_same}
use Rattle.helm_core.proofs.making.hear_said.Goals as goal

pub returns-in_default-clause-heard : goal.returns-in_default-clause-heard
returns-in_default-clause-heard c clock at before all =
    let blocks = c.args.blocks.now in
    let template = c.args.template.now in
    subst (λ (said : Option NamedPairs). HasAnswered blocks clock template before (heard_said c.args.domain.now blocks at template before said) c.args.kept.now.items Refused)
    (sym (nothing_there c.in_ok-heard.heard c.in_default.not-Some) ∙ c.in_ok-heard.ensures) (record { ones = all; answer = refl })

pub returns-in_default-clause-more : goal.returns-in_default-clause-more
returns-in_default-clause-more c = spawned_same c.args.domain.now c.args.blocks.now c.args.kept.now.items c.requires.may

pub returns-clause-heard : goal.returns-clause-heard
returns-clause-heard c clock at before all =
    let blocks = c.args.blocks.now in
    let template = c.args.template.now in
    subst (λ (said : Option NamedPairs). HasAnswered blocks clock template before (heard_said c.args.domain.now blocks at template before said) c.hear_named.new.kept.items c.in_ok-how.how)
    (sym c.in-Some.is ∙ c.in_ok-heard.ensures) (c.in_ok-how.ensures.heard clock at before all)

pub returns-clause-more : goal.returns-clause-more
returns-clause-more c = c.in_ok-how.ensures.more
