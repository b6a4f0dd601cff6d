use Rattle.std.proofs.Common.{ap, sym, ◌∙◌}
use Rattle.std.specs.Prelude.{position}
use Rattle.helm_core.specs.Standings.{is_kept_called}
use Rattle.helm_core.proofs.Spawns.{known_said, new_said}
use Rattle.helm_core.proofs.making.hear_named.Goals as goal

pub returns-in_ok-how-in-Some-clause-heard : goal.returns-in_ok-how-in-Some-clause-heard
returns-in_ok-how-in-Some-clause-heard c clock at before all =
    let said = c.args.said.now in
    let kept = c.args.kept.now.items in
    known_said c.args.domain.now c.args.blocks.now clock at c.args.template.now before said kept c.hear_known.new.kept.items c.in-Some.known c.in_ok-how-in-Some.how all
    (ap (position (is_kept_called said.name)) (sym c.as_slice.ensures.value) ∙ ap (λ name. position (is_kept_called name) c.as_slice.result.now) (sym c.bytes.ensures.value) ∙ sym c.place_of.ensures ∙ c.in-Some.is)
    (c.in_ok-how-in-Some.ensures.heard clock before all)

pub returns-in_ok-how-in-None-clause-heard : goal.returns-in_ok-how-in-None-clause-heard
returns-in_ok-how-in-None-clause-heard c clock at before all =
    let said = c.args.said.now in
    let kept = c.args.kept.now.items in
    new_said c.args.domain.now c.args.blocks.now clock at c.args.template.now before said kept c.hear_new.new.kept.items c.in_ok-how-in-None.how all
    (ap (position (is_kept_called said.name)) (sym c.as_slice.ensures.value) ∙ ap (λ name. position (is_kept_called name) c.as_slice.result.now) (sym c.bytes.ensures.value) ∙ sym c.place_of.ensures ∙ c.in-None.is)
    (c.in_ok-how-in-None.ensures.heard clock at before all)
