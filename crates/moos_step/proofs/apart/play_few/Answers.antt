use Rattle.std.proofs.Common.{◌∙◌, ◌∷◌, [], ◌++◌, ap, subst, sym, take}
use Rattle.std.specs.List.{AllZip}
use Rattle.std.proofs.lemmas.List.{take_more}
use Rattle.moos_post.specs.declared.entry.Entry.{Entry}
use Rattle.moos_step.specs.Steps.{HasEnded}
use Rattle.moos_step.proofs.Few.{all_may_on, zip_more, zip_none}
use Rattle.moos_step.proofs.apart.play_few.Goals as goal

pub loop-line-init : goal.loop-line-init
loop-line-init g c = zip_none c.args.players.now.items

pub hear_each-requires-after_bounds : goal.hear_each-requires-after_bounds
hear_each-requires-after_bounds g c κs within =
    all_may_on c.args.lock.now (take c.loop-line.line-index c.args.lines.now) c.args.players.now.items c.loop-line.players.items c.loop-line.invariant c.requires

pub loop-line-preserved : goal.loop-line-preserved
loop-line-preserved g c =
    let lines = c.args.lines.now in
    let i = c.loop-line.line-index in
    let line = c.line-item.result in
    subst (λ xs. AllZip (HasEnded xs) c.args.players.now.items c.hear_each.new.players.items)
    (sym (take_more lines i line c.loop-line-test.true ∙ ap (λ (one : Entry). take i lines ++ one ∷ []) (sym c.line-item.is)))
    (zip_more (take i lines) line c.args.players.now.items c.loop-line.players.items c.hear_each.new.players.items c.loop-line.invariant c.hear_each.ensures)
