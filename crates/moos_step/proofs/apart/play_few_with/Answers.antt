use Rattle.std.proofs.Common.{◌∙◌, ◌∷◌, [], ◌++◌, Ok, ap, refl, subst, sym, take}
use Rattle.std.specs.List.{AllZip}
use Rattle.std.proofs.lemmas.List.{take_more}
use Rattle.moos_post.specs.declared.entry.Entry.{Entry}
use Rattle.moos_step.specs.Steps.{HasEnded}
use Rattle.moos_step.proofs.Few.{all_may_on, ended_more, ended_none, zip_more, zip_none}
use Rattle.moos_step.proofs.apart.play_few_with.Goals as goal

pub loop-line-init : goal.loop-line-init
loop-line-init g c = record {
  first = ended_none c.args.first.now (record c.args.first.now { ended = Ok tt }) refl;
  players = zip_none c.args.players.now.items;
}

pub hear_each-requires-after_bounds : goal.hear_each-requires-after_bounds
hear_each-requires-after_bounds g c κs within =
    all_may_on c.args.lock.now (take c.loop-line.line-index c.args.lines.now) c.args.players.now.items c.loop-line.players.items c.loop-line.invariant.players c.requires.players

pub loop-line-preserved : goal.loop-line-preserved
loop-line-preserved g c =
    let lines = c.args.lines.now in
    let i = c.loop-line.line-index in
    let line = c.line-item.result in
    let more = take_more lines i line c.loop-line-test.true ∙ ap (λ (one : Entry). take i lines ++ one ∷ []) (sym c.line-item.is) in
    record {
      first = subst (λ xs. HasEnded xs c.args.first.now c.hear.new.player) (sym more) (ended_more (take i lines) line c.args.first.now c.loop-line.first c.hear.new.player c.loop-line.invariant.first c.hear.ensures);
      players = subst (λ xs. AllZip (HasEnded xs) c.args.players.now.items c.hear_each.new.players.items) (sym more)
          (zip_more (take i lines) line c.args.players.now.items c.loop-line.players.items c.hear_each.new.players.items c.loop-line.invariant.players c.hear_each.ensures);
    }
