use Rattle.std.proofs.Common.{◌∙◌, ap, length, subst, sym, rules}
use Rattle.std.specs.List.{AllZip}
use Rattle.moos_step.specs.declared.player.Player.{Player}
use Rattle.moos_step.specs.Steps.{HasEnded}
use Rattle.moos_step.proofs.Taking.{written, zip_all}
use Rattle.moos_step.proofs.step.play_each.Goals as goal

pub returns : goal.returns
returns g c =
    let zip = zip_all (HasEnded c.args.lines.now) c.as_mut_slice.result.now c.for_each_mut.new.s c.for_each_mut.auto.s (λ i d below.
    let k = (c.for_each_mut.ensures i d below).1 in
    subst (λ (y : Player × Player). HasEnded c.args.lines.now y.0 y.1) (λ z. (k.argument_is z, k.left z)) k.call) in
    subst (AllZip (HasEnded c.args.lines.now) c.args.players.now.items) (sym (written c.args.players.now.len c.args.players.now.items c.for_each_mut.new.s (c.for_each_mut.auto.s ∙ ap length c.as_mut_slice.ensures.value) (search rules)))
    (subst (λ xs. AllZip (HasEnded c.args.lines.now) xs c.for_each_mut.new.s) c.as_mut_slice.ensures.value zip)
