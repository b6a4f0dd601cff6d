use Rattle.std.proofs.Common.{◌∙◌, ap, length, subst, sym, rules}
use Rattle.std.specs.List.{AllZip}
use Rattle.moos_step.specs.declared.player.Player.{Player}
use Rattle.moos_step.specs.Steps.{HasHeard}
use Rattle.moos_step.proofs.Taking.{written, zip_all}
use Rattle.moos_step.proofs.apart.hear_each.Goals as goal

pub returns : goal.returns
returns g c =
    let zip = zip_all (HasHeard c.args.line.now) c.as_mut_slice.result.now c.for_each_mut.new.s c.for_each_mut.auto.s (λ i d below.
    let k = (c.for_each_mut.ensures i d below).1 in
    subst (λ (y : Player × Player). HasHeard c.args.line.now y.0 y.1) (λ z. (k.argument_is z, k.left z)) k.call) in
    subst (AllZip (HasHeard c.args.line.now) c.args.players.now.items) (sym (written c.args.players.now.len c.args.players.now.items c.for_each_mut.new.s (c.for_each_mut.auto.s ∙ ap length c.as_mut_slice.ensures.value) (search rules)))
    (subst (λ xs. AllZip (HasHeard c.args.line.now) xs c.for_each_mut.new.s) c.as_mut_slice.ensures.value zip)
