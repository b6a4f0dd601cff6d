use Rattle.std.proofs.Common.{[], subst, sym}
use Rattle.helm_core.specs.Doers.{IsDoerOf}
use Rattle.helm_core.proofs.Turning.{kept_at_first}
use Rattle.helm_core.proofs.behavior_list.kept_first.Goals as goal

pub returns : goal.returns
returns c =
    let made = subst (IsDoerOf c.in_ok-spec.spec []) (sym c.in_ok-doer.ensures) c.make.ensures in
    let first = kept_at_first c.args.domain.now c.args.block.now c.args.place c.in_ok-spec.spec c.in_ok-name.name c.in_ok-doer.doer c.make-2.result c.requires.may_step c.in_ok-spec.ensures c.in_ok-name.ensures made c.make-2.ensures in
    record { stands = first.0; fit = λ blocks within. record { within = within; ready = first.1 } }
