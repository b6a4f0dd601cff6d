use Rattle.std.proofs.Common.{◌≡◌, false, ap, subst, sym, ◌∙◌}
use Rattle.std.specs.List.{list_any}
use Rattle.helm_core.specs.Standings.{BehaviorListState, is_called_in}
use Rattle.helm_core.specs.Ticks.{pairs_mailed}
use Rattle.helm_core.proofs.behavior_list.BehaviorList.turned.Goals as goal

pub turned_uncalled-requires : goal.turned_uncalled-requires
turned_uncalled-requires c =
    let called = is_called_in (pairs_mailed c.args.letters.now) in
    record {
      uncalled = subst (λ (behavior_list : BehaviorListState). list_any called behavior_list.blocks ≡ false) c.self.view_is
          (ap (list_any called) (sym c.all.ensures) ∙ sym c.calls_some.ensures ∙ c.if-calls_some.false);
    }
