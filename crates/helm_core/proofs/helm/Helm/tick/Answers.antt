use Rattle.std.proofs.Common.{List, ap, sym, subst, subst₂, ◌∙◌}
use Rattle.std.specs.Prelude.{unwrap_or}
use Rattle.moos_db.specs.declared.mail.Letter.{Letter}
use Rattle.helm_core.specs.declared.helm_view.HelmView.{HelmView}
use Rattle.helm_core.specs.Helms.{HasLearnt, IsTicked}
use Rattle.helm_core.specs.Kept.{HasHeardAndTurned, helm_after, iteration_by}
use Rattle.helm_core.specs.Posts.{allstop_by}
use Rattle.helm_core.specs.Ticks.{pairs_mailed}
use Rattle.helm_core.proofs.Ticking.{ticked}
use Rattle.helm_core.proofs.helm.Helm.tick.Goals as goal

pub returns-clause-ticked : goal.returns-clause-ticked
returns-clause-ticked g c =
    let fresh = unwrap_or c.in_ok-fresh.fresh c.args.self.now.helm_view in
    let allstop = c.in_ok-iteration.allstop in
    let is = c.in_ok-iteration.ensures.iterated in
    let turned = is.turned in
    subst₂ (λ helm iteration. IsTicked c.args.self.now helm c.args.stamp c.args.mail.now iteration)
    (sym (c.end.ensures ∙ ap (λ kept. helm_after c.args.self.now c.args.stamp fresh kept allstop) is.keeps))
    (sym (is.is ∙ ap (λ (now : HelmView). iteration_by c.args.self.now c.args.stamp now is.answers turned.showings.items) c.now-now.ensures))
    (ticked c.args.self.now c.args.stamp c.args.mail.now fresh is.answers turned allstop
    (subst (λ (mail : List Letter). HasLearnt c.args.self.now.modes mail c.args.self.now.helm_view fresh) c.all.ensures c.in_ok-fresh.ensures)
    (subst₂ (λ (mail : List Letter) (now : HelmView). HasHeardAndTurned c.args.self.now.behavior_list c.args.stamp (pairs_mailed mail) now is.answers turned) c.all-2.ensures c.now-now.ensures is.ended)
    (is.stops ∙ ap (λ (now : HelmView). allstop_by c.args.self.now.behavior_list.axes now.parked turned.showings.items) c.now-now.ensures)
    c.requires.stamp)
