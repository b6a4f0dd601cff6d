use Rattle.std.proofs.Common.{◌∙◌, ap}
use Rattle.helm_core.specs.Kept.{known_after}
use Rattle.helm_core.specs.Ticks.{pairs_mailed}
use Rattle.helm_core.proofs.Learning.{helm_view_more}
use Rattle.helm_core.proofs.helm_view.HelmView.with.Goals as goal

pub returns : goal.returns
returns c =
    helm_view_more c.args.modes.now c.args.letters.now c.args.self.now _
    (c.in_ok-learn_all.ensures ∙ ap (λ known. known_after known (pairs_mailed c.args.letters.now)) (λ i var. c.in_ok-info.ensures var i))
    c.parked_after.ensures c.in_ok-mode.ensures
