use Rattle.std.proofs.Common.{refl}
use Rattle.helm_core.proofs.Learning.{helm_view_first}
use Rattle.helm_core.proofs.helm_view.HelmView.blank.Goals as goal

pub returns : goal.returns
returns c = helm_view_first c.args.modes.now _ c.make-info.ensures refl c.in_ok-mode.ensures
