use Rattle.std.proofs.Common.{length, ap, ◌∙◌}
use Rattle.ivp_cert.proofs.Fitting.{fits_by_box}
use Rattle.ivp_cert.proofs.stage.add_piece.Goals as goal

pub add_piece-requires : goal.add_piece-requires
add_piece-requires c = fits_by_box c.args.sum.now.before.axes c.axes.result c.in-Some.piece (c.axes.ensures.count ∙ ap length c.domain.ensures) c.in-Some.ensures.good
