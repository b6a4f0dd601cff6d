use Rattle.std.proofs.Common.{arith, sym}
use Rattle.std.proofs.lemmas.Option.{get_or_from_slice_get, slice_get_within}
use Rattle.moos_io.proofs.BufferedWriting.{each_less, each_none, leaves_all}
use Rattle.ivp_cert.specs.Texts.{piece_text}
use Rattle.ivp_cert.proofs.put_problem.put_pieces.Goals as goal

pub loop-number-init : goal.loop-number-init
loop-number-init g c = leaves_all _ _

pub loop-number-preserved : goal.loop-number-preserved
loop-number-preserved g c =
    let all = c.args.func.now.pieces in
    let at = c.piece.ensures.piece in
    each_less (piece_text c.args.prefix.now c.args.axes) all c.loop-number.number c.piece.result c.loop-number.invariant (slice_get_within all c.loop-number.number c.piece.result at) (sym (get_or_from_slice_get all c.loop-number.number c.piece.result c.piece.result at)) c.put_piece.ensures

pub returns : goal.returns
returns g c = each_none (piece_text c.args.prefix.now c.args.axes) c.args.func.now.pieces c.loop-number.number c.loop-number.invariant (omega arith)
