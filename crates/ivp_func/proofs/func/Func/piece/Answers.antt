use Rattle.std.proofs.Common.{◌≡◌, ◌<◌, refl, true, length, sym, subst}
use Rattle.std.proofs.lemmas.Option.{slice_get_read}
use Rattle.ivp_func.specs.Functions.{Function}
use Rattle.ivp_func.specs.Pieces.{is_piece_of}
use Rattle.ivp_func.proofs.Facts.{passes_at}
use Rattle.ivp_func.proofs.func.Func.piece.Goals as goal

pub returns-clause-fits : goal.returns-clause-fits
returns-clause-fits c =
    let axes = c.body.result.now.domain in
    let pieces = c.body.result.now.pieces.items in
    let piece = c.index.result.now in
    let within : c.args.i < length pieces = subst (λ (f : Function). c.args.i < length f.pieces) (sym c.body.ensures.function) c.requires in
    subst (λ (f : Function). is_piece_of f.axes piece ≡ true) c.body.ensures.function
    (passes_at (is_piece_of axes) pieces c.args.i piece c.body.ensures.kept.function.pieces (slice_get_read pieces (length pieces) c.args.i piece refl within c.index.ensures))
