use Rattle.std.proofs.Common.{◌≡◌, ◌≤◌, true, List, ◌∷◌, ◌++◌, [], length, length-append, ap, sym, ◌∙◌, arith}
use Rattle.ivp_domain.specs.declared.axis.Axis.{Axis}
use Rattle.ivp_func.specs.Pieces.{is_piece_of}
use Rattle.ivp_cert.proofs.Sums.{one_more}
use Rattle.ivp_cert.proofs.unfinished.Unfinished.add_piece.Goals as goal
use Rattle.ivp_cert.proofs.unfinished.Unfinished.add_piece.Goals.{in-Ok, in-Err}

pub invariant_of-self : goal.invariant_of-self
invariant_of-self c =
    let axes = c.self.inside.before.axes in
    let before = c.self.inside.pieces.items in
    let after = c.push.new.self.items in
    let piece = c.args.piece in
    let here : is_piece_of axes piece ≡ true =
    ap (λ (over : List Axis). is_piece_of over piece) (sym c.domain.ensures) ∙ (sym c.is_piece_of.ensures ∙ c.if-not-is_piece_of.false) in
    elim c.match-push.branch [
      | in-Ok w ↦
          let more : after ≡ before ++ piece ∷ [] = w.in-Ok.ensures.items in
          let few : length after ≤ 4096 = omega (arith, c.if-len-ge-MOST_PIECES.false, c.len.ensures, ap length more, length-append before (piece ∷ [])) in
          (c.self.invariant.0, c.self.invariant.1, few, one_more (is_piece_of axes) before after piece more c.self.invariant.3 here)
      | in-Err w ↦ rw w.in-Err.ensures.items c.self.invariant
    ]
