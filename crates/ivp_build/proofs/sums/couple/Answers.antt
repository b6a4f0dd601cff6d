use Rattle.std.proofs.Common.{List, length, ◌≤◌, ap, subst, sym, ◌∙◌, arith}
use Rattle.ivp_domain.specs.declared.axis.Axis.{Axis}
use Rattle.ivp_func.specs.declared.piece.Piece.{Piece}
use Rattle.ivp_func.specs.Functions.{Function}
use Rattle.ivp_func.specs.Pieces.{is_piece_of, value_at}
use Rattle.ivp_build.proofs.Meets.{couple_all, couple_many, couple_more}
use Rattle.ivp_build.proofs.Totals.{AreCoupled, couple_function, couple_value, coupled}
use Rattle.ivp_build.proofs.sums.couple.Goals as goal

pub returns-in-Err-clause-many : goal.returns-in-Err-clause-many
returns-in-Err-clause-many c = couple_many c.args.f.now.pieces c.args.g.now.pieces c.loop-number.number c.piece.result c.loop-number.pieces.items c.in-Err.fault c.piece.ensures.piece c.loop-number.invariant.added c.in-Err.ensures.many

pub loop-number-preserved : goal.loop-number-preserved
loop-number-preserved c =
    record {
      added = couple_more c.args.f.now.pieces c.args.g.now.pieces c.loop-number.number c.piece.result c.loop-number.pieces.items c.add_sums.new.pieces.items c.piece.ensures.piece c.loop-number.invariant.added c.in_default.ensures.added;
      few = c.in_default.ensures.few;
    }

pub of_pieces-requires : goal.of_pieces-requires
of_pieces-requires c =
    let both : AreCoupled c.args.f.now.axes c.args.f.now.pieces c.args.g.now.pieces = coupled c.args.f.now c.args.g.now c.func_law.ensures c.func_law-2.ensures c.requires.domain c.requires.room c.requires.apart in
    let all = couple_all c.args.f.now.pieces c.args.g.now.pieces c.loop-number.number c.loop-number.pieces.items (omega arith) c.loop-number.invariant.added in
    couple_function c.args.f.now.axes c.domain.result c.args.f.now.pieces c.args.g.now.pieces c.loop-number.pieces.items both c.domain.ensures all c.loop-number.invariant.few

pub add_sums-requires-clause-one : goal.add_sums-requires-clause-one
add_sums-requires-clause-one c = ap (λ (axes : List Axis). is_piece_of axes c.piece.result) (sym c.requires.domain) ∙ c.piece.ensures.fits

pub returns-in-Ok-clause-pieces : goal.returns-in-Ok-clause-pieces
returns-in-Ok-clause-pieces c =
    let all = couple_all c.args.f.now.pieces c.args.g.now.pieces c.loop-number.number c.loop-number.pieces.items (omega arith) c.loop-number.invariant.added in
    let made = c.in-Ok.ensures in
    made ∙ ap (λ axes. record { axes = axes; pieces = c.loop-number.pieces.items }) c.domain.ensures ∙ ap (λ pieces. record { axes = c.args.f.now.axes; pieces = pieces }) all

pub returns-in-Ok-clause-few : goal.returns-in-Ok-clause-few
returns-in-Ok-clause-few c =
    let all = couple_all c.args.f.now.pieces c.args.g.now.pieces c.loop-number.number c.loop-number.pieces.items (omega arith) c.loop-number.invariant.added in
    subst (λ (pieces : List Piece). length pieces ≤ 4096) all c.loop-number.invariant.few

pub returns-in-Ok-clause-value : goal.returns-in-Ok-clause-value
returns-in-Ok-clause-value c = λ p inside.
    let both : AreCoupled c.args.f.now.axes c.args.f.now.pieces c.args.g.now.pieces = coupled c.args.f.now c.args.g.now c.func_law.ensures c.func_law-2.ensures c.requires.domain c.requires.room c.requires.apart in
    let all = couple_all c.args.f.now.pieces c.args.g.now.pieces c.loop-number.number c.loop-number.pieces.items (omega arith) c.loop-number.invariant.added in
    let made = c.in-Ok.ensures in
    ap (λ (f : Function). value_at f.pieces p) made ∙ ap (λ (xs : List Piece). value_at xs p) all ∙ couple_value c.args.f.now.axes c.args.f.now.pieces c.args.g.now.pieces both p inside
