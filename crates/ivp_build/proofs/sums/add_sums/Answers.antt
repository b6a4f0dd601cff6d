use Rattle.std.proofs.Common.{◌+◌, ◌++◌, List, Option, length, arith, ap, subst, ◌∙◌}
use Rattle.std.specs.Option.{option_to_list}
use Rattle.ivp_func.specs.declared.piece.Piece.{Piece}
use Rattle.ivp_func.proofs.Facts.{piece_parts}
use Rattle.ivp_build.specs.Faults.{IsTooMany}
use Rattle.ivp_build.proofs.Meets.{met_end, met_many, met_step}
use Rattle.ivp_build.proofs.sums.add_sums.Goals as goal

pub next_meet-requires : goal.next_meet-requires
next_meet-requires c = (piece_parts c.args.g.now.axes c.args.one.now c.requires.one).0

pub overflow_add-from : goal.overflow_add-from
overflow_add-from c = omega (arith, c.in-Some.ensures.some)

pub met_sum-sum-requires-clause-p : goal.met_sum-sum-requires-clause-p
met_sum-sum-requires-clause-p c = (piece_parts c.args.g.now.axes c.args.one.now c.requires.one).1

pub met_sum-sum-requires-clause-q : goal.met_sum-sum-requires-clause-q
met_sum-sum-requires-clause-q c = (piece_parts c.args.g.now.axes c.piece.result c.piece.ensures.fits).1

pub returns-in-Err-clause-many : goal.returns-in-Err-clause-many
returns-in-Err-clause-many c =
    let many = subst (λ (o : Option Piece). IsTooMany (length c.loop-number.pieces.items + length (option_to_list o)) c.in-Err.fault) c.met_sum-sum.ensures c.in-Err.ensures.many in
    met_many c.args.one.now c.args.g.now.pieces c.loop-number.from c.in-Some.number c.piece.result c.loop-number.pieces.items c.args.pieces.now.items c.in-Err.fault c.in-Some.ensures.some.0 c.in-Some.ensures.least c.piece.ensures.piece c.loop-number.invariant.added many

pub loop-number-preserved : goal.loop-number-preserved
loop-number-preserved c =
    let some = c.in-Some.ensures.some in
    let new = c.in_default-add.ensures.added ∙ ap (λ o. c.loop-number.pieces.items ++ option_to_list o) c.met_sum-sum.ensures in
    record {
      added = met_step c.args.one.now c.args.g.now.pieces c.loop-number.from c.in-Some.number c.piece.result c.loop-number.pieces.items c.args.pieces.now.items c.add.new.pieces.items some.0 c.in-Some.ensures.least c.piece.ensures.piece c.loop-number.invariant.added new;
      few = c.in_default-add.ensures.few;
      within = omega (arith, some.1);
    }

pub returns-clause-added : goal.returns-clause-added
returns-clause-added c =
    c.loop-number.invariant.added ∙ ap (λ (xs : List Piece). c.args.pieces.now.items ++ xs) (met_end c.args.one.now c.args.g.now.pieces c.loop-number.from (c.in_default.ensures.none))
