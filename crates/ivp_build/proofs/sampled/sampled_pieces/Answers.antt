use Rattle.std.proofs.Common.{◌≡◌, Some, arith, ap, sym, ◌∙◌, map}
use Rattle.std.proofs.lemmas.List.{take_all}
use Rattle.std.specs.Prelude.{slice_get}
use Rattle.ivp_domain.specs.declared.boxes.BoxN.{BoxN}
use Rattle.ivp_domain.specs.Boxes.{has_point}
use Rattle.ivp_func.proofs.Facts.{area_point, box_parts}
use Rattle.ivp_build.specs.Sampled.{boxes_of, sampled_piece}
use Rattle.ivp_build.proofs.Covers.{box_small, boxes_all, made_more, numbered, sampled_more}
use Rattle.ivp_build.proofs.sampled.sampled_pieces.Goals as goal

pub runs_at-requires-clause-least : goal.runs_at-requires-clause-least
runs_at-requires-clause-least g c = ap (λ (runs : BoxN). runs.low) c.all_runs-runs.ensures.runs

pub box_of_runs-area-requires-clause-within : goal.box_of_runs-area-requires-clause-within
box_of_runs-area-requires-clause-within g c = ap (λ (runs : BoxN). has_point runs c.runs_at.result) (sym c.all_runs-runs.ensures.runs) ∙ c.runs_at.ensures.inside

pub sampled_piece-requires-clause-proper : goal.sampled_piece-requires-clause-proper
sampled_piece-requires-clause-proper g c = (box_parts c.args.domain.now c.box_of_runs-area.result c.box_of_runs-area.ensures.inside).0

pub returns-clause-sampled : goal.returns-clause-sampled
returns-clause-sampled g c =
    let all = boxes_all c.args.domain.now c.args.size c.volume-count.result c.all_runs-runs.result c.all_runs-runs.ensures.runs c.volume-count.ensures.points in
    record {
      all = omega (arith, all, c.loop-number.invariant.count);
      each = c.loop-number.invariant.each;
    }

pub sampled_piece-requires-clause-few : goal.sampled_piece-requires-clause-few
sampled_piece-requires-clause-few g c = box_small c.args.domain.now c.box_of_runs-area.result c.all_runs-runs.ensures.lawful c.box_of_runs-area.ensures.inside

pub sampled_piece-requires-clause-utility : goal.sampled_piece-requires-clause-utility
sampled_piece-requires-clause-utility g c =
    record {
      callable = λ p inside. c.requires.utility.callable p (area_point c.args.domain.now c.box_of_runs-area.result p.now c.box_of_runs-area.ensures.inside inside);
      values = λ p answer inside post. c.requires.utility.values p answer (area_point c.args.domain.now c.box_of_runs-area.result p.now c.box_of_runs-area.ensures.inside inside) post;
    }

pub loop-number-preserved : goal.loop-number-preserved
loop-number-preserved g c =
    let axes = c.args.domain.now in
    let size = c.args.size in
    let area = c.box_of_runs-area.result in
    let box : slice_get (boxes_of axes size) c.loop-number.number ≡ Some area = numbered axes size c.loop-number.number c.all_runs-runs.result c.runs_at.result area c.all_runs-runs.ensures.runs c.runs_at.ensures.listed c.box_of_runs-area.ensures.area in
    let items = c.in_ok-push.ensures.items in
    record {
      count = omega (arith, c.in_ok-push.ensures.len, c.loop-number.invariant.count);
      each = λ k a x at_box at_piece. sampled_more axes size c.loop-number.number c.loop-number.pieces.items area c.sampled_piece.result c.loop-number.invariant.count box (c.sampled_piece.ensures.sampled axes c.all_runs-runs.ensures.lawful c.box_of_runs-area.ensures.inside) c.loop-number.invariant.each k a x at_box (ap (λ xs. slice_get xs k) (sym items) ∙ at_piece);
      made = λ gives computes. made_more (sampled_piece gives) (boxes_of axes size) c.loop-number.number area c.sampled_piece.result c.loop-number.pieces.items c.push.new.self.items box (c.loop-number.invariant.made gives computes) items
          (c.sampled_piece.ensures.piece gives (λ p answer inside post. computes p answer (area_point axes area p.now c.box_of_runs-area.ensures.inside inside) post));
    }

pub returns-clause-pieces : goal.returns-clause-pieces
returns-clause-pieces g c = λ gives computes.
    let axes = c.args.domain.now in
    let size = c.args.size in
    let all = boxes_all axes size c.volume-count.result c.all_runs-runs.result c.all_runs-runs.ensures.runs c.volume-count.ensures.points in
    c.loop-number.invariant.made gives computes ∙ ap (map (sampled_piece gives)) (take_all c.loop-number.number (boxes_of axes size) (omega (arith, all)))
