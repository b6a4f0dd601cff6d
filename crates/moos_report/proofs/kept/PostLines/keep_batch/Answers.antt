use Rattle.std.proofs.Common.{◌∙◌, Some, ap, arith, sym}
use Rattle.std.specs.Prelude.{option_map, slice_get}
use Rattle.std.proofs.lemmas.Option.{slice_get-get_or, slice_get-map}
use Rattle.moos_post.specs.declared.value.Pair.{Pair}
use Rattle.moos_report.specs.Report.{said_text}
use Rattle.moos_report.proofs.KeptLines.{kept_more}
use Rattle.moos_report.proofs.kept.PostLines.keep_batch.Goals as goal

pub overflow_add-number : goal.overflow_add-number
overflow_add-number c = omega (arith, c.requires, c.loop-pair.invariant.number, c.loop-pair-test.true)

pub loop-pair-preserved : goal.loop-pair-preserved
loop-pair-preserved c =
    let pairs = c.args.pairs.now in
    let said = λ (pair : Pair). said_text c.args.stamp c.args.source.now pair.var pair.value in
    let here = slice_get-map said pairs c.loop-pair.pair-index ∙ ap (option_map said) (slice_get-get_or pairs c.loop-pair.pair-index c.pair-item.result c.loop-pair-test.true ∙ ap Some (sym c.pair-item.is)) in
    record {
      number = omega (arith, c.loop-pair.invariant.number);
      kept = λ texts stands so.
          kept_more texts c.loop-pair.self c.keep.new.self c.loop-pair.number c.of_post.result (said c.pair-item.result) c.keep.ensures c.of_post.ensures
          (ap (slice_get texts) c.loop-pair.invariant.number ∙ stands c.loop-pair.pair-index (said c.pair-item.result) here) (c.loop-pair.invariant.kept texts stands so);
    }
