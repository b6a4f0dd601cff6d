use Rattle.std.proofs.Common.{◌∙◌, Some, ap, arith, map, sym}
use Rattle.std.specs.Prelude.{option_map}
use Rattle.std.proofs.lemmas.Option.{slice_get-get_or, slice_get-map}
use Rattle.moos_post.specs.declared.value.Pair.{Pair}
use Rattle.moos_io.proofs.BufferedWriting.{each_less}
use Rattle.moos_report.specs.Report.{said_text}
use Rattle.moos_report.proofs.KeptLines.{line_from}
use Rattle.moos_report.proofs.posts.put_pairs.Goals as goal

pub put_pair-requires : goal.put_pair-requires
put_pair-requires g c =
    let pairs = c.args.pairs.now in
    let said = λ (pair : Pair). said_text c.args.stamp c.args.source.now pair.var pair.value in
    let here = slice_get-map said pairs c.loop-pair.pair-index ∙ ap (option_map said) (slice_get-get_or pairs c.loop-pair.pair-index c.pair-item.result c.loop-pair-test.true ∙ ap Some (sym c.pair-item.is)) in
    line_from c.args.first (map said pairs) c.args.lines.now c.loop-pair.pair-index c.loop-pair.number c.line.result.now (said c.pair-item.result) c.requires.kept here c.loop-pair.invariant.1 c.line.ensures

pub overflow_add-number : goal.overflow_add-number
overflow_add-number g c = omega (arith, c.requires.few, c.loop-pair.invariant.1, c.loop-pair-test.true)

pub loop-pair-preserved : goal.loop-pair-preserved
loop-pair-preserved g c = (
  each_less (λ pair. said_text c.args.stamp c.args.source.now pair.var pair.value) c.args.pairs.now c.loop-pair.pair-index c.pair-item.result c.loop-pair.invariant.0 c.loop-pair-test.true c.pair-item.is c.put_pair.ensures,
  omega (arith, c.loop-pair.invariant.1),
)
