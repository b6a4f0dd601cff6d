use Rattle.std.proofs.Common.{◌+◌, refl, arith, take, drop, subst, sym, ◌∙◌}
use Rattle.moos_db.proofs.Growth.{posts-more, posts-take}
use Rattle.moos_io.proofs.BufferedWriting.{leaves_all, leaves_failed, leaves_less}
use Rattle.moos_report.specs.IterationLines.{is_helm_fetch}
use Rattle.moos_report.specs.Lines.{KeepsLines}
use Rattle.moos_report.specs.Report.{entries_text}
use Rattle.moos_report.proofs.Reporting.{entries_due, fetches_more, once_at_most, outcome_counted}
use Rattle.moos_report.proofs.put_entries.Goals as goal

pub loop-k-init : goal.loop-k-init
loop-k-init g c =
    let history = c.args.db.now.history in (
      leaves_all _ (entries_text c.args.setup.now c.args.first c.args.iterations.now c.args.db.now.names (take c.args.from history) (drop c.args.from history)),
      c.posts_before-posts.ensures,
      c.fetches_before-fetches.ensures.few,
      c.fetches_before-fetches.ensures.counted,
      subst (KeepsLines c.args.db.now.names history) (sym c.kept.view_is) c.requires.kept,
    )

pub overflow_add-posts : goal.overflow_add-posts
overflow_add-posts g c =
    let history = c.args.db.now.history in
    let more = posts-more history c.loop-k.k c.entry-entry.ensures in
    let within = posts-take history (c.loop-k.k + 1) in
    omega (arith, more, within, c.loop-k.invariant.1, c.posts_in-posts.ensures, c.posts.ensures, c.posts.type_inv)

pub fetches_after-fetches-requires : goal.fetches_after-fetches-requires
fetches_after-fetches-requires g c = omega (arith, c.loop-k.invariant.2, c.loop-k-test.true, c.entries-k-end.type_inv)

pub loop-k-preserved : goal.loop-k-preserved
loop-k-preserved g c =
    let history = c.args.db.now.history in
    let names = c.args.db.now.names in
    let entry = c.entry-entry.result.now in
    let due = entries_due c.args.setup.now c.args.first c.args.iterations.now names history c.loop-k.k c.entry-entry.ensures in
    let counted = outcome_counted c.args.setup.now c.args.first c.args.iterations.now names (take c.loop-k.k history) entry c.loop-k.fetches c.loop-k.invariant.3 in
    let outcome = rw counted at c.put_outcome.ensures in
    let posts = posts-more history c.loop-k.k c.entry-entry.ensures in
    let fetches = fetches_more names history c.loop-k.k c.entry-entry.ensures in (
      leaves_less (leaves_less c.loop-k.invariant.0 due c.put_entry.ensures) refl outcome,
      omega (arith, posts, c.loop-k.invariant.1, c.posts_in-posts.ensures),
      omega (arith, c.loop-k.invariant.2, once_at_most (is_helm_fetch names entry), c.fetches_after-fetches.ensures),
      (λ some. omega (arith, fetches, c.loop-k.invariant.3 some, c.fetches_after-fetches.ensures)),
      c.keep_lines.ensures,
    )

pub returns-then-failed-clause-wrote : goal.returns-then-failed-clause-wrote
returns-then-failed-clause-wrote g c = leaves_failed c.loop-k.invariant.0 (sym c.failed.ensures ∙ c.if-failed.true)
