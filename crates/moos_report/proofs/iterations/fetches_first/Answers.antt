use Rattle.std.proofs.Common.{sym, ◌∙◌}
use Rattle.moos_report.proofs.Reporting.{first_fetch, first_later, first_post}
use Rattle.moos_report.proofs.iterations.fetches_first.Goals as goal

pub returns-then-is_helm_fetch : goal.returns-then-is_helm_fetch
returns-then-is_helm_fetch c =
    first_fetch c.args.db.now.names c.args.db.now.history c.loop-k.k c.args.from c.entry-entry.ensures c.loop-k.invariant (sym c.is_helm_fetch.ensures ∙ c.if-is_helm_fetch.true)

pub returns-then-is_helm_post : goal.returns-then-is_helm_post
returns-then-is_helm_post c =
    first_post c.args.db.now.names c.args.db.now.history c.loop-k.k c.args.from c.entry-entry.ensures c.loop-k.invariant (sym c.is_helm_fetch.ensures ∙ c.if-is_helm_fetch.false)
    (sym c.is_helm_post.ensures ∙ c.if-is_helm_post.true)

pub loop-k-preserved : goal.loop-k-preserved
loop-k-preserved c =
    first_later c.args.db.now.names c.args.db.now.history c.loop-k.k c.args.from c.entry-entry.ensures c.loop-k.invariant (sym c.is_helm_fetch.ensures ∙ c.if-is_helm_fetch.false)
    (sym c.is_helm_post.ensures ∙ c.if-is_helm_post.false)
