use Rattle.contact_avoid.proofs.Fields.{cut_at}
use Rattle.contact_avoid.proofs.report.cut_at_comma.Goals as goal

pub returns-then-end-text-clause-fields : goal.returns-then-end-text-clause-fields
returns-then-end-text-clause-fields c = cut_at c.args.text.now c.field_end-end.result c.field_end-end.ensures.end c.if-end-text.true
