use Rattle.std.proofs.Common.{◌∙◌, map, subst}
use Rattle.moos_db.specs.Tables.{GetsNumber}
use Rattle.moos_db.proofs.Rows.{numbered, row}
use Rattle.moos_db.proofs.table.Table.set.Goals as goal

pub returns-clause-ok : goal.returns-clause-ok
returns-clause-ok c =
    let set = c.in_ok-insert.ensures.updates in
    let after = map (row (λ key. key.items)) c.insert.new.self.entries in
    subst (λ before. GetsNumber c.args.var.now c.args.number before after) c.self.view_is
    (subst (λ var. GetsNumber var c.args.number (map (row (λ key. key.items)) c.self.inside.rows.entries) after) (c.in_ok-var.ensures.items ∙ c.bytes.ensures.value)
    (numbered (λ key. key.items) c.in_ok-var.var.items c.args.number c.self.inside.rows.entries c.insert.new.self.entries set.3 set.1))
