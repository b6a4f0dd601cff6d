use Rattle.std.proofs.Common.{◌∙◌, ap, map}
use Rattle.moos_db.specs.Tables.{number_of}
use Rattle.moos_db.proofs.Rows.{row, looked_up}
use Rattle.moos_db.proofs.table.Table.number_of.Goals as goal

pub returns : goal.returns
returns c =
    c.copied.ensures ∙ c.get.ensures.value
    ∙ looked_up (λ key. key.items) c.bytes.result.now c.self.inside.rows.entries
    ∙ ap (λ var. number_of var (map (row (λ key. key.items)) c.self.inside.rows.entries)) c.bytes.ensures.value
    ∙ ap (number_of c.args.var.now) c.self.view_is
