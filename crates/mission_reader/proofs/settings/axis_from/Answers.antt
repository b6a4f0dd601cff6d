use Rattle.std.proofs.Common.{map, ◌∙◌, sym}
use Rattle.std.proofs.lemmas.List.{length-map}
use Rattle.axis_reader.specs.Fields.{fields_of}
use Rattle.axis_reader.proofs.Cuts.{not_four}
use Rattle.moos_text.specs.Lines.{trimmed}
use Rattle.mission_reader.proofs.settings.axis_from.Goals as goal

pub returns-in_err-fields : goal.returns-in_err-fields
returns-in_err-fields c =
    let fields = fields_of c.args.text.now in
    rw c.from_residual.ensures (sym (not_four (map trimmed fields) (λ four. c.in_err-fields.ensures (sym (length-map fields trimmed) ∙ four))))
