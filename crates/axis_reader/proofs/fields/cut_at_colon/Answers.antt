use Rattle.std.proofs.Common.{◌+◌, ◌∷◌, take, ap, sym, ◌∙◌}
use Rattle.moos_text.proofs.Numerals.{from_place}
use Rattle.axis_reader.specs.Fields.{fields_of}
use Rattle.axis_reader.proofs.Cuts.{fields_cut}
use Rattle.axis_reader.proofs.fields.cut_at_colon.Goals as goal

pub returns-in-Some : goal.returns-in-Some
returns-in-Some c =
    let text = c.args.text.now in
    let place = c.in-Some.place in
    fields_cut text place (sym c.in-Some.ensures) ∙ ap (λ rest. take place text ∷ fields_of rest) (from_place (place + 1) text)
