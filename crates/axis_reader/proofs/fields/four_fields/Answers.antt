use Rattle.axis_reader.proofs.Cuts.{fifth_field}
use Rattle.axis_reader.proofs.fields.four_fields.Goals as goal

pub returns-in-Some : goal.returns-in-Some
returns-in-Some c =
    fifth_field c.args.text.now _ _ _ _ c.in_ok-name.rest.now c.in_ok-low.rest.now c.in_ok-high.points.now c.in-Some.field-0.1.now c.in_ok-name.ensures
    c.in_ok-low.ensures c.in_ok-high.ensures c.in-Some.ensures
