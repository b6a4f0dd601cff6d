use Rattle.std.proofs.Common.{◌∙◌, ap, bytes_eq, sym}
use Rattle.std.specs.List.{position}
use Rattle.script_reader.proofs.Joining.{placed_among, none_among, placed_same}
use Rattle.script_reader.proofs.variables.PostedVariables.get.Goals as goal

pub returns-in-Some-clause-found : goal.returns-in-Some-clause-found
returns-in-Some-clause-found c =
    placed_among c.args.name.now c.args.self.now c.in-Some.place
    (ap (position (λ client. bytes_eq client c.args.name.now)) (sym (c.self.invariant ∙ c.self.view_is)) ∙ sym c.in-Some.ensures)

pub returns-in-Some-clause-same : goal.returns-in-Some-clause-same
returns-in-Some-clause-same c =
    placed_same c.args.name.now c.self.inside.names.items c.in-Some.place c.index.result.now
    (ap (position (λ client. bytes_eq client c.args.name.now)) (sym c.self.invariant) ∙ sym c.in-Some.ensures)
    c.index.ensures

pub returns-in-None-clause-found : goal.returns-in-None-clause-found
returns-in-None-clause-found c =
    none_among c.args.name.now c.args.self.now
    (ap (position (λ client. bytes_eq client c.args.name.now)) (sym (c.self.invariant ∙ c.self.view_is)) ∙ sym c.in-None.ensures)
