use Rattle.std.proofs.Common.{◌∙◌, ap, bytes_eq, sym}
use Rattle.std.specs.List.{position}
use Rattle.script_reader.proofs.Joining.{is_new, known_client}
use Rattle.script_reader.proofs.reading.ScriptReading.client_of.Goals as goal

pub join-requires-clause-new : goal.join-requires-clause-new
join-requires-clause-new c =
    let name = c.args.name.now in
    is_new c.args.self.now.script.names name (ap (position (λ client. bytes_eq client name)) (sym c.requires.joined) ∙ sym c.in-None.ensures)

pub returns-in-Some-clause-client : goal.returns-in-Some-clause-client
returns-in-Some-clause-client c =
    let name = c.args.name.now in
    known_client c.args.self.now.script.names name c.in-Some.number c.requires.named c.requires.own c.requires.few
    (ap (position (λ client. bytes_eq client name)) (sym c.requires.joined) ∙ sym c.in-Some.ensures)
