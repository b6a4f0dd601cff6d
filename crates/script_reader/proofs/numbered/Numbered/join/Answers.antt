use Rattle.std.proofs.Common.{◌∙◌, ap, map}
use Rattle.script_reader.specs.Script.{with_client}
use Rattle.script_reader.proofs.Joining.{inserted}
use Rattle.script_reader.proofs.numbered.Numbered.join.Goals as goal

pub returns-clause-joined : goal.returns-clause-joined
returns-clause-joined c =
    ap (map (λ name. name.items)) c.in_ok-insert.ensures.keys
    ∙ inserted (λ name. name.items) c.in_ok-name.name c.self.inside.set.keys
    ∙ ap (with_client (map (λ name. name.items) c.self.inside.set.keys)) c.in_ok-name.ensures.items
    ∙ ap (λ clients. with_client clients c.args.name.now) c.self.view_is
