use Rattle.std.proofs.Common.{◌∙◌, ap, bytes_eq}
use Rattle.std.specs.List.{position}
use Rattle.script_reader.proofs.Joining.{looked_up}
use Rattle.script_reader.proofs.numbered.Numbered.number_of.Goals as goal

pub returns : goal.returns
returns c =
    c.get_index_of.ensures.index ∙ looked_up (λ name. name.items) c.args.name.now c.self.inside.set.keys
    ∙ ap (position (λ client. bytes_eq client c.args.name.now)) c.self.view_is
