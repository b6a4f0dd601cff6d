use Rattle.std.proofs.Common.{◌∙◌, ap, bytes_eq, sym, ◌++◌, ◌∷◌, []}
use Rattle.std.specs.List.{list_any}
use Rattle.script_reader.specs.Script.{with_client}
use Rattle.script_reader.proofs.Joining.{new_joins}
use Rattle.script_reader.proofs.variables.PostedVariables.insert.Goals as goal

pub invariant_of-self-2 : goal.invariant_of-self-2
invariant_of-self-2 c =
    let name = c.args.name.now in
    let names = c.self.inside.names.items in
    c.in_ok-join.ensures.joined
    ∙ ap (with_client c.self.inside.places) c.bytes.ensures.value
    ∙ ap (λ known. with_client known name) c.self.invariant
    ∙ new_joins name names (ap (list_any (bytes_eq name)) c.self.view_is ∙ c.requires)
    ∙ sym (c.push_reserved.ensures.items ∙ ap (λ before. before ++ c.in_ok-shared.shared ∷ []) c.reserve.ensures.items ∙ ap (λ one. names ++ one ∷ []) c.in_ok-shared.ensures)
