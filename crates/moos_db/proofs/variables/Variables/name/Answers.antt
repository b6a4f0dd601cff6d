use Rattle.std.proofs.Common.{◌≡◌, ◌<◌, ◌∙◌, Some, ap, length, slice_get, subst, sym}
use Rattle.std.proofs.lemmas.Option.{slice_get-get_or}
use Rattle.moos_db.specs.Subscriptions.{AreNoted, VariableState, VariablesState}
use Rattle.moos_db.proofs.Changes.{name-noted}
use Rattle.moos_db.proofs.variables.Variables.name.Goals as goal

pub returns : goal.returns
returns c = λ vars noted.
    let inside : VariablesState = record { all = c.self.inside.all.items; numbers = c.self.inside.numbers; noted = c.self.inside.noted.items } in
    let below : c.args.post < length inside.noted = subst (λ (v : VariablesState). c.args.post < length v.noted) (sym c.self.view_is) c.requires in
    let number : slice_get inside.noted c.args.post ≡ Some c.index.result.now = slice_get-get_or inside.noted c.args.post c.index.result.now below ∙ ap (λ n. Some n) (sym c.index.ensures) in
    let within : c.index.result.now < length inside.all = subst (λ n. n < length inside.all) (sym c.index.ensures) (c.self.invariant.noted c.args.post c.index.result.now below) in
    let there : slice_get inside.all c.index.result.now ≡ Some c.index-2.result.now = slice_get-get_or inside.all c.index.result.now c.index-2.result.now within ∙ ap (λ v. Some v) (sym c.index-2.ensures) in
    name-noted vars inside c.args.post c.index.result.now c.index-2.result.now number there (subst (AreNoted vars) (sym c.self.view_is) noted)
    ∙ ap (λ (v : VariableState). Some v.name) (sym c.behind-self.view_is)
