use Rattle.std.proofs.Common.{◌≡◌, ◌∙◌, ◌<◌, ℕ, ap, length, refl, slice_get, slice_set, Some, subst, sym}
use Rattle.std.proofs.lemmas.Option.{get_or_from_slice_get, slice_get-get_or}
use Rattle.moos_db.specs.Subscriptions.{VariableState, VariablesState}
use Rattle.moos_db.specs.Registering.{IsCaught}
use Rattle.moos_db.proofs.AfterRegistering.{noted-below, numbers-kept, set-names}
use Rattle.moos_db.proofs.variables.Variables.catch_up.Goals as goal

pub invariant_of-self : goal.invariant_of-self
invariant_of-self c =
    let before : VariablesState = record { all = c.self.inside.all.items; numbers = c.self.inside.numbers; noted = c.self.inside.noted.items } in
    let place : ℕ = c.index-place.result.now in
    let one : VariableState = c.index_mut.result.now in
    let number : c.args.number < length before.noted = subst (λ (v : VariablesState). c.args.number < length v.noted) (sym c.self.view_is) c.requires in
    let below : place < length before.all = noted-below before c.args.number place c.self.invariant number c.index-place.ensures in
    let there : slice_get before.all place ≡ Some one = slice_get-get_or before.all place one below ∙ ap (λ x. Some x) (sym c.index_mut.ensures.value) in
    numbers-kept before _ (set-names before.all place one c.catch_up.new.self there (ap (λ (v : VariableState). v.name) c.catch_up.ensures.same)) refl refl c.self.invariant

pub returns : goal.returns
returns c =
    let before : VariablesState = record { all = c.self.inside.all.items; numbers = c.self.inside.numbers; noted = c.self.inside.noted.items } in
    let place : ℕ = c.index-place.result.now in
    let one : VariableState = c.index_mut.result.now in
    let number : c.args.number < length before.noted = subst (λ (v : VariablesState). c.args.number < length v.noted) (sym c.self.view_is) c.requires in
    let below : place < length before.all = noted-below before c.args.number place c.self.invariant number c.index-place.ensures in
    let there : slice_get before.all place ≡ Some one = slice_get-get_or before.all place one below ∙ ap (λ x. Some x) (sym c.index_mut.ensures.value) in
    let caught : IsCaught c.args.client c.args.made c.args.stamp c.args.source.now place c.catch_up.result before (record before { all = slice_set before.all place c.catch_up.new.self })
    = record {
      variable = one;
      numbering = c.self.invariant.numbering;
      there = there;
      catches = c.catch_up.ensures.catches;
      room = c.catch_up.new.self.room;
      all = ap (slice_set before.all place) c.catch_up.ensures.same;
      numbers = refl;
      noted = refl;
    } in
    λ other at.
    let same : place ≡ other
    = c.index-place.ensures ∙ get_or_from_slice_get before.noted c.args.number other place (ap (λ (v : VariablesState). slice_get v.noted c.args.number) c.self.view_is ∙ at) in
    subst (λ n. IsCaught c.args.client c.args.made c.args.stamp c.args.source.now n c.catch_up.result c.args.self.now (record before { all = slice_set before.all place c.catch_up.new.self })) same
    (subst (λ v. IsCaught c.args.client c.args.made c.args.stamp c.args.source.now place c.catch_up.result v (record before { all = slice_set before.all place c.catch_up.new.self })) c.self.view_is caught)
