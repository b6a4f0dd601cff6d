use Rattle.std.proofs.Common.{◌≡◌, ℕ, List, [], true, false, Some, ap, subst, sym, ◌∙◌}
use Rattle.std.specs.Prelude.{IfSome}
use Rattle.std.specs.List.{list_any}
use Rattle.moos_text.specs.Pairs.{sides_of}
use Rattle.bhv_file.specs.Validity.{IsValidSpec}
use Rattle.bhv_file.specs.Updates.{is_of_places, update_parts, updated}
use Rattle.bhv_file.proofs.Pairwise.{updated_axes}
use Rattle.bhv_kinds.specs.Kinds.{kind_now}
use Rattle.bhv_kinds.specs.Standing.{IsKindOf, axes_needed}
use Rattle.bhv_kinds.proofs.Keeping.{moves}
use Rattle.bhv_kinds.proofs.kind.Kind.update.Goals as goal

pub returns-then-names_places-clause-stands : goal.returns-then-names_places-clause-stands
returns-then-names_places-clause-stands c axes spec changes is =
    let some : updated axes c.self.inside.params c.args.text.now ≡ Some c.in-Some.params = subst (λ (t : List ℕ). updated axes c.self.inside.params t ≡ Some c.in-Some.params) c.bytes.ensures.value (sym (c.in_ok-params.ensures.spec axes) ∙ c.in-Some.is) in
    let named : true ≡ list_any (λ part. is_of_places (sides_of part)) (update_parts c.args.text.now) = cc in
    moves axes spec changes (kind_now c.self.inside.params c.self.inside.captured c.self.inside.again c.self.inside.reversed c.self.inside.vertex c.self.inside.centre c.self.inside.last c.self.inside.first) c.in-Some.params c.args.text.now true some named (subst (λ o. IfSome o IsValidSpec) c.in-Some.is c.in_ok-params.ensures.valid) (subst (IsKindOf spec changes) (sym c.self.view_is) is)

pub returns-else-names_places-clause-stands : goal.returns-else-names_places-clause-stands
returns-else-names_places-clause-stands c axes spec changes is =
    let some : updated axes c.self.inside.params c.args.text.now ≡ Some c.in-Some.params = subst (λ (t : List ℕ). updated axes c.self.inside.params t ≡ Some c.in-Some.params) c.bytes.ensures.value (sym (c.in_ok-params.ensures.spec axes) ∙ c.in-Some.is) in
    let named : false ≡ list_any (λ part. is_of_places (sides_of part)) (update_parts c.args.text.now) = cc in
    moves axes spec changes (kind_now c.self.inside.params c.self.inside.captured c.self.inside.again c.self.inside.reversed c.self.inside.vertex c.self.inside.centre c.self.inside.last c.self.inside.first) c.in-Some.params c.args.text.now false some named (subst (λ o. IfSome o IsValidSpec) c.in-Some.is c.in_ok-params.ensures.valid) (subst (IsKindOf spec changes) (sym c.self.view_is) is)

pub returns-then-names_places-clause-axes : goal.returns-then-names_places-clause-axes
returns-then-names_places-clause-axes c =
    updated_axes [] c.self.inside.params c.in-Some.params c.bytes.result.now (sym (c.in_ok-params.ensures.spec []) ∙ c.in-Some.is) ∙ ap axes_needed c.self.view_is

pub returns-else-names_places-clause-axes : goal.returns-else-names_places-clause-axes
returns-else-names_places-clause-axes c =
    updated_axes [] c.self.inside.params c.in-Some.params c.bytes.result.now (sym (c.in_ok-params.ensures.spec []) ∙ c.in-Some.is) ∙ ap axes_needed c.self.view_is
