use Rattle.std.proofs.Common.{◌∙◌, ap, sym}
use Rattle.std.specs.Prelude.{Option, option_and_then}
use Rattle.moos_post.specs.declared.value.Value.{Value}
use Rattle.helm_cond.specs.declared.comparison.Comparison.{Comparison}
use Rattle.helm_cond.specs.Conditions.{mode_named, parent_of}
use Rattle.helm_cond.specs.Flat.{bare, only_test}
use Rattle.helm_cond.proofs.Whole.{parent_kept}
use Rattle.helm_cond.proofs.cond.Cond.parent.Goals as goal

pub returns-in-Some : goal.returns-in-Some
returns-in-Some c =
    let named : Comparison → Option Value = λ comparison. mode_named comparison comparison.operator in
    c.mode_named.ensures
    ∙ ap (option_and_then named) (c.in-Some.ensures ∙ ap (λ symbols. only_test (bare symbols)) c.all.ensures)
    ∙ sym (parent_kept c.self.inside.symbols c.self.inside.names c.self.invariant) ∙ ap parent_of c.self.view_is

pub returns-in-None : goal.returns-in-None
returns-in-None c =
    let named : Comparison → Option Value = λ comparison. mode_named comparison comparison.operator in
    ap (option_and_then named) (c.in-None.ensures ∙ ap (λ symbols. only_test (bare symbols)) c.all.ensures)
    ∙ sym (parent_kept c.self.inside.symbols c.self.inside.names c.self.invariant) ∙ ap parent_of c.self.view_is
