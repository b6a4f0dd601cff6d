use Rattle.std.proofs.Common.{◌≡◌, ◌∷◌, [], ◌++◌, length, sym, ap, ◌∙◌, arith, rules, append-nil}
use Rattle.std.specs.List.{filter_map}
use Rattle.std.specs.Vec.Iter.{into_iter_items}
use Rattle.helm_core.specs.Decisions.{active_term}
use Rattle.helm_core.proofs.Deciding.{terms_first, terms_next}
use Rattle.helm_core.proofs.Turning.{nothing_left}
use Rattle.helm_core.proofs.decision.active_terms.Goals as goal

pub loop-showing-init : goal.loop-showing-init
loop-showing-init c = record {
  counted = search rules;
  terms = terms_first _ _ _ c.in_ok-terms.ensures.items c.into_iter-showing-iterator.ensures.into_iter_gives.0;
}

pub loop-showing-preserved : goal.loop-showing-preserved
loop-showing-preserved c =
    let at = c.loop-showing in
    let x = c.in-Some.showing in
    let left = into_iter_items c.next.new.self in
    let steps : into_iter_items at.showing-iterator ≡ x ∷ left = c.in-Some.ensures.steps.0 in
    record {
      counted = let was = at.invariant.counted in let gone = c.in-Some.ensures.steps.1 in let short = ap length steps in omega arith;
      terms = terms_next at.terms.items _ x (into_iter_items at.showing-iterator) left _ steps c.in_ok-add_term.ensures at.invariant.terms;
    }

pub returns : goal.returns
returns c =
    let at = c.loop-showing in
    let none = c.in-None.ensures.steps in
    let empty : into_iter_items at.showing-iterator ≡ [] = nothing_left _ (sym at.invariant.counted ∙ none.0) in
    sym (append-nil at.terms.items) ∙ ap (λ left. at.terms.items ++ filter_map active_term left) (sym empty) ∙ at.invariant.terms
