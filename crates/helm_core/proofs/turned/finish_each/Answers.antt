use Rattle.std.proofs.Common.{◌≡◌, ◌∷◌, [], length, sym, ap, subst, ◌∙◌, arith, rules}
use Rattle.std.specs.List.{All, AllZip}
use Rattle.std.specs.Vec.Iter.{into_iter_items}
use Rattle.helm_core.specs.Standings.{IsBegun, IsFitBegun}
use Rattle.helm_core.proofs.Turning.{fit_first, fit_next, ended_all, ended_first, ended_next, length_first, length_next, length_staying, nothing_left}
use Rattle.helm_core.proofs.turned.finish_each.Goals as goal

pub loop-one-init : goal.loop-one-init
loop-one-init c =
    let gives : into_iter_items c.into_iter-one-iterator.result ≡ c.args.begun.items = c.into_iter-one-iterator.ensures.into_iter_gives.0 in
    record {
      counted = search rules;
      turned = λ blocks seen ones all. ended_first blocks seen c.args.fault ones _ _ _ c.in_ok-turned.ensures.kept c.in_ok-turned.ensures.showings (subst (AllZip (IsBegun blocks seen) ones) (sym gives) all);
      fit = λ axes blocks all. fit_first axes blocks _ _ _ c.in_ok-turned.ensures.kept c.in_ok-turned.ensures.showings (subst (All (IsFitBegun axes blocks)) (sym gives) all);
      kept_few = let each = length_first _ _ _ c.in_ok-turned.ensures.kept gives in omega arith;
      shown_each = length_first _ _ _ c.in_ok-turned.ensures.showings gives;
    }

pub loop-one-preserved : goal.loop-one-preserved
loop-one-preserved c =
    let at = c.loop-one in
    let x = c.in-Some.one in
    let left = into_iter_items c.next.new.self in
    let steps : into_iter_items at.one-iterator ≡ x ∷ left = c.in-Some.ensures.steps.0 in
    record {
      counted = let was = at.invariant.counted in let gone = c.in-Some.ensures.steps.1 in let short = ap length steps in omega arith;
      turned = λ blocks seen ones all.
          ended_next blocks seen c.args.fault ones at.turned.kept.items _ at.turned.showings.items _ x (into_iter_items at.one-iterator) left c.in_ok-ended.ended (c.in_ok-ended.ensures.ends blocks seen) steps
          c.in_ok-add.ensures.kept c.in_ok-add.ensures.showings (at.invariant.turned blocks seen ones all);
      fit = λ axes blocks all.
          fit_next axes blocks at.turned.kept.items _ at.turned.showings.items _ x (into_iter_items at.one-iterator) left c.in_ok-ended.ended (c.in_ok-ended.ensures.fit axes blocks) steps
          c.in_ok-add.ensures.kept c.in_ok-add.ensures.showings (at.invariant.fit axes blocks all);
      kept_few = length_staying at.turned.kept.items _ c.in_ok-ended.ended.stays c.in_ok-ended.ended.kept (into_iter_items at.one-iterator) left x _ steps c.in_ok-add.ensures.kept at.invariant.kept_few;
      shown_each = length_next at.turned.showings.items _ _ (into_iter_items at.one-iterator) left x _ steps c.in_ok-add.ensures.showings at.invariant.shown_each;
    }

pub returns : goal.returns
returns c =
    let at = c.loop-one in
    let none = c.in-None.ensures.steps in
    let empty : into_iter_items at.one-iterator ≡ [] = nothing_left _ (sym at.invariant.counted ∙ none.0) in
    let gone : length (into_iter_items at.one-iterator) ≡ 0 = ap length empty in
    record {
      turned = λ blocks seen ones all.
          let is = ended_all blocks seen c.args.fault ones at.turned.kept.items at.turned.showings.items _ empty (at.invariant.turned blocks seen ones all) in
          record { kept = is.kept_all; showings = is.said };
      fit = λ axes blocks all.
          let is = at.invariant.fit axes blocks all in
          record {
            few = let each = at.invariant.kept_few in omega arith;
            kept = is.kept_fit;
            showings = let each = at.invariant.shown_each in omega arith;
            fit = is.fit;
          };
    }
