use Rattle.std.proofs.Common.{◌≡◌, ◌+◌, ◌-◌, ◌*◌, ◌^◌, ◌≤◌, Some, length, get_or, length-set, refl, sym, subst, ◌∙◌, arith}
use Rattle.std.specs.Prelude.{slice_get}
use Rattle.std.proofs.lemmas.List.{get_or-replicate, get_or-set_same}
use Rattle.std.proofs.lemmas.Option.{slice_get_read}
use Rattle.ivp_problem.proofs.Tops.{tops_before, tops_past, TopsFrom}
use Rattle.ivp_problem.proofs.problem.tops_of.Goals as goal

pub loop-place-init : goal.loop-place-init
loop-place-init c =
    let terms = c.args.terms.now in
    let few = c.requires.few in
    record { places = refl; sums = tops_past terms few; range = subst (λ n. n ≤ 10 ^ 12 * (length terms - length terms)) (sym (get_or-replicate 65 (length terms) 0 0 (omega arith))) (omega arith) }

pub top-requires-clause-weight : goal.top-requires-clause-weight
top-requires-clause-weight c =
    let terms = c.args.terms.now in
    let term = c.index-terms-place.result in
    let place = c.loop-place.place - 1 in
    let some = c.loop-place-test.true in
    let within = c.loop-place.auto.place in
    (c.requires.terms place term (slice_get_read terms (length terms) place term refl (omega arith) c.index-terms-place.is)).0

pub top-requires-clause-function : goal.top-requires-clause-function
top-requires-clause-function c =
    let terms = c.args.terms.now in
    let term = c.index-terms-place.result in
    let place = c.loop-place.place - 1 in
    let some = c.loop-place-test.true in
    let within = c.loop-place.auto.place in
    (c.requires.terms place term (slice_get_read terms (length terms) place term refl (omega arith) c.index-terms-place.is)).1

pub loop-place-preserved : goal.loop-place-preserved
loop-place-preserved c =
    let terms = c.args.terms.now in
    let tops = c.loop-place.tops in
    let term = c.index-terms-place.result in
    let place = c.loop-place.place - 1 in
    let some = c.loop-place-test.true in
    let within = c.loop-place.auto.place in
    let few = c.requires.few in
    let places = c.loop-place.invariant.places in
    let here : slice_get terms place ≡ Some term = slice_get_read terms (length terms) place term refl (omega arith) c.index-terms-place.is in
    let next : place + 1 ≡ c.loop-place.place = omega arith in
    let behind = subst (TopsFrom terms tops) (sym next) c.loop-place.invariant.sums in
    let most : get_or tops (place + 1) 0 ≤ 10 ^ 12 * (length terms - c.loop-place.place) = rw next c.loop-place.invariant.range in
    let at = get_or-set_same tops place (get_or tops (place + 1) 0 + c.top.result) 0 (omega arith) in
    let top = c.top.ensures.range in
    record {
      places = length-set tops place (get_or tops (place + 1) 0 + c.top.result) ∙ places;
      sums = tops_before terms tops place c.top.result term here c.top.ensures.top (omega arith) (omega arith) behind;
      range = omega arith;
    }
