use Rattle.std.proofs.Common.{◌≡◌, ◌<◌, ◌∙◌, Some, ap, inl, inr, length, slice_get, subst, sym, arith}
use Rattle.std.proofs.lemmas.List.{length-set}
use Rattle.std.proofs.lemmas.Option.{slice_get-get_or, slice_get_within}
use Rattle.moos_db.specs.Withdrawing.{IsWithdrawn}
use Rattle.moos_db.proofs.Changes.{set-cases}
use Rattle.moos_db.proofs.variables.withdraw_from_all.Goals as goal

pub loop-number-preserved : goal.loop-number-preserved
loop-number-preserved c =
    let items = c.loop-number.all.items in
    let number = c.loop-number.number in
    let here = c.index_mut.result.now in
    let new = c.withdraw.new.self in
    let within : c.loop-number.number < length c.loop-number.all.items = omega arith in
    let there : slice_get c.loop-number.all.items c.loop-number.number ≡ Some c.index_mut.result.now
    = slice_get-get_or items number here within ∙ ap (λ v. Some v) (sym c.index_mut.ensures.value) in
    let before : slice_get c.args.all.now.items c.loop-number.number ≡ Some c.index_mut.result.now = c.loop-number.invariant.rest number here (omega arith) there in
    record {
      each = length-set items number new ∙ c.loop-number.invariant.each;
      done = λ k one other below at is. elim (set-cases items number k new other is) [
        | inl same ↦
            let first : c.index_mut.result.now ≡ one = (let e : Some c.index_mut.result.now ≡ Some one = sym before ∙ ap (slice_get c.args.all.now.items) (sym same.0) ∙ at in cc) in
            subst (λ v. IsWithdrawn c.args.client c.args.var.now c.args.source.now v other) first
            (subst (IsWithdrawn c.args.client c.args.var.now c.args.source.now here) (sym same.1) c.withdraw.ensures)
        | inr apart ↦ c.loop-number.invariant.done k one other (omega (arith, below, apart.0)) at apart.1
      ];
      rest = λ k other from is. elim (set-cases items number k new other is) [
        | inl same ↦ absurd (omega (arith, from, same.0))
        | inr apart ↦ c.loop-number.invariant.rest k other (omega (arith, from)) apart.1
      ];
    }

pub returns : goal.returns
returns c = record {
  each = c.loop-number.invariant.each;
  same = λ k one other at is. c.loop-number.invariant.done k one other (omega (arith, slice_get_within c.args.all.now.items k one at)) at is;
}
