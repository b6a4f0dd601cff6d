use Rattle.std.proofs.Common.{length, refl, sym, ◌∙◌, arith}
use Rattle.std.proofs.lemmas.Option.{slice_get_read}
use Rattle.ivp_problem.proofs.Makes.{agree_more}
use Rattle.ivp_problem.proofs.problem.are_same.Goals as goal

pub loop-place-preserved : goal.loop-place-preserved
loop-place-preserved c = λ axes over other_over.
    let a = c.args.a.now in
    let b = c.args.b.now in
    let place = c.loop-place.place in
    let one = slice_get_read a (length a) place c.index-a-place.result refl (omega (arith, c.loop-place-test.true)) c.index-a-place.is in
    let other = slice_get_read b (length b) place c.index-b-place.result refl (omega (arith, c.loop-place-test.true)) c.index-b-place.is in
    agree_more a b place c.index-a-place.result c.index-b-place.result one other
    (c.is_same.ensures c.if-not-is_same.false (over place c.index-a-place.result one ∙ sym (other_over place c.index-b-place.result other)))
    (c.loop-place.invariant axes over other_over)
