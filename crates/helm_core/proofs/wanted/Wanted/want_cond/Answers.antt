use Rattle.std.proofs.Common.{◌∙◌, ◌+◌, ◌∷◌, drop, fold, ap, sym}
use Rattle.std.proofs.lemmas.List.{drop_more}
use Rattle.std.proofs.lemmas.Option.{slice_get_within, get_or_from_slice_get}
use Rattle.helm_cond.specs.Conditions.{names_in}
use Rattle.helm_core.specs.Plans.{with_wanted}
use Rattle.helm_core.proofs.wanted.Wanted.want_cond.Goals as goal

pub loop-place-preserved : goal.loop-place-preserved
loop-place-preserved c =
    ap (λ wanted. fold with_wanted wanted (drop (c.loop-place.place + 1) (names_in c.args.cond.now))) c.in_ok-want.ensures
    ∙ ap (fold with_wanted c.loop-place.self)
    (sym (drop_more (names_in c.args.cond.now) c.loop-place.place c.variable.result.now (slice_get_within (names_in c.args.cond.now) c.loop-place.place _ c.variable.ensures)
    ∙ ap (λ first. first ∷ drop (c.loop-place.place + 1) (names_in c.args.cond.now)) (get_or_from_slice_get (names_in c.args.cond.now) c.loop-place.place _ _ c.variable.ensures)))
    ∙ c.loop-place.invariant
