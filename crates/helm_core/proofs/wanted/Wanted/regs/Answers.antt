use Rattle.std.proofs.Common.{◌∙◌, ◌∷◌, [], ◌++◌, map, take, ap, sym}
use Rattle.std.proofs.lemmas.List.{map-append, take_more}
use Rattle.std.proofs.lemmas.Option.{slice_get_within, get_or_from_slice_get}
use Rattle.helm_core.specs.Plans.{reg_wanted}
use Rattle.helm_core.proofs.wanted.Wanted.regs.Goals as goal

pub loop-place-preserved : goal.loop-place-preserved
loop-place-preserved c =
    c.in_ok-push.ensures.items
    ∙ ap (λ reg. c.loop-place.regs.items ++ reg ∷ []) c.in_ok-reg_of.ensures
    ∙ ap (λ so_far. so_far ++ reg_wanted c.name.result.now ∷ []) c.loop-place.invariant
    ∙ sym
    (ap (map reg_wanted)
    (take_more c.args.self.now c.loop-place.place c.name.result.now (slice_get_within c.args.self.now c.loop-place.place _ c.name.ensures)
    ∙ ap (λ name. take c.loop-place.place c.args.self.now ++ name ∷ []) (get_or_from_slice_get c.args.self.now c.loop-place.place _ _ c.name.ensures))
    ∙ map-append reg_wanted (take c.loop-place.place c.args.self.now) (c.name.result.now ∷ []))
