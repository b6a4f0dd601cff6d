use Rattle.std.proofs.Common.{◌≡◌, [], true, false, length, ap, subst, subst₂, sym, ◌∙◌}
use Rattle.helm_core.specs.Doers.{IsDoerOf}
use Rattle.std.specs.Prelude.{IfSome, is_some, slice_get}
use Rattle.helm_core.specs.declared.iteration.How.TheVariants.{Spawned}
use Rattle.helm_core.specs.Standings.{HasSpawned, HasAnswered}
use Rattle.helm_core.specs.Templates.{are_good, heard_new, may_make, with_said}
use Rattle.helm_core.proofs.Spawns.{TakesPairs, bad_pairs, is_made, kept_of_made, no_room, nothing_there, spawned_made, spawned_same}
use Rattle.helm_core.proofs.making.hear_new.Goals as goal

pub returns-then-not-may_make-clause-heard : goal.returns-then-not-may_make-clause-heard
returns-then-not-may_make-clause-heard c clock at before all =
    let blocks = c.args.blocks.now in
    let kept = c.args.kept.now.items in
    no_room c.args.domain.now blocks clock at c.args.template.now before c.args.said.now kept all
    (ap (λ list. may_make blocks c.args.said.now.name (length list)) (sym c.as_slice.ensures.value) ∙ ap (λ name. may_make blocks name (length c.as_slice.result.now)) (sym c.bytes.ensures.value) ∙ sym c.may_make.ensures ∙ c.if-not-may_make.true)

pub returns-then-not-may_make-clause-more : goal.returns-then-not-may_make-clause-more
returns-then-not-may_make-clause-more c = spawned_same c.args.domain.now c.args.blocks.now c.args.kept.now.items c.requires.may

pub returns-in_default-clause-heard : goal.returns-in_default-clause-heard
returns-in_default-clause-heard c clock at before all =
    let template = c.args.template.now in
    let said = c.args.said.now in
    let first : IsDoerOf template.spec [] c.make-blank.result = subst (λ spec. IsDoerOf spec [] c.make-blank.result) c.in_ok-spec.ensures c.make-blank.ensures in
    let bad : are_good c.args.domain.now template.spec said.pairs ≡ false = sym (c.in_ok-taken.ensures.good template.spec [] first) ∙ ap is_some (nothing_there c.in_ok-taken.taken c.in_default.not-Some) in
    bad_pairs c.args.domain.now c.args.blocks.now clock at template before said c.args.kept.now.items all bad

pub returns-in_default-clause-more : goal.returns-in_default-clause-more
returns-in_default-clause-more c = spawned_same c.args.domain.now c.args.blocks.now c.args.kept.now.items c.requires.may

pub returns-clause-heard : goal.returns-clause-heard
returns-clause-heard c clock at before all =
    let blocks = c.args.blocks.now in
    let template = c.args.template.now in
    let said = c.args.said.now in
    let kept = c.args.kept.now.items in
    let one = c.in_ok-one.one in
    let first : IsDoerOf template.spec [] c.make-blank.result = subst (λ spec. IsDoerOf spec [] c.make-blank.result) c.in_ok-spec.ensures c.make-blank.ensures in
    let good : are_good c.args.domain.now template.spec said.pairs ≡ true = sym (c.in_ok-taken.ensures.good template.spec [] first) ∙ ap is_some c.in-Some.is in
    let stands : TakesPairs c.args.domain.now c.make-blank.result said.pairs c.in-Some.doer
    = subst (λ taken. IfSome taken (TakesPairs c.args.domain.now c.make-blank.result said.pairs)) c.in-Some.is c.in_ok-taken.ensures.stands in
    let doer : IsDoerOf template.spec (with_said c.args.domain.now [] said.pairs) one.doer
    = subst (IsDoerOf template.spec (with_said c.args.domain.now [] said.pairs)) (sym c.in_ok-one.ensures.doer) (stands template.spec [] first) in
    let room : may_make blocks said.name (length kept) ≡ true
    = ap (λ list. may_make blocks said.name (length list)) (sym c.as_slice.ensures.value) ∙ ap (λ name. may_make blocks name (length c.as_slice.result.now)) (sym c.bytes.ensures.value) ∙ sym c.may_make.ensures ∙ c.if-not-may_make.false in
    subst₂ (λ after name. HasAnswered blocks clock template before (heard_new c.args.domain.now blocks at template before said) after (Spawned name)) (sym c.in_ok-push.ensures.items) (sym c.in_ok-name.ensures)
    (is_made c.args.domain.now blocks clock at template before said kept all one room good
    (kept_of_made c.args.domain.now blocks clock at template before said kept all one c.in_ok-one.ensures.named (ap (slice_get blocks) c.in_ok-one.ensures.of ∙ c.requires.at) c.in_ok-one.ensures.by_letter doer c.in_ok-one.ensures.fresh))

pub returns-clause-more : goal.returns-clause-more
returns-clause-more c =
    let blocks = c.args.blocks.now in
    let template = c.args.template.now in
    let said = c.args.said.now in
    let kept = c.args.kept.now.items in
    let one = c.in_ok-one.one in
    let first : IsDoerOf template.spec [] c.make-blank.result = subst (λ spec. IsDoerOf spec [] c.make-blank.result) c.in_ok-spec.ensures c.make-blank.ensures in
    let stands : TakesPairs c.args.domain.now c.make-blank.result said.pairs c.in-Some.doer
    = subst (λ taken. IfSome taken (TakesPairs c.args.domain.now c.make-blank.result said.pairs)) c.in-Some.is c.in_ok-taken.ensures.stands in
    let doer : IsDoerOf template.spec (with_said c.args.domain.now [] said.pairs) one.doer
    = subst (IsDoerOf template.spec (with_said c.args.domain.now [] said.pairs)) (sym c.in_ok-one.ensures.doer) (stands template.spec [] first) in
    let room : may_make blocks said.name (length kept) ≡ true
    = ap (λ list. may_make blocks said.name (length list)) (sym c.as_slice.ensures.value) ∙ ap (λ name. may_make blocks name (length c.as_slice.result.now)) (sym c.bytes.ensures.value) ∙ sym c.may_make.ensures ∙ c.if-not-may_make.false in
    subst (HasSpawned c.args.domain.now blocks kept) (sym c.in_ok-push.ensures.items)
    (spawned_made c.args.domain.now blocks template said.name said.pairs kept one (ap (slice_get blocks) c.in_ok-one.ensures.of ∙ c.requires.at) room doer c.requires.may)
