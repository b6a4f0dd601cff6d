use Rattle.std.proofs.Common.{◌≡◌, ◌<◌, Some, ap, length, refl, subst, ◌∙◌}
use Rattle.std.specs.Prelude.{IfSome, is_some, slice_get}
use Rattle.std.proofs.lemmas.Option.{slice_get_read}
use Rattle.helm_core.specs.declared.behavior.Behavior.{Behavior}
use Rattle.helm_core.specs.Templates.{with_said}
use Rattle.helm_core.proofs.Serving.{serves_said}
use Rattle.helm_core.proofs.Spawns.{TakesPairs, TellsGood, TellsMaker, bad_change, is_changed, nothing_there, of_another, spawned_changed, spawned_same}
use Rattle.helm_core.proofs.Zips.{holds_at}
use Rattle.helm_core.proofs.making.hear_known.Goals as goal

pub is_made_of-requires : goal.is_made_of-requires
is_made_of-requires c =
    let kept = c.args.kept.now.items in
    let there : slice_get kept c.args.place ≡ Some c.index-one.result.now = slice_get_read kept (length kept) c.args.place c.index-one.result.now refl c.requires.place c.index-one.ensures in
    record { within = holds_at (λ (it : Behavior). it.block < length c.args.blocks.now) kept c.args.place c.index-one.result.now there c.requires.may.within }

pub returns-then-not-is_made_of-clause-heard : goal.returns-then-not-is_made_of-clause-heard
returns-then-not-is_made_of-clause-heard c clock before all =
    let kept = c.args.kept.now.items in
    let there : slice_get kept c.args.place ≡ Some c.index-one.result.now = slice_get_read kept (length kept) c.args.place c.index-one.result.now refl c.requires.place c.index-one.ensures in
    of_another c.args.domain.now c.args.blocks.now clock c.args.template.now before c.args.said.now kept c.args.place c.index-one.result.now all there c.is_made_of.result c.is_made_of.ensures c.if-not-is_made_of.true

pub returns-then-not-is_made_of-clause-more : goal.returns-then-not-is_made_of-clause-more
returns-then-not-is_made_of-clause-more c = spawned_same c.args.domain.now c.args.blocks.now c.args.kept.now.items c.requires.may

pub returns-in_default-clause-heard : goal.returns-in_default-clause-heard
returns-in_default-clause-heard c clock before all =
    let kept = c.args.kept.now.items in
    let one = c.index-one.result.now in
    let there : slice_get kept c.args.place ≡ Some one = slice_get_read kept (length kept) c.args.place one refl c.requires.place c.index-one.ensures in
    let tells : TellsGood c.args.domain.now one.doer c.args.said.now.pairs (is_some c.in_ok-taken.taken)
    = subst (λ doer. TellsGood c.args.domain.now doer c.args.said.now.pairs (is_some c.in_ok-taken.taken)) (c.in_ok-before.ensures ∙ c.lent.ensures) c.in_ok-taken.ensures.good in
    bad_change c.args.domain.now c.args.blocks.now clock c.args.template.now before c.args.said.now kept c.args.place one all there (is_some c.in_ok-taken.taken) tells (ap is_some (nothing_there c.in_ok-taken.taken c.in_default.not-Some))

pub returns-in_default-clause-more : goal.returns-in_default-clause-more
returns-in_default-clause-more c = spawned_same c.args.domain.now c.args.blocks.now c.args.kept.now.items c.requires.may

pub returns-clause-heard : goal.returns-clause-heard
returns-clause-heard c clock before all =
    let blocks = c.args.blocks.now in
    let template = c.args.template.now in
    let pairs = c.args.said.now.pairs in
    let kept = c.args.kept.now.items in
    let read = c.index-one.result.now in
    let one = c.index_mut.result.now in
    let there : slice_get kept c.args.place ≡ Some read = slice_get_read kept (length kept) c.args.place read refl c.requires.place c.index-one.ensures in
    let there' : slice_get kept c.args.place ≡ Some one = slice_get_read kept (length kept) c.args.place one refl c.requires.place c.index_mut.ensures.value in
    let same : read ≡ one = cc in
    let copied : c.in_ok-before.before ≡ one.doer = c.in_ok-before.ensures ∙ c.lent.ensures ∙ ap (λ (it : Behavior). it.doer) same in
    let tells : TellsGood c.args.domain.now one.doer pairs (is_some c.in_ok-taken.taken)
    = subst (λ doer. TellsGood c.args.domain.now doer pairs (is_some c.in_ok-taken.taken)) copied c.in_ok-taken.ensures.good in
    let takes : TakesPairs c.args.domain.now one.doer pairs c.in-Some.doer
    = subst (λ old. TakesPairs c.args.domain.now old pairs c.in-Some.doer) copied (subst (λ taken. IfSome taken (TakesPairs c.args.domain.now c.in_ok-before.before pairs)) c.in-Some.is c.in_ok-taken.ensures.stands) in
    is_changed c.args.domain.now blocks clock template before c.args.said.now kept c.args.place one all there' c.is_made_of.result (is_some c.in_ok-taken.taken) c.in-Some.doer
    (subst (λ (it : Behavior). TellsMaker blocks template it c.is_made_of.result) same c.is_made_of.ensures) c.if-not-is_made_of.false tells (ap is_some c.in-Some.is) takes

pub returns-clause-more : goal.returns-clause-more
returns-clause-more c =
    let pairs = c.args.said.now.pairs in
    let kept = c.args.kept.now.items in
    let read = c.index-one.result.now in
    let one = c.index_mut.result.now in
    let there : slice_get kept c.args.place ≡ Some read = slice_get_read kept (length kept) c.args.place read refl c.requires.place c.index-one.ensures in
    let there' : slice_get kept c.args.place ≡ Some one = slice_get_read kept (length kept) c.args.place one refl c.requires.place c.index_mut.ensures.value in
    let same : read ≡ one = cc in
    let copied : c.in_ok-before.before ≡ one.doer = c.in_ok-before.ensures ∙ c.lent.ensures ∙ ap (λ (it : Behavior). it.doer) same in
    let takes : TakesPairs c.args.domain.now one.doer pairs c.in-Some.doer
    = subst (λ old. TakesPairs c.args.domain.now old pairs c.in-Some.doer) copied (subst (λ taken. IfSome taken (TakesPairs c.args.domain.now c.in_ok-before.before pairs)) c.in-Some.is c.in_ok-taken.ensures.stands) in
    spawned_changed c.args.domain.now c.args.blocks.now kept c.args.place one c.in-Some.doer there'
    (λ spec changes is. record { later = with_said c.args.domain.now changes pairs; stands = takes spec changes is; serves = serves_said c.args.domain.now spec changes pairs }) c.requires.may
