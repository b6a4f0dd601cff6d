use Rattle.std.proofs.Common.{◌≡◌, subst, sym, ap, ◌∙◌, rules}
use Rattle.helm_core.specs.Decisions.{number_at, number_on}
use Rattle.moos_post.specs.Words.{IsMilli}
use Rattle.helm_core.proofs.Bounded.{number_milli, zero_milli}
use Rattle.helm_core.proofs.Deciding.{number_there}
use Rattle.bhv_file.proofs.Named.{place_there}
use Rattle.helm_core.proofs.decision.number_on.Goals as goal

pub value-requires-clause-place : goal.value-requires-clause-place
value-requires-clause-place c =
    place_there c.args.domain.now c.args.point.now c.in-Some.place c.in-Some.ensures.lawful c.requires.point c.in-Some.ensures.few c.in-Some.ensures.within

pub returns-in-Some-clause-number : goal.returns-in-Some-clause-number
returns-in-Some-clause-number c =
    let axes = c.args.domain.now in
    let same : c.value.result ≡ number_on axes c.args.name.now c.args.point.now
    = number_there axes c.args.point.now c.in-Some.place c.value.result c.in-Some.ensures.within c.value.ensures
    ∙ ap (number_at axes c.args.point.now) c.in-Some.ensures.place in
    search (rules, same)

pub returns-in-Some-clause-within : goal.returns-in-Some-clause-within
returns-in-Some-clause-within c =
    subst IsMilli (sym (returns-in-Some-clause-number c)) (number_milli c.args.domain.now c.args.name.now c.args.point.now c.in-Some.ensures.lawful c.requires.point)

pub returns-in-None-clause-within : goal.returns-in-None-clause-within
returns-in-None-clause-within c = zero_milli
