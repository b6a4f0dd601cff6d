-- What is counted grows by the round's iterations.
use Rattle.std.proofs.Common.{◌≡◌, ◌∙◌, ◌<◌, ◌++◌, ap, arith, length, length-append, subst, sym}
use Rattle.std.specs.Prelude.{IfNone, IfSome}
use Rattle.moos_play.specs.Plays.{IsPlayedOut, IsRound, iterations_made, left_in, Playing}
use Rattle.moos_jobs.proofs.Rounds.{few_made}
use Rattle.moos_jobs.specs.declared.counts.IterationCounts.{IterationCounts}
use Rattle.moos_jobs.specs.Summary.{iterations_counted}
use Rattle.moos_jobs.proofs.generate_job.count_round.Goals as goal

pub add-requires-clause-few : goal.add-requires-clause-few
add-requires-clause-few g c =
    let old = c.args.play.now in
    let new = c.round.new.self in
    let made = subst (λ round. IfSome round (IsRound old new)) c.in-Some.is c.in_ok-round.ensures.round in
    let few = few_made new (record { valid = c.front_law.ensures.valid; helm = c.front_law.ensures.helm; steered = c.front_law.ensures.steered }) in
    omega (arith, few, ap (λ (counted : IterationCounts). counted.iterations) c.requires.counted, ap length c.all.ensures, ap length made.iterations, length-append (iterations_made old) c.in-Some.round.iterations)

pub returns-clause-counted : goal.returns-clause-counted
returns-clause-counted g c =
    let old = c.args.play.now in
    let made = subst (λ round. IfSome round (IsRound old c.round.new.self)) c.in-Some.is c.in_ok-round.ensures.round in
    c.add.ensures.counted (iterations_made old) c.requires.counted ∙ ap (λ more. iterations_counted (iterations_made old ++ more)) c.all.ensures ∙ ap iterations_counted (sym made.iterations)

pub returns-clause-less : goal.returns-clause-less
returns-clause-less g c = λ _. subst (λ round. IfSome round (λ _. left_in c.round.new.self < left_in c.args.play.now)) c.in-Some.is c.in_ok-round.ensures.more

pub returns-in_default-clause-counted : goal.returns-in_default-clause-counted
returns-in_default-clause-counted g c =
    let old = c.args.play.now in
    let none = subst (λ round. IfNone round ((left_in old ≡ 0) × (c.round.new.self ≡ old))) c.in_default.is c.in_ok-round.ensures.none in
    c.requires.counted ∙ ap (λ (play : Playing). iterations_counted (iterations_made play)) (sym none.1)

pub returns-in_default-clause-over : goal.returns-in_default-clause-over
returns-in_default-clause-over g c = λ _. subst (λ round. IfNone round (IsPlayedOut c.round.new.self)) c.in_default.is c.in_ok-round.ensures.over
