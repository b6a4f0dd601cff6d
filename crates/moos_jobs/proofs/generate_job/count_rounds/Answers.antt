-- The run is played out, round by round.
use Rattle.std.proofs.Common.{◌∙◌, Ok, ap, refl, sym}
use Rattle.moos_jobs.proofs.PlayRounds.{none_made}
use Rattle.moos_jobs.proofs.Rounds.{goes_on_twice}
use Rattle.moos_jobs.specs.Summary.{iterations_counted}
use Rattle.moos_jobs.proofs.generate_job.count_rounds.Goals as goal

pub loop-init : goal.loop-init
loop-init g c = record {
  between = c.requires.between;
  same = record { script = refl; order = refl; names = refl; helm = refl };
  bounded = c.new-counted.ensures.bounded;
  counted = c.new-counted.ensures.none
      ∙ ap iterations_counted
      (sym (none_made c.args.play.now (record { valid = c.front_law.ensures.valid; helm = c.front_law.ensures.helm; steered = c.front_law.ensures.steered }) c.requires.named c.requires.begun));
}

pub loop-preserved : goal.loop-preserved
loop-preserved g c =
    let on = c.in_ok-count_round.ensures in
    record {
      between = on.between;
      same = goes_on_twice c.args.play.now c.loop.play c.count_round.new.play c.loop.invariant.same on.same;
      bounded = on.bounded;
      counted = on.counted;
    }

pub returns-clause-same : goal.returns-clause-same
returns-clause-same g c = goes_on_twice c.args.play.now c.loop.play c.count_round.new.play c.loop.invariant.same c.in_ok-count_round.ensures.same

pub returns-clause-over : goal.returns-clause-over
returns-clause-over g c = c.in_ok-count_round.ensures.over (ap Ok c.if-branch.false)
