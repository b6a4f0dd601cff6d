use Rattle.moos_step.specs.Steps.{IsPlayed}
use Rattle.moos_step.proofs.Taking.{grown_seen, seen_gathered}
use Rattle.moos_step.proofs.step.play_step.Goals as goal

pub see_all-requires-clause-all : goal.see_all-requires-clause-all
see_all-requires-clause-all g c = record { first = c.play_lines-played.ensures.gathered.number; all = c.play_lines-played.ensures.gathered.all }

pub returns-clause-gathered : goal.returns-clause-gathered
returns-clause-gathered g c = seen_gathered c.args.lock.now c.play_lines-played.new.first.seat c.see_all.new.first c.see_all.ensures c.play_lines-played.ensures.gathered

pub returns-clause-goes_on : goal.returns-clause-goes_on
returns-clause-goes_on g c = grown_seen (IsPlayed c.args.lines.now c.play_lines-played.result) c.args.first.now.seat c.play_lines-played.new.first.seat c.see_all.new.first c.play_lines-played.ensures.played c.see_all.ensures
