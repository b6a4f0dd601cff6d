-- The play is told from its openings, round by round, to its end.
use Rattle.std.proofs.Common.{◌≡◌, ◌+◌, ◌++◌, ◌<◌, ◌^◌, ◌∙◌, ap, arith, length, refl, subst, sym, List, ℕ, Option}
use Rattle.std.specs.Prelude.{IfNone, IfSome}
use Rattle.moos_io.specs.Pieces.{Took, TookFront}
use Rattle.moos_play.specs.Plays.{clients_in, GoesOnWith, helm_in, history_in, iterations_made, Playing, script_played}
use Rattle.moos_report.proofs.KeptLines.{no_lines}
use Rattle.moos_report.specs.Lines.{KeepsLines}
use Rattle.moos_report.specs.Parts.{front_text}
use Rattle.moos_simulate.specs.Sailing.{IsSailedOut, IsSimulating}
use Rattle.moos_jobs.proofs.Fetching.{IsRunWell}
use Rattle.moos_jobs.proofs.Rounds.{end_told, goes_on_twice, sent_over, told_front}
use Rattle.moos_jobs.specs.Telling.{IsToldSoFar}
use Rattle.moos_jobs.proofs.SimulatedReports.{may_report, named_sailing, of_on}
use Rattle.command_line.specs.Endings.{sinking}
use Rattle.moos_jobs.specs.Simulating.{IsFrontOfVoyage, IsVoyage, TellsVoyage}
use Rattle.moos_jobs.proofs.simulate_telling.tell_through.Goals as goal

pub tell_opening-requires-clause-kept : goal.tell_opening-requires-clause-kept
tell_opening-requires-clause-kept g c = no_lines (clients_in c.args.play.now) (history_in c.args.play.now) _ c.new-kept.ensures

pub returns-in-Err-clause-told : goal.returns-in-Err-clause-told
returns-in-Err-clause-told g c = λ task of.
    let play = c.args.play.now in
    let vehicle = c.args.vehicle.now in
    let setup = c.args.setup.now in
    let before = g.K.Sink.taken c.args.out.now.out.now in
    let after = g.K.Sink.taken c.tell_opening.new.out.out.now in
    let voyage = c.front_law.ensures in
    let law = c.front_law-2.ensures in
    let well : IsRunWell play = record { valid = law.valid; helm = law.helm; steered = law.steered } in
    let front = subst (λ made. TookFront before after (front_text setup (clients_in play) (history_in play) made)) (sym c.requires.begun) c.in-Err.ensures.told.sent.front in (
      told_front setup play c.parts_law.ensures.fronts well (named_sailing vehicle play c.requires.simulating law.valid) voyage.rest voyage.more (IsVoyage task)
          (may_report task setup vehicle.gear (script_played play) (helm_in play) (clients_in play) (history_in play ++ voyage.rest) (iterations_made play ++ voyage.more) of voyage.simulated voyage.iterations)
          before after _ _ front,
      c.in-Err.ensures.told.sent.rose,
    )

pub loop-more-init : goal.loop-more-init
loop-more-init g c =
    let play = c.args.play.now in
    let setup = c.args.setup.now in
    let before = g.K.Sink.taken c.args.out.now.out.now in
    let after = g.K.Sink.taken c.tell_opening.new.out.out.now in
    let same = sym c.tell_opening.ensures.same in
    record {
      sink = c.in_default.ensures.told.same;
      clear = c.in_default.ensures.told.clear;
      kept = subst (λ (play : Playing). KeepsLines (clients_in play) (history_in play) c.tell_opening.new.kept) same c.tell_opening.ensures.kept;
      simulating = subst (IsSimulating c.args.vehicle.now) same c.requires.simulating;
      gear = refl;
      same = subst (GoesOnWith play) same (record { script = refl; order = refl; names = refl; helm = refl });
      made = sym (ap length c.requires.begun) ∙ ap (λ (play : Playing). length (iterations_made play)) same;
      told = subst (IsToldSoFar setup before after) same
          (subst (λ made. Took before after (front_text setup (clients_in play) (history_in play) made)) (sym c.requires.begun) c.in_default.ensures.told.sent.ok);
      fared = c.in_default.ensures.told.sent.fares;
    }

pub overflow_add-made : goal.overflow_add-made
overflow_add-made g c =
    let few = subst (λ more. IfSome more (λ more. c.loop-more.made + more < 2 ^ 64)) c.in-Ok-Some.field-0-is c.in-Ok-Some.ensures.few in
    omega (arith, few)

pub loop-more-preserved : goal.loop-more-preserved
loop-more-preserved g c =
    let old = c.loop-more.play in
    let new = c.tell_round.new.play in
    let kept = c.loop-more.invariant in
    let is = c.in-Ok-Some.field-0-is in
    record {
      sink = c.in-Ok-Some.ensures.sink ∙ kept.sink;
      clear = c.in-Ok-Some.ensures.clear;
      kept = c.in-Ok-Some.ensures.kept;
      simulating = c.in-Ok-Some.ensures.simulating;
      gear = c.in-Ok-Some.ensures.gear ∙ kept.gear;
      same = goes_on_twice c.args.play.now old new kept.same c.in-Ok-Some.ensures.same;
      made = sym (subst (λ more. IfSome more (λ more. length (iterations_made new) ≡ c.loop-more.made + more)) is c.in-Ok-Some.ensures.made);
      told = (subst (λ more. IfSome more (λ _. (before : Option (List ℕ)) → IsToldSoFar c.args.setup.now before (g.K.Sink.taken c.loop-more.out.out.now) old → IsToldSoFar c.args.setup.now before (g.K.Sink.taken c.tell_round.new.out.out.now) new))
          is c.in-Ok-Some.ensures.told) (g.K.Sink.taken c.args.out.now.out.now) kept.told;
      fared = c.in-Ok-Some.ensures.fared ∙ kept.fared;
    }

pub returns-in-Ok-None-clause-told : goal.returns-in-Ok-None-clause-told
returns-in-Ok-None-clause-told g c = λ task of.
    let old = c.loop-more.play in
    let new = c.tell_round.new.play in
    let kept = c.loop-more.invariant in
    let setup = c.args.setup.now in
    let before = g.K.Sink.taken c.args.out.now.out.now in
    let between = g.K.Sink.taken c.tell_round.new.out.out.now in
    let gear = c.loop-more.vehicle.gear in
    let over = subst (λ more. IfNone more (IsSailedOut gear new × (new ≡ old) × (between ≡ g.K.Sink.taken c.loop-more.out.out.now))) c.in-Ok-None.field-0-is c.in-Ok-None.ensures.over in
    let on = goes_on_twice c.args.play.now old new kept.same c.in-Ok-None.ensures.same in
    let told = subst (IsToldSoFar setup before between) (sym over.1) (subst (λ between. IsToldSoFar setup before between old) (sym over.2) kept.told) in
    let of_new = of_on task setup c.args.vehicle.now.gear gear c.args.play.now new on kept.gear of in
    end_told setup new (IsVoyage task) (IsFrontOfVoyage task) before between _ _ (g.K.Sink.faults c.tell_round.new.out.out.now) _ c.tell_end.result c.written.result
    (may_report task setup gear (script_played new) (helm_in new) (clients_in new) (history_in new) (iterations_made new) of_new over.0.simulated (sym over.0.iterations)) told
    c.tell_end.ensures.told.sent.ok c.tell_end.ensures.told.sent.front (c.in-Ok-None.ensures.fared ∙ kept.fared) c.tell_end.ensures.told.sent.fares c.tell_end.ensures.told.sent.rose c.written.ensures.all c.written.ensures.fault

pub returns-in-Err-tell_round-clause-told : goal.returns-in-Err-tell_round-clause-told
returns-in-Err-tell_round-clause-told g c = λ task of.
    let kept = c.loop-more.invariant in
    let before = g.K.Sink.taken c.args.out.now.out.now in
    subst (λ fared. TellsVoyage task (sinking before (g.K.Sink.taken c.tell_round.new.out.out.now) fared (g.K.Sink.faults c.tell_round.new.out.out.now)) c.in-Err-tell_round.status) kept.fared
    (c.in-Err-tell_round.ensures.stopped task before (of_on task c.args.setup.now c.args.vehicle.now.gear c.loop-more.vehicle.gear c.args.play.now c.loop-more.play kept.same kept.gear of) kept.told)

pub returns-in-Ok-None-clause-sink : goal.returns-in-Ok-None-clause-sink
returns-in-Ok-None-clause-sink g c = c.tell_end.ensures.told.same ∙ c.in-Ok-None.ensures.sink ∙ c.loop-more.invariant.sink

pub returns-in-Ok-None-clause-ended : goal.returns-in-Ok-None-clause-ended
returns-in-Ok-None-clause-ended g c = sent_over c.tell_end.result c.tell_end.ensures.told

pub returns-in-Err-tell_round-clause-sink : goal.returns-in-Err-tell_round-clause-sink
returns-in-Err-tell_round-clause-sink g c = c.in-Err-tell_round.ensures.sink ∙ c.loop-more.invariant.sink
