-- The run is told from its opening, round by round, to its end.
use Rattle.std.proofs.Common.{◌≡◌, ◌+◌, ◌++◌, ◌<◌, ◌^◌, ◌∙◌, ap, arith, length, refl, subst, sym, List, ℕ, Option}
use Rattle.std.specs.Prelude.{IfNone, IfSome}
use Rattle.moos_io.specs.Faults.{Faring}
use Rattle.moos_io.specs.Pieces.{Took, TookFront}
use Rattle.moos_play.specs.declared.playing.Play.{Play}
use Rattle.moos_play.specs.Plays.{clients_in, GoesOnWith, HasCompletion, helm_in, history_in, IsBetween, IsPlayedOut, iterations_made, order_played, script_played}
use Rattle.moos_report.proofs.KeptLines.{no_lines}
use Rattle.moos_report.specs.Lines.{KeepsLines}
use Rattle.moos_report.specs.Parts.{front_text}
use Rattle.command_line.specs.Endings.{sinking, Sinking}
use Rattle.moos_jobs.specs.PlayTelling.{IsFrontOfLawful, IsOfLawful, TellsLawful}
use Rattle.moos_jobs.proofs.PlayRounds.{alone_on, IsAlone, named_alone, none_made, of_lawful, run_as}
use Rattle.moos_jobs.proofs.Fetching.{IsRunWell}
use Rattle.moos_jobs.proofs.Rounds.{end_told, goes_on_twice, sent_over, told_front}
use Rattle.moos_jobs.specs.Telling.{IsToldSoFar}
use Rattle.moos_jobs.proofs.play_telling.tell_through.Goals as goal

pub tell_opening-requires-clause-kept : goal.tell_opening-requires-clause-kept
tell_opening-requires-clause-kept g c = no_lines (clients_in c.args.play.now) (history_in c.args.play.now) _ c.new-kept.ensures

pub returns-in-Err-clause-told : goal.returns-in-Err-clause-told
returns-in-Err-clause-told g c =
    let play = c.args.play.now in
    let before = g.K.Sink.taken c.args.out.now.out.now in
    let after = g.K.Sink.taken c.tell_opening.new.out.out.now in
    let well : IsRunWell play = record { valid = c.front_law.ensures.valid; helm = c.front_law.ensures.helm; steered = c.front_law.ensures.steered } in
    let none = none_made play well c.requires.named c.requires.begun in
    let front = subst (λ made. TookFront before after (front_text c.args.setup.now (clients_in play) (history_in play) made)) (sym none) c.in-Err.ensures.told.sent.front in
    let on = c.front_law.ensures.front in (
      told_front c.args.setup.now play c.parts_law.ensures.fronts well (named_alone play c.requires.named well.valid) on.rest on.more (IsOfLawful (order_played play) (script_played play) (helm_in play) c.args.setup.now)
          (of_lawful (order_played play) (script_played play) (helm_in play) c.args.setup.now (clients_in play) (history_in play ++ on.rest) (iterations_made play ++ on.more) c.requires.named (on.alone c.requires.named) (sym on.iterations))
          before after _ _ front,
      c.in-Err.ensures.told.sent.rose,
    )

pub loop-more-init : goal.loop-more-init
loop-more-init g c =
    let play = c.args.play.now in
    let before = g.K.Sink.taken c.args.out.now.out.now in
    let after = g.K.Sink.taken c.tell_opening.new.out.out.now in
    let same = sym c.tell_opening.ensures.same in
    let well : IsRunWell play = record { valid = c.front_law.ensures.valid; helm = c.front_law.ensures.helm; steered = c.front_law.ensures.steered } in
    let none = none_made play well c.requires.named c.requires.begun in
    record {
      sink = c.in_default.ensures.told.same;
      clear = c.in_default.ensures.told.clear;
      kept = subst (λ (play : Play). KeepsLines (clients_in play) (history_in play) c.tell_opening.new.kept) same c.tell_opening.ensures.kept;
      between = subst IsBetween same c.requires.between;
      named = subst IsAlone same c.requires.named;
      on = subst HasCompletion same c.front_law.ensures.front;
      same = subst (GoesOnWith play) same (record { script = refl; order = refl; names = refl; helm = refl });
      made = sym (ap length none) ∙ ap (λ (play : Play). length (iterations_made play)) same;
      told = subst (IsToldSoFar c.args.setup.now before after) same
          (subst (λ made. Took before after (front_text c.args.setup.now (clients_in play) (history_in play) made)) (sym none) c.in_default.ensures.told.sent.ok);
      fared = c.in_default.ensures.told.sent.fares;
    }

pub overflow_add-made : goal.overflow_add-made
overflow_add-made g c =
    let few = subst (λ more. IfSome more (λ more. c.loop-more.made + more < 2 ^ 64)) c.in-Ok-Some.field-0-is c.in-Ok-Some.ensures.few in
    omega (arith, few)

pub loop-more-preserved : goal.loop-more-preserved
loop-more-preserved g c =
    let old = c.loop-more.play in
    let new = c.tell_round.new.play in
    let kept = c.loop-more.invariant in
    let is = c.in-Ok-Some.field-0-is in
    let on = c.in-Ok-Some.ensures.same in
    record {
      sink = c.in-Ok-Some.ensures.sink ∙ kept.sink;
      clear = c.in-Ok-Some.ensures.clear;
      kept = c.in-Ok-Some.ensures.kept;
      between = c.in-Ok-Some.ensures.between;
      named = alone_on old new on kept.named;
      on = subst (λ more. IfSome more (λ _. HasCompletion new)) is c.in-Ok-Some.ensures.on;
      same = goes_on_twice c.args.play.now old new kept.same on;
      made = sym (subst (λ more. IfSome more (λ more. length (iterations_made new) ≡ c.loop-more.made + more)) is c.in-Ok-Some.ensures.made);
      told = (subst (λ more. IfSome more (λ _. (before : Option (List ℕ)) → IsToldSoFar c.args.setup.now before (g.K.Sink.taken c.loop-more.out.out.now) old → IsToldSoFar c.args.setup.now before (g.K.Sink.taken c.tell_round.new.out.out.now) new))
          is c.in-Ok-Some.ensures.told) (g.K.Sink.taken c.args.out.now.out.now) kept.told;
      fared = c.in-Ok-Some.ensures.fared ∙ kept.fared;
    }

pub returns-in-Ok-None-clause-told : goal.returns-in-Ok-None-clause-told
returns-in-Ok-None-clause-told g c =
    let old = c.loop-more.play in
    let new = c.tell_round.new.play in
    let kept = c.loop-more.invariant in
    let before = g.K.Sink.taken c.args.out.now.out.now in
    let between = g.K.Sink.taken c.tell_round.new.out.out.now in
    let sink = sinking before (g.K.Sink.taken c.tell_end.new.out.out.now) (g.K.Sink.faults c.args.out.now.out.now) (g.K.Sink.faults c.tell_end.new.out.out.now) in
    let over = subst (λ more. IfNone more (IsPlayedOut new × (new ≡ old) × (between ≡ g.K.Sink.taken c.loop-more.out.out.now))) c.in-Ok-None.field-0-is c.in-Ok-None.ensures.over in
    let on = goes_on_twice c.args.play.now old new kept.same c.in-Ok-None.ensures.same in
    let alone = alone_on old new c.in-Ok-None.ensures.same kept.named in
    let told = subst (IsToldSoFar c.args.setup.now before between) (sym over.1) (subst (λ between. IsToldSoFar c.args.setup.now before between old) (sym over.2) kept.told) in
    run_as (λ order script helm. TellsLawful order script helm c.args.setup.now sink c.written.result) on.order on.script on.helm
    (end_told c.args.setup.now new (IsOfLawful (order_played new) (script_played new) (helm_in new) c.args.setup.now) (IsFrontOfLawful (order_played new) (script_played new) (helm_in new) c.args.setup.now) before between _ _ (g.K.Sink.faults c.tell_round.new.out.out.now) _ c.tell_end.result c.written.result
    (of_lawful (order_played new) (script_played new) (helm_in new) c.args.setup.now (clients_in new) (history_in new) (iterations_made new) alone (over.0.alone alone) over.0.iterations) told
    c.tell_end.ensures.told.sent.ok c.tell_end.ensures.told.sent.front (c.in-Ok-None.ensures.fared ∙ kept.fared) c.tell_end.ensures.told.sent.fares c.tell_end.ensures.told.sent.rose c.written.ensures.all c.written.ensures.fault)

pub returns-in-Err-tell_round-clause-told : goal.returns-in-Err-tell_round-clause-told
returns-in-Err-tell_round-clause-told g c =
    let kept = c.loop-more.invariant in
    let before = g.K.Sink.taken c.args.out.now.out.now in
    let sink : Faring → Sinking = λ fared. sinking before (g.K.Sink.taken c.tell_round.new.out.out.now) fared (g.K.Sink.faults c.tell_round.new.out.out.now) in
    run_as (λ order script helm. TellsLawful order script helm c.args.setup.now (sink (g.K.Sink.faults c.args.out.now.out.now)) c.in-Err-tell_round.status) kept.same.order kept.same.script kept.same.helm
    (subst (λ fared. TellsLawful (order_played c.loop-more.play) (script_played c.loop-more.play) (helm_in c.loop-more.play) c.args.setup.now (sink fared) c.in-Err-tell_round.status) kept.fared
    (c.in-Err-tell_round.ensures.stopped before kept.on kept.told))

pub returns-in-Ok-None-clause-sink : goal.returns-in-Ok-None-clause-sink
returns-in-Ok-None-clause-sink g c = c.tell_end.ensures.told.same ∙ c.in-Ok-None.ensures.sink ∙ c.loop-more.invariant.sink

pub returns-in-Ok-None-clause-ended : goal.returns-in-Ok-None-clause-ended
returns-in-Ok-None-clause-ended g c = sent_over c.tell_end.result c.tell_end.ensures.told

pub returns-in-Err-tell_round-clause-sink : goal.returns-in-Err-tell_round-clause-sink
returns-in-Err-tell_round-clause-sink g c = c.in-Err-tell_round.ensures.sink ∙ c.loop-more.invariant.sink
