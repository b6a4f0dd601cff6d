-- The run that is told has the order, the script, the helm and the names that were given.
use Rattle.std.proofs.Common.{◌∙◌, ◌++◌, ap, append-nil, inl, refl, sym}
use Rattle.moos_play.specs.Lawful.{names_with, helm_setup_with}
use Rattle.command_line.specs.Endings.{sinking}
use Rattle.moos_jobs.specs.PlayTelling.{TellsLawful}
use Rattle.moos_jobs.proofs.PlayRounds.{named_with, run_as}
use Rattle.moos_jobs.proofs.play_telling.play_rounds.Goals as goal

pub tell-requires-clause-named : goal.tell-requires-clause-named
tell-requires-clause-named g c κs lives =
    let made = c.in-Ok.ensures in
    made.names ∙ ap (λ further. names_with c.args.script.now c.args.helm ++ further) c.new.ensures ∙ append-nil (names_with c.args.script.now c.args.helm)
    ∙ named_with c.args.script.now (helm_setup_with c.args.script.now) c.args.helm ∙ (λ i. names_with (sym made.script i) (sym made.helm i))

pub returns-in-Ok : goal.returns-in-Ok
returns-in-Ok g c =
    let made = c.in-Ok.ensures in
    let sink = sinking (g.K.Sink.taken c.args.out.now) (g.K.Sink.taken c.tell.new.out) (g.K.Sink.faults c.args.out.now) (g.K.Sink.faults c.tell.new.out) in
    run_as (λ order script helm. TellsLawful order script helm c.args.setup.now sink c.tell.result) made.order made.script made.helm c.tell.ensures

pub returns-in-Err : goal.returns-in-Err
returns-in-Err g c = inl (record { taken = refl; faults = refl })
