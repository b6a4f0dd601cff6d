use Rattle.std.proofs.Common.{◌∙◌, Ok, ap, arith, refl, rules}
use Rattle.moos_play.specs.Plays.{left_in}
use Rattle.moos_play.specs.Runs.{shown_by}
use Rattle.moos_play.specs.declared.stage.Stage.{Stage}
use Rattle.moos_play.proofs.Handing.{goes_on_twice, stays_twice}
use Rattle.moos_play.proofs.run.play_out.Goals as goal

pub loop-init : goal.loop-init
loop-init g c = record { at_play = c.requires.at_play; seated = search rules; same = record { script = refl; order = refl; names = refl; helm = refl }; told = refl }

pub loop-preserved : goal.loop-preserved
loop-preserved g c =
    let so = c.loop.invariant in
    let on = c.in_ok-go_on.ensures.stepped in
    record {
      at_play = on.at_play;
      seated = stays_twice c.args.run.now c.loop.run c.go_on.new.self so.seated on.seated;
      same = goes_on_twice (shown_by c.args.run.now) (shown_by c.loop.run) (shown_by c.go_on.new.self) so.same on.same;
      told = omega (arith, on.told, so.told);
    }

pub returns-clause-same : goal.returns-clause-same
returns-clause-same g c = goes_on_twice (shown_by c.args.run.now) (shown_by c.loop.run) (shown_by c.go_on.new.self) c.loop.invariant.same c.in_ok-go_on.ensures.stepped.same

pub returns-clause-told : goal.returns-clause-told
returns-clause-told g c = omega (arith, c.in_ok-go_on.ensures.stepped.told, c.loop.invariant.told)

pub returns-clause-over : goal.returns-clause-over
returns-clause-over g c = let over = c.in_ok-go_on.ensures.over (ap Ok c.if-branch.false) in ap (λ (run : Stage). left_in (shown_by run)) over.1 ∙ over.0

pub returns-clause-seated : goal.returns-clause-seated
returns-clause-seated g c = stays_twice c.args.run.now c.loop.run c.go_on.new.self c.loop.invariant.seated c.in_ok-go_on.ensures.stepped.seated

pub returns-in_err-go_on-clause-seated : goal.returns-in_err-go_on-clause-seated
returns-in_err-go_on-clause-seated g c = stays_twice c.args.run.now c.loop.run c.go_on.new.self c.loop.invariant.seated c.in_err-go_on.ensures.stepped.seated
