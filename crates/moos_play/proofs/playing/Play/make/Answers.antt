use Rattle.std.proofs.Common.{◌∙◌, ◌++◌, ap, length, option_map, refl, subst, sym, true}
use Rattle.moos_play.specs.declared.stage.Stage.{Stage}
use Rattle.moos_play.specs.Lawful.{helm_setup_with, names_with}
use Rattle.moos_play.specs.Runs.{IsCoherent}
use Rattle.moos_play.specs.Steered.{HasOpened}
use Rattle.moos_play.proofs.Beginning.{new_within, play_made}
use Rattle.moos_play.proofs.Showing.{sound_ready}
use Rattle.script_reader.specs.Validity.{IsValid}
use Rattle.script_reader.specs.declared.script.Script.{Script}
use Rattle.moos_play.proofs.playing.Play.make.Goals as goal

pub open-requires-clause-new : goal.open-requires-clause-new
open-requires-clause-new g c κs lives =
    let new = c.in_ok-run.ensures in
    new_within c.args.script.now c.args.helm c.args.further c.in_ok-run.run'.lock.base c.in_ok-run.run'.helm_client new.steered new.unticked new.named

pub returns-clause-between : goal.returns-clause-between
returns-clause-between g c = record { whole = refl; seated = c.in_ok-open.ensures.opened.gathered.may.free }

pub invariant_of-result : goal.invariant_of-result
invariant_of-result g c =
    let made = c.in_ok-run.ensures in
    let before = c.in_ok-run.run' in
    let after = c.open.new.self in
    let same = sym made.of in
    let run : Stage = record before { first = record before.first { seat = after.first.seat }; helm_client = after.helm_client } in (
      subst (λ run. IsCoherent run true) (sym c.open.ensures.rest) (sound_ready run true (play_made c.args.helm c.args.further run
          (subst IsValid same c.requires.valid)
          (c.in_ok-open.ensures.same ∙ made.steered ∙ ap (λ (s : Script). option_map (helm_setup_with s) c.args.helm) same)
          (made.named ∙ ap (λ (s : Script). names_with s c.args.helm ++ c.args.further) same)
          (subst (λ lock. HasOpened lock after.helm_client after.first.seat) (ap (λ (r : Stage). r.lock) c.open.ensures.rest) c.in_ok-open.ensures.opened)
          (made.calls ∙ ap (λ (s : Script). length s.names) same)
          made.unplayed)),
      tt,
    )
