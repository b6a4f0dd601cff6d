-- The latest numbers are those of all mails, and so is what is asked for by them.
use Rattle.std.proofs.Common.{◌≡◌, ◌++◌, ◌∷◌, [], ◌∙◌, List, sym, subst, arith}
use Rattle.std.specs.Prelude.{codes, IfOk}
use Rattle.std.proofs.lemmas.Int.{ints}
use Rattle.moos_post.specs.declared.value.Pair.{Pair}
use Rattle.sim_vehicle.specs.declared.rig.Drive.{Drive}
use Rattle.sim_vehicle.specs.declared.setting.CraftSetting.TheVariants.{MaxRudder, MaxThrust}
use Rattle.sim_vehicle.specs.Settings.{AreAllowed}
use Rattle.sim_vehicle.specs.Steering.{drive_of, heading_error, rig_after}
use Rattle.sim_clients.proofs.Hearing.{drive_next, number_more, rig_next}
use Rattle.sim_clients.specs.Clients.{drive_by, drive_pairs}
use Rattle.sim_clients.specs.Keeping.{pairs_in_mail}
use Rattle.sim_clients.proofs.marine_pid.MarinePid.turn.Goals as goal

pub drive_pairs-requires-clause-rudder : goal.drive_pairs-requires-clause-rudder
drive_pairs-requires-clause-rudder c =
    let allowed : AreAllowed c.args.craft.now = c.allowed_law.ensures in
    let within = c.control-drive.ensures.rudder in
    (omega (arith, ints, within.0, (allowed MaxRudder).1), omega (arith, ints, within.1, (allowed MaxRudder).1))

pub drive_pairs-requires-clause-thrust : goal.drive_pairs-requires-clause-thrust
drive_pairs-requires-clause-thrust c =
    let allowed : AreAllowed c.args.craft.now = c.allowed_law.ensures in
    let within = c.control-drive.ensures.thrust in
    (omega (arith, ints, within.0), omega (arith, ints, within.1, (allowed MaxThrust).1))

pub returns-clause-after : goal.returns-clause-after
returns-clause-after c = λ mails is.
    let craft = c.args.craft.now in
    let said = pairs_in_mail c.args.mail.now in
    let old = c.args.self.now in
    let want_heading = c.hear.ensures.want_heading ∙ number_more (codes "DESIRED_HEADING") mails said old.want_heading is.want_heading in
    let want_speed = c.hear.ensures.want_speed ∙ number_more (codes "DESIRED_SPEED") mails said old.want_speed is.want_speed in
    let heading = c.hear.ensures.heading ∙ number_more (codes "NAV_HEADING") mails said old.heading is.heading in
    record {
      rig = c.control-drive.ensures.rig
          ∙ (λ j. rig_after craft ((c.hear.ensures.rig ∙ is.rig) j) (heading_error ((c.thousandths.ensures.value ∙ want_heading) j) ((c.thousandths-3.ensures.value ∙ heading) j)))
          ∙ sym (rig_next craft mails said);
      want_heading = want_heading;
      want_speed = want_speed;
      heading = heading;
    }

pub returns-clause-said : goal.returns-clause-said
returns-clause-said c = λ mails is.
    let craft = c.args.craft.now in
    let said = pairs_in_mail c.args.mail.now in
    let old = c.args.self.now in
    let want_heading = c.hear.ensures.want_heading ∙ number_more (codes "DESIRED_HEADING") mails said old.want_heading is.want_heading in
    let want_speed = c.hear.ensures.want_speed ∙ number_more (codes "DESIRED_SPEED") mails said old.want_speed is.want_speed in
    let heading = c.hear.ensures.heading ∙ number_more (codes "NAV_HEADING") mails said old.heading is.heading in
    let asked : c.control-drive.result ≡ drive_by craft (mails ++ said ∷ [])
    = c.control-drive.ensures.drive
    ∙ (λ j. drive_of craft ((c.hear.ensures.rig ∙ is.rig) j) (heading_error ((c.thousandths.ensures.value ∙ want_heading) j) ((c.thousandths-3.ensures.value ∙ heading) j)) ((c.thousandths-2.ensures.value ∙ want_speed) j))
    ∙ sym (drive_next craft mails said) in
    subst (λ (drive : Drive). IfOk c.drive_pairs.result (λ (batch : List Pair). batch ≡ drive_pairs drive)) asked c.drive_pairs.ensures
