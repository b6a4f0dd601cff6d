-- The contact manager's call is its turn, and all have answered with it, or without it where there is none.
use Rattle.std.proofs.Common.{length}
use Rattle.moos_play.proofs.Stamping.{adds_none}
use Rattle.moos_play.specs.Plays.{clients_in, history_in}
use Rattle.moos_simulate.proofs.Adding.{turn_adds}
use Rattle.moos_simulate.proofs.Going.{both_ok, err_then, lawful_on, stays_here}
use Rattle.moos_simulate.proofs.Voyage.{found, mails'', mgr_further, mgr_stopped, none_watches, one_watches}
use Rattle.script_reader.specs.declared.script.Order.TheVariants.{Stamp}
use Rattle.moos_simulate.proofs.vehicle.Vehicle.watch.Goals as goal

pub watch_contacts-requires-clause-further : goal.watch_contacts-requires-clause-further
watch_contacts-requires-clause-further g c = mgr_further c.args.self.now c.args.play.now c.args.stamp c.requires c.in-Some.mgr c.in-Some.is

pub returns-in-None-clause-goes_on : goal.returns-in-None-clause-goes_on
returns-in-None-clause-goes_on g c = stays_here c.args.play.now c.requires.beside.between

pub returns-in-None-clause-simulating : goal.returns-in-None-clause-simulating
returns-in-None-clause-simulating g c = none_watches c.args.self.now c.args.play.now c.args.stamp c.requires c.in-None.is

pub returns-in-Some-clause-simulating : goal.returns-in-Some-clause-simulating
returns-in-Some-clause-simulating g c =
    let vehicle = c.args.self.now in
    let old = c.args.play.now in
    let one = c.in-Some.mgr in
    let here = found vehicle old c.args.stamp c.requires one c.in-Some.is in
    let mails = mails'' vehicle old c.args.stamp c.requires in
    both_ok c.watch_contacts.result (one_watches vehicle old c.args.stamp c.requires one c.in-Some.is c.watch_contacts.new.mgr c.watch_contacts.new.play c.watch_contacts.ensures.goes_on)
    (c.watch_contacts.ensures.turned here.0 mails here.2) (c.watch_contacts.ensures.after here.0 mails here.2)

pub returns-in-Some-clause-so_far : goal.returns-in-Some-clause-so_far
returns-in-Some-clause-so_far g c =
    let vehicle = c.args.self.now in
    let old = c.args.play.now in
    let new = c.watch_contacts.new.play in
    err_then c.watch_contacts.result
    (λ stopped. lawful_on vehicle.gear c.requires.helm old new c.requires.beside.steered c.watch_contacts.ensures.goes_on.same
    (mgr_stopped vehicle old c.args.stamp c.requires c.in-Some.mgr c.in-Some.is new stopped))
    c.watch_contacts.ensures.stopped

pub returns-in-None-clause-added : goal.returns-in-None-clause-added
returns-in-None-clause-added g c = adds_none Stamp c.args.stamp (length (clients_in c.args.play.now)) (history_in c.args.play.now)

pub returns-in-Some-clause-added : goal.returns-in-Some-clause-added
returns-in-Some-clause-added g c =
    let vehicle = c.args.self.now in
    let old = c.args.play.now in
    let here = found vehicle old c.args.stamp c.requires c.in-Some.mgr c.in-Some.is in
    let further = mgr_further vehicle old c.args.stamp c.requires c.in-Some.mgr c.in-Some.is in
    turn_adds c.watch_contacts.result vehicle.mgr_client c.args.stamp (length (clients_in old)) _ old c.watch_contacts.new.play further.named
    (c.watch_contacts.ensures.turned here.0 (mails'' vehicle old c.args.stamp c.requires) here.2) c.watch_contacts.ensures.stopped
