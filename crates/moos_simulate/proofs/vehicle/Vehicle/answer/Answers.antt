-- Each client's call is its turn, and where no memory was left what was entered is lawful so far.
use Rattle.std.proofs.Common.{◌∙◌, ap, subst}
use Rattle.moos_play.specs.Plays.{clients_in, helm_in, history_in, script_played}
use Rattle.moos_simulate.proofs.Adding.{adds_on, pid_adds, pid_adds_part, sim_adds, sim_adds_part}
use Rattle.moos_simulate.proofs.Going.{always_err, goes_on_twice, lawful_on}
use Rattle.moos_simulate.proofs.Voyage.{pid_answered, pid_stopped, sim_answered, sim_known, sim_stopped}
use Rattle.moos_simulate.specs.declared.vehicle.Vehicle.{Vehicle}
use Rattle.moos_simulate.specs.Simulated.{IsSimulatedSoFar}
use Rattle.moos_simulate.proofs.vehicle.Vehicle.answer.Goals as goal

pub returns-in_err-control-clause-so_far : goal.returns-in_err-control-clause-so_far
returns-in_err-control-clause-so_far g c =
    let a = c.requires in
    let old = c.args.play.now in
    let new = c.control.new.play in
    let gear = c.args.self.now.gear in
    always_err c.from_residual.result (IsSimulatedSoFar (script_played new) (helm_in new) gear (clients_in new) (history_in new))
    (lawful_on gear a.helm old new a.beside.steered c.in_err-control.ensures.goes_on.same (pid_stopped c.args.self.now old c.args.stamp a new c.in_err-control.ensures.stopped))

pub returns-in_err-sail-clause-so_far : goal.returns-in_err-sail-clause-so_far
returns-in_err-sail-clause-so_far g c =
    let vehicle = c.args.self.now in
    let old = c.args.play.now in
    let mid = c.control.new.play in
    let new = c.sail.new.play in
    let first = c.in_ok-control.ensures.vehicle in
    let on = c.in_ok-control.ensures.goes_on in
    let after = pid_answered vehicle old c.args.stamp c.requires c.control.new.self mid on first c.in_ok-control.ensures.turned c.in_ok-control.ensures.after in
    let gear = ap (λ (v : Vehicle). v.gear) first in
    always_err c.from_residual-in_err-sail.result (IsSimulatedSoFar (script_played new) (helm_in new) vehicle.gear (clients_in new) (history_in new))
    (subst (λ gear. IsSimulatedSoFar (script_played new) (helm_in new) gear (clients_in new) (history_in new)) gear
    (lawful_on c.control.new.self.gear after.helm mid new after.beside.steered c.in_err-sail.ensures.goes_on.same
    (sim_stopped c.control.new.self mid c.args.stamp after new c.in_err-sail.ensures.stopped)))

pub sail-requires-clause-known : goal.sail-requires-clause-known
sail-requires-clause-known g c =
    let on = c.in_ok-control.ensures.goes_on in
    let after = pid_answered c.args.self.now c.args.play.now c.args.stamp c.requires c.control.new.self c.control.new.play on c.in_ok-control.ensures.vehicle c.in_ok-control.ensures.turned c.in_ok-control.ensures.after in
    sim_known c.control.new.self c.control.new.play c.args.stamp after

pub watch-requires : goal.watch-requires
watch-requires g c =
    let vehicle = c.args.self.now in
    let old = c.args.play.now in
    let mid = c.control.new.play in
    let new = c.sail.new.play in
    let on = c.in_ok-control.ensures.goes_on in
    let after = pid_answered vehicle old c.args.stamp c.requires c.control.new.self mid on c.in_ok-control.ensures.vehicle c.in_ok-control.ensures.turned c.in_ok-control.ensures.after in
    sim_answered c.control.new.self mid c.args.stamp after c.sail.new.self new c.in_ok-sail.ensures.goes_on c.in_ok-sail.ensures.vehicle c.in_ok-sail.ensures.turned c.in_ok-sail.ensures.after

pub returns-in_err-watch-clause-so_far : goal.returns-in_err-watch-clause-so_far
returns-in_err-watch-clause-so_far g c =
    let new = c.watch.new.play in
    let vehicle = c.args.self.now in
    let gear = ap (λ (v : Vehicle). v.gear) c.in_ok-sail.ensures.vehicle ∙ ap (λ (v : Vehicle). v.gear) c.in_ok-control.ensures.vehicle in
    always_err c.from_residual-in_err-watch.result (IsSimulatedSoFar (script_played new) (helm_in new) vehicle.gear (clients_in new) (history_in new))
    (subst (λ gear. IsSimulatedSoFar (script_played new) (helm_in new) gear (clients_in new) (history_in new)) gear c.in_err-watch.ensures.so_far)

pub returns-in_err-control-clause-added : goal.returns-in_err-control-clause-added
returns-in_err-control-clause-added g c = pid_adds_part c.args.self.now c.requires.helm c.args.play.now c.requires.beside c.args.stamp c.control.new.play c.in_err-control.ensures.stopped

pub returns-in_err-sail-clause-added : goal.returns-in_err-sail-clause-added
returns-in_err-sail-clause-added g c =
    let vehicle = c.args.self.now in
    let old = c.args.play.now in
    let mid = c.control.new.play in
    let new = c.sail.new.play in
    let on = c.in_ok-control.ensures.goes_on in
    let after = pid_answered vehicle old c.args.stamp c.requires c.control.new.self mid on c.in_ok-control.ensures.vehicle c.in_ok-control.ensures.turned c.in_ok-control.ensures.after in
    adds_on c.args.stamp old mid new on.same (pid_adds vehicle c.requires.helm old c.requires.beside c.args.stamp mid _ (c.in_ok-control.ensures.turned _ c.requires.kept.pid))
    (sim_adds_part c.control.new.self after.helm mid after.beside c.args.stamp new c.in_err-sail.ensures.stopped)

pub returns-in_err-watch-clause-added : goal.returns-in_err-watch-clause-added
returns-in_err-watch-clause-added g c =
    let vehicle = c.args.self.now in
    let old = c.args.play.now in
    let mid = c.control.new.play in
    let sailed = c.sail.new.play in
    let on = c.in_ok-control.ensures.goes_on in
    let after = pid_answered vehicle old c.args.stamp c.requires c.control.new.self mid on c.in_ok-control.ensures.vehicle c.in_ok-control.ensures.turned c.in_ok-control.ensures.after in
    let known = sim_known c.control.new.self mid c.args.stamp after in
    adds_on c.args.stamp old sailed c.watch.new.play (goes_on_twice old mid sailed on.same c.in_ok-sail.ensures.goes_on.same)
    (adds_on c.args.stamp old mid sailed on.same (pid_adds vehicle c.requires.helm old c.requires.beside c.args.stamp mid _ (c.in_ok-control.ensures.turned _ c.requires.kept.pid))
    (sim_adds c.control.new.self after.helm mid after.beside c.args.stamp sailed _ (c.in_ok-sail.ensures.turned known.0 known.1)))
    c.in_err-watch.ensures.added

pub returns-clause-added : goal.returns-clause-added
returns-clause-added g c =
    let vehicle = c.args.self.now in
    let old = c.args.play.now in
    let mid = c.control.new.play in
    let sailed = c.sail.new.play in
    let on = c.in_ok-control.ensures.goes_on in
    let after = pid_answered vehicle old c.args.stamp c.requires c.control.new.self mid on c.in_ok-control.ensures.vehicle c.in_ok-control.ensures.turned c.in_ok-control.ensures.after in
    let known = sim_known c.control.new.self mid c.args.stamp after in
    adds_on c.args.stamp old sailed c.watch.new.play (goes_on_twice old mid sailed on.same c.in_ok-sail.ensures.goes_on.same)
    (adds_on c.args.stamp old mid sailed on.same (pid_adds vehicle c.requires.helm old c.requires.beside c.args.stamp mid _ (c.in_ok-control.ensures.turned _ c.requires.kept.pid))
    (sim_adds c.control.new.self after.helm mid after.beside c.args.stamp sailed _ (c.in_ok-sail.ensures.turned known.0 known.1)))
    c.in_ok-watch.ensures.added
