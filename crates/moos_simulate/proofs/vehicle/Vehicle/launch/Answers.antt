-- The vehicle's clients are further ones, and once they have made their openings the vehicle is under sail.
use Rattle.std.proofs.Common.{◌+◌, [], ◌∷◌, ◌++◌, ◌∙◌, arith, refl}
use Rattle.moos_client.specs.Calls.{entry_of}
use Rattle.moos_lawful.specs.Answering.{openings}
use Rattle.moos_post.specs.declared.entry.Call.TheVariants.{Post as Posts, Register}
use Rattle.moos_simulate.proofs.Going.{stays_on_twice}
use Rattle.moos_simulate.proofs.Opening.{launched, unticked}
use Rattle.moos_simulate.specs.declared.vehicle.Vehicle.{Vehicle}
use Rattle.moos_simulate.specs.Simulated.{contact_clients}
use Rattle.sim_clients.specs.Clients.{hull_pairs, sim_marine_regs}
use Rattle.sim_vehicle.specs.Motion.{start_hull}
use Rattle.moos_simulate.proofs.vehicle.Vehicle.launch.Goals as goal

pub overflow_add-sim_client : goal.overflow_add-sim_client
overflow_add-sim_client g c = omega (arith, c.requires.room)

pub overflow_add-mgr_client : goal.overflow_add-mgr_client
overflow_add-mgr_client g c = omega (arith, c.requires.room)

pub returns-clause-simulating : goal.returns-clause-simulating
returns-clause-simulating g c =
    let old = c.args.play.now in
    let first = c.open_pid.new.play in
    let second = c.open_sim.new.play in
    let new = c.open_mgr.new.play in
    let gear = c.args.gear in
    let may = c.requires in
    let vehicle : Vehicle = record { gear = gear; period = c.args.period; pid_client = c.args.pid_client; sim_client = c.args.pid_client + 1; mgr_client = c.args.pid_client + 2; pid = c.make.result; sim = c.make-sim.result; mgr = c.in_ok-mgr.mgr } in
    let stays = stays_on_twice old second new (stays_on_twice old first second c.in_ok-open_pid.ensures.stays c.in_ok-open_sim.ensures.stays) c.in_ok-mgr.ensures.stays in
    launched vehicle c.args.period c.args.pid_client old may (record { pid = refl; sim = omega arith; mgr = omega arith; period = refl }) c.front_law.ensures.helm new stays c.front_law.ensures.steered c.front_law.ensures.so_far
    (c.in_ok-mgr.ensures.opened
    ∙ (λ i. (c.in_ok-open_sim.ensures.opened ∙ (λ j. (c.in_ok-open_pid.ensures.opened j ++ entry_of vehicle.sim_client 0 (Register sim_marine_regs) ∷ []) ++ entry_of vehicle.sim_client 0 (Posts (hull_pairs (start_hull gear.craft))) ∷ [])) i ++ openings vehicle.mgr_client (contact_clients gear.ranges)))
    (c.make.ensures gear.craft) (c.make-sim.ensures may.helm.period) c.in_ok-mgr.ensures.kept

pub returns-clause-begun : goal.returns-clause-begun
returns-clause-begun g c =
    let old = c.args.play.now in
    let first = c.open_pid.new.play in
    let second = c.open_sim.new.play in
    let new = c.open_mgr.new.play in
    let vehicle : Vehicle = record { gear = c.args.gear; period = c.args.period; pid_client = c.args.pid_client; sim_client = c.args.pid_client + 1; mgr_client = c.args.pid_client + 2; pid = c.make.result; sim = c.make-sim.result; mgr = c.in_ok-mgr.mgr } in
    let stays = stays_on_twice old second new (stays_on_twice old first second c.in_ok-open_pid.ensures.stays c.in_ok-open_sim.ensures.stays) c.in_ok-mgr.ensures.stays in
    unticked vehicle c.args.period c.args.pid_client old c.requires (record { pid = refl; sim = omega arith; mgr = omega arith; period = refl }) c.front_law.ensures.helm new stays c.front_law.ensures.steered c.front_law.ensures.so_far
