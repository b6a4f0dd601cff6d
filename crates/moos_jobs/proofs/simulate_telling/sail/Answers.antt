-- The play that is told has the script, the helm and the names that were given, and the vehicle's clients may come to it.
use Rattle.std.proofs.Common.{◌∙◌, arith, inl, refl}
use Rattle.moos_jobs.proofs.simulate_telling.sail.Goals as goal

pub overflow_cast-pid_client : goal.overflow_cast-pid_client
overflow_cast-pid_client g c = omega (arith, c.requires.valid.few_clients, c.len.ensures)

pub overflow_add-pid_client : goal.overflow_add-pid_client
overflow_add-pid_client g c = omega (arith, c.requires.valid.few_clients, c.len.ensures)

pub returns-in-Ok : goal.returns-in-Ok
returns-in-Ok g c = λ task of.
    let made = c.in-Ok.ensures in
    c.launch.ensures task (record {
      same_script = made.script ∙ of.same_script;
      same_helm = made.helm ∙ of.same_helm;
      same_names = made.names ∙ of.same_names;
      same_gear = of.same_gear;
      same_setup = of.same_setup;
      told = of.told;
      ranges = of.ranges;
      steers = of.steers;
    })

pub returns-in-Err : goal.returns-in-Err
returns-in-Err g c = λ task of. inl (record { taken = refl; faults = refl })
