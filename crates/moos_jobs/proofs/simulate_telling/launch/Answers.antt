-- The play stays that of the simulation while the vehicle's clients come to it.
use Rattle.std.proofs.Common.{◌∙◌, inl, refl}
use Rattle.moos_jobs.proofs.simulate_telling.launch.Goals as goal

pub returns-in-Ok : goal.returns-in-Ok
returns-in-Ok g c = λ task of.
    let on = c.launch.ensures.same in
    c.tell.ensures task (record {
      same_script = on.script ∙ of.same_script;
      same_helm = on.helm ∙ of.same_helm;
      same_names = on.names ∙ of.same_names;
      same_gear = c.in-Ok.ensures.gear ∙ of.same_gear;
      same_setup = of.same_setup;
      told = of.told;
      ranges = of.ranges;
      steers = of.steers;
    })

pub returns-in-Err : goal.returns-in-Err
returns-in-Err g c = λ task of. inl (record { taken = refl; faults = refl })
