use Rattle.bhv_file.proofs.Ranged.{set_kept}
use Rattle.bhv_file.proofs.put.set_param.Goals as goal

pub returns-in_ok-good-in-Some-parameter_named-clause-ranges : goal.returns-in_ok-good-in-Some-parameter_named-clause-ranges
returns-in_ok-good-in-Some-parameter_named-clause-ranges c =
    set_kept c.args.spec.now c.set_value.new.shape c.in-Some-parameter_named.parameter c.args.name.now c.args.value.now c.in_ok-good-in-Some-parameter_named.good c.in-Some-parameter_named.ensures
    c.in_ok-good-in-Some-parameter_named.ensures.good c.in_ok-good-in-Some-parameter_named.ensures.bad
