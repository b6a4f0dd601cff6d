use Rattle.ivp_func.proofs.PointTests.{partition_passes, passes_partition, passes_values, values_pass}
use Rattle.ivp_func.proofs.law.tests_law.Goals as goal

pub returns-clause-partition : goal.returns-clause-partition
returns-clause-partition c = λ axes pieces. (passes_partition axes pieces, partition_passes axes pieces)

pub returns-clause-values : goal.returns-clause-values
returns-clause-values c = λ axes pieces. (passes_values axes pieces, values_pass axes pieces)
