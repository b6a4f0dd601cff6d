use Rattle.std.proofs.Common.{rules}
use Rattle.std.proofs.lemmas.Bool.{ltb-true, ltb-false}
use Rattle.std.proofs.lemmas.List.Sorted.{IsPartitionPoint-from_clause, IsPartitionedBy-ltb}
use Rattle.std.proofs.Common.{nat_lt, arith}
use Rattle.ivp_func.proofs.Meetings.{rises_by}
use Rattle.ivp_func.proofs.grid.first_from.Goals as goal

pub returns-clause-below : goal.returns-clause-below
returns-clause-below c =
    let point = IsPartitionPoint-from_clause (λ one. nat_lt one c.args.from) c.args.numbers.now c.partition_point.result c.partition_point.ensures.partitioned (IsPartitionedBy-ltb (λ one. one) c.args.numbers.now c.args.from (rises_by c.args.numbers.now c.requires)) (λ a r q k. search rules) in
    λ place before. ltb-true _ _ (point.0 place 0 (omega arith) before)

pub returns-clause-rest : goal.returns-clause-rest
returns-clause-rest c =
    let point = IsPartitionPoint-from_clause (λ one. nat_lt one c.args.from) c.args.numbers.now c.partition_point.result c.partition_point.ensures.partitioned (IsPartitionedBy-ltb (λ one. one) c.args.numbers.now c.args.from (rises_by c.args.numbers.now c.requires)) (λ a r q k. search rules) in
    λ place behind inside. ltb-false _ _ (point.1 place 0 behind inside)
