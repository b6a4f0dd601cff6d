use Rattle.std.proofs.Common.{◌≡◌, drop, fold}
use Rattle.std.specs.List.{flat_map}
use Rattle.helm_cond.specs.Conditions.{names_in}
use Rattle.helm_core.specs.Plans.{with_wanted}
use Rattle.helm_core.proofs.wanted.Wanted.want_block.Given as goal

abbrev pub invariant-loop-cond : goal.invariant-loop-cond
invariant-loop-cond l =
    fold with_wanted l.self (flat_map names_in (drop l.cond-index l.block.common.conds)) ≡ fold with_wanted l.fn.self (flat_map names_in l.block.common.conds)
