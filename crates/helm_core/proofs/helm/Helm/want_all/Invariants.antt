use Rattle.std.proofs.Common.{◌≡◌, ◌++◌, drop, fold}
use Rattle.std.specs.List.{flat_map}
use Rattle.helm_core.specs.Plans.{block_names, decl_names, with_wanted}
use Rattle.helm_core.proofs.helm.Helm.want_all.Given as goal

abbrev pub invariant-loop-decl : goal.invariant-loop-decl
invariant-loop-decl l = fold with_wanted l.wanted (flat_map decl_names (drop l.decl-index l.decl-items)) ≡ fold with_wanted l.fn.wanted (flat_map decl_names l.self.modes)

abbrev pub invariant-loop-block : goal.invariant-loop-block
invariant-loop-block l =
    fold with_wanted l.wanted (flat_map block_names (drop l.block-index l.block-items))
    ≡ fold with_wanted l.fn.wanted (flat_map decl_names l.self.modes ++ flat_map block_names l.self.behavior_list.blocks)
