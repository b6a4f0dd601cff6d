use Rattle.std.proofs.Common.{◌≡◌, flat_map, take}
use Rattle.helm_core.specs.Iterations.{heard_by_block}
use Rattle.helm_core.proofs.telling.in_file_order.Given as goal

abbrev pub invariant-loop-block : goal.invariant-loop-block
invariant-loop-block l = l.updates ≡ flat_map (heard_by_block l.heard) (take l.block-index l.blocks)
