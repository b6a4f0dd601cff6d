use Rattle.std.proofs.Common.{◌≡◌, ◌<◌, [], length}
use Rattle.std.specs.Prelude.{reverse, slice_index_or}
use Rattle.helm_cond.specs.Conditions.{begins_with, mode_names}
use Rattle.bhv_file.specs.Paths.{paths_of}
use Rattle.bhv_reader.proofs.parent.ends_with_parts.Given as goal

abbrev pub invariant-loop-decl : goal.invariant-loop-decl
invariant-loop-decl l = record {
  within : l.at < length l.decls;
  so_far : begins_with (reverse (mode_names l.text)) (slice_index_or (paths_of l.decls) l.number [])
      ≡ begins_with (reverse (mode_names l.left)) (slice_index_or (paths_of l.decls) l.at []);
}

abbrev pub decreases-loop-decl : goal.decreases-loop-decl
decreases-loop-decl l = length l.left
