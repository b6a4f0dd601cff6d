use Rattle.std.proofs.Common.{◌≡◌, ◌+◌, ◌<◌, ◌≤◌, [], length}
use Rattle.std.specs.Prelude.{slice_index_or}
use Rattle.bhv_file.specs.Paths.{paths_of}
use Rattle.bhv_reader.proofs.parent.path_len.Given as goal

abbrev pub invariant-loop-parent : goal.invariant-loop-parent
invariant-loop-parent l = record {
  within : l.at < length l.decls;
  short : l.len + l.at ≤ l.number + 1;
  so_far : l.len + length (slice_index_or (paths_of l.decls) l.at []) ≡ length (slice_index_or (paths_of l.decls) l.number []) + 1;
}

abbrev pub decreases-loop-parent : goal.decreases-loop-parent
decreases-loop-parent l = l.at
