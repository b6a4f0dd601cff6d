use Rattle.std.proofs.Common.{◌≡◌, ◌++◌, true, length}
use Rattle.mode_tree.specs.Modes.{path_text}
use Rattle.mode_tree.specs.Paths.{parts_by, are_declared}
use Rattle.mode_tree.proofs.text.path_bytes.Given as goal

abbrev pub invariant-parts : goal.invariant-parts
invariant-parts l = record {
  declared : are_declared l.decls l.left ≡ true;
  text : l.text.items ++ path_text l.decls (parts_by l.other l.left) ≡ path_text l.decls (parts_by l.other l.numbers);
}

abbrev pub decreases-parts : goal.decreases-parts
decreases-parts l = length l.left
