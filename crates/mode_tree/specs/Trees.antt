-- What a tree of declarations keeps.
use Rattle.std.specs.Prelude.{◌≡◌, ◌<◌, ◌^◌, true, List, length}
use Rattle.bhv_file.specs.declared.decl.Decl.{Decl}
use Rattle.mode_tree.specs.Scans.{are_rooted}

-- fewer than 2^32 declarations, each of which follows its parent
pub record IsTree (decls : List Decl) : Type 0 where
  pub few : length decls < 2 ^ 32
  pub rooted : are_rooted 0 decls ≡ true
