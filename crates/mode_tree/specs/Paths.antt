-- A path as it is kept: the numbers of its declarations, and whether the last one stands for its OTHER name.
use Rattle.std.specs.Prelude.{◌≡◌, ℕ, ◌≤◌, Bool, true, false, ◌&&◌, nat_lt, if◌then◌else◌, List, [], ◌∷◌, ◌++◌, length, take, unwrap_or}
use Rattle.bhv_file.specs.declared.decl.Decl.{Decl}
use Rattle.mode_tree.specs.declared.path.Path.{Path}
use Rattle.mode_tree.specs.Modes.{ModePart, Named, Other, has_other}

-- the parts that numbers give, the last one an OTHER name or a declaration as the others
abbrev pub parts_by : Bool → List ℕ → List ModePart
parts_by other [] = []
parts_by other (number ∷ []) = (if other then Other number else Named number) ∷ []
parts_by other (number ∷ next ∷ rest) = Named number ∷ parts_by other (next ∷ rest)

-- the parts of a path
abbrev pub parts_of_path : Path → List ModePart
parts_of_path path = parts_by path.other (take path.len path.decls)

-- the numbers are below this one
abbrev pub are_below : ℕ → List ℕ → Bool
are_below number [] = true
are_below number (one ∷ rest) = nat_lt one number && are_below number rest

-- the numbers are those of declarations
abbrev pub are_declared : List Decl → List ℕ → Bool
are_declared decls numbers = are_below (length decls) numbers

-- what a declaration prints as within a path: its name and a `:`, or as the last part its name or its OTHER name
abbrev pub part_bytes : Decl → Bool → Bool → List ℕ
part_bytes decl true other = if other then unwrap_or decl.other [] else decl.name
part_bytes decl false other = decl.name ++ 58 ∷ []

-- the last of these numbers, of which there is one at least, is that of a declaration with an OTHER name
abbrev pub ends_with_other : List Decl → List ℕ → Bool
ends_with_other decls [] = false
ends_with_other decls (number ∷ []) = has_other decls number
ends_with_other decls (number ∷ next ∷ rest) = ends_with_other decls (next ∷ rest)

-- A path of these declarations: at most 16 parts, each of which is one of them, and if an OTHER name is the last part, the
-- last of them has one.
pub record IsPathOf (decls : List Decl) (path : Path) : Type 0 where
  pub short : path.len ≤ 16
  pub declared : are_declared decls (take path.len path.decls) ≡ true
  pub other : path.other ≡ true → ends_with_other decls (take path.len path.decls) ≡ true
