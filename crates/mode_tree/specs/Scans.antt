-- The mode found in one pass over the declarations: this serves `mode` alone.
use Rattle.std.specs.Prelude.{◌≡◌, ℕ, zero, suc, ◌+◌, ◌≤◌, ◌<◌, Bool, true, false, ◌&&◌, nat_lt, nat_eq, if◌then◌else◌, List, [], ◌∷◌, ◌++◌, length, map, take, Option, Some, None, is_some}
use Rattle.std.specs.Option.{option_eq}
use Rattle.bhv_file.specs.declared.decl.Decl.{Decl}
use Rattle.helm_cond.specs.Learnt.{Knowledge}
use Rattle.mode_tree.specs.declared.walk.Walk.{Walk}
use Rattle.mode_tree.specs.Modes.{ModePart, Named, Other, has_other, is_met}
use Rattle.mode_tree.specs.Paths.{are_below}

-- the parent is before this number, or there is none
abbrev pub stands_before : Option ℕ → ℕ → Bool
stands_before None number = true
stands_before (Some parent) number = nat_lt parent number

-- each declaration follows its parent, the first having this number
abbrev pub are_rooted : ℕ → List Decl → Bool
are_rooted number [] = true
are_rooted number (decl ∷ decls) = stands_before decl.parent number && are_rooted (number + 1) decls

-- the sibling whose OTHER name counts, with one more sibling, of this number
abbrev pub other_with : Option ℕ → ℕ → Decl → Option ℕ
other_with (Some other) number decl = Some other
other_with None number decl = if is_some decl.other then Some number else None

-- the OTHER name of this sibling, if there is one
abbrev pub other_part : Option ℕ → List ModePart
other_part None = []
other_part (Some number) = Other number ∷ []

-- What is left of a path, of at most `parts` parts, under this parent, with the declarations from this number on left to ask and
-- the OTHER name of this sibling.
abbrev pub scan : Knowledge → ℕ → Option ℕ → Option ℕ → ℕ → List Decl → List ModePart
scan known zero parent other number decls = []
scan known (suc parts) parent other number [] = other_part other
scan known (suc parts) parent other number (decl ∷ decls) =
    if option_eq nat_eq decl.parent parent then
    (if is_met known decl then Named number ∷ scan known parts (Some number) None (number + 1) decls
    else scan known (suc parts) parent (other_with other number decl) (number + 1) decls)
    else scan known (suc parts) parent other (number + 1) decls

-- a walk that came to this number, with these declarations left, comes to these parts
pub record ComesTo (known : Knowledge) (walk : Walk) (number : ℕ) (decls : List Decl) (all : List ModePart) : Type 0 where
  pub parts : ℕ
  pub room : walk.path.len + parts ≡ 16
  pub row : length walk.path.decls ≡ 16
  pub named : walk.path.other ≡ false
  pub is : map Named (take walk.path.len walk.path.decls) ++ scan known parts walk.parent walk.other number decls ≡ all

-- A walk over these declarations that came to this number names only those before it, and no OTHER name but one that is there.
pub record IsWithin (decls : List Decl) (number : ℕ) (walk : Walk) : Type 0 where
  pub short : walk.path.len ≤ 16
  pub row : length walk.path.decls ≡ 16
  pub below : are_below number (take walk.path.len walk.path.decls) ≡ true
  pub plain : walk.path.other ≡ false
  pub other : (one : ℕ) → walk.other ≡ Some one → (one < number) × (has_other decls one ≡ true)
