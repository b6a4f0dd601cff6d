-- The paths of mode declarations, and which of them end with the parts of a parent's name.
use Rattle.std.specs.Prelude.{ℕ, suc, ◌==◌, Bool, nat_lt, if◌then◌else◌, List, [], ◌∷◌, ◌++◌, fold, reverse, slice_index_or, Option, Some, None, Result, Ok, Err}
use Rattle.moos_post.specs.declared.value.Value.{Value}
use Rattle.moos_post.specs.declared.value.Value.TheVariants.{Num, Text}
use Rattle.moos_text.specs.declared.cause.Cause.{Cause}
use Rattle.moos_text.specs.declared.cause.Cause.TheVariants.{B7, B8}
use Rattle.helm_cond.specs.Conditions.{begins_with, mode_names}
use Rattle.bhv_file.specs.declared.decl.Decl.{Decl}

-- the path of a declaration's parent, among those of the earlier ones
abbrev pub parent_path : List (List (List ℕ)) → Option ℕ → List (List ℕ)
parent_path paths None = []
parent_path paths (Some parent) = slice_index_or paths parent []

-- the paths with that of one more declaration: its own name first, and then those of its parent up to the root
abbrev pub with_path : List (List (List ℕ)) → Decl → List (List (List ℕ))
with_path paths decl = paths ++ (decl.name ∷ parent_path paths decl.parent) ∷ []

-- the path of each declaration
abbrev pub paths_of : List Decl → List (List (List ℕ))
paths_of decls = fold with_path [] decls

-- the numbers of those paths, counted from here on, that begin with these names
abbrev pub named_from : ℕ → List (List ℕ) → List (List (List ℕ)) → List ℕ
named_from number names [] = []
named_from number names (path ∷ paths) =
    if begins_with names path then number ∷ named_from (suc number) names paths else named_from (suc number) names paths

-- the declarations that a parent line means: their paths end, from the root down, with the parts of its name, which are
-- the first names from the declaration up; a number means none
abbrev pub meant_by : List Decl → Value → List ℕ
meant_by decls (Num number) = []
meant_by decls (Text text) = named_from 0 (reverse (mode_names text)) (paths_of decls)

-- the one declaration that is meant, by the numbers of those with such a path
abbrev pub the_one : List ℕ → Result ℕ Cause
the_one [] = Err B7
the_one (number ∷ []) = Ok number
the_one (number ∷ more ∷ rest) = Err B8

-- `:`
abbrev pub is_colon : ℕ → Bool
is_colon byte = byte == 58

-- the parent of a declaration with this number, which is an earlier one
abbrev pub above_of : ℕ → Option ℕ → Option ℕ
above_of number None = None
above_of number (Some parent) = if nat_lt parent number then Some parent else None
