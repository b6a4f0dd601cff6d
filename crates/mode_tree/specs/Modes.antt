-- The mode: a path through the declarations, which are a tree by their parents' numbers.
use Rattle.std.specs.Prelude.{ℕ, zero, suc, ◌||◌, Bool, false, List, [], ◌∷◌, map, filter, slice_index_or, Option, Some, None, is_some, unwrap_or, option_map, nat_eq}
use Rattle.std.specs.List.{enumerate_from, find, join_with_byte, list_all}
use Rattle.std.specs.Option.{option_eq}
use Rattle.helm_cond.specs.Conditions.{holds, parent_of}
use Rattle.helm_cond.specs.Learnt.{Knowledge}
use Rattle.bhv_file.specs.declared.decl.Decl.{Decl}

-- a part of a path: a declaration by its number, or the OTHER name of one
pub data ModePart : Type 0 where
  Named : ℕ → ModePart
  Other : ℕ → ModePart

-- the declaration's conditions all hold, if its parent line is passed over; they are judged without a mode, since none of the
-- others names MODE (`fits_mode`)
abbrev pub is_met : Knowledge → Decl → Bool
is_met known decl = list_all (λ cond. is_some (parent_of cond) || holds known [] cond) decl.conds

-- the declarations under a parent, or the roots, each with its number, in file order
abbrev pub declared_under : List Decl → Option ℕ → List (ℕ × Decl)
declared_under decls parent = filter (λ child. option_eq nat_eq child.1.parent parent) (enumerate_from 0 decls)

-- the number of the first of these that passes the test
abbrev pub first_of : (Decl → Bool) → List (ℕ × Decl) → Option ℕ
first_of test siblings = option_map (λ one. one.0) (find (λ one. test one.1) siblings)

-- the chosen declaration and what is below it, or else the OTHER name, or else nothing
abbrev pub path_from : (ℕ → List ModePart) → Option ℕ → Option ℕ → List ModePart
path_from below (Some number) other = Named number ∷ below number
path_from below None (Some number) = Other number ∷ []
path_from below None None = []

-- The path below a parent, of at most `parts` parts: the first of the siblings that is met and its children, or else the OTHER
-- name of the first that has one.
abbrev pub path_below : List Decl → Knowledge → ℕ → Option ℕ → List ModePart
path_below decls known zero parent = []
path_below decls known (suc parts) parent =
    let siblings = declared_under decls parent in
    path_from (λ number. path_below decls known parts (Some number)) (first_of (is_met known) siblings) (first_of (λ decl. is_some decl.other) siblings)

-- The mode begins at the roots. A path has at most 16 parts.
abbrev pub mode_of : List Decl → Knowledge → List ModePart
mode_of decls known = path_below decls known 16 None

-- the name of the declaration of this number; empty if there is none
abbrev pub name_of_decl : List Decl → ℕ → List ℕ
name_of_decl decls number = slice_index_or (map (λ decl. decl.name) decls) number []

-- the OTHER name of the declaration of this number; empty if it has none, or isn't there
abbrev pub other_of_decl : List Decl → ℕ → List ℕ
other_of_decl decls number = slice_index_or (map (λ decl. unwrap_or decl.other []) decls) number []

-- the declaration of this number has an OTHER name
abbrev pub has_other : List Decl → ℕ → Bool
has_other decls number = slice_index_or (map (λ decl. is_some decl.other) decls) number false

-- the name of a part
abbrev pub part_name : List Decl → ModePart → List ℕ
part_name decls (Named number) = name_of_decl decls number
part_name decls (Other number) = other_of_decl decls number

-- what a path prints as: the names of its parts with `:` between
abbrev pub path_text : List Decl → List ModePart → List ℕ
path_text decls path = join_with_byte 58 (map (part_name decls) path)

-- the mode's text
abbrev pub mode_text : List Decl → Knowledge → List ℕ
mode_text decls known = path_text decls (mode_of decls known)
