-- The path of a declaration, by its own name and the path of its parent.
use Rattle.std.proofs.Common.{◌≡◌, ℕ, zero, suc, ◌+◌, ◌<◌, Bool, true, false, cond, nat_lt, Option, Some, None, List, [], ◌∷◌, ◌++◌, length, get_or, refl, ap, sym, subst, ◌∙◌, arith, length-append, add-zero, zero-add}
use Rattle.std.specs.Prelude.{fold, slice_get, slice_index_or}
use Rattle.std.proofs.lemmas.Bool.{ltb-true, ltb-false}
use Rattle.std.proofs.Math.ListN.{get_or-append}
use Rattle.std.proofs.Math.Seq.{get_or-append_seam}
use Rattle.std.proofs.lemmas.List.{get_or_past}
use Rattle.std.proofs.lemmas.Option.{slice_get-get_or}
use Rattle.bhv_file.specs.declared.decl.Decl.{Decl}
use Rattle.bhv_file.specs.Paths.{above_of, parent_path, paths_of, with_path}

-- a path of names, the declaration's own first
abbrev Path : Type 0
Path = List (List ℕ)

-- later declarations change no path
grown : (paths : List Path) (decls : List Decl) (k : ℕ) → k < length paths → slice_index_or (fold with_path paths decls) k [] ≡ slice_index_or paths k []
grown paths [] k within = refl
grown paths (decl ∷ decls) k within =
    let new : Path = decl.name ∷ parent_path paths decl.parent in
    let longer : length (paths ++ new ∷ []) ≡ length paths + 1 = length-append paths (new ∷ []) in
    grown (paths ++ new ∷ []) decls k (omega (arith, longer)) ∙ get_or-append paths (new ∷ []) [] k within

-- the path of the parent is the same among all
same_parent : (paths : List Path) (decls : List Decl) (parent : Option ℕ) → parent_path paths parent ≡ parent_path (fold with_path paths decls) (above_of (length paths) parent)
same_parent paths decls None = refl
same_parent paths decls (Some parent) = at (nat_lt parent (length paths)) refl
  where
    at : (b : Bool) → nat_lt parent (length paths) ≡ b → slice_index_or paths parent [] ≡ parent_path (fold with_path paths decls) (cond b (Some parent) None)
    at true e = sym (grown paths decls parent (ltb-true parent (length paths) e))
    at false e = get_or_past paths parent [] (ltb-false parent (length paths) e)

path_from : (paths : List Path) (decls : List Decl) (k : ℕ) (decl : Decl) → slice_get decls k ≡ Some decl → slice_index_or (fold with_path paths decls) (length paths + k) [] ≡ decl.name ∷ parent_path (fold with_path paths decls) (above_of (length paths + k) decl.parent)
path_from paths [] k decl is = absurd cc
path_from paths (first ∷ decls) zero decl is =
    let same : first ≡ decl = cc in
    let new : Path = first.name ∷ parent_path paths first.parent in
    let longer : length (paths ++ new ∷ []) ≡ length paths + 1 = length-append paths (new ∷ []) in
    let here : slice_index_or (fold with_path (paths ++ new ∷ []) decls) (length paths) [] ≡ new =
    grown (paths ++ new ∷ []) decls (length paths) (omega (arith, longer)) ∙ get_or-append_seam paths new [] [] in
    rw (add-zero (length paths)) (here ∙ ap (λ path. first.name ∷ path) (same_parent paths (first ∷ decls) first.parent)
    ∙ ap (λ (d : Decl). d.name ∷ parent_path (fold with_path paths (first ∷ decls)) (above_of (length paths) d.parent)) same)
path_from paths (first ∷ decls) (suc k) decl is =
    let new : Path = first.name ∷ parent_path paths first.parent in
    let longer : length (paths ++ new ∷ []) + k ≡ length paths + suc k = omega (arith, length-append paths (new ∷ [])) in
    ap (λ n. slice_index_or (fold with_path (paths ++ new ∷ []) decls) n []) (sym longer) ∙ path_from (paths ++ new ∷ []) decls k decl is
    ∙ ap (λ n. decl.name ∷ parent_path (fold with_path (paths ++ new ∷ []) decls) (above_of n decl.parent)) longer

-- the path of the declaration with this number
pub path_at : (decls : List Decl) (k : ℕ) (decl : Decl) → slice_get decls k ≡ Some decl → slice_index_or (paths_of decls) k [] ≡ decl.name ∷ parent_path (paths_of decls) (above_of k decl.parent)
path_at decls k decl is = rw (sym (zero-add k)) (path_from [] decls k decl is)

pub length-paths_of : (paths : List Path) (decls : List Decl) → length (fold with_path paths decls) ≡ length paths + length decls
length-paths_of paths [] = sym (add-zero (length paths))
length-paths_of paths (decl ∷ decls) =
    let new : Path = decl.name ∷ parent_path paths decl.parent in
    let more = length-paths_of (paths ++ new ∷ []) decls in
    let longer : length (paths ++ new ∷ []) ≡ length paths + 1 = length-append paths (new ∷ []) in
    omega (arith, more, longer)

-- the path of a declaration that is found at this number
pub found_path : (decls : List Decl) (k : ℕ) (decl : Decl) → k < length decls → decl ≡ get_or decls k decl → slice_index_or (paths_of decls) k [] ≡ decl.name ∷ parent_path (paths_of decls) (above_of k decl.parent)
found_path decls k decl within is = path_at decls k decl (slice_get-get_or decls k decl within ∙ ap Some (sym is))

-- one with a parent, which is an earlier one
pub path_up : (decls : List Decl) (k : ℕ) (decl : Decl) (parent : ℕ) → k < length decls → decl ≡ get_or decls k decl → Some parent ≡ above_of k decl.parent → slice_index_or (paths_of decls) k [] ≡ decl.name ∷ slice_index_or (paths_of decls) parent []
path_up decls k decl parent within is up = found_path decls k decl within is ∙ ap (λ o. decl.name ∷ parent_path (paths_of decls) o) (sym up)

-- and a root
pub path_top : (decls : List Decl) (k : ℕ) (decl : Decl) → k < length decls → decl ≡ get_or decls k decl → None ≡ above_of k decl.parent → slice_index_or (paths_of decls) k [] ≡ decl.name ∷ []
path_top decls k decl within is top = found_path decls k decl within is ∙ ap (λ o. decl.name ∷ parent_path (paths_of decls) o) (sym top)

pub above_less : (k parent : ℕ) (o : Option ℕ) → Some parent ≡ above_of k o → parent < k
above_less k parent None e = absurd cc
above_less k parent (Some other) e = at (nat_lt other k) refl e
  where
    at : (b : Bool) → nat_lt other k ≡ b → Some parent ≡ cond b (Some other) None → parent < k
    at true t e = let same : parent ≡ other = cc in subst (λ n. n < k) (sym same) (ltb-true other k t)
    at false t e = absurd cc
