-- One pass over the declarations finds the path that the recursion over their tree finds.
use Rattle.std.proofs.Common.{◌≡◌, ℕ, zero, suc, ◌+◌, ◌<◌, ◌≤◌, Bool, true, false, cond, ◌&&◌, List, [], ◌∷◌, length, length-drop, drop, get_or, Option, Some, None, option_map, refl, ap, sym, ◌∙◌, arith}
use Rattle.std.specs.Prelude.{nat_eq, filter, is_some, if◌then◌else◌}
use Rattle.std.specs.List.{enumerate_from, find}
use Rattle.std.specs.Option.{option_eq}
use Rattle.std.proofs.lemmas.Bool.Decides.{nat_tests}
use Rattle.std.proofs.lemmas.List.{drop_more}
use Rattle.bhv_file.specs.declared.decl.Decl.{Decl}
use Rattle.helm_cond.specs.Learnt.{Knowledge}
use Rattle.mode_tree.specs.Modes.{Named, is_met, first_of, path_from, path_below, mode_of}
use Rattle.mode_tree.specs.Scans.{stands_before, are_rooted, other_with, scan}

-- the declarations under a parent among these, the first having this number
abbrev siblings : ℕ → List Decl → Option ℕ → List (ℕ × Decl)
siblings number decls parent = filter (λ child. option_eq nat_eq child.1.parent parent) (enumerate_from number decls)

abbrev or_else : Option ℕ → Option ℕ → Option ℕ
or_else (Some one) other = Some one
or_else None other = other

pub and_left : (a b : Bool) → (a && b) ≡ true → a ≡ true
and_left true b h = refl
and_left false b h = absurd (let e : false ≡ true = h in cc)

pub and_right : (a b : Bool) → (a && b) ≡ true → b ≡ true
and_right true b h = h
and_right false b h = absurd (let e : false ≡ true = h in cc)

no_child : (parent : Option ℕ) (number under : ℕ) → stands_before parent number ≡ true → number ≤ under → option_eq nat_eq parent (Some under) ≡ false
no_child None number under before within = refl
no_child (Some parent) number under before within = grind (arith, nat_tests)

-- no declaration up to one of this number is under it
skip : (m : ℕ) (decls : List Decl) (number under : ℕ) → number + m ≡ under + 1 → are_rooted number decls ≡ true →
    siblings number decls (Some under) ≡ siblings (under + 1) (drop m decls) (Some under)
skip zero decls number under e rooted = let same : number ≡ under + 1 = omega arith in ap (λ first. siblings first decls (Some under)) same
skip (suc m) [] number under e rooted = refl
skip (suc m) (decl ∷ decls) number under e rooted =
    ap (λ own. cond own ((number, decl) ∷ siblings (number + 1) decls (Some under)) (siblings (number + 1) decls (Some under)))
    (no_child decl.parent number under (and_left (stands_before decl.parent number) (are_rooted (number + 1) decls) rooted) (omega arith))
    ∙ skip m decls (number + 1) under (omega arith) (and_right (stands_before decl.parent number) (are_rooted (number + 1) decls) rooted)

or_other : (other found : Option ℕ) (number : ℕ) (has : Bool) → or_else (or_else other (if has then Some number else None)) found ≡ or_else other (cond has (Some number) found)
or_other (Some one) found number has = refl
or_other None found number true = refl
or_other None found number false = refl

other_is : (other : Option ℕ) (number : ℕ) (decl : Decl) → other_with other number decl ≡ or_else other (if is_some decl.other then Some number else None)
other_is (Some one) number decl = refl
other_is None number decl = refl

mapped : (has : Bool) (number : ℕ) (decl : Decl) (rest : Option (ℕ × Decl)) →
    option_map (λ one. one.0) (cond has (Some (number, decl)) rest) ≡ cond has (Some number) (option_map (λ (one : ℕ × Decl). one.0) rest)
mapped true number decl rest = refl
mapped false number decl rest = refl

-- one place further
next_drop : (decls : List Decl) (number : ℕ) (decl : Decl) (rest : List Decl) → drop number decls ≡ decl ∷ rest → drop (number + 1) decls ≡ rest
next_drop decls number decl rest is =
    let some : length (drop number decls) ≡ suc (length rest) = ap length is in
    let within : number < length decls = omega (arith, length-drop number decls) in
    let both : get_or decls number decl ∷ drop (number + 1) decls ≡ decl ∷ rest = sym (drop_more decls number decl within) ∙ is in
    cc

module _ (known : Knowledge) (decls : List Decl) where
  -- what the pass finds under a parent is what the recursion finds, where it does so below each declaration further on
  scan_is : (parts : ℕ) → ((under : ℕ) (rest : List Decl) → drop (under + 1) decls ≡ rest → path_below decls known parts (Some under) ≡ scan known parts (Some under) None (under + 1) rest) →
      (rest : List Decl) (number : ℕ) (parent other : Option ℕ) → drop number decls ≡ rest →
      scan known (suc parts) parent other number rest
      ≡ path_from (λ under. path_below decls known parts (Some under)) (first_of (is_met known) (siblings number rest parent)) (or_else other (first_of (λ decl. is_some decl.other) (siblings number rest parent)))
  scan_is parts below [] number parent None is = refl
  scan_is parts below [] number parent (Some other) is = refl
  scan_is parts below (decl ∷ rest) number parent other is =
      by (option_eq nat_eq decl.parent parent) (is_met known decl) refl
      (below number rest (next_drop decls number decl rest is))
      (λ counts. scan_is parts below rest (number + 1) parent counts (next_drop decls number decl rest is))
    where
      by : (own met : Bool) → is_met known decl ≡ met →
          path_below decls known parts (Some number) ≡ scan known parts (Some number) None (number + 1) rest →
          ((counts : Option ℕ) → scan known (suc parts) parent counts (number + 1) rest
          ≡ path_from (λ under. path_below decls known parts (Some under)) (first_of (is_met known) (siblings (number + 1) rest parent)) (or_else counts (first_of (λ decl. is_some decl.other) (siblings (number + 1) rest parent)))) →
          (if own then (if met then Named number ∷ scan known parts (Some number) None (number + 1) rest else scan known (suc parts) parent (other_with other number decl) (number + 1) rest)
          else scan known (suc parts) parent other (number + 1) rest)
          ≡ path_from (λ under. path_below decls known parts (Some under))
          (first_of (is_met known) (cond own ((number, decl) ∷ siblings (number + 1) rest parent) (siblings (number + 1) rest parent)))
          (or_else other (first_of (λ decl. is_some decl.other) (cond own ((number, decl) ∷ siblings (number + 1) rest parent) (siblings (number + 1) rest parent))))
      by true true h chosen later =
          ap (λ parts. Named number ∷ parts) (sym chosen)
          ∙ ap (λ met. path_from (λ under. path_below decls known parts (Some under))
          (option_map (λ one. one.0) (cond met (Some (number, decl)) (find (λ one. is_met known one.1) (siblings (number + 1) rest parent))))
          (or_else other (first_of (λ decl. is_some decl.other) ((number, decl) ∷ siblings (number + 1) rest parent)))) (sym h)
      by true false h chosen later =
          later (other_with other number decl)
          ∙ ap (path_from (λ under. path_below decls known parts (Some under)) (first_of (is_met known) (siblings (number + 1) rest parent)))
          (ap (λ counts. or_else counts (first_of (λ decl. is_some decl.other) (siblings (number + 1) rest parent))) (other_is other number decl)
          ∙ or_other other (first_of (λ decl. is_some decl.other) (siblings (number + 1) rest parent)) number (is_some decl.other)
          ∙ ap (or_else other) (sym (mapped (is_some decl.other) number decl (find (λ one. is_some one.1.other) (siblings (number + 1) rest parent)))))
          ∙ ap (λ met. path_from (λ under. path_below decls known parts (Some under))
          (option_map (λ one. one.0) (cond met (Some (number, decl)) (find (λ one. is_met known one.1) (siblings (number + 1) rest parent))))
          (or_else other (first_of (λ decl. is_some decl.other) ((number, decl) ∷ siblings (number + 1) rest parent)))) (sym h)
      by false met h chosen later = later other

  below_is : are_rooted 0 decls ≡ true → (parts under : ℕ) (rest : List Decl) → drop (under + 1) decls ≡ rest →
      path_below decls known parts (Some under) ≡ scan known parts (Some under) None (under + 1) rest
  below_is rooted zero under rest is = refl
  below_is rooted (suc parts) under rest is =
      ap (λ here. path_from (λ below. path_below decls known parts (Some below)) (first_of (is_met known) here) (first_of (λ decl. is_some decl.other) here))
      (skip (under + 1) decls 0 under (omega arith) rooted ∙ ap (λ behind. siblings (under + 1) behind (Some under)) is)
      ∙ sym (scan_is parts (below_is rooted parts) rest (under + 1) (Some under) None is)

  -- the mode, in one pass
  pub mode_is : are_rooted 0 decls ≡ true → mode_of decls known ≡ scan known 16 None None 0 decls
  mode_is rooted = sym (scan_is 15 (below_is rooted 15) decls 0 None None refl)
