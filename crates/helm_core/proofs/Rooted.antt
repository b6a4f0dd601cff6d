-- The declarations of a valid file stand behind their parents.
use Rattle.std.proofs.Common.{◌≡◌, ℕ, ◌<◌, Bool, true, ◌&&◌, List, [], ◌∷◌, ◌++◌, length, Option, Some, None, refl, subst}
use Rattle.std.specs.Prelude.{IfSome}
use Rattle.std.proofs.lemmas.Bool.{lt-ltb}
use Rattle.std.proofs.lemmas.List.{length-append}
use Rattle.bhv_file.specs.declared.decl.Decl.{Decl}
use Rattle.bhv_file.specs.Validity.{AreDecls}
use Rattle.mode_tree.specs.Scans.{are_rooted, stands_before}

both : (a b : Bool) → a ≡ true → b ≡ true → (a && b) ≡ true
both a b p q = rw (p, q) refl

stands : (parent : Option ℕ) (number : ℕ) → IfSome parent (λ one. one < number) → stands_before parent number ≡ true
stands None number before = refl
stands (Some parent) number before = lt-ltb parent number before

pub rooted_behind : (earlier decls : List Decl) → AreDecls earlier decls → are_rooted (length earlier) decls ≡ true
rooted_behind earlier [] valid = refl
rooted_behind earlier (decl ∷ decls) valid =
    both _ _ (stands decl.parent (length earlier) valid.0.before)
    (subst (λ n. are_rooted n decls ≡ true) (length-append earlier (decl ∷ [])) (rooted_behind (earlier ++ decl ∷ []) decls valid.1))
