use Rattle.std.proofs.Common.{◌≡◌, ◌∙◌, true, ◌&&◌, [], ◌∷◌, None, Some, ap}
use Rattle.bhv_file.specs.declared.decl.Decl.{Decl}
use Rattle.mode_tree.specs.Scans.{stands_before, are_rooted}
use Rattle.community_tests.proofs.modes.mission.Goals as goal

-- a root and two declarations under it
rooted : (a b d : Decl) → a.parent ≡ None → b.parent ≡ Some 0 → d.parent ≡ Some 0 → are_rooted 0 (a ∷ b ∷ d ∷ []) ≡ true
rooted a b d first second third =
    ap (λ parent. stands_before parent 0 && (stands_before b.parent 1 && (stands_before d.parent 2 && true))) first
    ∙ ap (λ parent. stands_before parent 1 && (stands_before d.parent 2 && true)) second
    ∙ ap (λ parent. stands_before parent 2 && true) third

pub make-requires-clause-rooted : goal.make-requires-clause-rooted
make-requires-clause-rooted g c =
    ap (are_rooted 0) (c.of.ensures ∙ (rw c.expect-decls.ensures at c.vec.ensures.items))
    ∙ rooted c.root-first.result c.child-second.result c.child-third.result c.root-first.ensures c.child-second.ensures c.child-third.ensures
