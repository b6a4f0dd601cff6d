-- A few elements at the front of four places.
use Rattle.std.proofs.Common.{◌≡◌, ◌+◌, ◌<◌, List, [], ◌∷◌, ◌++◌, length, take, drop, refl, arith}

-- one element behind a few, and then more of it
pub one_behind : {X : Type 0} (xs : List X) (x : X) → length xs < 4 → take (length xs + 1) (xs ++ drop (length xs) (x ∷ x ∷ x ∷ x ∷ [])) ≡ xs ++ x ∷ []
one_behind [] x few = refl
one_behind (a ∷ []) x few = refl
one_behind (a ∷ b ∷ []) x few = refl
one_behind (a ∷ b ∷ d ∷ []) x few = refl
one_behind (a ∷ b ∷ d ∷ e ∷ xs) x few = absurd (omega arith)
