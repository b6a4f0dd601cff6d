-- A list that was lent as a slice.
use Rattle.std.proofs.Common.{◌≡◌, ℕ, List, ◌++◌, length, take, ap, ◌∙◌}
use Rattle.std.proofs.Math.Seq.{take-append_seam}

-- it comes back whole
pub came_back : {A : Type 0} (len : ℕ) (lent rest : List A) → len ≡ length lent → take len (lent ++ rest) ≡ lent
came_back len lent rest same = ap (λ n. take n (lent ++ rest)) same ∙ take-append_seam lent rest
