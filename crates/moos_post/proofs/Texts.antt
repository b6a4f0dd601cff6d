-- Texts that are compared.
use Rattle.std.proofs.Common.{◌≡◌, ℕ, List, bytes_eq, sym}
use Rattle.std.proofs.lemmas.Bool.Decides.{same_from_decides}
use Rattle.std.proofs.lemmas.Slice.Eq.{bytes_eq-Decides}

-- the answer is the same in either order
pub bytes_eq_comm : (a b : List ℕ) → bytes_eq a b ≡ bytes_eq b a
bytes_eq_comm a b =
    let other = bytes_eq-Decides b a in
    same_from_decides {P = a ≡ b} (bytes_eq a b) (bytes_eq b a) (bytes_eq-Decides a b) (λ same. sym (other.0 same), λ same. other.1 (sym same))
