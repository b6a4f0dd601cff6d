-- The last byte of some bytes.
use Rattle.std.proofs.Common.{◌≡◌, ◌≢◌, ℕ, zero, suc, ◌-◌, ◌<◌, ◌==◌, List, [], ◌∷◌, length, take, get_or, refl, ap, arith}
use Rattle.moos_text.specs.Lines.{ends_with, without_last}

last_at : (last count : ℕ) (bytes : List ℕ) → length bytes ≡ suc count → get_or bytes count 0 ≡ last → without_last last bytes ≡ take count bytes
last_at last count [] long same = absurd (omega arith)
last_at last zero (byte ∷ []) long same = grind arith
last_at last zero (byte ∷ next ∷ rest) long same = absurd (omega arith)
last_at last (suc count) (byte ∷ []) long same = absurd (omega arith)
last_at last (suc count) (byte ∷ next ∷ rest) long same = ap (λ bytes. byte ∷ bytes) (last_at last count (next ∷ rest) (omega arith) same)

no_last_at : (last count : ℕ) (bytes : List ℕ) → length bytes ≡ suc count → get_or bytes count 0 ≢ last → without_last last bytes ≡ bytes
no_last_at last count [] long other = absurd (omega arith)
no_last_at last zero (byte ∷ []) long other = grind arith
no_last_at last zero (byte ∷ next ∷ rest) long other = absurd (omega arith)
no_last_at last (suc count) (byte ∷ []) long other = absurd (omega arith)
no_last_at last (suc count) (byte ∷ next ∷ rest) long other = ap (λ bytes. byte ∷ bytes) (no_last_at last count (next ∷ rest) (omega arith) other)

ends_at : (last count : ℕ) (bytes : List ℕ) → length bytes ≡ suc count → ends_with last bytes ≡ (get_or bytes count 0 == last)
ends_at last count [] long = absurd (omega arith)
ends_at last zero (byte ∷ []) long = refl
ends_at last zero (byte ∷ next ∷ rest) long = absurd (omega arith)
ends_at last (suc count) (byte ∷ []) long = absurd (omega arith)
ends_at last (suc count) (byte ∷ next ∷ rest) long = ends_at last count (next ∷ rest) (omega arith)

-- bytes that end with this one, and that don't
pub with_last : (last : ℕ) (bytes : List ℕ) → 0 < length bytes → get_or bytes (length bytes - 1) 0 ≡ last → without_last last bytes ≡ take (length bytes - 1) bytes
with_last last bytes some same = last_at last (length bytes - 1) bytes (omega arith) same

pub no_last : (last : ℕ) (bytes : List ℕ) → 0 < length bytes → get_or bytes (length bytes - 1) 0 ≢ last → without_last last bytes ≡ bytes
no_last last bytes some other = no_last_at last (length bytes - 1) bytes (omega arith) other

pub ends_with_last : (last : ℕ) (bytes : List ℕ) → 0 < length bytes → ends_with last bytes ≡ (get_or bytes (length bytes - 1) 0 == last)
ends_with_last last bytes some = ends_at last (length bytes - 1) bytes (omega arith)
