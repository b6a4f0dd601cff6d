-- A path and its text, as they are kept in place.
use Rattle.std.specs.Prelude.{◌≡◌, ℕ, ◌*◌, ◌≤◌, List, flat_map, length, slice_index, take}
use Rattle.ivp_cert.specs.Texts.{number_word}

-- For each beginning of the path its text ends where `ends` says, and a longer one's text ends no earlier.
pub record IsPathText (numbers : List ℕ) (len : ℕ) (ends bytes : List ℕ) : Type 0 where
  pub few : len ≤ length numbers
  pub within : (k : ℕ) → k ≤ len → slice_index ends k ≤ 11 * k
  pub rising : (j k : ℕ) → j ≤ k → k ≤ len → slice_index ends j ≤ slice_index ends k
  pub told : (k : ℕ) → k ≤ len → take (slice_index ends k) bytes ≡ flat_map number_word (take k numbers)
