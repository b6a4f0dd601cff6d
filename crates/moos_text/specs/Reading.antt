-- How a number is read in one pass: the digits at its front, and what follows them.
use Rattle.std.specs.Prelude.{◌≡◌, ℕ, suc, ◌<◌, ◌≤◌, true, false, List, length, take, drop, slice_index}
use Rattle.std.specs.List.{list_all}
use Rattle.moos_post.specs.Words.{is_digit}
use Rattle.moos_text.specs.Numbers.{point_place}

-- the first `count` bytes are digits, and the next one, if there is one, isn't
pub record IsFront (count : ℕ) (text : List ℕ) : Type 0 where
  pub within : count ≤ length text
  pub digits : list_all is_digit (take count text) ≡ true
  pub ends : count < length text → is_digit (slice_index text count) ≡ false

-- `count` bytes are before the first point, or are all if there is none, and `decimals` follow it
pub record IsParted (text : List ℕ) (count : ℕ) (decimals : List ℕ) : Type 0 where
  pub point : point_place text ≡ count
  pub rest : drop (suc count) text ≡ decimals
