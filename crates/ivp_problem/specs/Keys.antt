-- Keys: the sum and the index of a point. The greater sum has the greater key, and of equal sums the lesser index.
use Rattle.std.specs.Prelude.{◌≡◌, ℕ, ◌<◌, ◌≤◌, ◌⊎◌, ◌||◌, ◌&&◌, ◌==◌, nat_lt, nat_le, if◌then◌else◌, Bool, Option, Some, None}
use Rattle.ivp_problem.specs.declared.key.Key.{Key}

-- the key of a sum and an index
abbrev pub key_of : ℕ → ℕ → Key
key_of sum index = record { sum = sum; index = index }

-- a key is at most another: its sum is less, or the sums are equal and its index is no less
abbrev pub AtMost : Key → Key → Type 0
AtMost one other = (one.sum < other.sum) ⊎ ((one.sum ≡ other.sum) × (other.index ≤ one.index))

-- a key is at most another, as a test
abbrev pub is_at_most : Key → Key → Bool
is_at_most one other = nat_lt one.sum other.sum || (one.sum == other.sum && nat_le other.index one.index)

-- the greater of two keys
abbrev pub greater_key : Key → Key → Key
greater_key one other = if is_at_most other one then one else other

-- the greater of two keys that may be none; each key is greater than none
abbrev pub greater_own : Option Key → Option Key → Option Key
greater_own None other = other
greater_own (Some one) None = Some one
greater_own (Some one) (Some other) = Some (greater_key one other)

-- there is a key, and this one is at most it
abbrev pub Reaches : Option Key → Key → Type 0
Reaches None key = ⊥
Reaches (Some own) key = AtMost key own
