-- A sink before another one, which holds bytes back.
use Rattle.std.specs.Prelude.{ℕ, Option, List, ◌++◌}
use Rattle.std.specs.Option.{option_map}

-- the sink that gets the bytes, and those that are held back
pub record Gathered (S : Type 0) : Type 0 where
  pub sink : S
  pub held : List ℕ

-- all bytes that were put: what the sink took, if it tells that, and behind that those that are held
abbrev pub all_put : {S : Type 0} → (S → Option (List ℕ)) → Gathered S → Option (List ℕ)
all_put taken it = option_map (λ bytes. bytes ++ it.held) (taken it.sink)
