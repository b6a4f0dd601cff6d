-- Lines of which no two have one stamp.
use Rattle.std.specs.Prelude.{ℕ, suc, Bool, ◌&&◌, nat_le, List, [], ◌∷◌}
use Rattle.moos_post.specs.declared.entry.Entry.{Entry}

-- each stamp is above the one before, the first is at least `from`, and the last is below `to`
abbrev pub rise_within : ℕ → ℕ → List Entry → Bool
rise_within from to [] = nat_le from to
rise_within from to (line ∷ lines) = nat_le from line.stamp && rise_within (suc line.stamp) to lines
