-- Lists in arrays of a fixed length.
use Rattle.std.specs.Prelude.{◌≡◌, ℕ, ◌-◌, List, ◌++◌, length, take, replicate}

-- the first `count` places hold the list, and each later one holds `none`
abbrev pub IsFilled : {A : Type 0} → ℕ → A → ℕ → List A → Type 0
IsFilled places none count all = (count ≡ length (take count all)) × (all ≡ take count all ++ replicate (places - length (take count all)) none)
