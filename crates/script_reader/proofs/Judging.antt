-- What holds of every value that is judged good with nothing behind it.
use Rattle.std.proofs.Common.{ℕ, List, [], ◌∷◌}
use Rattle.std.specs.Prelude.{IfOk}
use Rattle.script_reader.specs.Script.{with_none_behind}

pub ended_good : {A : Type 0} (P : A → Type 0) (value : A) (word : List ℕ) → P value → IfOk (with_none_behind value word) P
ended_good P value [] h = h
ended_good P value (byte ∷ bytes) h = tt
