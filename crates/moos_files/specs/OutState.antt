-- What contracts see of the standard output, and one put into it.
use Rattle.std.specs.Prelude.{ℕ, List, ◌++◌, take, Result, Ok, Err}
use Rattle.moos_io.specs.declared.sink.Failed.{Failed}
use Rattle.moos_io.specs.Faults.{one_more}

-- the bytes that the system said it took, in order, and how many puts failed
pub record OutState : Type 0 where
  pub taken : List ℕ
  pub faults : ℕ

-- the standard output after a put of the piece with this answer
abbrev pub after_out_put : OutState → List ℕ → Result ℕ Failed → OutState
after_out_put sink piece (Ok count) = record { taken = sink.taken ++ take count piece; faults = sink.faults }
after_out_put sink piece (Err failed) = record { taken = sink.taken; faults = one_more sink.faults }
