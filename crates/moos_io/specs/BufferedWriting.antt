-- Text that a buffered writer writes: what one write does, and what all of them did once the writer was ended.
use Rattle.std.specs.Prelude.{◌≡◌, ℕ, true, false, Option, List, [], Result, OnOk, OnErr, is_err}
use Rattle.moos_io.specs.declared.sink.Failed.{Failed}
use Rattle.moos_io.specs.declared.buffered_writer.BufferedWriter.{BufferedWriter}
use Rattle.moos_io.specs.Faults.{Fares, Faring, Fell}
use Rattle.moos_io.specs.Pieces.{Took, TookFront}
use Rattle.moos_io.specs.Writing.{Way, way, Went, Stopped}

-- what its sink took, what it holds itself, and how the sink fares
abbrev pub way_of : {S : Type 0} → (S → Option (List ℕ)) → (S → Faring) → BufferedWriter S → Way
way_of taken faults writer = way (taken writer.out.now) writer.buffer (faults writer.out.now)

-- it holds nothing, and its sink hasn't failed
pub record IsClear {S : Type 0} (writer : BufferedWriter S) : Type 0 where
  pub empty : writer.buffer ≡ []
  pub going : writer.failed ≡ false

-- A text was written: it is on its way to the same sink, behind all that went before. Or a put failed meanwhile, when a front of it all
-- was taken, and not the whole. Or one had failed before, and nothing was written.
pub record Writes {S : Type 0} (taken : S → Option (List ℕ)) (faults : S → Faring) (before after : BufferedWriter S) (text : List ℕ) : Type 0 where
  pub same : after.out.ghost_name ≡ before.out.ghost_name
  pub idle : before.failed ≡ true → (after.failed ≡ true) × (after.out.now ≡ before.out.now)
  pub went : after.failed ≡ false → (before.failed ≡ false) × Went (way_of taken faults before) (way_of taken faults after) text
  pub stopped : before.failed ≡ false → after.failed ≡ true → Stopped (way_of taken faults before) (way_of taken faults after) text

-- the writer as it is once it was ended with this answer, and left the sink so
abbrev pub ended : {S : Type 0} → BufferedWriter S → S → Result (Unit {0}) Failed → BufferedWriter S
ended writer now result = record writer { out = record writer.out { now = now }; buffer = []; failed = is_err result }

-- What it held was passed on, unless the sink had failed or failed now.
abbrev pub Finishes : {S : Type 0} → (S → Option (List ℕ)) → (S → Faring) → BufferedWriter S → S → Result (Unit {0}) Failed → Type 0
Finishes taken faults writer now result = Writes taken faults writer (ended writer now result) []

-- What a function promises that writes a text to a sink: the sink took it, and no put failed; or it took a front and not the whole, and
-- a put failed, which it does only once the sink took all that it takes for sure. No fault is forgotten.
pub record Delivers {S : Type 0} (taken : S → Option (List ℕ)) (faults : S → Faring) (before after : S) (result : Result (Unit {0}) Failed) (text : List ℕ) : Type 0 where
  pub ok : OnOk result (Took (taken before) (taken after) text)
  pub front : OnErr result (TookFront (taken before) (taken after) text)
  pub fares : Fares result (faults before) (faults after)
  pub rose : OnErr result (Fell (faults before) (faults after) (taken after))

-- What a function promises that writes a text through a writer and passes all on: the sink took it, and the writer is clear; or the
-- sink took a front of it, and the writer has failed.
pub record Sends {S : Type 0} (taken : S → Option (List ℕ)) (faults : S → Faring) (before after : BufferedWriter S) (result : Result (Unit {0}) Failed) (text : List ℕ) : Type 0 where
  pub same : after.out.ghost_name ≡ before.out.ghost_name
  pub sent : Delivers taken faults before.out.now after.out.now result text
  pub clear : OnOk result (IsClear after)
  pub failed : OnErr result (after.failed ≡ true)
