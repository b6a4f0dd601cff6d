-- What is written of a play as it comes.
use Rattle.std.specs.Prelude.{◌≡◌, ℕ, ◌⊎◌, List, Option}
use Rattle.moos_io.specs.Faults.{Fell}
use Rattle.moos_io.specs.Pieces.{Took, TookFront}
use Rattle.moos_play.specs.Plays.{clients_in, history_in, iterations_made, Playing}
use Rattle.moos_report.specs.declared.setup.Setup.{Setup}
use Rattle.moos_report.specs.Parts.{front_text}
use Rattle.command_line.specs.declared.status.Status.{Status}
use Rattle.command_line.specs.declared.status.Status.TheVariants.{Done, WriteFault, NoMemory}
use Rattle.command_line.specs.Endings.{IsUntouched, Sinking}

-- between two rounds: what is printed of the play so far was written
abbrev pub IsToldSoFar : Setup → Option (List ℕ) → Option (List ℕ) → Playing → Type 0
IsToldSoFar setup before after play = Took before after (front_text setup (clients_in play) (history_in play) (iterations_made play))

-- the sink took one of these texts whole, and no put failed
pub record ToldAll (MayBe : List ℕ → Type 0) (sink : Sinking) : Type 0 where
  pub text : List ℕ
  pub may : MayBe text
  pub took : Took sink.taken_before sink.taken_after text
  pub fared : sink.fared_after ≡ sink.fared_before

-- the sink took a front of one of these texts, not the whole
pub record ToldFront (MayBe : List ℕ → Type 0) (sink : Sinking) : Type 0 where
  pub text : List ℕ
  pub may : MayBe text
  pub took : TookFront sink.taken_before sink.taken_after text

-- how a play ends that is told as it comes, whose report may be one of these texts, and of which such parts may stand: with the whole
-- report, or with a front of one if the sink failed, or with nothing or a front that is such a part if no memory was left
abbrev pub Tells : (List ℕ → Type 0) → (List ℕ → Type 0) → Sinking → Status → Type 0
Tells MayBe MayStand sink Done = ToldAll MayBe sink
Tells MayBe MayStand sink WriteFault = ToldFront MayBe sink × Fell sink.fared_before sink.fared_after sink.taken_after
Tells MayBe MayStand sink NoMemory = IsUntouched sink ⊎ (ToldFront MayBe sink × ToldAll MayStand sink)
Tells MayBe MayStand sink status = ⊥
