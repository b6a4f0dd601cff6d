-- A job whose report is told as it comes ends as it was told.
use Rattle.std.proofs.Common.{ℕ, List, inl, inr, refl}
use Rattle.command_line.specs.declared.status.Status.{Status}
use Rattle.command_line.specs.declared.status.Status.TheVariants.{Done, CheckNo, Usage, LoadFault, WriteFault, Refused, NoMemory}
use Rattle.command_line.specs.Endings.{Ended, Outcomes, Sinking, WroteFront, WrotePart}
use Rattle.command_line.specs.Turns.{Ready}
use Rattle.moos_jobs.specs.Telling.{Tells, ToldAll, ToldFront}

module _ {T : Type 0} (outcomes : Outcomes T) (task : T) (MayBe IsPart : List ℕ → Type 0) (may : (text : List ℕ) → MayBe text → outcomes.MayWrite task Done text)
    (stands : (text : List ℕ) → IsPart text → outcomes.MayStand task text) (sink : Sinking) where
  front_told : ToldFront MayBe sink → WroteFront outcomes (Ready task) sink
  front_told front = record { task = task; good = refl; status = Done; text = front.text; output = may front.text front.may; took = front.took }

  part_told : ToldFront MayBe sink → ToldAll IsPart sink → WrotePart outcomes (Ready task) sink
  unfolding front_told
  part_told front part = record { front = front_told front; text = part.text; stands = stands part.text part.may; took = part.took; fared = part.fared }

  -- what was told is what the job may write, where each text that may be told is one that it may write, and each part one that may stand
  pub ends_told : (status : Status) → Tells MayBe IsPart sink status → Ended outcomes (Ready task) sink status
  ends_told Done tells = record { task = task; good = refl; text = tells.text; output = may tells.text tells.may; took = tells.took; fared = tells.fared }
  ends_told CheckNo tells = absurd tells
  ends_told Usage tells = absurd tells
  ends_told LoadFault tells = absurd tells
  ends_told WriteFault tells = (front_told tells.0, tells.1)
  ends_told (Refused refusal) tells = absurd tells
  ends_told NoMemory (inl untouched) = inl untouched
  ends_told NoMemory (inr told) = inr (part_told told.0 told.1)
