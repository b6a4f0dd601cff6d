-- A mission is read in the same way whatever the number of the line.
use Rattle.std.proofs.Common.{◌≡◌, ℕ, List, refl}
use Rattle.moos_text.specs.Standing.{after_statement}
use Rattle.mission_reader.specs.declared.reading.Place.{Place}
use Rattle.mission_reader.specs.declared.reading.Place.TheVariants.{Loose, Headed, Braced}
use Rattle.mission_reader.specs.declared.settings.Settings.{Settings}
use Rattle.mission_reader.specs.Missions.{mission_form}
use Rattle.mission_reader.specs.Places.{standing}

pub any_line : (settings : Settings) (place : Place) (text : List ℕ) (one other : ℕ) → after_statement mission_form (standing settings place) (record { line = one; text = text }) ≡ after_statement mission_form (standing settings place) (record { line = other; text = text })
any_line settings Loose text one other = refl
any_line settings (Headed helm) text one other = refl
any_line settings (Braced helm) text one other = refl
