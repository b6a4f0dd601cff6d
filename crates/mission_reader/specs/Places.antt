-- How far the reader has come. This serves the reader alone: what bytes stand for is said without it.
use Rattle.moos_text.specs.Standing.{Inside, Opened, Outside, Standing}
use Rattle.mission_reader.specs.declared.reading.Place.{Place}
use Rattle.mission_reader.specs.declared.reading.Place.TheVariants.{Loose, Headed, Braced}
use Rattle.mission_reader.specs.declared.settings.Settings.{Settings}
use Rattle.mission_reader.specs.Missions.{app_block, AppBlock}

-- where the reader is with these settings
abbrev pub standing : Settings → Place → Standing Settings AppBlock
standing settings Loose = Outside settings
standing settings (Headed helm) = Opened (app_block settings helm)
standing settings (Braced helm) = Inside (app_block settings helm)
