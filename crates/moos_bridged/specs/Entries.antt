-- What the entries of a community with a bridge are.
use Rattle.std.specs.Prelude.{◌<◌, length}
use Rattle.std.specs.List.{All}
use Rattle.moos_post.specs.Entries.{IsEntry}
use Rattle.moos_post.specs.History.{History}
use Rattle.moos_share.specs.Bridged.{names_bridged}
use Rattle.script_reader.specs.declared.script.Script.{Script}

-- Each entry is as its parts let it be, and by a client of the script or by the bridge.
pub record AreEntries (script : Script) (history : History) : Type 0 where
  pub entries : All IsEntry history
  pub clients : All (λ entry. entry.client < length (names_bridged script)) history
