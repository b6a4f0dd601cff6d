-- What contracts see of a folder in memory.
use Rattle.std.specs.Prelude.{ℕ, List}
use Rattle.moos_files.specs.Asked.{Load}
use Rattle.moos_files.specs.Files.{File}

-- a folder in memory: its files in the order in which they were added, the number of the next load, the numbers of the loads that
-- fail, how many loads failed, and every load so far
pub record FolderState : Type 0 where
  pub files : List File
  pub loads : ℕ
  pub marks : List ℕ
  pub faults : ℕ
  pub heard : List Load
