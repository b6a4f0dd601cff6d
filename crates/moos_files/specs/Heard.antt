-- What a folder was asked for and gave.
use Rattle.std.specs.Prelude.{◌≡◌, ℕ, List, [], ◌∷◌, ◌++◌, Some, None, Result, Ok, Err}
use Rattle.moos_files.specs.declared.folder.LoadFault.{LoadFault}
use Rattle.moos_files.specs.declared.folder.LoadFault.TheVariants.{Failed}
use Rattle.moos_io.specs.Faults.{Rose}
use Rattle.moos_files.specs.Asked.{Load}

-- how many loads failed so far, and all loads so far, in order
pub record Hearing : Type 0 where
  pub faults : ℕ
  pub loads : List Load

-- the load of this name gave these bytes
abbrev pub given_load : List ℕ → List ℕ → Load
given_load name bytes = record { name = name; given = Some bytes }

-- the load of this name failed
abbrev pub failed_load : List ℕ → Load
failed_load name = record { name = name; given = None }

-- the same after loads, of which none failed
abbrev pub with_loads : Hearing → List Load → Hearing
with_loads before loads = record { faults = before.faults; loads = before.loads ++ loads }

-- what is heard of one load with this answer: if it is good, these bytes were given and no count of faults rose; if it failed, nothing
-- was given, and if the folder failed, its count rose
abbrev pub Hears : Hearing → Hearing → List ℕ → Result (Unit {0}) LoadFault → List ℕ → Type 0
Hears before now name (Ok done) bytes = now ≡ with_loads before (given_load name bytes ∷ [])
Hears before now name (Err fault) bytes = (now.loads ≡ before.loads ++ failed_load name ∷ []) × (fault ≡ Failed → Rose before.faults now.faults)
