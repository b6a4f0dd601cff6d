-- What contracts see of the files of the system.
use Rattle.std.specs.Prelude.{ℕ, List, ◌∷◌, ◌++◌, [], Result, Ok, Err}
use Rattle.moos_io.specs.Faults.{one_more}
use Rattle.moos_files.specs.Heard.{Hearing, failed_load, given_load, with_loads}
use Rattle.moos_files.specs.declared.folder.LoadFault.{LoadFault}

-- what is heard after a load of that name with this answer, which gave these bytes if it is good
abbrev pub after_dir_load : Hearing → List ℕ → Result (Unit {0}) LoadFault → List ℕ → Hearing
after_dir_load heard name (Ok done) bytes = with_loads heard (given_load name bytes ∷ [])
after_dir_load heard name (Err fault) bytes = record { faults = one_more heard.faults; loads = heard.loads ++ failed_load name ∷ [] }
