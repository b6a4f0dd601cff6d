-- One load from a folder in memory.
use Rattle.std.specs.Prelude.{ℕ, Bool, List, [], ◌∷◌, ◌++◌, ◌||◌, ◌==◌, is_none, if◌then◌else◌, Result, Ok, Err}
use Rattle.std.specs.List.{list_any}
use Rattle.moos_files.specs.Asked.{Load}
use Rattle.moos_io.specs.Faults.{one_more}
use Rattle.moos_files.specs.Heard.{failed_load, given_load}
use Rattle.moos_files.specs.declared.folder.LoadFault.{LoadFault}
use Rattle.moos_files.specs.Files.{file_content, names_of}
use Rattle.moos_files.specs.FolderState.{FolderState}

-- the next load is marked
abbrev pub is_marked_load : FolderState → Bool
is_marked_load folder = list_any (λ mark. mark == folder.loads) folder.marks

-- the next load fails, if it is of this name: it is marked, or no file has the name
abbrev pub fails_load : FolderState → List ℕ → Bool
fails_load folder name = is_marked_load folder || is_none (file_content folder.files name)

-- what a load of that name with this answer was, which gave these bytes if it is good
abbrev pub load_heard : List ℕ → Result (Unit {0}) LoadFault → List ℕ → Load
load_heard name (Ok done) bytes = given_load name bytes
load_heard name (Err fault) bytes = failed_load name

-- the folder after a load of that name with this answer, which is numbered, and counted as a fault if the folder fails; both counts stop at
-- the greatest u64
abbrev pub after_load : FolderState → List ℕ → Result (Unit {0}) LoadFault → List ℕ → FolderState
after_load folder name answer bytes = record folder {
  loads = one_more folder.loads;
  faults = if fails_load folder name then one_more folder.faults else folder.faults;
  heard = folder.heard ++ load_heard name answer bytes ∷ [];
}

-- these names, if no load is marked, and else none
abbrev pub names_without : List ℕ → List (List ℕ) → List (List ℕ)
names_without [] names = names
names_without (mark ∷ marks) names = []

-- the names whose load doesn't fail: without marks all that it holds, with a mark none
abbrev pub sure_names : FolderState → List (List ℕ)
sure_names folder = names_without folder.marks (names_of folder.files)
