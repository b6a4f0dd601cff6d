-- Where a job is with its files, one after another.
use Rattle.std.specs.Prelude.{◌≡◌, ℕ, List, [], ◌∷◌, ◌++◌, Option, Some, IfSome, Result, Ok, Err}
use Rattle.moos_files.specs.Asked.{Load}
use Rattle.moos_files.specs.Heard.{given_load}
use Rattle.moos_text.specs.declared.cause.ReadFault.{ReadFault}
use Rattle.command_line.specs.declared.status.FileKind.{FileKind}

-- Where a job is with its files: the next one is wanted, of this kind and name; or all were good, and this task is to be
-- done; or the last one, of this kind, is refused.
pub data FileTurn (T : Type 0) : Type 0 where
  Wanted : FileKind → List ℕ → FileTurn T
  Ready : T → FileTurn T
  Unfit : FileKind → ReadFault → FileTurn T

-- what follows a file of this kind, which was read or is refused
abbrev pub turn_behind : {T A : Type 0} → FileKind → (A → FileTurn T) → Result A ReadFault → FileTurn T
turn_behind kind next (Ok value) = next value
turn_behind kind next (Err fault) = Unfit kind fault

-- the folder's file of this name has these bytes, if the folder tells them
abbrev pub HasBytes : Option (List ℕ → Option (List ℕ)) → List ℕ → List ℕ → Type 0
HasBytes told name bytes = IfSome told (λ files. files name ≡ Some bytes)

-- a job at this place wants a file, and these are its bytes, if the folder tells them
abbrev pub WasWanted : {T : Type 0} → Option (List ℕ → Option (List ℕ)) → FileTurn T → List ℕ → Type 0
WasWanted told (Wanted kind name) bytes = HasBytes told name bytes
WasWanted told (Ready task) bytes = ⊥
WasWanted told (Unfit kind fault) bytes = ⊥

-- after the files `front` a job whose place goes by the bytes of its files loads `files`, one after another: each is the one that
-- it wants then
abbrev pub AreLoaded : {T : Type 0} → Option (List ℕ → Option (List ℕ)) → (List (List ℕ) → FileTurn T) → List (List ℕ) → List (List ℕ) → Type 0
AreLoaded told turn front [] = Unit {0}
AreLoaded told turn front (bytes ∷ files) = WasWanted told (turn front) bytes × AreLoaded told turn (front ++ bytes ∷ []) files

-- the name of the file that is wanted, where one is
abbrev pub name_wanted : {T : Type 0} → FileTurn T → List ℕ
name_wanted (Wanted kind name) = name
name_wanted (Ready task) = []
name_wanted (Unfit kind fault) = []

-- the loads of such files: each by the name that is wanted then, and with its bytes
abbrev pub loads_of : {T : Type 0} → (List (List ℕ) → FileTurn T) → List (List ℕ) → List (List ℕ) → List Load
loads_of turn front [] = []
loads_of turn front (bytes ∷ files) = given_load (name_wanted (turn front)) bytes ∷ loads_of turn (front ++ bytes ∷ []) files

-- the same place, with its task as one of a wider type
abbrev pub turn_as : {T U : Type 0} → (T → U) → FileTurn T → FileTurn U
turn_as of (Wanted kind name) = Wanted kind name
turn_as of (Ready task) = Ready (of task)
turn_as of (Unfit kind fault) = Unfit kind fault
