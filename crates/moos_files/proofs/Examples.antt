-- Worked examples of the definitions.
use Rattle.std.proofs.Common.{◌≡◌, ℕ, Some, None, Ok, Err, true, false, [], ◌∷◌, length, refl, ap, codes, List, arith}
use Rattle.moos_files.specs.Asked.{Load}
use Rattle.moos_files.specs.Files.{CameFrom, File, Loaded, file_content, is_among, names_of}
use Rattle.moos_files.specs.FolderState.{FolderState}
use Rattle.moos_files.specs.Heard.{Hearing, Hears, failed_load, given_load}
use Rattle.moos_files.specs.Loads.{after_load}
use Rattle.moos_files.specs.declared.folder.LoadFault.TheVariants.{Failed}

-- two files of one name, and one of another
abbrev files : List File
files =
    record { name = codes "a"; bytes = codes "one" }
    ∷ record { name = codes "b"; bytes = [] }
    ∷ record { name = codes "a"; bytes = codes "two" }
    ∷ []

first_of_a_name : file_content files (codes "a") ≡ Some (codes "one")
first_of_a_name = refl

empty_file : file_content files (codes "b") ≡ Some []
empty_file = refl

absent_name : file_content files (codes "ab") ≡ None
absent_name = refl

sure_name : is_among (names_of files) (codes "b") ≡ true
sure_name = refl

no_such_name : is_among (names_of files) (codes "") ≡ false
no_such_name = refl

-- a load appends the whole content, and drops nothing of what the buffer held
whole_content : CameFrom (Some (codes "one")) (codes "x") (codes "xone")
whole_content = refl

front_of_content : CameFrom (Some (codes "one")) (codes "x") (codes "xon") → ⊥
front_of_content same = omega (arith, ap length same)

buffer_overwritten : CameFrom (Some (codes "one")) (codes "x") (codes "one") → ⊥
buffer_overwritten same = omega (arith, ap length same)

no_file : CameFrom None (codes "x") (codes "x") → ⊥
no_file came = came

-- a folder that tells its files loads the one of the name; of a folder that tells nothing a load says nothing
named_file : Loaded (Some (file_content files)) (codes "b") (codes "x") (codes "x")
named_file = refl

other_file : Loaded (Some (file_content files)) (codes "b") (codes "x") (codes "xtwo") → ⊥
other_file same = omega (arith, ap length same)

silent_folder : Loaded None (codes "a") (codes "x") []
silent_folder = tt

-- a load is numbered and heard; one of a name that no file has is a fault, and the files stay
abbrev folder : FolderState
folder = record { files = files; loads = 6; marks = []; faults = 4; heard = [] }

good_load : after_load folder (codes "a") (Ok tt) (codes "one") ≡ record folder { loads = 7; heard = given_load (codes "a") (codes "one") ∷ [] }
good_load = refl

bad_load : after_load folder (codes "c") (Err Failed) [] ≡ record folder { loads = 7; faults = 5; heard = failed_load (codes "c") ∷ [] }
bad_load = refl

-- a good load is heard with the bytes that it gave, and hides no failure
abbrev heard : ℕ → List Load → Hearing
heard faults loads = record { faults = faults; loads = loads }

hears : Hears (heard 4 []) (heard 4 (given_load (codes "a") (codes "one") ∷ [])) (codes "a") (Ok tt) (codes "one")
hears = refl

hidden_failure : Hears (heard 4 []) (heard 5 (given_load (codes "a") (codes "one") ∷ [])) (codes "a") (Ok tt) (codes "one") → ⊥
hidden_failure same = omega (arith, ap (λ hearing. hearing.faults) same)

-- one that failed is heard too, and is counted
failed_unheard : Hears (heard 4 []) (heard 5 []) (codes "c") (Err Failed) [] → ⊥
failed_unheard hears = omega (arith, ap length hears.0)

failed_uncounted : Hears (heard 4 []) (heard 4 (failed_load (codes "c") ∷ [])) (codes "c") (Err Failed) [] → ⊥
failed_uncounted hears = grind (arith, hears.1 refl)
