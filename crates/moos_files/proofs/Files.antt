-- Lemmas on files by name.
use Rattle.std.proofs.Common.{◌≡◌, ℕ, true, false, ◌||◌, Some, None, Option, List, [], ◌∷◌, refl, if◌then◌else◌}
use Rattle.std.specs.List.{find}
use Rattle.std.specs.Option.{option_map}
use Rattle.std.specs.Str.{bytes_eq}
use Rattle.std.specs.Prelude.{is_none, ◌==◌}
use Rattle.std.specs.List.{list_any}
use Rattle.moos_files.specs.Files.{File, names_of, file_content, is_among}
use Rattle.moos_files.specs.FolderState.{FolderState}
use Rattle.moos_files.specs.Loads.{fails_load, names_without, sure_names}

-- a name under which there is no content is not among the names
pub absent : (files : List File) (name : List ℕ)
    → file_content files name ≡ None
    → is_among (names_of files) name ≡ false
absent [] name = λ _. refl
absent (file ∷ files) name =
    elim (bytes_eq file.name name)
    as (λ b.
    option_map (λ f. f.bytes) (if b then Some file else find (λ f. bytes_eq f.name name) files) ≡ None
    → (b || is_among (names_of files) name) ≡ false) [
      | true ↦ λ none. cc
      | false ↦ absent files name
    ]

-- nothing is there
nothing : {X : Type 0} (found : Option X) → is_none found ≡ true → found ≡ None
nothing None none = refl
nothing (Some x) none = cc

-- where a load of the name fails, the folder isn't sure of it
pub unsure : (folder : FolderState) (name : List ℕ) → fails_load folder name ≡ true → is_among (sure_names folder) name ≡ false
unsure folder name = by folder.marks where
  by : (marks : List ℕ) → (list_any (λ mark. mark == folder.loads) marks || is_none (file_content folder.files name)) ≡ true
      → is_among (names_without marks (names_of folder.files)) name ≡ false
  by (mark ∷ marks) fails = refl
  by [] fails = absent folder.files name (nothing (file_content folder.files name) fails)

-- a name under which there is content is among the names
pub present : (files : List File) (name bytes : List ℕ) → file_content files name ≡ Some bytes → is_among (names_of files) name ≡ true
present [] name bytes = λ none. cc
present (file ∷ files) name bytes =
    elim (bytes_eq file.name name)
    as (λ b.
    option_map (λ f. f.bytes) (if b then Some file else find (λ f. bytes_eq f.name name) files) ≡ Some bytes
    → (b || is_among (names_of files) name) ≡ true) [
      | true ↦ λ some. refl
      | false ↦ present files name bytes
    ]
