-- Files by name: what a folder holds under a name, and what a load does to the buffer that it fills.
use Rattle.std.specs.Prelude.{◌≡◌, ℕ, Bool, Option, List, ◌++◌, map, IsSomeAnd, IfSome, find}
use Rattle.std.specs.List.{list_any}
use Rattle.std.specs.Option.{option_map}
use Rattle.std.specs.Str.{bytes_eq}

-- a file: its name and its content, each a list of bytes
pub record File : Type 0 where
  pub name : List ℕ
  pub bytes : List ℕ

-- the name is one of the list
abbrev pub is_among : List (List ℕ) → List ℕ → Bool
is_among names name = list_any (λ other. bytes_eq other name) names

-- the names of the files, in order
abbrev pub names_of : List File → List (List ℕ)
names_of files = map (λ file. file.name) files

-- the content of the first file of that name, if there is one
abbrev pub file_content : List File → List ℕ → Option (List ℕ)
file_content files name = option_map (λ file. file.bytes) (find (λ file. bytes_eq file.name name) files)

-- the file is there, and its whole content was appended to what the buffer held before
abbrev pub CameFrom : Option (List ℕ) → List ℕ → List ℕ → Type 0
CameFrom file before now = IsSomeAnd file (λ bytes. now ≡ before ++ bytes)

-- if the folder tells what each name holds, the named file is there and its whole content was appended
abbrev pub Loaded : Option (List ℕ → Option (List ℕ)) → List ℕ → List ℕ → List ℕ → Type 0
Loaded told name before now = IfSome told (λ files. CameFrom (files name) before now)
