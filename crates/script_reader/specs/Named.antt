-- Which lines of a script are of given clients.
use Rattle.std.specs.Prelude.{ℕ, suc, Bool, not, ◌&&◌, if◌then◌else◌, List, [], ◌∷◌, codes, bytes_eq, Option, Some, None}
use Rattle.std.specs.List.{list_any}
use Rattle.moos_text.specs.Lines.{raw_lines, content_of, first_word, behind_word}

-- the client is one of these names
abbrev pub has_name : List (List ℕ) → List ℕ → Bool
has_name names client = list_any (λ name. bytes_eq name client) names

-- the line's second word is one of these names; `until` is no client
abbrev pub is_of_client : List (List ℕ) → List ℕ → Bool
is_of_client names content =
    let word = first_word (behind_word content) in
    not (bytes_eq word (codes "until")) && has_name names word

-- the number of the first of the lines whose client is one of these names, where the lines are counted from this number on
abbrev pub client_line_from : ℕ → List (List ℕ) → List (List ℕ) → Option ℕ
client_line_from number names [] = None
client_line_from number names (raw ∷ raws) =
    if is_of_client names (content_of raw) then Some number else client_line_from (suc number) names raws

-- the number of the first line, counted from 1, whose client is one of these names
abbrev pub line_of_client : List (List ℕ) → List ℕ → Option ℕ
line_of_client names bytes = client_line_from 1 names (raw_lines bytes)
