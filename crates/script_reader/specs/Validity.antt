-- What every script keeps that was read.
use Rattle.std.specs.Prelude.{ℕ, ◌≤◌, Bool, true, false, ◌&&◌, not, nat_lt, nat_le, List, [], ◌∷◌, length, codes, bytes_eq, IsTrue}
use Rattle.std.specs.List.{All, list_any}
use Rattle.moos_post.specs.declared.entry.Call.{Call}
use Rattle.moos_post.specs.declared.entry.Call.TheVariants.{Register, Unregister, Post as Posts, Fetch}
use Rattle.moos_post.specs.declared.entry.Entry.{Entry}
use Rattle.moos_post.specs.Entries.{IsEntry}
use Rattle.moos_post.specs.Words.{is_name}
use Rattle.script_reader.specs.declared.script.Script.{Script}
use Rattle.script_reader.specs.Script.{registrations_of, variables_of}

-- no name is the helm's, and no two are the same
abbrev pub are_clients : List (List ℕ) → Bool
are_clients [] = true
are_clients (name ∷ names) =
    not (bytes_eq name (codes "pHelmIvP")) && not (list_any (λ other. bytes_eq other name) names) && are_clients names

-- a registration is a single one, whose interval is at most 1,000,000 seconds, and a post has 1 to 64 pairs
abbrev pub keeps_limits : Call → Bool
keeps_limits (Register []) = false
keeps_limits (Register (reg ∷ [])) = nat_le reg.interval 1000000000
keeps_limits (Register (reg ∷ more ∷ rest)) = false
keeps_limits (Unregister var source) = true
keeps_limits (Posts batch) = nat_lt 0 (length batch) && nat_le (length batch) 64
keeps_limits Fetch = true

-- Each line's client is one of this many and its call keeps the limits, no stamp is below the one before, which at first
-- is `last`, and the last one is not above `stop`.
abbrev pub are_lines : ℕ → ℕ → ℕ → List Entry → Bool
are_lines clients last stop [] = nat_le last stop
are_lines clients last stop (line ∷ lines) =
    nat_lt line.client clients && nat_le last line.stamp && keeps_limits line.call && are_lines clients line.stamp stop lines

-- A script's clients have names of their own, none the helm's. Each line is an entry by one of them, and stamps don't go back.
-- Every limit is kept: stamps and intervals of 1,000,000 seconds, 64 clients, 100,000 lines, 256 registrations of a client, 64
-- pairs of a post, which has one at least, 4,096 variables.
pub record IsValid (script : Script) : Type 0 where
  pub named : All (λ name. IsTrue (is_name name)) script.names
  pub clients : IsTrue (are_clients script.names)
  pub few_clients : length script.names ≤ 64
  pub lines : IsTrue (are_lines (length script.names) 0 script.stop script.lines)
  pub entries : All IsEntry script.lines
  pub early : script.stop ≤ 1000000000
  pub few_lines : length script.lines ≤ 100000
  pub few_registrations : (client : ℕ) → registrations_of client script.lines ≤ 256
  pub few_variables : length (variables_of script.lines) ≤ 4096
