-- The commands of the program's jobs, as the command-line crate sees them, and what they find in the words of a line.
-- A command reads the whole line: the word of its job is where such a crate expects the name of a program.
use Rattle.std.specs.Prelude.{◌≡◌, ℕ, Bool, true, false, List, [], ◌∷◌, codes, bytes_eq, nat_le, ◌&&◌, if◌then◌else◌, Option, Some, None, option_and_then}
use Rattle.std.specs.List.{list_all}
use Rattle.std.specs.Option.{option_map_or}
use Rattle.std.specs.Str.Parse.{digits_value, without_leading_plus}
use Rattle.clap.specs.Faults.{is_simple_and_free}
use Rattle.clap.specs.Takes.{default_passes}
use Rattle.clap.specs.Words.{App, Row, Rule, Text, built, first_of, matches_of, new_app, new_rule, one_of, takes, with_rule}
use Rattle.clap.specs.ValueTests.{is_unsigned_in}
use Rattle.clap.specs.declared.builder.ArgAction.TheVariants.{SetTrue}
use Rattle.clap.specs.declared.builder.value_parser.ValueParser.TheVariants.{Unsigned}
use Rattle.moos_post.specs.Words.{is_text}

-- the name of a file, which must be there
abbrev pub file_rule : Text → Rule
file_rule id = record (new_rule id) { required = true }

-- the name of a file, which may be there
abbrev pub other_file_rule : Text → Rule
other_file_rule id = new_rule id

-- `--race`, which may be there once
abbrev pub race_rule : Rule
race_rule = record (new_rule (codes "race")) { long = Some (codes "race"); action = Some SetTrue }

-- `--workers N`, which may be there once: N from 1 to 16, and 1 if it isn't there
abbrev pub workers_rule : Rule
workers_rule = record (new_rule (codes "workers")) { long = Some (codes "workers"); parser = Some (Unsigned 1 16); defaults = codes "1" ∷ [] }

-- `play SCRIPT [MISSION] [--workers N] [--race]`
abbrev pub play_command : App
play_command =
    with_rule (with_rule (with_rule (with_rule (new_app (codes "play")) (file_rule (codes "script"))) (other_file_rule (codes "mission"))) workers_rule)
    race_rule

-- `solve PROBLEM [--workers N]`
abbrev pub solve_command : App
solve_command = with_rule (with_rule (new_app (codes "solve")) (file_rule (codes "problem"))) workers_rule

-- `check DECISION`
abbrev pub check_command : App
check_command = with_rule (new_app (codes "check")) (file_rule (codes "decision"))

-- `share FIRST SECOND BRIDGE [--race]`
abbrev pub share_command : App
share_command =
    with_rule (with_rule (with_rule (with_rule (new_app (codes "share")) (file_rule (codes "first"))) (file_rule (codes "second"))) (file_rule (codes "bridge")))
    race_rule

-- `simulate SCRIPT MISSION VEHICLE [CONTACTS] [--workers N]`
abbrev pub simulate_command : App
simulate_command =
    with_rule (with_rule (with_rule (with_rule (with_rule (new_app (codes "simulate")) (file_rule (codes "script"))) (file_rule (codes "mission"))) (file_rule (codes "vehicle"))) (other_file_rule (codes "contacts")))
    workers_rule

-- the number of a mission, which must be there
abbrev pub number_rule : Rule
number_rule = record (new_rule (codes "number")) { required = true; parser = Some (Unsigned 0 999999999) }

-- `generate NUMBER`
abbrev pub generate_command : App
generate_command = with_rule (new_app (codes "generate")) number_rule

-- what a command finds in a line, if it takes it
abbrev pub found_in : App → List Text → Option (List Row)
found_in command line = if takes command line then Some (matches_of command line) else None

-- the bytes, if a text can hold them
abbrev pub text_of : List ℕ → Option (List ℕ)
text_of bytes = if is_text bytes then Some bytes else None

-- the name of the file that was found under this name of an argument
abbrev pub file_in : Text → List Row → Option (List ℕ)
file_in id found = option_and_then text_of (first_of id found)

-- a flag was found: its value is `true`
abbrev pub is_set : Text → List Row → Bool
is_set id found = option_map_or (λ value. bytes_eq value (codes "true")) (first_of id found) false

-- a number within bounds, and else the lower one
abbrev pub bounded : ℕ → ℕ → ℕ → ℕ
bounded low high number = if nat_le low number && nat_le number high then number else low

-- the number that a value spells, if it is within the bounds, and else the lower one; a command finds only values within them for
-- such an argument
abbrev pub bounded_of : ℕ → ℕ → Text → ℕ
bounded_of low high value = if is_unsigned_in low high value then digits_value 10 (without_leading_plus value) else low

-- the number within the bounds that was found under this name of an argument
abbrev pub bounded_in : ℕ → ℕ → Text → List Row → ℕ
bounded_in low high id found = option_map_or (bounded_of low high) (one_of id found) low

-- the number of workers that was found
abbrev pub workers_in : List Row → ℕ
workers_in found = bounded_in 1 16 (codes "workers") found

-- the number of the mission that was found
abbrev pub number_in : List Row → ℕ
number_in found = bounded_in 0 999999999 (codes "number") found

-- A command of which the command-line crate says exactly what it takes: it is simple, no argument has a rule on another,
-- it has no subcommand, and its defaults pass their own parsers.
pub record IsPlain (command : App) : Type 0 where
  pub free : is_simple_and_free command ≡ true
  pub alone : (built command).subs ≡ []
  pub defaults : list_all default_passes (built command).top.rules ≡ true
