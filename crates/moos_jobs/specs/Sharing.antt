-- Which files the job reads that shares between two communities, what is to be done with them, and what it may write.
use Rattle.std.specs.Prelude.{◌≡◌, ℕ, false, List, [], ◌∷◌, ◌++◌, codes, Result, Ok, Err}
use Rattle.std.specs.List.{All, list_any}
use Rattle.std.specs.Option.{option_map_or}
use Rattle.command_line.specs.Endings.{Outcomes}
use Rattle.command_line.specs.Turns.{FileTurn, Ready, Wanted, turn_behind}
use Rattle.command_line.specs.declared.status.FileKind.TheVariants.{Script as ScriptFile, Second as SecondFile, Bridge as BridgeFile}
use Rattle.command_line.specs.declared.status.Status.{Status}
use Rattle.command_line.specs.declared.status.Status.TheVariants.{Done}
use Rattle.moos_bridged.specs.Fronts.{letters_mailed}
use Rattle.moos_bridged.specs.LeftOut.{HasCarriedEach, IsCarried}
use Rattle.moos_post.specs.History.{History}
use Rattle.moos_report.specs.Report.{report_text}
use Rattle.moos_report.specs.Setups.{setup_without_helm}
use Rattle.moos_jobs.specs.declared.task.ShareTask.{ShareTask}
use Rattle.moos_share.specs.Bridged.{bridge_number, IsShared, names_bridged}
use Rattle.moos_share.specs.BridgeFiles.{rules_of}
use Rattle.moos_share.specs.LongNames.{too_long_line}
use Rattle.moos_share.specs.declared.rule.Rule.{Rule}
use Rattle.moos_text.specs.declared.cause.Cause.TheVariants.{G4, S10}
use Rattle.moos_text.specs.declared.cause.ReadFault.{ReadFault}
use Rattle.moos_text.specs.declared.cause.ReadFault.TheVariants.{At}
use Rattle.moos_text.specs.Refusals.{and_then}
use Rattle.script_reader.specs.declared.script.Order.{Order}
use Rattle.script_reader.specs.declared.script.Script.{Script}
use Rattle.script_reader.specs.Named.{has_name, line_of_client}
use Rattle.script_reader.specs.Script.{script_of}
use Rattle.script_reader.specs.Validity.{IsValid}

-- the script of these bytes, unless a line of them is of a client with the bridge's name: then the first such line is refused
abbrev pub unless_of_bridge : List ℕ → Script → Result Script ReadFault
unless_of_bridge bytes script = option_map_or (λ line. Err (At line S10)) (line_of_client (codes "pShare" ∷ []) bytes) (Ok script)

-- a valid script, of whose clients none has the bridge's name
pub record IsWithoutBridge (script : Script) : Type 0 where
  pub valid : IsValid script
  pub unnamed : list_any (has_name (codes "pShare" ∷ [])) script.names ≡ false

-- the script of one of the communities, or the first refusal of its bytes
abbrev pub community_of : List ℕ → Result Script ReadFault
community_of bytes = and_then (unless_of_bridge bytes) (script_of bytes)

-- the rules, unless one of them makes the name of a variable that the script posts too long: then the line of the first such rule is
-- refused
abbrev pub fitting : Script → List Rule → Result (List Rule) ReadFault
fitting first rules = option_map_or (λ line. Err (At line G4)) (too_long_line rules first.lines) (Ok rules)

-- the rules of a bridge that carries from the community of this script, or the first refusal of their bytes
abbrev pub fitting_of : Script → List ℕ → Result (List Rule) ReadFault
fitting_of first bytes = and_then (fitting first) (rules_of bytes)

-- behind both scripts, by the bytes of the bridge
abbrev pub bridge_turn : Order → Script → Script → List ℕ → List (List ℕ) → FileTurn ShareTask
bridge_turn order first second bridge [] = Wanted BridgeFile bridge
bridge_turn order first second bridge (bytes ∷ more) =
    turn_behind BridgeFile (λ rules. Ready (record { order = order; first = first; second = second; rules = rules })) (fitting_of first bytes)

-- behind the first script, by the bytes of the second one and what is behind it
abbrev pub second_turn : Order → Script → List ℕ → List ℕ → List (List ℕ) → FileTurn ShareTask
second_turn order first second bridge [] = Wanted SecondFile second
second_turn order first second bridge (bytes ∷ more) = turn_behind SecondFile (λ script. bridge_turn order first script bridge more) (community_of bytes)

-- Where the job is that names these files and this order, by the bytes of the files that were loaded so far, in order: the
-- first script, the second one, the bridge.
abbrev pub share_turn : List ℕ → List ℕ → List ℕ → Order → List (List ℕ) → FileTurn ShareTask
share_turn first second bridge order [] = Wanted ScriptFile first
share_turn first second bridge order (bytes ∷ more) = turn_behind ScriptFile (λ script. second_turn order script second bridge more) (community_of bytes)

-- the report of a community's history, in which no helm plays
abbrev pub community_report : List (List ℕ) → History → List ℕ
community_report names history = report_text setup_without_helm names history []

-- the report of the first community's history, and behind it that of the second one's
abbrev pub both_reports : ShareTask → History → History → List ℕ
both_reports task one two = community_report (names_bridged task.first) one ++ community_report (names_bridged task.second) two

-- The text is the reports of two histories that are shared as the order asks: in the second one the bridge has posted just one pair for
-- each letter that the first mails to it, in the order of mailing, and none is left out. They are the two that the text lists: no other two such
-- histories have these reports.
pub record AreReports (task : ShareTask) (text : List ℕ) : Type 0 where
  pub one : History
  pub two : History
  pub shared : IsShared task.order task.first task.second task.rules one two
  pub printed : text ≡ both_reports task one two
  pub each : HasCarriedEach task.first task.second task.rules one two
  pub none_left_out : All (IsCarried (names_bridged task.first) task.rules) (letters_mailed (names_bridged task.first) (bridge_number task.first) one)
  pub listed : (other another : History) → IsShared task.order task.first task.second task.rules other another → text ≡ both_reports task other another
      → (other ≡ one) × (another ≡ two)

-- the job writes both reports and is done, and writes nothing with another status
abbrev pub IsSharing : ShareTask → Status → List ℕ → Type 0
IsSharing task Done text = AreReports task text
IsSharing task status text = ⊥

-- what may come of the job, which writes once both histories are there
abbrev pub share_outcomes : Outcomes ShareTask
share_outcomes = record { MayWrite = IsSharing; MayStand = λ task text. ⊥ }
