-- What the bytes of a behaviour file stand for: its opening pairs, its modes and its behaviours, or the first refusal with
-- its line and cause.
use Rattle.std.specs.Prelude.{ℕ, Bool, false, not, ◌&&◌, ◌||◌, ◌==◌, nat_le, if◌then◌else◌, List, [], ◌∷◌, ◌++◌, length, codes, bytes_eq, Option, Some, None, Result, Ok, Err}
use Rattle.std.specs.Str.{str_eq_ignore_ascii_case}
use Rattle.ivp_domain.specs.declared.axis.Axis.{Axis}
use Rattle.moos_post.specs.declared.value.Pair.{Pair}
use Rattle.moos_post.specs.declared.value.Value.{Value}
use Rattle.moos_post.specs.Words.{is_name}
use Rattle.moos_text.specs.declared.cause.Cause.{Cause}
use Rattle.moos_text.specs.declared.cause.Cause.TheVariants.{B1, B2, B5, B9}
use Rattle.moos_text.specs.declared.cause.ReadFault.{ReadFault}
use Rattle.moos_text.specs.declared.pair.PairFault.{PairFault}
use Rattle.moos_text.specs.Lines.{behind_word, first_word, trimmed, without_last}
use Rattle.moos_text.specs.Pairs.{pair_of, Sides, sides_of}
use Rattle.moos_text.specs.Refusals.{and_then}
use Rattle.moos_text.specs.Sections.{Form, made_of_file, Statement}
use Rattle.helm_cond.specs.Conditions.{Condition, parent_of}
use Rattle.helm_cond.specs.Grammar.{condition_of}
use Rattle.bhv_file.specs.declared.file.BhvFile.{BhvFile}
use Rattle.bhv_reader.specs.Blocks.{behavior_closed, behavior_of_type, BehaviorBlock, with_sides}
use Rattle.bhv_file.specs.Validity.{fits_mode}
use Rattle.bhv_file.specs.Paths.{meant_by, parent_path, paths_of, the_one}

-- what is before the first line
abbrev pub nothing_said : BhvFile
nothing_said = record { opening = []; decls = []; blocks = []; unused = [] }

-- a mode declaration without its OTHER name, whose block isn't closed yet, and the file before it
pub record ModeBlock : Type 0 where
  pub file : BhvFile
  pub name : List ℕ
  pub parent : Option ℕ
  pub conds : List Condition

-- the file with one more opening pair, of at most 256
abbrev pub with_opening : BhvFile → Result Pair PairFault → Result BhvFile Cause
with_opening file (Err fault) = Err B1
with_opening file (Ok pair) = if nat_le 256 (length file.opening) then Err B9 else Ok (record file { opening = file.opening ++ pair ∷ [] })

-- the first word of a line is this keyword
abbrev pub begins_by : List ℕ → List ℕ → Bool
begins_by keyword text = str_eq_ignore_ascii_case (first_word text) keyword

-- `Behavior = TYPE` begins a behaviour
abbrev pub begins_behavior : Option Sides → Bool
begins_behavior None = false
begins_behavior (Some sides) = str_eq_ignore_ascii_case sides.name (codes "Behavior")

-- a line that opens a block: `set MODE = NAME` or `Behavior = TYPE`
abbrev pub opens_mode_or_behavior : List ℕ → Bool
opens_mode_or_behavior text = begins_by (codes "set") text || (not (begins_by (codes "initialize") text) && begins_behavior (sides_of text))

-- what is on the right in the line that opens a block, without the `{` that may end the line
abbrev pub named_by : Sides → List ℕ
named_by sides = trimmed (without_last 123 sides.value)

-- the mode that is declared has a name, and the variable is MODE
abbrev pub mode_begun : BhvFile → Option Sides → Result ModeBlock Cause
mode_begun file None = Err B1
mode_begun file (Some sides) =
    if bytes_eq sides.name (codes "MODE") && is_name (named_by sides)
    then Ok (record { file = file; name = named_by sides; parent = None; conds = [] })
    else Err B1

-- a block that isn't closed yet: of a mode or of a behaviour
pub data OpenBlock : Type 0 where
  OfMode : ModeBlock → OpenBlock
  OfBehavior : BehaviorBlock → OpenBlock

-- a behaviour is begun by its type
abbrev pub behavior_begun : BhvFile → Option Sides → Result BehaviorBlock Cause
behavior_begun file None = Err B1
behavior_begun file (Some sides) = and_then (λ behavior. Ok (record { file = file; behavior = behavior })) (behavior_of_type (named_by sides))

-- a block is begun
abbrev pub block_begun : BhvFile → List ℕ → Result OpenBlock Cause
block_begun file text =
    if begins_by (codes "set") text then and_then (λ block. Ok (OfMode block)) (mode_begun file (sides_of (behind_word text)))
    else and_then (λ block. Ok (OfBehavior block)) (behavior_begun file (sides_of text))

-- outside blocks a line is `initialize PAIR`
abbrev pub line_outside : BhvFile → List ℕ → Result BhvFile Cause
line_outside file text = if begins_by (codes "initialize") text then with_opening file (pair_of (behind_word text)) else Err B1

-- the parent that a line says; a path has at most 16 names
abbrev pub with_parent : ModeBlock → ℕ → Result ModeBlock Cause
with_parent block parent =
    if nat_le 16 (length (parent_path (paths_of block.file.decls) (Some parent))) then Err B9 else Ok (record block { parent = Some parent })

-- a condition that is a parent line finds the parent
abbrev pub after_condition : ModeBlock → Option Value → Result ModeBlock Cause
after_condition block None = Ok block
after_condition block (Some literal) = and_then (with_parent block) (the_one (meant_by block.file.decls literal))

-- a mode's block with one more condition, of at most 64
abbrev pub with_condition : ModeBlock → Option Condition → Result ModeBlock Cause
with_condition block None = Err B5
with_condition block (Some cond) =
    if not (fits_mode block.conds cond) then Err B5
    else if nat_le 64 (length block.conds) then Err B9
    else after_condition (record block { conds = block.conds ++ cond ∷ [] }) (parent_of cond)

-- the OTHER name of a mode, if one is given
abbrev pub other_of : List ℕ → Result (Option (List ℕ)) Cause
other_of [] = Ok None
other_of (byte ∷ bytes) = if is_name (byte ∷ bytes) then Ok (Some (byte ∷ bytes)) else Err B1

-- the file with one more declaration, of at most 256
abbrev pub with_decl : ModeBlock → Option (List ℕ) → Result BhvFile Cause
with_decl block other =
    if nat_le 256 (length block.file.decls) then Err B9
    else Ok (record block.file { decls = block.file.decls ++ record { name = block.name; parent = block.parent; conds = block.conds; other = other } ∷ [] })

-- a line that begins with `}`
abbrev pub begins_by_brace : List ℕ → Bool
begins_by_brace [] = false
begins_by_brace (byte ∷ bytes) = byte == 125

-- what follows the `}` of a line
abbrev pub behind_close : List ℕ → List ℕ
behind_close [] = []
behind_close (byte ∷ bytes) = trimmed bytes

-- a block with one more line
abbrev pub with_block_line : OpenBlock → Statement → Result OpenBlock Cause
with_block_line (OfMode block) said = and_then (λ more. Ok (OfMode more)) (with_condition block (condition_of said.text))
with_block_line (OfBehavior block) said = and_then (λ more. Ok (OfBehavior more)) (with_sides block said.line (sides_of said.text))

-- a block at the line that closes it, in a file over this domain
abbrev pub block_closed : List Axis → OpenBlock → Statement → Result BhvFile Cause
block_closed domain (OfMode block) said = and_then (with_decl block) (other_of (behind_close said.text))
block_closed domain (OfBehavior block) said = behavior_closed domain block (behind_close said.text)

-- how a behaviour file is read over this domain, section after section
abbrev pub behavior_form : List Axis → Form BhvFile OpenBlock
behavior_form domain =
    record {
      opens = opens_mode_or_behavior;
      closes = begins_by_brace;
      bad = B1;
      unclosed = B2;
      loose = λ file said. line_outside file said.text;
      begin = λ file said. block_begun file said.text;
      inside = with_block_line;
      close = block_closed domain;
    }

-- What the bytes of a behaviour file stand for, over this domain. Lines are counted from 1.
abbrev pub behaviors_of : List Axis → List ℕ → Result BhvFile ReadFault
behaviors_of domain bytes = made_of_file (behavior_form domain) nothing_said bytes
