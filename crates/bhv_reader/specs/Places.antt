-- How far the reader has come. This serves the reader alone: what bytes stand for is said without it.
use Rattle.std.specs.Prelude.{ℕ, Bool, false, not, nat_le, if◌then◌else◌, List, length, Option, Some, None, Result, Ok, Err}
use Rattle.moos_post.specs.declared.value.Value.{Value}
use Rattle.moos_text.specs.declared.cause.Cause.{Cause}
use Rattle.moos_text.specs.declared.cause.Cause.TheVariants.{B1, B9}
use Rattle.moos_text.specs.Pairs.{Sides}
use Rattle.moos_text.specs.Refusals.{and_then}
use Rattle.moos_text.specs.Standing.{Inside, Opened, Outside, Standing}
use Rattle.bhv_reader.specs.declared.behavior.UnclosedBehavior.{UnclosedBehavior}
use Rattle.bhv_file.specs.declared.decl.Decl.{Decl}
use Rattle.bhv_file.specs.declared.file.BhvFile.{BhvFile}
use Rattle.bhv_reader.specs.declared.mode.UnclosedMode.{UnclosedMode}
use Rattle.bhv_reader.specs.declared.reading.Position.{Position}
use Rattle.bhv_reader.specs.declared.reading.Position.TheVariants.{Loose, Headed, Braced}
use Rattle.bhv_reader.specs.declared.reading.Unclosed.{Unclosed}
use Rattle.bhv_reader.specs.declared.reading.Unclosed.TheVariants.{OfMode, OfBehavior}
use Rattle.bhv_file.specs.Ranges.{InRanges}
use Rattle.bhv_file.specs.Paths.{the_one, meant_by, parent_path, paths_of}
use Rattle.bhv_reader.specs.Behaviors.{begins_by_brace, ModeBlock, named_by, OfBehavior as BehaviorOpen, OfMode as ModeOpen, OpenBlock}
use Rattle.bhv_reader.specs.Blocks.{behavior_of_type, BehaviorBlock}

-- an unfinished declaration behind this file
abbrev pub mode_block : BhvFile → UnclosedMode → ModeBlock
mode_block file mode = record { file = file; name = mode.name; parent = mode.parent; conds = mode.conds }

-- an unfinished behaviour behind this file
abbrev pub behavior_block : BhvFile → UnclosedBehavior → BehaviorBlock
behavior_block file behavior = record { file = file; behavior = behavior }

-- an unfinished block behind this file
abbrev pub open_block : BhvFile → Unclosed → OpenBlock
open_block file (OfMode mode) = ModeOpen (mode_block file mode)
open_block file (OfBehavior behavior) = BehaviorOpen (behavior_block file behavior.value)

-- the parameters of an unfinished behaviour are in their ranges
abbrev pub IsRanged : Unclosed → Type 0
IsRanged (OfMode mode) = Unit {0}
IsRanged (OfBehavior behavior) = InRanges false behavior.value.spec.shape

-- they are so in the block in which the reader is
abbrev pub IsRangedAt : Position → Type 0
IsRangedAt Loose = Unit {0}
IsRangedAt (Headed block) = IsRanged block
IsRangedAt (Braced block) = IsRanged block

-- where the reader is with this file
abbrev pub standing_at : BhvFile → Position → Standing BhvFile OpenBlock
standing_at file Loose = Outside file
standing_at file (Headed block) = Opened (open_block file block)
standing_at file (Braced block) = Inside (open_block file block)

-- a line is in a block and doesn't close it
abbrev pub is_within : Position → List ℕ → Bool
is_within (Braced block) text = not (begins_by_brace text)
is_within place text = false

-- the parent that is known, with what a condition says of it if that is a parent line
abbrev pub parent_behind : List Decl → Option ℕ → Option Value → Result (Option ℕ) Cause
parent_behind decls parent None = Ok parent
parent_behind decls parent (Some literal) =
    and_then (λ number. if nat_le 16 (length (parent_path (paths_of decls) (Some number))) then Err B9 else Ok (Some number)) (the_one (meant_by decls literal))

-- the behaviour that a line with these sides begins
abbrev pub behavior_in : Option Sides → Result UnclosedBehavior Cause
behavior_in None = Err B1
behavior_in (Some sides) = behavior_of_type (named_by sides)
