-- A file that has as many behaviours as it may.
use Rattle.std.proofs.Common.{◌≡◌, ℕ, ◌≤◌, Some, None, Option, List, length, option_map, Err, refl}
use Rattle.std.proofs.lemmas.Bool.{le-leb}
use Rattle.bhv_file.specs.declared.file.BhvFile.{BhvFile}
use Rattle.bhv_file.specs.declared.file.Block.{Block}
use Rattle.bhv_reader.specs.declared.behavior.UnclosedBehavior.{UnclosedBehavior}
use Rattle.bhv_reader.specs.Blocks.{block_of, with_block}
use Rattle.bhv_reader.specs.Places.{behavior_block}
use Rattle.moos_text.specs.declared.cause.Cause.TheVariants.{B9}

-- one more that has a name is refused for that
pub no_room : (file : BhvFile) (behavior : UnclosedBehavior) (name : Option (List ℕ)) (block : Block) → Some block ≡ option_map (block_of behavior) name → 64 ≤ length file.blocks
    → with_block (behavior_block file behavior) name ≡ Err B9
no_room file behavior None block is full = cc
no_room file behavior (Some name) block is full = rw (le-leb 64 (length file.blocks) full) refl
