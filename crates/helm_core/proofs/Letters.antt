-- What letters to templates leave, one after the other.
use Rattle.std.proofs.Common.{◌≡◌, ℕ, Bool, true, false, ◌&&◌, if◌then◌else◌, List, [], ◌∷◌, ◌++◌, length, fold, Option, Some, None, refl}
use Rattle.std.specs.Prelude.{IfSome, IsTrue, bytes_eq, codes, option_and_then, option_map, position, slice_get, slice_set}
use Rattle.std.specs.List.{AllByRecursion as Each}
use Rattle.std.specs.Option.{option_eq}
use Rattle.std.specs.Str.{str_eq_ignore_ascii_case}
use Rattle.moos_post.specs.Words.{is_name}
use Rattle.moos_post.specs.declared.value.Pair.{Pair}
use Rattle.moos_post.specs.declared.value.Value.{Value}
use Rattle.moos_post.specs.declared.value.Value.TheVariants.{Num, Text}
use Rattle.moos_text.specs.Pairs.{Sides, sides_of}
use Rattle.ivp_domain.specs.declared.axis.Axis.{Axis}
use Rattle.std.specs.List.{before_first}
use Rattle.bhv_file.specs.declared.file.Block.{Block}
use Rattle.bhv_kinds.specs.Changes.{params_at}
use Rattle.helm_core.specs.declared.iteration.How.TheVariants.{Refused, Changed, Spawned}
use Rattle.helm_core.specs.declared.named.NamedPairs.{NamedPairs}
use Rattle.helm_core.specs.Behaviors.{BhvSoFar, Birth}
use Rattle.helm_core.specs.Plans.{is_template}
use Rattle.helm_core.specs.Templates.{Spawning, answered, are_good, behind_hash, changed_by, heard_at_place, heard_by, heard_known, heard_new, heard_said, heard_to, bears_name, is_hash, is_made_of, made_from, may_make, name_said, named_with, none_spawned, said_by, spawned}

-- what is said to a template names a behaviour by a name
said_named : (value : Value) → IfSome (said_by value) (λ (said : NamedPairs). IsTrue (is_name said.name))
said_named (Num number) = tt
said_named (Text text) = by (sides_of (before_first is_hash text))
  where
    named : (sides : Sides) (key good : Bool) → is_name sides.value ≡ good → IfSome (option_map (named_with (behind_hash text)) (if key && good then Some sides.value else None)) (λ (said : NamedPairs). IsTrue (is_name said.name))
    named sides true true is = is
    named sides true false is = tt
    named sides false good is = tt

    by : (sides : Option Sides) → IfSome (option_map (named_with (behind_hash text)) (option_and_then name_said sides)) (λ (said : NamedPairs). IsTrue (is_name said.name))
    by None = tt
    by (Some sides) = named sides (str_eq_ignore_ascii_case sides.name (codes "name")) (is_name sides.value) refl

-- the birth by the next letter
abbrev pub next_birth : ℕ → Spawning → Birth
next_birth at so_far = record { iteration = at; letter = length so_far.answers }

-- each letter leaves this: one that is refused, one that makes a behaviour, and one that changes one
pub record LastsLetters (axes : List Axis) (blocks : List Block) (at : ℕ) (Q : Block → Type 0) (I : Spawning → Type 0) : Type 0 where
  pub refuses : (template : Block) (so_far : Spawning) → Q template → I so_far → I (answered template so_far so_far.ones Refused)
  pub makes : (template : Block) (so_far : Spawning) (said : NamedPairs) → Q template → IsTrue (is_name said.name) → may_make blocks said.name (length so_far.ones) ≡ true → position (bears_name said.name) so_far.ones ≡ None → I so_far
      → I (answered template so_far (so_far.ones ++ made_from axes template (next_birth at so_far) said ∷ []) (Spawned said.name))
  pub changes : (template : Block) (so_far : Spawning) (said : NamedPairs) (place : ℕ) (one : BhvSoFar) → Q template → slice_get so_far.ones place ≡ Some one → I so_far
      → I (answered template so_far (slice_set so_far.ones place (changed_by axes said one)) Changed)

module _ (axes : List Axis) (blocks : List Block) (at : ℕ) (Q : Block → Type 0) (I : Spawning → Type 0) (lasts : LastsLetters axes blocks at Q I) where
  new_lasts : (template : Block) (so_far : Spawning) (said : NamedPairs) → Q template → IsTrue (is_name said.name) → position (bears_name said.name) so_far.ones ≡ None → I so_far → I (heard_new axes blocks at template so_far said)
  new_lasts template so_far said q named free is = by (may_make blocks said.name (length so_far.ones)) (are_good axes template.spec said.pairs) refl
    where
      by : (room good : Bool) → may_make blocks said.name (length so_far.ones) ≡ room → I (if room && good then answered template so_far (so_far.ones ++ made_from axes template (next_birth at so_far) said ∷ []) (Spawned said.name) else answered template so_far so_far.ones Refused)
      by true true room = lasts.makes template so_far said q named room free is
      by true false room = lasts.refuses template so_far q is
      by false good room = lasts.refuses template so_far q is

  known_lasts : (template : Block) (so_far : Spawning) (said : NamedPairs) (place : ℕ) (found : Option BhvSoFar) → slice_get so_far.ones place ≡ found → Q template → I so_far → I (heard_known axes template so_far said place found)
  known_lasts template so_far said place None there q is = lasts.refuses template so_far q is
  known_lasts template so_far said place (Some one) there q is = by (is_made_of template one && are_good axes (params_at one.block.spec one.changes) said.pairs)
    where
      by : (good : Bool) → I (if good then answered template so_far (slice_set so_far.ones place (changed_by axes said one)) Changed else answered template so_far so_far.ones Refused)
      by true = lasts.changes template so_far said place one q there is
      by false = lasts.refuses template so_far q is

  place_lasts : (template : Block) (so_far : Spawning) (said : NamedPairs) (found : Option ℕ) → position (bears_name said.name) so_far.ones ≡ found → Q template → IsTrue (is_name said.name) → I so_far → I (heard_at_place axes blocks at template so_far said found)
  place_lasts template so_far said None at q named is = new_lasts template so_far said q named at is
  place_lasts template so_far said (Some place) at q named is = known_lasts template so_far said place (slice_get so_far.ones place) refl q is

  said_lasts : (template : Block) (so_far : Spawning) (said : Option NamedPairs) → Q template → IfSome said (λ (it : NamedPairs). IsTrue (is_name it.name)) → I so_far → I (heard_said axes blocks at template so_far said)
  said_lasts template so_far None q named is = lasts.refuses template so_far q is
  said_lasts template so_far (Some said) q named is = place_lasts template so_far said (position (bears_name said.name) so_far.ones) refl q named is

  letter_lasts : (template : Block) (so_far : Spawning) (letter : Pair) → Q template → I so_far → I (heard_to axes blocks at template so_far letter)
  letter_lasts template so_far letter q is = by (option_eq bytes_eq template.common.updates (Some letter.var))
    where
      by : (asked : Bool) → I (if asked then heard_said axes blocks at template so_far (said_by letter.value) else so_far)
      by true = said_lasts template so_far (said_by letter.value) q (said_named letter.value) is
      by false = is

  letters_last : (template : Block) (letters : List Pair) (so_far : Spawning) → Q template → I so_far → I (fold (heard_to axes blocks at template) so_far letters)
  letters_last template [] so_far q is = is
  letters_last template (letter ∷ letters) so_far q is = letters_last template letters (heard_to axes blocks at template so_far letter) q (letter_lasts template so_far letter q is)

  block_lasts : (letters : List Pair) (so_far : Spawning) (block : Block) → Q block → I so_far → I (heard_by axes blocks at letters so_far block)
  block_lasts letters so_far block q is = by (is_template block)
    where
      by : (template : Bool) → I (if template then fold (heard_to axes blocks at block) so_far letters else so_far)
      by true = letters_last block letters so_far q is
      by false = is

  blocks_last : (letters : List Pair) (some : List Block) (so_far : Spawning) → Each Q some → I so_far → I (fold (heard_by axes blocks at letters) so_far some)
  blocks_last letters [] so_far all is = is
  blocks_last letters (block ∷ some) so_far all is = blocks_last letters some (heard_by axes blocks at letters so_far block) all.1 (block_lasts letters so_far block all.0 is)

  pub spawned_last : (letters : List Pair) (ones : List BhvSoFar) → Each Q blocks → I (none_spawned ones) → I (spawned axes blocks at letters ones)
  spawned_last letters ones all is = blocks_last letters blocks (none_spawned ones) all is
