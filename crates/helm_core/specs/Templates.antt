-- What letters to templates make of the list of behaviours: the ones that they make, and the ones that they change.
use Rattle.std.specs.Prelude.{ℕ, ◌+◌, ◌==◌, nat_lt, Bool, true, not, ◌&&◌, if◌then◌else◌, List, [], ◌∷◌, ◌++◌, fold, length, codes, bytes_eq, slice_get, slice_set, Option, Some, None, is_some, option_map, option_and_then, position}
use Rattle.std.specs.List.{after_first, before_first, count_by, list_any, position_or_len}
use Rattle.std.specs.Option.{option_eq}
use Rattle.std.specs.Str.{str_eq_ignore_ascii_case}
use Rattle.moos_post.specs.declared.value.Pair.{Pair}
use Rattle.moos_post.specs.declared.value.Value.{Value}
use Rattle.moos_post.specs.declared.value.Value.TheVariants.{Num, Text}
use Rattle.moos_post.specs.Words.{is_name}
use Rattle.moos_text.specs.Pairs.{Sides, sides_of}
use Rattle.ivp_domain.specs.declared.axis.Axis.{Axis}
use Rattle.bhv_file.specs.declared.file.Block.{Block}
use Rattle.bhv_file.specs.declared.spec.Spec.{Spec}
use Rattle.bhv_kinds.specs.Changes.{KindChange, Updated, params_at}
use Rattle.bhv_file.specs.Updates.{updated}
use Rattle.helm_core.specs.declared.iteration.How.{How}
use Rattle.helm_core.specs.declared.iteration.How.TheVariants.{Refused, Changed, Spawned}
use Rattle.helm_core.specs.declared.iteration.Update.{Update}
use Rattle.helm_core.specs.declared.named.NamedPairs.{NamedPairs}
use Rattle.helm_core.specs.Behaviors.{BhvSoFar, Birth}
use Rattle.helm_core.specs.Plans.{is_template}

-- `#`
abbrev pub is_hash : ℕ → Bool
is_hash byte = byte == 35

-- what follows the first `#`, if there is one
abbrev pub behind_hash : List ℕ → Option (List ℕ)
behind_hash text = if nat_lt (position_or_len is_hash text) (length text) then Some (after_first is_hash text) else None

-- the name in a part `name=N`
abbrev pub name_said : Sides → Option (List ℕ)
name_said sides = if str_eq_ignore_ascii_case sides.name (codes "name") && is_name sides.value then Some sides.value else None

-- a name with the pairs behind it
abbrev pub named_with : Option (List ℕ) → List ℕ → NamedPairs
named_with pairs name = record { name = name; pairs = pairs }

-- what a text says to a template: its first part is `name=N`, and what follows it, if anything, are pairs
abbrev pub named_pairs : List ℕ → Option NamedPairs
named_pairs text = option_map (named_with (behind_hash text)) (option_and_then name_said (sides_of (before_first is_hash text)))

-- what a value says to a template: a number says nothing
abbrev pub said_by : Value → Option NamedPairs
said_by (Num number) = None
said_by (Text text) = named_pairs text

-- there are no pairs, or they are good as a whole, over these axes, for a behaviour with these parameters
abbrev pub are_good : List Axis → Spec → Option (List ℕ) → Bool
are_good axes params None = true
are_good axes params (Some pairs) = is_some (updated axes params pairs)

-- the updates and steps with one more update, if there are pairs
abbrev pub with_said : List Axis → List KindChange → Option (List ℕ) → List KindChange
with_said axes changes None = changes
with_said axes changes (Some pairs) = Updated axes pairs ∷ changes

-- the behaviour that a letter makes of a template: it has the name that was said, and the template's parameters with the pairs
abbrev pub made_from : List Axis → Block → Birth → NamedPairs → BhvSoFar
made_from axes template birth said = record { name = said.name; block = template; born = Some birth; lived = []; changes = with_said axes [] said.pairs }

-- the behaviour with these pairs too
abbrev pub changed_by : List Axis → NamedPairs → BhvSoFar → BhvSoFar
changed_by axes said one = record one { changes = with_said axes one.changes said.pairs }

-- the behaviour has this name
abbrev pub bears_name : List ℕ → BhvSoFar → Bool
bears_name name one = bytes_eq one.name name

-- the behaviour was made of this template; of all blocks of the file only this one has its name
abbrev pub is_made_of : Block → BhvSoFar → Bool
is_made_of template one = is_some one.born && bytes_eq one.block.common.name template.common.name

-- the template has this name
abbrev pub is_template_named : List ℕ → Block → Bool
is_template_named name block = is_template block && bytes_eq block.common.name name

-- no template has this name, and the templates and a list of `count` behaviours are together below 64
abbrev pub may_make : List Block → List ℕ → ℕ → Bool
may_make blocks name count = not (list_any (is_template_named name) blocks) && nat_lt (count_by is_template blocks + count) 64

-- the list so far in an iteration, and the answers to letters to templates so far
pub record Spawning : Type 0 where
  pub ones : List BhvSoFar
  pub answers : List Update

-- a letter to this template was answered, and then this is the list
abbrev pub answered : Block → Spawning → List BhvSoFar → How → Spawning
answered template so_far ones how = record { ones = ones; answers = so_far.answers ++ record { name = template.common.name; how = how } ∷ [] }

-- a letter with a name that none in the list has, in iteration `at`
abbrev pub heard_new : List Axis → List Block → ℕ → Block → Spawning → NamedPairs → Spawning
heard_new axes blocks at template so_far said =
    if may_make blocks said.name (length so_far.ones) && are_good axes template.spec said.pairs
    then answered template so_far (so_far.ones ++ made_from axes template (record { iteration = at; letter = length so_far.answers }) said ∷ []) (Spawned said.name)
    else answered template so_far so_far.ones Refused

-- a letter with the name of this one, which is at this place of the list
abbrev pub heard_known : List Axis → Block → Spawning → NamedPairs → ℕ → Option BhvSoFar → Spawning
heard_known axes template so_far said place None = answered template so_far so_far.ones Refused
heard_known axes template so_far said place (Some one) =
    if is_made_of template one && are_good axes (params_at one.block.spec one.changes) said.pairs
    then answered template so_far (slice_set so_far.ones place (changed_by axes said one)) Changed
    else answered template so_far so_far.ones Refused

-- a letter with a name, by the place in the list of the behaviour that has the name, if one has it
abbrev pub heard_at_place : List Axis → List Block → ℕ → Block → Spawning → NamedPairs → Option ℕ → Spawning
heard_at_place axes blocks at template so_far said None = heard_new axes blocks at template so_far said
heard_at_place axes blocks at template so_far said (Some place) = heard_known axes template so_far said place (slice_get so_far.ones place)

-- a letter to the template that says this, or nothing
abbrev pub heard_said : List Axis → List Block → ℕ → Block → Spawning → Option NamedPairs → Spawning
heard_said axes blocks at template so_far None = answered template so_far so_far.ones Refused
heard_said axes blocks at template so_far (Some said) = heard_at_place axes blocks at template so_far said (position (bears_name said.name) so_far.ones)

-- a letter, which is one to the template if it is of its variable
abbrev pub heard_to : List Axis → List Block → ℕ → Block → Spawning → Pair → Spawning
heard_to axes blocks at template so_far letter =
    if option_eq bytes_eq template.common.updates (Some letter.var) then heard_said axes blocks at template so_far (said_by letter.value) else so_far

-- all letters to a block of the file, if it is a template
abbrev pub heard_by : List Axis → List Block → ℕ → List Pair → Spawning → Block → Spawning
heard_by axes blocks at letters so_far block = if is_template block then fold (heard_to axes blocks at block) so_far letters else so_far

-- before the letters of an iteration
abbrev pub none_spawned : List BhvSoFar → Spawning
none_spawned ones = record { ones = ones; answers = [] }

-- The letters of iteration `at` to all templates, in file order, if this was the list before.
abbrev pub spawned : List Axis → List Block → ℕ → List Pair → List BhvSoFar → Spawning
spawned axes blocks at letters ones = fold (heard_by axes blocks at letters) (none_spawned ones) blocks
