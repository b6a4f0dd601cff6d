-- The blocks of behaviours: what each line makes of one, and what it comes to at its end.
use Rattle.std.specs.Prelude.{ℕ, ◌+◌, Bool, true, false, not, ◌&&◌, ◌||◌, nat_le, if◌then◌else◌, List, [], ◌∷◌, ◌++◌, length, Option, Some, None, is_none, Result, Ok, Err, ok_or, option_map}
use Rattle.ivp_domain.specs.declared.axis.Axis.{Axis}
use Rattle.moos_post.specs.declared.value.Pair.{Pair}
use Rattle.moos_post.specs.Words.{is_name}
use Rattle.moos_text.specs.declared.cause.Cause.{Cause}
use Rattle.moos_text.specs.declared.cause.Cause.TheVariants.{B1, B3, B4, B5, B6, B9, B10, B11}
use Rattle.moos_text.specs.declared.pair.PairFault.{PairFault}
use Rattle.moos_text.specs.Pairs.{pair_of, Sides}
use Rattle.moos_text.specs.Refusals.{and_then}
use Rattle.helm_cond.specs.Conditions.{Condition}
use Rattle.helm_cond.specs.Grammar.{condition_of}
use Rattle.bhv_reader.specs.declared.behavior.UnclosedBehavior.{UnclosedBehavior}
use Rattle.bhv_file.specs.declared.file.BhvFile.{BhvFile}
use Rattle.bhv_file.specs.declared.file.Block.{Block}
use Rattle.bhv_file.specs.declared.spec.Shape.{Shape}
use Rattle.bhv_file.specs.declared.table.CommonParameter.{CommonParameter}
use Rattle.bhv_file.specs.declared.table.CommonParameter.TheVariants.{Name, Weight, Condition as OfCondition, RunFlag, IdleFlag, ActiveFlag, InactiveFlag, EndFlag, Updates, Duration, IdleDecay, Perpetual, Templating}
use Rattle.bhv_file.specs.declared.table.Parameter.{Parameter}
use Rattle.bhv_file.specs.Params.{has_axes, keeps_relations, lacks_places, with_value_of}
use Rattle.bhv_file.specs.Serving.{suits}
use Rattle.bhv_file.specs.Table.{common_named, defaults_of, is_needed, needs_number, parameter_of}
use Rattle.bhv_file.specs.Validity.{is_taken}
use Rattle.bhv_file.specs.Values.{duration_of, flag_of, templating_of, weight_of}

-- a behaviour whose block isn't closed yet, and the file before it
pub record BehaviorBlock : Type 0 where
  pub file : BhvFile
  pub behavior : UnclosedBehavior

-- a behaviour of a type before its first parameter
abbrev pub of_shape : Shape → UnclosedBehavior
of_shape shape = record {
  name = None;
  conds = [];
  runflags = [];
  idleflags = [];
  activeflags = [];
  inactiveflags = [];
  endflags = [];
  updates = None;
  duration = None;
  idle_decay = true;
  perpetual = false;
  template = false;
  given = not (needs_number shape);
  spec = record { weight = 100000; shape = shape };
}

-- a behaviour of the type of this name
abbrev pub behavior_of_type : List ℕ → Result UnclosedBehavior Cause
behavior_of_type [] = Err B1
behavior_of_type (byte ∷ bytes) = ok_or (option_map of_shape (defaults_of (byte ∷ bytes))) B3

-- a name as a value
abbrev pub name_value : List ℕ → Result (List ℕ) Cause
name_value value = if is_name value then Ok value else Err B6

-- a behaviour with a name, which no behaviour before it has
abbrev pub with_behavior_name : List Block → UnclosedBehavior → List ℕ → Result UnclosedBehavior Cause
with_behavior_name blocks behavior name = if is_taken blocks name then Err B4 else Ok (record behavior { name = Some name })

-- a behaviour with one more condition, of at most 64
abbrev pub with_behavior_condition : UnclosedBehavior → Condition → Result UnclosedBehavior Cause
with_behavior_condition behavior cond = if nat_le 64 (length behavior.conds) then Err B9 else Ok (record behavior { conds = behavior.conds ++ cond ∷ [] })

-- how many flags of all kinds a behaviour has
abbrev pub flags_in : UnclosedBehavior → ℕ
flags_in behavior = length behavior.runflags + length behavior.idleflags + length behavior.activeflags + length behavior.inactiveflags + length behavior.endflags

-- a flag as a value
abbrev pub flag_value : Result Pair PairFault → Result Pair Cause
flag_value (Ok pair) = Ok pair
flag_value (Err fault) = Err B6

-- a flag, if the behaviour has room for one more: it has at most 32 of all kinds
abbrev pub flag_with_room : UnclosedBehavior → Pair → Result Pair Cause
flag_with_room behavior pair = if nat_le 32 (flags_in behavior) then Err B9 else Ok pair

-- one more flag, if the value says a pair and the behaviour has room for it
abbrev pub one_flag : UnclosedBehavior → List ℕ → Result Pair Cause
one_flag behavior value = and_then (flag_with_room behavior) (flag_value (pair_of value))

-- a behaviour with what a value says, if it is a good one
abbrev pub if_good : {A : Type 0} → (A → UnclosedBehavior) → Option A → Result UnclosedBehavior Cause
if_good put value = ok_or (option_map put value) B6

-- a behaviour with a common parameter, behind these behaviours
abbrev pub with_common : List Block → UnclosedBehavior → List ℕ → CommonParameter → Result UnclosedBehavior Cause
with_common blocks behavior value Name = and_then (with_behavior_name blocks behavior) (name_value value)
with_common blocks behavior value Weight = if_good (λ weight. record behavior { spec = record behavior.spec { weight = weight } }) (weight_of value)
with_common blocks behavior value OfCondition = and_then (with_behavior_condition behavior) (ok_or (condition_of value) B5)
with_common blocks behavior value RunFlag = and_then (λ pair. Ok (record behavior { runflags = behavior.runflags ++ pair ∷ [] })) (one_flag behavior value)
with_common blocks behavior value IdleFlag = and_then (λ pair. Ok (record behavior { idleflags = behavior.idleflags ++ pair ∷ [] })) (one_flag behavior value)
with_common blocks behavior value ActiveFlag = and_then (λ pair. Ok (record behavior { activeflags = behavior.activeflags ++ pair ∷ [] })) (one_flag behavior value)
with_common blocks behavior value InactiveFlag = and_then (λ pair. Ok (record behavior { inactiveflags = behavior.inactiveflags ++ pair ∷ [] })) (one_flag behavior value)
with_common blocks behavior value EndFlag = and_then (λ pair. Ok (record behavior { endflags = behavior.endflags ++ pair ∷ [] })) (one_flag behavior value)
with_common blocks behavior value Updates = and_then (λ name. Ok (record behavior { updates = Some name })) (name_value value)
with_common blocks behavior value Duration = if_good (λ time. record behavior { duration = time }) (duration_of value)
with_common blocks behavior value IdleDecay = if_good (λ flag. record behavior { idle_decay = flag }) (flag_of value)
with_common blocks behavior value Perpetual = if_good (λ flag. record behavior { perpetual = flag }) (flag_of value)
with_common blocks behavior value Templating = if_good (λ flag. record behavior { template = flag }) (templating_of value)

-- a behaviour with a parameter of its type
abbrev pub with_parameter : UnclosedBehavior → List ℕ → Parameter → Result UnclosedBehavior Cause
with_parameter behavior value parameter =
    if_good (λ shape. record behavior { spec = record behavior.spec { shape = shape }; given = behavior.given || is_needed parameter })
    (with_value_of behavior.spec.shape parameter value)

-- a behaviour with a parameter, and none if this one is no parameter of its type
abbrev pub with_found : List Block → UnclosedBehavior → List ℕ → Option CommonParameter → Option Parameter → Option (Result UnclosedBehavior Cause)
with_found blocks behavior value (Some common) own = Some (with_common blocks behavior value common)
with_found blocks behavior value None (Some own) = Some (with_parameter behavior value own)
with_found blocks behavior value None None = None

-- a behaviour's block with one more line: a parameter, or one that is unused
abbrev pub after_known : BehaviorBlock → ℕ → List ℕ → Option (Result UnclosedBehavior Cause) → Result BehaviorBlock Cause
after_known block line name (Some known) = and_then (λ behavior. Ok (record block { behavior = behavior })) known
after_known block line name None = Ok (record block { file = record block.file { unused = block.file.unused ++ record { line = line; name = name } ∷ [] } })

-- a behaviour's block with one more line: `param = value`
abbrev pub with_sides : BehaviorBlock → ℕ → Option Sides → Result BehaviorBlock Cause
with_sides block line None = Err B1
with_sides block line (Some sides) =
    if is_name sides.name
    then after_known block line sides.name (with_found block.file.blocks block.behavior sides.value (common_named sides.name) (parameter_of block.behavior.spec.shape sides.name))
    else Err B1

-- the behaviour is a template, and there is no variable whose letters it hears
abbrev pub is_unheard : UnclosedBehavior → Bool
is_unheard behavior = behavior.template && is_none behavior.updates

-- a required parameter is missing
abbrev pub is_unfinished : UnclosedBehavior → Bool
is_unfinished behavior = is_none behavior.name || not behavior.given || is_unheard behavior || lacks_places behavior.spec.shape

-- why a behaviour is refused at the end of its block, if it is
abbrev pub closing_fault : List Axis → UnclosedBehavior → Option Cause
closing_fault domain behavior =
    if is_unfinished behavior then Some B11
    else if not (keeps_relations behavior.spec.shape && suits domain behavior.spec.shape) then Some B6
    else if not (has_axes domain behavior.spec.shape) then Some B10
    else None

-- a whole behaviour of this name
abbrev pub block_of : UnclosedBehavior → List ℕ → Block
block_of behavior name = record {
  common = record {
    name = name;
    conds = behavior.conds;
    runflags = behavior.runflags;
    idleflags = behavior.idleflags;
    activeflags = behavior.activeflags;
    inactiveflags = behavior.inactiveflags;
    endflags = behavior.endflags;
    updates = behavior.updates;
    duration = behavior.duration;
    idle_decay = behavior.idle_decay;
    perpetual = behavior.perpetual;
    template = behavior.template;
  };
  spec = behavior.spec;
}

-- the file with one more behaviour, of at most 64
abbrev pub with_block : BehaviorBlock → Option (List ℕ) → Result BhvFile Cause
with_block block None = Err B11
with_block block (Some name) =
    if nat_le 64 (length block.file.blocks) then Err B9
    else Ok (record block.file { blocks = block.file.blocks ++ block_of block.behavior name ∷ [] })

-- a behaviour at the end of its block, if it is good
abbrev pub when_good : BehaviorBlock → Option Cause → Result BhvFile Cause
when_good block (Some cause) = Err cause
when_good block None = with_block block block.behavior.name

-- a behaviour at the end of its block, behind whose `}` this is
abbrev pub behavior_closed : List Axis → BehaviorBlock → List ℕ → Result BhvFile Cause
behavior_closed domain block [] = when_good block (closing_fault domain block.behavior)
behavior_closed domain block (byte ∷ bytes) = Err B1
