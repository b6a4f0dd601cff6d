-- A behaviour whose block is read line by line stays good, and is valid at its end.
use Rattle.std.proofs.Common.{◌≡◌, ℕ, ◌≤◌, ◌<◌, ◌^◌, Bool, true, false, ◌&&◌, ◌||◌, not, nat_le, cond, List, [], ◌∷◌, ◌++◌, length, Option, Some, None, refl, subst, sym, arith, length-append, append-nil, append_assoc, codes, bytes_eq}
use Rattle.std.specs.Prelude.{◌+◌, IfSome, IfOk, IsTrue, is_none, is_some, ok_or, option_map, Result, Ok, Err}
use Rattle.std.specs.List.{All}
use Rattle.std.proofs.lemmas.Bool.{and_from, and_parts, le-leb, leb-false, lt-leb}
use Rattle.std.proofs.lemmas.List.Elements.{All-append, All-nil, All-push}
use Rattle.ivp_domain.specs.declared.axis.Axis.{Axis}
use Rattle.moos_post.specs.declared.value.Pair.{Pair}
use Rattle.moos_post.specs.Entries.{IsPair}
use Rattle.moos_post.specs.Words.{is_name}
use Rattle.moos_text.specs.declared.cause.Cause.{Cause}
use Rattle.moos_text.specs.declared.cause.Cause.TheVariants.{B1, B3, B4, B5, B6, B9, B10, B11}
use Rattle.moos_text.specs.declared.pair.PairFault.{PairFault}
use Rattle.moos_text.specs.Pairs.{pair_of, Sides}
use Rattle.moos_text.specs.Refusals.{and_then}
use Rattle.moos_text.proofs.Judging.{and_then_good, cond_good}
use Rattle.moos_text.proofs.PairWords.{pair_is}
use Rattle.helm_cond.specs.Conditions.{HasNames}
use Rattle.helm_cond.specs.Grammar.{condition_of}
use Rattle.helm_cond.proofs.Naming.{names_named}
use Rattle.helm_geo.specs.declared.spot.Spot.{Spot}
use Rattle.helm_geo.specs.Polygons.{are_spots, convex}
use Rattle.bhv_reader.specs.declared.behavior.UnclosedBehavior.{UnclosedBehavior}
use Rattle.bhv_file.specs.declared.file.BhvFile.{BhvFile}
use Rattle.bhv_file.specs.declared.file.Block.{Block}
use Rattle.bhv_file.specs.declared.file.Unused.{Unused}
use Rattle.bhv_file.specs.declared.spec.Shape.{Shape}
use Rattle.bhv_file.specs.declared.spec.Shape.TheVariants.{Heading, Speed, Depth, MaxDepth, Timer, Waypoint, Loiter, StationKeep, OpRegion, AvoidCollision}
use Rattle.bhv_file.specs.declared.table.CommonParameter.{CommonParameter}
use Rattle.bhv_file.specs.declared.table.CommonParameter.TheVariants.{Name, Weight, Condition as OfCondition, RunFlag, IdleFlag, ActiveFlag, InactiveFlag, EndFlag, Updates, Duration, IdleDecay, Perpetual, Templating}
use Rattle.bhv_file.specs.declared.table.Parameter.{Parameter}
use Rattle.bhv_file.specs.Validity.{is_taken, AreBlocks, IsBlock, IsValidFile, serves}
use Rattle.bhv_reader.specs.Blocks.{after_known, behavior_closed, behavior_of_type, BehaviorBlock, block_of, flag_value, flag_with_room, flags_in, if_good, is_unfinished, is_unheard, name_value, of_shape, one_flag, when_good, with_behavior_condition, with_behavior_name, with_block, with_common, with_found, with_parameter, with_sides}
use Rattle.bhv_file.specs.Params.{has_axes, keeps_relations, lacks_places, with_value_of}
use Rattle.bhv_file.specs.Ranges.{are_places, are_vertices, InRanges}
use Rattle.bhv_file.specs.Serving.{suits}
use Rattle.bhv_file.specs.Table.{common_named, defaults_among, defaults_of, is_needed, parameter_of, TypeRow, types}
use Rattle.bhv_file.specs.Values.{duration_of, flag_of, templating_of, time_value, weight_of}
use Rattle.bhv_file.proofs.Ranged.{own_kept, time_within, weight_within}

-- what an unfinished behaviour keeps behind these
pub record IsDraft (blocks : List Block) (behavior : UnclosedBehavior) : Type 0 where
  pub few_conds : length behavior.conds ≤ 64
  pub few_flags : flags_in behavior ≤ 32
  pub lasts : IfSome behavior.duration (λ time. time ≤ 10 ^ 9)
  pub weight : behavior.spec.weight ≤ 10 ^ 7
  pub ranges : InRanges false behavior.spec.shape
  pub named : IfSome behavior.name (λ name. IsTrue (is_name name) × (is_taken blocks name ≡ false))
  pub updates : IfSome behavior.updates (λ name. IsTrue (is_name name))
  pub conds : All HasNames behavior.conds
  pub flags : All IsPair behavior.runflags × (All IsPair behavior.idleflags × (All IsPair behavior.activeflags × (All IsPair behavior.inactiveflags × All IsPair behavior.endflags)))

-- the defaults of each type
AllDefaults : (Shape → Type 0) → List TypeRow → Type 0
AllDefaults P [] = Unit {0}
AllDefaults P (row ∷ rows) = P row.defaults × AllDefaults P rows

some_default : (P : Shape → Type 0) (name : List ℕ) (rows : List TypeRow) → AllDefaults P rows → IfSome (defaults_among name rows) P
unfolding AllDefaults
some_default P name [] all = tt
some_default P name (row ∷ rows) all = at (bytes_eq name row.type) (some_default P name rows all.1)
  where
    at : (b : Bool) → IfSome (defaults_among name rows) P → IfSome (cond b (Some row.defaults) (defaults_among name rows)) P
    at true rest = all.0
    at false rest = rest

defaults_ranged : (name : List ℕ) → IfSome (defaults_of name) (InRanges false)
unfolding AllDefaults
defaults_ranged name =
    some_default (InRanges false) name types
    ((refl, refl, refl, refl), ((refl, refl, refl, refl), ((refl, refl, refl, refl), ((refl, refl), (tt, ((refl, refl, refl, refl, omega arith), ((refl, refl, refl, refl), ((tt, refl, refl, refl), ((tt, tt, tt), ((tt, tt, tt, tt, tt, refl, refl, refl), tt))))))))))

pub begun_drafted : (blocks : List Block) (name : List ℕ) → IfOk (behavior_of_type name) (IsDraft blocks)
begun_drafted blocks [] = tt
begun_drafted blocks (byte ∷ bytes) = at (defaults_of (byte ∷ bytes)) (defaults_ranged (byte ∷ bytes))
  where
    at : (o : Option Shape) → IfSome o (InRanges false) → IfOk (ok_or (option_map of_shape o) B3) (IsDraft blocks)
    at None h = tt
    at (Some shape) h = record { few_conds = omega arith; few_flags = omega arith; lasts = tt; weight = omega arith; ranges = h; named = tt; updates = tt; conds = All-nil HasNames; flags = let none = All-nil IsPair in (none, (none, (none, (none, none)))) }

-- a value that is good for a behaviour
put_good : {A : Type 0} (Q : UnclosedBehavior → Type 0) (put : A → UnclosedBehavior) (o : Option A) → IfSome o (λ a. Q (put a)) → IfOk (if_good put o) Q
put_good Q put None h = tt
put_good Q put (Some a) h = h

anything : {A : Type 0} (P : A → Type 0) (o : Option A) → ((a : A) → P a) → IfSome o P
anything P None h = tt
anything P (Some a) h = h a

some_good : {A E : Type 0} (P : A → Type 0) (o : Option A) (fault : E) → IfSome o P → IfOk (ok_or o fault) P
some_good P None fault h = tt
some_good P (Some a) fault h = h

name_good : (value : List ℕ) → IfOk (name_value value) (λ name. IsTrue (is_name name))
name_good value = cond_good (λ name. IsTrue (is_name name)) (is_name value) (Ok value) (Err B6) (λ is. is) (λ _. tt)

some_weaker : {A : Type 0} (P Q : A → Type 0) (o : Option A) → IfSome o P → ((a : A) → P a → Q a) → IfSome o Q
some_weaker P Q None h weaker = tt
some_weaker P Q (Some a) h weaker = weaker a h

duration_within : (text : List ℕ) → IfSome (duration_of text) (λ duration. IfSome duration (λ time. time ≤ 10 ^ 9))
duration_within text = at (bytes_eq text (codes "no-time-limit")) (time_value text) (time_within text)
  where
    at : (b : Bool) (o : Option ℕ) → IfSome o (λ time. time ≤ 10 ^ 9) → IfSome (cond b (Some None) (option_map (λ time. Some time) o)) (λ duration. IfSome duration (λ time. time ≤ 10 ^ 9))
    at true o h = tt
    at false None h = tt
    at false (Some time) h = h

-- a flag for which there is room
room_left : (behavior : UnclosedBehavior) (value : List ℕ) → IfOk (one_flag behavior value) (λ pair. (flags_in behavior < 32) × IsPair pair)
room_left behavior value =
    and_then_good IsPair (λ pair. (flags_in behavior < 32) × IsPair pair) (flag_with_room behavior) (flag_value (pair_of value)) (flag_good (pair_of value) (pair_is value))
    (λ pair is. cond_good (λ pair. (flags_in behavior < 32) × IsPair pair) (nat_le 32 (flags_in behavior)) (Err B9) (Ok pair) (λ _. tt) (λ room. (leb-false 32 (flags_in behavior) room, is)))
  where
    flag_good : (r : Result Pair PairFault) → IfOk r IsPair → IfOk (flag_value r) IsPair
    flag_good (Ok pair) is = is
    flag_good (Err fault) is = tt

flag_drafted : (blocks : List Block) (behavior : UnclosedBehavior) (value : List ℕ) (put : Pair → UnclosedBehavior) → ((pair : Pair) → flags_in behavior < 32 → IsPair pair → IsDraft blocks (put pair)) → IfOk (and_then (λ pair. Ok (put pair)) (one_flag behavior value)) (IsDraft blocks)
flag_drafted blocks behavior value put good =
    and_then_good (λ pair. (flags_in behavior < 32) × IsPair pair) (IsDraft blocks) (λ pair. Ok (put pair)) (one_flag behavior value) (room_left behavior value) (λ pair is. good pair is.0 is.1)

-- a common parameter more
pub common_drafted : (blocks : List Block) (behavior : UnclosedBehavior) (value : List ℕ) (parameter : CommonParameter) → IsDraft blocks behavior → IfOk (with_common blocks behavior value parameter) (IsDraft blocks)
common_drafted blocks b value Name h =
    and_then_good (λ name. IsTrue (is_name name)) (IsDraft blocks) (with_behavior_name blocks b) (name_value value) (name_good value)
    (λ name is. cond_good (IsDraft blocks) (is_taken blocks name) (Err B4) (Ok (record b { name = Some name })) (λ _. tt)
    (λ free. record { few_conds = h.few_conds; few_flags = h.few_flags; lasts = h.lasts; weight = h.weight; ranges = h.ranges; named = (is, free); updates = h.updates; conds = h.conds; flags = h.flags }))
common_drafted blocks b value Weight h =
    put_good (IsDraft blocks) (λ weight. record b { spec = record b.spec { weight = weight } }) (weight_of value)
    (some_weaker (λ weight. weight ≤ 10 ^ 7) (λ weight. IsDraft blocks (record b { spec = record b.spec { weight = weight } })) (weight_of value) (weight_within value)
    (λ weight in'. record { few_conds = h.few_conds; few_flags = h.few_flags; lasts = h.lasts; weight = in'; ranges = h.ranges; named = h.named; updates = h.updates; conds = h.conds; flags = h.flags }))
common_drafted blocks b value OfCondition h =
    and_then_good HasNames (IsDraft blocks) (with_behavior_condition b) (ok_or (condition_of value) B5) (some_good HasNames (condition_of value) B5 (names_named value))
    (λ one is. cond_good (IsDraft blocks) (nat_le 64 (length b.conds)) (Err B9) (Ok (record b { conds = b.conds ++ one ∷ [] })) (λ _. tt)
    (λ room. let below = leb-false 64 (length b.conds) room in
    record { few_conds = omega (arith, below, length-append b.conds (one ∷ [])); few_flags = h.few_flags; lasts = h.lasts; weight = h.weight; ranges = h.ranges; named = h.named; updates = h.updates; conds = All-push HasNames b.conds one h.conds is; flags = h.flags }))
common_drafted blocks b value RunFlag h =
    flag_drafted blocks b value (λ pair. record b { runflags = b.runflags ++ pair ∷ [] })
    (λ pair room is. record { few_conds = h.few_conds; few_flags = omega (arith, room, length-append b.runflags (pair ∷ [])); lasts = h.lasts; weight = h.weight; ranges = h.ranges; named = h.named; updates = h.updates; conds = h.conds; flags = (All-push IsPair b.runflags pair h.flags.0 is, (h.flags.1.0, (h.flags.1.1.0, (h.flags.1.1.1.0, h.flags.1.1.1.1)))) })
common_drafted blocks b value IdleFlag h =
    flag_drafted blocks b value (λ pair. record b { idleflags = b.idleflags ++ pair ∷ [] })
    (λ pair room is. record { few_conds = h.few_conds; few_flags = omega (arith, room, length-append b.idleflags (pair ∷ [])); lasts = h.lasts; weight = h.weight; ranges = h.ranges; named = h.named; updates = h.updates; conds = h.conds; flags = (h.flags.0, (All-push IsPair b.idleflags pair h.flags.1.0 is, (h.flags.1.1.0, (h.flags.1.1.1.0, h.flags.1.1.1.1)))) })
common_drafted blocks b value ActiveFlag h =
    flag_drafted blocks b value (λ pair. record b { activeflags = b.activeflags ++ pair ∷ [] })
    (λ pair room is. record { few_conds = h.few_conds; few_flags = omega (arith, room, length-append b.activeflags (pair ∷ [])); lasts = h.lasts; weight = h.weight; ranges = h.ranges; named = h.named; updates = h.updates; conds = h.conds; flags = (h.flags.0, (h.flags.1.0, (All-push IsPair b.activeflags pair h.flags.1.1.0 is, (h.flags.1.1.1.0, h.flags.1.1.1.1)))) })
common_drafted blocks b value InactiveFlag h =
    flag_drafted blocks b value (λ pair. record b { inactiveflags = b.inactiveflags ++ pair ∷ [] })
    (λ pair room is. record { few_conds = h.few_conds; few_flags = omega (arith, room, length-append b.inactiveflags (pair ∷ [])); lasts = h.lasts; weight = h.weight; ranges = h.ranges; named = h.named; updates = h.updates; conds = h.conds; flags = (h.flags.0, (h.flags.1.0, (h.flags.1.1.0, (All-push IsPair b.inactiveflags pair h.flags.1.1.1.0 is, h.flags.1.1.1.1)))) })
common_drafted blocks b value EndFlag h =
    flag_drafted blocks b value (λ pair. record b { endflags = b.endflags ++ pair ∷ [] })
    (λ pair room is. record { few_conds = h.few_conds; few_flags = omega (arith, room, length-append b.endflags (pair ∷ [])); lasts = h.lasts; weight = h.weight; ranges = h.ranges; named = h.named; updates = h.updates; conds = h.conds; flags = (h.flags.0, (h.flags.1.0, (h.flags.1.1.0, (h.flags.1.1.1.0, All-push IsPair b.endflags pair h.flags.1.1.1.1 is)))) })
common_drafted blocks b value Updates h =
    and_then_good (λ name. IsTrue (is_name name)) (IsDraft blocks) (λ name. Ok (record b { updates = Some name })) (name_value value) (name_good value)
    (λ name is. record { few_conds = h.few_conds; few_flags = h.few_flags; lasts = h.lasts; weight = h.weight; ranges = h.ranges; named = h.named; updates = is; conds = h.conds; flags = h.flags })
common_drafted blocks b value Duration h =
    put_good (IsDraft blocks) (λ time. record b { duration = time }) (duration_of value)
    (some_weaker (λ duration. IfSome duration (λ time. time ≤ 10 ^ 9)) (λ time. IsDraft blocks (record b { duration = time })) (duration_of value) (duration_within value)
    (λ time in'. record { few_conds = h.few_conds; few_flags = h.few_flags; lasts = in'; weight = h.weight; ranges = h.ranges; named = h.named; updates = h.updates; conds = h.conds; flags = h.flags }))
common_drafted blocks b value IdleDecay h =
    put_good (IsDraft blocks) (λ flag. record b { idle_decay = flag }) (flag_of value)
    (anything (λ flag. IsDraft blocks (record b { idle_decay = flag })) (flag_of value) (λ flag. record { few_conds = h.few_conds; few_flags = h.few_flags; lasts = h.lasts; weight = h.weight; ranges = h.ranges; named = h.named; updates = h.updates; conds = h.conds; flags = h.flags }))
common_drafted blocks b value Perpetual h =
    put_good (IsDraft blocks) (λ flag. record b { perpetual = flag }) (flag_of value)
    (anything (λ flag. IsDraft blocks (record b { perpetual = flag })) (flag_of value) (λ flag. record { few_conds = h.few_conds; few_flags = h.few_flags; lasts = h.lasts; weight = h.weight; ranges = h.ranges; named = h.named; updates = h.updates; conds = h.conds; flags = h.flags }))
common_drafted blocks b value Templating h =
    put_good (IsDraft blocks) (λ flag. record b { template = flag }) (templating_of value)
    (anything (λ flag. IsDraft blocks (record b { template = flag })) (templating_of value) (λ flag. record { few_conds = h.few_conds; few_flags = h.few_flags; lasts = h.lasts; weight = h.weight; ranges = h.ranges; named = h.named; updates = h.updates; conds = h.conds; flags = h.flags }))

-- a parameter of its type more
parameter_drafted : (blocks : List Block) (b : UnclosedBehavior) (value : List ℕ) (parameter : Parameter) → IsDraft blocks b → IfSome (with_value_of b.spec.shape parameter value) (InRanges false) → IfOk (with_parameter b value parameter) (IsDraft blocks)
parameter_drafted blocks b value parameter h in' =
    put_good (IsDraft blocks) (λ shape. record b { spec = record b.spec { shape = shape }; given = b.given || is_needed parameter }) (with_value_of b.spec.shape parameter value)
    (some_weaker (InRanges false) (λ shape. IsDraft blocks (record b { spec = record b.spec { shape = shape }; given = b.given || is_needed parameter })) (with_value_of b.spec.shape parameter value) in'
    (λ shape ranges. record { few_conds = h.few_conds; few_flags = h.few_flags; lasts = h.lasts; weight = h.weight; ranges = ranges; named = h.named; updates = h.updates; conds = h.conds; flags = h.flags }))

known_drafted : (blocks : List Block) (b : UnclosedBehavior) (value : List ℕ) (common : Option CommonParameter) (own : Option Parameter) → IsDraft blocks b → IfSome own (λ parameter. IfSome (with_value_of b.spec.shape parameter value) (InRanges false)) → IfSome (with_found blocks b value common own) (λ known. IfOk known (IsDraft blocks))
known_drafted blocks b value (Some common) own h in' = common_drafted blocks b value common h
known_drafted blocks b value None (Some own) h in' = parameter_drafted blocks b value own h in'
known_drafted blocks b value None None h in' = tt

-- an unfinished behaviour behind a good file
pub record IsSoundBehavior (domain : List Axis) (block : BehaviorBlock) : Type 0 where
  pub file : IsValidFile block.file
  pub served : serves domain block.file.blocks ≡ true
  pub draft : IsDraft block.file.blocks block.behavior

after_sound : (domain : List Axis) (block : BehaviorBlock) (line : ℕ) (name : List ℕ) (known : Option (Result UnclosedBehavior Cause)) → IsTrue (is_name name) → IsSoundBehavior domain block → IfSome known (λ r. IfOk r (IsDraft block.file.blocks)) → IfOk (after_known block line name known) (IsSoundBehavior domain)
after_sound domain block line name None is sound h = record {
  file = record {
    opening = sound.file.opening;
    unused = All-push (λ (unused : Unused). IsTrue (is_name unused.name)) block.file.unused (record { line = line; name = name }) sound.file.unused is;
    few_pairs = sound.file.few_pairs;
    few_decls = sound.file.few_decls;
    decls = sound.file.decls;
    few_blocks = sound.file.few_blocks;
    blocks = sound.file.blocks;
  };
  served = sound.served;
  draft = sound.draft;
}
after_sound domain block line name (Some (Err cause)) is sound h = tt
after_sound domain block line name (Some (Ok behavior)) is sound h = record { file = sound.file; served = sound.served; draft = h }

pub line_sound : (domain : List Axis) (block : BehaviorBlock) (line : ℕ) (sides : Option Sides) → IsSoundBehavior domain block → IfOk (with_sides block line sides) (IsSoundBehavior domain)
line_sound domain block line None sound = tt
line_sound domain block line (Some sides) sound =
    cond_good (IsSoundBehavior domain) (is_name sides.name) (after_known block line sides.name known) (Err B1) (λ is. after_sound domain block line sides.name known is sound
    (known_drafted block.file.blocks block.behavior sides.value (common_named sides.name) (parameter_of block.behavior.spec.shape sides.name) sound.draft (own_kept false block.behavior.spec.shape sides.name sides.value sound.draft.ranges))) (λ _. tt)
  where
    known : Option (Result UnclosedBehavior Cause)
    known = with_found block.file.blocks block.behavior sides.value (common_named sides.name) (parameter_of block.behavior.spec.shape sides.name)

-- places that needn't be given, but are
given_places : (spot : Spot) (spots : List Spot) → are_places false (spot ∷ spots) ≡ true → are_places true (spot ∷ spots) ≡ true
given_places spot spots h =
    let many = length (spot ∷ spots) in
    let some : nat_le 1 many ≡ true = le-leb 1 many (omega arith) in
    let parts = and_parts ((nat_le 1 many || true) && nat_le many 64) (are_spots (spot ∷ spots)) h in
    and_from ((nat_le 1 many || false) && nat_le many 64) (are_spots (spot ∷ spots)) (and_from (nat_le 1 many || false) (nat_le many 64) (rw some refl) (and_parts (nat_le 1 many || true) (nat_le many 64) parts.0).1) parts.1

given_vertices : (spot : Spot) (spots : List Spot) → are_vertices false (spot ∷ spots) ≡ true → are_vertices true (spot ∷ spots) ≡ true
given_vertices spot spots h =
    at (convex (spot ∷ spots)) (are_spots (spot ∷ spots)) (nat_le (length (spot ∷ spots)) 0) (lt-leb (length (spot ∷ spots)) 0 (omega arith)) h
  where
    at : (b rest none : Bool) → none ≡ false → ((b || (true && none)) && rest) ≡ true → ((b || (false && none)) && rest) ≡ true
    at true rest none e h = h
    at false rest true e h = absurd cc
    at false rest false e h = absurd cc

-- what is in its ranges and lacks no places
pub whole_ranges : (shape : Shape) → InRanges false shape → lacks_places shape ≡ false → InRanges true shape
whole_ranges (Heading a b c d) h given = h
whole_ranges (Speed a b c d) h given = h
whole_ranges (Depth a b c d) h given = h
whole_ranges (MaxDepth a b) h given = h
whole_ranges Timer h given = h
whole_ranges (Waypoint [] b c d e f) h given = absurd cc
whole_ranges (Waypoint (spot ∷ spots) b c d e f) h given = (given_places spot spots h.0, h.1, h.2, h.3, h.4)
whole_ranges (Loiter [] b c d e) h given = absurd cc
whole_ranges (Loiter (spot ∷ spots) b c d e) h given = (given_vertices spot spots h.0, h.1, h.2, h.3)
whole_ranges (StationKeep a b c d e) h given = h
whole_ranges (OpRegion a b c) h given = h
whole_ranges (AvoidCollision a) h given = h

-- one behaviour more
blocks_more : (earlier blocks : List Block) (new : Block) → AreBlocks earlier blocks → IsBlock (earlier ++ blocks) new → AreBlocks earlier (blocks ++ new ∷ [])
blocks_more earlier [] new are is = (subst (λ all. IsBlock all new) (append-nil earlier) is, tt)
blocks_more earlier (block ∷ blocks) new are is = (are.0, blocks_more (earlier ++ block ∷ []) blocks new are.1 (subst (λ all. IsBlock all new) (sym (append_assoc earlier (block ∷ []) blocks)) is))

-- a domain serves one behaviour
abbrev serves_one : List Axis → Block → Bool
serves_one domain block = has_axes domain block.spec.shape && suits domain block.spec.shape

serves_more : (domain : List Axis) (blocks : List Block) (new : Block) → serves domain blocks ≡ true → serves_one domain new ≡ true → serves domain (blocks ++ new ∷ []) ≡ true
serves_more domain [] new all one = and_from (serves_one domain new) true one refl
serves_more domain (block ∷ blocks) new all one =
    let both = and_parts (serves_one domain block) (serves domain blocks) all in
    and_from (serves_one domain block) (serves domain (blocks ++ new ∷ [])) both.0 (serves_more domain blocks new both.1 one)

-- a file over a domain with the axes that its behaviours need
pub record IsSoundFile (domain : List Axis) (file : BhvFile) : Type 0 where
  pub valid : IsValidFile file
  pub served : serves domain file.blocks ≡ true

-- the flags of all kinds, one kind behind the other
flags_all : (a b c d e : List Pair) → All IsPair a × (All IsPair b × (All IsPair c × (All IsPair d × All IsPair e))) → All IsPair (a ++ (b ++ (c ++ (d ++ e))))
flags_all a b c d e h = All-append IsPair a (b ++ (c ++ (d ++ e))) h.0 (All-append IsPair b (c ++ (d ++ e)) h.1.0 (All-append IsPair c (d ++ e) h.1.1.0 (All-append IsPair d e h.1.1.1.0 h.1.1.1.1)))

flags_counted : (a b c d e : List Pair) → length (a ++ (b ++ (c ++ (d ++ e)))) ≡ length a + length b + length c + length d + length e
flags_counted a b c d e = omega (arith, length-append a (b ++ (c ++ (d ++ e))), length-append b (c ++ (d ++ e)), length-append c (d ++ e), length-append d e)

-- a template that isn't unheard has `updates`
heard_from : (template : Bool) (updates : Option (List ℕ)) → (template && is_none updates) ≡ false → template ≡ true → is_some updates ≡ true
heard_from true None heard is = absurd (let e : true ≡ false = heard in cc)
heard_from true (Some name) heard is = refl
heard_from false updates heard is = absurd (let e : false ≡ true = is in cc)

added_sound : (domain : List Axis) (block : BehaviorBlock) (name : Option (List ℕ)) → IsSoundBehavior domain block → block.behavior.name ≡ name → is_unheard block.behavior ≡ false → lacks_places block.behavior.spec.shape ≡ false → keeps_relations block.behavior.spec.shape ≡ true → has_axes domain block.behavior.spec.shape ≡ true → suits domain block.behavior.spec.shape ≡ true → IfOk (with_block block name) (IsSoundFile domain)
added_sound domain block None sound named heard given relations axes suited = tt
added_sound domain block (Some name) sound named heard given relations axes suited =
    cond_good (IsSoundFile domain) (nat_le 64 (length block.file.blocks)) (Err B9) (Ok (record block.file { blocks = block.file.blocks ++ new ∷ [] })) (λ _. tt)
    (λ room. let below = leb-false 64 (length block.file.blocks) room in
    record {
      valid = record {
        opening = sound.file.opening;
        unused = sound.file.unused;
        few_pairs = sound.file.few_pairs;
        few_decls = sound.file.few_decls;
        decls = sound.file.decls;
        few_blocks = omega (arith, below, length-append block.file.blocks (new ∷ []));
        blocks = blocks_more [] block.file.blocks new sound.file.blocks is;
      };
      served = serves_more domain block.file.blocks new sound.served (and_from (has_axes domain new.spec.shape) (suits domain new.spec.shape) axes suited);
    })
  where
    new : Block
    new = block_of block.behavior name

    free : IsTrue (is_name name) × (is_taken block.file.blocks name ≡ false)
    free = subst (λ o. IfSome o (λ n. IsTrue (is_name n) × (is_taken block.file.blocks n ≡ false))) named sound.draft.named

    b : UnclosedBehavior
    b = block.behavior

    is : IsBlock block.file.blocks new
    is = record {
      common = record {
        name = free.0;
        updates = sound.draft.updates;
        conds = sound.draft.conds;
        flags = flags_all b.runflags b.idleflags b.activeflags b.inactiveflags b.endflags sound.draft.flags;
        few_conds = sound.draft.few_conds;
        few_flags = omega (arith, sound.draft.few_flags, flags_counted b.runflags b.idleflags b.activeflags b.inactiveflags b.endflags);
        lasts = sound.draft.lasts;
        heard = heard_from b.template b.updates heard;
      };
      spec = record { ranges = record { weight = sound.draft.weight; parameters = whole_ranges block.behavior.spec.shape sound.draft.ranges given }; given = given; relations = relations };
      named = free.1;
    }

third_false : (a b c d : Bool) → (a || b || c || d) ≡ false → c ≡ false
third_false true b c d h = absurd cc
third_false false true c d h = absurd cc
third_false false false true d h = absurd cc
third_false false false false d h = refl

last_false : (a b c d : Bool) → (a || b || c || d) ≡ false → d ≡ false
last_false true b c d h = absurd cc
last_false false true c d h = absurd cc
last_false false false true d h = absurd cc
last_false false false false d h = h

good_sound : (domain : List Axis) (block : BehaviorBlock) (unfinished relations suited axes : Bool) → IsSoundBehavior domain block → is_unfinished block.behavior ≡ unfinished → keeps_relations block.behavior.spec.shape ≡ relations
    → suits domain block.behavior.spec.shape ≡ suited → has_axes domain block.behavior.spec.shape ≡ axes
    → IfOk (when_good block (cond unfinished (Some B11) (cond (not (relations && suited)) (Some B6) (cond (not axes) (Some B10) None)))) (IsSoundFile domain)
good_sound domain block true relations suited axes sound u r s a = tt
good_sound domain block false false suited axes sound u r s a = tt
good_sound domain block false true false axes sound u r s a = tt
good_sound domain block false true true false sound u r s a = tt
good_sound domain block false true true true sound u r s a = added_sound domain block block.behavior.name sound refl (third_false (is_none block.behavior.name) (not block.behavior.given) (is_unheard block.behavior) (lacks_places block.behavior.spec.shape) u)
    (last_false (is_none block.behavior.name) (not block.behavior.given) (is_unheard block.behavior) (lacks_places block.behavior.spec.shape) u) r a s

pub behavior_sound : (domain : List Axis) (block : BehaviorBlock) (behind : List ℕ) → IsSoundBehavior domain block → IfOk (behavior_closed domain block behind) (IsSoundFile domain)
behavior_sound domain block [] sound =
    good_sound domain block (is_unfinished block.behavior) (keeps_relations block.behavior.spec.shape) (suits domain block.behavior.spec.shape) (has_axes domain block.behavior.spec.shape) sound refl refl refl refl
behavior_sound domain block (byte ∷ bytes) sound = tt
