-- Every behaviour file that is read is valid.
use Rattle.std.proofs.Common.{◌≡◌, ℕ, suc, ◌+◌, ◌<◌, ◌≤◌, Bool, true, false, ◌&&◌, ◌||◌, cond, not, nat_le, List, [], ◌∷◌, ◌++◌, length, Option, Some, None, refl, sym, ap, subst, ◌∙◌, arith, length-append, append_assoc, append-nil, codes, bytes_eq}
use Rattle.std.specs.Prelude.{Result, Ok, Err, IfOk, IfSome, IsTrue, is_some, reverse}
use Rattle.std.specs.List.{All}
use Rattle.std.specs.Option.{option_or}
use Rattle.std.proofs.lemmas.Bool.{and_from, and_parts, leb-false}
use Rattle.std.proofs.lemmas.List.Elements.{All-nil, All-push}
use Rattle.ivp_domain.specs.declared.axis.Axis.{Axis}
use Rattle.moos_post.specs.declared.value.Pair.{Pair}
use Rattle.moos_post.specs.declared.value.Value.{Value}
use Rattle.moos_post.specs.declared.value.Value.TheVariants.{Num, Text}
use Rattle.moos_post.specs.Entries.{IsPair}
use Rattle.moos_post.specs.Words.{is_name}
use Rattle.moos_post.proofs.Texts.{bytes_eq_comm}
use Rattle.moos_text.specs.declared.cause.Cause.{Cause}
use Rattle.moos_text.specs.declared.cause.Cause.TheVariants.{B1, B5, B9}
use Rattle.moos_text.specs.declared.pair.PairFault.{PairFault}
use Rattle.moos_text.specs.Lines.{behind_word}
use Rattle.moos_text.specs.Pairs.{pair_of, Sides, sides_of}
use Rattle.moos_text.specs.Sections.{Statement}
use Rattle.moos_text.specs.Refusals.{and_then}
use Rattle.moos_text.proofs.Judging.{and_then_good, cond_good, file_good, Keeps}
use Rattle.moos_text.proofs.PairWords.{pair_is}
use Rattle.helm_cond.specs.declared.comparison.Comparison.{Comparison}
use Rattle.helm_cond.specs.declared.operator.Operator.{Operator}
use Rattle.helm_cond.specs.declared.operator.Operator.TheVariants.{Equal, Unequal, Below, AtMost, Above, AtLeast}
use Rattle.helm_cond.specs.Conditions.{And, Compare, Condition, HasNames, is_of_mode, mode_names, mode_named, Not, Or, parent_of}
use Rattle.helm_cond.specs.Grammar.{condition_of}
use Rattle.helm_cond.proofs.Naming.{names_named}
use Rattle.bhv_file.specs.declared.decl.Decl.{Decl}
use Rattle.bhv_file.specs.declared.file.BhvFile.{BhvFile}
use Rattle.bhv_file.specs.declared.file.Unused.{Unused}
use Rattle.bhv_file.specs.Validity.{fits_mode, has_parent_line, names_mode, AreDecls, fit_mode, IsDecl, IsValidFile, parent_line, parent_said, serves}
use Rattle.bhv_file.specs.Paths.{the_one, meant_by, named_from, parent_path, paths_of}
use Rattle.bhv_reader.specs.Behaviors.{after_condition, begins_by, behavior_begun, behavior_form, behaviors_of, block_closed, behind_close, block_begun, line_outside, mode_begun, ModeBlock, named_by, OfBehavior, OfMode, OpenBlock, nothing_said, other_of, with_condition, with_decl, with_block_line, with_opening, with_parent}
use Rattle.bhv_reader.specs.Blocks.{behavior_of_type, with_sides}
use Rattle.bhv_reader.proofs.Blocked.{begun_drafted, behavior_sound, IsDraft, IsSoundBehavior, IsSoundFile, line_sound}
use Rattle.bhv_reader.proofs.PathsAt.{length-paths_of}

-- an unfinished declaration behind a valid file
pub record IsSound (block : ModeBlock) : Type 0 where
  file : IsValidFile block.file
  name : IsTrue (is_name block.name)
  conds : All HasNames block.conds
  few : length block.conds ≤ 64
  fit : fit_mode [] block.conds ≡ true
  parent : parent_said block.file.decls (parent_line block.conds) ≡ Ok block.parent
  before : IfSome block.parent (λ parent. parent < length block.file.decls)
  short : length (parent_path (paths_of block.file.decls) block.parent) < 16

opening_sound : (file : BhvFile) (pair : Result Pair PairFault) → IfOk pair IsPair → IsValidFile file → IfOk (with_opening file pair) IsValidFile
opening_sound file (Err fault) is valid = tt
opening_sound file (Ok pair) is valid =
    cond_good IsValidFile (nat_le 256 (length file.opening)) (Err B9) (Ok (record file { opening = file.opening ++ pair ∷ [] })) (λ _. tt)
    (λ room.
    let below = leb-false 256 (length file.opening) room in
    record {
      opening = All-push IsPair file.opening pair valid.opening is;
      unused = valid.unused;
      few_pairs = omega (arith, below, length-append file.opening (pair ∷ []));
      few_decls = valid.few_decls;
      decls = valid.decls;
      few_blocks = valid.few_blocks;
      blocks = valid.blocks;
    })

outside_sound : (file : BhvFile) (text : List ℕ) → IsValidFile file → IfOk (line_outside file text) IsValidFile
outside_sound file text valid =
    cond_good IsValidFile (begins_by (codes "initialize") text) (with_opening file (pair_of (behind_word text))) (Err B1) (λ _. opening_sound file (pair_of (behind_word text)) (pair_is (behind_word text)) valid) (λ _. tt)

-- an unfinished declaration behind a file that its domain serves
abbrev pub IsSoundMode : List Axis → ModeBlock → Type 0
IsSoundMode domain block = IsSound block × (serves domain block.file.blocks ≡ true)

mode_sound : (domain : List Axis) (file : BhvFile) (sides : Option Sides) → IsSoundFile domain file → IfOk (mode_begun file sides) (IsSoundMode domain)
mode_sound domain file None sound = tt
mode_sound domain file (Some sides) sound =
    cond_good (IsSoundMode domain) (bytes_eq sides.name (codes "MODE") && is_name (named_by sides)) (Ok (record { file = file; name = named_by sides; parent = None; conds = [] })) (Err B1)
    (λ is. (record { file = sound.valid; name = (and_parts (bytes_eq sides.name (codes "MODE")) (is_name (named_by sides)) is).1; conds = All-nil HasNames; few = omega arith; fit = refl; parent = refl; before = tt; short = omega arith }, sound.served)) (λ _. tt)

-- one condition more fits behind those that do
fit_more : (before conds : List Condition) (more : Condition) → fit_mode before conds ≡ true → fits_mode (before ++ conds) more ≡ true → fit_mode before (conds ++ more ∷ []) ≡ true
fit_more before [] more fit fits = and_from (fits_mode before more) true (ap (λ all. fits_mode all more) (sym (append-nil before)) ∙ fits) refl
fit_more before (first ∷ conds) more fit fits =
    let both = and_parts (fits_mode before first) (fit_mode (before ++ first ∷ []) conds) fit in
    and_from (fits_mode before first) (fit_mode (before ++ first ∷ []) (conds ++ more ∷ [])) both.0
    (fit_more (before ++ first ∷ []) conds more both.1 (ap (λ all. fits_mode all more) (append_assoc before (first ∷ []) conds) ∙ fits))

-- no parent line more
line_kept : (conds : List Condition) (more : Condition) → parent_of more ≡ None → parent_line (conds ++ more ∷ []) ≡ parent_line conds
line_kept [] more none = rw none refl
line_kept (first ∷ conds) more none = ap (option_or (parent_of first)) (line_kept conds more none)

-- the only parent line
line_new : (conds : List Condition) (more : Condition) (literal : Value) → has_parent_line conds ≡ false → parent_of more ≡ Some literal → parent_line (conds ++ more ∷ []) ≡ Some literal
line_new [] more literal none is = rw is refl
line_new (first ∷ conds) more literal none is = at (parent_of first) (line_new conds more literal) none
  where
    at : (o : Option Value) → (has_parent_line conds ≡ false → parent_of more ≡ Some literal → parent_line (conds ++ more ∷ []) ≡ Some literal) → (is_some o || has_parent_line conds) ≡ false → option_or o (parent_line (conds ++ more ∷ [])) ≡ Some literal
    at None rest h = rest h is
    at (Some other) rest h = absurd cc

-- a parent line names the mode
names_by : (comparison : Comparison) (operator : Operator) (literal : Value) → mode_named comparison operator ≡ Some literal → is_of_mode comparison ≡ true
names_by comparison Equal literal is = at (is_of_mode comparison) is
  where
    at : (b : Bool) → cond b (Some comparison.literal) None ≡ Some literal → b ≡ true
    at true e = refl
    at false e = absurd cc
names_by comparison Unequal literal is = absurd cc
names_by comparison Below literal is = absurd cc
names_by comparison AtMost literal is = absurd cc
names_by comparison Above literal is = absurd cc
names_by comparison AtLeast literal is = absurd cc

line_names : (one : Condition) (literal : Value) → parent_of one ≡ Some literal → names_mode one ≡ true
line_names (Compare comparison) literal is =
    let same : bytes_eq (codes "MODE") comparison.var ≡ true = bytes_eq_comm (codes "MODE") comparison.var ∙ names_by comparison comparison.operator literal is in
    rw same refl
line_names (Not one) literal is = absurd cc
line_names (And one other) literal is = absurd cc
line_names (Or one other) literal is = absurd cc

-- so it is the only one where it fits
only_line : (conds : List Condition) (more : Condition) (literal : Value) → fits_mode conds more ≡ true → parent_of more ≡ Some literal → has_parent_line conds ≡ false
only_line conds more literal fits is = at (names_mode more) (is_some (parent_of more)) (has_parent_line conds) (line_names more literal is) fits
  where
    at : (names line has : Bool) → names ≡ true → (not names || (line && not has)) ≡ true → has ≡ false
    at true true true e h = absurd cc
    at true false has e h = absurd cc
    at true true false e h = refl
    at false line has e h = absurd cc

-- numbers below a bound
AllBelow : ℕ → List ℕ → Type 0
AllBelow bound [] = Unit {0}
AllBelow bound (number ∷ numbers) = (number < bound) × AllBelow bound numbers

named_below : (number bound : ℕ) (names : List (List ℕ)) (paths : List (List (List ℕ))) → number + length paths ≤ bound → AllBelow bound (named_from number names paths)
unfolding AllBelow
named_below number bound names [] within = tt
named_below number bound names (path ∷ paths) within = at (begins names path) (named_below (suc number) bound names paths (omega arith))
  where
    begins : List (List ℕ) → List (List ℕ) → Bool
    begins xs ys = Rattle.helm_cond.specs.Conditions.begins_with xs ys

    at : (b : Bool) → AllBelow bound (named_from (suc number) names paths) → AllBelow bound (cond b (number ∷ named_from (suc number) names paths) (named_from (suc number) names paths))
    at true rest = (omega arith, rest)
    at false rest = rest

one_below : (bound : ℕ) (numbers : List ℕ) → AllBelow bound numbers → IfOk (the_one numbers) (λ number. number < bound)
unfolding AllBelow
one_below bound [] below = tt
one_below bound (number ∷ []) below = below.0
one_below bound (number ∷ more ∷ rest) below = tt

pub meant_below : (decls : List Decl) (literal : Value) → IfOk (the_one (meant_by decls literal)) (λ number. number < length decls)
meant_below decls (Num number) = tt
meant_below decls (Text text) =
    one_below (length decls) (meant_by decls (Text text)) (named_below 0 (length decls) (reverse (mode_names text)) (paths_of decls) (omega (arith, length-paths_of [] decls)))

-- one condition more
after_sound : (block : ModeBlock) (one : Condition) (o : Option Value) → IsSound block → HasNames one → fits_mode block.conds one ≡ true → length block.conds < 64 → parent_of one ≡ o → IfOk (after_condition (record block { conds = block.conds ++ one ∷ [] }) o) IsSound
after_sound block one None sound named fits few is = record {
  file = sound.file;
  name = sound.name;
  conds = All-push HasNames block.conds one sound.conds named;
  few = omega (arith, few, length-append block.conds (one ∷ []));
  fit = fit_more [] block.conds one sound.fit fits;
  parent = ap (parent_said block.file.decls) (line_kept block.conds one is) ∙ sound.parent;
  before = sound.before;
  short = sound.short;
}
after_sound block one (Some literal) sound named fits few is = at (the_one (meant_by block.file.decls literal)) refl (meant_below block.file.decls literal)
  where
    at : (r : Result ℕ Cause) → the_one (meant_by block.file.decls literal) ≡ r → IfOk r (λ number. number < length block.file.decls) → IfOk (and_then (with_parent (record block { conds = block.conds ++ one ∷ [] })) r) IsSound
    at (Err cause) e below = tt
    at (Ok number) e below =
        cond_good IsSound (nat_le 16 (length (parent_path (paths_of block.file.decls) (Some number)))) (Err B9) (Ok (record block { conds = block.conds ++ one ∷ []; parent = Some number })) (λ _. tt)
        (λ room. record {
          file = sound.file;
          name = sound.name;
          conds = All-push HasNames block.conds one sound.conds named;
          few = omega (arith, few, length-append block.conds (one ∷ []));
          fit = fit_more [] block.conds one sound.fit fits;
          parent = ap (parent_said block.file.decls) (line_new block.conds one literal (only_line block.conds one literal fits is) is) ∙ ap (and_then (λ n. Ok (Some n))) e;
          before = below;
          short = leb-false 16 (length (parent_path (paths_of block.file.decls) (Some number))) room;
        })

not_true : (b : Bool) → not b ≡ false → b ≡ true
not_true true e = refl
not_true false e = absurd cc

condition_sound : (block : ModeBlock) (cond : Option Condition) → IfSome cond HasNames → IsSound block → IfOk (with_condition block cond) IsSound
condition_sound block None named sound = tt
condition_sound block (Some one) named sound =
    cond_good IsSound (not (fits_mode block.conds one)) (Err B5) behind (λ _. tt)
    (λ fits. cond_good IsSound (nat_le 64 (length block.conds)) (Err B9) (after_condition (record block { conds = block.conds ++ one ∷ [] }) (parent_of one)) (λ _. tt)
    (λ room. after_sound block one (parent_of one) sound named (not_true (fits_mode block.conds one) fits) (leb-false 64 (length block.conds) room) refl))
  where
    behind : Result ModeBlock Cause
    behind = cond (nat_le 64 (length block.conds)) (Err B9) (after_condition (record block { conds = block.conds ++ one ∷ [] }) (parent_of one))

-- one declaration more
decls_more : (earlier decls : List Decl) (new : Decl) → AreDecls earlier decls → IsDecl (earlier ++ decls) new → AreDecls earlier (decls ++ new ∷ [])
decls_more earlier [] new are is = (subst (λ all. IsDecl all new) (append-nil earlier) is, tt)
decls_more earlier (decl ∷ decls) new are is = (are.0, decls_more (earlier ++ decl ∷ []) decls new are.1 (subst (λ all. IsDecl all new) (sym (append_assoc earlier (decl ∷ []) decls)) is))

anything : {A E : Type 0} (r : Result A E) → IfOk r (λ value. Unit {0})
anything (Ok value) = tt
anything (Err fault) = tt

abbrev IsOther : Option (List ℕ) → Type 0
IsOther other = IfSome other (λ name. IsTrue (is_name name))

other_good : (text : List ℕ) → IfOk (other_of text) IsOther
other_good [] = tt
other_good (byte ∷ bytes) = cond_good IsOther (is_name (byte ∷ bytes)) (Ok (Some (byte ∷ bytes))) (Err B1) (λ is. is) (λ _. tt)

close_sound : (block : ModeBlock) (text : List ℕ) → IsSound block → IfOk (and_then (with_decl block) (other_of text)) IsValidFile
close_sound block text sound =
    and_then_good IsOther IsValidFile (with_decl block) (other_of text) (other_good text)
    (λ other is. cond_good IsValidFile (nat_le 256 (length block.file.decls)) (Err B9)
    (Ok (record block.file { decls = block.file.decls ++ record { name = block.name; parent = block.parent; conds = block.conds; other = other } ∷ [] })) (λ _. tt)
    (λ room.
    let below = leb-false 256 (length block.file.decls) room in
    let new : Decl = record { name = block.name; parent = block.parent; conds = block.conds; other = other } in
    record {
      opening = sound.file.opening;
      unused = sound.file.unused;
      few_pairs = sound.file.few_pairs;
      few_decls = omega (arith, below, length-append block.file.decls (new ∷ []));
      few_blocks = sound.file.few_blocks;
      blocks = sound.file.blocks;
      decls = decls_more [] block.file.decls new sound.file.decls (record { name = sound.name; other = is; conds = sound.conds; few = sound.few; fit = sound.fit; parent = sound.parent; before = sound.before; short = sound.short });
    }))

-- an unfinished block behind a good file
abbrev pub IsSoundBlock : List Axis → OpenBlock → Type 0
IsSoundBlock domain (OfMode block) = IsSoundMode domain block
IsSoundBlock domain (OfBehavior block) = IsSoundBehavior domain block

both_ok : {A E : Type 0} (P Q : A → Type 0) (r : Result A E) → IfOk r P → IfOk r Q → IfOk r (λ a. P a × Q a)
both_ok P Q (Err fault) p q = tt
both_ok P Q (Ok a) p q = (p, q)

if_ok : {A E : Type 0} (P Q : A → Type 0) (r : Result A E) → IfOk r P → ((a : A) → P a → Q a) → IfOk r Q
if_ok P Q (Err fault) h good = tt
if_ok P Q (Ok a) h good = good a h

-- a condition changes nothing before the block
parent_served : (domain : List Axis) (block : ModeBlock) (o : Option Value) → serves domain block.file.blocks ≡ true → IfOk (after_condition block o) (λ more. serves domain more.file.blocks ≡ true)
parent_served domain block None served = served
parent_served domain block (Some literal) served =
    and_then_good (λ number. Unit {0}) (λ more. serves domain more.file.blocks ≡ true) (with_parent block) (the_one (meant_by block.file.decls literal)) (anything (the_one (meant_by block.file.decls literal)))
    (λ number any. cond_good (λ more. serves domain more.file.blocks ≡ true) (nat_le 16 (length (parent_path (paths_of block.file.decls) (Some number)))) (Err B9) (Ok (record block { parent = Some number })) (λ _. tt) (λ _. served))

condition_served : (domain : List Axis) (block : ModeBlock) (said : Option Condition) → serves domain block.file.blocks ≡ true → IfOk (with_condition block said) (λ more. serves domain more.file.blocks ≡ true)
condition_served domain block None served = tt
condition_served domain block (Some one) served =
    cond_good (λ more. serves domain more.file.blocks ≡ true) (not (fits_mode block.conds one)) (Err B5) (cond (nat_le 64 (length block.conds)) (Err B9) (after_condition (record block { conds = block.conds ++ one ∷ [] }) (parent_of one))) (λ _. tt)
    (λ fits. cond_good (λ more. serves domain more.file.blocks ≡ true) (nat_le 64 (length block.conds)) (Err B9) (after_condition (record block { conds = block.conds ++ one ∷ [] }) (parent_of one)) (λ _. tt)
    (λ room. parent_served domain (record block { conds = block.conds ++ one ∷ [] }) (parent_of one) served))

-- nor does the end of a mode, or an opening pair
decl_served : (domain : List Axis) (block : ModeBlock) (other : Result (Option (List ℕ)) Cause) → serves domain block.file.blocks ≡ true → IfOk (and_then (with_decl block) other) (λ file. serves domain file.blocks ≡ true)
decl_served domain block (Err cause) served = tt
decl_served domain block (Ok other) served =
    cond_good (λ file. serves domain file.blocks ≡ true) (nat_le 256 (length block.file.decls)) (Err B9)
    (Ok (record block.file { decls = block.file.decls ++ record { name = block.name; parent = block.parent; conds = block.conds; other = other } ∷ [] })) (λ _. tt) (λ _. served)

pair_served : (domain : List Axis) (file : BhvFile) (pair : Result Pair PairFault) → serves domain file.blocks ≡ true → IfOk (with_opening file pair) (λ more. serves domain more.blocks ≡ true)
pair_served domain file (Err fault) served = tt
pair_served domain file (Ok pair) served =
    cond_good (λ more. serves domain more.blocks ≡ true) (nat_le 256 (length file.opening)) (Err B9) (Ok (record file { opening = file.opening ++ pair ∷ [] })) (λ _. tt) (λ _. served)

outside_served : (domain : List Axis) (file : BhvFile) (text : List ℕ) → serves domain file.blocks ≡ true → IfOk (line_outside file text) (λ more. serves domain more.blocks ≡ true)
outside_served domain file text served =
    cond_good (λ more. serves domain more.blocks ≡ true) (begins_by (codes "initialize") text) (with_opening file (pair_of (behind_word text))) (Err B1) (λ _. pair_served domain file (pair_of (behind_word text)) served) (λ _. tt)

behavior_begun_sound : (domain : List Axis) (file : BhvFile) (sides : Option Sides) → IsSoundFile domain file → IfOk (behavior_begun file sides) (IsSoundBehavior domain)
behavior_begun_sound domain file None sound = tt
behavior_begun_sound domain file (Some sides) sound =
    and_then_good (IsDraft file.blocks) (IsSoundBehavior domain) (λ behavior. Ok (record { file = file; behavior = behavior })) (behavior_of_type (named_by sides)) (begun_drafted file.blocks (named_by sides))
    (λ behavior draft. record { file = sound.valid; served = sound.served; draft = draft })

begun_sound : (domain : List Axis) (file : BhvFile) (text : List ℕ) → IsSoundFile domain file → IfOk (block_begun file text) (IsSoundBlock domain)
begun_sound domain file text sound =
    cond_good (IsSoundBlock domain) (begins_by (codes "set") text) (and_then (λ block. Ok (OfMode block)) (mode_begun file (sides_of (behind_word text)))) (and_then (λ block. Ok (OfBehavior block)) (behavior_begun file (sides_of text)))
    (λ _. and_then_good (IsSoundMode domain) (IsSoundBlock domain) (λ block. Ok (OfMode block)) (mode_begun file (sides_of (behind_word text))) (mode_sound domain file (sides_of (behind_word text)) sound) (λ block is. is))
    (λ _. and_then_good (IsSoundBehavior domain) (IsSoundBlock domain) (λ block. Ok (OfBehavior block)) (behavior_begun file (sides_of text)) (behavior_begun_sound domain file (sides_of text) sound) (λ block is. is))

line_good : (domain : List Axis) (block : OpenBlock) (said : Statement) → IsSoundBlock domain block → IfOk (with_block_line block said) (IsSoundBlock domain)
line_good domain (OfMode block) said sound =
    and_then_good (IsSoundMode domain) (IsSoundBlock domain) (λ more. Ok (OfMode more)) (with_condition block (condition_of said.text))
    (both_ok IsSound (λ more. serves domain more.file.blocks ≡ true) (with_condition block (condition_of said.text)) (condition_sound block (condition_of said.text) (names_named said.text) sound.0) (condition_served domain block (condition_of said.text) sound.1)) (λ more is. is)
line_good domain (OfBehavior block) said sound = and_then_good (IsSoundBehavior domain) (IsSoundBlock domain) (λ more. Ok (OfBehavior more)) (with_sides block said.line (sides_of said.text)) (line_sound domain block said.line (sides_of said.text) sound) (λ more is. is)

closed_good : (domain : List Axis) (block : OpenBlock) (said : Statement) → IsSoundBlock domain block → IfOk (block_closed domain block said) (IsSoundFile domain)
closed_good domain (OfMode block) said sound =
    if_ok (λ file. IsValidFile file × (serves domain file.blocks ≡ true)) (IsSoundFile domain) (and_then (with_decl block) (other_of (behind_close said.text)))
    (both_ok IsValidFile (λ file. serves domain file.blocks ≡ true) (and_then (with_decl block) (other_of (behind_close said.text))) (close_sound block (behind_close said.text) sound.0) (decl_served domain block (other_of (behind_close said.text)) sound.1))
    (λ file is. record { valid = is.0; served = is.1 })
closed_good domain (OfBehavior block) said sound = behavior_sound domain block (behind_close said.text) sound

outside_good : (domain : List Axis) (file : BhvFile) (text : List ℕ) → IsSoundFile domain file → IfOk (line_outside file text) (IsSoundFile domain)
outside_good domain file text sound =
    if_ok (λ more. IsValidFile more × (serves domain more.blocks ≡ true)) (IsSoundFile domain) (line_outside file text)
    (both_ok IsValidFile (λ more. serves domain more.blocks ≡ true) (line_outside file text) (outside_sound file text sound.valid) (outside_served domain file text sound.served)) (λ more is. record { valid = is.0; served = is.1 })

pub sound_form : (domain : List Axis) → Keeps (behavior_form domain) (IsSoundFile domain) (IsSoundBlock domain)
sound_form domain = record {
  loose = λ file said sound. outside_good domain file said.text sound;
  begin = λ file said sound. begun_sound domain file said.text sound;
  inside = λ block said sound. line_good domain block said sound;
  close = λ block said sound. closed_good domain block said sound;
}

-- what stands before the first line is
pub nothing_sound : (domain : List Axis) → IsSoundFile domain nothing_said
nothing_sound domain = record {
  valid = record { opening = All-nil IsPair; unused = All-nil (λ (unused : Unused). IsTrue (is_name unused.name)); few_pairs = omega arith; few_decls = omega arith; decls = tt; few_blocks = omega arith; blocks = tt };
  served = refl;
}

-- what the bytes of a behaviour file stand for is valid, and served by its domain
behaviors_sound : (domain : List Axis) (bytes : List ℕ) → IfOk (behaviors_of domain bytes) (IsSoundFile domain)
behaviors_sound domain bytes = file_good (behavior_form domain) (IsSoundFile domain) (IsSoundBlock domain) (sound_form domain) nothing_said bytes (nothing_sound domain)

pub behaviors_valid : (domain : List Axis) (bytes : List ℕ) → IfOk (behaviors_of domain bytes) IsValidFile
behaviors_valid domain bytes = if_ok (IsSoundFile domain) IsValidFile (behaviors_of domain bytes) (behaviors_sound domain bytes) (λ file sound. sound.valid)

-- the domain has the axes that the behaviours of a file need
abbrev pub IsServed : List Axis → BhvFile → Type 0
IsServed domain file = IsTrue (serves domain file.blocks)

pub behaviors_served : (domain : List Axis) (bytes : List ℕ) → IfOk (behaviors_of domain bytes) (IsServed domain)
behaviors_served domain bytes = if_ok (IsSoundFile domain) (IsServed domain) (behaviors_of domain bytes) (behaviors_sound domain bytes) (λ file sound. sound.served)
