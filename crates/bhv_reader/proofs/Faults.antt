-- A refusal of one step as that of the whole line.
use Rattle.std.proofs.Common.{◌≡◌, ◌<◌, ◌+◌, ℕ, zero, suc, Bool, true, false, ◌||◌, not, nat_le, cond, List, [], ◌∷◌, ◌++◌, length, take, Option, Some, None, refl, ap, sym, ◌∙◌, arith, add-one}
use Rattle.std.specs.Prelude.{Result, Ok, Err, ok_or, slice_get, codes, bytes_eq}
use Rattle.std.specs.List.{list_any}
use Rattle.std.proofs.lemmas.Bool.{lt-leb}
use Rattle.moos_post.specs.declared.value.Value.{Value}
use Rattle.moos_text.specs.Lines.{behind_word, ends_with, is_unclosed}
use Rattle.moos_text.specs.Standing.{after_statement, after_text, behind_head, Inside, Opened, Outside, Standing}
use Rattle.helm_cond.specs.Conditions.{Condition, parent_of}
use Rattle.bhv_reader.specs.declared.behavior.UnclosedBehavior.{UnclosedBehavior}
use Rattle.bhv_reader.specs.declared.reading.Position.TheVariants.{Headed, Braced}
use Rattle.bhv_reader.specs.declared.reading.Unclosed.{Unclosed}
use Rattle.ivp_domain.specs.declared.axis.Axis.{Axis}
use Rattle.bhv_file.specs.Paths.{meant_by, parent_path, paths_of, the_one}
use Rattle.bhv_reader.specs.Places.{behavior_block, behavior_in, open_block, parent_behind, standing_at}
use Rattle.moos_post.specs.Words.{is_name}
use Rattle.moos_text.specs.declared.cause.Cause.{Cause}
use Rattle.moos_text.specs.declared.cause.Cause.TheVariants.{B1, B5, B9}
use Rattle.moos_text.specs.declared.cause.LineFault.{LineFault}
use Rattle.moos_text.specs.declared.cause.LineFault.TheVariants.{Refused, NoMemory}
use Rattle.moos_text.specs.Pairs.{Sides, sides_of}
use Rattle.moos_text.specs.Refusals.{and_then, IsLineFault}
use Rattle.bhv_file.specs.declared.file.BhvFile.{BhvFile}
use Rattle.bhv_file.specs.Validity.{fits_mode}
use Rattle.bhv_reader.specs.Behaviors.{after_condition, begins_behavior, begins_by, behavior_begun, behavior_form, mode_begun, ModeBlock, named_by, OfBehavior, OfMode, OpenBlock, other_of, with_condition, with_parent}

-- what a name is refused for, as the whole
named_fault : {A B : Type 0} (b : Bool) (one : A) (other : B) (fault : LineFault) → IsLineFault fault (cond b (Ok one) (Err B1)) → IsLineFault fault (cond b (Ok other) (Err B1))
named_fault true one other (Refused cause) is = absurd cc
named_fault false one other (Refused cause) is = let same : B1 ≡ cause = cc in ap Err same
named_fault true one other NoMemory is = tt
named_fault false one other NoMemory is = tt

pub other_fault : (text : List ℕ) (fault : LineFault) → 0 < length text → IsLineFault fault (cond (is_name text) (Ok text) (Err B1)) → IsLineFault fault (other_of text)
other_fault [] fault some is = absurd (omega arith)
other_fault (byte ∷ bytes) fault some is = named_fault (is_name (byte ∷ bytes)) (byte ∷ bytes) (Some (byte ∷ bytes)) fault is

pub mode_fault : (file : BhvFile) (sides : Sides) (fault : LineFault) → bytes_eq sides.name (codes "MODE") ≡ true → IsLineFault fault (cond (is_name (named_by sides)) (Ok (named_by sides)) (Err B1)) → IsLineFault fault (mode_begun file (Some sides))
mode_fault file sides fault mode is = rw mode (named_fault (is_name (named_by sides)) (named_by sides) (record { file = file; name = named_by sides; parent = None; conds = [] }) fault is)

pub not_false : (b : Bool) → not b ≡ false → b ≡ true
not_false true e = refl
not_false false e = absurd cc

-- a bad condition
pub cond_fault : (block : ModeBlock) (cond : Option Condition) (fault : LineFault) → IsLineFault fault (ok_or cond B5) → IsLineFault fault (with_condition block cond)
cond_fault block None (Refused cause) is = let same : B5 ≡ cause = cc in ap Err same
cond_fault block (Some cond) (Refused cause) is = absurd cc
cond_fault block None NoMemory is = tt
cond_fault block (Some cond) NoMemory is = tt

-- a parent line without a parent
pub parent_fault : (block : ModeBlock) (said : Option Condition) (one : Condition) (cause : Cause) → said ≡ Some one → fits_mode block.conds one ≡ true → length block.conds < 64 → Err cause ≡ parent_behind block.file.decls block.parent (parent_of one) → with_condition block said ≡ Err cause
parent_fault block said one cause same fits few is =
    ap (with_condition block) same ∙ rw (fits, lt-leb 64 (length block.conds) few) (at (parent_of one) is)
  where
    found : (r : Result ℕ Cause) → Err cause ≡ and_then (λ number. cond (nat_le 16 (length (parent_path (paths_of block.file.decls) (Some number)))) (Err B9) (Ok (Some number))) r → and_then (with_parent (record block { conds = block.conds ++ one ∷ [] })) r ≡ Err cause
    found (Err other) e = let same : cause ≡ other = cc in ap Err (sym same)
    found (Ok number) e = long (nat_le 16 (length (parent_path (paths_of block.file.decls) (Some number)))) e
      where
        long : (b : Bool) → Err cause ≡ cond b (Err B9) (Ok (Some number)) → cond b (Err B9) (Ok (record block { conds = block.conds ++ one ∷ []; parent = Some number })) ≡ Err cause
        long true h = let same : cause ≡ B9 = cc in ap Err (sym same)
        long false h = absurd cc

    at : (o : Option Value) → Err cause ≡ parent_behind block.file.decls block.parent o → after_condition (record block { conds = block.conds ++ one ∷ [] }) o ≡ Err cause
    at None e = absurd cc
    at (Some literal) e = found (the_one (meant_by block.file.decls literal)) e

-- where the reader stands behind a line that opens a block
pub head_placed : (file : BhvFile) (text : List ℕ) (block : Unclosed) → standing_at file (cond (ends_with 123 text) (Braced block) (Headed block)) ≡ behind_head text (open_block file block)
head_placed file text block = at (ends_with 123 text)
  where
    at : (b : Bool) → standing_at file (cond b (Braced block) (Headed block)) ≡ cond b (Inside (open_block file block)) (Opened (open_block file block))
    at true = refl
    at false = refl

-- a line that begins a mode
pub mode_said : (domain : List Axis) (file : BhvFile) (text : List ℕ) (line : ℕ) (block : ModeBlock) → begins_by (codes "set") text ≡ true → mode_begun file (sides_of (behind_word text)) ≡ Ok block → after_statement (behavior_form domain) (Outside file) (record { line = line; text = text }) ≡ Ok (behind_head text (OfMode block))
mode_said domain file text line block set begun = rw (set, begun) refl

-- behind the line that opens a block
abbrev pub place_behind : List ℕ → OpenBlock → Result (Standing BhvFile OpenBlock) Cause
place_behind text block = Ok (behind_head text block)

-- a line of neither keyword begins a behaviour
abbrev pub behavior_place : BhvFile → List ℕ → Result UnclosedBehavior Cause → Result (Standing BhvFile OpenBlock) Cause
behavior_place file text begun = and_then (λ behavior. place_behind text (OfBehavior (behavior_block file behavior))) begun

pub behavior_said : (domain : List Axis) (file : BhvFile) (text : List ℕ) (line : ℕ) → begins_by (codes "set") text ≡ false → begins_by (codes "initialize") text ≡ false → after_statement (behavior_form domain) (Outside file) (record { line = line; text = text }) ≡ behavior_place file text (cond (begins_behavior (sides_of text)) (behavior_in (sides_of text)) (Err B1))
behavior_said domain file text line set initialize = rw (set, initialize) (at (sides_of text))
  where
    neither : Result (Standing BhvFile OpenBlock) Cause
    neither = and_then {A = BhvFile} (λ more. Ok (Outside more)) (Err B1)

    placed : (r : Result UnclosedBehavior Cause) → and_then (place_behind text) (and_then (λ block. Ok (OfBehavior block)) (and_then (λ behavior. Ok (behavior_block file behavior)) r)) ≡ behavior_place file text r
    placed (Ok behavior) = refl
    placed (Err cause) = refl

    named : (sides : Sides) (b : Bool) → cond b (and_then (place_behind text) (and_then (λ block. Ok (OfBehavior block)) (behavior_begun file (Some sides)))) neither ≡ behavior_place file text (cond b (behavior_in (Some sides)) (Err B1))
    named sides true = placed (behavior_in (Some sides))
    named sides false = refl

    at : (o : Option Sides) → cond (begins_behavior o) (and_then (place_behind text) (and_then (λ block. Ok (OfBehavior block)) (behavior_begun file o))) neither ≡ behavior_place file text (cond (begins_behavior o) (behavior_in o) (Err B1))
    at None = refl
    at (Some sides) = named sides (begins_behavior (Some sides))

-- a line that says something and leaves no quote open
pub line_read : (domain : List Axis) (line : ℕ) (place next : Standing BhvFile OpenBlock) (text : List ℕ) → 0 < length text → is_unclosed text ≡ false → after_statement (behavior_form domain) place (record { line = line; text = text }) ≡ Ok next → after_text (behavior_form domain) line place text ≡ Ok next
line_read domain line place next [] some closed is = absurd (omega arith)
line_read domain line place next (byte ∷ bytes) some closed is = rw (closed, is) refl

-- a test that one element passes, and that one more fails
pub any_at : {X : Type 0} (test : X → Bool) (xs : List X) (i : ℕ) (x : X) → slice_get xs i ≡ Some x → test x ≡ true → list_any test xs ≡ true
any_at test [] i x is passes = absurd cc
any_at test (y ∷ xs) zero x is passes = let same : y ≡ x = cc in rw (ap test same ∙ passes) refl
any_at test (y ∷ xs) (suc i) x is passes = at (test y) (any_at test xs i x is passes)
  where
    at : (b : Bool) → list_any test xs ≡ true → (b || list_any test xs) ≡ true
    at true rest = refl
    at false rest = rest

none_suc : {X : Type 0} (test : X → Bool) (xs : List X) (i : ℕ) (x : X) → slice_get xs i ≡ Some x → test x ≡ false → list_any test (take i xs) ≡ false → list_any test (take (suc i) xs) ≡ false
none_suc test [] i x is fails none = refl
none_suc test (y ∷ xs) zero x is fails none = let same : y ≡ x = cc in rw (ap test same ∙ fails) refl
none_suc test (y ∷ xs) (suc i) x is fails none = at (test y) none (none_suc test xs i x is fails)
  where
    at : (b : Bool) → (b || list_any test (take i xs)) ≡ false → (list_any test (take i xs) ≡ false → list_any test (take (suc i) xs) ≡ false) → (b || list_any test (take (suc i) xs)) ≡ false
    at true h rest = absurd cc
    at false h rest = rest h

pub none_more : {X : Type 0} (test : X → Bool) (xs : List X) (i : ℕ) (x : X) → slice_get xs i ≡ Some x → test x ≡ false → list_any test (take i xs) ≡ false → list_any test (take (i + 1) xs) ≡ false
none_more test xs i x is fails none = ap (λ n. list_any test (take n xs)) (add-one i) ∙ none_suc test xs i x is fails none
