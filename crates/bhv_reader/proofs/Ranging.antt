-- Wherever the lines have come, what was read is good, so that an unfinished behaviour's parameters are in their ranges.
use Rattle.std.proofs.Common.{◌≡◌, ℕ, Bool, true, false, cond, List, [], ◌∷◌}
use Rattle.std.specs.Prelude.{IfOk, Result, Ok, Err}
use Rattle.ivp_domain.specs.declared.axis.Axis.{Axis}
use Rattle.moos_text.specs.declared.cause.Cause.{Cause}
use Rattle.moos_text.specs.declared.cause.Cause.TheVariants.{B1}
use Rattle.moos_text.specs.Lines.{ends_with, is_unclosed}
use Rattle.moos_text.specs.Refusals.{and_then, at_line}
use Rattle.moos_text.specs.Sections.{Statement}
use Rattle.moos_text.specs.Standing.{after_statement, after_text, Inside, Opened, Outside, Standing}
use Rattle.moos_text.proofs.Judging.{and_then_good, at_good, cond_good}
use Rattle.bhv_file.specs.declared.file.BhvFile.{BhvFile}
use Rattle.bhv_reader.specs.declared.reading.Position.{Position}
use Rattle.bhv_reader.specs.declared.reading.Position.TheVariants.{Loose, Headed, Braced}
use Rattle.bhv_reader.specs.declared.reading.Unclosed.TheVariants.{OfMode, OfBehavior}
use Rattle.bhv_reader.specs.Behaviors.{behavior_form, begins_by_brace, block_begun, block_closed, line_outside, opens_mode_or_behavior, OpenBlock, with_block_line}
use Rattle.bhv_reader.specs.Places.{IsRangedAt, standing_at}
use Rattle.bhv_reader.proofs.Blocked.{IsSoundFile}
use Rattle.bhv_reader.proofs.Valid.{IsSoundBlock, sound_form}

-- what was read up to where the reader stands is good
abbrev pub IsSoundStanding : List Axis → Standing BhvFile OpenBlock → Type 0
IsSoundStanding domain (Outside file) = IsSoundFile domain file
IsSoundStanding domain (Opened block) = IsSoundBlock domain block
IsSoundStanding domain (Inside block) = IsSoundBlock domain block

head_sound : (domain : List Axis) (braced : Bool) (block : OpenBlock) → IsSoundBlock domain block → IsSoundStanding domain (cond braced (Inside block) (Opened block))
head_sound domain true block sound = sound
head_sound domain false block sound = sound

-- one line more
statement_sound : (domain : List Axis) (standing : Standing BhvFile OpenBlock) (said : Statement) → IsSoundStanding domain standing → IfOk (after_statement (behavior_form domain) standing said) (IsSoundStanding domain)
statement_sound domain (Outside file) said sound =
    cond_good (IsSoundStanding domain) (opens_mode_or_behavior said.text) (and_then (λ block. Ok (cond (ends_with 123 said.text) (Inside block) (Opened block))) (block_begun file said.text)) (and_then (λ more. Ok (Outside more)) (line_outside file said.text))
    (λ _. and_then_good (IsSoundBlock domain) (IsSoundStanding domain) (λ block. Ok (cond (ends_with 123 said.text) (Inside block) (Opened block))) (block_begun file said.text) ((sound_form domain).begin file said sound) (head_sound domain (ends_with 123 said.text)))
    (λ _. and_then_good (IsSoundFile domain) (IsSoundStanding domain) (λ more. Ok (Outside more)) (line_outside file said.text) ((sound_form domain).loose file said sound) (λ more is. is))
statement_sound domain (Opened block) said sound = cond_good (IsSoundStanding domain) _ (Ok (Inside block)) (Err B1) (λ _. sound) (λ _. tt)
statement_sound domain (Inside block) said sound =
    cond_good (IsSoundStanding domain) (begins_by_brace said.text) (and_then (λ whole. Ok (Outside whole)) (block_closed domain block said)) (and_then (λ more. Ok (Inside more)) (with_block_line block said))
    (λ _. and_then_good (IsSoundFile domain) (IsSoundStanding domain) (λ whole. Ok (Outside whole)) (block_closed domain block said) ((sound_form domain).close block said sound) (λ more is. is))
    (λ _. and_then_good (IsSoundBlock domain) (IsSoundStanding domain) (λ more. Ok (Inside more)) (with_block_line block said) ((sound_form domain).inside block said sound) (λ more is. is))

text_sound : (domain : List Axis) (line : ℕ) (standing : Standing BhvFile OpenBlock) (text : List ℕ) → IsSoundStanding domain standing → IfOk (after_text (behavior_form domain) line standing text) (IsSoundStanding domain)
text_sound domain line standing [] sound = sound
text_sound domain line standing (byte ∷ bytes) sound = at (is_unclosed (byte ∷ bytes)) (after_statement (behavior_form domain) standing said) (statement_sound domain standing said sound)
  where
    said : Statement
    said = record { line = line; text = byte ∷ bytes }

    at : (open' : Bool) (r : Result (Standing BhvFile OpenBlock) Cause) → IfOk r (IsSoundStanding domain) → IfOk (at_line line (cond open' (Err B1) r)) (IsSoundStanding domain)
    at true r h = tt
    at false (Ok next) h = h
    at false (Err cause) h = tt

-- a good line more
pub next_sound : (domain : List Axis) (line : ℕ) (standing next : Standing BhvFile OpenBlock) (text : List ℕ) → IsSoundStanding domain standing → after_text (behavior_form domain) line standing text ≡ Ok next → IsSoundStanding domain next
next_sound domain line standing next text sound is = at_good (IsSoundStanding domain) (after_text (behavior_form domain) line standing text) next (text_sound domain line standing text sound) is

-- so an unfinished behaviour is in its ranges
pub place_ranged : (domain : List Axis) (file : BhvFile) (place : Position) → IsSoundStanding domain (standing_at file place) → IsRangedAt place
place_ranged domain file Loose sound = tt
place_ranged domain file (Headed (OfMode mode)) sound = tt
place_ranged domain file (Headed (OfBehavior behavior)) sound = sound.draft.ranges
place_ranged domain file (Braced (OfMode mode)) sound = tt
place_ranged domain file (Braced (OfBehavior behavior)) sound = sound.draft.ranges
