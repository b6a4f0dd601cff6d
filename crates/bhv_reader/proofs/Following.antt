-- The reader, line by line, comes to what the bytes of a behaviour file stand for.
use Rattle.std.proofs.Common.{◌≡◌, ℕ, max, List, [], refl, ap, sym, ◌∙◌}
use Rattle.ivp_domain.specs.declared.axis.Axis.{Axis}
use Rattle.moos_text.specs.Lines.{last_line, raw_lines}
use Rattle.moos_text.specs.Refusals.{and_then}
use Rattle.moos_text.specs.Standing.{after_raw, at_end, Outside, read_lines, Standing}
use Rattle.moos_text.proofs.Sectioned.{file_read}
use Rattle.moos_text.proofs.Walks.{all_read, IsRead, lines_all}
use Rattle.bhv_file.specs.declared.file.BhvFile.{BhvFile}
use Rattle.bhv_reader.specs.Behaviors.{behavior_form, behaviors_of, nothing_said, OpenBlock}

pub behaviors_read : (domain : List Axis) (bytes : List ℕ) → and_then (at_end (behavior_form domain) (last_line bytes)) (read_lines (after_raw (behavior_form domain)) 0 (Outside nothing_said) (raw_lines bytes)) ≡ behaviors_of domain bytes
behaviors_read domain bytes = file_read (behavior_form domain) nothing_said bytes refl

-- where nothing is left
pub behaviors_whole : (domain : List Axis) (bytes : List ℕ) (lines last : ℕ) (standing_at : Standing BhvFile OpenBlock) (left : List ℕ) → IsRead (after_raw (behavior_form domain)) (Outside nothing_said) bytes lines standing_at left → left ≡ [] → last ≡ max lines 1 → behaviors_of domain bytes ≡ at_end (behavior_form domain) last standing_at
behaviors_whole domain bytes lines last standing_at left read none is =
    all_read (after_raw (behavior_form domain)) (Outside nothing_said) (at_end (behavior_form domain) (last_line bytes)) (behaviors_of domain bytes) bytes lines standing_at left (behaviors_read domain bytes) read none
    ∙ ap (λ n. at_end (behavior_form domain) n standing_at) (sym (is ∙ lines_all (after_raw (behavior_form domain)) (Outside nothing_said) bytes lines standing_at left read none))
