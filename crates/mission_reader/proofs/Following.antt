-- The reader, line by line, comes to what the bytes of a mission stand for.
use Rattle.std.proofs.Common.{◌≡◌, ℕ, max, List, [], refl, ap, sym, ◌∙◌}
use Rattle.std.specs.Prelude.{Result}
use Rattle.moos_text.specs.declared.cause.ReadFault.{ReadFault}
use Rattle.moos_text.specs.Lines.{last_line, raw_lines}
use Rattle.moos_text.specs.Refusals.{and_then}
use Rattle.moos_text.specs.Standing.{after_raw, at_end, Outside, read_lines, Standing}
use Rattle.moos_text.proofs.Sectioned.{and_then_then, file_read}
use Rattle.moos_text.proofs.Walks.{all_read, IsRead, lines_all}
use Rattle.mission_reader.specs.declared.mission.Mission.{Mission}
use Rattle.mission_reader.specs.declared.settings.Settings.{Settings}
use Rattle.mission_reader.specs.Missions.{AppBlock, mission_form, mission_of, mission_with, nothing_set}

-- the mission of all lines, in a file with this last line
abbrev pub whole : ℕ → Standing Settings AppBlock → Result Mission ReadFault
whole last standing = and_then (mission_with last) (at_end mission_form last standing)

pub mission_read : (bytes : List ℕ) → and_then (whole (last_line bytes)) (read_lines (after_raw mission_form) 0 (Outside nothing_set) (raw_lines bytes)) ≡ mission_of bytes
mission_read bytes =
    let last = last_line bytes in
    sym (and_then_then (mission_with last) (at_end mission_form last) (read_lines (after_raw mission_form) 0 (Outside nothing_set) (raw_lines bytes)))
    ∙ ap (and_then (mission_with last)) (file_read mission_form nothing_set bytes refl)

-- where nothing is left
pub mission_whole : (bytes : List ℕ) (lines last : ℕ) (standing : Standing Settings AppBlock) (left : List ℕ) → IsRead (after_raw mission_form) (Outside nothing_set) bytes lines standing left → left ≡ [] → last ≡ max lines 1 → mission_of bytes ≡ whole last standing
mission_whole bytes lines last standing left read none is =
    all_read (after_raw mission_form) (Outside nothing_set) (whole (last_line bytes)) (mission_of bytes) bytes lines standing left (mission_read bytes) read none
    ∙ ap (λ n. whole n standing) (sym (is ∙ lines_all (after_raw mission_form) (Outside nothing_set) bytes lines standing left read none))
