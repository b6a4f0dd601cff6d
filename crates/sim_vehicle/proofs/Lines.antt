-- A reader that goes from line to line comes to what the lines of the file set.
use Rattle.std.proofs.Common.{◌≡◌, ℕ, suc, ◌+◌, List, [], ◌∷◌, refl, ap, sym, ◌∙◌, add-one}
use Rattle.std.specs.Prelude.{Result, Ok, Err}
use Rattle.moos_text.specs.declared.cause.Cause.TheVariants.{V1}
use Rattle.moos_text.specs.declared.cause.ReadFault.{ReadFault}
use Rattle.moos_text.specs.Lines.{content_of, raw_lines, trimmed}
use Rattle.moos_text.specs.Refusals.{and_then}
use Rattle.moos_text.specs.Sections.{made_of, made_of_all, stated, statements_from}
use Rattle.moos_text.specs.Standing.{read_lines}
use Rattle.moos_text.proofs.Walks.{all_read, IsNext, IsRead}
use Rattle.sim_vehicle.specs.declared.settings.CraftSettings.{CraftSettings}
use Rattle.sim_vehicle.specs.Settings.{default_settings}
use Rattle.sim_vehicle.specs.Vehicles.{set_by_statement, set_by_text, vehicle_of}

-- what a line sets by its number and its bytes, with its comment and the blanks at its ends
abbrev pub set_by_raw : ℕ → CraftSettings → List ℕ → Result CraftSettings ReadFault
set_by_raw line settings raw = set_by_text line settings (trimmed (content_of raw))

-- a reader of lines comes to the statements of one line and of those behind it, where it does for those behind it
line_set : (before : ℕ) (settings : CraftSettings) (text : List ℕ) (raws : List (List ℕ)) → ((next : CraftSettings) → read_lines set_by_raw (suc before) next raws ≡ made_of_all V1 set_by_statement next (statements_from (suc before) raws))
    → and_then (λ next. read_lines set_by_raw (suc before) next raws) (set_by_text (suc before) settings text) ≡ made_of_all V1 set_by_statement settings (stated (suc before) text (statements_from (suc before) raws))
line_set before settings [] raws rest = rest settings
line_set before settings (byte ∷ bytes) raws rest = by (made_of V1 set_by_statement settings (record { line = suc before; text = byte ∷ bytes }))
  where
    by : (r : Result CraftSettings ReadFault) → and_then (λ next. read_lines set_by_raw (suc before) next raws) r ≡ and_then (λ next. made_of_all V1 set_by_statement next (statements_from (suc before) raws)) r
    by (Ok next) = rest next
    by (Err fault) = refl

-- the same of all lines
lines_set : (before : ℕ) (settings : CraftSettings) (raws : List (List ℕ)) → read_lines set_by_raw before settings raws ≡ made_of_all V1 set_by_statement settings (statements_from before raws)
lines_set before settings [] = refl
lines_set before settings (raw ∷ raws) = line_set before settings (trimmed (content_of raw)) raws (λ next. lines_set (suc before) next raws)

-- the vehicle of all lines
pub vehicle_read : (bytes : List ℕ) → and_then Ok (read_lines set_by_raw 0 default_settings (raw_lines bytes)) ≡ vehicle_of bytes
vehicle_read bytes = ap (and_then Ok) (lines_set 0 default_settings (raw_lines bytes)) ∙ same (vehicle_of bytes)
  where
    same : (r : Result CraftSettings ReadFault) → and_then Ok r ≡ r
    same (Ok settings) = refl
    same (Err fault) = refl

-- a line more that is refused
pub one_bad : (bytes : List ℕ) (lines : ℕ) (settings : CraftSettings) (left raw rest : List ℕ) (fault : ReadFault) → IsRead set_by_raw default_settings bytes lines settings left → IsNext left raw rest → set_by_raw (lines + 1) settings raw ≡ Err fault → vehicle_of bytes ≡ Err fault
one_bad bytes lines settings left raw rest fault read next bad =
    sym (vehicle_read bytes)
    ∙ ap (and_then Ok)
    (read.so_far ∙ ap (read_lines set_by_raw lines settings) next.lines
    ∙ ap (λ n. and_then (λ more. read_lines set_by_raw n more (raw_lines rest)) (set_by_raw n settings raw)) (sym (add-one lines))
    ∙ ap (and_then (λ more. read_lines set_by_raw (lines + 1) more (raw_lines rest))) bad)

-- no line is left
pub none_left : (bytes : List ℕ) (lines : ℕ) (settings : CraftSettings) (left : List ℕ) → IsRead set_by_raw default_settings bytes lines settings left → left ≡ [] → vehicle_of bytes ≡ Ok settings
none_left bytes lines settings left read none = all_read set_by_raw default_settings Ok (vehicle_of bytes) bytes lines settings left (vehicle_read bytes) read none
