-- The parts of a report between its commas, one after another.
use Rattle.std.proofs.Common.{◌≡◌, ℕ, ◌+◌, ◌-◌, ◌<◌, ◌≤◌, List, [], ◌∷◌, length, take, drop, arith, ap, sym, subst, ◌∙◌}
use Rattle.std.proofs.lemmas.List.{length-drop, take_all}
use Rattle.std.specs.Prelude.{not, Option, Some, None}
use Rattle.std.specs.List.{position_or_len}
use Rattle.std.proofs.lemmas.List.Splits.{slice_split_first, slice_split_none}
use Rattle.std.proofs.lemmas.List.Sums.{fails_before_first, prefix_len-le-length}
use Rattle.contact_avoid.specs.Reports.{is_comma, report_fields, sole}

-- the first comma, or the end, stands within the bytes
pub end_within : (text : List ℕ) → position_or_len is_comma text ≤ length text
end_within text = prefix_len-le-length (λ byte. not (is_comma byte)) text

-- where a comma stands, the first part ends there
pub cut_there : (text : List ℕ) → position_or_len is_comma text < length text → report_fields text ≡ take (position_or_len is_comma text) text ∷ report_fields (drop (position_or_len is_comma text + 1) text)
cut_there text some = slice_split_first is_comma text 0 some

-- the same as a slice that goes up to the end
pub cut_at : (text : List ℕ) (end : ℕ) → end ≡ position_or_len is_comma text → end < length text → report_fields text ≡ take end text ∷ report_fields (take (length text - (end + 1)) (drop (end + 1) text))
cut_at text end place some =
    let all : take (length text - (end + 1)) (drop (end + 1) text) ≡ drop (end + 1) text = take_all (length text - (end + 1)) (drop (end + 1) text) (omega (arith, length-drop (end + 1) text)) in
    subst (λ n. report_fields text ≡ take n text ∷ report_fields (drop (n + 1) text)) (sym place) (cut_there text (omega (arith, place, some)))
    ∙ ap (λ rest. take end text ∷ report_fields rest) (sym all)

-- and where none does, all is one part
pub not_cut : (text : List ℕ) → position_or_len is_comma text ≡ length text → report_fields text ≡ text ∷ []
not_cut text none = slice_split_none is_comma text (λ k d within. fails_before_first is_comma text k d (omega (arith, none, within)))

-- the one of these values, where one more may stand before them
abbrev pub sole_after : Option (List ℕ) → List (List ℕ) → Option (List ℕ)
sole_after None values = sole values
sole_after (Some value) values = sole (value ∷ values)
