-- The fields of a text, which is cut at each `:`.
use Rattle.std.proofs.Common.{◌≡◌, ◌≢◌, ℕ, ◌+◌, ◌==◌, Some, None, List, [], ◌∷◌, length, take, drop, refl, ap, sym, ◌∙◌, arith, Bool, true, false, cond, not, ◌≤◌}
use Rattle.std.specs.List.{onto_first, position, position_or_len}
use Rattle.std.specs.Option.{unwrap_or}
use Rattle.std.proofs.lemmas.List.Quantifiers.{position-Some}
use Rattle.std.proofs.lemmas.List.Splits.{slice_split_first}
use Rattle.std.proofs.lemmas.List.Sums.{position_or_len_is}
use Rattle.moos_text.proofs.WordLemmas.{position_or_len_of}
use Rattle.axis_reader.specs.Fields.{axis_from, fields_of}

-- the first `:` ends the first field
pub fields_cut : (text : List ℕ) (place : ℕ) → position (λ byte. byte == 58) text ≡ Some place → fields_of text ≡ take place text ∷ fields_of (drop (place + 1) text)
fields_cut text place found =
    let facts = position-Some (λ byte. byte == 58) text place 0 found in
    let same : position_or_len (λ byte. byte == 58) text ≡ place = position_or_len_is (λ byte. byte == 58) text place 0 (omega (arith, facts.0)) facts.2 (λ lt. facts.1) in
    slice_split_first (λ byte. byte == 58) text 0 (omega (arith, facts.0)) ∙ ap (λ i. take i text ∷ fields_of (drop (i + 1) text)) same

one_field : (text : List ℕ) → length text ≤ position_or_len (λ byte. byte == 58) text → fields_of text ≡ text ∷ []
one_field [] none = refl
one_field (byte ∷ text) none = at (byte == 58) none (one_field text)
  where
    at : (b : Bool) → length (byte ∷ text) ≤ cond (not b) (1 + position_or_len (λ x. x == 58) text) 0 → (length text ≤ position_or_len (λ x. x == 58) text → fields_of text ≡ text ∷ []) → cond b ([] ∷ fields_of text) (onto_first byte (fields_of text)) ≡ (byte ∷ text) ∷ []
    at true h more = absurd (omega (arith, h))
    at false h more = ap (onto_first byte) (more (omega (arith, h)))

-- where none stands there is one field
pub fields_one : (text : List ℕ) → position (λ byte. byte == 58) text ≡ None → fields_of text ≡ text ∷ []
fields_one text none =
    let past : length text ≡ position_or_len (λ byte. byte == 58) text = sym (ap (λ o. unwrap_or o (length text)) none) ∙ position_or_len_of (λ byte. byte == 58) text in
    one_field text (omega arith)

-- a text has a field
pub fields_some : (text : List ℕ) → (first : List ℕ) × (rest : List (List ℕ)) × (fields_of text ≡ first ∷ rest)
fields_some [] = ([], [], refl)
fields_some (byte ∷ text) = at (byte == 58) (fields_some text)
  where
    at : (b : Bool) → ((first : List ℕ) × (rest : List (List ℕ)) × (fields_of text ≡ first ∷ rest)) → (first : List ℕ) × (rest : List (List ℕ)) × (cond b ([] ∷ fields_of text) (onto_first byte (fields_of text)) ≡ first ∷ rest)
    at true more = ([], fields_of text, refl)
    at false more = (byte ∷ more.0, more.1, ap (onto_first byte) more.2)

-- other than four fields make no axis
pub not_four : (fields : List (List ℕ)) → length fields ≢ 4 → axis_from fields ≡ None
not_four [] other = refl
not_four (a ∷ []) other = refl
not_four (a ∷ b ∷ []) other = refl
not_four (a ∷ b ∷ c ∷ []) other = refl
not_four (a ∷ b ∷ c ∷ d ∷ []) other = absurd (other refl)
not_four (a ∷ b ∷ c ∷ d ∷ e ∷ rest) other = refl

-- a text that is cut four times has more than four fields
pub fifth_field : (text name low high points one two three four : List ℕ) → fields_of text ≡ name ∷ fields_of one → fields_of one ≡ low ∷ fields_of two → fields_of two ≡ high ∷ fields_of three → fields_of three ≡ points ∷ fields_of four → length (fields_of text) ≢ 4
fifth_field text name low high points one two three four a b c d long =
    let more = fields_some four in
    let all : fields_of text ≡ name ∷ low ∷ high ∷ points ∷ more.0 ∷ more.1 = cc in
    omega (arith, ap length all, long)
