-- The parts of a text that is cut at each `:`, from the back.
use Rattle.std.proofs.Common.{◌≡◌, ℕ, ◌+◌, ◌<◌, ◌==◌, Bool, true, false, ◌||◌, cond, List, [], ◌∷◌, ◌++◌, length, take, drop, get_or, refl, ap, sym, ◌∙◌}
use Rattle.std.specs.List.{list_any, onto_first}
use Rattle.std.proofs.lemmas.List.{drop_more, take-append-drop}
use Rattle.helm_cond.specs.Conditions.{mode_names}
use Rattle.bhv_file.specs.Paths.{is_colon}

or_right : (a b : Bool) → (a || b) ≡ false → b ≡ false
or_right true b e = absurd cc
or_right false b e = e

or_left : (a b : Bool) → (a || b) ≡ false → a ≡ false
or_left true b e = e
or_left false b e = refl

-- a text without a `:` is one part
pub one_part : (text : List ℕ) → list_any is_colon text ≡ false → mode_names text ≡ text ∷ []
one_part [] none = refl
one_part (byte ∷ text) none =
    let here : (byte == 58) ≡ false = or_left (byte == 58) (list_any is_colon text) none in
    rw here (ap (onto_first byte) (one_part text (or_right (byte == 58) (list_any is_colon text) none)))

-- the first of some parts is longer by a byte
onto_front : (byte : ℕ) (first : List ℕ) (parts more : List (List ℕ)) → onto_first byte ((first ∷ parts) ++ more) ≡ onto_first byte (first ∷ parts) ++ more
onto_front byte first parts more = refl

-- a text has a part
pub some_part : (text : List ℕ) → (first : List ℕ) × (rest : List (List ℕ)) × (mode_names text ≡ first ∷ rest)
some_part [] = ([], [], refl)
some_part (byte ∷ text) = at (byte == 58) (some_part text)
  where
    at : (b : Bool) → ((first : List ℕ) × (rest : List (List ℕ)) × (mode_names text ≡ first ∷ rest)) → (first : List ℕ) × (rest : List (List ℕ)) × (cond b ([] ∷ mode_names text) (onto_first byte (mode_names text)) ≡ first ∷ rest)
    at true more = ([], mode_names text, refl)
    at false more = (byte ∷ more.0, more.1, ap (onto_first byte) more.2)

-- what stands behind the last `:` is the last part
pub last_part : (front back : List ℕ) → list_any is_colon back ≡ false → mode_names (front ++ 58 ∷ back) ≡ mode_names front ++ back ∷ []
last_part [] back none = ap (λ parts. [] ∷ parts) (one_part back none)
last_part (byte ∷ front) back none = at (byte == 58) (last_part front back none)
  where
    at : (b : Bool) → mode_names (front ++ 58 ∷ back) ≡ mode_names front ++ back ∷ []
        → cond b ([] ∷ mode_names (front ++ 58 ∷ back)) (onto_first byte (mode_names (front ++ 58 ∷ back))) ≡ cond b ([] ∷ mode_names front) (onto_first byte (mode_names front)) ++ back ∷ []
    at true more = ap (λ parts. [] ∷ parts) more
    at false more =
        let some = some_part front in
        ap (onto_first byte) more ∙ ap (λ parts. onto_first byte (parts ++ back ∷ [])) some.2 ∙ onto_front byte some.0 some.1 (back ∷ []) ∙ ap (λ parts. onto_first byte parts ++ back ∷ []) (sym some.2)

-- a text that is cut at its last `:`
pub cut_at : (text : List ℕ) (place : ℕ) → place < length text → get_or text place 0 ≡ 58 → list_any is_colon (drop (place + 1) text) ≡ false → mode_names text ≡ mode_names (take place text) ++ drop (place + 1) text ∷ []
cut_at text place within is none =
    let rest : drop place text ≡ 58 ∷ drop (place + 1) text = drop_more text place 0 within ∙ ap (λ byte. byte ∷ drop (place + 1) text) is in
    let whole : text ≡ take place text ++ 58 ∷ drop (place + 1) text = sym (take-append-drop place text) ∙ ap (λ back. take place text ++ back) rest in
    ap mode_names whole ∙ last_part (take place text) (drop (place + 1) text) none
