-- Lemmas on texts with `\` before some bytes.
use Rattle.std.proofs.Common.{◌≡◌, ℕ, ◌-◌, ◌<◌, List, [], ◌∷◌, ◌++◌, flat_map, length, take, drop, get_or, IsTrue, refl, ap, sym, ◌∙◌, arith, append_assoc}
use Rattle.std.proofs.lemmas.List.{take_all}
use Rattle.std.proofs.lemmas.List.Concat.{flat_map-append}
use Rattle.moos_report.specs.Report.{is_sign, escaped}

-- what stands before the first sign isn't changed
pub escaped_plain : {rest : List ℕ} (plain signs : List ℕ) → plain ++ signs ≡ rest → flat_map escaped plain ≡ plain → flat_map escaped rest ≡ plain ++ flat_map escaped signs
escaped_plain plain signs parts same = rw (← parts, flat_map-append escaped plain signs, same) refl

-- a text without signs isn't changed
pub escaped_last : {rest : List ℕ} (plain signs : List ℕ) → plain ++ signs ≡ rest → flat_map escaped plain ≡ plain → length signs < 1 → flat_map escaped rest ≡ plain ++ []
escaped_last plain [] parts same none = escaped_plain plain [] parts same
escaped_last plain (sign ∷ later) parts same none = absurd (omega (arith, none))

escaped_first : (signs : List ℕ) → 0 < length signs → IsTrue (is_sign (get_or signs 0 0))
    → flat_map escaped signs ≡ (92 ∷ get_or signs 0 0 ∷ []) ++ flat_map escaped (take (length signs - 1) (drop 1 signs))
escaped_first [] some first = absurd (omega (arith, some))
escaped_first (sign ∷ later) some first = rw (take_all (length (sign ∷ later) - 1) later (omega arith), first) refl

-- the first sign gets its `\`
pub escaped_sign : {rest : List ℕ} (plain signs : List ℕ) → plain ++ signs ≡ rest → flat_map escaped plain ≡ plain
    → (0 < length signs → IsTrue (is_sign (get_or signs 0 0))) → 0 < length signs
    → flat_map escaped rest ≡ (plain ++ (92 ∷ get_or signs 0 0 ∷ [])) ++ flat_map escaped (take (length signs - 1) (drop 1 signs))
escaped_sign plain signs parts same first some =
    let later = flat_map escaped (take (length signs - 1) (drop 1 signs)) in
    escaped_plain plain signs parts same
    ∙ ap (λ end. plain ++ end) (escaped_first signs some (first some))
    ∙ sym (append_assoc plain (92 ∷ get_or signs 0 0 ∷ []) later)
