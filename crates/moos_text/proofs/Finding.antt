-- The first byte that passes a test, as the kit's search gives it, and lines and parts in which no sign stands.
use Rattle.std.proofs.Common.{◌≡◌, ℕ, suc, ◌<◌, Bool, true, false, ◌&&◌, ◌||◌, ◌==◌, cond, nat_lt, List, [], ◌∷◌, length, get_or, Option, Some, None, refl, ap, ◌∙◌, sym, arith}
use Rattle.std.specs.Prelude.{fold}
use Rattle.std.specs.List.{position, position_or_len}
use Rattle.std.proofs.lemmas.Bool.{false_from_ne_true, le-ltb, lt-ltb}
use Rattle.std.proofs.lemmas.List.Sums.{position_or_len_is}
use Rattle.memchr.specs.Find.{IsFirstByte, is_byte2}
use Rattle.moos_text.specs.Lines.{onto_first, begins_comment, is_quoted_after, uncommented, is_unclosed}
use Rattle.moos_text.specs.Pairs.{parts_from, parts_of}

-- the kit's search gives the first place at which the test passes
pub first_place : (test : ℕ → Bool) (hay : List ℕ) (found : Option ℕ) → IsFirstByte test hay found → found ≡ position test hay
first_place test hay None none =
    let at : position_or_len test hay ≡ length hay =
    position_or_len_is test hay (length hay) 0 (omega arith) (λ k within. false_from_ne_true (test (get_or hay k 0)) (none k (omega arith) within)) (λ past. absurd (omega (arith, past))) in
    sym (ap (λ n. cond (nat_lt n (length hay)) (Some n) None) at ∙ ap (λ less. cond less (Some (length hay)) None) (le-ltb (length hay) (length hay) (omega arith)))
first_place test hay (Some k) found =
    let at : position_or_len test hay ≡ k =
    position_or_len_is test hay k 0 (omega (arith, found.0.high)) (λ i before. false_from_ne_true (test (get_or hay i 0)) (found.0.before i (omega arith) before)) (λ _. found.1) in
    sym (ap (λ n. cond (nat_lt n (length hay)) (Some n) None) at ∙ ap (λ less. cond less (Some k) None) (lt-ltb k (length hay) found.0.high))

-- no byte passes the test
abbrev NonePasses : (ℕ → Bool) → List ℕ → Type 0
NonePasses test text = (k : ℕ) → k < length text → test (get_or text k 0) ≡ false

none_behind : (test : ℕ → Bool) (byte : ℕ) (rest : List ℕ) → NonePasses test (byte ∷ rest) → NonePasses test rest
none_behind test byte rest none k within = none (suc k) (omega (arith, within))

or_false : (a b : Bool) → (a || b) ≡ false → (a ≡ false) × (b ≡ false)
or_false true b e = absurd cc
or_false false b e = (refl, e)

no_comment : (byte : ℕ) (rest : List ℕ) → (byte == 47) ≡ false → begins_comment (byte ∷ rest) ≡ false
no_comment byte [] other = refl
no_comment byte (next ∷ rest) other = ap (λ slash. slash && next == 47) other

-- without a `"` and a `/` all of a line counts
pub plain_counts : (line : List ℕ) → NonePasses (is_byte2 34 47) line → uncommented false line ≡ line
plain_counts [] none = refl
plain_counts (byte ∷ rest) none =
    let apart = or_false (byte == 34) (byte == 47) (none 0 (omega arith)) in
    ap (λ comment. cond comment [] (byte ∷ uncommented (is_quoted_after false byte) rest)) (no_comment byte rest apart.1)
    ∙ ap (λ quote. byte ∷ uncommented (cond quote true false) rest) apart.0
    ∙ ap (λ text. byte ∷ text) (plain_counts rest (none_behind (is_byte2 34 47) byte rest none))

-- and no quote is open behind it
pub plain_closed : (line : List ℕ) → NonePasses (is_byte2 34 47) line → is_unclosed line ≡ false
plain_closed [] none = refl
plain_closed (byte ∷ rest) none =
    let apart = or_false (byte == 34) (byte == 47) (none 0 (omega arith)) in
    ap (λ quote. fold is_quoted_after (cond quote true false) rest) apart.0 ∙ plain_closed rest (none_behind (is_byte2 34 47) byte rest none)

-- without a `"` and a `#` a text is one part
pub plain_part : (text : List ℕ) → NonePasses (is_byte2 34 35) text → parts_of text ≡ text ∷ []
plain_part [] none = refl
plain_part (byte ∷ rest) none =
    let apart = or_false (byte == 34) (byte == 35) (none 0 (omega arith)) in
    ap (λ sign. cond sign ([] ∷ parts_from false rest) (onto_first byte (parts_from (is_quoted_after false byte) rest))) apart.1
    ∙ ap (λ quote. onto_first byte (parts_from (cond quote true false) rest)) apart.0
    ∙ ap (onto_first byte) (plain_part rest (none_behind (is_byte2 34 35) byte rest none))

-- what isn't found is at no place
pub none_found : (test : ℕ → Bool) (text : List ℕ) → IsFirstByte test text None → NonePasses test text
none_found test text none k within = false_from_ne_true (test (get_or text k 0)) (none k (omega arith) within)
