-- Numbers and values of which one text is printed are the same.
use Rattle.std.proofs.Common.{◌≡◌, ◌≢◌, ℕ, ◌+◌, ◌/◌, ◌%◌, ◌^◌, ◌<◌, ◌≤◌, inl, inr, Bool, true, false, cond, not, Some, None, List, [], ◌∷◌, ◌++◌, length, take, drop, get_or, flat_map, refl, ap, sym, ◌∙◌, subst, arith, append_assoc}
use Rattle.std.specs.Prelude.{ℤ, codes, decimal, nat_le, nat_lt, IsTrue, is_none, if◌then◌else◌, unwrap_or}
use Rattle.std.specs.List.{position_or_len}
use Rattle.std.proofs.lemmas.Bool.{and_parts, false≢true}
use Rattle.std.proofs.lemmas.Bool.Decides.{nat_tests}
use Rattle.std.proofs.lemmas.Fmt.{decimal_injective}
use Rattle.std.proofs.lemmas.List.{append_cancel_right}
use Rattle.moos_io.proofs.Lists.{each_append}
use Rattle.moos_post.specs.declared.value.Value.{Value}
use Rattle.moos_post.specs.declared.value.Value.TheVariants.{Num, Text}
use Rattle.moos_post.specs.Entries.{IsValue}
use Rattle.moos_post.specs.Words.{control_place, is_control, is_digit, is_text, IsMilli}
use Rattle.moos_text.specs.Numbers.{decimals_text, digits_value, milli_of, milli_text, unsigned_text}
use Rattle.moos_text.proofs.PrintedDigits.{decimal_digits, decimals_shape, milli_bytes, Shape, unsigned_bytes}
use Rattle.moos_text.proofs.RoundTrip.{milli_back}
use Rattle.moos_report.specs.Report.{escaped, is_sign, value_text}
use Rattle.moos_report.proofs.Cuts.{cut_at, is_other, Lacks, lacks_all}

-- a printed whole number is digits
pub decimal_lacks : (byte n : ℕ) → n < 2 ^ 64 → is_digit byte ≡ false → Lacks byte (decimal n)
decimal_lacks byte n small other = lacks_all is_digit byte (decimal n) other (decimal_digits n small)

-- a number in thousandths is digits and a point, behind a minus or none
pub unsigned_lacks : (byte n : ℕ) → n < 2 ^ 64 → is_digit byte ≡ false → 46 ≢ byte → Lacks byte (unsigned_text n)
unsigned_lacks byte n small other point = unsigned_bytes (λ it. it ≢ byte) (is_other is_digit byte other) point n small

milli_lacks : (byte : ℕ) (number : ℤ) → IsMilli number → is_digit byte ≡ false → 46 ≢ byte → 45 ≢ byte → Lacks byte (milli_text number)
milli_lacks byte number h other point minus = milli_bytes (λ it. it ≢ byte) (is_other is_digit byte other) point minus number h

-- the decimals with a point behind them begin with a point
pointed : (rest : ℕ) → rest < 1000 → (tail : List ℕ) × (decimals_text rest ++ codes "." ≡ 46 ∷ tail)
pointed rest small = by (decimals_shape rest small)
  where
    by : Shape rest → (tail : List ℕ) × (decimals_text rest ++ codes "." ≡ 46 ∷ tail)
    by (inl none) = ([], ap (λ t. t ++ codes ".") none.0)
    by (inr some) = (some.0 ++ codes ".", ap (λ t. t ++ codes ".") some.1)

-- decimals of which one text is printed
decimals_same : (n m : ℕ) → n < 1000 → m < 1000 → decimals_text n ≡ decimals_text m → n ≡ m
decimals_same n m small small' same = by (decimals_shape n small) (decimals_shape m small')
  where
    by : Shape n → Shape m → n ≡ m
    by (inl none) (inl none') = none.1 ∙ sym none'.1
    by (inl none) (inr some) = absurd (cc)
    by (inr some) (inl none) = absurd (cc)
    by (inr some) (inr some') = sym some.3 ∙ ap (λ t. digits_value (take 3 (drop 1 t ++ codes "000"))) (sym some.1 ∙ same ∙ some'.1) ∙ some'.3

-- numbers in thousandths of which one text is printed
pub unsigned_same : (n m : ℕ) → n < 2 ^ 64 → m < 2 ^ 64 → unsigned_text n ≡ unsigned_text m → n ≡ m
unsigned_same n m small small' same =
    let end = pointed (n % 1000) (omega arith) in
    let end' = pointed (m % 1000) (omega arith) in
    let lacks : (k : ℕ) → k < 2 ^ 64 → Lacks 46 (decimal (k / 1000)) = λ k less. decimal_lacks 46 (k / 1000) (omega (arith, less)) refl in
    let open_at : decimal (n / 1000) ++ 46 ∷ end.0 ≡ decimal (m / 1000) ++ 46 ∷ end'.0 =
    ap (λ t. decimal (n / 1000) ++ t) (sym end.1) ∙ sym (append_assoc (decimal (n / 1000)) (decimals_text (n % 1000)) (codes "."))
    ∙ ap (λ t. t ++ codes ".") same
    ∙ append_assoc (decimal (m / 1000)) (decimals_text (m % 1000)) (codes ".") ∙ ap (λ t. decimal (m / 1000) ++ t) end'.1 in
    let parts = cut_at 46 (decimal (n / 1000)) (decimal (m / 1000)) end.0 end'.0 (lacks n small) (lacks m small') open_at in
    let quotients : n / 1000 ≡ m / 1000 = decimal_injective (n / 1000) (m / 1000) (omega (arith, small)) (omega (arith, small')) parts.0 in
    let tails : decimals_text (n % 1000) ≡ decimals_text (m % 1000) = append_cancel_right (decimals_text (n % 1000)) (decimals_text (m % 1000)) (codes ".") (end.1 ∙ ap (λ t. 46 ∷ t) parts.1 ∙ sym end'.1) in
    let rests : n % 1000 ≡ m % 1000 = decimals_same (n % 1000) (m % 1000) (omega arith) (omega arith) tails in
    omega (arith, quotients, rests)

-- a text without a line end, between quotes
escaped_lacks : (byte : ℕ) → byte ≢ 10 → Lacks 10 (escaped byte)
escaped_lacks byte other = by (is_sign byte)
  where
    by : (b : Bool) → Lacks 10 (if b then 92 ∷ byte ∷ [] else byte ∷ [])
    by true = (λ same. absurd (omega (arith, same)), (other, tt))
    by false = (other, tt)

text_lacks : (text : List ℕ) → Lacks 10 text → Lacks 10 (flat_map escaped text)
text_lacks [] h = tt
text_lacks (byte ∷ text) h = each_append (λ it. it ≢ 10) (escaped byte) (flat_map escaped text) (escaped_lacks byte h.0) (text_lacks text h.1)

-- no byte of a text is a line end
clean_lacks : (text : List ℕ) → length text ≤ position_or_len is_control text → Lacks 10 text
clean_lacks [] none = tt
clean_lacks (byte ∷ text) none = by (is_control byte) refl none (clean_lacks text)
  where
    by : (b : Bool) → is_control byte ≡ b → length (byte ∷ text) ≤ cond (not b) (1 + position_or_len is_control text) 0 → (length text ≤ position_or_len is_control text → Lacks 10 text) → Lacks 10 (byte ∷ text)
    by true e h later = absurd (omega (arith, h))
    by false e h later = (λ same. false≢true (sym e ∙ ap is_control same), later (omega (arith, h)))

no_line_end : (text : List ℕ) → IsTrue (is_text text) → Lacks 10 text
no_line_end text fine = clean_lacks text (past (nat_lt (position_or_len is_control text) (length text)) refl (and_parts (nat_le (length text) 4096) (is_none (control_place text)) fine).1)
  where
    past : (b : Bool) → nat_lt (position_or_len is_control text) (length text) ≡ b → is_none (cond b (Some (position_or_len is_control text)) None) ≡ true → length text ≤ position_or_len is_control text
    past true e h = absurd (false≢true h)
    past false e h = grind (arith, nat_tests)

pub value_lacks : (value : Value) → IsValue value → Lacks 10 (value_text value)
value_lacks (Num number) h = milli_lacks 10 number h refl (λ e. absurd (omega (arith, e))) (λ e. absurd (omega (arith, e)))
value_lacks (Text text) h =
    (λ e. absurd (omega (arith, e)), each_append (λ it. it ≢ 10) (flat_map escaped text) (codes "\"") (text_lacks text (no_line_end text h)) (λ e. absurd (omega (arith, e)), tt))

-- texts of which one escaped text is printed
escaped_same : (one other : List ℕ) → flat_map escaped one ≡ flat_map escaped other → one ≡ other
escaped_same [] [] same = refl
escaped_same [] (y ∷ other) same = by (is_sign y) same
  where
    by : (b : Bool) → [] ≡ (if b then 92 ∷ y ∷ [] else y ∷ []) ++ flat_map escaped other → [] ≡ y ∷ other
    by true e = absurd (omega (arith, ap length e))
    by false e = absurd (omega (arith, ap length e))
escaped_same (x ∷ one) [] same = by (is_sign x) same
  where
    by : (b : Bool) → (if b then 92 ∷ x ∷ [] else x ∷ []) ++ flat_map escaped one ≡ [] → x ∷ one ≡ []
    by true e = absurd (omega (arith, ap length e))
    by false e = absurd (omega (arith, ap length e))
escaped_same (x ∷ one) (y ∷ other) same = by (is_sign x) (is_sign y) refl refl same (escaped_same one other)
  where
    glue : x ≡ y → one ≡ other → x ∷ one ≡ y ∷ other
    glue here rest = λ i. here i ∷ rest i

    -- `\` is a sign
    apart : (byte : ℕ) → is_sign byte ≡ false → byte ≢ 92
    apart byte plain e = false≢true (sym plain ∙ ap is_sign e)

    by : (a b : Bool) → is_sign x ≡ a → is_sign y ≡ b → (if a then 92 ∷ x ∷ [] else x ∷ []) ++ flat_map escaped one ≡ (if b then 92 ∷ y ∷ [] else y ∷ []) ++ flat_map escaped other
        → (flat_map escaped one ≡ flat_map escaped other → one ≡ other) → x ∷ one ≡ y ∷ other
    by true true s t e rest = glue (ap (λ l. get_or l 1 0) e) (rest (ap (drop 2) e))
    by true false s t e rest = absurd (apart y t (sym (ap (λ l. get_or l 0 0) e)))
    by false true s t e rest = absurd (apart x s (ap (λ l. get_or l 0 0) e))
    by false false s t e rest = glue (ap (λ l. get_or l 0 0) e) (rest (ap (drop 1) e))

-- a printed number doesn't begin with a quote
unquoted : (text : List ℕ) (number : ℤ) → IsMilli number → value_text (Text text) ≡ milli_text number → ⊥
unquoted text number h e = (subst (Lacks 34) (sym e) (milli_lacks 34 number h refl (λ e. absurd (omega (arith, e))) (λ e. absurd (omega (arith, e))))).0 refl

-- values of which one text is printed
pub value_same : (one other : Value) → IsValue one → IsValue other → value_text one ≡ value_text other → one ≡ other
value_same (Num n) (Num m) h k e =
    let values : Some n ≡ Some m = sym (milli_back n h) ∙ ap milli_of e ∙ milli_back m k in
    ap (λ o. Num (unwrap_or o n)) values
value_same (Num n) (Text text) h k e = absurd (unquoted text n h (sym e))
value_same (Text text) (Num m) h k e = absurd (unquoted text m k e)
value_same (Text one) (Text other) h k e =
    let inner = ap (drop 1) e in
    ap Text (escaped_same one other (append_cancel_right (flat_map escaped one) (flat_map escaped other) (codes "\"") inner))
