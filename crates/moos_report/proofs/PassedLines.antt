-- Lines on which no entry begins, nor the end, are passed over.
use Rattle.std.proofs.Common.{◌≡◌, ◌≢◌, ℕ, zero, suc, ◌+◌, ◌/◌, ◌%◌, inl, inr, Bool, true, false, ◌&&◌, ◌||◌, ◌==◌, not, List, [], ◌∷◌, ◌++◌, flat_map, take, refl, ap, sym, ◌∙◌, subst, arith, append_assoc}
use Rattle.std.specs.Prelude.{ℤ, pos, negsuc, bytes_eq, codes, decimal, nat_lt, IsTrue, if◌then◌else◌}
use Rattle.std.specs.List.{All, AllByRecursion as Each}
use Rattle.std.specs.Fmt.{digit_glyph, digits, digits_onto}
use Rattle.std.proofs.lemmas.Bool.Decides.{nat_tests}
use Rattle.std.proofs.lemmas.List.Elements.{recursion_from_All}
use Rattle.moos_io.proofs.Lists.{each_append, each_weaker}
use Rattle.moos_post.specs.Words.{is_digit}
use Rattle.moos_text.specs.Numbers.{decimals_text, milli_text, unsigned_text}
use Rattle.moos_text.proofs.PrintedDigits.{decimals_shape, Shape}
use Rattle.moos_report.specs.Community.{is_one_line}
use Rattle.moos_report.proofs.Cuts.{Lacks, lacks_all}

-- an entry or the end begins here
abbrev is_next : List ℕ → Bool
is_next text = bytes_eq (take 9 text) (codes "%% entry ") || bytes_eq (take 7 text) (codes "%% end ")

-- the first line on which one begins, and what is behind it; `first` says that a line begins here
abbrev pub next_entry : Bool → List ℕ → List ℕ
next_entry first [] = []
next_entry first (byte ∷ text) = if first && is_next (byte ∷ text) then byte ∷ text else next_entry (byte == 10) text

-- the rest of a line is passed over
rest_skipped : (rest after : List ℕ) → Lacks 10 rest → next_entry false (rest ++ 10 ∷ after) ≡ next_entry true after
rest_skipped [] after lacks = refl
rest_skipped (byte ∷ rest) after lacks = ap (λ first. next_entry first (rest ++ 10 ∷ after)) (other lacks.0) ∙ rest_skipped rest after lacks.1
  where
    other : byte ≢ 10 → (byte == 10) ≡ false
    other differs = by (byte == 10) refl
      where
        by : (b : Bool) → (byte == 10) ≡ b → b ≡ false
        by true same = absurd (differs (grind (arith, nat_tests)))
        by false same = refl

-- no line end stands in the text
abbrev pub Clean : List ℕ → Type 0
Clean text = Lacks 10 text

pub clean_on : (one other : List ℕ) → Clean one → Clean other → Clean (one ++ other)
clean_on one other = each_append (λ it. it ≢ 10) one other

pub clean_line : (text : List ℕ) → IsTrue (is_one_line text) → Clean text
clean_line text line = lacks_all (λ byte. not (byte == 10)) 10 text refl line

pub names_clean : (names : List (List ℕ)) → All (λ name. IsTrue (is_one_line name)) names → Each Clean names
names_clean names lines = each_weaker (λ name. IsTrue (is_one_line name)) Clean clean_line names (recursion_from_All (λ name. IsTrue (is_one_line name)) names lines)

-- a printed number holds no line end, however great it is
glyph_other : (digit : ℕ) → digit_glyph false digit ≢ 10
glyph_other digit = by (nat_lt digit 10)
  where
    by : (b : Bool) → (if b then 48 + digit else 87 + digit) ≢ 10
    by true same = absurd (omega (arith, same))
    by false same = absurd (omega (arith, same))

digits_lack : (places n : ℕ) (behind : List ℕ) → Lacks 10 behind → Lacks 10 (digits_onto places 10 false n behind)
digits_lack zero n behind lacks = lacks
digits_lack (suc places) n behind lacks = by (n / 10 == 0) (digits_lack places (n / 10) (digit_glyph false (n % 10) ∷ behind) (glyph_other (n % 10), lacks))
  where
    by : (b : Bool) → Lacks 10 (digits_onto places 10 false (n / 10) (digit_glyph false (n % 10) ∷ behind))
        → Lacks 10 (if b then digit_glyph false (n % 10) ∷ behind else digits_onto places 10 false (n / 10) (digit_glyph false (n % 10) ∷ behind))
    by true more = (glyph_other (n % 10), lacks)
    by false more = more

pub whole_lacks : (n : ℕ) → Lacks 10 (decimal n)
unfolding digits
whole_lacks n = digits_lack 64 n [] tt

pub unsigned_clean : (n : ℕ) → Lacks 10 (unsigned_text n)
unsigned_clean n = each_append (λ it. it ≢ 10) (decimal (n / 1000)) (decimals_text (n % 1000)) (whole_lacks (n / 1000)) (by (decimals_shape (n % 1000) (omega arith)))
  where
    by : Shape (n % 1000) → Lacks 10 (decimals_text (n % 1000))
    by (inl none) = subst (Lacks 10) (sym none.0) tt
    by (inr some) = subst (Lacks 10) (sym some.1) (λ same. absurd (omega (arith, same)), lacks_all is_digit 10 some.0 refl some.2)

pub milli_clean : (number : ℤ) → Clean (milli_text number)
milli_clean (pos n) = unsigned_clean n
milli_clean (negsuc n) = (λ same. absurd (omega (arith, same)), unsigned_clean (suc n))

-- the text is passed over, whatever stands behind it
abbrev pub IsPassed : List ℕ → Type 0
IsPassed text = (after : List ℕ) → next_entry true (text ++ after) ≡ next_entry true after

pub passed_none : IsPassed []
passed_none after = refl

pub passed_on : (one other : List ℕ) → IsPassed one → IsPassed other → IsPassed (one ++ other)
passed_on one other first second after = ap (next_entry true) (append_assoc one other after) ∙ first (other ++ after) ∙ second after

pub passed_each : {X : Type 0} (text : X → List ℕ) (all : List X) → Each (λ x. IsPassed (text x)) all → IsPassed (flat_map text all)
passed_each text [] each = passed_none
passed_each text (x ∷ all) each = passed_on (text x) (flat_map text all) each.0 (passed_each text all each.1)

-- no entry begins so, and not the end
abbrev pub Begins : List ℕ → Type 0
Begins head = (text : List ℕ) → next_entry true (head ++ text) ≡ next_entry false text

-- a line that begins so
pub line_passed : (head body : List ℕ) → Begins head → Clean body → IsPassed (head ++ (body ++ codes "\n"))
line_passed head body begins clean after =
    ap (next_entry true) (append_assoc head (body ++ codes "\n") after ∙ ap (λ text. head ++ text) (append_assoc body (codes "\n") after))
    ∙ begins (body ++ 10 ∷ after) ∙ rest_skipped body after clean

-- the same line written otherwise
pub passed_as : {text other : List ℕ} → text ≡ other → IsPassed other → IsPassed text
passed_as same passed = subst IsPassed (sym same) passed
