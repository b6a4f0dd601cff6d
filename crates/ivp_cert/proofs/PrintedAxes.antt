-- A printed axis is one word, and reading it gives the axis back.
use Rattle.std.proofs.Common.{◌≡◌, ℕ, ◌^◌, ◌≤◌, true, ◌&&◌, nat_lt, nat_le, Some, List, [], ◌∷◌, ◌++◌, length, refl, ap, sym, ◌∙◌, arith, append_assoc, append-nil, length-append}
use Rattle.std.specs.Prelude.{codes, decimal, slice_index}
use Rattle.std.specs.List.{list_all, AllByRecursion as Each}
use Rattle.std.proofs.lemmas.Bool.{and_parts}
use Rattle.std.proofs.lemmas.Bool.Decides.{nat_tests}
use Rattle.moos_io.proofs.Lists.{each_append, each_true, each_weaker}
use Rattle.moos_post.specs.Words.{IsMilli}
use Rattle.moos_text.specs.Numbers.{milli_text}
use Rattle.moos_text.proofs.RoundTrip.{milli_back}
use Rattle.ivp_domain.specs.declared.axis.Axis.{Axis}
use Rattle.ivp_domain.specs.AxisNames.{is_axis_name, is_axis_letter, is_word_byte}
use Rattle.ivp_cert.specs.Texts.{axis_text}
use Rattle.ivp_cert.specs.Words.{axis_of}
use Rattle.ivp_cert.proofs.PrintedLines.{IsWord, line_of}
use Rattle.ivp_cert.proofs.PrintedNumbers.{decimal_field, InField, ink_of, milli_field, whole_back}
use Rattle.axis_reader.specs.Fields.{axis_from, fields_of}

-- an axis as its word
abbrev pub axis_word : Axis → List ℕ
axis_word axis = axis.name ++ 58 ∷ (milli_text axis.low ++ 58 ∷ (milli_text axis.high ++ 58 ∷ decimal axis.points))

field_front : (text rest : List ℕ) → Each InField text → fields_of (text ++ 58 ∷ rest) ≡ text ∷ fields_of rest
field_front [] rest each = refl
field_front (byte ∷ text) rest each = rw (each.0.apart, field_front text rest each.1) refl

field_last : (text : List ℕ) → Each InField text → fields_of text ≡ text ∷ []
field_last [] each = refl
field_last (byte ∷ text) each = rw (each.0.apart, field_last text each.1) refl

name_byte : (byte : ℕ) → is_word_byte byte ≡ true → InField byte
name_byte byte is = record { ink = grind (arith, nat_tests); apart = grind (arith, nat_tests) }

name_field : (name : List ℕ) → is_axis_name name ≡ true → Each InField name
name_field name is =
    let parts = and_parts (nat_lt 0 (length name) && is_axis_letter (slice_index name 0) && nat_le (length name) 16) (list_all is_word_byte name) is in
    each_weaker (λ byte. is_word_byte byte ≡ true) InField name_byte name (each_true is_word_byte name parts.1)

-- what the text of an axis tells
pub record IsPrintedAxis (axis : Axis) : Type 0 where
  pub name : is_axis_name axis.name ≡ true
  pub low : IsMilli axis.low
  pub high : IsMilli axis.high
  pub few : axis.points ≤ 10 ^ 9

pub axis_back : (axis : Axis) → IsPrintedAxis axis → axis_of (axis_word axis) ≡ Some axis
axis_back axis is =
    let points = decimal axis.points in
    let high = milli_text axis.high in
    let low = milli_text axis.low in
    let fields : fields_of (axis_word axis) ≡ axis.name ∷ low ∷ high ∷ points ∷ [] =
    field_front axis.name (low ++ 58 ∷ (high ++ 58 ∷ points)) (name_field axis.name is.name)
    ∙ ap (λ fs. axis.name ∷ fs) (field_front low (high ++ 58 ∷ points) (milli_field axis.low is.low))
    ∙ ap (λ fs. axis.name ∷ low ∷ fs) (field_front high points (milli_field axis.high is.high))
    ∙ ap (λ fs. axis.name ∷ low ∷ high ∷ fs) (field_last points (decimal_field axis.points (omega (arith, is.few)))) in
    ap axis_from fields ∙ rw (milli_back axis.low is.low, milli_back axis.high is.high, whole_back axis.points is.few, is.name) refl

behind_colon : (xs ys : List ℕ) → Each (λ byte. 33 ≤ byte) xs → Each (λ byte. 33 ≤ byte) ys → Each (λ byte. 33 ≤ byte) (xs ++ 58 ∷ ys)
behind_colon xs ys h k = each_append (λ byte. 33 ≤ byte) xs (58 ∷ ys) h (omega arith, k)

pub axis_is_word : (axis : Axis) → IsPrintedAxis axis → IsWord (axis_word axis)
axis_is_word axis is =
    let points = decimal axis.points in
    let high = milli_text axis.high in
    let low = milli_text axis.low in
    record {
      some = omega (arith, length-append axis.name (58 ∷ (low ++ 58 ∷ (high ++ 58 ∷ points))));
      ink =
          behind_colon axis.name (low ++ 58 ∷ (high ++ 58 ∷ points)) (ink_of axis.name (name_field axis.name is.name))
          (behind_colon low (high ++ 58 ∷ points) (ink_of low (milli_field axis.low is.low))
          (behind_colon high points (ink_of high (milli_field axis.high is.high)) (ink_of points (decimal_field axis.points (omega (arith, is.few))))));
    }

-- the line of an axis
axis_tail : (name low high points : List ℕ) → name ++ 58 ∷ (low ++ 58 ∷ (high ++ 58 ∷ (points ++ 10 ∷ []))) ≡ (name ++ 58 ∷ (low ++ 58 ∷ (high ++ 58 ∷ points))) ++ 10 ∷ []
axis_tail name low high points = simp append_assoc refl

pub axis_line : (prefix : List ℕ) (axis : Axis) → axis_text prefix axis ≡ line_of prefix (codes "domain") (axis_word axis ∷ [])
axis_line prefix axis =
    let tail = axis_tail axis.name (milli_text axis.low) (milli_text axis.high) (decimal axis.points) in
    ap (λ t. prefix ++ (codes "domain " ++ t)) (tail ∙ ap (λ t. t ++ 10 ∷ []) (sym (append-nil (axis_word axis))))
