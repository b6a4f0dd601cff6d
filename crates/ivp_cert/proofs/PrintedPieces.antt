-- The words of a printed piece spell the piece.
use Rattle.std.proofs.Common.{◌≡◌, ℕ, ◌*◌, ◌^◌, ◌<◌, ◌≤◌, true, ◌&&◌, Some, List, [], ◌∷◌, ◌++◌, length, map, take, refl, ap, sym, subst, arith}
use Rattle.std.specs.Prelude.{ℤ, pos, negsuc, int_le, decimal}
use Rattle.std.specs.List.{AllByRecursion as Each}
use Rattle.std.specs.Fmt.{signed_decimal}
use Rattle.std.proofs.lemmas.Bool.{and_parts}
use Rattle.std.proofs.lemmas.Bool.Decides.{nat_tests}
use Rattle.ivp_domain.specs.declared.axis.Axis.{Axis}
use Rattle.ivp_domain.specs.Domains.{is_domain, size_on}
use Rattle.ivp_domain.proofs.Sizes.{few_on, four_axes}
use Rattle.ivp_func.specs.declared.piece.Piece.{Piece}
use Rattle.ivp_func.specs.Pieces.{is_box_of, is_flat_past, is_piece_of, is_slope, is_small}
use Rattle.ivp_func.proofs.Facts.{box_parts, low_le_high, piece_parts}
use Rattle.ivp_func.proofs.Rises.{base_within, slope_within, small_parts}
use Rattle.ivp_cert.specs.Pieces.{piece_of}
use Rattle.ivp_cert.specs.Texts.{ends_of}
use Rattle.ivp_cert.specs.Words.{integer_of, place_of}
use Rattle.ivp_cert.proofs.PrintedLines.{IsWord}
use Rattle.ivp_cert.proofs.PrintedNumbers.{decimal_word, integer_back, place_back, signed_word}

-- the words of a piece over so many axes
abbrev pub piece_words : ℕ → Piece → List (List ℕ)
piece_words axes piece = map decimal (take (2 * axes) (ends_of piece.area)) ++ signed_decimal piece.base ∷ map signed_decimal (take axes piece.slope)

-- they spell it
pub record IsSpelled (axes : ℕ) (piece : Piece) : Type 0 where
  pub back : piece_of axes (piece_words axes piece) ≡ Some piece
  pub words : Each IsWord (piece_words axes piece)

-- a printed place, and a printed number of at most so much either way
record IsPlace (n : ℕ) : Type 0 where
  pub back : place_of (decimal n) ≡ Some n
  pub word : IsWord (decimal n)

record IsNumber (most : ℕ) (z : ℤ) : Type 0 where
  pub back : integer_of most (signed_decimal z) ≡ Some z
  pub word : IsWord (signed_decimal z)

place : (n : ℕ) → n < 2 ^ 32 → IsPlace n
place n small = record { back = place_back n small; word = decimal_word n (omega (arith, small)) }

abbrev piece_at : List ℕ → List ℕ → ℤ → List ℤ → Piece
piece_at low high base slope = record { area = record { low = low; high = high }; base = base; slope = slope }

spelled_one : (l0 h0 : ℕ) (base s0 : ℤ) → IsPlace l0 → IsPlace h0 → IsNumber (10 ^ 14) base → IsNumber 100000 s0 → IsSpelled 1 (piece_at (l0 ∷ 0 ∷ 0 ∷ 0 ∷ []) (h0 ∷ 0 ∷ 0 ∷ 0 ∷ []) base (s0 ∷ pos 0 ∷ pos 0 ∷ pos 0 ∷ []))
spelled_one l0 h0 base s0 a0 b0 base_is t0 = record { back = rw (a0.back, b0.back, base_is.back, t0.back) refl; words = (a0.word, (b0.word, (base_is.word, (t0.word, tt)))) }

spelled_two : (l0 h0 l1 h1 : ℕ) (base s0 s1 : ℤ) → IsPlace l0 → IsPlace h0 → IsPlace l1 → IsPlace h1 → IsNumber (10 ^ 14) base → IsNumber 100000 s0 → IsNumber 100000 s1 → IsSpelled 2 (piece_at (l0 ∷ l1 ∷ 0 ∷ 0 ∷ []) (h0 ∷ h1 ∷ 0 ∷ 0 ∷ []) base (s0 ∷ s1 ∷ pos 0 ∷ pos 0 ∷ []))
spelled_two l0 h0 l1 h1 base s0 s1 a0 b0 a1 b1 base_is t0 t1 = record { back = rw (a0.back, b0.back, a1.back, b1.back, base_is.back, t0.back, t1.back) refl; words = (a0.word, (b0.word, (a1.word, (b1.word, (base_is.word, (t0.word, (t1.word, tt))))))) }

spelled_three : (l0 h0 l1 h1 l2 h2 : ℕ) (base s0 s1 s2 : ℤ) → IsPlace l0 → IsPlace h0 → IsPlace l1 → IsPlace h1 → IsPlace l2 → IsPlace h2 → IsNumber (10 ^ 14) base → IsNumber 100000 s0 → IsNumber 100000 s1 → IsNumber 100000 s2 → IsSpelled 3 (piece_at (l0 ∷ l1 ∷ l2 ∷ 0 ∷ []) (h0 ∷ h1 ∷ h2 ∷ 0 ∷ []) base (s0 ∷ s1 ∷ s2 ∷ pos 0 ∷ []))
spelled_three l0 h0 l1 h1 l2 h2 base s0 s1 s2 a0 b0 a1 b1 a2 b2 base_is t0 t1 t2 = record { back = rw (a0.back, b0.back, a1.back, b1.back, a2.back, b2.back, base_is.back, t0.back, t1.back, t2.back) refl; words = (a0.word, (b0.word, (a1.word, (b1.word, (a2.word, (b2.word, (base_is.word, (t0.word, (t1.word, (t2.word, tt)))))))))) }

spelled_four : (l0 h0 l1 h1 l2 h2 l3 h3 : ℕ) (base s0 s1 s2 s3 : ℤ) → IsPlace l0 → IsPlace h0 → IsPlace l1 → IsPlace h1 → IsPlace l2 → IsPlace h2 → IsPlace l3 → IsPlace h3 → IsNumber (10 ^ 14) base → IsNumber 100000 s0 → IsNumber 100000 s1 → IsNumber 100000 s2 → IsNumber 100000 s3 → IsSpelled 4 (piece_at (l0 ∷ l1 ∷ l2 ∷ l3 ∷ []) (h0 ∷ h1 ∷ h2 ∷ h3 ∷ []) base (s0 ∷ s1 ∷ s2 ∷ s3 ∷ []))
spelled_four l0 h0 l1 h1 l2 h2 l3 h3 base s0 s1 s2 s3 a0 b0 a1 b1 a2 b2 a3 b3 base_is t0 t1 t2 t3 = record { back = rw (a0.back, b0.back, a1.back, b1.back, a2.back, b2.back, a3.back, b3.back, base_is.back, t0.back, t1.back, t2.back, t3.back) refl; words = (a0.word, (b0.word, (a1.word, (b1.word, (a2.word, (b2.word, (a3.word, (b3.word, (base_is.word, (t0.word, (t1.word, (t2.word, (t3.word, tt))))))))))))) }

-- what a piece that fits keeps on an axis: its place, where there is one, and 0 past the last
record KeepsSpan (size : ℕ) (low high : ℕ) : Type 0 where
  pub rise : low ≤ high
  pub within : high < size
  pub few : size ≤ 2 ^ 28

low_place : (size low high : ℕ) → KeepsSpan size low high → IsPlace low
low_place size low high k = place low (omega (arith, k.rise, k.within, k.few))

high_place : (size low high : ℕ) → KeepsSpan size low high → IsPlace high
high_place size low high k = place high (omega (arith, k.within, k.few))

low_none : (low high : ℕ) → KeepsSpan 1 low high → low ≡ 0
low_none low high k = omega (arith, k.rise, k.within)

high_none : (low high : ℕ) → KeepsSpan 1 low high → high ≡ 0
high_none low high k = omega (arith, k.within)

slope_number : (s : ℤ) → is_slope s ≡ true → IsNumber 100000 s
slope_number s h = let b = slope_within s h in record { back = integer_back 100000 s (omega arith) b.0 b.1; word = signed_word 100000 s (omega arith) b.0 b.1 }

slope_none : (s : ℤ) → (int_le (pos 0) s && int_le s (pos 0)) ≡ true → s ≡ pos 0
slope_none (pos n) h = let same : n ≡ 0 = grind (arith, nat_tests) in ap pos same
slope_none (negsuc n) h = absurd (cc)

-- all of it
record FitsAxes (axes : List Axis) (l0 l1 l2 l3 h0 h1 h2 h3 : ℕ) (base s0 s1 s2 s3 : ℤ) : Type 0 where
  pub k0 : KeepsSpan (size_on 0 axes) l0 h0
  pub k1 : KeepsSpan (size_on 1 axes) l1 h1
  pub k2 : KeepsSpan (size_on 2 axes) l2 h2
  pub k3 : KeepsSpan (size_on 3 axes) l3 h3
  pub base_is : IsNumber (10 ^ 14) base
  pub t0 : IsNumber 100000 s0
  pub t1 : IsNumber 100000 s1
  pub t2 : IsNumber 100000 s2
  pub t3 : IsNumber 100000 s3
  pub f1 : is_flat_past axes 1 (piece_at (l0 ∷ l1 ∷ l2 ∷ l3 ∷ []) (h0 ∷ h1 ∷ h2 ∷ h3 ∷ []) base (s0 ∷ s1 ∷ s2 ∷ s3 ∷ [])) ≡ true
  pub f2 : is_flat_past axes 2 (piece_at (l0 ∷ l1 ∷ l2 ∷ l3 ∷ []) (h0 ∷ h1 ∷ h2 ∷ h3 ∷ []) base (s0 ∷ s1 ∷ s2 ∷ s3 ∷ [])) ≡ true
  pub f3 : is_flat_past axes 3 (piece_at (l0 ∷ l1 ∷ l2 ∷ l3 ∷ []) (h0 ∷ h1 ∷ h2 ∷ h3 ∷ []) base (s0 ∷ s1 ∷ s2 ∷ s3 ∷ [])) ≡ true

fits : (axes : List Axis) (l0 l1 l2 l3 h0 h1 h2 h3 : ℕ) (base s0 s1 s2 s3 : ℤ) → is_domain axes ≡ true → is_piece_of axes (piece_at (l0 ∷ l1 ∷ l2 ∷ l3 ∷ []) (h0 ∷ h1 ∷ h2 ∷ h3 ∷ []) base (s0 ∷ s1 ∷ s2 ∷ s3 ∷ [])) ≡ true → FitsAxes axes l0 l1 l2 l3 h0 h1 h2 h3 base s0 s1 s2 s3
fits axes l0 l1 l2 l3 h0 h1 h2 h3 base s0 s1 s2 s3 domain h =
    let piece = (piece_at (l0 ∷ l1 ∷ l2 ∷ l3 ∷ []) (h0 ∷ h1 ∷ h2 ∷ h3 ∷ []) base (s0 ∷ s1 ∷ s2 ∷ s3 ∷ [])) in
    let parts = piece_parts axes piece h in
    let box = box_parts axes piece.area parts.0 in
    let small = small_parts piece parts.1 in
    let b = base_within base small.0 in
    let whole = is_box_of axes piece.area && is_small piece in
    let three = and_parts (whole && is_flat_past axes 1 piece && is_flat_past axes 2 piece) (is_flat_past axes 3 piece) h in
    let two = and_parts (whole && is_flat_past axes 1 piece) (is_flat_past axes 2 piece) three.0 in
    let one = and_parts whole (is_flat_past axes 1 piece) two.0 in
    record {
      k0 = record { rise = low_le_high piece.area box.0 0 (omega arith); within = box.1; few = few_on axes domain 0 (omega arith) };
      k1 = record { rise = low_le_high piece.area box.0 1 (omega arith); within = box.2; few = few_on axes domain 1 (omega arith) };
      k2 = record { rise = low_le_high piece.area box.0 2 (omega arith); within = box.3; few = few_on axes domain 2 (omega arith) };
      k3 = record { rise = low_le_high piece.area box.0 3 (omega arith); within = box.4; few = few_on axes domain 3 (omega arith) };
      base_is = record { back = integer_back (10 ^ 14) base (omega arith) b.0 b.1; word = signed_word (10 ^ 14) base (omega arith) b.0 b.1 };
      t0 = slope_number s0 small.1;
      t1 = slope_number s1 small.2;
      t2 = slope_number s2 small.3;
      t3 = slope_number s3 small.4;
      f1 = one.1;
      f2 = two.1;
      f3 = three.1;
    }

by_axes : (axes : List Axis) (l0 l1 l2 l3 h0 h1 h2 h3 : ℕ) (base s0 s1 s2 s3 : ℤ) → is_domain axes ≡ true → FitsAxes axes l0 l1 l2 l3 h0 h1 h2 h3 base s0 s1 s2 s3 → IsSpelled (length axes) (piece_at (l0 ∷ l1 ∷ l2 ∷ l3 ∷ []) (h0 ∷ h1 ∷ h2 ∷ h3 ∷ []) base (s0 ∷ s1 ∷ s2 ∷ s3 ∷ []))
by_axes [] l0 l1 l2 l3 h0 h1 h2 h3 base s0 s1 s2 s3 domain f = absurd (cc)
by_axes (a ∷ []) l0 l1 l2 l3 h0 h1 h2 h3 base s0 s1 s2 s3 domain f = rw (low_none l1 h1 f.k1, high_none l1 h1 f.k1, low_none l2 h2 f.k2, high_none l2 h2 f.k2, low_none l3 h3 f.k3, high_none l3 h3 f.k3, slope_none s1 f.f1, slope_none s2 f.f2, slope_none s3 f.f3) (spelled_one l0 h0 base s0 (low_place a.points l0 h0 f.k0) (high_place a.points l0 h0 f.k0) f.base_is f.t0)
by_axes (a ∷ b ∷ []) l0 l1 l2 l3 h0 h1 h2 h3 base s0 s1 s2 s3 domain f = rw (low_none l2 h2 f.k2, high_none l2 h2 f.k2, low_none l3 h3 f.k3, high_none l3 h3 f.k3, slope_none s2 f.f2, slope_none s3 f.f3) (spelled_two l0 h0 l1 h1 base s0 s1 (low_place a.points l0 h0 f.k0) (high_place a.points l0 h0 f.k0) (low_place b.points l1 h1 f.k1) (high_place b.points l1 h1 f.k1) f.base_is f.t0 f.t1)
by_axes (a ∷ b ∷ d ∷ []) l0 l1 l2 l3 h0 h1 h2 h3 base s0 s1 s2 s3 domain f = rw (low_none l3 h3 f.k3, high_none l3 h3 f.k3, slope_none s3 f.f3) (spelled_three l0 h0 l1 h1 l2 h2 base s0 s1 s2 (low_place a.points l0 h0 f.k0) (high_place a.points l0 h0 f.k0) (low_place b.points l1 h1 f.k1) (high_place b.points l1 h1 f.k1) (low_place d.points l2 h2 f.k2) (high_place d.points l2 h2 f.k2) f.base_is f.t0 f.t1 f.t2)
by_axes (a ∷ b ∷ d ∷ e ∷ []) l0 l1 l2 l3 h0 h1 h2 h3 base s0 s1 s2 s3 domain f = spelled_four l0 h0 l1 h1 l2 h2 l3 h3 base s0 s1 s2 s3 (low_place a.points l0 h0 f.k0) (high_place a.points l0 h0 f.k0) (low_place b.points l1 h1 f.k1) (high_place b.points l1 h1 f.k1) (low_place d.points l2 h2 f.k2) (high_place d.points l2 h2 f.k2) (low_place e.points l3 h3 f.k3) (high_place e.points l3 h3 f.k3) f.base_is f.t0 f.t1 f.t2 f.t3
by_axes (a ∷ b ∷ d ∷ e ∷ g ∷ axes) l0 l1 l2 l3 h0 h1 h2 h3 base s0 s1 s2 s3 domain f = absurd (omega (arith, four_axes (a ∷ b ∷ d ∷ e ∷ g ∷ axes) domain))

-- a list of four
pub record Four {A : Type 0} (xs : List A) : Type 0 where
  pub one : A
  pub two : A
  pub three : A
  pub four : A
  pub is : xs ≡ one ∷ two ∷ three ∷ four ∷ []

pub four_of : {A : Type 0} (xs : List A) → length xs ≡ 4 → Four xs
four_of (a ∷ b ∷ d ∷ e ∷ []) h = record { one = a; two = b; three = d; four = e; is = refl }
four_of [] h = absurd (omega (arith, h))
four_of (a ∷ []) h = absurd (omega (arith, h))
four_of (a ∷ b ∷ []) h = absurd (omega (arith, h))
four_of (a ∷ b ∷ d ∷ []) h = absurd (omega (arith, h))
four_of (a ∷ b ∷ d ∷ e ∷ g ∷ xs) h = absurd (omega (arith, h))

-- a piece that fits is spelled by its words
pub piece_spelled : (axes : List Axis) (piece : Piece) → is_domain axes ≡ true → is_piece_of axes piece ≡ true → length piece.area.low ≡ 4 → length piece.area.high ≡ 4 → length piece.slope ≡ 4 → IsSpelled (length axes) piece
piece_spelled axes piece domain fit low high slope =
    let l = four_of piece.area.low low in
    let h = four_of piece.area.high high in
    let s = four_of piece.slope slope in
    let Goal = λ (lows highs : List ℕ) (slopes : List ℤ). (is_piece_of axes (piece_at lows highs piece.base slopes) ≡ true → IsSpelled (length axes) (piece_at lows highs piece.base slopes)) in
    let at : Goal (l.one ∷ l.two ∷ l.three ∷ l.four ∷ []) (h.one ∷ h.two ∷ h.three ∷ h.four ∷ []) (s.one ∷ s.two ∷ s.three ∷ s.four ∷ []) =
    λ known. by_axes axes l.one l.two l.three l.four h.one h.two h.three h.four piece.base s.one s.two s.three s.four domain
    (fits axes l.one l.two l.three l.four h.one h.two h.three h.four piece.base s.one s.two s.three s.four domain known) in
    subst (λ lows. Goal lows piece.area.high piece.slope) (sym l.is)
    (subst (λ highs. Goal (l.one ∷ l.two ∷ l.three ∷ l.four ∷ []) highs piece.slope) (sym h.is)
    (subst (λ slopes. Goal (l.one ∷ l.two ∷ l.three ∷ l.four ∷ []) (h.one ∷ h.two ∷ h.three ∷ h.four ∷ []) slopes) (sym s.is) at)) fit
