-- Blanks at the end of some bytes.
use Rattle.std.proofs.Common.{◌≡◌, ℕ, ◌+◌, ◌-◌, ◌<◌, true, false, List, [], ◌∷◌, length, take, get_or, refl, ap, ◌∙◌, sym, arith}
use Rattle.std.specs.Prelude.{reverse}
use Rattle.std.proofs.lemmas.List.{take_more, reverse-append, reverse-reverse}
use Rattle.moos_text.specs.Lines.{is_blank, without_front_blanks}

-- the last byte of a front comes first behind
last_first : (bytes : List ℕ) (len : ℕ) → 0 < len → len - 1 < length bytes → reverse (take len bytes) ≡ get_or bytes (len - 1) 0 ∷ reverse (take (len - 1) bytes)
last_first bytes len some within =
    let one : len ≡ len - 1 + 1 = omega arith in
    ap (λ n. reverse (take n bytes)) one ∙ ap reverse (take_more bytes (len - 1) 0 within) ∙ reverse-append (take (len - 1) bytes) (get_or bytes (len - 1) 0 ∷ [])

front_blank : (byte : ℕ) (rest : List ℕ) → is_blank byte ≡ true → without_front_blanks (byte ∷ rest) ≡ without_front_blanks rest
front_blank byte rest blank = rw blank refl

front_kept : (byte : ℕ) (rest : List ℕ) → is_blank byte ≡ false → without_front_blanks (byte ∷ rest) ≡ byte ∷ rest
front_kept byte rest kept = rw kept refl

-- a blank at the end is dropped
pub blank_back : (bytes : List ℕ) (len : ℕ) → 0 < len → len - 1 < length bytes → is_blank (get_or bytes (len - 1) 0) ≡ true → without_front_blanks (reverse (take len bytes)) ≡ without_front_blanks (reverse (take (len - 1) bytes))
blank_back bytes len some within blank = ap without_front_blanks (last_first bytes len some within) ∙ front_blank (get_or bytes (len - 1) 0) (reverse (take (len - 1) bytes)) blank

-- and nothing where another byte stands there
pub kept_back : (bytes : List ℕ) (len : ℕ) → 0 < len → len - 1 < length bytes → is_blank (get_or bytes (len - 1) 0) ≡ false → reverse (without_front_blanks (reverse (take len bytes))) ≡ take len bytes
kept_back bytes len some within kept =
    ap (λ text. reverse (without_front_blanks text)) (last_first bytes len some within) ∙ ap reverse (front_kept (get_or bytes (len - 1) 0) (reverse (take (len - 1) bytes)) kept) ∙ ap reverse (sym (last_first bytes len some within)) ∙ reverse-reverse (take len bytes)
