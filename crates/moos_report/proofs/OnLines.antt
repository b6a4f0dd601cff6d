-- Names and texts stand on one line.
use Rattle.std.proofs.Common.{◌≡◌, ℕ, ◌≤◌, Bool, true, false, cond, not, ◌&&◌, ◌==◌, nat_lt, nat_le, List, [], ◌∷◌, length, refl, ap, sym, ◌∙◌, arith, None, Some}
use Rattle.std.specs.Prelude.{IsTrue, is_none}
use Rattle.std.specs.List.{list_all, position_or_len}
use Rattle.std.proofs.lemmas.Bool.{and_parts, eqb-true}
use Rattle.std.proofs.lemmas.Bool.Decides.{nat_tests}
use Rattle.std.proofs.lemmas.List.Sums.{fails_before_first, list_all-from_AllPass}
use Rattle.ivp_domain.specs.AxisNames.{is_axis_name, is_word_byte}
use Rattle.moos_io.proofs.Lists.{each_true, each_weaker, true_each}
use Rattle.moos_post.specs.Words.{begins_name, control_place, is_control, is_name, is_name_byte, is_text}
use Rattle.moos_report.specs.Community.{is_one_line}

-- bytes that pass a test which a line end doesn't pass
on_one_line : (p : ℕ → Bool) (text : List ℕ) → p 10 ≡ false → list_all p text ≡ true → IsTrue (is_one_line text)
on_one_line p text fails passes = true_each (λ byte. not (byte == 10)) text (each_weaker (λ byte. p byte ≡ true) (λ byte. not (byte == 10) ≡ true) other text (each_true p text passes))
  where
    other : (byte : ℕ) → p byte ≡ true → not (byte == 10) ≡ true
    other byte is = by (byte == 10) refl
      where
        by : (b : Bool) → (byte == 10) ≡ b → not b ≡ true
        by true same = let both : true ≡ false = sym is ∙ ap p (eqb-true byte 10 same) ∙ fails in absurd cc
        by false same = refl

pub name_line : (name : List ℕ) → IsTrue (is_name name) → IsTrue (is_one_line name)
name_line [] is = absurd cc
name_line (first ∷ rest) is =
    on_one_line is_name_byte (first ∷ rest) refl
    (and_parts (begins_name first) (list_all is_name_byte (first ∷ rest)) (and_parts (begins_name first && list_all is_name_byte (first ∷ rest)) (nat_le (length (first ∷ rest)) 64) is).0).1

pub axis_line : (name : List ℕ) → IsTrue (is_axis_name name) → IsTrue (is_one_line name)
axis_line name is = on_one_line is_word_byte name refl (and_parts _ (list_all is_word_byte name) is).1

pub text_line : (text : List ℕ) → IsTrue (is_text text) → IsTrue (is_one_line text)
text_line text is =
    let free = past (nat_lt (position_or_len is_control text) (length text)) refl (and_parts (nat_le (length text) 4096) (is_none (control_place text)) is).1 in
    on_one_line (λ byte. not (is_control byte)) text refl
    (list_all-from_AllPass (λ byte. not (is_control byte)) text (λ k d within. ap not (fails_before_first is_control text k d (omega (arith, within, free)))))
  where
    past : (b : Bool) → nat_lt (position_or_len is_control text) (length text) ≡ b → is_none (cond b (Some (position_or_len is_control text)) None) ≡ true → length text ≤ position_or_len is_control text
    past true e none = absurd cc
    past false e none = grind (arith, nat_tests)
