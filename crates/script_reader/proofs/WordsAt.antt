-- The words of a text by their places, and one behind the other.
use Rattle.std.proofs.Common.{◌≡◌, ℕ, zero, suc, ◌⊎◌, inl, inr, List, [], ◌∷◌, length, refl, ap, sym, ◌∙◌, arith}
use Rattle.std.specs.Prelude.{slice_index_or}
use Rattle.moos_text.specs.Lines.{behind_word, first_word, without_front_blanks, words_of}
use Rattle.moos_text.proofs.WordLemmas.{begins_word, no_word, no_word_split}

-- the words of a text are its first one and those behind it, or there is none
record HasNone (text : List ℕ) : Type 0 where
  pub words : words_of text ≡ []
  pub first : first_word text ≡ []
  pub behind : words_of (behind_word text) ≡ []

split : (text : List ℕ) → (words_of text ≡ first_word text ∷ words_of (behind_word text)) ⊎ HasNone text
split text = by (length (without_front_blanks text)) refl
  where
    by : (n : ℕ) → length (without_front_blanks text) ≡ n → (words_of text ≡ first_word text ∷ words_of (behind_word text)) ⊎ HasNone text
    by zero e =
        let none = no_word_split text (without_front_blanks text) refl e in
        inr (record { words = no_word text (without_front_blanks text) refl e; first = none.0; behind = ap words_of none.1 })
    by (suc n) e = inl (begins_word text (without_front_blanks text) refl (omega (arith, e)))

-- the first word, and each one behind it
pub first_at : (text : List ℕ) → slice_index_or (words_of text) 0 [] ≡ first_word text
first_at text = by (split text)
  where
    by : (words_of text ≡ first_word text ∷ words_of (behind_word text)) ⊎ HasNone text → slice_index_or (words_of text) 0 [] ≡ first_word text
    by (inl e) = ap (λ words. slice_index_or words 0 []) e
    by (inr none) = ap (λ words. slice_index_or words 0 []) none.words ∙ sym none.first

later_at : (place : ℕ) (text : List ℕ) → slice_index_or (words_of text) (suc place) [] ≡ slice_index_or (words_of (behind_word text)) place []
later_at place text = by (split text)
  where
    by : (words_of text ≡ first_word text ∷ words_of (behind_word text)) ⊎ HasNone text → slice_index_or (words_of text) (suc place) [] ≡ slice_index_or (words_of (behind_word text)) place []
    by (inl e) = ap (λ words. slice_index_or words (suc place) []) e
    by (inr none) = ap (λ words. slice_index_or words (suc place) []) none.words ∙ sym (ap (λ words. slice_index_or words place []) none.behind)

pub second_at : (text : List ℕ) → slice_index_or (words_of text) 1 [] ≡ first_word (behind_word text)
second_at text = later_at 0 text ∙ first_at (behind_word text)

pub third_at : (text : List ℕ) → slice_index_or (words_of text) 2 [] ≡ first_word (behind_word (behind_word text))
third_at text = later_at 1 text ∙ second_at (behind_word text)

pub fourth_at : (text : List ℕ) → slice_index_or (words_of text) 3 [] ≡ first_word (behind_word (behind_word (behind_word text)))
fourth_at text = later_at 2 text ∙ third_at (behind_word text)
