-- What is looked up in a table by name, once a value was set in it, and while its entries are taken out one by one.
use Rattle.std.proofs.Common.{◌≡◌, ℕ, Bool, List, ◌∷◌, Option, Some, None, bytes_eq, refl, ap, ◌∙◌, if◌then◌else◌, inl, inr}
use Rattle.std.specs.Cmp.Lexicographic.{on_texts_equal}
use Rattle.std.specs.List.{IsDistinct}
use Rattle.std.specs.Map.{AreApart, IsKeyTest, KeepsOthers, keys_of, lookup}
use Rattle.std.specs.Option.{option_or}
use Rattle.std.specs.Ordering.{on}
use Rattle.std.proofs.lemmas.Bool.{both_ways, cases_Bool, false_from_ne_true}
use Rattle.std.proofs.lemmas.Map.{lookup-none}
use Rattle.std.proofs.lemmas.Map.Entries.{none_past_head}
use Rattle.std.proofs.lemmas.Slice.Eq.{bytes_eq-Decides}

module _ {K V : Type 0} (name : K → List ℕ) where
  -- the value of the first entry of this name
  abbrev pub value_at : List ℕ → List (K × V) → Option V
  value_at var entries = lookup (λ key. bytes_eq var (name key)) entries

  kept : (test : K → Bool) (before after : List (K × V)) → KeepsOthers (on name bytes_eq) test before after → (other : K → Bool) → IsKeyTest (on name bytes_eq) other → AreApart test other → lookup other after ≡ lookup other before
  unfolding KeepsOthers
  kept test before after keeps = keeps

  -- after this value was set for a name, and nothing else was
  pub value_set : (var : List ℕ) (value : V) (before after : List (K × V)) → KeepsOthers (on name bytes_eq) (λ key. bytes_eq var (name key)) before after → value_at var after ≡ Some value →
      (other : List ℕ) → value_at other after ≡ (if bytes_eq other var then Some value else value_at other before)
  value_set var value before after keeps set other = elim (cases_Bool (bytes_eq other var)) [
    | inl same ↦ rw same (ap (λ sought. value_at sought after) ((bytes_eq-Decides other var).0 same) ∙ set)
    | inr apart ↦ rw apart (kept (λ key. bytes_eq var (name key)) before after keeps (λ key. bytes_eq other (name key))
        (λ x y is. ap (λ sought. bytes_eq sought (name y)) ((bytes_eq-Decides other (name x)).0 is))
        (λ key is. false_from_ne_true (bytes_eq other (name key)) (λ own.
        both_ways _ apart (ap (bytes_eq other) ((bytes_eq-Decides var (name key)).0 is) ∙ own))))
  ]

  -- the value of the first entry that is left, taken out and set, is what was looked up in it
  pub value_taken : (key : K) (value : V) (left : List (K × V)) (known : List ℕ → Option V) → IsDistinct (on name bytes_eq) (keys_of ((key, value) ∷ left)) →
      (var : List ℕ) → option_or (value_at var left) (if bytes_eq var (name key) then Some value else known var) ≡ option_or (value_at var ((key, value) ∷ left)) (known var)
  value_taken key value left known distinct var = elim (cases_Bool (bytes_eq var (name key))) [
    | inl own ↦
        let none : value_at (name key) left ≡ None =
        lookup-none (on name bytes_eq key) left (none_past_head (on_texts_equal name) key (key, value) left distinct ((bytes_eq-Decides (name key) (name key)).1 refl)) in
        rw own (ap (λ found. option_or found (Some value)) (ap (λ sought. value_at sought left) ((bytes_eq-Decides var (name key)).0 own) ∙ none))
    | inr other ↦ rw other refl
  ]
