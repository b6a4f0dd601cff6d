-- A table of rows kept as the entries of a map: what is looked up and set in the one is so in the other.
use Rattle.std.proofs.Common.{◌≡◌, ◌∙◌, ℕ, Bool, true, false, cond, List, [], ◌∷◌, map, find, Some, option_map, bytes_eq, refl, ap, sym, inl, inr}
use Rattle.std.specs.Map.{AreApart, IsKeyTest, KeepsOthers, lookup}
use Rattle.std.specs.Ordering.{on}
use Rattle.std.proofs.lemmas.Bool.{both_ways, cases_Bool, false_from_ne_true}
use Rattle.std.proofs.lemmas.Slice.Eq.{bytes_eq-Decides}
use Rattle.moos_db.specs.Tables.{GetsNumber, number_of, Row}

module _ {K : Type 0} (name : K → List ℕ) where
  -- an entry of the map as a row
  abbrev pub row : K × ℕ → Row
  row entry = record { var = name entry.0; number = entry.1 }

  pub looked_up : (var : List ℕ) (entries : List (K × ℕ)) →
      lookup (λ key. bytes_eq var (name key)) entries ≡ number_of var (map row entries)
  looked_up var [] = refl
  looked_up var (entry ∷ entries) = through (bytes_eq var (name entry.0)) (looked_up var entries)
    where
      through : (own : Bool) → lookup (λ key. bytes_eq var (name key)) entries ≡ number_of var (map row entries) →
          cond own (Some entry.1) (lookup (λ key. bytes_eq var (name key)) entries)
          ≡ option_map (λ (one : Row). one.number) (cond own (Some (row entry)) (find (λ one. bytes_eq var one.var) (map row entries)))
      through true rest = refl
      through false rest = rest

  kept : (test : K → Bool) (before after : List (K × ℕ)) → KeepsOthers (on name bytes_eq) test before after → (other : K → Bool) → IsKeyTest (on name bytes_eq) other → AreApart test other → lookup other after ≡ lookup other before
  unfolding KeepsOthers
  kept test before after keeps = keeps

  -- after this number was set for a name, and nothing else was
  pub numbered : (var : List ℕ) (number : ℕ) (before after : List (K × ℕ)) → KeepsOthers (on name bytes_eq) (λ key. bytes_eq var (name key)) before after → lookup (λ key. bytes_eq var (name key)) after ≡ Some number →
      GetsNumber var number (map row before) (map row after)
  numbered var number before after keeps set other = sym (looked_up other after) ∙ elim (cases_Bool (bytes_eq var other)) [
    | inl same ↦ rw same (ap (λ sought. lookup (λ key. bytes_eq sought (name key)) after) (sym ((bytes_eq-Decides var other).0 same)) ∙ set)
    | inr apart ↦ rw apart (kept (λ key. bytes_eq var (name key)) before after keeps (λ key. bytes_eq other (name key))
        (λ x y is. ap (λ sought. bytes_eq sought (name y)) ((bytes_eq-Decides other (name x)).0 is))
        (λ key is. false_from_ne_true (bytes_eq other (name key)) (λ own.
        both_ways _ apart (ap (bytes_eq var) ((bytes_eq-Decides other (name key)).0 own) ∙ is)))
        ∙ looked_up other before)
  ]
