-- How a lock begins, and how it ends.
use Rattle.std.proofs.Common.{◌≡◌, ℕ, zero, suc, ◌^◌, ◌<◌, ◌≤◌, ◌==◌, ◌⊎◌, inl, inr, true, false, cond, List, [], ◌∷◌, ◌++◌, length, Option, Some, unwrap_or, ne_eqb, sym, refl, ap, ◌∙◌, subst, arith}
use Rattle.std.proofs.lemmas.Bool.{false≢true}
use Rattle.std.proofs.lemmas.List.Sums.{sum_by_push}
use mathlib.Core.Option.{some, some-injective, some-ne-none}
use lib.ListN.{get_elem?}
use Rattle.atomic_table.specs.Table.{Final, opening, Seen, Splits, State}
use Rattle.atomic_table.proofs.Lists.{at_longer, at_snoc, set_again}
use Rattle.turn_lock.specs.declared.view.Known.{Known}
use Rattle.turn_lock.specs.declared.view.Turn.TheVariants.{Idle}
use Rattle.turn_lock.specs.Passes.{Begins, own}
use Rattle.turn_lock.specs.Rule.{Book, Fits, has_turn, IsHeldAt, IsHome, IsKnown, IsOut, IsPlaced, TurnRule, known_in, newcomer, Stands, tickets, times, weight}
use Rattle.turn_lock.specs.Steps.{closed}
use Rattle.turn_lock.proofs.Turns.{only, whole}
use Rattle.turn_lock.proofs.Sums.{one_at_most}

-- nobody but number 0 is known at the start
first_only : (E : Type 0) {B : Type 0} (base : B) (passes n : ℕ) → 0 < times (newcomer {E = E} base passes) n → n ≡ 0
first_only E base passes zero some' = refl
first_only E base passes (suc n) some' = absurd (omega (arith, some', other))
  where
    nought : ℕ
    nought = 0

    other : cond (0 == suc n) 1 nought ≡ nought
    other = ap (λ b. cond b 1 nought) (ne_eqb 0 (suc n) (λ e. absurd (omega (arith, e))))

module _ {E B S : Type 0} (base_of : S → B) (history_of : S → List E) (number : E → ℕ) (base : B) where
  -- a lock begins with the value in its slot and the first pass
  pub begins : (x : S) (passes : ℕ) → history_of x ≡ [] → base_of x ≡ base → 1 ≤ passes → passes < 2 ^ 32 → TurnRule base_of history_of number base (opening (0 ∷ 0 ∷ []) (Some x ∷ []) (newcomer base passes))
  begins x passes empty base_is some' few = (book, stands, inr (x, refl, empty, base_is, λ seat u at live. idle seat u at))
    where
      first : Known E B
      first = newcomer base passes

      book : Book E
      book = record { log = []; owner = λ n. 0; total = 1; start = 0; queue = [] }

      idle : (seat : ℕ) (u : Known E B) → get_elem? (first ∷ []) seat ≡ some u → has_turn u.turn ≡ false
      idle zero u at = sym (ap (λ (k : Known E B). has_turn k.turn) (some-injective first u at))
      idle (suc seat) u at = absurd (some-ne-none u (sym at))

      fits : Fits number base book.log book.owner book.total 0 first
      fits =
          record {
            same = refl;
            seen = ([], refl);
            told = ([], refl);
            each = λ n some''. subst (IsKnown number book.log book.owner book.total 0 first) (sym (first_only E base passes n some'')) (record { events = refl; given = omega arith; here = refl });
            once = λ n. one_at_most (0 == n);
            first = λ zero'. (omega arith, omega (arith, some', few));
            other = λ positive. absurd (omega (arith, positive));
          }

      each : (seat : ℕ) (u : Known E B) → get_elem? (first ∷ []) seat ≡ some u → Fits number base book.log book.owner book.total seat u × IsPlaced book seat u.turn
      each zero u at = subst (λ (k : Known E B). Fits number base book.log book.owner book.total 0 k × IsPlaced book 0 k.turn) (some-injective first u at) (fits, tt)
      each (suc seat) u at = absurd (some-ne-none u (sym at))

      covered : (n : ℕ) → n < 1 → IsHeldAt (first ∷ []) 0 n
      covered zero below = (first, refl, refl, omega arith)
      covered (suc n) below = absurd (omega (arith, below))

      stands : Stands number base book (0 ∷ 0 ∷ []) (first ∷ [])
      stands =
          record {
            words_are = refl;
            each = λ seat u at live. each seat u at;
            whole = refl;
            lined = refl;
            few = omega arith;
            covered = covered;
            others = λ n past. refl;
          }

  -- what is left of the first pass stands beside the others
  pub leaves : (id : ℕ) (v : Known E B) → v.turn ≡ Idle → Splits (TurnRule base_of history_of number base) id v v (closed v)
  leaves id v idle s kept at = subst Keeps (sym (set_again s.views id v at)) (book, stands, lies kept.2)
    where
      book : Book E
      book = kept.0

      h : Stands number base book s.words s.views
      h = kept.1

      twin : Known E B
      twin = closed v

      Keeps : List (Known E B) → Type 0
      Keeps views = TurnRule base_of history_of number base (record { words = s.words; homes = s.homes; views = views ++ twin ∷ [] })

      each : (seat : ℕ) (u : Known E B) → u.live ≡ true → (get_elem? s.views seat ≡ some u) ⊎ (twin ≡ u) → Fits number base book.log book.owner book.total seat u × IsPlaced book seat u.turn
      each seat u live (inl at') = h.each seat u at' live
      each seat u live (inr is) = absurd (false≢true (ap (λ (k : Known E B). k.live) is ∙ live))

      stands : Stands number base book s.words (s.views ++ twin ∷ [])
      stands =
          record {
            words_are = h.words_are;
            each = λ seat u at' live. each seat u live (at_snoc s.views twin u seat at');
            whole = omega (arith, h.whole, sum_by_push weight s.views twin);
            lined = omega (arith, h.lined, sum_by_push tickets s.views twin);
            few = h.few;
            covered = λ n below. let held = h.covered n below in (held.0, at_longer s.views (twin ∷ []) (book.owner n) held.0 held.1, held.2, held.3);
            others = h.others;
          }

      lies : IsOut book s ⊎ IsHome base_of history_of base book s → IsOut book (record { words = s.words; homes = s.homes; views = s.views ++ twin ∷ [] }) ⊎ IsHome base_of history_of base book (record { words = s.words; homes = s.homes; views = s.views ++ twin ∷ [] })
      lies (inl out) = inl (out.0, (out.1.0, out.1.1, out.1.2, at_longer s.views (twin ∷ []) out.1.0 out.1.1 out.1.3, out.1.4, out.1.5))
      lies (inr home) = inr (home.0, home.1, home.2, home.3, λ seat u at' live. by seat u live (at_snoc s.views twin u seat at'))
        where
          by : (seat : ℕ) (u : Known E B) → u.live ≡ true → (get_elem? s.views seat ≡ some u) ⊎ (twin ≡ u) → has_turn u.turn ≡ false
          by seat u live (inl at') = home.4 seat u at' live
          by seat u live (inr is) = absurd (false≢true (ap (λ (k : Known E B). k.live) is ∙ live))

  -- what stands in the slot at the end, where the first pass has taken in all others
  pub record Ends (slot : Option S) (v : Known E B) : Type 0 where
    pub x : S
    pub is : slot ≡ Some x
    pub base_is : base_of x ≡ base
    pub seen : Begins (history_of x) v.seen
    pub whole_is : (n : ℕ) → own number n (history_of x) ≡ known_in v n

  pub ends : (id : ℕ) (v : Known E B) (words : List ℕ) (slots : List (Option S)) (slot : Option S) → v.live ≡ true → v.turn ≡ Idle → v.number ≡ 0 → length v.met ≡ v.made → Final (Seen (TurnRule base_of history_of number base) id v) words slots
      → get_elem? slots 0 ≡ some slot → Ends slot v
  ends id v words slots slot live idle first all final there = by kept.2
    where
      s : State (Option S) (Known E B)
      s = final.0

      kept : TurnRule base_of history_of number base s
      kept = final.1.0

      at : get_elem? s.views id ≡ some v
      at = final.1.1

      book : Book E
      book = kept.0

      h : Stands number base book s.words s.views
      h = kept.1

      fits : Fits number base book.log book.owner book.total id v
      fits = (h.each id v at live).0

      by : IsOut book s ⊎ IsHome base_of history_of base book s → Ends slot v
      by (inl out) =
          let same : out.1.0 ≡ id = only number base book s.words s.views h id out.1.0 v out.1.1 at live first all out.1.3 out.1.4 in
          let is : out.1.1 ≡ v = some-injective out.1.1 v (sym out.1.3 ∙ (ap (get_elem? s.views) same ∙ at)) in
          absurd (false≢true (sym (ap has_turn idle) ∙ (sym (ap (λ (k : Known E B). has_turn k.turn) is) ∙ out.1.5)))
      by (inr home) =
          record {
            x = home.0;
            is = some-injective slot (Some home.0) (sym there ∙ final.4 0 (Some home.0) (ap (λ hs. get_elem? hs 0) home.1));
            base_is = home.3;
            seen = subst (λ log. Begins log v.seen) (sym home.2) fits.seen;
            whole_is = λ n. ap (own number n) home.2 ∙ whole number base book s.words s.views h id v at live first all n;
          }

-- the value that a slot holds
pub held_in : {S : Type 0} (slot : Option S) (x y : S) → slot ≡ Some x → slot ≡ Some y → y ≡ x
held_in slot x y is is' = ap (λ o. unwrap_or o x) (sym is' ∙ is)
