-- The first pass sees the whole history, where it has taken in all others.
use Rattle.std.proofs.Common.{◌≡◌, ◌≢◌, ℕ, ◌⊎◌, inl, inr, true, false, List, set, length, Option, sym, refl, ap, ◌∙◌, subst, arith}
use Rattle.std.proofs.lemmas.List.{set-get_or}
use mathlib.Core.Option.{some}
use lib.ListN.{get_elem?}
use Rattle.atomic_table.specs.Table.{Allows, keeps, Me, Step}
use Rattle.atomic_table.proofs.Lists.{at_set}
use Rattle.turn_lock.specs.declared.view.Known.{Known}
use Rattle.turn_lock.specs.declared.view.Turn.TheVariants.{Idle}
use Rattle.turn_lock.specs.Rule.{Book, Fits, has_turn, IsHome, IsOut, IsPlaced, TurnRule, Stands, tickets, weight}
use Rattle.turn_lock.specs.Steps.{Sees}
use Rattle.turn_lock.proofs.Fronts.{begins_itself}
use Rattle.turn_lock.proofs.Queues.{held_set, holder_stays}
use Rattle.turn_lock.proofs.Sums.{sum_set}
use Rattle.turn_lock.proofs.Turns.{whole}

module _ {E B S : Type 0} (base_of : S → B) (history_of : S → List E) (number : E → ℕ) (base : B) where
  -- what a pass knows is so when it has seen the whole history
  seen_fits : (log : List E) (owner : ℕ → ℕ) (total seat : ℕ) (v : Known E B) → Fits number base log owner total seat v → Fits number base log owner total seat (record v { seen = log })
  seen_fits log owner total seat v f =
      record {
        same = f.same;
        seen = begins_itself log;
        told = f.told;
        each = λ n some'. let known = f.each n some' in record { events = known.events; given = known.given; here = known.here };
        once = f.once;
        first = f.first;
        other = f.other;
      }

  -- the first pass may see all, where it has taken in all others
  pub sees : (slots id : ℕ) (me : Me (Option S) (Known E B)) (it : Step (Option S)) → me.0.live ≡ true → me.0.turn ≡ Idle → me.0.number ≡ 0 → length me.0.met ≡ me.0.made
      → Allows (TurnRule base_of history_of number base) slots id me 1 (λ n. n) (Sees number it me)
  sees slots id me it live idle first all s kept size at bound = (w, keeps, tt, subst Keeps (sym (set-get_or s.words 1 0)) (book, stands, lies kept.2), (book.log, refl, fits.seen, whole number base book s.words s.views h id v at live first all))
    where
      v : Known E B
      v = me.0

      book : Book E
      book = kept.0

      w : Known E B
      w = record v { seen = book.log }

      h : Stands number base book s.words s.views
      h = kept.1

      fits : Fits number base book.log book.owner book.total id v
      fits = (h.each id v at live).0

      Keeps : List ℕ → Type 0
      Keeps words = TurnRule base_of history_of number base (record { words = words; homes = s.homes; views = set s.views id w })

      each : (seat : ℕ) (u : Known E B) → u.live ≡ true → ((seat ≡ id) × (w ≡ u)) ⊎ ((seat ≢ id) × (get_elem? s.views seat ≡ some u)) → Fits number base book.log book.owner book.total seat u × IsPlaced book seat u.turn
      each seat u live' (inl it') = subst (λ (p : ℕ × Known E B). Fits number base book.log book.owner book.total p.0 p.1 × IsPlaced book p.0 p.1.turn) (λ i. (sym it'.0 i, it'.1 i)) (seen_fits book.log book.owner book.total id v fits, (h.each id v at live).1)
      each seat u live' (inr it') = h.each seat u it'.1 live'

      stands : Stands number base book s.words (set s.views id w)
      stands =
          record {
            words_are = h.words_are;
            each = λ seat u at' live'. each seat u live' (at_set s.views id seat w u at');
            whole = omega (arith, h.whole, sum_set weight s.views id v w at);
            lined = omega (arith, h.lined, sum_set tickets s.views id v w at);
            few = h.few;
            covered = λ n below. held_set s.views id v w at (λ l. l) n (λ k. k) (book.owner n) (h.covered n below);
            others = h.others;
          }

      lies : IsOut book s ⊎ IsHome base_of history_of base book s → IsOut book (record { words = s.words; homes = s.homes; views = set s.views id w }) ⊎ IsHome base_of history_of base book (record { words = s.words; homes = s.homes; views = set s.views id w })
      lies (inl out) = inl (out.0, (out.1.0, out.1.1, out.1.2, holder_stays base_of history_of number base s.views id out.1.0 v w out.1.1 at (ap has_turn idle) out.1.3 out.1.5, out.1.4, out.1.5))
      lies (inr home) = inr (home.0, home.1, home.2, home.3, λ seat u at' live'. by seat u live' (at_set s.views id seat w u at'))
        where
          by : (seat : ℕ) (u : Known E B) → u.live ≡ true → ((seat ≡ id) × (w ≡ u)) ⊎ ((seat ≢ id) × (get_elem? s.views seat ≡ some u)) → has_turn u.turn ≡ false
          by seat u live' (inl it') = sym (ap (λ (k : Known E B). has_turn k.turn) it'.1) ∙ ap has_turn idle
          by seat u live' (inr it') = home.4 seat u it'.1 live'
