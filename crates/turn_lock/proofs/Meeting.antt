-- A pass that takes another one in, and sees what the other has seen.
use Rattle.std.proofs.Common.{◌≡◌, ◌≢◌, ℕ, ◌+◌, ◌<◌, ◌≤◌, ◌==◌, ◌⊎◌, inl, inr, Bool, true, false, cond, List, ◌∷◌, set, length-append, count_by, Option, eq-eqb, ne_eqb, sym, refl, ap, ◌∙◌, subst, arith}
use Rattle.std.proofs.lemmas.Bool.{false≢true}
use Rattle.std.proofs.lemmas.List.{set-get_or}
use mathlib.Core.Option.{some, some-injective}
use mathlib.Core.Logic.{dite}
use native.Mathlib.Decide.{dec_le, ℕ_discrete}
use lib.ListN.{get_elem?}
use Rattle.atomic_table.specs.Table.{Allows, Joins, keeps, Me, State, Step}
use Rattle.atomic_table.proofs.Lists.{at_set, set_else, set_here}
use Rattle.turn_lock.specs.declared.view.Known.{Known}
use Rattle.turn_lock.specs.declared.view.Met.{Met}
use Rattle.turn_lock.specs.declared.view.Turn.TheVariants.{Idle}
use Rattle.turn_lock.specs.Passes.{Begins, events_in, has_number, longer}
use Rattle.turn_lock.specs.Rule.{Book, Fits, has_turn, IsHeldAt, IsHome, IsKnown, IsOut, IsPlaced, TurnRule, known_in, Stands, tickets, times, weight}
use Rattle.turn_lock.specs.Steps.{took_in, Settles, used_up}
use Rattle.turn_lock.proofs.Fronts.{longer_of}
use Rattle.turn_lock.proofs.Mets.{count_more, count_one, events_back, events_front}
use Rattle.turn_lock.proofs.Queues.{held_set, holder_stays, tickets_of, within}
use Rattle.turn_lock.proofs.Sums.{sum_set}
use Rattle.turn_lock.proofs.Turns.{weight_of}

-- what two passes know together
joined_times : {E B : Type 0} (v w : Known E B) (n : ℕ) → times (took_in v w) n ≡ times v n + times w n
joined_times {E} v w n =
    let one : Met E = record { number = w.number; events = w.mine } in
    omega (arith, count_more n v.met (one ∷ w.met), count_one n one w.met)

joined_front : {E B : Type 0} (v w : Known E B) (n : ℕ) → 0 < times v n → known_in (took_in v w) n ≡ known_in v n
joined_front {E} v w n some' = by (v.number == n) (omega (arith, some'))
  where
    by : (b : Bool) → 0 < cond b 1 0 + count_by (has_number n) v.met → cond b v.mine (events_in (took_in v w).met n) ≡ cond b v.mine (events_in v.met n)
    by true h = refl
    by false h = events_front v.met _ n (omega arith)

joined_back : {E B : Type 0} (v w : Known E B) (n : ℕ) → times v n ≡ 0 → known_in (took_in v w) n ≡ known_in w n
joined_back {E} v w n none' = by (v.number == n) (omega (arith, none'))
  where
    by : (b : Bool) → cond b 1 0 + count_by (has_number n) v.met ≡ 0 → cond b v.mine (events_in (took_in v w).met n) ≡ known_in w n
    by true h = absurd (omega arith)
    by false h = events_back v.met _ n (omega arith)

-- the owners, with all of one seat's numbers given to another seat
abbrev moved : (ℕ → ℕ) → ℕ → ℕ → ℕ → ℕ
moved owner from to n = cond (owner n == from) to (owner n)

moved_here : (owner : ℕ → ℕ) (from to n : ℕ) → owner n ≡ from → moved owner from to n ≡ to
moved_here owner from to n e = ap (λ b. cond b to (owner n)) (eq-eqb (owner n) from e)

moved_else : (owner : ℕ → ℕ) (from to n : ℕ) → owner n ≢ from → moved owner from to n ≡ owner n
moved_else owner from to n ne = ap (λ b. cond b to (owner n)) (ne_eqb (owner n) from ne)

module _ {E B S : Type 0} (base_of : S → B) (history_of : S → List E) (number : E → ℕ) (base : B) (book : Book E) (s : State (Option S) (Known E B)) (h : Stands number base book s.words s.views) (id other : ℕ) (v w : Known E B)
    (at : get_elem? s.views id ≡ some v) (at_other : get_elem? s.views other ≡ some w) (ne : other ≢ id) (live : v.live ≡ true) (live_other : w.live ≡ true) (idle : v.turn ≡ Idle) (idle_other : w.turn ≡ Idle) where
  abbrev both : Known E B
  both = took_in v w

  abbrev met_book : Book E
  met_book = record book { owner = moved book.owner other id }

  abbrev met_views : List (Known E B)
  met_views = set (set s.views id both) other used_up

  fits : Fits number base book.log book.owner book.total id v
  fits = (h.each id v at live).0

  fits_other : Fits number base book.log book.owner book.total other w
  fits_other = (h.each other w at_other live_other).0

  still_other : get_elem? (set s.views id both) other ≡ some w
  still_other = set_else s.views id other both ne ∙ at_other

  -- who knows a number of the took_in pass
  both_known : (n : ℕ) → Dec (1 ≤ times v n) → 0 < times both n → IsKnown number met_book.log met_book.owner met_book.total id both n
  both_known n (yes some') all' =
      let known = fits.each n some' in
      record { events = known.events ∙ sym (joined_front v w n some'); given = known.given; here = moved_else book.owner other id n (λ e. ne (sym e ∙ known.here)) ∙ known.here }
  both_known n (no none') all' =
      let known = fits_other.each n (omega (arith, none', all', joined_times v w n)) in
      record { events = known.events ∙ sym (joined_back v w n (omega (arith, none'))); given = known.given; here = moved_here book.owner other id n known.here }

  never_both : (n : ℕ) → 0 < times v n → 0 < times w n → ⊥
  never_both n a b = ne (sym (fits_other.each n b).here ∙ (fits.each n a).here)

  both_once : (n : ℕ) → Dec (1 ≤ times v n) → Dec (1 ≤ times w n) → times both n ≤ 1
  both_once n (yes a) (yes b) = absurd (never_both n a b)
  both_once n (yes a) (no b) = omega (arith, b, joined_times v w n, fits.once n)
  both_once n (no a) b = omega (arith, a, joined_times v w n, fits_other.once n)

  both_fits : Fits number base met_book.log met_book.owner met_book.total id both
  both_fits =
      record {
        same = fits.same;
        seen = fits.seen;
        told = fits_other.seen;
        each = λ n some'. both_known n (dec_le 1 (times v n)) some';
        once = λ n. both_once n (dec_le 1 (times v n)) (dec_le 1 (times w n));
        first = fits.first;
        other = fits.other;
      }

  third_fits : (seat : ℕ) (u : Known E B) → seat ≢ other → Fits number base book.log book.owner book.total seat u → Fits number base met_book.log met_book.owner met_book.total seat u
  third_fits seat u ne' f =
      record {
        same = f.same;
        seen = f.seen;
        told = f.told;
        each = λ n some'. let known = f.each n some' in record { events = known.events; given = known.given; here = moved_else book.owner other id n (λ e. ne' (sym known.here ∙ e)) ∙ known.here };
        once = f.once;
        first = f.first;
        other = f.other;
      }

  abbrev Good : ℕ → Known E B → Type 0
  Good seat u = Fits number base met_book.log met_book.owner met_book.total seat u × IsPlaced met_book seat u.turn

  met_each : (seat : ℕ) (u : Known E B) → get_elem? met_views seat ≡ some u → u.live ≡ true → Good seat u
  met_each seat u at' live' = first_of (at_set (set s.views id both) other seat used_up u at')
    where
      second_of : seat ≢ other → ((seat ≡ id) × (both ≡ u)) ⊎ ((seat ≢ id) × (get_elem? s.views seat ≡ some u)) → Good seat u
      second_of ne' (inl it) = subst (λ (p : ℕ × Known E B). Good p.0 p.1) (λ i. (sym it.0 i, it.1 i)) (both_fits, subst (IsPlaced met_book id) (sym idle) tt)
      second_of ne' (inr it) = let third = h.each seat u it.1 live' in (third_fits seat u ne' third.0, third.1)

      first_of : ((seat ≡ other) × (used_up ≡ u)) ⊎ ((seat ≢ other) × (get_elem? (set s.views id both) seat ≡ some u)) → Good seat u
      first_of (inl it) = absurd (false≢true (ap (λ (k : Known E B). k.live) it.1 ∙ live'))
      first_of (inr it) = second_of it.0 (at_set s.views id seat both u it.1)

  at_both : get_elem? met_views id ≡ some both
  at_both = set_else (set s.views id both) other id used_up (λ e. ne (sym e)) ∙ set_here s.views id both (within s.views id v at)

  met_covered : (n : ℕ) → n < book.total → IsHeldAt met_views (met_book.owner n) n
  met_covered n below = dite (ℕ_discrete (book.owner n) other) theirs rest
    where
      held : IsHeldAt s.views (book.owner n) n
      held = h.covered n below

      theirs : book.owner n ≡ other → IsHeldAt met_views (met_book.owner n) n
      theirs e =
          let is : held.0 ≡ w = some-injective held.0 w (sym held.1 ∙ (ap (get_elem? s.views) e ∙ at_other)) in
          let knows : 0 < times w n = subst (λ (k : Known E B). 0 < times k n) is held.3 in
          (both, ap (get_elem? met_views) (moved_here book.owner other id n e) ∙ at_both, live, omega (arith, knows, joined_times v w n))

      rest : book.owner n ≢ other → IsHeldAt met_views (met_book.owner n) n
      rest ne' = dite (ℕ_discrete (book.owner n) id) mine third
        where
          mine : book.owner n ≡ id → IsHeldAt met_views (met_book.owner n) n
          mine e =
              let is : held.0 ≡ v = some-injective held.0 v (sym held.1 ∙ (ap (get_elem? s.views) e ∙ at)) in
              let knows : 0 < times v n = subst (λ (k : Known E B). 0 < times k n) is held.3 in
              (both, ap (get_elem? met_views) (moved_else book.owner other id n ne' ∙ e) ∙ at_both, live, omega (arith, knows, joined_times v w n))

          third : book.owner n ≢ id → IsHeldAt met_views (met_book.owner n) n
          third ne'' =
              (held.0, ap (get_elem? met_views) (moved_else book.owner other id n ne') ∙ (set_else (set s.views id both) other (book.owner n) used_up ne' ∙ (set_else s.views id (book.owner n) both ne'' ∙ held.1)), held.2, held.3)

  met_stands : Stands number base met_book s.words met_views
  met_stands =
      record {
        words_are = h.words_are;
        each = met_each;
        whole = omega (arith, h.whole, sum_set weight s.views id v both at, sum_set weight (set s.views id both) other w used_up still_other, weight_of v live, weight_of both live, weight_of w live_other, length-append v.met (record { number = w.number; events = w.mine } ∷ w.met));
        lined = omega (arith, h.lined, sum_set tickets s.views id v both at, sum_set tickets (set s.views id both) other w used_up still_other, tickets_of w Idle live_other idle_other);
        few = h.few;
        covered = met_covered;
        others = h.others;
      }

  met_lies : IsOut book s ⊎ IsHome base_of history_of base book s → IsOut met_book (record { words = s.words; homes = s.homes; views = met_views }) ⊎ IsHome base_of history_of base met_book (record { words = s.words; homes = s.homes; views = met_views })
  met_lies (inl out) =
      let one = holder_stays base_of history_of number base s.views id out.1.0 v both out.1.1 at (ap has_turn idle) out.1.3 out.1.5 in
      let two = holder_stays base_of history_of number base (set s.views id both) other out.1.0 w used_up out.1.1 still_other (ap has_turn idle_other) one out.1.5 in
      inl (out.0, (out.1.0, out.1.1, out.1.2, two, out.1.4, out.1.5))
  met_lies (inr home) = inr (home.0, home.1, home.2, home.3, λ seat u at' live'. first_of seat u live' (at_set (set s.views id both) other seat used_up u at'))
    where
      second_of : (seat : ℕ) (u : Known E B) → u.live ≡ true → ((seat ≡ id) × (both ≡ u)) ⊎ ((seat ≢ id) × (get_elem? s.views seat ≡ some u)) → has_turn u.turn ≡ false
      second_of seat u live' (inl it) = sym (ap (λ (k : Known E B). has_turn k.turn) it.1) ∙ ap has_turn idle
      second_of seat u live' (inr it) = home.4 seat u it.1 live'

      first_of : (seat : ℕ) (u : Known E B) → u.live ≡ true → ((seat ≡ other) × (used_up ≡ u)) ⊎ ((seat ≢ other) × (get_elem? (set s.views id both) seat ≡ some u)) → has_turn u.turn ≡ false
      first_of seat u live' (inl it) = sym (ap (λ (k : Known E B). has_turn k.turn) it.1)
      first_of seat u live' (inr it) = second_of seat u live' (at_set s.views id seat both u it.1)

module _ {E B S : Type 0} (base_of : S → B) (history_of : S → List E) (number : E → ℕ) (base : B) where
  -- a pass may take another one in
  pub meets : (id other : ℕ) (v w : Known E B) → v.live ≡ true → w.live ≡ true → v.turn ≡ Idle → w.turn ≡ Idle → Joins (TurnRule base_of history_of number base) id v other w (took_in v w) used_up
  meets id other v w live live_other idle idle_other s kept at ne at_other' =
      let at_other : get_elem? s.views other ≡ some w = sym (set_else s.views id other (took_in v w) ne) ∙ at_other' in (
        met_book base_of history_of number base kept.0 s kept.1 id other v w at at_other ne live live_other idle idle_other,
        met_stands base_of history_of number base kept.0 s kept.1 id other v w at at_other ne live live_other idle idle_other,
        met_lies base_of history_of number base kept.0 s kept.1 id other v w at at_other ne live live_other idle idle_other kept.2,
      )

  -- what a pass knows is so when it has seen what it was told
  settled_fits : (log : List E) (owner : ℕ → ℕ) (total seat : ℕ) (v : Known E B) → Fits number base log owner total seat v → Fits number base log owner total seat (record v { seen = longer v.seen v.told })
  settled_fits log owner total seat v f =
      record {
        same = f.same;
        seen = (longer_of log v.seen v.told f.seen f.told).0;
        told = f.told;
        each = λ n some'. let known = f.each n some' in record { events = known.events; given = known.given; here = known.here };
        once = f.once;
        first = f.first;
        other = f.other;
      }

  -- a pass may see what it was told
  pub settles : (slots id : ℕ) (me : Me (Option S) (Known E B)) (it : Step (Option S)) → me.0.live ≡ true → me.0.turn ≡ Idle → Allows (TurnRule base_of history_of number base) slots id me 1 (λ n. n) (Settles it me)
  settles slots id me it live idle s kept size at bound = (w, keeps, tt, subst Keeps (sym (set-get_or s.words 1 0)) (book, stands, lies kept.2), (refl, told.1, told.2))
    where
      v : Known E B
      v = me.0

      w : Known E B
      w = record v { seen = longer v.seen v.told }

      book : Book E
      book = kept.0

      h : Stands number base book s.words s.views
      h = kept.1

      fits : Fits number base book.log book.owner book.total id v
      fits = (h.each id v at live).0

      told : Begins book.log w.seen × Begins w.seen v.seen × Begins w.seen v.told
      told = longer_of book.log v.seen v.told fits.seen fits.told

      Keeps : List ℕ → Type 0
      Keeps words = TurnRule base_of history_of number base (record { words = words; homes = s.homes; views = set s.views id w })

      each : (seat : ℕ) (u : Known E B) → u.live ≡ true → ((seat ≡ id) × (w ≡ u)) ⊎ ((seat ≢ id) × (get_elem? s.views seat ≡ some u)) → Fits number base book.log book.owner book.total seat u × IsPlaced book seat u.turn
      each seat u live' (inl it') = subst (λ (p : ℕ × Known E B). Fits number base book.log book.owner book.total p.0 p.1 × IsPlaced book p.0 p.1.turn) (λ i. (sym it'.0 i, it'.1 i)) (settled_fits book.log book.owner book.total id v fits, (h.each id v at live).1)
      each seat u live' (inr it') = h.each seat u it'.1 live'

      stands : Stands number base book s.words (set s.views id w)
      stands =
          record {
            words_are = h.words_are;
            each = λ seat u at' live'. each seat u live' (at_set s.views id seat w u at');
            whole = omega (arith, h.whole, sum_set weight s.views id v w at);
            lined = omega (arith, h.lined, sum_set tickets s.views id v w at);
            few = h.few;
            covered = λ n below. held_set s.views id v w at (λ l. l) n (λ k. k) (book.owner n) (h.covered n below);
            others = h.others;
          }

      lies : IsOut book s ⊎ IsHome base_of history_of base book s → IsOut book (record { words = s.words; homes = s.homes; views = set s.views id w }) ⊎ IsHome base_of history_of base book (record { words = s.words; homes = s.homes; views = set s.views id w })
      lies (inl out) = inl (out.0, (out.1.0, out.1.1, out.1.2, holder_stays base_of history_of number base s.views id out.1.0 v w out.1.1 at (ap has_turn idle) out.1.3 out.1.5, out.1.4, out.1.5))
      lies (inr home) = inr (home.0, home.1, home.2, home.3, λ seat u at' live'. by seat u live' (at_set s.views id seat w u at'))
        where
          by : (seat : ℕ) (u : Known E B) → u.live ≡ true → ((seat ≡ id) × (w ≡ u)) ⊎ ((seat ≢ id) × (get_elem? s.views seat ≡ some u)) → has_turn u.turn ≡ false
          by seat u live' (inl it') = sym (ap (λ (k : Known E B). has_turn k.turn) it'.1) ∙ ap has_turn idle
          by seat u live' (inr it') = home.4 seat u it'.1 live'
