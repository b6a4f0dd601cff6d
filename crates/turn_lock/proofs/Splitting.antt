-- A pass that is split off the first one, new or taken in before.
use Rattle.std.proofs.Common.{◌≡◌, ◌≢◌, ℕ, zero, suc, ◌+◌, ◌-◌, ◌^◌, ◌<◌, ◌≤◌, ◌==◌, ◌⊎◌, inl, inr, true, false, cond, List, [], ◌∷◌, ◌++◌, set, length, length-set, count_by, Option, eq-eqb, ne_eqb, sym, refl, ap, ◌∙◌, subst, arith}
use Rattle.std.specs.List.{list_any}
use Rattle.std.proofs.lemmas.List.Sums.{sum_by_push}
use mathlib.Core.Option.{some, some-injective, some-ne-none}
use mathlib.Core.Logic.{dite}
use native.Mathlib.Decide.{ℕ_discrete}
use lib.ListN.{get_elem?}
use Rattle.atomic_table.specs.Table.{Splits, State}
use Rattle.atomic_table.proofs.Lists.{at_last, at_longer, at_set, at_snoc}
use Rattle.turn_lock.specs.declared.view.Known.{Known}
use Rattle.turn_lock.specs.declared.view.Met.{Met}
use Rattle.turn_lock.specs.declared.view.Turn.TheVariants.{Idle}
use Rattle.turn_lock.specs.Passes.{events_in, has_number, own, without_number}
use Rattle.turn_lock.specs.Rule.{Book, Fits, has_turn, IsHeldAt, IsHome, IsKnown, IsOut, IsPlaced, TurnRule, known_in, Stands, tickets, times, weight}
use Rattle.turn_lock.specs.Steps.{apart, split_off, new_of, parted, part_of}
use Rattle.turn_lock.proofs.Mets.{count_gone, count_kept, events_kept, length_without, met_counts}
use Rattle.turn_lock.proofs.Queues.{held_set, holder_stays, home_set}
use Rattle.turn_lock.proofs.Sums.{one_at_most, sum_set}
use Rattle.turn_lock.proofs.Turns.{weight_of}

-- the first pass with other counts, and with others taken in
abbrev changed : {E B : Type 0} → Known E B → ℕ → ℕ → List (Met E) → Known E B
changed v left made met = record v { left = left; made = made; met = met }

-- the owners, with one number's changed
abbrev owned_by : (ℕ → ℕ) → ℕ → ℕ → ℕ → ℕ
owned_by owner n seat m = cond (m == n) seat (owner m)

owned_here : (owner : ℕ → ℕ) (n seat : ℕ) → owned_by owner n seat n ≡ seat
owned_here owner n seat = ap (λ b. cond b seat (owner n)) (eq-eqb n n refl)

owned_else : (owner : ℕ → ℕ) (n seat m : ℕ) → m ≢ n → owned_by owner n seat m ≡ owner m
owned_else owner n seat m ne = ap (λ b. cond b seat (owner m)) (ne_eqb m n ne)

-- what a cut keeps: all numbers but one stay with the first pass, and that one goes to the other
record Cuts {E B : Type 0} (number : E → ℕ) (book : Book E) (id : ℕ) (v : Known E B) (left made : ℕ) (met : List (Met E)) (n : ℕ) (mine : List E) (total : ℕ) : Type 0 where
  live : v.live ≡ true
  idle : v.turn ≡ Idle
  first : v.number ≡ 0
  kept : (m : ℕ) → m ≢ n → (times (changed v left made met) m ≡ times v m) × (known_in (changed v left made met) m ≡ known_in v m)
  gone : times (changed v left made met) n ≡ 0
  mine_is : own number n book.log ≡ mine
  positive : 0 < n
  grows : book.total ≤ total
  below : n < total
  few : total ≤ 2 ^ 32
  counts : (made + 1 ≡ total) × (total + left ≤ 2 ^ 32)
  weights : length met + 1 + book.total ≡ length v.met + total
  only_n : (m : ℕ) → m < total → m ≢ n → m < book.total
  fresh : (m : ℕ) → m < book.total → book.owner m ≢ id → m ≢ n

module _ {E B S : Type 0} (base_of : S → B) (history_of : S → List E) (number : E → ℕ) (base : B) (book : Book E) (id : ℕ) (v : Known E B) (left made : ℕ) (met : List (Met E)) (n : ℕ) (mine : List E) (total : ℕ) (cuts : Cuts number book id v left made met n mine total)
    (s : State (Option S) (Known E B)) (at : get_elem? s.views id ≡ some v) (h : Stands number base book s.words s.views) where
  abbrev one : Known E B
  one = changed v left made met

  abbrev two : Known E B
  two = apart v n mine

  abbrev cut_book : Book E
  cut_book = record book { owner = owned_by book.owner n (length s.views); total = total }

  abbrev cut_views : List (Known E B)
  cut_views = set s.views id one ++ two ∷ []

  long : length (set s.views id one) ≡ length s.views
  long = length-set s.views id one

  fits : Fits number base book.log book.owner book.total id v
  fits = (h.each id v at cuts.live).0

  some_else : (m : ℕ) → 0 < times one m → m ≢ n
  some_else m some' e = absurd (omega (arith, ap (times one) e, cuts.gone, some'))

  one_fits : Fits number base cut_book.log cut_book.owner cut_book.total id one
  one_fits =
      record {
        same = fits.same;
        seen = fits.seen;
        told = fits.told;
        each = λ m some'.
            let ne = some_else m some' in
            let kept = cuts.kept m ne in
            let known = fits.each m (omega (arith, some', kept.0)) in
            record { events = known.events ∙ sym kept.1; given = omega (arith, known.given, cuts.grows); here = owned_else book.owner n (length s.views) m ne ∙ known.here };
        once = λ m. dite (ℕ_discrete m n) (λ e. omega (arith, ap (times one) e, cuts.gone)) (λ ne. omega (arith, (cuts.kept m ne).0, fits.once m));
        first = λ zero'. cuts.counts;
        other = λ positive. absurd (omega (arith, positive, cuts.first));
      }

  -- the numbers that the pass split off knows
  two_times : (m : ℕ) → 0 < times two m → m ≡ n
  two_times m some' = dite (ℕ_discrete n m) (λ e. sym e) (λ ne. absurd (none ne))
    where
      none : n ≢ m → ⊥
      none ne = let nought : ℕ = 0 in let not : cond (n == m) 1 nought ≡ nought = ap (λ b. cond b 1 nought) (ne_eqb n m ne) in omega (arith, some', not)

  two_fits : Fits number base cut_book.log cut_book.owner cut_book.total (length s.views) two
  two_fits =
      record {
        same = fits.same;
        seen = fits.seen;
        told = (book.log, refl);
        each = λ m some'. subst (IsKnown number cut_book.log cut_book.owner cut_book.total (length s.views) two) (sym (two_times m some'))
            (record { events = cuts.mine_is ∙ sym (ap (λ b. cond b mine []) (eq-eqb n n refl)); given = cuts.below; here = owned_here book.owner n (length s.views) });
        once = λ m. one_at_most (n == m);
        first = λ zero'. absurd (omega (arith, zero', cuts.positive));
        other = λ positive. refl;
      }

  else_fits : (seat : ℕ) (u : Known E B) → seat ≢ id → Fits number base book.log book.owner book.total seat u → Fits number base cut_book.log cut_book.owner cut_book.total seat u
  else_fits seat u ne f =
      record {
        same = f.same;
        seen = f.seen;
        told = f.told;
        each = λ m some'.
            let known = f.each m some' in
            let apart' = cuts.fresh m known.given (λ e. ne (sym known.here ∙ e)) in
            record { events = known.events; given = omega (arith, known.given, cuts.grows); here = owned_else book.owner n (length s.views) m apart' ∙ known.here };
        once = f.once;
        first = λ zero'. absurd (ne (sym (f.each 0 (knows_first zero')).here ∙ (fits.each 0 (knows_own cuts.first)).here));
        other = f.other;
      }
    where
      knows_number : (k : Known E B) → k.number ≡ 0 → 0 < times k 0
      knows_number k zero' = let one' : ℕ = 1 in let here : cond (k.number == 0) one' 0 ≡ one' = ap (λ b. cond b one' 0) (eq-eqb k.number 0 zero') in omega (arith, here)

      knows_first : u.number ≡ 0 → 0 < times u 0
      knows_first = knows_number u

      knows_own : v.number ≡ 0 → 0 < times v 0
      knows_own = knows_number v

  -- where the pass split off stands
  at_new : get_elem? cut_views (length s.views) ≡ some two
  at_new = at_last (set s.views id one) two (length s.views) long

  cut_each : (seat : ℕ) (u : Known E B) → get_elem? cut_views seat ≡ some u → u.live ≡ true → Fits number base cut_book.log cut_book.owner cut_book.total seat u × IsPlaced cut_book seat u.turn
  cut_each seat u at' live' = dite (ℕ_discrete seat (length s.views)) last front
    where
      last : seat ≡ length s.views → Fits number base cut_book.log cut_book.owner cut_book.total seat u × IsPlaced cut_book seat u.turn
      last e = let is : two ≡ u = some-injective two u (sym at_new ∙ (ap (get_elem? cut_views) (sym e) ∙ at')) in
          subst (λ (p : ℕ × Known E B). Fits number base cut_book.log cut_book.owner cut_book.total p.0 p.1 × IsPlaced cut_book p.0 p.1.turn) (λ i. (sym e i, is i)) (two_fits, tt)

      by : ((seat ≡ id) × (one ≡ u)) ⊎ ((seat ≢ id) × (get_elem? s.views seat ≡ some u)) → Fits number base cut_book.log cut_book.owner cut_book.total seat u × IsPlaced cut_book seat u.turn
      by (inl it) = subst (λ (p : ℕ × Known E B). Fits number base cut_book.log cut_book.owner cut_book.total p.0 p.1 × IsPlaced cut_book p.0 p.1.turn) (λ i. (sym it.0 i, it.1 i)) (one_fits, subst (IsPlaced cut_book id) (sym cuts.idle) tt)
      by (inr it) = let other = h.each seat u it.1 live' in (else_fits seat u it.0 other.0, other.1)

      front : seat ≢ length s.views → Fits number base cut_book.log cut_book.owner cut_book.total seat u × IsPlaced cut_book seat u.turn
      front ne = by (at_set s.views id seat one u (at_front (set s.views id one) seat (λ e. ne (e ∙ long)) at'))
        where
          at_front : (xs : List (Known E B)) (k : ℕ) → k ≢ length xs → get_elem? (xs ++ two ∷ []) k ≡ some u → get_elem? xs k ≡ some u
          at_front [] zero ne' e = absurd (ne' refl)
          at_front [] (suc k) ne' e = absurd (some-ne-none u (sym e))
          at_front (x ∷ xs) zero ne' e = e
          at_front (x ∷ xs) (suc k) ne' e = at_front xs k (λ same. ne' (ap suc same)) e

  cut_covered : (m : ℕ) → m < total → IsHeldAt cut_views (cut_book.owner m) m
  cut_covered m below' = dite (ℕ_discrete m n) here there
    where
      here : m ≡ n → IsHeldAt cut_views (cut_book.owner m) m
      here e = subst (λ k. IsHeldAt cut_views (cut_book.owner k) k) (sym e)
          (two, ap (get_elem? cut_views) (owned_here book.owner n (length s.views)) ∙ at_new, refl, knows)
        where
          knows : 0 < times two n
          knows = let one' : ℕ = 1 in let mine' : cond (n == n) one' 0 ≡ one' = ap (λ b. cond b one' 0) (eq-eqb n n refl) in omega (arith, mine')

      there : m ≢ n → IsHeldAt cut_views (cut_book.owner m) m
      there ne =
          let held = held_set s.views id v one at (λ l. l) m (λ some'. omega (arith, some', (cuts.kept m ne).0)) (book.owner m) (h.covered m (cuts.only_n m below' ne)) in
          (held.0, ap (get_elem? cut_views) (owned_else book.owner n (length s.views) m ne) ∙ at_longer (set s.views id one) (two ∷ []) (book.owner m) held.0 held.1, held.2, held.3)

  cut_stands : Stands number base cut_book s.words cut_views
  cut_stands =
      record {
        words_are = h.words_are;
        each = cut_each;
        whole = omega (arith, h.whole, sum_by_push weight (set s.views id one) two, sum_set weight s.views id v one at, weight_of v cuts.live, weight_of one cuts.live, cuts.weights);
        lined = omega (arith, h.lined, sum_by_push tickets (set s.views id one) two, sum_set tickets s.views id v one at);
        few = cuts.few;
        covered = cut_covered;
        others = λ m past. h.others m (omega (arith, past, cuts.grows));
      }

  cut_lies : IsOut book s ⊎ IsHome base_of history_of base book s → IsOut cut_book (record { words = s.words; homes = s.homes; views = cut_views }) ⊎ IsHome base_of history_of base cut_book (record { words = s.words; homes = s.homes; views = cut_views })
  cut_lies (inl out) = inl (out.0, (out.1.0, out.1.1, out.1.2, at_longer (set s.views id one) (two ∷ []) out.1.0 out.1.1 still, out.1.4, out.1.5))
    where
      still : get_elem? (set s.views id one) out.1.0 ≡ some out.1.1
      still = holder_stays base_of history_of number base s.views id out.1.0 v one out.1.1 at (ap has_turn cuts.idle) out.1.3 out.1.5
  cut_lies (inr home) = inr (home.0, home.1, home.2, home.3, λ seat u at' live'. by seat u live' (at_snoc (set s.views id one) two u seat at'))
    where
      still : IsHome base_of history_of base (record book { queue = book.queue ++ [] }) (record { words = s.words; homes = s.homes; views = set s.views id one })
      still = home_set base_of history_of number base book s id one [] s.words (ap has_turn cuts.idle) home

      by : (seat : ℕ) (u : Known E B) → u.live ≡ true → (get_elem? (set s.views id one) seat ≡ some u) ⊎ (two ≡ u) → has_turn u.turn ≡ false
      by seat u live' (inl at') = still.4 seat u at' live'
      by seat u live' (inr is) = sym (ap (λ (k : Known E B). has_turn k.turn) is)

module _ {E B S : Type 0} (base_of : S → B) (history_of : S → List E) (number : E → ℕ) (base : B) where
  -- a new pass may be split off the first
  pub splits : (id : ℕ) (v : Known E B) → v.live ≡ true → v.turn ≡ Idle → v.number ≡ 0 → 0 < v.left → Splits (TurnRule base_of history_of number base) id v (split_off v) (new_of v)
  splits id v live idle first left s kept at =
      (cut_book base_of history_of number base book id v (v.left - 1) (v.made + 1) v.met n [] total cuts s at h, cut_stands base_of history_of number base book id v (v.left - 1) (v.made + 1) v.met n [] total cuts s at h, cut_lies base_of history_of number base book id v (v.left - 1) (v.made + 1) v.met n [] total cuts s at h kept.2)
    where
      book : Book E
      book = kept.0

      h : Stands number base book s.words s.views
      h = kept.1

      n : ℕ
      n = v.made + 1

      total : ℕ
      total = book.total + 1

      fits : Fits number base book.log book.owner book.total id v
      fits = (h.each id v at live).0

      counts : (v.made + 1 ≡ book.total) × (book.total + v.left ≤ 2 ^ 32)
      counts = fits.first first

      none : (k : ℕ) → times v n ≡ k → times v n ≡ 0
      none zero e = e
      none (suc k) e = absurd (omega (arith, counts.0, (fits.each n (omega (arith, e))).given))

      cuts : Cuts number book id v (v.left - 1) (v.made + 1) v.met n [] total
      cuts =
          record {
            live = live;
            idle = idle;
            first = first;
            kept = λ m ne. (refl, refl);
            gone = none (times v n) refl;
            mine_is = h.others n (omega (arith, counts.0));
            positive = omega arith;
            grows = omega arith;
            below = omega (arith, counts.0);
            few = omega (arith, counts.1, left);
            counts = (omega (arith, counts.0), omega (arith, counts.1, left));
            weights = omega arith;
            only_n = λ m below ne. omega (arith, below, ne, counts.0);
            fresh = λ m below ne e. absurd (omega (arith, below, e, counts.0));
          }

  -- a pass that the first one has taken in may be parted from it
  pub parts : (id n : ℕ) (v : Known E B) → v.live ≡ true → v.turn ≡ Idle → v.number ≡ 0 → list_any (has_number n) v.met ≡ true → Splits (TurnRule base_of history_of number base) id v (parted n v) (part_of n v)
  parts id n v live idle first has s kept at =
      (cut_book base_of history_of number base book id v v.left v.made (without_number n v.met) n mine book.total cuts s at h, cut_stands base_of history_of number base book id v v.left v.made (without_number n v.met) n mine book.total cuts s at h, cut_lies base_of history_of number base book id v v.left v.made (without_number n v.met) n mine book.total cuts s at h kept.2)
    where
      book : Book E
      book = kept.0

      h : Stands number base book s.words s.views
      h = kept.1

      mine : List E
      mine = events_in v.met n

      fits : Fits number base book.log book.owner book.total id v
      fits = (h.each id v at live).0

      counted : 0 < count_by (has_number n) v.met
      counted = met_counts n v.met has

      known : IsKnown number book.log book.owner book.total id v n
      known = fits.each n (omega (arith, counted))

      apart_here : v.number ≢ n
      apart_here e = let one' : ℕ = 1 in let own' : cond (v.number == n) one' 0 ≡ one' = ap (λ b. cond b one' 0) (eq-eqb v.number n e) in omega (arith, own', counted, fits.once n)

      not_own : (v.number == n) ≡ false
      not_own = ne_eqb v.number n apart_here

      cuts : Cuts number book id v v.left v.made (without_number n v.met) n mine book.total
      cuts =
          record {
            live = live;
            idle = idle;
            first = first;
            kept = λ m ne. (ap (λ k. cond (v.number == m) 1 0 + k) (count_kept n m v.met ne), ap (λ (l : List E). cond (v.number == m) v.mine l) (events_kept n m v.met ne));
            gone = (λ i. cond (not_own i) 1 0 + count_gone n v.met i);
            mine_is = known.events ∙ ap (λ b. cond b v.mine mine) not_own;
            positive = omega (arith, first, apart_here);
            grows = omega arith;
            below = known.given;
            few = h.few;
            counts = fits.first first;
            weights = omega (arith, length_without n v.met, counted, fits.once n);
            only_n = λ m below ne. below;
            fresh = λ m below ne e. ne (ap book.owner e ∙ known.here);
          }
