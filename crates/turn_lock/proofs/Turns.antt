-- Looking at the turn: it is taken where it is the ticket's. And what the first pass knows that has taken in all others.
use Rattle.std.proofs.Common.{◌≡◌, ◌≢◌, ℕ, zero, suc, ◌+◌, ◌%◌, ◌^◌, ◌<◌, ◌≤◌, ◌==◌, ◌⊎◌, inl, inr, Bool, true, false, cond, List, [], ◌∷◌, set, length, Option, Some, count_by, eq-eqb, ne_eqb, lt_of_not-le, MatchBool, sym, refl, ap, ◌∙◌, subst, arith}
use Rattle.std.specs.Prelude.{slice_index}
use Rattle.std.proofs.lemmas.Bool.{false≢true}
use Rattle.std.proofs.lemmas.List.{set-get_or}
use mathlib.Core.Option.{some, none, some-injective}
use mathlib.Core.Logic.{dite}
use native.Mathlib.Decide.{dec_le, ℕ_discrete}
use lib.ListN.{get_elem?}
use Rattle.atomic_table.specs.Table.{Act, Allows, carried_after, keeps, Me, State, Step, stepped, takes, Valid}
use Rattle.atomic_table.proofs.Lists.{at_set, one_turn, set_again, set_here}
use Rattle.turn_lock.specs.declared.view.Known.{Known}
use Rattle.turn_lock.specs.declared.view.Turn.{Turn}
use Rattle.turn_lock.specs.declared.view.Turn.TheVariants.{Idle, Waits, Holds}
use Rattle.turn_lock.specs.Passes.{Begins, events_in, has_number, own}
use Rattle.turn_lock.specs.Rule.{Book, Fits, has_turn, has_ticket, IsHome, IsOut, IsPlaced, TurnRule, known_in, Stands, tickets, times, weight}
use Rattle.turn_lock.specs.Steps.{Polls, Takes}
use Rattle.turn_lock.proofs.Mets.{events_none}
use Rattle.turn_lock.proofs.Queues.{held_set, turned, within}
use Rattle.turn_lock.proofs.Sums.{sum_below, sum_set, sum_two}

-- who knows a number no time knows no events of it
unknown : {E B : Type 0} (v : Known E B) (n : ℕ) → times v n ≡ 0 → known_in v n ≡ []
unknown v n e = by (v.number == n) (omega arith)
  where
    by : (b : Bool) → cond b 1 0 + count_by (has_number n) v.met ≡ 0 → cond b v.mine (events_in v.met n) ≡ []
    by true h = absurd (omega arith)
    by false h = events_none v.met n (omega arith)

-- a pass knows its own number, and its own events of it
knows_own : {E B : Type 0} (v : Known E B) → (0 < times v v.number) × (known_in v v.number ≡ v.mine)
knows_own v = by (v.number == v.number) (eq-eqb v.number v.number refl)
  where
    by : (b : Bool) → b ≡ true → (0 < cond b 1 0 + count_by (has_number v.number) v.met) × (cond b v.mine (events_in v.met v.number) ≡ v.mine)
    by true same = (omega arith, refl)
    by false same = absurd (false≢true same)

-- a live pass stands for itself and those that it has taken in
pub weight_of : {E B : Type 0} (v : Known E B) → v.live ≡ true → weight v ≡ 1 + length v.met
weight_of v live = ap (λ b. cond b (1 + length v.met) 0) live

-- there are no more tickets than passes
few_tickets : {E B : Type 0} (v : Known E B) → tickets v ≤ weight v
few_tickets v = by v.live (has_ticket v.turn)
  where
    by : (live ticket : Bool) → cond live (cond ticket 1 0) 0 ≤ cond live (1 + length v.met) 0
    by true true = omega arith
    by true false = omega arith
    by false ticket = omega arith

module _ {E B : Type 0} (number : E → ℕ) (base : B) (book : Book E) (words : List ℕ) (views : List (Known E B)) (h : Stands number base book words views) where
  -- the queue is short enough for the words to tell tickets apart
  pub short : length book.queue ≤ 2 ^ 32
  short = omega (arith, h.lined, h.whole, h.few, sum_below tickets weight few_tickets views)

  -- the first pass, where it has taken in all others, is the only one that is live
  pub only : (id seat : ℕ) (v u : Known E B) → get_elem? views id ≡ some v → v.live ≡ true → v.number ≡ 0 → length v.met ≡ v.made → get_elem? views seat ≡ some u → u.live ≡ true → seat ≡ id
  only id seat v u at live first all at' live' = dite (ℕ_discrete seat id) (λ same. same) (λ ne. absurd (crowded ne))
    where
      crowded : seat ≢ id → ⊥
      crowded ne = omega (arith, sum_two weight views seat id u v ne at' at, weight_of u live', weight_of v live, h.whole, ((h.each id v at live).0.first first).0, all)

  -- it knows all events of the history
  pub whole : (id : ℕ) (v : Known E B) → get_elem? views id ≡ some v → v.live ≡ true → v.number ≡ 0 → length v.met ≡ v.made → (n : ℕ) → own number n book.log ≡ known_in v n
  whole id v at live first all n = dite (dec_le book.total n) late early
    where
      fits : Fits number base book.log book.owner book.total id v
      fits = (h.each id v at live).0

      late : book.total ≤ n → own number n book.log ≡ known_in v n
      late past = h.others n past ∙ sym (unknown v n (none past (times v n) refl))
        where
          none : book.total ≤ n → (k : ℕ) → times v n ≡ k → times v n ≡ 0
          none past zero e = e
          none past (suc k) e = absurd (omega (arith, past, (fits.each n (omega (arith, e))).given))

      early : (book.total ≤ n → ⊥) → own number n book.log ≡ known_in v n
      early not =
          let held = h.covered n (lt_of_not-le not) in
          let same : book.owner n ≡ id = only id (book.owner n) v held.0 at live first all held.1 held.2 in
          let is : held.0 ≡ v = some-injective held.0 v (sym held.1 ∙ (ap (get_elem? views) same ∙ at)) in
          (fits.each n (subst (λ (u : Known E B). 0 < times u n) is held.3)).events

module _ {E B S : Type 0} (base_of : S → B) (history_of : S → List E) (number : E → ℕ) (base : B) where
  -- a step that leaves the words, and turns one view into another with as many tickets and numbers
  still_stands : (book : Book E) (words : List ℕ) (views : List (Known E B)) (id : ℕ) (v : Known E B) (turn : Turn E) → get_elem? views id ≡ some v → v.live ≡ true
      → has_ticket v.turn ≡ has_ticket turn → IsPlaced book id turn → Stands number base book words views → Stands number base book words (set views id (record v { turn = turn }))
  still_stands book words views id v turn at live tickets_are placed h =
      record {
        words_are = h.words_are;
        each = λ seat u at' live'. each seat u live' (at_set views id seat w u at');
        whole = omega (arith, h.whole, sum_set weight views id v w at);
        lined = omega (arith, h.lined, sum_set tickets views id v w at, same);
        few = h.few;
        covered = λ n below. held_set views id v w at (λ l. l) n (λ k. k) (book.owner n) (h.covered n below);
        others = h.others;
      }
    where
      w : Known E B
      w = record v { turn = turn }

      same : tickets v ≡ tickets w
      same = ap (λ b. cond v.live (cond b 1 0) 0) tickets_are

      here : Fits number base book.log book.owner book.total id w × IsPlaced book id w.turn
      here = (turned {S = S} base_of history_of number base book.log book.owner book.total id v turn (h.each id v at live).0, placed)

      each : (seat : ℕ) (u : Known E B) → u.live ≡ true → ((seat ≡ id) × (w ≡ u)) ⊎ ((seat ≢ id) × (get_elem? views seat ≡ some u)) → Fits number base book.log book.owner book.total seat u × IsPlaced book seat u.turn
      each seat u live' (inl it) = subst (λ (p : ℕ × Known E B). Fits number base book.log book.owner book.total p.0 p.1 × IsPlaced book p.0 p.1.turn) (λ i. (sym it.0 i, it.1 i)) here
      each seat u live' (inr other) = h.each seat u other.1 live'

  -- the number of a ticket that a pass waits with
  abbrev ticket_of : Turn E → ℕ
  ticket_of Idle = 0
  ticket_of (Waits ticket) = ticket
  ticket_of (Holds ticket history) = ticket

  -- where the word is the ticket's, it is the pass's turn
  pub is_due : (book : Book E) (words : List ℕ) (views : List (Known E B)) (id ticket : ℕ) → Stands number base book words views → IsPlaced book id (Waits ticket) → slice_index words 1 ≡ ticket % 2 ^ 64
      → (ticket ≡ book.start) × (get_elem? book.queue 0 ≡ some id)
  is_due book words views id ticket h placed found =
      let k = placed.0 in
      let few = short number base book words views h in
      let long = within book.queue k id placed.2 in
      let now : book.start % 2 ^ 64 ≡ (book.start + k) % 2 ^ 64 = sym (ap (λ ws. slice_index ws 1) h.words_are) ∙ (found ∙ ap (λ t. t % 2 ^ 64) placed.1) in
      let is : book.start ≡ book.start + k = one_turn book.start (book.start + k) (2 ^ 64) (omega arith) (omega (arith, few, long)) now in
      let zero' : k ≡ 0 = omega (arith, is) in
      (omega (arith, placed.1, zero'), subst (λ n. get_elem? book.queue n ≡ some id) zero' placed.2)

  -- the value lies in the slot when the turn comes
  home_when_due : (book : Book E) (s : State (Option S) (Known E B)) (id ticket : ℕ) (v : Known E B) → get_elem? s.views id ≡ some v → v.turn ≡ Waits ticket → get_elem? book.queue 0 ≡ some id
      → IsOut book s ⊎ IsHome base_of history_of base book s → IsHome base_of history_of base book s
  home_when_due book s id ticket v at waits head (inr home) = home
  home_when_due book s id ticket v at waits head (inl out) =
      let seat : out.1.0 ≡ id = some-injective out.1.0 id (sym out.1.2 ∙ head) in
      let same : out.1.1 ≡ v = some-injective out.1.1 v (sym out.1.3 ∙ (ap (get_elem? s.views) seat ∙ at)) in
      absurd (false≢true (sym (ap has_turn waits) ∙ (sym (ap (λ (u : Known E B). has_turn u.turn) same) ∙ out.1.5)))

  -- what a look at the turn allows
  abbrev Looks : ℕ → Me (Option S) (Known E B) → Step (Option S) → State (Option S) (Known E B) → Type 0
  Looks id me it s =
      (w : Known E B) × (a : Act (Option S)) × Valid s.homes me.1 a × TurnRule base_of history_of number base (stepped s 1 (slice_index s.words 1) id me.1 w a)
      × Polls base_of history_of number it me (slice_index s.words 1) (w, carried_after me.1 a)

  taken : (id ticket : ℕ) (me : Me (Option S) (Known E B)) (it : Step (Option S)) (s : State (Option S) (Known E B)) (book : Book E) → me.0.live ≡ true → me.0.turn ≡ Waits ticket → get_elem? s.views id ≡ some me.0
      → Stands number base book s.words s.views → ticket ≡ book.start → get_elem? book.queue 0 ≡ some id → slice_index s.words 1 ≡ ticket % 2 ^ 64 → IsHome base_of history_of base book s → Looks id me it s
  taken id ticket me it s book live waits at h now head found home =
      (w, takes 0 (Some x), ap (λ hs. get_elem? hs 0) home.1, (book, stands, inl (away, (id, w, head, set_here s.views id w (within s.views id me.0 at), live, refl))), told)
    where
      x : S
      x = home.0

      w : Known E B
      w = record me.0 { turn = Holds ticket (history_of x) }

      fits : Fits number base book.log book.owner book.total id me.0
      fits = (h.each id me.0 at live).0

      stands : Stands number base book (set s.words 1 (slice_index s.words 1)) (set s.views id w)
      stands = subst (λ ws. Stands number base book ws (set s.views id w)) (sym (set-get_or s.words 1 0)) (still_stands book s.words s.views id me.0 w.turn at live (ap has_ticket waits) (now, head, home.2) h)

      away : set s.homes 0 none ≡ none ∷ []
      away = ap (λ hs. set hs 0 none) home.1

      mine_here : own number me.0.number (history_of x) ≡ me.0.mine
      mine_here = ap (own number me.0.number) home.2 ∙ ((fits.each me.0.number (knows_own me.0).0).events ∙ (knows_own me.0).1)

      whole_here : me.0.number ≡ 0 → length me.0.met ≡ me.0.made → (n : ℕ) → own number n (history_of x) ≡ known_in me.0 n
      whole_here first all n = ap (own number n) home.2 ∙ whole number base book s.words s.views h id me.0 at live first all n

      told : Polls base_of history_of number it me (slice_index s.words 1) (w, (0, Some x) ∷ me.1)
      told t waits' =
          let same : ticket ≡ t = ap ticket_of (sym waits ∙ waits') in
          subst (λ b. MatchBool b (Takes base_of history_of number t me (w, (0, Some x) ∷ me.1)) ((w, (0, Some x) ∷ me.1) ≡ me)) (sym (eq-eqb (slice_index s.words 1) (t % 2 ^ 64) (found ∙ ap (λ k. k % 2 ^ 64) same)))
          (x, record { holds = ap (λ k. record me.0 { turn = Holds k (history_of x) }) same; seen = subst (λ log. Begins log me.0.seen) (sym home.2) fits.seen; mine = mine_here; base = fits.same ∙ ap Some (sym home.3); whole = whole_here }, refl)

  missed : (id ticket : ℕ) (me : Me (Option S) (Known E B)) (it : Step (Option S)) (s : State (Option S) (Known E B)) → me.0.turn ≡ Waits ticket → get_elem? s.views id ≡ some me.0
      → TurnRule base_of history_of number base s → slice_index s.words 1 ≢ ticket % 2 ^ 64 → Looks id me it s
  missed id ticket me it s waits at kept ne = (me.0, keeps, tt, subst (TurnRule base_of history_of number base) (sym same_state) kept, told)
    where
      same_state : stepped s 1 (slice_index s.words 1) id me.1 me.0 keeps ≡ s
      same_state = λ i. record { words = set-get_or s.words 1 0 i; homes = s.homes; views = set_again s.views id me.0 at i }

      told : Polls base_of history_of number it me (slice_index s.words 1) (me.0, me.1)
      told t waits' =
          let same : ticket ≡ t = ap ticket_of (sym waits ∙ waits') in
          subst (λ b. MatchBool b (Takes base_of history_of number t me (me.0, me.1)) ((me.0, me.1) ≡ me)) (sym (ne_eqb (slice_index s.words 1) (t % 2 ^ 64) (λ e. ne (e ∙ sym (ap (λ k. k % 2 ^ 64) same))))) refl

  -- a pass that waits may look at the turn, and takes the value where it is its own
  pub polls : (slots id ticket : ℕ) (me : Me (Option S) (Known E B)) (it : Step (Option S)) → me.0.live ≡ true → me.0.turn ≡ Waits ticket
      → Allows (TurnRule base_of history_of number base) slots id me 1 (λ n. n) (Polls base_of history_of number it me)
  polls slots id ticket me it live waits s kept size at bound = dite (ℕ_discrete (slice_index s.words 1) (ticket % 2 ^ 64)) hit (missed id ticket me it s waits at kept)
    where
      placed : IsPlaced kept.0 id (Waits ticket)
      placed = subst (IsPlaced kept.0 id) waits (kept.1.each id me.0 at live).1

      hit : slice_index s.words 1 ≡ ticket % 2 ^ 64 → Looks id me it s
      hit found =
          let due = is_due kept.0 s.words s.views id ticket kept.1 placed found in
          taken id ticket me it s kept.0 live waits at kept.1 due.0 due.1 found (home_when_due kept.0 s id ticket me.0 at waits due.1 kept.2)
