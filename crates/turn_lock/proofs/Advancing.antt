-- Putting the value back: the turn goes on, and the history has the events more that the pass added.
use Rattle.std.proofs.Common.{◌≡◌, ◌≢◌, ℕ, zero, suc, ◌+◌, ◌%◌, ◌^◌, ◌<◌, ◌==◌, ◌⊎◌, inl, inr, true, false, cond, List, [], ◌∷◌, ◌++◌, set, drop, length, append-nil, Option, Some, unwrap_or, eq-eqb, ne_eqb, sym, refl, ap, ◌∙◌, subst, arith}
use Rattle.std.specs.Prelude.{slice_index}
use Rattle.std.proofs.lemmas.Bool.{false≢true, false_from_ne_true}
use Rattle.std.proofs.Math.Seq.{drop-append_seam}
use Rattle.std.proofs.lemmas.List.Elements.{filter-append}
use mathlib.Core.Option.{some, some-injective, some-ne-none}
use mathlib.Core.Logic.{dite}
use native.Mathlib.Decide.{ℕ_discrete}
use native.Mathlib.Nat.{mod-add-mod}
use lib.ListN.{get_elem?}
use Rattle.atomic_table.specs.Table.{Allows, gives, Me, put_back, State, Step}
use Rattle.atomic_table.proofs.Lists.{at_set}
use Rattle.turn_lock.specs.declared.view.Known.{Known}
use Rattle.turn_lock.specs.declared.view.Turn.{Turn}
use Rattle.turn_lock.specs.declared.view.Turn.TheVariants.{Idle, Waits, Holds}
use Rattle.turn_lock.specs.Passes.{events_in, own}
use Rattle.turn_lock.specs.Rule.{Book, Fits, has_turn, IsHome, IsOut, IsPlaced, TurnRule, known_in, Stands, tickets, times, turn_start, weight}
use Rattle.turn_lock.specs.Steps.{Adds, advanced, Advances, in_hand, Returns}
use Rattle.turn_lock.proofs.Fronts.{longer_begins}
use Rattle.turn_lock.proofs.Queues.{held_set, tickets_of}
use Rattle.turn_lock.proofs.Sums.{sum_set}

-- a queue without its first seat has the others one place further in front
tail_place : (queue : List ℕ) (id seat k : ℕ) → get_elem? queue 0 ≡ some id → get_elem? queue k ≡ some seat → seat ≢ id → (j : ℕ) × (k ≡ suc j) × (get_elem? (drop 1 queue) j ≡ some seat)
tail_place [] id seat k head at ne = absurd (some-ne-none id (sym head))
tail_place (first ∷ queue) id seat zero head at ne = absurd (ne (sym (some-injective first seat at) ∙ some-injective first id head))
tail_place (first ∷ queue) id seat (suc j) head at ne = (j, refl, at)

module _ {E : Type 0} (number : E → ℕ) where
  -- events that are all of one number are no events of another
  pub none_added : (n m : ℕ) (added : List E) → Adds number n added → m ≢ n → own number m added ≡ []
  none_added n m added (inl empty) ne = ap (own number m) empty
  none_added n m added (inr one) ne = ap (own number m) one.1 ∙ ap (λ b. cond b (one.0 ∷ []) []) (ne_eqb (number one.0) m (λ e. ne (sym e ∙ one.2)))

  -- and they are all events of that number
  pub all_added : (n : ℕ) (added : List E) → Adds number n added → own number n added ≡ added
  all_added n added (inl empty) = ap (own number n) empty ∙ sym empty
  all_added n added (inr one) = ap (own number n) one.1 ∙ (ap (λ b. cond b (one.0 ∷ []) []) (eq-eqb (number one.0) n one.2) ∙ sym one.1)

  -- the events of another number stay the same
  pub own_same : (n m : ℕ) (log added : List E) → Adds number n added → m ≢ n → own number m (log ++ added) ≡ own number m log
  own_same n m log added adds ne = filter-append (λ e. number e == m) log added ∙ (ap (λ l. own number m log ++ l) (none_added n m added adds ne) ∙ append-nil (own number m log))

  pub own_more : (n : ℕ) (log added : List E) → Adds number n added → own number n (log ++ added) ≡ own number n log ++ added
  own_more n log added adds = filter-append (λ e. number e == n) log added ∙ ap (λ l. own number n log ++ l) (all_added n added adds)

-- a pass knows its own number
own_times : {E B : Type 0} (v : Known E B) → 0 < times v v.number
own_times v = let one : ℕ = 1 in let here : cond (v.number == v.number) one 0 ≡ one = ap (λ b. cond b one 0) (eq-eqb v.number v.number refl) in omega (arith, here)

own_known : {E B : Type 0} (v : Known E B) → known_in v v.number ≡ v.mine
own_known v = ap (λ b. cond b v.mine (events_in v.met v.number)) (eq-eqb v.number v.number refl)

other_known : {E B : Type 0} (v : Known E B) (n : ℕ) → n ≢ v.number → known_in v n ≡ events_in v.met n
other_known v n ne = ap (λ b. cond b v.mine (events_in v.met n)) (ne_eqb v.number n (λ e. ne (sym e)))

-- who holds the turn stands first in the queue
pub holder_first : {E : Type 0} (book : Book E) (seat : ℕ) (turn : Turn E) → IsPlaced book seat turn → has_turn turn ≡ true → get_elem? book.queue 0 ≡ some seat
holder_first book seat Idle placed holds = absurd (false≢true holds)
holder_first book seat (Waits ticket) placed holds = absurd (false≢true holds)
holder_first book seat (Holds ticket history) placed holds = placed.1

-- the length of a queue without its first seat
tail_length : (queue : List ℕ) (id : ℕ) → get_elem? queue 0 ≡ some id → length queue ≡ length (drop 1 queue) + 1
tail_length [] id head = absurd (some-ne-none id (sym head))
tail_length (first ∷ queue) id head = omega arith

module _ {E B S : Type 0} (base_of : S → B) (history_of : S → List E) (number : E → ℕ) (base : B) (book : Book E) (added : List E) (id : ℕ) (v : Known E B) where
  -- the history and the queue after the turn of the pass
  abbrev after : Book E
  after = record { log = book.log ++ added; owner = book.owner; total = book.total; start = book.start + 1; queue = drop 1 book.queue }

  -- the pass after its turn
  abbrev done : Known E B
  done = record v { seen = book.log ++ added; mine = v.mine ++ added; turn = Idle }

  done_fits : Adds number v.number added → Fits number base book.log book.owner book.total id v → Fits number base after.log after.owner after.total id done
  done_fits adds f =
      record {
        same = f.same;
        seen = ([], sym (append-nil (book.log ++ added)));
        told = longer_begins book.log v.told added f.told;
        each = λ n some. let known = f.each n some in record { events = dite (ℕ_discrete n v.number) mine (others n known.events); given = known.given; here = known.here };
        once = f.once;
        first = f.first;
        other = f.other;
      }
    where
      mine : {n : ℕ} → n ≡ v.number → own number n (book.log ++ added) ≡ known_in done n
      mine {n} same = subst (λ m. own number m (book.log ++ added) ≡ known_in done m) (sym same)
          (own_more number v.number book.log added adds ∙ (ap (λ l. l ++ added) ((f.each v.number (own_times v)).events ∙ own_known v) ∙ sym (own_known done)))

      others : (n : ℕ) → own number n book.log ≡ known_in v n → n ≢ v.number → own number n (book.log ++ added) ≡ known_in done n
      others n events ne = own_same number v.number n book.log added adds ne ∙ (events ∙ (other_known v n ne ∙ sym (other_known done n ne)))

  other_fits : (seat : ℕ) (u : Known E B) → Adds number v.number added → book.owner v.number ≡ id → seat ≢ id → Fits number base book.log book.owner book.total seat u → Fits number base after.log after.owner after.total seat u
  other_fits seat u adds mine ne f =
      record {
        same = f.same;
        seen = longer_begins book.log u.seen added f.seen;
        told = longer_begins book.log u.told added f.told;
        each = λ n some. let known = f.each n some in
            let apart : n ≢ v.number = λ e. ne (sym known.here ∙ (ap book.owner e ∙ mine)) in
            record { events = own_same number v.number n book.log added adds apart ∙ known.events; given = known.given; here = known.here };
        once = f.once;
        first = f.first;
        other = f.other;
      }

  other_placed : (seat : ℕ) (turn : Turn E) → get_elem? book.queue 0 ≡ some id → seat ≢ id → IsPlaced book seat turn → IsPlaced after seat turn
  other_placed seat Idle head ne placed = tt
  other_placed seat (Waits ticket) head ne placed = let tail = tail_place book.queue id seat placed.0 head placed.2 ne in (tail.0, omega (arith, placed.1, tail.1), tail.2)
  other_placed seat (Holds ticket history) head ne placed = absurd (ne (some-injective seat id (sym placed.1 ∙ head)))

  done_stands : (words : List ℕ) (views : List (Known E B)) (ticket : ℕ) (begun : List E) → get_elem? views id ≡ some v → v.live ≡ true → v.turn ≡ Holds ticket begun → Adds number v.number added
      → Stands number base book words views → Stands number base after (set words 1 ((slice_index words 1 + 1) % 2 ^ 64)) (set views id done)
  done_stands words views ticket begun at live holds adds h =
      record {
        words_are = subst (λ ws. set ws 1 ((slice_index ws 1 + 1) % 2 ^ 64) ≡ (book.start + 1 + length (drop 1 book.queue)) % 2 ^ 64 ∷ (book.start + 1) % 2 ^ 64 ∷ []) (sym h.words_are) next;
        each = λ seat u at' live'. each seat u live' (at_set views id seat done u at');
        whole = omega (arith, h.whole, sum_set weight views id v done at);
        lined = omega (arith, h.lined, sum_set tickets views id v done at, tickets_of v (Holds ticket begun) live holds, tickets_of done Idle live refl, tail_length book.queue id head);
        few = h.few;
        covered = λ n below. held_set views id v done at (λ l. l) n (λ k. k) (book.owner n) (h.covered n below);
        others = λ n past. own_same number v.number n book.log added adds (λ e. absurd (omega (arith, past, e, (fits.each v.number (own_times v)).given))) ∙ h.others n past;
      }
    where
      fits : Fits number base book.log book.owner book.total id v
      fits = (h.each id v at live).0

      placed : IsPlaced book id (Holds ticket begun)
      placed = subst (IsPlaced book id) holds (h.each id v at live).1

      head : get_elem? book.queue 0 ≡ some id
      head = placed.1

      same_ticket : book.start + length book.queue ≡ book.start + 1 + length (drop 1 book.queue)
      same_ticket = omega (arith, tail_length book.queue id head)

      next : (book.start + length book.queue) % 2 ^ 64 ∷ (book.start % 2 ^ 64 + 1) % 2 ^ 64 ∷ [] ≡ (book.start + 1 + length (drop 1 book.queue)) % 2 ^ 64 ∷ (book.start + 1) % 2 ^ 64 ∷ []
      next = λ i. (same_ticket i) % 2 ^ 64 ∷ mod-add-mod book.start (2 ^ 64) 1 i ∷ []

      each : (seat : ℕ) (u : Known E B) → u.live ≡ true → ((seat ≡ id) × (done ≡ u)) ⊎ ((seat ≢ id) × (get_elem? views seat ≡ some u)) → Fits number base after.log after.owner after.total seat u × IsPlaced after seat u.turn
      each seat u live' (inl it) = subst (λ (p : ℕ × Known E B). Fits number base after.log after.owner after.total p.0 p.1 × IsPlaced after p.0 p.1.turn) (λ i. (sym it.0 i, it.1 i)) (done_fits adds fits, tt)
      each seat u live' (inr it) =
          let other = h.each seat u it.1 live' in (other_fits seat u adds (fits.each v.number (own_times v)).here it.0 other.0, other_placed seat u.turn head it.0 other.1)

  -- the value lies in the slot after the turn
  done_home : (s : State (Option S) (Known E B)) (x : S) (ticket : ℕ) (begun : List E) (words : List ℕ) → get_elem? s.views id ≡ some v → v.live ≡ true → v.turn ≡ Holds ticket begun
      → Stands number base book s.words s.views → IsOut book s ⊎ IsHome base_of history_of base book s → history_of x ≡ book.log ++ added → base_of x ≡ base
      → IsHome base_of history_of base after (record { words = words; homes = set s.homes 0 (some (Some x)); views = set s.views id done })
  done_home s x ticket begun words at live holds h lies log_is base_is = (x, home lies, log_is, base_is, λ seat u at' live'. idle seat u live' (at_set s.views id seat done u at'))
    where
      turn : has_turn v.turn ≡ true
      turn = ap has_turn holds

      head : get_elem? book.queue 0 ≡ some id
      head = holder_first book id v.turn (h.each id v at live).1 turn

      home : IsOut book s ⊎ IsHome base_of history_of base book s → set s.homes 0 (some (Some x)) ≡ some (Some x) ∷ []
      home (inl out) = ap (λ hs. set hs 0 (some (Some x))) out.0
      home (inr here) = absurd (false≢true (sym (here.4 id v at live) ∙ turn))

      idle : (seat : ℕ) (u : Known E B) → u.live ≡ true → ((seat ≡ id) × (done ≡ u)) ⊎ ((seat ≢ id) × (get_elem? s.views seat ≡ some u)) → has_turn u.turn ≡ false
      idle seat u live' (inl it) = sym (ap (λ (k : Known E B). has_turn k.turn) it.1)
      idle seat u live' (inr it) =
          false_from_ne_true (has_turn u.turn) (λ holds'. it.0 (some-injective seat id (sym (holder_first book seat u.turn (h.each seat u it.1 live').1 holds') ∙ head)))

module _ {E B S : Type 0} (base_of : S → B) (history_of : S → List E) (number : E → ℕ) (base : B) where
  -- the pass after its turn, by the history that comes back
  advanced_is : (book : Book E) (added : List E) (id : ℕ) (v : Known E B) (x : S) (ticket : ℕ) → v.turn ≡ Holds ticket book.log → history_of x ≡ book.log ++ added
      → done base_of history_of number base book added id v ≡ advanced v (history_of x)
  advanced_is book added id v x ticket holds log_is =
      let front : unwrap_or (turn_start v.turn) [] ≡ book.log = ap (λ turn. unwrap_or (turn_start turn) []) holds in
      let rest_is : drop (length (unwrap_or (turn_start v.turn) [])) (history_of x) ≡ added = (λ i. drop (length (front i)) (log_is i)) ∙ drop-append_seam book.log added in
      λ i. record v { seen = sym log_is i; mine = v.mine ++ sym rest_is i; turn = Idle }

  -- a pass that has the value in hand in its turn may put it back, with its own events added
  pub advances : (slots id ticket : ℕ) (me : Me (Option S) (Known E B)) (it : Step (Option S)) (x : S) (added : List E) → me.0.live ≡ true → me.1 ≡ (0, Some x) ∷ [] → Returns base_of history_of number ticket added me.0 x
      → Allows (TurnRule base_of history_of number base) slots id me 1 (λ n. (n + 1) % 2 ^ 64) (Advances history_of it me)
  advances slots id ticket me it x added live hand returns s kept size at bound =
      (advanced me.0 (in_hand history_of me.1), gives, tt, subst Keeps (sym hand) kept_after, refl)
    where
      book : Book E
      book = kept.0

      v : Known E B
      v = me.0

      stands : Stands number base book s.words s.views
      stands = kept.1

      fits : Fits number base book.log book.owner book.total id v
      fits = (stands.each id v at live).0

      placed : IsPlaced book id (Holds ticket returns.turn.0)
      placed = subst (IsPlaced book id) returns.turn.1 (stands.each id v at live).1

      log_is : history_of x ≡ book.log ++ added
      log_is = returns.turn.2 ∙ ap (λ l. l ++ added) placed.2

      holds : v.turn ≡ Holds ticket book.log
      holds = returns.turn.1 ∙ ap (Holds ticket) placed.2

      base_is : base_of x ≡ base
      base_is = ap (λ (o : Option B). unwrap_or o base) (sym returns.base ∙ fits.same)

      words : List ℕ
      words = set s.words 1 ((slice_index s.words 1 + 1) % 2 ^ 64)

      Keeps : List (ℕ × Option S) → Type 0
      Keeps hs = TurnRule base_of history_of number base (record { words = words; homes = put_back s.homes hs; views = set s.views id (advanced v (in_hand history_of hs)) })

      kept_after : Keeps ((0, Some x) ∷ [])
      kept_after = subst (λ (w : Known E B). TurnRule base_of history_of number base (record { words = words; homes = set s.homes 0 (some (Some x)); views = set s.views id w })) (advanced_is book added id v x ticket holds log_is) (
        after base_of history_of number base book added id v,
        done_stands base_of history_of number base book added id v s.words s.views ticket book.log at live holds returns.adds stands,
        inr (done_home base_of history_of number base book added id v s x ticket book.log words at live holds stands kept.2 log_is base_is),
      )
