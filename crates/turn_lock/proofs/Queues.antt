-- Drawing a ticket: the queue grows by the seat that drew.
use Rattle.std.proofs.Common.{◌≡◌, ◌≢◌, ℕ, zero, suc, ◌+◌, ◌%◌, ◌^◌, ◌<◌, ◌⊎◌, inl, inr, Bool, true, false, cond, List, [], ◌∷◌, ◌++◌, set, length, length-append, Option, sym, refl, ap, ◌∙◌, subst, arith}
use Rattle.std.specs.Prelude.{slice_index}
use Rattle.std.specs.List.{sum_by}
use mathlib.Core.Option.{some, some-injective, some-ne-none}
use mathlib.Core.Logic.{dite}
use Rattle.std.proofs.Math.Logic.{⊎_map}
use native.Mathlib.Decide.{ℕ_discrete}
use native.Mathlib.Nat.{mod-add-mod}
use Rattle.std.proofs.lemmas.Bool.{false≢true}
use lib.ListN.{get_elem?}
use Rattle.atomic_table.specs.Table.{Allows, keeps, Me, State, Step}
use Rattle.atomic_table.proofs.Lists.{at_last, at_longer, at_set, set_else, set_here}
use Rattle.turn_lock.specs.declared.view.Known.{Known}
use Rattle.turn_lock.specs.declared.view.Turn.{Turn}
use Rattle.turn_lock.specs.declared.view.Turn.TheVariants.{Idle, Waits, Holds}
use Rattle.turn_lock.specs.Rule.{Book, Fits, has_ticket, has_turn, IsHeldAt, IsHome, IsOut, IsPlaced, TurnRule, Stands, tickets, times, weight}
use Rattle.turn_lock.specs.Steps.{Draws}
use Rattle.turn_lock.proofs.Sums.{sum_set}

-- the list has a place of this number where it has an element there
pub within : {A : Type 0} (xs : List A) (i : ℕ) (a : A) → get_elem? xs i ≡ some a → i < length xs
within [] i a e = absurd (some-ne-none a (sym e))
within (x ∷ xs) zero a e = omega arith
within (x ∷ xs) (suc i) a e = let rest = within xs i a e in omega arith

-- the tickets of a live pass
pub tickets_of : {E B : Type 0} (v : Known E B) (turn : Turn E) → v.live ≡ true → v.turn ≡ turn → tickets v ≡ cond (has_ticket turn) 1 0
tickets_of {E} {B} v turn live is = subst (λ (p : Bool × Turn E). tickets (record v { live = p.0; turn = p.1 }) ≡ cond (has_ticket turn) 1 0) (λ i. (sym live i, sym is i)) refl

-- a seat that knows a number still knows it after one view changed, where that view still knows what it knew
pub held_set : {E B : Type 0} (views : List (Known E B)) (id : ℕ) (v w : Known E B) → get_elem? views id ≡ some v → (v.live ≡ true → w.live ≡ true) → (n : ℕ) → (0 < times v n → 0 < times w n)
    → (seat : ℕ) → IsHeldAt views seat n → IsHeldAt (set views id w) seat n
held_set {E} {B} views id v w at live n knows seat held = dite (ℕ_discrete seat id) here there
  where
    here : seat ≡ id → IsHeldAt (set views id w) seat n
    here same =
        let is : held.0 ≡ v = some-injective held.0 v (sym held.1 ∙ (ap (get_elem? views) same ∙ at)) in
        (w, subst (λ k. get_elem? (set views id w) k ≡ some w) (sym same) (set_here views id w (within views id v at)), live (subst (λ (u : Known E B). u.live ≡ true) is held.2), knows (subst (λ (u : Known E B). 0 < times u n) is held.3))

    there : seat ≢ id → IsHeldAt (set views id w) seat n
    there ne = (held.0, set_else views id seat w ne ∙ held.1, held.2, held.3)

-- a longer queue leaves each place as it was
pub placed_longer : {E : Type 0} (book : Book E) (more : List ℕ) (seat : ℕ) (turn : Turn E) → IsPlaced book seat turn → IsPlaced (record book { queue = book.queue ++ more }) seat turn
placed_longer book more seat Idle h = tt
placed_longer book more seat (Waits ticket) h = (h.0, h.1, at_longer book.queue more h.0 seat h.2)
placed_longer book more seat (Holds ticket history) h = (h.0, at_longer book.queue more 0 seat h.1, h.2)

module _ {E B S : Type 0} (base_of : S → B) (history_of : S → List E) (number : E → ℕ) (base : B) where
  -- who holds the turn still does, after a pass without it changed
  pub holder_stays : (views : List (Known E B)) (id seat : ℕ) (v w u : Known E B) → get_elem? views id ≡ some v → has_turn v.turn ≡ false → get_elem? views seat ≡ some u → has_turn u.turn ≡ true → get_elem? (set views id w) seat ≡ some u
  holder_stays views id seat v w u at idle at' holds =
      let ne : seat ≢ id = λ same. false≢true (sym idle ∙ (ap (λ (k : Known E B). has_turn k.turn) (some-injective v u (sym at ∙ (ap (get_elem? views) (sym same) ∙ at'))) ∙ holds)) in
      set_else views id seat w ne ∙ at'

  -- the value is where it was, after a pass without the turn changed in other things
  pub out_set : (book : Book E) (s : State (Option S) (Known E B)) (id : ℕ) (v w : Known E B) (more : List ℕ) (words : List ℕ) → get_elem? s.views id ≡ some v → has_turn v.turn ≡ false → IsOut book s
      → IsOut (record book { queue = book.queue ++ more }) (record { words = words; homes = s.homes; views = set s.views id w })
  out_set book s id v w more words at idle out =
      let seat = out.1.0 in
      (out.0, (seat, out.1.1, at_longer book.queue more 0 seat out.1.2, holder_stays s.views id seat v w out.1.1 at idle out.1.3 out.1.5, out.1.4, out.1.5))

  pub home_set : (book : Book E) (s : State (Option S) (Known E B)) (id : ℕ) (w : Known E B) (more : List ℕ) (words : List ℕ) → has_turn w.turn ≡ false → IsHome base_of history_of base book s
      → IsHome base_of history_of base (record book { queue = book.queue ++ more }) (record { words = words; homes = s.homes; views = set s.views id w })
  home_set book s id w more words idle home = (home.0, home.1, home.2, home.3, λ seat u at live. by seat u live (at_set s.views id seat w u at))
    where
      by : (seat : ℕ) (u : Known E B) → u.live ≡ true → ((seat ≡ id) × (w ≡ u)) ⊎ ((seat ≢ id) × (get_elem? s.views seat ≡ some u)) → has_turn u.turn ≡ false
      by seat u live (inl same) = subst (λ (k : Known E B). has_turn k.turn ≡ false) same.1 idle
      by seat u live (inr other) = home.4 seat u other.1 live

  -- what a pass knows is so whether it waits or holds a turn
  pub turned : (log : List E) (owner : ℕ → ℕ) (total seat : ℕ) (v : Known E B) (turn : Turn E) → Fits number base log owner total seat v → Fits number base log owner total seat (record v { turn = turn })
  turned log owner total seat v turn f =
      record {
        same = f.same;
        seen = f.seen;
        told = f.told;
        each = λ n some. let known = f.each n some in record { events = known.events; given = known.given; here = known.here };
        once = f.once;
        first = f.first;
        other = f.other;
      }

  drawn_stands : (book : Book E) (words : List ℕ) (views : List (Known E B)) (id : ℕ) (v : Known E B) → v.live ≡ true → v.turn ≡ Idle → get_elem? views id ≡ some v → Stands number base book words views
      → Stands number base (record book { queue = book.queue ++ id ∷ [] }) (set words 0 ((slice_index words 0 + 1) % 2 ^ 64)) (set views id (record v { turn = Waits (book.start + length book.queue) }))
  drawn_stands book words views id v live idle at h =
      record {
        words_are = subst (λ ws. set ws 0 ((slice_index ws 0 + 1) % 2 ^ 64) ≡ (book.start + length (book.queue ++ id ∷ [])) % 2 ^ 64 ∷ book.start % 2 ^ 64 ∷ []) (sym h.words_are) next;
        each = λ seat u at' live'. each seat u live' (at_set views id seat w u at');
        whole = omega (arith, h.whole, weights);
        lined = omega (arith, h.lined, counts, none, tickets_of w w.turn live refl, length-append book.queue (id ∷ []));
        few = h.few;
        covered = λ n below. held_set views id v w at (λ l. l) n (λ k. k) (book.owner n) (h.covered n below);
        others = h.others;
      }
    where
      w : Known E B
      w = record v { turn = Waits (book.start + length book.queue) }

      after : Book E
      after = record book { queue = book.queue ++ id ∷ [] }

      weights : sum_by weight (set views id w) + weight v ≡ sum_by weight views + weight w
      weights = sum_set weight views id v w at

      counts : sum_by tickets (set views id w) + tickets v ≡ sum_by tickets views + tickets w
      counts = sum_set tickets views id v w at

      none : tickets v ≡ 0
      none = tickets_of v Idle live idle

      one_more : book.start + length book.queue + 1 ≡ book.start + length (book.queue ++ id ∷ [])
      one_more = omega (arith, length-append book.queue (id ∷ []))

      next : ((book.start + length book.queue) % 2 ^ 64 + 1) % 2 ^ 64 ∷ book.start % 2 ^ 64 ∷ [] ≡ (book.start + length (book.queue ++ id ∷ [])) % 2 ^ 64 ∷ book.start % 2 ^ 64 ∷ []
      next = ap (λ k. k ∷ book.start % 2 ^ 64 ∷ []) (mod-add-mod (book.start + length book.queue) (2 ^ 64) 1 ∙ ap (λ k. k % 2 ^ 64) one_more)

      here : Fits number base book.log book.owner book.total id w × IsPlaced after id w.turn
      here = (turned book.log book.owner book.total id v w.turn (h.each id v at live).0, (length book.queue, refl, at_last book.queue id (length book.queue) refl))

      each : (seat : ℕ) (u : Known E B) → u.live ≡ true → ((seat ≡ id) × (w ≡ u)) ⊎ ((seat ≢ id) × (get_elem? views seat ≡ some u)) → Fits number base book.log book.owner book.total seat u × IsPlaced after seat u.turn
      each seat u live' (inl same) = subst (λ (p : ℕ × Known E B). Fits number base book.log book.owner book.total p.0 p.1 × IsPlaced after p.0 p.1.turn) (λ i. (sym same.0 i, same.1 i)) here
      each seat u live' (inr other) = let fits = h.each seat u other.1 live' in (fits.0, placed_longer book (id ∷ []) seat u.turn fits.1)

  -- a pass that holds no turn may draw a ticket
  pub draws : (slots id : ℕ) (me : Me (Option S) (Known E B)) (it : Step (Option S)) → me.0.live ≡ true → me.0.turn ≡ Idle
      → Allows (TurnRule base_of history_of number base) slots id me 0 (λ n. (n + 1) % 2 ^ 64) (Draws it me)
  draws slots id me it live idle s kept size at bound =
      let book = kept.0 in
      let ticket : ℕ = book.start + length book.queue in
      let w : Known E B = record me.0 { turn = Waits ticket } in
      let after : Book E = record book { queue = book.queue ++ id ∷ [] } in
      let still : has_turn me.0.turn ≡ false = ap has_turn idle in
      let words : List ℕ = set s.words 0 ((slice_index s.words 0 + 1) % 2 ^ 64) in
      let stands = drawn_stands book s.words s.views id me.0 live idle at kept.1 in
      let lies = ⊎_map (out_set book s id me.0 w (id ∷ []) words at still) (home_set book s id w (id ∷ []) words refl) kept.2 in
      (w, keeps, tt, (after, stands, lies), (ticket, ap (λ ws. slice_index ws 0) kept.1.words_are, refl))
