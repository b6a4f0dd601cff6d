-- A lock of two passes worked by hand. Its events are numbers of two digits, the first of which is the pass's.
use Rattle.std.proofs.Common.{◌≡◌, ℕ, ◌/◌, ◌%◌, ◌^◌, ◌<◌, ◌==◌, zero, suc, inl, inr, Bool, true, false, cond, List, [], ◌∷◌, length, Option, Some, None, refl, sym, ap, subst, arith}
use Rattle.std.specs.Prelude.{MatchBool, slice_index}
use Rattle.std.proofs.lemmas.Bool.Decides.{nat_tests}
use mathlib.Core.Option.{some, none}
use lib.ListN.{get_elem?}
use Rattle.atomic_table.specs.Seated.{TableId}
use Rattle.atomic_table.specs.Table.{Me, State, Step}
use Rattle.std.specs.Borrow.{Lends, MutBor, u64}
use Rattle.turn_lock.specs.contracts.held.Held.{the_row}
use Rattle.turn_lock.specs.declared.held.Held.{Held}
use Rattle.turn_lock.specs.declared.view.Known.{Known}
use Rattle.turn_lock.specs.declared.view.Met.{Met}
use Rattle.turn_lock.specs.declared.view.Turn.{Turn}
use Rattle.turn_lock.specs.declared.view.Turn.TheVariants.{Idle, Waits, Holds}
use Rattle.turn_lock.specs.Lending.{LendsValue}
use Rattle.turn_lock.specs.Passes.{Begins, beside, events_in, first_pass, HasAll, IsFree, IsOf, KnowsAll, known_of, LockState, longer, met_with, own, PassState, WasLent, without_number}
use Rattle.turn_lock.specs.Rule.{turn_start, Book, Fits, IsHeldAt, IsHome, IsKnown, IsOut, IsPlaced, TurnRule, Stands, has_ticket, has_turn, known_in, newcomer, shown, tickets, times, weight}
use Rattle.turn_lock.specs.Steps.{Adds, advanced, Advances, closed, split_off, Draws, hand_of, in_hand, IsAtRest, IsLent, took_in, new_of, part_of, parted, Polls, Returns, Settles, used_up, Takes}

-- the pass of an event
abbrev pass_of : ℕ → ℕ
pass_of event = event / 10

own_events : own pass_of 1 (10 ∷ 20 ∷ 11 ∷ []) ≡ 10 ∷ 11 ∷ []
own_events = refl

goes_on : Begins {E = ℕ} (10 ∷ 20 ∷ []) (10 ∷ [])
goes_on = (20 ∷ [], refl)

other_front : Begins {E = ℕ} (10 ∷ 20 ∷ []) (20 ∷ []) → ⊥
other_front (rest, same) = cc

longer_one : (longer {E = ℕ} (10 ∷ []) (10 ∷ 20 ∷ []) ≡ 10 ∷ 20 ∷ []) × (longer {E = ℕ} (10 ∷ 20 ∷ []) [] ≡ 10 ∷ 20 ∷ [])
longer_one = (refl, refl)

-- two passes that were taken in
abbrev both : List (Met ℕ)
both = record { number = 1; events = 10 ∷ [] } ∷ record { number = 2; events = 20 ∷ 21 ∷ [] } ∷ []

events : (events_in both 2 ≡ 20 ∷ 21 ∷ []) × (events_in both 3 ≡ []) × (events_in (without_number 2 both) 2 ≡ [])
events = (refl, refl, refl)

-- the events of each number in the history 0, 10 are those that the passes 0 and 1 made
both_own : (a b : Bool) → (a ≡ true → b ≡ true → ⊥) → cond {A = List ℕ} a (0 ∷ cond b (10 ∷ []) []) (cond b (10 ∷ []) []) ≡ cond {A = List ℕ} a (0 ∷ []) (cond b (10 ∷ []) [])
both_own true true apart = absurd (apart refl refl)
both_own true false apart = refl
both_own false true apart = refl
both_own false false apart = refl

module _ (table : TableId) where
  abbrev community : LockState (Unit {0})
  community = record { lock = table; base = tt }

  -- the first of two passes: nobody else is to be taken in yet
  abbrev first : PassState ℕ (Unit {0})
  first = first_pass community 2

  first_is : IsOf community first × IsFree first × HasAll first
  first_is = (record { same = refl; live = refl; base = refl }, refl, record { first = refl; all = refl })

  -- a pass of a lock that was closed is none of its passes, and one that holds a turn isn't free
  closed_is_none : IsOf community (record first { live = false }) → ⊥
  closed_is_none one = let live : false ≡ true = one.live in cc

  holder_is_busy : IsFree (record first { turn = Some [] }) → ⊥
  holder_is_busy free = cc

  lent_here : WasLent (record first { turn = Some (10 ∷ []) }) 0 (10 ∷ [])
  lent_here = record { number_is = refl; turn_is = refl }

  others_turn : WasLent (record first { turn = Some (10 ∷ []) }) 1 (10 ∷ []) → ⊥
  others_turn lent = omega (arith, lent.number_is)

  -- it has split off the other and made an event, the other has made the next one, and it has taken that in
  abbrev first_after : PassState ℕ (Unit {0})
  first_after = record first { left = 0; made = 1; seen = 0 ∷ []; mine = 0 ∷ [] }

  abbrev taken : PassState ℕ (Unit {0})
  taken = met_with first_after (record (beside first_after 1 []) { seen = 0 ∷ 10 ∷ []; mine = 10 ∷ [] })

  taken_is : (taken.seen ≡ 0 ∷ 10 ∷ []) × (known_of taken 0 ≡ 0 ∷ []) × (known_of taken 1 ≡ 10 ∷ []) × (known_of taken 2 ≡ []) × HasAll taken
  taken_is = (refl, refl, refl, refl, record { first = refl; all = refl })

  -- so it knows the whole history
  taken_whole : KnowsAll pass_of taken (0 ∷ 10 ∷ [])
  taken_whole n = both_own (0 == n) (1 == n) (λ a b. grind arith)

  -- and it knew less before it had taken the other in: not all passes, and not the other's event
  not_all_before : HasAll first_after → ⊥
  not_all_before all = omega (arith, all.all)

  not_whole_before : KnowsAll pass_of first_after (0 ∷ 10 ∷ []) → ⊥
  not_whole_before whole = omega (arith, ap length (whole 1))

  -- what a pass shows of what it knows
  shown_is : shown table (newcomer tt 2) ≡ first
  shown_is = refl

-- the first pass, and the same with a number that it split off and took in again
abbrev alone : Known ℕ (Unit {0})
alone = newcomer tt 2

abbrev again : Known ℕ (Unit {0})
again = took_in (split_off alone) (record (new_of alone) { mine = 10 ∷ [] })

counts : (weight alone ≡ 1) × (weight again ≡ 2) × (times again 1 ≡ 1) × (times again 2 ≡ 0) × (known_in again 1 ≡ 10 ∷ []) × (weight (closed again) ≡ 0)
counts = (refl, refl, refl, refl, refl, refl)

splits : ((split_off alone).left ≡ 0) × ((split_off alone).made ≡ 1) × ((new_of alone).number ≡ 1)
splits = (refl, refl, refl)

parts : (weight (parted 1 again) ≡ 1) × ((part_of 1 again).mine ≡ 10 ∷ []) × ((part_of 1 again).number ≡ 1)
parts = (refl, refl, refl)

-- a turn of ticket 7: waited for, held from a history of one event on, and over with one event more
abbrev waiting : Known ℕ (Unit {0})
waiting = record alone { turn = Waits 7 }

abbrev holding : Known ℕ (Unit {0})
holding = record alone { turn = Holds 7 (10 ∷ []) }

turns : (tickets alone ≡ 0) × (tickets waiting ≡ 1) × (tickets holding ≡ 1) × (has_ticket waiting.turn ≡ true) × (has_turn waiting.turn ≡ false) × (has_turn holding.turn ≡ true) × (turn_start holding.turn ≡ Some (10 ∷ []))
turns = (refl, refl, refl, refl, refl, refl, refl)

hands : (hand_of {S = ℕ} waiting.turn ≡ []) × (hand_of {S = ℕ} holding.turn ≡ (0, None) ∷ [])
hands = (refl, refl)

turn_over : ((advanced holding (10 ∷ 1 ∷ [])).mine ≡ 1 ∷ []) × ((advanced holding (10 ∷ 1 ∷ [])).seen ≡ 10 ∷ 1 ∷ []) × Adds pass_of 0 (1 ∷ [])
turn_over = (refl, refl, inr (1, refl, refl))

-- between calls a pass holds its turn or has none, and doesn't wait
at_rest : IsAtRest alone.turn × IsAtRest holding.turn × (IsAtRest waiting.turn → ⊥)
at_rest = (tt, tt, λ rest. rest)

-- the lock's value is its history alone
abbrev base_of : List ℕ → Unit {0}
base_of value = tt

abbrev history_of : List ℕ → List ℕ
history_of value = value

-- the ticket of a turn, and 0 where there is none
abbrev ticket_of : Turn ℕ → ℕ
ticket_of Idle = 0
ticket_of (Waits ticket) = ticket
ticket_of (Holds ticket history) = ticket

-- the first of two passes has made event 0 and seen it, has taken in the other with its event 10, and waits for turn 7
abbrev gathered : Known ℕ (Unit {0})
gathered = record waiting { left = 0; made = 1; seen = 0 ∷ []; mine = 0 ∷ []; met = record { number = 1; events = 10 ∷ [] } ∷ [] }

abbrev idle : Known ℕ (Unit {0})
idle = record gathered { turn = Idle }

-- the history has the events of both
abbrev whole : List ℕ
whole = 0 ∷ 10 ∷ []

abbrev lent : Known ℕ (Unit {0})
lent = record gathered { turn = Holds 7 whole }

-- the value with all that the first pass has seen and knows is lent to it
is_lent : IsLent base_of history_of pass_of 7 gathered whole lent
is_lent = record { holds = refl; seen = (10 ∷ [], refl); mine = refl; base = refl; whole = λ first all n. both_own (0 == n) (1 == n) (grind arith) }

-- no value is lent to it that lacks what it has seen, nor one with an event of the other pass that it doesn't know
lacks_seen : IsLent base_of history_of pass_of 7 gathered (10 ∷ []) (record gathered { turn = Holds 7 (10 ∷ []) }) → ⊥
lacks_seen given = let (rest, same) = given.seen in cc

has_unknown : IsLent base_of history_of pass_of 7 gathered (0 ∷ 10 ∷ 11 ∷ []) (record gathered { turn = Holds 7 (0 ∷ 10 ∷ 11 ∷ []) }) → ⊥
has_unknown given = omega (arith, ap length (given.whole refl refl 1))

-- nor one with an event under its own number that it didn't add
has_own_unknown : IsLent base_of history_of pass_of 7 gathered (0 ∷ 1 ∷ 10 ∷ []) (record gathered { turn = Holds 7 (0 ∷ 1 ∷ 10 ∷ []) }) → ⊥
has_own_unknown given = omega (arith, ap length given.mine)

-- to a pass that has not taken in all others, the same may be lent: it has seen its front
unknown_to_some : IsLent base_of history_of pass_of 7 (record gathered { met = [] }) (0 ∷ 10 ∷ 11 ∷ []) (record gathered { met = []; turn = Holds 7 (0 ∷ 10 ∷ 11 ∷ []) })
unknown_to_some = record { holds = refl; seen = (10 ∷ 11 ∷ [], refl); mine = refl; base = refl; whole = λ first all. absurd (omega arith) }

-- a turn that ends gives the value back with one event of the pass more, or none, and with none of another pass
one_more : Returns base_of history_of pass_of 7 (1 ∷ []) lent (0 ∷ 10 ∷ 1 ∷ [])
one_more = record { turn = (whole, refl, refl); base = refl; adds = inr (1, refl, refl) }

none_more : Returns base_of history_of pass_of 7 [] lent whole
none_more = record { turn = (whole, refl, refl); base = refl; adds = inl refl }

others_event : Returns base_of history_of pass_of 7 (11 ∷ []) lent (0 ∷ 10 ∷ 11 ∷ []) → ⊥
others_event back = refused back.adds
  where
    refused : Adds pass_of 0 (11 ∷ []) → ⊥
    refused (inl empty) = omega (arith, ap length empty)
    refused (inr (event, same, number)) = cc

two_events : Returns base_of history_of pass_of 7 (1 ∷ 2 ∷ []) lent (0 ∷ 10 ∷ 1 ∷ 2 ∷ []) → ⊥
two_events back = refused back.adds
  where
    refused : Adds pass_of 0 (1 ∷ 2 ∷ []) → ⊥
    refused (inl empty) = omega (arith, ap length empty)
    refused (inr (event, same, number)) = omega (arith, ap length same)

-- what a seat knows, and the values that it has in hand
abbrev Seat : Type 0
Seat = Me (Option (List ℕ)) (Known ℕ (Unit {0}))

abbrev hand : List (ℕ × Option (List ℕ))
hand = (0, Some whole) ∷ []

hand_is : (in_hand history_of hand ≡ whole) × (in_hand history_of ((0, None) ∷ []) ≡ []) × (in_hand history_of [] ≡ [])
hand_is = (refl, refl, refl)

taken_in_turn : Takes base_of history_of pass_of 7 (gathered, []) (lent, hand)
taken_in_turn = (whole, is_lent, refl)

left_in_place : Takes base_of history_of pass_of 7 (gathered, []) (lent, []) → ⊥
left_in_place (value, given, holds) = omega (arith, ap length holds)

module _ (step : Step (Option (List ℕ))) where
  -- the ticket is the number that was found, and after 2^64 of them the words begin again at 0
  draws : Draws step (idle, []) 7 (gathered, []) × Draws step (idle, []) 0 (record idle { turn = Waits 18446744073709551616 }, [])
  draws = ((7, refl, refl), (18446744073709551616, refl, refl))

  other_ticket : Draws step (idle, []) 8 (gathered, []) → ⊥
  other_ticket drawn = let same : 7 ≡ drawn.0 = ap (λ (me : Seat). ticket_of me.0.turn) drawn.2 in omega (arith, drawn.1)

  -- where the word is the ticket's the value is taken, and else nothing changes
  polls : Polls base_of history_of pass_of step (gathered, []) 7 (lent, hand)
  polls ticket waits = subst (λ t. MatchBool (7 == t % 2 ^ 64) (Takes base_of history_of pass_of t (gathered, []) (lent, hand)) (◌≡◌ {A = Seat} (lent, hand) (gathered, []))) (ap ticket_of waits) taken_in_turn

  polls_early : Polls base_of history_of pass_of step (gathered, []) 6 (gathered, [])
  polls_early ticket waits = subst (λ t. MatchBool (6 == t % 2 ^ 64) (Takes base_of history_of pass_of t (gathered, []) (gathered, [])) (◌≡◌ {A = Seat} (gathered, []) (gathered, []))) (ap ticket_of waits) refl

  taken_early : Polls base_of history_of pass_of step (gathered, []) 6 (lent, hand) → ⊥
  taken_early told = let same : (lent, hand) ≡ (gathered, []) = told 7 refl in omega (arith, ap (λ (me : Seat). length me.1) same)

  missed : Polls base_of history_of pass_of step (gathered, []) 7 (gathered, []) → ⊥
  missed told = let (x, given, holds) = told 7 refl in omega (arith, ap length holds)

  -- a pass that ends its turn has seen all, has what it added, and has nothing in hand
  advances : Advances history_of step (lent, (0, Some (0 ∷ 10 ∷ 1 ∷ [])) ∷ []) 7 (record idle { seen = 0 ∷ 10 ∷ 1 ∷ []; mine = 0 ∷ 1 ∷ [] }, [])
  advances = refl

  kept_in_hand : Advances history_of step (lent, hand) 7 (record idle { seen = whole }, hand) → ⊥
  kept_in_hand same = omega (arith, ap (λ (me : Seat). length me.1) same)

  -- a pass sees what it was told by another that has seen more, where both saw fronts of one history
  settles : Settles step (record idle { told = whole }, []) 7 (record idle { seen = whole; told = whole }, [])
  settles = (refl, (10 ∷ [], refl), ([], refl))

  other_history : Settles step (record idle { told = 10 ∷ 0 ∷ [] }, []) 7 (record idle { seen = 10 ∷ 0 ∷ []; told = 10 ∷ 0 ∷ [] }, []) → ⊥
  other_history seen = let (rest, same) = seen.1 in cc

-- of a value that was lent out in place, its new value is written back, and the number and the start stay
lends : (held : MutBor (Held ℕ ℕ ℕ)) (value : MutBor ℕ) → LendsValue u64 u64 u64 held value ≡ Lends (the_row u64 u64 u64) u64 held value (λ now. record { value = now; number = held.now.number; start = held.now.start })
lends held value = refl

-- The rule of the lock, where the first pass has seen its own event alone and waits for turn 7, and the other, at seat 1,
-- holds turn 6. The words are the next ticket, and the ticket whose turn it is.
abbrev first_waits : Known ℕ (Unit {0})
first_waits = record gathered { met = [] }

abbrev other_holds : Known ℕ (Unit {0})
other_holds = record first_waits { number = 1; seen = whole; mine = 10 ∷ []; made = 0; turn = Holds 6 whole }

abbrev Passes : Type 0
Passes = State (Option (List ℕ)) (Known ℕ (Unit {0}))

abbrev book : Book ℕ
book = record { log = whole; owner = λ n. n; total = 2; start = 6; queue = 1 ∷ 0 ∷ [] }

abbrev out : Passes
out = record { words = 8 ∷ 6 ∷ []; homes = none ∷ []; views = first_waits ∷ other_holds ∷ [] }

-- what holds of the pass at each of two seats
two_seats : (P : ℕ → Known ℕ (Unit {0}) → Type 0) (one other : Known ℕ (Unit {0})) → P 0 one → P 1 other → (seat : ℕ) (v : Known ℕ (Unit {0})) → get_elem? (one ∷ other ∷ []) seat ≡ some v → P seat v
two_seats P one other here there zero v at = let equal : one ≡ v = cc in subst (P 0) equal here
two_seats P one other here there (suc zero) v at = let equal : other ≡ v = cc in subst (P 1) equal there
two_seats P one other here there (suc (suc seat)) v at = absurd (let nobody : none ≡ some v = at in cc)

first_fits : Fits pass_of tt whole (λ n. n) 2 0 first_waits
first_fits = record {
  same = refl;
  seen = (10 ∷ [], refl);
  told = (whole, refl);
  each = λ n some. subst (IsKnown pass_of whole (λ k. k) 2 0 first_waits) (let equal : 0 ≡ n = grind (arith, nat_tests) in equal) (record { events = refl; given = omega arith; here = refl });
  once = λ n. grind (arith, nat_tests);
  first = λ number. (refl, omega arith);
  other = λ more. refl;
}

other_fits : Fits pass_of tt whole (λ n. n) 2 1 other_holds
other_fits = record {
  same = refl;
  seen = ([], refl);
  told = (whole, refl);
  each = λ n some. subst (IsKnown pass_of whole (λ k. k) 2 1 other_holds) (let equal : 1 ≡ n = grind (arith, nat_tests) in equal) (record { events = refl; given = omega arith; here = refl });
  once = λ n. grind (arith, nat_tests);
  first = λ number. absurd (omega arith);
  other = λ more. refl;
}

-- a pass fits no history that lacks an event of its own, nor one whose front it has not seen
event_lost : Fits pass_of tt (0 ∷ []) (λ n. n) 2 1 (record other_holds { seen = 0 ∷ [] }) → ⊥
event_lost fits = omega (arith, ap length ((fits.each 1 (omega arith)).events))

other_seen : Fits pass_of tt whole (λ n. n) 2 0 (record first_waits { seen = 10 ∷ [] }) → ⊥
other_seen fits = let (rest, same) = fits.seen in cc

-- the words, the passes and the history stand together, and the value is out with the pass at seat 1
abbrev AtSeat : Book ℕ → ℕ → Known ℕ (Unit {0}) → Type 0
AtSeat now seat v = v.live ≡ true → Fits pass_of tt now.log now.owner now.total seat v × IsPlaced now seat v.turn

covered : (n : ℕ) → n < 2 → IsHeldAt (first_waits ∷ other_holds ∷ []) n n
covered zero below = (first_waits, refl, refl, omega arith)
covered (suc zero) below = (other_holds, refl, refl, omega arith)
covered (suc (suc n)) below = absurd (omega (arith, below))

stands : Stands pass_of tt book (8 ∷ 6 ∷ []) (first_waits ∷ other_holds ∷ [])
stands = record {
  words_are = refl;
  each = two_seats (AtSeat book) first_waits other_holds (λ live. (first_fits, (1, refl, refl))) (λ live. (other_fits, (refl, refl, refl)));
  whole = refl;
  lined = refl;
  few = omega arith;
  covered = covered;
  others = λ n more. grind (arith, nat_tests);
}

is_out : IsOut book out
is_out = (refl, (1, other_holds, refl, refl, refl, refl))

kept : TurnRule base_of history_of pass_of tt out
kept = (book, stands, inl is_out)

other_number : IsHeldAt (first_waits ∷ other_holds ∷ []) 0 1 → ⊥
other_number (v, at, live, knows) = let same : first_waits ≡ v = cc in omega (arith, subst (λ u. 0 < times u 1) (sym same) knows)

other_words : Stands pass_of tt book (9 ∷ 6 ∷ []) (first_waits ∷ other_holds ∷ []) → ⊥
other_words stands = omega (arith, ap (λ words. slice_index words 0) stands.words_are)

-- nobody else holds the turn, and the next ticket's pass isn't the first in the queue
holds_later : IsPlaced book 0 (Holds 7 whole) → ⊥
holds_later placed = omega (arith, placed.0)

-- the other's turn ends without an event more: the value is home, and the first pass is next
abbrev back : Passes
back = record { words = 8 ∷ 7 ∷ []; homes = some (Some whole) ∷ []; views = first_waits ∷ record other_holds { turn = Idle } ∷ [] }

abbrev IsWithoutTurn : ℕ → Known ℕ (Unit {0}) → Type 0
IsWithoutTurn seat v = v.live ≡ true → has_turn v.turn ≡ false

is_home : IsHome base_of history_of tt (record book { start = 7; queue = 0 ∷ [] }) back
is_home = (whole, refl, refl, refl, two_seats IsWithoutTurn first_waits (record other_holds { turn = Idle }) (λ live. refl) (λ live. refl))

-- it isn't home while a pass holds a turn, nor with another history
home_and_held : IsHome base_of history_of tt book (record back { views = out.views }) → ⊥
home_and_held (value, home, history, base, idle) = let held : true ≡ false = idle 1 other_holds refl refl in cc

other_home : IsHome base_of history_of tt book (record back { homes = some (Some (0 ∷ [])) ∷ [] }) → ⊥
other_home (value, home, history, base, idle) = let equal : 0 ∷ [] ≡ value = cc in omega (arith, ap length equal, ap length history)

-- a value doesn't lie in the slot while a pass holds a turn, and isn't missing while none does
held_twice : TurnRule base_of history_of pass_of tt (record out { homes = some (Some whole) ∷ [] }) → ⊥
held_twice (now, all, inl (gone, held)) = cc
held_twice (now, all, inr (value, home, history, base, idle)) = let held : true ≡ false = idle 1 other_holds refl refl in cc

lost : TurnRule base_of history_of pass_of tt (record back { homes = none ∷ [] }) → ⊥
lost (now, all, inl (gone, (seat, v, queued, at, live, holds))) =
    let waits : has_turn v.turn ≡ false = two_seats IsWithoutTurn first_waits (record other_holds { turn = Idle }) (λ one. refl) (λ one. refl) seat v at live in
    cc
lost (now, all, inr (value, home, history, base, idle)) = cc

-- what is left of a pass that was taken in counts no more
none_left : (weight {E = ℕ} {B = Unit {0}} used_up ≡ 0) × (tickets {E = ℕ} {B = Unit {0}} used_up ≡ 0)
none_left = (refl, refl)
