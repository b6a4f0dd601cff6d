-- A seat that has made no entry, one that goes on, and lines of one stamp.
use Rattle.std.proofs.Common.{◌≡◌, ℕ, ◌+◌, ◌-◌, ◌<◌, ◌≤◌, ◌==◌, Bool, true, List, [], ◌++◌, length, take, drop, get_or, length-drop, Ok, Err, OnOk, Result, refl, sym, ap, ◌∙◌, subst, arith, append-nil, append_assoc, eq-eqb}
use Rattle.std.specs.Prelude.{OnErr}
use Rattle.std.specs.List.{list_all}
use Rattle.std.proofs.lemmas.Bool.{and_from}
use Rattle.std.proofs.lemmas.List.{get_or-drop, take-append-drop}
use Rattle.std.proofs.lemmas.List.Elements.{filter-append}
use Rattle.std.proofs.lemmas.List.Folds.{list_all_more}
use Rattle.moos_client.specs.Calls.{MayCall, SeatState, entries_of}
use Rattle.moos_post.specs.declared.entry.Entry.{Entry}
use Rattle.moos_step.specs.Steps.{CommunityLock, HasMade, IsPlayed, Makes}
use Rattle.turn_lock.proofs.Fronts.{begins_itself, begins_on}

-- what holds anyway
pub on_any : {A E : Type 0} (result : Result A E) {P : Type 0} → P → OnOk result P
on_any (Ok _) h = h
on_any (Err _) h = tt

pub err_any : {A E : Type 0} (result : Result A E) {P : Type 0} → P → OnErr result P
err_any (Ok _) h = tt
err_any (Err _) h = h

-- nothing is made yet
pub made_none : (seat : SeatState) → HasMade [] seat seat
made_none seat = record {
  later = begins_itself seat.seen;
  same = ap (λ mine. record seat { mine = mine }) (sym (append-nil seat.mine));
}

-- entries behind others
pub made_more : (some more : List Entry) (a b c : SeatState) → HasMade some a b → HasMade more b c → HasMade (some ++ more) a c
made_more some more a b c first second = record {
  later = begins_on a.seen b.seen c.seen first.later second.later;
  same = second.same
      ∙ ap {A = SeatState} (λ s. record s { seen = c.seen; mine = s.mine ++ more }) first.same
      ∙ ap (λ mine. record a { seen = c.seen; mine = mine }) (append_assoc a.mine some more);
}

-- a seat that has made entries may go on
pub may_on : (lock : CommunityLock) (added : List Entry) (a b : SeatState) → HasMade added a b → MayCall lock a → MayCall lock b
may_on lock added a b made may = subst (MayCall lock) (sym made.same) (record {
  of_lock = record { same = may.of_lock.same; live = may.of_lock.live; base = may.of_lock.base };
  free = may.free;
  client = may.client;
})

-- the calls among these lines are made so far, by the seat's client
pub record SoFar (lock : CommunityLock) (lines : List Entry) (client : ℕ) (first now : SeatState) : Type 0 where
  pub made : HasMade (entries_of first.number lines) first now
  pub own : client ≡ first.number
  pub may : MayCall lock first

-- a front of the lines is played, where a call found no memory
pub played_front : {E : Type 0} (lines : List Entry) (i : ℕ) (result : Result (Unit {0}) E) (seat now after : SeatState) → HasMade (entries_of seat.number (take i lines)) seat now → HasMade [] now after
    → OnOk result (entries_of seat.number (take i lines) ≡ entries_of seat.number lines) → Makes (IsPlayed lines result) seat after
played_front lines i result seat now after so none all = record {
  added = entries_of seat.number (take i lines);
  made = subst (λ added. HasMade added seat after) (append-nil (entries_of seat.number (take i lines))) (made_more (entries_of seat.number (take i lines)) [] seat now after so none);
  allowed = record {
    front = (entries_of seat.number (drop i lines), ap (entries_of seat.number) (sym (take-append-drop i lines)) ∙ filter-append (λ entry. entry.client == seat.number) (take i lines) (drop i lines));
    all = all;
  };
}

-- no line is played of a client that has none
pub played_none : {E : Type 0} (lines : List Entry) (result : Result (Unit {0}) E) (seat : SeatState) → entries_of seat.number lines ≡ [] → Makes (IsPlayed lines result) seat seat
played_none lines result seat none = record {
  added = [];
  made = made_none seat;
  allowed = record { front = (entries_of seat.number lines, refl); all = on_any result (sym none) };
}

-- the lines from one place to another have this stamp
pub record HaveStamp (lines : List Entry) (stamp from to : ℕ) : Type 0 where
  pub more : from < to
  pub within : to ≤ length lines
  pub one : list_all (λ line. line.stamp == stamp) (take (to - from) (drop from lines)) ≡ true

stamp_on : (lines : List Entry) (stamp from to : ℕ) (line : Entry) → from ≤ to → to < length lines → line ≡ get_or lines to line → line.stamp ≡ stamp
    → list_all (λ line. line.stamp == stamp) (take (to - from) (drop from lines)) ≡ true → list_all (λ line. line.stamp == stamp) (take (to + 1 - from) (drop from lines)) ≡ true
stamp_on lines stamp from to line below within is same so =
    let p : Entry → Bool = λ line. line.stamp == stamp in
    let n : to + 1 - from ≡ to - from + 1 = omega (arith, below) in
    let place : from + (to - from) ≡ to = omega (arith, below) in
    let read : line ≡ get_or (drop from lines) (to - from) line = is ∙ sym (ap (λ i. get_or lines i line) place) ∙ sym (get_or-drop from lines (to - from) line) in
    rw n (list_all_more p (drop from lines) (to - from) line (omega (arith, below, within, length-drop from lines))
    ∙ and_from (list_all p (take (to - from) (drop from lines))) (p (get_or (drop from lines) (to - from) line)) so (subst (λ l. p l ≡ true) read (eq-eqb line.stamp stamp same)))

pub stamp_more : {lines : List Entry} {stamp from to : ℕ} (line : Entry) → HaveStamp lines stamp from to → to < length lines → line ≡ get_or lines to line → line.stamp ≡ stamp → HaveStamp lines stamp from (to + 1)
stamp_more {lines = lines} {stamp = stamp} {from = from} {to = to} line so within is same = record {
  more = omega (arith, so.more);
  within = omega (arith, within);
  one = stamp_on lines stamp from to line (omega (arith, so.more)) within is same so.one;
}
