-- A call of a client while no other makes one: what it adds to the history.
use Rattle.std.proofs.Common.{◌≡◌, ◌≢◌, ℕ, ◌<◌, cond, List, [], ◌∷◌, ◌++◌, length, length-append, Ok, Err, OnOk, Result, refl, sym, ap, ◌∙◌, subst, arith, append-nil, append_assoc, eq-eqb, ne_eqb}
use Rattle.std.specs.Prelude.{IfOk, OnErr}
use Rattle.std.specs.declared.alloc.AllocError.{AllocError}
use Rattle.moos_client.specs.Calls.{entries_of, entry_of, IsCalled, IsFetched, IsUncalled, SeatState}
use Rattle.moos_db.proofs.Letters.{letters_are}
use Rattle.moos_db.specs.declared.mail.Letter.{Letter}
use Rattle.moos_step.proofs.Growing.{grown}
use Rattle.moos_client.proofs.Histories.{none_left, only_own}
use Rattle.moos_step.proofs.Leading.{IsLed, led_first, led_other}
use Rattle.moos_step.specs.Steps.{added_by, IsAnswered, IsJust, mail_of_call, CommunityLock, GoesOn, IsGathered, IsWhole, Makes, HasMade}
use Rattle.moos_post.specs.Delivery.{mail_after}
use Rattle.moos_post.specs.History.{History, posts_of}
use Rattle.moos_post.specs.declared.entry.Call.{Call}
use Rattle.moos_post.specs.declared.entry.Call.TheVariants.{Fetch}
use Rattle.moos_post.specs.declared.entry.Entry.{Entry}
use Rattle.turn_lock.specs.Passes.{Begins, beside, events_in, met_with, without_number}

-- a call as an entry that the seat makes
pub called_made : (seat after : SeatState) (stamp : ℕ) (call : Call) → IsCalled seat after stamp call → HasMade (entry_of seat.number stamp call ∷ []) seat after
called_made seat after stamp call called =
    let entry : Entry = entry_of seat.number stamp call in
    let seen : after.seen ≡ called.before ++ entry ∷ [] = ap (λ s. s.seen) called.after in
    record {
      later = (called.later.0 ++ entry ∷ [], seen ∙ ap (λ front. front ++ entry ∷ []) called.later.1 ∙ append_assoc seat.seen called.later.0 (entry ∷ []));
      same = called.after ∙ ap (λ seen. record seat { seen = seen; mine = seat.mine ++ entry ∷ [] }) (sym seen);
    }

-- no other client makes any
pub just_idle : {A : Type 0} (result : Result A AllocError) (entry : Entry) (n : ℕ) → n ≢ entry.client → IsJust (added_by result entry) n []
just_idle (Ok _) entry n other = sym (ap (λ b. cond b (entry ∷ []) []) (ne_eqb entry.client n (λ e. other (sym e))))
just_idle (Err _) entry n other = refl

-- the client makes them at its seat
call_makes : {A : Type 0} (result : Result A AllocError) (seat after : SeatState) (stamp : ℕ) (call : Call) → OnOk result (IsCalled seat after stamp call) → OnErr result (IsUncalled seat after) → Makes (IsJust (added_by result (entry_of seat.number stamp call))) seat after
call_makes (Ok _) seat after stamp call called none = record {
  added = entry_of seat.number stamp call ∷ [];
  made = called_made seat after stamp call called;
  allowed = sym (ap (λ b. cond b (entry_of seat.number stamp call ∷ []) []) (eq-eqb seat.number seat.number refl));
}
call_makes (Err _) seat after stamp call called none = record {
  added = [];
  made = record { later = none.later; same = none.same ∙ ap (λ mine. record seat { seen = after.seen; mine = mine }) (sym (append-nil seat.mine)) };
  allowed = refl;
}

answer_makes : (result : Result (List Letter) AllocError) (names : List (List ℕ)) (client : ℕ) (seat after : SeatState) (stamp : ℕ) (call : Call) → seat.number ≡ client → IfOk result (IsAnswered names seat after stamp call) → OnErr result (IsUncalled seat after)
    → Makes (IsJust (added_by result (entry_of client stamp call))) seat after
answer_makes result names client seat after stamp call is answered none =
    subst (λ n. Makes (IsJust (added_by result (entry_of n stamp call))) seat after) is (call_makes result seat after stamp call (called result answered) none)
  where
    called : (r : Result (List Letter) AllocError) → IfOk r (IsAnswered names seat after stamp call) → OnOk r (IsCalled seat after stamp call)
    called (Ok mail) answered = answered.called
    called (Err _) answered = tt

-- the client's seat is the first
pub call_first : (lock : CommunityLock) (client stamp : ℕ) (call : Call) (answer result : Result (List Letter) AllocError) (before joined after : SeatState) → answer ≡ result → joined ≡ after → IsGathered lock before → client ≡ 0
    → IfOk result (IsAnswered lock.base before after stamp call) → OnErr result (IsUncalled before after) → IsLed lock (IsJust (added_by answer (entry_of client stamp call))) before joined
call_first lock client stamp call answer result before joined after answer_is joined_is gathered is answered none =
    subst (λ answer. IsLed lock (IsJust (added_by answer (entry_of client stamp call))) before joined) (sym answer_is)
    (subst (IsLed lock (IsJust (added_by result (entry_of client stamp call))) before) (sym joined_is)
    (led_first lock (IsJust (added_by result (entry_of client stamp call))) client before after gathered is (just_idle result (entry_of client stamp call))
    (answer_makes result lock.base client before after stamp call (gathered.number ∙ sym is) answered none)))

-- it is parted from the first
pub call_other : (lock : CommunityLock) (client stamp : ℕ) (call : Call) (answer result : Result (List Letter) AllocError) (before joined parted seat made after : SeatState) → answer ≡ result → joined ≡ after → IsGathered lock before → 0 < client → client < length lock.base
    → parted ≡ record before { met = without_number client before.met } → seat ≡ beside before client (events_in before.met client) → IfOk result (IsAnswered lock.base seat made stamp call) → OnErr result (IsUncalled seat made) → after ≡ met_with parted made → Begins after.seen parted.seen
    → IsLed lock (IsJust (added_by answer (entry_of client stamp call))) before joined
call_other lock client stamp call answer result before joined parted seat made after answer_is joined_is gathered above below parted_is seat_is answered none after_is later =
    subst (λ answer. IsLed lock (IsJust (added_by answer (entry_of client stamp call))) before joined) (sym answer_is)
    (subst (IsLed lock (IsJust (added_by result (entry_of client stamp call))) before) (sym joined_is)
    (led_other lock (IsJust (added_by result (entry_of client stamp call))) client before parted seat made after gathered above below parted_is seat_is (just_idle result (entry_of client stamp call))
    (answer_makes result lock.base client seat made stamp call (ap (λ s. s.number) seat_is) answered none) after_is later))

-- a history with just the entries of a call is those entries
just_added : {A : Type 0} (result : Result A AllocError) (entry : Entry) (new : History) → ((n : ℕ) → IsJust (added_by result entry) n (entries_of n new)) → new ≡ added_by result entry
just_added (Ok _) entry new just =
    only_own entry.client new (λ n other. just n ∙ ap (λ b. cond b (entry ∷ []) []) (ne_eqb entry.client n (λ e. other (sym e))))
    ∙ just entry.client ∙ ap (λ b. cond b (entry ∷ []) []) (eq-eqb entry.client entry.client refl)
just_added (Err _) entry new just = none_left new just

-- so the history goes on with them
pub goes_on_just : {A : Type 0} (result : Result A AllocError) (entry : Entry) (before after : SeatState) → IsWhole before → GoesOn (IsJust (added_by result entry)) before after → after.seen ≡ before.seen ++ added_by result entry
goes_on_just result entry before after whole on =
    on.later.1 ∙ ap (λ new. before.seen ++ new) (just_added result entry on.later.0 (λ n. grown (IsJust (added_by result entry)) before after whole on n))

-- the mail of a fetch
pub fetch_answered : (result : Result (List Letter) AllocError) (names : List (List ℕ)) (seat after : SeatState) (stamp : ℕ) (call : Call) → call ≡ Fetch → IfOk result (IsFetched seat after names stamp) → IfOk result (IsAnswered names seat after stamp call)
fetch_answered (Ok mail) names seat after stamp call is fetched = subst (λ call. IsAnswered names seat after stamp call mail) (sym is) (record {
  called = record { before = fetched.before; later = fetched.later; own = fetched.own; after = fetched.after };
  mail = letters_are (posts_of fetched.before) (mail_after names seat.number fetched.before) mail fetched.given;
})
fetch_answered (Err _) names seat after stamp call is fetched = tt

-- nothing stood between what was there and the only entry that was added
none_between : (old between later : History) (entry : Entry) → old ++ entry ∷ [] ≡ ((old ++ between) ++ entry ∷ []) ++ later → between ≡ []
none_between old [] later entry same = refl
none_between old (one ∷ between) later entry same =
    absurd (omega (arith, ap length same, length-append old (entry ∷ []), length-append ((old ++ one ∷ between) ++ entry ∷ []) later, length-append (old ++ one ∷ between) (entry ∷ []), length-append old (one ∷ between)))

-- the mail is that behind the history before
answer_mail : (result : Result (List Letter) AllocError) (names : List (List ℕ)) (client : ℕ) (before after : History) (seat made : SeatState) (stamp : ℕ) (call : Call) → seat.number ≡ client → seat.seen ≡ before → IfOk result (IsAnswered names seat made stamp call)
    → Begins after made.seen → after ≡ before ++ added_by result (entry_of client stamp call) → IfOk result (λ mail. mail ≡ mail_of_call names before client call)
answer_mail (Err _) names client before after seat made stamp call number seen answered later is = tt
answer_mail (Ok mail) names client before after seat made stamp call number seen answered later is =
    answered.mail ∙ ap (λ n. mail_of_call names answered.called.before n call) number ∙ ap (λ history. mail_of_call names history client call) same
  where
    entry : Entry
    entry = entry_of client stamp call

    stood : answered.called.before ≡ before ++ answered.called.later.0
    stood = answered.called.later.1 ∙ ap (λ front. front ++ answered.called.later.0) seen

    ended : made.seen ≡ (before ++ answered.called.later.0) ++ entry ∷ []
    ended = ap (λ s. s.seen) answered.called.after ∙ ap (λ n. answered.called.before ++ entry_of n stamp call ∷ []) number ∙ ap (λ front. front ++ entry ∷ []) stood

    same : answered.called.before ≡ before
    same = stood ∙ ap (λ between. before ++ between) (none_between before answered.called.later.0 later.0 entry (sym is ∙ later.1 ∙ ap (λ front. front ++ later.0) ended)) ∙ append-nil before

pub branch_mail : (answer result : Result (List Letter) AllocError) (names : List (List ℕ)) (client : ℕ) (before after : History) (seat made : SeatState) (stamp : ℕ) (call : Call) → answer ≡ result → seat.number ≡ client → seat.seen ≡ before
    → IfOk result (IsAnswered names seat made stamp call) → Begins after made.seen → after ≡ before ++ added_by answer (entry_of client stamp call) → IfOk answer (λ mail. mail ≡ mail_of_call names before client call)
branch_mail answer result names client before after seat made stamp call answer_is number seen answered later =
    subst (λ answer. after ≡ before ++ added_by answer (entry_of client stamp call) → IfOk answer (λ mail. mail ≡ mail_of_call names before client call)) (sym answer_is)
    (answer_mail result names client before after seat made stamp call number seen answered later)
