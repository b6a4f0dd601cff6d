-- Calls of a client worked by hand.
use Rattle.std.proofs.Common.{◌≡◌, List, [], ◌∷◌, ◌++◌, length, length-append, Some, None, true, false, ap, refl, sym, subst, arith}
use Rattle.std.specs.Prelude.{codes, pos, ℕ}
use Rattle.std.proofs.lemmas.List.{append_cancel_right}
use Rattle.moos_db.specs.Database.{AreLetters}
use Rattle.moos_db.specs.declared.mail.Letter.{Letter}
use Rattle.moos_post.specs.declared.entry.Call.TheVariants.{Fetch, Post as Posts, Register}
use Rattle.moos_post.specs.declared.entry.Entry.{Entry}
use Rattle.moos_post.specs.declared.value.Value.TheVariants.{Num}
use Rattle.moos_post.specs.Delivery.{mail_after}
use Rattle.moos_post.specs.History.{History, posts_of}
use Rattle.moos_client.specs.Calls.{entries_of, entry_of, IsCalled, IsFetched, IsUncalled, MayCall, SeatState, seat_after}
use Rattle.turn_lock.specs.Passes.{first_pass, LockState}

abbrev names : List (List ℕ)
names = codes "a" ∷ codes "b" ∷ []

-- the stamp of the first entry
abbrev stamp_of : History → ℕ
stamp_of [] = 9
stamp_of (entry ∷ later) = entry.stamp

module _ (lock : LockState (List (List ℕ))) (is : lock.base ≡ names) where
  -- the seat of client 0, and the same after the other client has fetched and then it has
  abbrev seat : SeatState
  seat = first_pass lock 2

  abbrev after : SeatState
  after = seat_after seat (entry_of 1 0 Fetch ∷ []) (entry_of 0 500 Fetch)

  may_call : MayCall lock seat
  may_call = record { of_lock = record { same = refl; live = refl; base = refl }; free = refl; client = omega (arith, ap length is) }

  -- no third client may call, nor one when the lock is closed, or in its turn
  third_client : MayCall lock (record seat { number = 2 }) → ⊥
  third_client may = omega (arith, may.client, ap length is)

  closed : MayCall lock (record seat { live = false }) → ⊥
  closed may = let live : false ≡ true = may.of_lock.live in cc

  in_turn : MayCall lock (record seat { turn = Some [] }) → ⊥
  in_turn may = let free : Some [] ≡ None = may.free in cc

  seen_both : (after.seen ≡ entry_of 1 0 Fetch ∷ entry_of 0 500 Fetch ∷ []) × (after.mine ≡ entry_of 0 500 Fetch ∷ [])
  seen_both = (refl, refl)

  called : IsCalled seat after 500 Fetch
  called = record { before = entry_of 1 0 Fetch ∷ []; later = (entry_of 1 0 Fetch ∷ [], refl); own = refl; after = refl }

  -- its call is its next entry: not twice, with its stamp, and the last that it has seen
  called_twice : IsCalled seat (record after { mine = entry_of 0 500 Fetch ∷ entry_of 0 500 Fetch ∷ [] }) 500 Fetch → ⊥
  called_twice call = omega (arith, ap (λ (one : SeatState). length one.mine) call.after)

  other_stamp : IsCalled seat after 501 Fetch → ⊥
  other_stamp call = omega (arith, ap (λ (one : SeatState). stamp_of one.mine) call.after)

  unseen : IsCalled seat (record after { seen = entry_of 1 0 Fetch ∷ [] }) 500 Fetch → ⊥
  unseen call = seen_last call.before (ap (λ (one : SeatState). one.seen) call.after)
    where
      seen_last : (before : History) → entry_of 1 0 Fetch ∷ [] ≡ before ++ entry_of 0 500 Fetch ∷ [] → ⊥
      seen_last [] same = omega (arith, ap stamp_of same)
      seen_last (one ∷ before) same = omega (arith, ap length same, length-append before (entry_of 0 500 Fetch ∷ []))

  -- nothing was posted, so the mail is empty
  fetched : IsFetched seat after names 500 []
  fetched = record { before = entry_of 1 0 Fetch ∷ []; later = (entry_of 1 0 Fetch ∷ [], refl); own = refl; after = refl; given = refl }

  -- no entry under its number stands before the call that it didn't make
  not_its_own : IsCalled seat (seat_after seat (entry_of 0 0 Fetch ∷ []) (entry_of 0 500 Fetch)) 500 Fetch → ⊥
  not_its_own call =
      let same : entry_of 0 0 Fetch ∷ [] ≡ call.before = append_cancel_right (entry_of 0 0 Fetch ∷ []) call.before (entry_of 0 500 Fetch ∷ []) (ap (λ (one : SeatState). one.seen) call.after) in
      omega (arith, ap length (subst (λ before. entries_of 0 before ≡ []) (sym same) call.own))

  -- without an entry of its own it may still have seen the other's
  uncalled : IsUncalled seat (record seat { seen = entry_of 1 0 Fetch ∷ [] })
  uncalled = record { later = (entry_of 1 0 Fetch ∷ [], refl); same = refl }

  -- what it had seen it sees still, and it makes no entry
  forgotten : IsUncalled after (record after { seen = entry_of 1 0 Fetch ∷ [] }) → ⊥
  forgotten call = let (rest, same) = call.later in omega (arith, ap length same)

  entry_made : IsUncalled seat after → ⊥
  entry_made call = omega (arith, ap (λ (one : SeatState). length one.mine) call.same)

  -- client 0 has registered for X, which client 1 has posted: the fetch gives just that
  abbrev registered : Entry
  registered = entry_of 0 0 (Register (record { var = codes "X"; source = codes "*"; interval = 0 } ∷ []))

  abbrev listener : SeatState
  listener = record seat { mine = registered ∷ [] }

  abbrev posted : History
  posted = registered ∷ entry_of 1 100 (Posts (record { var = codes "X"; value = Num (pos 7) } ∷ [])) ∷ []

  abbrev letter : Letter
  letter = record { number = 0; post = record { stamp = 100; source = 1; var = codes "X"; value = Num (pos 7) } }

  mailed : IsFetched listener (seat_after listener posted (entry_of 0 500 Fetch)) names 500 (letter ∷ [])
  mailed = record { before = posted; later = (posted, refl); own = refl; after = refl; given = refl }

  not_mailed : IsFetched listener (seat_after listener posted (entry_of 0 500 Fetch)) names 500 [] → ⊥
  not_mailed fetch =
      let same : posted ≡ fetch.before = append_cancel_right posted fetch.before (entry_of 0 500 Fetch ∷ []) (ap (λ (one : SeatState). one.seen) fetch.after) in
      omega (arith, ap length (subst (λ before. AreLetters (posts_of before) (mail_after names 0 before) []) (sym same) fetch.given))
