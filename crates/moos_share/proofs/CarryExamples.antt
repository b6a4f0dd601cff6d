-- Calls of `carry` worked by hand.
use Rattle.std.proofs.Common.{◌≡◌, ℕ, List, [], ◌∷◌, length, Option, Some, None, ap, refl, arith, inl, inr}
use Rattle.std.specs.Prelude.{codes, pos}
use Rattle.moos_client.specs.Calls.{entry_of, seat_after, SeatState}
use Rattle.moos_db.specs.declared.mail.Letter.{Letter}
use Rattle.moos_post.specs.declared.entry.Call.TheVariants.{Fetch, Post as Posts, Register}
use Rattle.moos_post.specs.declared.entry.Entry.{Entry}
use Rattle.moos_post.specs.declared.registration.Reg.{Reg}
use Rattle.moos_post.specs.declared.value.Pair.{Pair}
use Rattle.moos_post.specs.declared.value.Value.TheVariants.{Num}
use Rattle.moos_post.specs.History.{History, name_of}
use Rattle.moos_share.specs.declared.fetching.Fetched.{Fetched}
use Rattle.moos_share.specs.declared.rule.Rule.{Rule}
use Rattle.moos_share.specs.Carrying.{BridgeState, CarriesAll, HasCarried, HasInHand, HasNotFetched, HasNotPosted, MayCarry, seated, SeatedBridge}
use Rattle.moos_share.specs.Fetches.{IsAtStart, IsUpToDate, LosesNothing}
use Rattle.turn_lock.specs.Passes.{beside, first_pass, LockState}

abbrev names : List (List ℕ)
names = codes "a" ∷ codes "pShare" ∷ []

abbrev reg : Reg
reg = record { var = codes "X"; source = codes "a"; interval = 0 }

abbrev rules : List Rule
rules = record { reg = reg; prefix = Some (codes "A_"); line = 1 } ∷ []

abbrev pair : List ℕ → Pair
pair var = record { var = var; value = Num (pos 7) }

abbrev letter : Letter
letter = record { number = 0; post = record { stamp = 100; source = 0; var = codes "X"; value = Num (pos 7) } }

abbrev in_hand : Fetched
in_hand = record { names = names; mail = letter ∷ [] }

-- what the bridge did at the start, and what client 0 posts then
abbrev registered : Entry
registered = entry_of 1 0 (Register (reg ∷ []))

abbrev posted : History
posted = registered ∷ entry_of 0 100 (Posts (pair (codes "X") ∷ [])) ∷ []

abbrev bridge : Option Fetched → BridgeState
bridge unposted = record { rules = rules; unposted = unposted }

module _ (first second : LockState (List (List ℕ))) (is : first.base ≡ names) where
  abbrev from : SeatState
  from = record (beside (first_pass first 2) 1 (registered ∷ [])) { seen = registered ∷ [] }

  abbrev to : SeatState
  to = beside (first_pass second 2) 1 []

  -- client 1 is the bridge there, and client 0 isn't
  may_carry : MayCarry first from
  may_carry = record { of_lock = record { same = refl; live = refl; base = refl }; free = refl; named = ap (λ names. name_of names 1) is }

  not_named : MayCarry first (record from { number = 0 }) → ⊥
  not_named may = omega (arith, ap length may.named, ap (λ names. length (name_of names 0)) is)

  abbrev start : SeatedBridge
  start = seated (bridge None) from to

  at_start : IsAtStart start
  at_start = record { own = refl; none = refl; unfetched = refl; idle = refl }

  -- the first seat after a fetch at 0.5 s, and the second after the post of it at a stamp
  abbrev from_after : SeatState
  from_after = seat_after from posted (entry_of 1 500 Fetch)

  abbrev to_after : ℕ → List Pair → SeatState
  to_after stamp batch = seat_after to [] (entry_of 1 stamp (Posts batch))

  abbrev carried_at : ℕ → SeatedBridge
  carried_at stamp = seated (bridge None) from_after (to_after stamp (pair (codes "A_X") ∷ []))

  fetched : HasInHand names 500 None from from_after in_hand
  fetched = (refl, record { before = posted; later = (entry_of 0 100 (Posts (pair (codes "X") ∷ [])) ∷ [], refl); own = refl; after = refl; given = refl })

  carried : HasCarried names 500 start (carried_at 500)
  carried = record { fetched = in_hand; in_hand = fetched; posted = record { before = []; later = ([], refl); own = refl; after = refl }; bridge = refl }

  -- what was posted isn't held any longer
  still_held : HasCarried names 500 start (seated (bridge (Some in_hand)) from_after (to_after 500 (pair (codes "A_X") ∷ []))) → ⊥
  still_held call = let same : Some in_hand ≡ None = ap (λ (bridge : BridgeState). bridge.unposted) call.bridge in cc

  -- without memory for the post the letter is left to the next call, which posts it at its own stamp
  abbrev kept : SeatedBridge
  kept = seated (bridge (Some in_hand)) from_after to

  not_posted : HasNotPosted names 500 start kept
  not_posted = record { fetched = in_hand; in_hand = fetched; uncalled = record { later = ([], refl); same = refl }; bridge = refl }

  then_carried : HasCarried names 600 kept (carried_at 600)
  then_carried = record { fetched = in_hand; in_hand = (refl, refl); posted = record { before = []; later = ([], refl); own = refl; after = refl }; bridge = refl }

  both_calls : CarriesAll names (500 ∷ 600 ∷ []) start (carried_at 600)
  both_calls = (kept, inr (inr not_posted), (carried_at 600, inl then_carried, refl))

  -- without memory for the fetch the seat may have seen more
  not_fetched : HasNotFetched start (seated (bridge None) (record from { seen = posted }) to)
  not_fetched = record { none = refl; uncalled = record { later = (entry_of 0 100 (Posts (pair (codes "X") ∷ [])) ∷ [], refl); same = refl }; own = refl; to = refl; bridge = refl }

  -- a letter is posted or held, and not lost
  kept_none_lost : LosesNothing names kept
  kept_none_lost = record { own = refl; carried = refl }

  lost : LosesNothing names (seated (bridge None) from_after to) → ⊥
  lost so = omega (arith, ap length so.carried)

  posted_twice : LosesNothing names (seated (bridge None) from_after (to_after 500 (pair (codes "A_X") ∷ pair (codes "A_X") ∷ []))) → ⊥
  posted_twice so = omega (arith, ap length so.carried)

  up_to_date : IsUpToDate names (registered ∷ []) (500 ∷ []) (carried_at 500)
  up_to_date = record { own = refl; none = refl; stamps_are = refl; fetched = refl; posted = refl }

  -- one that posted late isn't
  late : IsUpToDate names (registered ∷ []) (500 ∷ []) (carried_at 600) → ⊥
  late so = omega (arith, ap (λ (mine : List Entry). first_stamp mine) so.posted)
    where
      first_stamp : List Entry → ℕ
      first_stamp [] = 0
      first_stamp (entry ∷ later) = entry.stamp
