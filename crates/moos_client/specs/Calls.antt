-- What a client's call of the database through the lock does to the client's seat.
use Rattle.std.specs.Prelude.{◌≡◌, ℕ, ◌<◌, ◌==◌, List, [], ◌∷◌, ◌++◌, filter, length}
use Rattle.moos_post.specs.declared.entry.Call.{Call}
use Rattle.moos_post.specs.declared.entry.Call.TheVariants.{Fetch}
use Rattle.moos_post.specs.declared.entry.Entry.{Entry}
use Rattle.moos_post.specs.Delivery.{mail_after}
use Rattle.moos_post.specs.History.{History, posts_of}
use Rattle.moos_db.specs.declared.mail.Letter.{Letter}
use Rattle.moos_db.specs.Database.{AreLetters}
use Rattle.turn_lock.specs.Passes.{Begins, IsFree, IsOf, LockState, PassState}

-- what a seat shows: a pass at the lock of a database
abbrev pub SeatState : Type 0
SeatState = PassState Entry (List (List ℕ))

-- the seat is one at the lock, holds no turn, and its number is that of a client of the database
pub record MayCall (lock : LockState (List (List ℕ))) (seat : SeatState) : Type 0 where
  pub of_lock : IsOf lock seat
  pub free : IsFree seat
  pub client : seat.number < length lock.base

-- a call of the client with this number
abbrev pub entry_of : ℕ → ℕ → Call → Entry
entry_of client stamp call = record { stamp = stamp; client = client; call = call }

-- the seat after its entry, which follows this history
abbrev pub seat_after : SeatState → History → Entry → SeatState
seat_after seat before entry = record seat { seen = before ++ entry ∷ []; mine = seat.mine ++ entry ∷ [] }

-- a client's own entries, in order
abbrev pub entries_of : ℕ → History → List Entry
entries_of client history = filter (λ entry. entry.client == client) history

-- The call is the client's next entry, and the last that the client has seen. What the client had seen is before it,
-- and of the client's own entries just those that it had made.
pub record IsCalled (old new : SeatState) (stamp : ℕ) (call : Call) : Type 0 where
  pub before : History
  pub later : Begins before old.seen
  pub own : entries_of old.number before ≡ old.mine
  pub after : new ≡ seat_after old before (entry_of old.number stamp call)

-- the seat has made a fetch, whose mail is what was mailed to the client since its fetch before
pub record IsFetched (old new : SeatState) (names : List (List ℕ)) (stamp : ℕ) (mail : List Letter) : Type 0 where
  pub before : History
  pub later : Begins before old.seen
  pub own : entries_of old.number before ≡ old.mine
  pub after : new ≡ seat_after old before (entry_of old.number stamp Fetch)
  pub given : AreLetters (posts_of before) (mail_after names old.number before) mail

-- no entry was made: the client may have seen more
pub record IsUncalled (old new : SeatState) : Type 0 where
  pub later : Begins new.seen old.seen
  pub same : new ≡ record old { seen = new.seen }
