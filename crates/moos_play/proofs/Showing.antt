-- What a run shows: what its database is lent for, and what the steps of a run keep.
use Rattle.std.proofs.Common.{◌≡◌, ℕ, Bool, true, Option, Some, sym, ap, ◌∙◌, subst}
use Rattle.moos_client.specs.Calls.{SeatState}
use Rattle.moos_post.specs.History.{History}
use Rattle.moos_play.specs.declared.stage.Stage.{Stage}
use Rattle.moos_play.specs.Plays.{GoesOnWith, IsBetween, IsLentAs, IsSeated, Playing, returned, StaysSeated}
use Rattle.moos_play.specs.Runs.{given_back, HasAllSeats, IsPaused, IsCoherent, KeepsSeats, playing_of, shown_by}
use Rattle.moos_step.proofs.Growing.{closed_same}
use Rattle.turn_lock.specs.Passes.{Begins, HasAll, IsFree, IsOf, KnowsAll, WasLent}

-- the run with another seat
abbrev pub seated_at : Stage → SeatState → Stage
seated_at run seat = record run { first = record run.first { seat = seat } }

-- a run whose database isn't lent is as it is once that is put back
pub given_same : (run : Stage) → IsFree run.first.seat → given_back run ≡ run
given_same run free = ap (λ turn. seated_at run (record run.first.seat { turn = turn })) (sym free)

-- a run is sound where the first seat has all others, and stands between two rounds if it says so
pub sound_of : (run : Stage) (whole : Bool) → HasAllSeats run → (whole ≡ true → IsPaused run) → IsCoherent run whole
sound_of run whole seats ready =
    let same = sym (given_same run seats.gathered.may.free) in
    record { seats = subst HasAllSeats same seats; ready = λ is. subst IsPaused same (ready is) }

pub sound_ready : (run : Stage) (whole : Bool) → IsPaused run → IsCoherent run whole
sound_ready run whole ready = sound_of run whole (record { gathered = ready.at_play.under.gathered; whole = ready.at_play.under.whole }) (λ is. ready)

-- so it is while the database is lent
pub sound_lent : (run : Stage) (whole : Bool) (seat : SeatState) (turn : Option History) → seat ≡ record run.first.seat { turn = turn } → IsCoherent run whole → IsCoherent (seated_at run seat) whole
sound_lent run whole seat turn is sound =
    let same : given_back run ≡ given_back (seated_at run seat) = sym (ap (λ seat. given_back (seated_at run seat)) is) in
    record { seats = subst HasAllSeats same sound.seats; ready = λ whole. subst IsPaused same (sound.ready whole) }

-- what is known of a sound run by what it shows
pub is_free : (run : Stage) (whole : Bool) (play : Playing) → playing_of run whole ≡ play → IsSeated play → IsFree run.first.seat
is_free run whole play is seated = ap (λ (play : Playing). play.lent) is ∙ seated

pub has_seats : (run : Stage) (whole : Bool) (play : Playing) → playing_of run whole ≡ play → IsCoherent run whole → IsSeated play → HasAllSeats run
has_seats run whole play is sound seated = subst HasAllSeats (given_same run (is_free run whole play is seated)) sound.seats

pub is_ready : (run : Stage) (whole : Bool) (play : Playing) → playing_of run whole ≡ play → IsCoherent run whole → IsBetween play → IsPaused run
is_ready run whole play is sound between = subst IsPaused (given_same run (is_free run whole play is between.seated)) (sound.ready (ap (λ (play : Playing). play.whole) is ∙ between.whole))

-- what is lent has the history that the first seat has seen
pub lent_history : (run : Stage) (history : History) → HasAllSeats run → Begins history run.first.seat.seen → (HasAll run.first.seat → KnowsAll (λ entry. entry.client) run.first.seat history) → history ≡ run.first.seat.seen
lent_history run history seats begins knows = closed_same run.first.seat history begins (knows (record { first = seats.gathered.number; all = seats.gathered.all })) seats.whole

pub lent_as : (run : Stage) (whole : Bool) (seat : SeatState) (number : ℕ) (history lent : History) → HasAllSeats run → seat ≡ record run.first.seat { turn = Some history } → number ≡ run.first.seat.number → history ≡ run.first.seat.seen → lent ≡ history
    → IsLentAs (playing_of (seated_at run seat) whole) number lent
lent_as run whole seat number history lent seats is number_is same lent_is = record {
  first = number_is ∙ seats.gathered.number;
  lent = ap (λ (seat : SeatState). seat.turn) is ∙ ap Some (sym lent_is);
  same = lent_is ∙ same ∙ sym (ap (λ (seat : SeatState). seat.seen) is);
}

-- a run that lent the database shows what it showed once that is put back
pub returned_is : (run : Stage) (whole : Bool) (seat : SeatState) (turn : Option History) → IsFree run.first.seat → seat ≡ record run.first.seat { turn = turn } → returned (playing_of (seated_at run seat) whole) ≡ playing_of run whole
returned_is run whole seat turn free is =
    ap (λ (seat : SeatState). returned (playing_of (seated_at run seat) whole)) is ∙ ap (λ turn. playing_of (seated_at run (record run.first.seat { turn = turn })) whole) (sym free)

-- a seat that holds a turn is still one at the lock
pub lent_of : (run : Stage) (whole : Bool) → IsCoherent run whole → IsOf run.lock run.first.seat
lent_of run whole sound = let of_lock = sound.seats.gathered.may.of_lock in record { same = of_lock.same; live = of_lock.live; base = of_lock.base }

-- and what is lent was lent to it
pub was_lent : (run : Stage) (whole : Bool) (number : ℕ) (history : History) → IsCoherent run whole → IsLentAs (playing_of run whole) number history → WasLent run.first.seat number history
was_lent run whole number history sound lent = record { number_is = lent.first ∙ sym sound.seats.gathered.number; turn_is = lent.lent }

-- what stays as it is in a run stays so in what that shows
pub stays_shown : (before after : Stage) (w v : Bool) → KeepsSeats before after → StaysSeated (playing_of before w) (playing_of after v)
stays_shown before after w v stays = record { seated = stays.seated.gathered.may.free; names = ap (λ lock. lock.base) stays.lock; later = stays.later }

pub goes_shown : (before after : Stage) (w v : Bool) → GoesOnWith (shown_by before) (shown_by after) → GoesOnWith (playing_of before w) (playing_of after v)
goes_shown before after w v on = record { script = on.script; order = on.order; names = on.names; helm = on.helm }

-- a run that is as it was between two rounds shows what it showed
pub shown_same : (run last : Stage) (whole : Bool) (play : Playing) → playing_of run whole ≡ play → play.whole ≡ true → last ≡ run → playing_of last true ≡ play
shown_same run last whole play is all same =
    ap (λ run. playing_of run true) same ∙ ap (playing_of run) (sym (ap (λ (play : Playing). play.whole) is ∙ all)) ∙ is
