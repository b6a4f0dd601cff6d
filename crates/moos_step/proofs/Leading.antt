-- The seat of one client alone is parted from the first, makes its calls and is taken in, or is the first itself.
use Rattle.std.proofs.Common.{◌≡◌, ◌≢◌, ℕ, ◌<◌, cond, List, [], ◌∷◌, ◌++◌, length, arith, Ok, refl, sym, ap, ◌∙◌, eq-eqb, ne_eqb}
use Rattle.moos_client.specs.Calls.{SeatState}
use Rattle.moos_step.proofs.Lines.{made_none}
use Rattle.moos_step.proofs.Steps.{parted_more, parted_none, times_here}
use Rattle.moos_step.proofs.Taking.{IsStep, step_gathered, step_goes_on, taken_more, taken_none}
use Rattle.moos_step.specs.Steps.{Anything, CommunityLock, GoesOn, HasSeenAll, IsAlone, IsGathered, Makes, met_of, times_met}
use Rattle.moos_step.specs.declared.player.Player.{Player}
use Rattle.moos_post.specs.declared.entry.Entry.{Entry}
use Rattle.turn_lock.proofs.Mets.{events_back}
use Rattle.turn_lock.specs.Passes.{Begins, beside, events_in, known_of, met_with, without_number}

-- a step in which one client alone may make entries
pub record IsLed (lock : CommunityLock) (may : ℕ → List Entry → Type 0) (before after : SeatState) : Type 0 where
  pub parted : SeatState
  pub played : SeatState
  pub players : List Player
  pub ended : List Player
  pub step : IsStep lock may before parted played after players ended

-- the client may make whatever it makes
pub alone_made : {client : ℕ} {before after : SeatState} → before.number ≡ client → Makes Anything before after → Makes (IsAlone client) before after
alone_made is makes = record { added = makes.added; made = makes.made; allowed = λ other. absurd (other is) }

-- and the others may make nothing
pub alone_idle : (client n : ℕ) → n ≢ client → IsAlone client n []
alone_idle client n other = λ another. refl

-- the client is the first
pub led_first : (lock : CommunityLock) (may : ℕ → List Entry → Type 0) (client : ℕ) (before after : SeatState) → IsGathered lock before → client ≡ 0 → ((n : ℕ) → n ≢ client → may n []) → Makes may before after → IsLed lock may before after
led_first lock may client before after gathered is idle makes = record {
  parted = before;
  played = after;
  players = [];
  ended = [];
  step = record {
    gathered = gathered;
    apart = parted_none lock before;
    first = makes;
    others = tt;
    taken = taken_none after;
    idle = λ n above absent. idle n (λ e. omega (arith, e, is, above));
  };
}

-- a player at a seat
abbrev pub player_of : SeatState → Player
player_of seat = record { seat = seat; calls = 0; ended = Ok tt }

-- the client is another one
pub led_other : (lock : CommunityLock) (may : ℕ → List Entry → Type 0) (client : ℕ) (before parted seat played after : SeatState) → IsGathered lock before → 0 < client → client < length lock.base → parted ≡ record before { met = without_number client before.met }
    → seat ≡ beside before client (events_in before.met client) → ((n : ℕ) → n ≢ client → may n []) → Makes may seat played → after ≡ met_with parted played → Begins after.seen parted.seen → IsLed lock may before after
led_other lock may client before parted seat played after gathered above below parted_is seat_is idle makes after_is later = record {
  parted = parted;
  played = parted;
  players = player_of seat ∷ [];
  ended = player_of played ∷ [];
  step = record {
    gathered = gathered;
    apart = parted_more lock client before before parted seat [] (player_of seat) gathered (parted_none lock before) refl above below parted_is seat_is;
    first = record { added = []; made = made_none parted; allowed = idle parted.number (λ e. omega (arith, e, ap (λ s. s.number) parted_is, gathered.number, above)) };
    others = (makes, tt);
    taken = taken_more parted parted after played [] (player_of played) (taken_none parted) refl (ap (λ s. s.met) makes.made.same ∙ ap (λ s. s.met) seat_is) after_is later;
    idle = λ n above absent. idle n (λ e. omega (arith, absent, times_here [] (met_of (player_of seat)) n (ap (λ s. s.number) seat_is ∙ sym e)));
  };
}

pub led_gathered : (lock : CommunityLock) (may : ℕ → List Entry → Type 0) (before after : SeatState) → IsLed lock may before after → IsGathered lock after
led_gathered lock may before after led = step_gathered lock may before led.parted led.played after led.players led.ended led.step

pub led_on : (lock : CommunityLock) (may : ℕ → List Entry → Type 0) (before after seen : SeatState) → IsLed lock may before after → HasSeenAll after seen → GoesOn may before seen
led_on lock may before after seen led all = step_goes_on lock may before led.parted led.played after seen led.players led.ended led.step all

-- what is known of a client that was just taken in
pub known_met : (first after seat : SeatState) → after ≡ met_with first seat → seat.met ≡ [] → first.number ≢ seat.number → times_met seat.number first.met ≡ 0 → known_of after seat.number ≡ seat.mine
known_met first after seat is alone other none =
    ap (λ s. known_of s seat.number) is ∙ ap (λ b. cond b first.mine (events_in (first.met ++ record { number = seat.number; events = seat.mine } ∷ seat.met) seat.number)) (ne_eqb first.number seat.number other)
    ∙ events_back first.met (record { number = seat.number; events = seat.mine } ∷ seat.met) seat.number none
    ∙ ap (λ b. cond b seat.mine (events_in seat.met seat.number)) (eq-eqb seat.number seat.number refl)

-- what is known of the first client
pub known_first : (first : SeatState) (n : ℕ) → first.number ≡ n → known_of first n ≡ first.mine
known_first first n is = ap (λ b. cond b first.mine (events_in first.met n)) (eq-eqb first.number n is)
