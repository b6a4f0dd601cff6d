-- The helm as one more player beside the clients.
use Rattle.std.proofs.Common.{◌≡◌, ℕ, ◌<◌, List, map, sym, ◌∙◌, arith}
use Rattle.moos_client.specs.Calls.{SeatState}
use Rattle.moos_post.specs.declared.entry.Entry.{Entry}
use Rattle.moos_play.proofs.Leading.{seat_steers}
use Rattle.moos_play.specs.Steered.{MayLead, MaySteer}
use Rattle.moos_play.specs.declared.helm_client.HelmClient.{HelmClient}
use Rattle.moos_step.specs.declared.player.Player.{Player}
use Rattle.moos_step.specs.Steps.{AreBusy, AreParted, CommunityLock, met_of}
use Rattle.moos_step.proofs.Beside.{client_with}
use Rattle.turn_lock.proofs.Mets.{events_front}
use Rattle.turn_lock.specs.Passes.{beside, events_in}

-- the helm may steer at its seat beside the clients with lines
pub race_steers : (lock : CommunityLock) (lines : List Entry) (s : HelmClient) (ticks workers : ℕ) (before parted seat : SeatState) (players : List Player) → MayLead lock before s ticks workers → AreParted lock before parted players → AreBusy lines s.number players → 0 < s.number
    → seat ≡ beside parted s.number (events_in parted.met s.number) → MaySteer lock seat s ticks workers
race_steers lock lines s ticks workers before parted seat players may are busy above seat_is =
    seat_steers lock s ticks workers before parted seat may above are.same
    (sym (are.known s.number) ∙ events_front parted.met (map met_of players) s.number (omega (arith, client_with lock lines s.number before parted players may.gathered are busy above may.client))) seat_is
