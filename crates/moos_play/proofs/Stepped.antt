-- Steps of a run, one after another.
use Rattle.std.proofs.Common.{◌≡◌, ℕ, Ok, Err, OnOk, Result, arith, refl, subst}
use Rattle.std.specs.declared.alloc.AllocError.{AllocError}
use Rattle.moos_play.specs.declared.stage.Stage.{Stage}
use Rattle.moos_play.specs.Plays.{known_clients_in}
use Rattle.moos_play.specs.Runs.{HasPlayedOn, IsAtPlay, KeepsMoves, shown_by}
use Rattle.moos_play.specs.Steered.{KeepsEach}
use Rattle.moos_play.proofs.Handing.{goes_on_twice, stays_twice}
use Rattle.moos_play.proofs.Moving.{moves_none, moves_twice, some_period}
use Rattle.moos_play.proofs.Stamping.{adds_none, adds_on}
use Rattle.turn_lock.proofs.Fronts.{begins_itself}

-- a step that answers something else
pub stepped_ok : {A B : Type 0} {x : A} {y : B} (stamp : ℕ) (before after : Stage) → HasPlayedOn {E = AllocError} stamp before after (Ok x) → HasPlayedOn {E = AllocError} stamp before after (Ok y)
stepped_ok stamp before after so = record { same = so.same; seated = so.seated; stamped = so.stamped; front = tt; at_play = so.at_play; told = so.told; moves = so.moves }

-- a step that found no memory, whose answer has another name
pub stepped_err : {A B : Type 0} {error : AllocError} (result : Result B AllocError) (stamp : ℕ) (before after : Stage) → OnOk result ⊥ → HasPlayedOn {A = A} stamp before after (Err error) → HasPlayedOn stamp before after result
stepped_err (Ok _) stamp before after none so = absurd none
stepped_err (Err _) stamp before after none so = record { same = so.same; seated = so.seated; stamped = so.stamped; front = so.front; at_play = tt; told = tt; moves = tt }

-- no step
pub stepped_none : {A : Type 0} {x : A} (stamp : ℕ) (play : Stage) → IsAtPlay play → HasPlayedOn {E = AllocError} stamp play play (Ok x)
stepped_none stamp play at = record {
  same = record { script = refl; order = refl; names = refl; helm = refl };
  seated = record { seated = record { gathered = at.under.gathered; whole = at.under.whole }; lock = refl; later = begins_itself play.first.seat.seen };
  stamped = adds_none play.order stamp (known_clients_in (shown_by play)) play.first.seat.seen;
  front = tt;
  at_play = at;
  told = refl;
  moves = moves_none play.order stamp play;
}

-- a step whose stamp has another name
pub stepped_at : {A E : Type 0} {r : Result A E} {stamp other : ℕ} {before after : Stage} → stamp ≡ other → HasPlayedOn stamp before after r → HasPlayedOn other before after r
stepped_at {r = r} {before = before} {after = after} same so = subst (λ stamp. HasPlayedOn stamp before after r) same so

-- steps at one stamp behind others
pub stepped_twice : {A B : Type 0} {x : A} (result : Result B AllocError) (stamp : ℕ) (before middle after : Stage) → IsAtPlay before → HasPlayedOn {E = AllocError} stamp before middle (Ok x) → HasPlayedOn stamp middle after result → HasPlayedOn stamp before after result
stepped_twice {B = B} result stamp before middle after at one other = record {
  same = goes_on_twice (shown_by before) (shown_by middle) (shown_by after) one.same other.same;
  seated = stays_twice before middle after one.seated other.seated;
  stamped = adds_on (shown_by before) (shown_by middle) stamp after.first.seat.seen one.same one.stamped other.stamped;
  front = other.front;
  at_play = other.at_play;
  told = told result other.told;
  moves = moves result other.moves;
}
  where
    told : (r : Result B AllocError) → OnOk r (KeepsEach middle.helm_client after.helm_client) → OnOk r (KeepsEach before.helm_client after.helm_client)
    told (Ok _) so = omega (arith, so, one.told)
    told (Err _) so = tt

    moves : (r : Result B AllocError) → OnOk r (KeepsMoves middle.order stamp middle after) → OnOk r (KeepsMoves before.order stamp before after)
    moves (Ok _) so =
        moves_twice before.order stamp before middle after one.same (some_period before.script.now.stop before.helm_client at.period) one.moves
        (subst (λ order. KeepsMoves order stamp middle after) one.same.order so)
    moves (Err _) so = tt

-- steps from a run that has another name
pub stepped_from : {A E : Type 0} {r : Result A E} {stamp : ℕ} {before after run : Stage} → before ≡ run → HasPlayedOn stamp before after r → HasPlayedOn stamp run after r
stepped_from {r = r} {stamp = stamp} {after = after} same so = subst (λ before. HasPlayedOn stamp before after r) same so
