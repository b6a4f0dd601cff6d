use Rattle.std.proofs.Common.{◌∙◌, ◌++◌, true, false, ap, arith, length, refl, rules, subst, sym}
use Rattle.moos_play.specs.declared.round_made.Round.{Round}
use Rattle.moos_play.specs.Plays.{AddsAt, GoesOnWith, HasTurn, history_in, IsPlayedOut, IsRound, iterations_made, known_clients_in, left_in, next_stamp, order_played, Playing, StaysSeated}
use Rattle.moos_play.specs.Runs.{IsAtPlay, IsPaused, playing_of, shown_by}
use Rattle.moos_play.proofs.Finishing.{completed, over_now}
use Rattle.moos_play.proofs.Handing.{handed_between, last_shown, round_iterations}
use Rattle.moos_play.proofs.Moving.{some_period, turn_here}
use Rattle.moos_play.proofs.Showing.{goes_shown, has_seats, is_ready, shown_same, sound_of, sound_ready, stays_shown}
use Rattle.moos_play.proofs.Stamping.{all_stamped, none_further}
use Rattle.moos_play.proofs.Stepped.{stepped_from}
use Rattle.moos_step.proofs.Lines.{err_any}
use Rattle.script_reader.specs.Validity.{IsValid}
use Rattle.moos_play.proofs.playing.Play.round.Goals as goal

-- ---- the round was played

pub returns-clause-seated : goal.returns-clause-seated
returns-clause-seated g c =
    let run = c.self.inside.run in
    let w = c.self.inside.whole in
    let after = c.play_stamp.new.self in
    let on = stepped_from c.count_entries-from.ensures.same c.in_ok-play_stamp.ensures.stepped in
    subst (λ (old : Playing). StaysSeated old (playing_of c.hand_out-iterations.new.self true)) c.self.view_is
    (subst (StaysSeated (playing_of run w)) (last_shown after c.hand_out-iterations.new.self c.hand_out-iterations.ensures.told) (stays_shown run after w true on.seated))

pub returns-clause-same : goal.returns-clause-same
returns-clause-same g c =
    let run = c.self.inside.run in
    let w = c.self.inside.whole in
    let after = c.play_stamp.new.self in
    let on = stepped_from c.count_entries-from.ensures.same c.in_ok-play_stamp.ensures.stepped in
    subst (λ (old : Playing). GoesOnWith old (playing_of c.hand_out-iterations.new.self true)) c.self.view_is
    (subst (GoesOnWith (playing_of run w)) (last_shown after c.hand_out-iterations.new.self c.hand_out-iterations.ensures.told) (goes_shown run after w true on.same))

pub returns-clause-between : goal.returns-clause-between
returns-clause-between g c = record { whole = refl; seated = ap (λ run. run.first.seat.turn) c.hand_out-iterations.ensures.told ∙ c.in_ok-play_stamp.ensures.stepped.seated.seated.gathered.may.free }

pub returns-clause-round : goal.returns-clause-round
returns-clause-round g c =
    let run = c.self.inside.run in
    let w = c.self.inside.whole in
    let after = c.play_stamp.new.self in
    let stamp = c.next_stamp-stamp.result in
    let ready = is_ready run w c.args.self.now c.self.view_is c.self.invariant.0 c.requires.between in
    let on = stepped_from c.count_entries-from.ensures.same c.in_ok-play_stamp.ensures.stepped in
    let round : Round = record { stamp = stamp; from = c.count_entries-from.result; iterations = c.hand_out-iterations.result } in
    subst (λ (old : Playing). IsRound old (playing_of c.hand_out-iterations.new.self true) round) c.self.view_is
    (subst (λ new. IsRound (playing_of run w) new round) (last_shown after c.hand_out-iterations.new.self c.hand_out-iterations.ensures.told) (record {
      from = c.count_entries-from.ensures.count;
      stamp = c.next_stamp-stamp.ensures;
      stamped = all_stamped run.order stamp (known_clients_in (shown_by run)) c.count_entries-from.result run.first.seat.seen after.first.seat.seen c.count_entries-from.ensures.count on.stamped;
      further = none_further (shown_by run) (shown_by after) stamp on.same on.stamped;
      finished = c.in_ok-play_stamp.ensures.all (search rules);
      iterations = round_iterations run after ready on.at_play on.seated on.same on.told ∙ ap (λ done. iterations_made (shown_by run) ++ done) (sym c.hand_out-iterations.ensures.untold);
    }))

pub returns-clause-turn : goal.returns-clause-turn
returns-clause-turn g c =
    let run = c.self.inside.run in
    let w = c.self.inside.whole in
    let after = c.play_stamp.new.self in
    let ready = is_ready run w c.args.self.now c.self.view_is c.self.invariant.0 c.requires.between in
    let on = stepped_from c.count_entries-from.ensures.same c.in_ok-play_stamp.ensures.stepped in
    let round : Round = record { stamp = c.next_stamp-stamp.result; from = c.count_entries-from.result; iterations = c.hand_out-iterations.result } in
    subst (λ (old : Playing). HasTurn (order_played old) old (playing_of c.hand_out-iterations.new.self true) round) c.self.view_is
    (subst (λ new. HasTurn run.order (playing_of run w) new round) (last_shown after c.hand_out-iterations.new.self c.hand_out-iterations.ensures.told)
    (turn_here run after w true round ready on.same on.moves (c.in_ok-play_stamp.ensures.all (search rules)) c.next_stamp-stamp.ensures
    (omega (arith, on.told, ap length ready.told, ap length c.hand_out-iterations.ensures.untold))))

pub returns-clause-more : goal.returns-clause-more
returns-clause-more g c =
    let less = c.in_ok-play_stamp.ensures.more (search rules) in
    omega (
      arith,
      less,
      ap left_in (last_shown c.play_stamp.new.self c.hand_out-iterations.new.self c.hand_out-iterations.ensures.told),
      ap (λ run. left_in (shown_by run)) c.count_entries-from.ensures.same,
      ap left_in c.self.view_is,
    )

pub invariant_of-self-2 : goal.invariant_of-self-2
invariant_of-self-2 g c = (sound_ready c.hand_out-iterations.new.self true (subst IsPaused (sym c.hand_out-iterations.ensures.told) (handed_between c.play_stamp.new.self c.in_ok-play_stamp.ensures.stepped.at_play)), tt)

-- ---- nothing was left

pub returns-then-not-branch-clause-seated : goal.returns-then-not-branch-clause-seated
returns-then-not-branch-clause-seated g c =
    let on = stepped_from c.count_entries-from.ensures.same c.in_ok-play_stamp.ensures.stepped in
    subst (λ (old : Playing). StaysSeated old (playing_of c.play_stamp.new.self true)) c.self.view_is (stays_shown c.self.inside.run c.play_stamp.new.self c.self.inside.whole true on.seated)

pub returns-then-not-branch-clause-same : goal.returns-then-not-branch-clause-same
returns-then-not-branch-clause-same g c =
    let on = stepped_from c.count_entries-from.ensures.same c.in_ok-play_stamp.ensures.stepped in
    subst (λ (old : Playing). GoesOnWith old (playing_of c.play_stamp.new.self true)) c.self.view_is (goes_shown c.self.inside.run c.play_stamp.new.self c.self.inside.whole true on.same)

pub returns-then-not-branch-clause-between : goal.returns-then-not-branch-clause-between
returns-then-not-branch-clause-between g c = record { whole = refl; seated = c.in_ok-play_stamp.ensures.stepped.seated.seated.gathered.may.free }

pub returns-then-not-branch-clause-none : goal.returns-then-not-branch-clause-none
returns-then-not-branch-clause-none g c =
    let ended = c.in_ok-play_stamp.ensures.over (search rules) in
    let same = c.count_entries-from.ensures.same in (
      ap left_in (sym c.self.view_is) ∙ ap (λ run. left_in (shown_by run)) (sym same) ∙ ended.0,
      shown_same c.self.inside.run c.play_stamp.new.self c.self.inside.whole c.args.self.now c.self.view_is c.requires.between.whole (ended.1 ∙ same),
    )

pub returns-then-not-branch-clause-over : goal.returns-then-not-branch-clause-over
returns-then-not-branch-clause-over g c =
    let run = c.self.inside.run in
    let ended = c.in_ok-play_stamp.ensures.over (search rules) in
    let same = c.count_entries-from.ensures.same in
    let ready = is_ready run c.self.inside.whole c.args.self.now c.self.view_is c.self.invariant.0 c.requires.between in
    subst (λ last. IsPlayedOut (playing_of last true)) (sym (ended.1 ∙ same)) (over_now run true ready.at_play (ap (λ run. left_in (shown_by run)) (sym same) ∙ ended.0))

pub invariant_of-self-then-not-branch : goal.invariant_of-self-then-not-branch
invariant_of-self-then-not-branch g c =
    let ended = c.in_ok-play_stamp.ensures.over (search rules) in
    let ready = is_ready c.self.inside.run c.self.inside.whole c.args.self.now c.self.view_is c.self.invariant.0 c.requires.between in
    (sound_ready c.play_stamp.new.self true (subst IsPaused (sym (ended.1 ∙ c.count_entries-from.ensures.same)) ready), tt)

-- ---- no memory was left

pub returns-in_err-play_stamp-clause-seated : goal.returns-in_err-play_stamp-clause-seated
returns-in_err-play_stamp-clause-seated g c =
    let on = stepped_from c.count_entries-from.ensures.same c.in_err-play_stamp.ensures.stepped in
    subst (λ (old : Playing). StaysSeated old (playing_of c.play_stamp.new.self false)) c.self.view_is (stays_shown c.self.inside.run c.play_stamp.new.self c.self.inside.whole false on.seated)

pub returns-in_err-play_stamp-clause-same : goal.returns-in_err-play_stamp-clause-same
returns-in_err-play_stamp-clause-same g c =
    let on = stepped_from c.count_entries-from.ensures.same c.in_err-play_stamp.ensures.stepped in
    subst (λ (old : Playing). GoesOnWith old (playing_of c.play_stamp.new.self false)) c.self.view_is (goes_shown c.self.inside.run c.play_stamp.new.self c.self.inside.whole false on.same)

pub returns-in_err-play_stamp-clause-front : goal.returns-in_err-play_stamp-clause-front
returns-in_err-play_stamp-clause-front g c =
    let ready = is_ready c.self.inside.run c.self.inside.whole c.args.self.now c.self.view_is c.self.invariant.0 c.requires.between in
    let on = stepped_from c.count_entries-from.ensures.same c.in_err-play_stamp.ensures.stepped in
    err_any _ (completed c.play_stamp.new.self false (subst IsValid (sym on.same.script) ready.at_play.valid).lines on.front)

pub returns-in_err-play_stamp-clause-so_far : goal.returns-in_err-play_stamp-clause-so_far
returns-in_err-play_stamp-clause-so_far g c = err_any _ c.in_err-play_stamp.ensures.stepped.front.so_far

pub returns-in_err-play_stamp-clause-stamped : goal.returns-in_err-play_stamp-clause-stamped
returns-in_err-play_stamp-clause-stamped g c =
    let run = c.self.inside.run in
    let after = c.play_stamp.new.self in
    let on = stepped_from c.count_entries-from.ensures.same c.in_err-play_stamp.ensures.stepped in
    err_any _ (subst (λ (old : Playing). AddsAt (order_played old) (next_stamp old) (known_clients_in old) (history_in old) after.first.seat.seen) c.self.view_is
    (subst (λ stamp. AddsAt run.order stamp (known_clients_in (shown_by run)) run.first.seat.seen after.first.seat.seen) c.next_stamp-stamp.ensures on.stamped))

pub invariant_of-self : goal.invariant_of-self
invariant_of-self g c = (sound_of c.play_stamp.new.self false c.in_err-play_stamp.ensures.stepped.seated.seated (λ e. absurd cc), tt)

-- ---- what is called

pub next_stamp-stamp-requires : goal.next_stamp-stamp-requires
next_stamp-stamp-requires g c =
    let run = c.self.inside.run in
    let ready = is_ready run c.self.inside.whole c.args.self.now c.self.view_is c.self.invariant.0 c.requires.between in
    some_period run.script.now.stop run.helm_client ready.at_play.period

pub count_entries-from-requires-clause-seats : goal.count_entries-from-requires-clause-seats
count_entries-from-requires-clause-seats g c = has_seats c.self.inside.run c.self.inside.whole c.args.self.now c.self.view_is c.self.invariant.0 c.requires.between.seated

pub count_entries-from-requires-clause-known : goal.count_entries-from-requires-clause-known
count_entries-from-requires-clause-known g c = c.self.invariant.1

pub play_stamp-requires-clause-may : goal.play_stamp-requires-clause-may
play_stamp-requires-clause-may g c κs lives =
    let ready = is_ready c.self.inside.run c.self.inside.whole c.args.self.now c.self.view_is c.self.invariant.0 c.requires.between in
    let same = sym c.count_entries-from.ensures.same in
    record { at_play = subst IsAtPlay same ready.at_play; few = c.requires.workers }

pub play_stamp-requires-clause-stamp : goal.play_stamp-requires-clause-stamp
play_stamp-requires-clause-stamp g c κs lives = c.next_stamp-stamp.ensures ∙ ap (λ run. next_stamp (shown_by run)) (sym c.count_entries-from.ensures.same)
