use Rattle.std.proofs.Common.{◌++◌}
use Rattle.moos_step.specs.Steps.{HasEnded, IsApart, IsPlayed}
use Rattle.moos_step.proofs.Few.{all_back, all_front, zip_append}
use Rattle.moos_step.proofs.Played.{step_played}
use Rattle.moos_step.proofs.Taking.{ended_apart, step_gathered, step_grown}
use Rattle.moos_step.proofs.Weights.{both_ended, taken_both}
use Rattle.moos_step.proofs.apart.play_apart.Goals as goal

pub play_players-requires-clause-heavy : goal.play_players-requires-clause-heavy
play_players-requires-clause-heavy g c κs lives = all_front (λ player. IsApart c.args.lock.now player.seat) _ _ c.in_ok-players.ensures.parted.apart

pub play_players-requires-clause-light : goal.play_players-requires-clause-light
play_players-requires-clause-light g c κs lives = all_back (λ player. IsApart c.args.lock.now player.seat) _ _ c.in_ok-players.ensures.parted.apart

pub take_in-heavy-requires-clause-players : goal.take_in-heavy-requires-clause-players
take_in-heavy-requires-clause-players g c =
    ended_apart c.args.lock.now c.args.lines.now _ c.play_players.new.players.heavy.items c.play_players.ensures.heavy (all_front (λ player. IsApart c.args.lock.now player.seat) _ _ c.in_ok-players.ensures.parted.apart)

pub take_in-light-requires-clause-players : goal.take_in-light-requires-clause-players
take_in-light-requires-clause-players g c =
    ended_apart c.args.lock.now c.args.lines.now _ c.play_players.new.players.light.items c.play_players.ensures.light (all_back (λ player. IsApart c.args.lock.now player.seat) _ _ c.in_ok-players.ensures.parted.apart)

pub returns-clause-gathered : goal.returns-clause-gathered
returns-clause-gathered g c =
    let heavy = c.play_players.new.players.heavy.items in
    let light = c.play_players.new.players.light.items in
    step_gathered c.args.lock.now (IsPlayed c.args.lines.now c.both.result) c.args.first.now.seat _ c.play_players.new.first.seat c.take_in-light.new.first _ (heavy ++ light)
    (step_played c.args.lock.now c.args.lines.now _ c.both.result c.play_players.new.first.ended c.both-others.result c.args.first.now.seat _ c.play_players.new.first.seat c.take_in-light.new.first _ (heavy ++ light)
    c.requires.gathered c.in_ok-players.ensures.parted c.in_ok-players.ensures.busy c.requires.lines c.play_players.ensures.first
    (zip_append (HasEnded c.args.lines.now) _ heavy _ light c.play_players.ensures.heavy c.play_players.ensures.light)
    (taken_both c.play_players.new.first.seat c.take_in-heavy.new.first c.take_in-light.new.first heavy light c.take_in-heavy.ensures.taken c.take_in-light.ensures.taken)
    (both_ended c.both-others.result c.take_in-heavy.result c.take_in-light.result heavy light c.both-others.ensures c.take_in-heavy.ensures.ended c.take_in-light.ensures.ended) c.both.ensures)

pub returns-clause-played : goal.returns-clause-played
returns-clause-played g c =
    let heavy = c.play_players.new.players.heavy.items in
    let light = c.play_players.new.players.light.items in
    step_grown c.args.lock.now (IsPlayed c.args.lines.now c.both.result) c.args.first.now.seat _ c.play_players.new.first.seat c.take_in-light.new.first _ (heavy ++ light)
    (step_played c.args.lock.now c.args.lines.now _ c.both.result c.play_players.new.first.ended c.both-others.result c.args.first.now.seat _ c.play_players.new.first.seat c.take_in-light.new.first _ (heavy ++ light)
    c.requires.gathered c.in_ok-players.ensures.parted c.in_ok-players.ensures.busy c.requires.lines c.play_players.ensures.first
    (zip_append (HasEnded c.args.lines.now) _ heavy _ light c.play_players.ensures.heavy c.play_players.ensures.light)
    (taken_both c.play_players.new.first.seat c.take_in-heavy.new.first c.take_in-light.new.first heavy light c.take_in-heavy.ensures.taken c.take_in-light.ensures.taken)
    (both_ended c.both-others.result c.take_in-heavy.result c.take_in-light.result heavy light c.both-others.ensures c.take_in-heavy.ensures.ended c.take_in-light.ensures.ended) c.both.ensures)
