use Rattle.std.proofs.Common.{◌∙◌, refl, sym}
use Rattle.moos_bridged.proofs.RacedAlone.{second_raced}
use Rattle.moos_bridged.proofs.race.race.Goals as goal

pub returns-then-bridge-eq0 : goal.returns-then-bridge-eq0
returns-then-bridge-eq0 g c =
    let played = c.in_ok-play_all.ensures in
    record {
      raced = second_raced c.args.bridge.now c.args.one.now c.args.two.now c.play_all.new.self c.requires.ready (sym c.bridge.ensures ∙ c.if-bridge-eq0.true) played.resting played.played played.all;
      rules = refl;
      first = refl;
      second = played.played.on.script;
    }
