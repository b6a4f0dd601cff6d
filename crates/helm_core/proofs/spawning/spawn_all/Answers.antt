use Rattle.std.proofs.Common.{fold, subst, arith}
use Rattle.std.proofs.lemmas.List.{take_all}
use Rattle.helm_core.specs.Standings.{IsSpawning}
use Rattle.helm_core.specs.Templates.{heard_by, none_spawned}
use Rattle.helm_core.specs.Ticks.{pairs_mailed}
use Rattle.helm_core.proofs.Spawns.{block_next, spawned_on, spawned_same}
use Rattle.helm_core.proofs.spawning.spawn_all.Goals as goal

pub hear_by-requires : goal.hear_by-requires
hear_by-requires c = record { place = c.loop-place-test.true; may = c.loop-place.invariant.more.may }

pub loop-place-init : goal.loop-place-init
loop-place-init c = record { heard = λ clock at ones is. is; more = spawned_same c.args.domain.now c.args.blocks.now c.args.kept.now.items c.requires.may }

pub loop-place-preserved : goal.loop-place-preserved
loop-place-preserved c =
    let blocks = c.args.blocks.now in
    let letters = pairs_mailed c.args.letters.now in
    record {
      heard = λ clock at ones is.
          block_next c.args.domain.now blocks at letters (none_spawned ones) c.loop-place.place (λ spawning. IsSpawning blocks clock spawning c.hear_by.new.kept.items c.hear_by.new.answers) c.loop-place-test.true
          (λ block there. c.in_ok-hear_by.ensures.heard clock at _ block there (c.loop-place.invariant.heard clock at ones is));
      more = spawned_on c.args.domain.now blocks c.args.kept.now.items c.loop-place.kept.items c.hear_by.new.kept.items c.loop-place.invariant.more c.in_ok-hear_by.ensures.more;
    }

pub returns : goal.returns
returns c = record {
  spawned = λ clock at ones is.
      subst (λ blocks. IsSpawning c.args.blocks.now clock (fold (heard_by c.args.domain.now c.args.blocks.now at (pairs_mailed c.args.letters.now)) (none_spawned ones) blocks) c.loop-place.kept.items c.loop-place.answers)
      (take_all c.loop-place.place c.args.blocks.now (omega (arith, c.loop-place-test.false))) (c.loop-place.invariant.heard clock at ones is);
  more = c.loop-place.invariant.more;
}
