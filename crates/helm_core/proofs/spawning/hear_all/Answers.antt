use Rattle.std.proofs.Common.{fold, subst, sym, arith}
use Rattle.std.proofs.lemmas.List.{take_all}
use Rattle.helm_core.specs.Standings.{IsSpawning}
use Rattle.helm_core.specs.Templates.{heard_to}
use Rattle.helm_core.specs.Ticks.{pairs_mailed}
use Rattle.helm_core.proofs.Spawns.{letter_more, spawned_on, spawned_same}
use Rattle.helm_core.proofs.spawning.hear_all.Goals as goal

pub hear-requires : goal.hear-requires
hear-requires c = record { at = c.requires.at; may = c.loop-letter.invariant.more.may }

pub loop-letter-init : goal.loop-letter-init
loop-letter-init c = record { heard = λ clock at before is. is; more = spawned_same c.args.domain.now c.args.blocks.now c.args.kept.now.items c.requires.may }

pub loop-letter-preserved : goal.loop-letter-preserved
loop-letter-preserved c =
    let blocks = c.args.blocks.now in
    record {
      heard = λ clock at before is.
          subst (λ spawning. IsSpawning blocks clock spawning c.hear.new.kept.items c.hear.new.answers)
          (sym (letter_more c.args.domain.now blocks at c.args.template.now before c.args.letters.now c.loop-letter.letter-index c.letter-item.result c.loop-letter-test.true c.letter-item.is))
          (c.in_ok-hear.ensures.heard clock at _ (c.loop-letter.invariant.heard clock at before is));
      more = spawned_on c.args.domain.now blocks c.args.kept.now.items c.loop-letter.kept.items c.hear.new.kept.items c.loop-letter.invariant.more c.in_ok-hear.ensures.more;
    }

pub returns : goal.returns
returns c = record {
  heard = λ clock at before is.
      subst (λ letters. IsSpawning c.args.blocks.now clock (fold (heard_to c.args.domain.now c.args.blocks.now at c.args.template.now) before (pairs_mailed letters)) c.loop-letter.kept.items c.loop-letter.answers)
      (take_all c.loop-letter.letter-index c.args.letters.now (omega (arith, c.loop-letter-test.false))) (c.loop-letter.invariant.heard clock at before is);
  more = c.loop-letter.invariant.more;
}
