use Rattle.std.proofs.Common.{◌∙◌, ◌+◌, ◌∷◌, drop, ap, sym}
use Rattle.std.proofs.lemmas.List.{drop_more}
use Rattle.moos_db.specs.Database.{pair_posted}
use Rattle.helm_cond.specs.Infos.{knowledge_of}
use Rattle.helm_core.specs.Kept.{known_after}
use Rattle.helm_core.specs.Ticks.{pairs_mailed}
use Rattle.helm_core.proofs.Learning.{known_on}
use Rattle.helm_core.proofs.helm_view.learn_all.Goals as goal

pub loop-letter-preserved : goal.loop-letter-preserved
loop-letter-preserved c =
    known_on (knowledge_of c.loop-letter.info) (knowledge_of c.learn.new.self) _ (pairs_mailed (drop (c.loop-letter.letter-index + 1) c.args.letters.now)) (pair_posted c.letter-item.result.post)
    c.in_ok-learn.ensures.ok
    (ap (λ left. known_after (knowledge_of c.loop-letter.info) (pairs_mailed left))
    (sym (drop_more c.args.letters.now c.loop-letter.letter-index c.letter-item.result c.loop-letter-test.true
    ∙ ap (λ first. first ∷ drop (c.loop-letter.letter-index + 1) c.args.letters.now) (sym c.letter-item.is)))
    ∙ c.loop-letter.invariant)
