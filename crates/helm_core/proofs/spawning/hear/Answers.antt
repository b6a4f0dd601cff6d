use Rattle.std.proofs.Common.{◌∙◌, refl, sym}
use Rattle.moos_db.specs.Database.{pair_posted}
use Rattle.helm_core.specs.Templates.{heard_said, said_by}
use Rattle.helm_core.proofs.Spawns.{spawned_same, told_more, told_none}
use Rattle.helm_core.proofs.spawning.hear.Goals as goal

pub returns-then-not-is_for-clause-heard : goal.returns-then-not-is_for-clause-heard
returns-then-not-is_for-clause-heard c clock at before is =
    told_none c.args.blocks.now clock _ before _ c.args.kept.now.items c.args.answers.now (sym c.is_for.ensures ∙ c.if-not-is_for.true) is

pub returns-then-not-is_for-clause-more : goal.returns-then-not-is_for-clause-more
returns-then-not-is_for-clause-more c = spawned_same c.args.domain.now c.args.blocks.now c.args.kept.now.items c.requires.may

pub returns-clause-heard : goal.returns-clause-heard
returns-clause-heard c clock at before is =
    told_more c.args.domain.now c.args.blocks.now clock at c.args.template.now before (pair_posted c.args.letter.now.post) (said_by c.args.letter.now.post.value) (heard_said c.args.domain.now c.args.blocks.now at c.args.template.now before (said_by c.args.letter.now.post.value)) c.hear_said.new.kept.items c.args.answers.now c.add.new.self c.in_ok-name.name c.in_ok-how.how
    (sym c.is_for.ensures ∙ c.if-not-is_for.false) refl (c.in_ok-how.ensures.heard clock at before is.ones) is.answers c.in_ok-name.ensures c.in_ok-add.ensures.ok

pub returns-clause-more : goal.returns-clause-more
returns-clause-more c = c.in_ok-how.ensures.more
