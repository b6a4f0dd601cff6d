use Rattle.std.proofs.Common.{◌≡◌, arith, subst, sym}
use Rattle.moos_bridged.proofs.Playing.{plays_none, plays_stamp}
use Rattle.moos_bridged.specs.Communities.{community_script, HasPlayedLines, IsStampEnd, lines_cut}
use Rattle.moos_bridged.proofs.community.Community.play_stamp.Goals as goal

pub returns-in_ok-play_lines-clause-played : goal.returns-in_ok-play_lines-clause-played
returns-in_ok-play_lines-clause-played g c =
    let before = c.args.self.now in
    let after = c.play_lines.new.self in
    let lines = (community_script before).lines in
    plays_stamp c.args.stamp before after c.requires.resting c.requires.late
    (subst (λ n. IsStampEnd c.args.stamp before.from n lines) (sym c.in_ok-play_lines.ensures.to) (subst (IsStampEnd c.args.stamp before.from c.stamp_end-to.result) c.all.ensures c.stamp_end-to.ensures))
    (subst (λ n. HasPlayedLines (lines_cut before.from n lines) before after) (sym c.in_ok-play_lines.ensures.to) c.in_ok-play_lines.ensures.played)

pub returns-else-self-to-clause-played : goal.returns-else-self-to-clause-played
returns-else-self-to-clause-played g c =
    let before = c.args.self.now in
    let lines = (community_script before).lines in
    let same : c.stamp_end-to.result ≡ before.from = omega (arith, c.stamp_end-to.ensures.more, c.if-self-to.false) in
    plays_stamp c.args.stamp before before c.requires.resting c.requires.late
    (subst (λ n. IsStampEnd c.args.stamp before.from n lines) same (subst (IsStampEnd c.args.stamp before.from c.stamp_end-to.result) c.all.ensures c.stamp_end-to.ensures))
    (plays_none before.from before)
