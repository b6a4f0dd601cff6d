use Rattle.std.proofs.Common.{◌++◌, ◌∷◌, [], ◌∙◌, ap, sym, append-nil}
use Rattle.mission_maker.proofs.Drawing.{turns_none, turns_on}
use Rattle.mission_maker.proofs.script.add_turns.Goals as goal

pub loop-k-init : goal.loop-k-init
loop-k-init c = sym (append-nil c.args.lines.now) ∙ ap (λ lines. c.args.lines.now ++ lines) (sym (turns_none c.args.number c.args.second))

pub loop-k-preserved : goal.loop-k-preserved
loop-k-preserved c =
    turns_on c.args.number c.args.second c.loop-k.k c.args.lines.now c.loop-k.lines c.add.new.self c.add_fetch.new.lines c.loop-k.invariant
    (c.in_ok-add.ensures.ok ∙ ap (λ line. c.loop-k.lines ++ line ∷ []) c.in_ok-talk.ensures) c.in_ok-add_fetch.ensures
