use Rattle.std.proofs.Common.{◌++◌, ◌∷◌, [], ◌∙◌, ap, sym, append-nil}
use Rattle.mission_maker.proofs.Drawing.{seconds_none, seconds_on}
use Rattle.mission_maker.proofs.script.add_seconds.Goals as goal

pub loop-second-init : goal.loop-second-init
loop-second-init c = sym (append-nil c.args.lines.now) ∙ ap (λ lines. c.args.lines.now ++ lines) (sym (seconds_none c.args.number))

pub loop-second-preserved : goal.loop-second-preserved
loop-second-preserved c =
    seconds_on c.args.number c.loop-second.second c.args.lines.now c.loop-second.lines c.add_turns.new.lines c.add.new.self c.loop-second.invariant c.in_ok-add_turns.ensures
    (c.in_ok-add.ensures.ok ∙ ap (λ line. c.add_turns.new.lines ++ line ∷ []) c.in_ok-position.ensures)
