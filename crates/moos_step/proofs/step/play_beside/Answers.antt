use Rattle.std.proofs.Common.{◌≡◌, subst, sym, rules}
use Rattle.moos_client.specs.Calls.{entries_of}
use Rattle.moos_step.proofs.Lines.{played_none}
use Rattle.moos_step.proofs.Steps.{none_among}
use Rattle.moos_step.proofs.step.play_beside.Goals as goal

pub returns-then-not-has_lines-clause-first : goal.returns-then-not-has_lines-clause-first
returns-then-not-has_lines-clause-first g c = played_none c.args.lines.now c.args.first.now.ended c.args.first.now.seat (subst (λ n. entries_of n c.args.lines.now ≡ _) (sym c.requires.first.1) (none_among 0 c.args.lines.now (search rules)))
