use Rattle.std.proofs.Common.{◌+◌, ◌∷◌, ap, sym, ◌∙◌, arith}
use Rattle.std.proofs.Math.ListN.{drop_of_length-le}
use Rattle.moos_text.specs.Lines.{raw_lines, first_line}
use Rattle.moos_text.proofs.LineSteps.{lines_behind}
use Rattle.moos_text.proofs.Numerals.{from_place}
use Rattle.moos_text.proofs.line.behind_first.Goals as goal

pub returns-then-len-text-clause-lines : goal.returns-then-len-text-clause-lines
returns-then-len-text-clause-lines c =
    let text = c.args.text.now in
    lines_behind text c.args.len c.requires.some c.requires.len
    ∙ ap (λ rest. first_line text ∷ raw_lines rest) (from_place (c.args.len + 1) text)

pub returns-else-len-text-clause-lines : goal.returns-else-len-text-clause-lines
returns-else-len-text-clause-lines c =
    let text = c.args.text.now in
    lines_behind text c.args.len c.requires.some c.requires.len
    ∙ ap (λ rest. first_line text ∷ raw_lines rest)
    (drop_of_length-le text {i = c.args.len + 1} (omega arith) ∙ sym (drop_of_length-le text {i = c.args.len} (omega arith)) ∙ from_place c.args.len text)
