use Rattle.std.proofs.Common.{◌∷◌, ap, ◌∙◌, arith}
use Rattle.moos_text.specs.Lines.{first_line, raw_lines}
use Rattle.moos_text.proofs.Numerals.{from_place}
use Rattle.moos_text.proofs.line.next_said.Goals as goal

pub returns-clause-lines : goal.returns-clause-lines
returns-clause-lines c =
    let text = c.args.text.now in
    c.next_line-line.ensures.lines (omega (arith, c.if-text-eq0.false)) ∙ ap (λ rest. first_line text ∷ raw_lines rest) (from_place c.next_line-line.result.next text)
