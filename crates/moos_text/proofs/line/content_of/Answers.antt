use Rattle.std.proofs.Common.{◌∙◌, sym, ap, length, arith}
use Rattle.std.proofs.lemmas.List.{take_all}
use Rattle.memchr.specs.Find.{is_byte2}
use Rattle.moos_text.specs.Lines.{is_unclosed}
use Rattle.moos_text.proofs.Finding.{none_found, plain_counts, plain_closed}
use Rattle.moos_text.proofs.line.content_of.Goals as goal

pub returns-in-None-clause-content : goal.returns-in-None-clause-content
returns-in-None-clause-content c =
    let line = c.args.line.now in
    take_all (length line) line (omega arith) ∙ sym (plain_counts line (none_found (is_byte2 34 47) line c.in-None.ensures))

pub returns-in-None-clause-unclosed : goal.returns-in-None-clause-unclosed
returns-in-None-clause-unclosed c =
    let line = c.args.line.now in
    let none = none_found (is_byte2 34 47) line c.in-None.ensures in
    sym (ap is_unclosed (plain_counts line none) ∙ plain_closed line none)
