use Rattle.memchr.specs.Find.{is_byte2}
use Rattle.moos_text.proofs.Finding.{none_found, plain_part}
use Rattle.moos_text.proofs.part.part_len.Goals as goal

pub returns-in-None-clause-last : goal.returns-in-None-clause-last
returns-in-None-clause-last c _ = let text = c.args.text.now in plain_part text (none_found (is_byte2 34 35) text c.in-None.ensures)
