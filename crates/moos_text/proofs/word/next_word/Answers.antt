use Rattle.std.proofs.Common.{arith}
use Rattle.std.proofs.lemmas.Bool.Decides.{nat_tests}
use Rattle.moos_text.proofs.WordLemmas.{position_or_len-le-length, no_word, begins_word, no_word_split}
use Rattle.moos_text.proofs.word.next_word.Goals as goal

pub split_at-requires : goal.split_at-requires
split_at-requires c = rw c.bytes_before_blank.ensures (position_or_len-le-length _ _)

pub returns-then-is_empty-clause-words : goal.returns-then-is_empty-clause-words
returns-then-is_empty-clause-words c =
    no_word c.args.text.now c.without_front_blanks-found.result.now c.without_front_blanks-found.ensures (grind (arith, nat_tests))

pub returns-then-is_empty-clause-none : goal.returns-then-is_empty-clause-none
returns-then-is_empty-clause-none c =
    no_word_split c.args.text.now c.without_front_blanks-found.result.now c.without_front_blanks-found.ensures (grind (arith, nat_tests))

pub returns-clause-words : goal.returns-clause-words
returns-clause-words c =
    rw (c.split_at.ensures.front, c.split_at.ensures.back, c.bytes_before_blank.ensures)
    (begins_word c.args.text.now c.without_front_blanks-found.result.now c.without_front_blanks-found.ensures (grind (arith, nat_tests)))
