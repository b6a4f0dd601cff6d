use Rattle.std.proofs.Common.{◌≡◌, ◌++◌, Ok, length, map}
use Rattle.std.specs.Vec.Iter.{into_iter_items, into_iter_len}
use Rattle.ivp_cert.proofs.by_workers.all_of.Given as goal

-- what was taken, with what is left, is the whole
abbrev pub invariant-loop-answer : goal.invariant-loop-answer
invariant-loop-answer l = record {
  counted : into_iter_len l.answer-iterator ≡ length (into_iter_items l.answer-iterator);
  taken : map Ok l.shares.items ++ into_iter_items l.answer-iterator ≡ l.fn.answers.items;
}
