use Rattle.std.proofs.Common.{take}
use Rattle.moos_post.specs.History.{posts_of}
use Rattle.moos_db.specs.Database.{AreLetters}
use Rattle.moos_db.proofs.calls.letters_of.Given as goal

abbrev pub invariant-loop-number : goal.invariant-loop-number
invariant-loop-number l = AreLetters (posts_of l.log.entries) (take l.number-index l.numbers) l.letters.items
