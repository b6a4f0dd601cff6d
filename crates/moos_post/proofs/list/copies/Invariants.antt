use Rattle.std.proofs.Common.{◌≡◌, take}
use Rattle.moos_post.proofs.list.copies.Given as goal

-- What is copied so far equals the items before the index.
abbrev pub invariant-loop-item : goal.invariant-loop-item
invariant-loop-item g l = l.copied.items ≡ take l.item-index l.items
