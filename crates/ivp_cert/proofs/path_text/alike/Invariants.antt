use Rattle.std.proofs.Common.{◌≡◌, ◌≤◌, ◌-◌, length, take}
use Rattle.ivp_cert.proofs.path_text.alike.Given as goal

-- so many numbers are the same
abbrev pub invariant-loop-count : goal.invariant-loop-count
invariant-loop-count l = record {
  one : l.count ≤ length l.one;
  other : l.count ≤ length l.other;
  same : take l.count l.one ≡ take l.count l.other;
}

abbrev pub decreases-loop-count : goal.decreases-loop-count
decreases-loop-count l = length l.one - l.count
