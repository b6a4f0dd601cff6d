use Rattle.std.proofs.Common.{◌≡◌, take}
use Rattle.ivp_cert.proofs.path_text.PathText.of.Given as goal

-- so many numbers of the path stand there
abbrev pub invariant-loop-place : goal.invariant-loop-place
invariant-loop-place l = l.self ≡ take l.place l.path
