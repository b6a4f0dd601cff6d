use Rattle.std.proofs.Common.{◌≡◌, flat_map, take}
use Rattle.moos_report.specs.Report.{escaped}
use Rattle.moos_report.proofs.lines.plain_run.Given as goal

-- none of the bytes so far gets a `\`
abbrev pub invariant-loop-run : goal.invariant-loop-run
invariant-loop-run l = flat_map escaped (take l.run l.text) ≡ take l.run l.text
