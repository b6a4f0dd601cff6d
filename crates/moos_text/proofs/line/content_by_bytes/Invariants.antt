use Rattle.std.proofs.Common.{◌≡◌, ◌++◌, false, take, drop}
use Rattle.std.specs.Prelude.{fold}
use Rattle.moos_text.specs.Lines.{is_quoted_after, uncommented}
use Rattle.moos_text.proofs.line.content_by_bytes.Given as goal

-- The bytes before the index count, and a quote is open behind them or not.
abbrev pub invariant-loop-len : goal.invariant-loop-len
invariant-loop-len l = (uncommented false l.line ≡ take l.len l.line ++ uncommented l.quoted (drop l.len l.line)) × (fold is_quoted_after false (take l.len l.line) ≡ l.quoted)
