use Rattle.std.proofs.Common.{ℕ, ◌++◌, ◌/◌, ◌%◌, List, append_assoc, ap, sym}
use Rattle.std.specs.Fmt.{decimal}
use Rattle.std.specs.Prelude.{codes}
use Rattle.moos_io.proofs.BufferedWriting.{writes_as}
use Rattle.moos_text.specs.Numbers.{decimals_text}
use Rattle.moos_jobs.proofs.summary.put_counts.Goals as goal

-- the total is one text, its whole part and its decimals are two
pub returns : goal.returns
returns g c =
    let counts = c.args.counts.now in
    writes_as
    (ap (λ (total : List ℕ). codes "generated " ++ (decimal c.args.number ++ (codes "\nentries " ++ (decimal counts.entries ++ (codes "\nposts " ++ (decimal counts.posts ++ (codes "\nmailed " ++ (decimal counts.mailed
    ++ (codes "\niterations " ++ (decimal counts.iterations ++ (codes "\ndecisions " ++ (decimal counts.decisions ++ (codes "\ntotal " ++ total)))))))))))))
    (sym (append_assoc (decimal (counts.total / 1000)) (decimals_text (counts.total % 1000)) (codes "\n"))))
    (rw (c.as_bytes.ensures.value, c.format.ensures.text, c.as_bytes-2.ensures.value, c.format-2.ensures.text, c.as_bytes-3.ensures.value, c.format-3.ensures.text, c.as_bytes-4.ensures.value, c.format-4.ensures.text, c.as_bytes-5.ensures.value, c.format-5.ensures.text, c.as_bytes-6.ensures.value, c.format-6.ensures.text, c.as_bytes-7.ensures.value, c.format-7.ensures.text, c.bytes.ensures.value, c.print_decimals-decimals.ensures) at c.write.ensures)
