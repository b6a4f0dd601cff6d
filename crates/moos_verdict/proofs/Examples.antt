-- Lines of texts.
use Rattle.std.proofs.Common.{◌≡◌, refl}
use Rattle.std.specs.Prelude.{codes}
use Rattle.moos_verdict.specs.Lines.{first_lines, whole_lines}

two : first_lines 2 (codes "ab\n\nc\nd") ≡ codes "ab\n\n"
two = refl

torn : first_lines 9 (codes "ab\nc") ≡ codes "ab\nc"
torn = refl

ends : whole_lines (codes "ab\n\nc\nd") ≡ 3
ends = refl
