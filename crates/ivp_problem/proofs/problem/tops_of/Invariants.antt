use Rattle.std.proofs.Common.{◌≡◌, ◌-◌, ◌*◌, ◌^◌, ◌≤◌, length, get_or}
use Rattle.ivp_problem.proofs.Tops.{TopsFrom}
use Rattle.ivp_problem.proofs.problem.tops_of.Given as goal

abbrev pub invariant-loop-place : goal.invariant-loop-place
invariant-loop-place l =
    record {
      places : length l.tops ≡ 65;
      sums : TopsFrom l.terms l.tops l.place;
      range : get_or l.tops l.place 0 ≤ 10 ^ 12 * (length l.terms - l.place);
    }
