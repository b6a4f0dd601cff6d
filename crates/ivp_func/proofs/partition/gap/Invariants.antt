use Rattle.std.proofs.Common.{◌<◌, ◌≤◌, ◌^◌, IsTrue}
use Rattle.ivp_domain.specs.declared.boxes.Point.{Point}
use Rattle.ivp_domain.specs.Boxes.{has_point, is_box, volume_of}
use Rattle.ivp_func.specs.Covering.{covered_in}
use Rattle.ivp_func.proofs.partition.gap.Given as goal

abbrev pub invariant-loop-axis : goal.invariant-loop-axis
invariant-loop-axis l =
    record {
      proper : IsTrue (is_box l.short);
      few : volume_of l.short ≤ 2 ^ 28;
      short : covered_in l.short l.pieces < volume_of l.short;
      inside : (p : Point) → IsTrue (has_point l.short p) → IsTrue (has_point l.fn.area p);
    }

abbrev pub decreases-loop-axis : goal.decreases-loop-axis
decreases-loop-axis l = volume_of l.short
