use Rattle.std.proofs.Common.{length, ap, arith}
use Rattle.bhv_reader.proofs.PathsAt.{above_less, path_top, path_up}
use Rattle.bhv_reader.proofs.parent.path_len.Goals as goal

pub loop-parent-preserved : goal.loop-parent-preserved
loop-parent-preserved c =
    let at = c.loop-parent.at in
    let decl = c.index-decls-at.result in
    let parent = c.in-Some.parent in
    let is = c.loop-parent.invariant in
    let less = above_less at parent decl.parent c.in-Some.ensures in
    let long = ap length (path_up c.args.decls.now at decl parent is.within c.index-decls-at.is c.in-Some.ensures) in
    record {
      within = omega (arith, less, is.within);
      short = omega (arith, less, is.short);
      so_far = omega (arith, long, is.so_far);
    }

pub returns : goal.returns
returns c =
    let is = c.loop-parent.invariant in
    let long = ap length (path_top c.args.decls.now c.loop-parent.at c.index-decls-at.result is.within c.index-decls-at.is c.in_default.ensures) in
    omega (arith, long, is.so_far)
