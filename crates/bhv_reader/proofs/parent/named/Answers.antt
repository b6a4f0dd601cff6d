use Rattle.std.proofs.Common.{◌<◌, ◌≤◌, [], length, sym, ◌∙◌, arith}
use Rattle.std.specs.Prelude.{reverse}
use Rattle.helm_cond.specs.Conditions.{mode_names}
use Rattle.bhv_file.specs.Paths.{named_from, paths_of}
use Rattle.bhv_reader.proofs.Naming.{named_end, named_no, named_twice, named_yes}
use Rattle.bhv_reader.proofs.PathsAt.{length-paths_of}
use Rattle.bhv_reader.proofs.parent.named.Goals as goal
use Rattle.bhv_reader.proofs.parent.named.Goals.{then-ends_with_parts+else-is_some, else-ends_with_parts}

pub returns-then-is_some : goal.returns-then-is_some
returns-then-is_some c =
    let paths = paths_of c.args.decls.now in
    let names = reverse (mode_names c.args.text.now) in
    let within : c.loop-number.number < length paths = omega (arith, length-paths_of [] c.args.decls.now, c.loop-number-test.true) in
    named_twice (named_from 0 names paths) names paths c.loop-number.number c.loop-number.found within c.loop-number.invariant
    (sym c.ends_with_parts.ensures ∙ c.if-ends_with_parts.true) (sym c.is_some.ensures ∙ c.if-is_some.true)

pub loop-number-preserved : goal.loop-number-preserved
loop-number-preserved c =
    let paths = paths_of c.args.decls.now in
    let names = reverse (mode_names c.args.text.now) in
    let within : c.loop-number.number < length paths = omega (arith, length-paths_of [] c.args.decls.now, c.loop-number-test.true) in
    elim c.if-ends_with_parts.branch [
      | then-ends_with_parts+else-is_some w ↦
          named_yes (named_from 0 names paths) names paths c.loop-number.number c.loop-number.found c.if-ends_with_parts.found within c.loop-number.invariant
          (sym c.ends_with_parts.ensures ∙ w.if-ends_with_parts.true) (sym w.is_some.ensures ∙ w.if-is_some.false) w.found-is
      | else-ends_with_parts w ↦
          named_no (named_from 0 names paths) names paths c.loop-number.number c.loop-number.found c.if-ends_with_parts.found within c.loop-number.invariant
          (sym c.ends_with_parts.ensures ∙ w.if-ends_with_parts.false) w.found-is
    ]

pub returns : goal.returns
returns c =
    let paths = paths_of c.args.decls.now in
    let names = reverse (mode_names c.args.text.now) in
    let out : length paths ≤ c.loop-number.number = omega (arith, length-paths_of [] c.args.decls.now, c.loop-number-test.false) in
    c.ok_or.ensures.value ∙ named_end (named_from 0 names paths) names paths c.loop-number.number c.loop-number.found out c.loop-number.invariant
