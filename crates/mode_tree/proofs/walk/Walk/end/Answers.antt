use Rattle.std.proofs.Common.{◌≡◌, ◌+◌, ◌∙◌, true, ap, take, length, arith}
use Rattle.mode_tree.specs.declared.walk.Walk.{Walk}
use Rattle.mode_tree.specs.Paths.{parts_by, are_below, ends_with_other}
use Rattle.mode_tree.proofs.Walking.{other_end, plain_end, path_within, other_last, other_within}
use Rattle.mode_tree.proofs.walk.Walk.end.Goals as goal

pub returns-then-self-ge-MOST_PARTS-clause-comes : goal.returns-then-self-ge-MOST_PARTS-clause-comes
returns-then-self-ge-MOST_PARTS-clause-comes c known number all comes = plain_end known c.args.self number all (λ other has. c.if-self-ge-MOST_PARTS.true) comes

pub returns-in_default-clause-comes : goal.returns-in_default-clause-comes
returns-in_default-clause-comes c known number all comes = plain_end known c.args.self number all (λ other has. absurd (c.in_default.not-Some other has)) comes

pub returns-clause-comes : goal.returns-clause-comes
returns-clause-comes c known number all comes =
    ap (λ (walk : Walk). parts_by true (take walk.path.len walk.path.decls)) c.into_decl.ensures
    ∙ other_end known c.args.self number c.in-Some.number all c.in-Some.is c.if-self-ge-MOST_PARTS.false comes

pub returns-then-self-ge-MOST_PARTS-clause-within : goal.returns-then-self-ge-MOST_PARTS-clause-within
returns-then-self-ge-MOST_PARTS-clause-within c decls within = path_within decls c.args.self within

pub returns-in_default-clause-within : goal.returns-in_default-clause-within
returns-in_default-clause-within c decls within = path_within decls c.args.self within

pub returns-clause-within : goal.returns-clause-within
returns-clause-within c decls within = record {
  short = let len : c.into_decl.result.path.len ≡ c.args.self.path.len + 1 = ap (λ (walk : Walk). walk.path.len) c.into_decl.ensures in omega (arith, c.if-self-ge-MOST_PARTS.false);
  declared =
      ap (λ (walk : Walk). are_below (length decls) (take walk.path.len walk.path.decls)) c.into_decl.ensures
      ∙ other_within decls c.args.self c.in-Some.number c.if-self-ge-MOST_PARTS.false c.in-Some.is within;
  other = λ is.
      ap (λ (walk : Walk). ends_with_other decls (take walk.path.len walk.path.decls)) c.into_decl.ensures
      ∙ other_last decls c.args.self c.in-Some.number c.if-self-ge-MOST_PARTS.false c.in-Some.is within;
}
