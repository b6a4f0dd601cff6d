use Rattle.std.proofs.Common.{◌≡◌, ◌∙◌, ◌+◌, true, false, sym, subst}
use Rattle.std.specs.Prelude.{nat_eq}
use Rattle.std.specs.Option.{option_eq}
use Rattle.helm_cond.specs.Infos.{knowledge_of}
use Rattle.mode_tree.specs.Modes.{is_met}
use Rattle.mode_tree.specs.Scans.{ComesTo, IsWithin}
use Rattle.mode_tree.proofs.Walking.{full_on, elsewhere_on, met_on, aside_on, not_false, not_true, within_more, within_into, within_aside}
use Rattle.mode_tree.proofs.walk.Walk.behind.Goals as goal

pub returns-then-self-ge-MOST_PARTS-clause-comes : goal.returns-then-self-ge-MOST_PARTS-clause-comes
returns-then-self-ge-MOST_PARTS-clause-comes c more all comes = full_on _ c.args.self c.args.number c.args.decl.now more all c.if-self-ge-MOST_PARTS.true comes

pub returns-then-ne-clause-comes : goal.returns-then-ne-clause-comes
returns-then-ne-clause-comes c more all comes =
    let elsewhere : option_eq nat_eq c.args.decl.now.parent c.args.self.parent ≡ false = not_true (option_eq nat_eq c.args.decl.now.parent c.args.self.parent) (sym c.ne.ensures ∙ c.if-ne.true) in
    elsewhere_on (knowledge_of c.args.info.now) c.args.self c.args.number c.args.decl.now more all elsewhere comes

pub returns-then-is_met-clause-comes : goal.returns-then-is_met-clause-comes
returns-then-is_met-clause-comes c more all comes =
    let here : option_eq nat_eq c.args.decl.now.parent c.args.self.parent ≡ true = not_false (option_eq nat_eq c.args.decl.now.parent c.args.self.parent) (sym c.ne.ensures ∙ c.if-ne.false) in
    let met : is_met (knowledge_of c.args.info.now) c.args.decl.now ≡ true = sym c.is_met.ensures ∙ c.if-is_met.true in
    subst (λ walk. ComesTo (knowledge_of c.args.info.now) walk (c.args.number + 1) more all) (sym c.into_decl.ensures)
    (met_on (knowledge_of c.args.info.now) c.args.self c.args.number c.args.decl.now more all c.if-self-ge-MOST_PARTS.false here met comes)

pub returns-clause-comes : goal.returns-clause-comes
returns-clause-comes c more all comes =
    let here : option_eq nat_eq c.args.decl.now.parent c.args.self.parent ≡ true = not_false (option_eq nat_eq c.args.decl.now.parent c.args.self.parent) (sym c.ne.ensures ∙ c.if-ne.false) in
    let unmet : is_met (knowledge_of c.args.info.now) c.args.decl.now ≡ false = sym c.is_met.ensures ∙ c.if-is_met.false in
    subst (λ walk. ComesTo (knowledge_of c.args.info.now) walk (c.args.number + 1) more all) (sym c.with_other.ensures)
    (aside_on (knowledge_of c.args.info.now) c.args.self c.args.number c.args.decl.now more all c.if-self-ge-MOST_PARTS.false here unmet comes)

pub returns-then-self-ge-MOST_PARTS-clause-within : goal.returns-then-self-ge-MOST_PARTS-clause-within
returns-then-self-ge-MOST_PARTS-clause-within c decls own within = within_more decls c.args.number c.args.self within

pub returns-then-ne-clause-within : goal.returns-then-ne-clause-within
returns-then-ne-clause-within c decls own within = within_more decls c.args.number c.args.self within

pub returns-then-is_met-clause-within : goal.returns-then-is_met-clause-within
returns-then-is_met-clause-within c decls own within =
    subst (λ walk. IsWithin decls (c.args.number + 1) walk) (sym c.into_decl.ensures) (within_into decls c.args.number c.args.self c.if-self-ge-MOST_PARTS.false within)

pub returns-clause-within : goal.returns-clause-within
returns-clause-within c decls own within =
    subst (λ walk. IsWithin decls (c.args.number + 1) walk) (sym c.with_other.ensures) (within_aside decls c.args.number c.args.self c.args.decl.now own within)
