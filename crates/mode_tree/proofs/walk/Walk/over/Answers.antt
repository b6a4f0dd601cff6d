use Rattle.std.proofs.Common.{◌≡◌, ◌∷◌, ◌+◌, ◌∙◌, ap, drop, subst, sym}
use Rattle.std.proofs.lemmas.List.{drop_more}
use Rattle.helm_cond.specs.Infos.{knowledge_of}
use Rattle.mode_tree.specs.Modes.{mode_of}
use Rattle.mode_tree.specs.Scans.{ComesTo}
use Rattle.mode_tree.proofs.Walking.{other_at}
use Rattle.mode_tree.proofs.walk.Walk.over.Goals as goal

pub loop-number-init : goal.loop-number-init
loop-number-init c = record {
  within = c.start-walk.ensures.within c.args.decls.now;
  comes = c.start-walk.ensures.comes (knowledge_of c.args.info.now) c.args.decls.now c.requires.rooted;
}

pub loop-number-preserved : goal.loop-number-preserved
loop-number-preserved c =
    let decls = c.args.decls.now in
    let number = c.loop-number.number in
    let known = knowledge_of c.args.info.now in
    let more = drop (number + 1) decls in
    let next : drop number decls ≡ c.index-decls-number.result ∷ more =
    drop_more decls number c.index-decls-number.result c.loop-number-test.true ∙ ap (λ decl. decl ∷ more) (sym c.index-decls-number.is) in
    record {
      within = c.behind-walk.ensures.within decls (other_at decls number c.index-decls-number.result more next) c.loop-number.invariant.within;
      comes = c.behind-walk.ensures.comes more (mode_of decls known) (subst (λ rest. ComesTo known c.loop-number.walk number rest (mode_of decls known)) next c.loop-number.invariant.comes);
    }
