use Rattle.std.proofs.Common.{◌∙◌, length, ap, subst}
use Rattle.helm_cond.specs.Infos.{knowledge_of}
use Rattle.mode_tree.specs.Modes.{mode_of}
use Rattle.mode_tree.specs.Paths.{IsPathOf}
use Rattle.mode_tree.proofs.tree.ModeTree.mode.Goals as goal

pub returns-clause-mode : goal.returns-clause-mode
returns-clause-mode c =
    c.end.ensures.comes (knowledge_of c.args.info.now) (length c.all.result.now) (mode_of c.all.result.now (knowledge_of c.args.info.now)) c.over.ensures.comes
    ∙ ap (λ decls. mode_of decls (knowledge_of c.args.info.now)) (c.all.ensures ∙ c.self.view_is)

pub returns-clause-path : goal.returns-clause-path
returns-clause-path c = subst (λ decls. IsPathOf decls c.end.result) (c.all.ensures ∙ c.self.view_is) (c.end.ensures.within c.all.result.now c.over.ensures.within)
