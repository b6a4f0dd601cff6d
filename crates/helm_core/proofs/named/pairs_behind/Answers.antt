use Rattle.std.proofs.Common.{◌+◌, subst, sym}
use Rattle.std.specs.Prelude.{IsTrue}
use Rattle.std.proofs.lemmas.List.{take_rest}
use Rattle.moos_post.specs.Words.{is_text}
use Rattle.helm_core.proofs.Texts.{text_behind}
use Rattle.helm_core.proofs.named.pairs_behind.Goals as goal

pub text_of-requires : goal.text_of-requires
text_of-requires c =
    subst (λ bytes. IsTrue (is_text bytes)) (sym (take_rest c.args.text.now (c.in-Some.hash + 1))) (text_behind c.args.text.now (c.in-Some.hash + 1) c.requires)
