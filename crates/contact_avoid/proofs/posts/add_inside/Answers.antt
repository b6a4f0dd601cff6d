use Rattle.std.proofs.Common.{◌≡◌, ◌∷◌, [], ◌++◌, ap, ◌∙◌}
use Rattle.std.specs.Prelude.{codes}
use Rattle.contact_avoid.specs.Contacts.{inside_text, pair_saying}
use Rattle.contact_avoid.proofs.posts.add_inside.Goals as goal

pub returns : goal.returns
returns c =
    let said : c.as_slice.result.now ≡ inside_text c.args.report.now = c.as_slice.ensures.value ∙ c.in_ok-text.ensures.value in
    c.in_ok-add_text.ensures ∙ ap (λ text. c.args.batch.now ++ pair_saying (codes "CONTACT_INFO") text ∷ []) said
