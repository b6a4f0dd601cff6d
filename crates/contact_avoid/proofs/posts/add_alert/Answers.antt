use Rattle.std.proofs.Common.{◌≡◌, ℕ, List, ◌∷◌, [], ◌++◌, append_assoc, ap, ◌∙◌}
use Rattle.std.specs.Prelude.{codes}
use Rattle.moos_post.specs.declared.value.Pair.{Pair}
use Rattle.contact_avoid.specs.Contacts.{inside_text, pair_saying}
use Rattle.contact_avoid.proofs.posts.add_alert.Goals as goal

pub returns : goal.returns
returns c =
    let r = c.args.report.now in
    let before : List Pair = c.args.batch.now in
    let alert : List ℕ → List Pair = λ name. pair_saying (codes "CONTACT_ALERT") name ∷ [] in
    let info : List Pair = pair_saying (codes "CONTACT_INFO") (inside_text r) ∷ [] in
    let first : c.add_text.new.batch ≡ before ++ alert r.name = c.in_ok-add_text.ensures ∙ ap (λ name. before ++ alert name) c.bytes.ensures.value in
    c.in_ok-add_inside.ensures ∙ ap (λ batch. batch ++ info) first ∙ append_assoc before (alert r.name) info
