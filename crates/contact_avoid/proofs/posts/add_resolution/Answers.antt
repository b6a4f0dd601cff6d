use Rattle.std.proofs.Common.{◌≡◌, ℕ, List, ◌∷◌, [], ◌++◌, append_assoc, ap, ◌∙◌}
use Rattle.std.specs.Prelude.{codes}
use Rattle.moos_post.specs.declared.value.Pair.{Pair}
use Rattle.contact_avoid.specs.Contacts.{outside_text, pair_saying}
use Rattle.contact_avoid.proofs.posts.add_resolution.Goals as goal

pub returns : goal.returns
returns c =
    let r = c.args.report.now in
    let before : List Pair = c.args.batch.now in
    let resolution : List ℕ → List Pair = λ name. pair_saying (codes "CONTACT_RESOLVED") name ∷ [] in
    let info : List ℕ → List Pair = λ text. pair_saying (codes "CONTACT_INFO") text ∷ [] in
    let first : c.add_text.new.batch ≡ before ++ resolution r.name = c.in_ok-add_text.ensures ∙ ap (λ name. before ++ resolution name) c.bytes.ensures.value in
    let said : c.as_slice.result.now ≡ outside_text r = c.as_slice.ensures.value ∙ c.in_ok-text.ensures.value in
    c.in_ok-add_text-2.ensures ∙ (λ i. first i ++ info (said i)) ∙ append_assoc before (resolution r.name) (info (outside_text r))
