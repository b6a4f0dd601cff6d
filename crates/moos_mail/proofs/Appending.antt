-- What one mailing more adds to those that wait.
use Rattle.std.proofs.Common.{◌≡◌, ℕ, ◌≤◌, cond, nat_le, List, [], ◌∷◌, ◌++◌, map, filter, ap, ◌∙◌}
use Rattle.std.proofs.lemmas.Bool.{le-leb}
use Rattle.std.proofs.lemmas.List.{map-append}
use Rattle.std.proofs.lemmas.List.Elements.{filter-append}
use Rattle.moos_post.specs.Delivery.{Mailing, mailing}

abbrev pub numbers : List Mailing → List ℕ
numbers mailed = map (λ (one : Mailing). one.number) mailed

-- it waits, where the last fetch was before
pub waits-more : (fetched number entry : ℕ) (mailed : List Mailing) → fetched ≤ entry →
    numbers (filter (λ one. nat_le fetched one.entry) (mailed ++ mailing number entry ∷ [])) ≡ numbers (filter (λ one. nat_le fetched one.entry) mailed) ++ number ∷ []
waits-more fetched number entry mailed before =
    ap numbers (filter-append (λ (one : Mailing). nat_le fetched one.entry) mailed (mailing number entry ∷ []))
    ∙ map-append (λ (one : Mailing). one.number) (filter (λ one. nat_le fetched one.entry) mailed) (filter (λ one. nat_le fetched one.entry) (mailing number entry ∷ []))
    ∙ ap (λ b. numbers (filter (λ one. nat_le fetched one.entry) mailed) ++ numbers (cond b (mailing number entry ∷ []) [])) (le-leb fetched entry before)
