use Rattle.std.proofs.Common.{◌++◌, ◌∷◌, [], drop, length, ap, ◌∙◌}
use Rattle.ivp_cert.proofs.Deciding.{padded}
use Rattle.ivp_cert.proofs.claim.point_at.Goals as goal

pub returns : goal.returns
returns c =
    let places = c.args.places.now in
    let same = ap (λ front. front ++ drop (length places) (0 ∷ 0 ∷ 0 ∷ 0 ∷ [])) c.copy_from_slice.ensures.after ∙ padded places c.requires in
    ap (λ at. record { at = at }) same
