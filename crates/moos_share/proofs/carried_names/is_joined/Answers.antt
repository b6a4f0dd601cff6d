use Rattle.std.proofs.Common.{length, sym, take, ◌∙◌}
use Rattle.std.proofs.lemmas.Bool.{false≢true}
use Rattle.std.proofs.lemmas.Slice.Eq.{bytes_eq-Decides}
use Rattle.moos_share.proofs.Joined.{joined_parts, parts_joined}
use Rattle.moos_share.proofs.carried_names.is_joined.Goals as goal

pub returns-in-Some : goal.returns-in-Some
returns-in-Some c =
    let bytes = c.args.bytes.now in
    let front = c.args.front.now in
    let behind = c.args.behind.now in
    let cut = c.in-Some.ensures.cases in
    let one = (bytes_eq-Decides (take (length front) bytes) front).0 cut.0 in
    let same = bytes_eq-Decides c.in-Some.rest.now behind in
    (λ is. parts_joined bytes front behind one (sym cut.1 ∙ same.0 (sym c.eq.ensures ∙ is)), λ is. c.eq.ensures ∙ same.1 (cut.1 ∙ (joined_parts bytes front behind is).1))

pub returns-in-None : goal.returns-in-None
returns-in-None c =
    let bytes = c.args.bytes.now in
    let front = c.args.front.now in (
      λ is. absurd (false≢true is),
      λ is. absurd (false≢true (sym c.in-None.ensures.cases ∙ (bytes_eq-Decides (take (length front) bytes) front).1 (joined_parts bytes front c.args.behind.now is).0)),
    )
