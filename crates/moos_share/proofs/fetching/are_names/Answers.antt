use Rattle.std.proofs.Common.{◌≡◌, true, bytes_eq, sym, ap, ◌∙◌}
use Rattle.std.proofs.lemmas.Bool.{not-false}
use Rattle.moos_share.proofs.Names.{same_next}
use Rattle.moos_share.proofs.fetching.are_names.Goals as goal

pub loop-client-preserved : goal.loop-client-preserved
loop-client-preserved c =
    let name = c.bytes.result.now in
    let other = c.bytes-in-loop-client.result.now in
    let same : bytes_eq name other ≡ true = not-false (bytes_eq name other) (sym c.ne.ensures ∙ c.if-ne.false) in
    same_next c.args.names.now c.args.db.now.names c.loop-client.client c.get.result.now c.name.result.now c.loop-client.invariant c.get.ensures c.name.ensures
    (ap (λ one. bytes_eq one c.name.result.now) (sym c.bytes.ensures.value) ∙ ap (bytes_eq name) (sym c.bytes-in-loop-client.ensures.value) ∙ same)
