use Rattle.std.proofs.Common.{◌≡◌, ◌∙◌, ◌-◌, ◌*◌, ◌<◌, arith}
use Rattle.contact_avoid.proofs.Shares.{excess_below}
use Rattle.contact_avoid.proofs.worth.utility_between.Goals as goal

pub share-requires-clause-whole : goal.share-requires-clause-whole
share-requires-clause-whole c =
    let near = c.distance_square-near.result in
    let far = c.distance_square-far.result in
    let over = c.args.q.over in
    let under = c.args.q.under in
    let low : c.scaled-low.result ≡ near * under = c.scaled-low.ensures.value in
    let high : c.scaled.result ≡ far * under = c.scaled.ensures.value in
    let above : near * under < over = omega (arith, low, c.if-q-low.false) in
    let below : over < far * under = omega (arith, high, c.if-scaled-q.false) in
    let part : c.excess.result ≡ over - c.scaled-low.result = c.excess.ensures in
    let whole : c.scaled-else-scaled-q.result ≡ (far - near) * under = c.scaled-else-scaled-q.ensures.value ∙ (λ i. c.excess-else-scaled-q.ensures i * under) in
    let less = excess_below over near far under above below in
    omega (arith, part, low, whole, less)
