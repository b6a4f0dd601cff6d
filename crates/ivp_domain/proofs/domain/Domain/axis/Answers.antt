use Rattle.std.proofs.Common.{◌<◌, get_or, length, take}
use Rattle.ivp_domain.proofs.Padding.{slice_get-take}
use Rattle.ivp_domain.proofs.Sizes.{few_at}
use Rattle.ivp_domain.proofs.domain.Domain.axis.Goals as goal

pub returns-clause-few : goal.returns-clause-few
returns-clause-few c =
    let axes = take c.self.inside.count c.self.inside.axes in
    let within : c.args.a < length axes = rw c.self.view_is c.requires in
    few_at axes c.args.a (get_or c.self.inside.axes c.args.a c.index-self-a.result) c.self.invariant.0
    (slice_get-take c.self.inside.axes c.self.inside.count c.args.a c.index-self-a.result within)
