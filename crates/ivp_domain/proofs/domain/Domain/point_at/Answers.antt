use Rattle.ivp_domain.proofs.Sizes.{point_of_index}
use Rattle.ivp_domain.proofs.domain.Domain.point_at.Goals as goal

pub returns-clause-listed : goal.returns-clause-listed
returns-clause-listed c =
    rw (c.size.ensures.size, c.size-2.ensures.size, c.size-3.ensures.size, c.size-4.ensures.size, c.size-5.ensures.size, c.size-6.ensures.size)
    (point_of_index c.args.self.now c.args.index c.size.ensures.lawful c.requires).listed

pub returns-clause-index : goal.returns-clause-index
returns-clause-index c =
    rw (c.size.ensures.size, c.size-2.ensures.size, c.size-3.ensures.size, c.size-4.ensures.size, c.size-5.ensures.size, c.size-6.ensures.size)
    (point_of_index c.args.self.now c.args.index c.size.ensures.lawful c.requires).index

pub returns-clause-inside : goal.returns-clause-inside
returns-clause-inside c =
    rw (c.size.ensures.size, c.size-2.ensures.size, c.size-3.ensures.size, c.size-4.ensures.size, c.size-5.ensures.size, c.size-6.ensures.size)
    (point_of_index c.args.self.now c.args.index c.size.ensures.lawful c.requires).inside
