use Rattle.std.proofs.Common.{arith, rules}
use Rattle.ivp_domain.proofs.Sizes.{index_within, point_in_list_at}
use Rattle.ivp_domain.proofs.domain.Domain.index_of.Goals as goal

pub overflow_mul-two : goal.overflow_mul-two
overflow_mul-two c = rw c.size.ensures.size (omega (arith, (index_within c.args.self.now c.args.p.now c.size.ensures.lawful c.requires).0))

pub overflow_add-two : goal.overflow_add-two
overflow_add-two c = rw c.size.ensures.size (omega (arith, (index_within c.args.self.now c.args.p.now c.size.ensures.lawful c.requires).0))

pub overflow_mul-three : goal.overflow_mul-three
overflow_mul-three c =
    rw (c.size.ensures.size, c.size-2.ensures.size) (omega (arith, (index_within c.args.self.now c.args.p.now c.size.ensures.lawful c.requires).1))

pub overflow_add-three : goal.overflow_add-three
overflow_add-three c =
    rw (c.size.ensures.size, c.size-2.ensures.size) (omega (arith, (index_within c.args.self.now c.args.p.now c.size.ensures.lawful c.requires).1))

pub overflow_mul-result : goal.overflow_mul-result
overflow_mul-result c =
    rw (c.size.ensures.size, c.size-2.ensures.size, c.size-3.ensures.size) (omega (arith, (index_within c.args.self.now c.args.p.now c.size.ensures.lawful c.requires).2))

pub overflow_add-result : goal.overflow_add-result
overflow_add-result c =
    rw (c.size.ensures.size, c.size-2.ensures.size, c.size-3.ensures.size) (omega (arith, (index_within c.args.self.now c.args.p.now c.size.ensures.lawful c.requires).2))

pub returns-clause-listed : goal.returns-clause-listed
returns-clause-listed c =
    rw (c.size.ensures.size, c.size-2.ensures.size, c.size-3.ensures.size) (point_in_list_at c.args.self.now c.args.p.now c.size.ensures.lawful c.requires (search rules))
