use Rattle.std.proofs.Common.{refl, arith}
use Rattle.ivp_domain.proofs.Sizes.{length-points_of, volume_of-whole, product_within}
use Rattle.ivp_domain.proofs.domain.Domain.points.Goals as goal

pub overflow_mul-result : goal.overflow_mul-result
overflow_mul-result c = let h = product_within c.args.self.now c.size.ensures.lawful in rw (c.size.ensures.size, c.size-2.ensures.size) (omega (arith, h.0))

pub overflow_mul-result-2 : goal.overflow_mul-result-2
overflow_mul-result-2 c = let h = product_within c.args.self.now c.size.ensures.lawful in rw (c.size.ensures.size, c.size-2.ensures.size, c.size-3.ensures.size) (omega (arith, h.1))

pub returns-clause-points : goal.returns-clause-points
returns-clause-points c = rw (length-points_of c.args.self.now c.size.ensures.lawful, c.size.ensures.size, c.size-2.ensures.size, c.size-3.ensures.size, c.size-4.ensures.size) refl

pub returns-clause-volume : goal.returns-clause-volume
returns-clause-volume c = rw (volume_of-whole c.args.self.now c.size.ensures.lawful, c.size.ensures.size, c.size-2.ensures.size, c.size-3.ensures.size, c.size-4.ensures.size) refl
