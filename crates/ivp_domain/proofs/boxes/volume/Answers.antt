use Rattle.std.proofs.Common.{◌^◌, refl, arith}
use Rattle.ivp_domain.proofs.BoxLemmas.{length-points_in, listed_point, point_listed, volume_part}
use Rattle.ivp_domain.proofs.boxes.volume.Goals as goal

pub overflow_mul-result : goal.overflow_mul-result
overflow_mul-result c = rw (c.side.ensures, c.side-2.ensures) (omega (arith, (volume_part c.args.b.now (2 ^ 64) c.requires.proper c.requires.fits).0))

pub overflow_mul-result-2 : goal.overflow_mul-result-2
overflow_mul-result-2 c =
    rw (c.side.ensures, c.side-2.ensures, c.side-3.ensures) (omega (arith, (volume_part c.args.b.now (2 ^ 64) c.requires.proper c.requires.fits).1))

pub returns-clause-points : goal.returns-clause-points
returns-clause-points c = rw (length-points_in c.args.b.now, c.side.ensures, c.side-2.ensures, c.side-3.ensures, c.side-4.ensures) refl

pub returns-clause-each : goal.returns-clause-each
returns-clause-each c = listed_point c.args.b.now

pub returns-clause-listed : goal.returns-clause-listed
returns-clause-listed c = point_listed c.args.b.now
