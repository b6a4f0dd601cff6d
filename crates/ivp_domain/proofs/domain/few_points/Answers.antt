use Rattle.ivp_domain.specs.Domains.{size_on}
use Rattle.ivp_domain.proofs.Sizes.{few_in_all}
use Rattle.ivp_domain.proofs.domain.few_points.Goals as goal

pub returns : goal.returns
returns c =
    rw (c.times.ensures, c.times-three.ensures, c.times-two.ensures, c.times-one.ensures, c.size_at.ensures, c.size_at-2.ensures, c.size_at-3.ensures, c.size_at-4.ensures)
    (few_in_all (size_on 0 c.args.axes.now) (size_on 1 c.args.axes.now) (size_on 2 c.args.axes.now) (size_on 3 c.args.axes.now) 268435456)
