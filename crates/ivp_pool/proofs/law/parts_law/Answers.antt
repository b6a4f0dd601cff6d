use Rattle.std.proofs.Common.{suc, length, arith}
use Rattle.moos_io.proofs.Lists.{each_at}
use Rattle.ivp_pool.specs.Parts.{handed_within}
use Rattle.ivp_pool.proofs.Growing.{covered, handed_deeper, IsBelow, raised}
use Rattle.ivp_pool.proofs.Standing.{standing, Stands}
use Rattle.ivp_pool.proofs.Weights.{few_weight, size_most}
use Rattle.ivp_pool.proofs.law.parts_law.Goals as goal

pub returns-clause-raised : goal.returns-clause-raised
returns-clause-raised c = λ problem node low high part up is. raised problem low high up node part is

pub returns-clause-covered : goal.returns-clause-covered
returns-clause-covered c = λ problem node low part h at is p inside. covered problem h low node.depth (length problem.terms) node part (standing problem node at) is p inside

pub returns-clause-deeper : goal.returns-clause-deeper
returns-clause-deeper c = λ problem node low part at is here place child stands.
    let each = handed_deeper problem low (length problem.terms) node part (standing problem node at) is here in
    let below = each_at (IsBelow problem (suc node.depth)) (handed_within problem node part) place child each stands in
    (below.is, omega (arith, below.deep))

pub returns-clause-few : goal.returns-clause-few
returns-clause-few c = λ problem node low part h at is.
    let stands : Stands problem node.depth 64 node = record { is = at; deep = omega arith; most = omega (arith, h.few) } in
    omega (arith, size_most problem h low node.depth 64 node part stands is, few_weight problem node h)
