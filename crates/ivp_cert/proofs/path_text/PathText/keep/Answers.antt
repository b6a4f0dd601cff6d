use Rattle.std.proofs.Common.{arith, length-take}
use Rattle.ivp_cert.proofs.PathTexts.{begun, fewer}
use Rattle.ivp_cert.proofs.path_text.PathText.keep.Goals as goal

pub invariant_of-self : goal.invariant_of-self
invariant_of-self c =
    let self = c.self.inside in
    fewer self.numbers self.len c.alike-self-inside.result self.ends self.bytes (omega (arith, c.alike-self-inside.ensures.within.0, length-take self.len self.numbers)) c.self.invariant

pub returns : goal.returns
returns c =
    let self = c.self.inside in
    begun self.numbers c.args.path.now self.len c.alike-self-inside.result c.alike-self-inside.ensures.within.0 c.alike-self-inside.ensures.same
