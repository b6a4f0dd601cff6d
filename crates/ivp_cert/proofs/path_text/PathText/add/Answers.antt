use Rattle.std.proofs.Common.{◌≡◌, ◌+◌, ◌<◌, ◌≤◌, length, take, arith, ap, ◌∙◌, length-take}
use Rattle.std.specs.Prelude.{slice_index}
use Rattle.std.proofs.lemmas.Grind.{common_steps}
use Rattle.ivp_cert.proofs.PathTexts.{longer}
use Rattle.ivp_cert.proofs.path_text.PathText.add.Goals as goal

pub invariant_of-self : goal.invariant_of-self
invariant_of-self c =
    let self = c.self.inside in
    let seen : length (take self.len self.numbers) ≡ length c.args.self.now = ap length c.self.view_is in
    let small : self.len < 64 = omega (arith, seen, length-take self.len self.numbers, c.self.invariant.few, c.requires) in
    let start = c.self.invariant.within self.len (omega arith) in
    let have : self.len < length self.numbers = grind (arith, common_steps) in
    let room : self.len + 1 < length self.ends = grind (arith, common_steps) in
    let fits : slice_index self.ends self.len ≤ length self.bytes = grind (arith, common_steps) in
    let short : length c.as_bytes-digits.result.now ≤ 10 = omega (arith, c.format.ensures.short, ap length c.as_bytes-digits.ensures.value) in
    longer self.numbers self.len c.args.number self.ends self.bytes c.append-blank.new.bytes c.append-end.new.bytes c.as_bytes-digits.result.now c.append-blank.result c.append-end.result c.self.invariant have room fits (c.as_bytes-digits.ensures.value ∙ c.format.ensures.text) short c.append-blank.ensures.end c.append-blank.ensures.written c.append-end.ensures.end c.append-end.ensures.written
