use Rattle.std.proofs.Common.{◌∙◌, sym, length, arith}
use Rattle.moos_reg.proofs.Tries.{at_first, at_star, at_sign, at_end, tail_within}
use Rattle.moos_reg.proofs.matching.matches.Goals as goal

pub loop-name-init : goal.loop-name-init
loop-name-init c = rw c.bytes-pattern.ensures.value (record {
  tries = at_first c.args.p.now c.args.s.now;
  left = omega arith;
  after = omega arith;
  rest = omega arith;
})

pub loop-name-preserved-then-sign-eq42 : goal.loop-name-preserved-then-sign-eq42
loop-name-preserved-then-sign-eq42 c = record {
  tries = at_star c.args.p.now c.args.s.now c.loop-name.pattern.now c.loop-name.name.now _
      (omega arith) (omega arith) c.if-sign-eq42.true c.loop-name.invariant.tries;
  left = tail_within c.loop-name.pattern.now (length c.args.p.now) c.loop-name.invariant.left;
  after = tail_within c.loop-name.pattern.now (length c.args.p.now) c.loop-name.invariant.left;
  rest = omega arith;
}

pub loop-name-preserved-then-takes : goal.loop-name-preserved-then-takes
loop-name-preserved-then-takes c = record {
  tries = at_sign c.args.p.now c.args.s.now c.loop-name.pattern.now c.loop-name.name.now _
      (omega arith) (omega arith) c.if-sign-eq42.false (sym c.if-takes.ensures)
      c.loop-name.invariant.tries;
  left = tail_within c.loop-name.pattern.now (length c.args.p.now) c.loop-name.invariant.left;
  after = c.loop-name.invariant.after;
  rest = tail_within c.loop-name.name.now _ c.loop-name.invariant.rest;
}

pub returns : goal.returns
returns c = c.are_stars.ensures ∙ at_end c.args.p.now c.args.s.now c.loop-name.pattern.now c.loop-name.name.now _
    c.in_default.len_below c.loop-name.invariant.tries
