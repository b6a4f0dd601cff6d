use Rattle.std.proofs.Common.{length, refl, arith, rules, ◌∙◌}
use Rattle.ivp_cert.proofs.Dealing.{joined_all, joined_next, joined_none, turned_length}
use Rattle.ivp_cert.proofs.by_workers.joined.Goals as goal

pub loop-init : goal.loop-init
loop-init c = record { some = refl; joined = λ cuts many is. joined_none (length c.args.shares.items) cuts c.args.shares.items c.new-lines.result.items (search rules) is }

pub loop-preserved : goal.loop-preserved
loop-preserved c =
    let old = c.loop.invariant in
    let shares = c.loop.shares.items in
    let workers = length c.args.shares.items in
    record {
      some = turned_length shares c.rotate_left.new.self.items c.give.new.self c.rotate_left.ensures.items ∙ old.some;
      joined = λ cuts many is.
          joined_next workers c.loop.counter cuts shares c.rotate_left.new.self.items c.index_mut.result.now c.index_mut.result.now c.give.new.self c.loop.lines.items c.give.new.lines.items (omega (arith, c.requires)) (omega (arith, many)) (old.joined cuts many is) c.index_mut.ensures.value c.in_ok-give.ensures.lines c.in_ok-give.ensures.rest c.rotate_left.ensures.items;
    }

pub returns : goal.returns
returns c = λ cuts many is. joined_all (length c.args.shares.items) c.loop.counter cuts c.loop.shares.items c.loop.lines.items (omega (arith, many)) (c.loop.invariant.joined cuts many is)
