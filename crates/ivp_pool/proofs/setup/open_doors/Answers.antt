use Rattle.std.proofs.Common.{◌≡◌, arith, refl, ◌∙◌}
use Rattle.std.proofs.lemmas.List.{length-set}
use Rattle.std.proofs.lemmas.List.Elements.{All-from_recursion}
use Rattle.ivp_pool.specs.declared.team.Member.{Member}
use Rattle.ivp_pool.specs.Members.{deques_of, new_door}
use Rattle.std.proofs.Common.{ap, length, map}
use Rattle.ivp_pool.proofs.Rows.{open_all, open_next, out_len}
use Rattle.ivp_pool.proofs.setup.open_doors.Goals as goal

pub loop-place-preserved : goal.loop-place-preserved
loop-place-preserved g c =
    let place = c.loop-place.place in
    let inv = c.loop-place.invariant in
    record {
      len = length-set c.row_of.new.members place _ ∙ (ap length c.in_ok-row.ensures.members ∙ (out_len c.loop-place.members ∙ inv.len));
      opened = open_next c.args.problem.now c.args.best.now place c.loop-place.members c.row_of.new.members c.index-members-place.result _ (omega (arith, c.loop-place-test.true, inv.len)) inv.opened c.in_ok-row.ensures.members refl refl c.in_ok-row.ensures.row;
    }

pub returns-clause-doors : goal.returns-clause-doors
returns-clause-doors g c =
    let members = c.loop-place.members in
    All-from_recursion (λ (member : Member g.row.K.Denot). member.doors.items ≡ map new_door (deques_of members)) members
    (open_all c.loop-place.place (map new_door (deques_of members)) members (omega (arith, c.loop-place-test.false, c.loop-place.invariant.len)) c.loop-place.invariant.opened.doors)
