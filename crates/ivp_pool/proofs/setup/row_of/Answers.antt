use Rattle.std.proofs.Common.{◌<◌, List, ap, arith, get_or, set, subst, sym, ◌∙◌}
use Rattle.std.specs.Prelude.{◌++◌, ◌∷◌, []}
use Rattle.ivp_pool.specs.Hands.{EndState}
use Rattle.ivp_pool.specs.Members.{new_door, with_part_out}
use Rattle.ivp_pool.specs.declared.team.Member.{Member}
use Rattle.ivp_pool.proofs.Rows.{parted_all, parted_at, parted_next, row_next}
use Rattle.ivp_pool.proofs.setup.row_of.Goals as goal

pub door-requires : goal.door-requires
door-requires g c =
    let place = c.loop-place.place in
    let members = c.args.members.now in
    let same = ap (λ (ms : List (Member g.row.K.Denot)). get_or ms place c.index-members-place.result) c.loop-place.invariant.members ∙ parted_at place members c.index-members-place.result in
    subst (λ (m : Member g.row.K.Denot). 1 < m.deque.hand.parts) (sym same) (c.requires.parts place c.index-members-place.result (omega (arith, c.loop-place-test.true)))

pub loop-place-preserved : goal.loop-place-preserved
loop-place-preserved g c =
    let place = c.loop-place.place in
    let members = c.args.members.now in
    let d = c.index-members-place.result in
    let inv = c.loop-place.invariant in
    let same = ap (λ (ms : List (Member g.row.K.Denot)). get_or ms place d) inv.members ∙ parted_at place members d in
    let within : place < _ = c.loop-place-test.true in
    record {
      members =
          ap (λ (own : EndState). set c.loop-place.members place (record (get_or c.loop-place.members place d) { deque = own })) c.in_ok-door.ensures.own
          ∙ (ap (λ (m : Member g.row.K.Denot). set c.loop-place.members place (with_part_out m)) same
          ∙ (ap (λ (ms : List (Member g.row.K.Denot)). set ms place (with_part_out (get_or members place d))) inv.members ∙ parted_next place members d (omega (arith, within))));
      row =
          c.in_ok-push.ensures.items
          ∙ ((λ t. inv.row t ++ (c.in_ok-door.ensures.door ∙ ap (λ (m : Member g.row.K.Denot). new_door m.deque.deque) same) t ∷ [])
          ∙ sym (row_next place members d (omega (arith, within))));
    }

pub returns-clause-members : goal.returns-clause-members
returns-clause-members g c = c.loop-place.invariant.members ∙ parted_all c.loop-place.place c.args.members.now (omega (arith, c.loop-place-test.false))
