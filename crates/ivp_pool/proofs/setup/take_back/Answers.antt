use Rattle.std.proofs.Common.{◌≡◌, ◌+◌, ◌-◌, Vec, get_or, length, map, set, arith, refl, ap, ◌∙◌}
use Rattle.std.specs.Global.{Global}
use Rattle.ivp_pool.specs.Hands.{EndState}
use Rattle.std.specs.Prelude.{[]}
use Rattle.std.proofs.lemmas.List.Elements.{All-from_recursion}
use Rattle.ivp_pool.specs.declared.team.Member.{Member}
use Rattle.ivp_pool.specs.Members.{absorbed, deques_of, first_parts, tag_of}
use Rattle.ivp_pool.proofs.Rows.{back_next, back_start, back_tags, closed_all, whole_parts}
use Rattle.ivp_pool.proofs.setup.take_back.Goals as goal

pub loop-place-init : goal.loop-place-init
loop-place-init g c =
    let members = c.args.members.now in
    back_start (1024 - length members) members c.requires.parts c.requires.doors (whole_parts members c.requires.parts)

pub take_row-requires : goal.take_row-requires
take_row-requires g c =
    let members = c.args.members.now in
    let back = c.loop-place.invariant in
    ap (λ (row : Vec EndState Global). map tag_of row.items) c.replace-row.ensures.value ∙ back_tags c.loop-place.place (1024 - length members) members c.loop-place.members c.index-members-place.result _ (omega (arith, c.loop-place-test.true, back.len)) back refl

pub loop-place-preserved : goal.loop-place-preserved
loop-place-preserved g c =
    let members = c.args.members.now in
    let back = c.loop-place.invariant in
    let was = get_or c.loop-place.members c.loop-place.place c.index-members-place.result in
    let new : Member g.row.K.Denot = record { worker = was.worker; deque = was.deque; doors = c.replace-row.new.dest } in
    back_next c.loop-place.place (1024 - length members) members c.loop-place.members c.take_row.new.members c.index-members-place.result new (omega (arith, c.loop-place-test.true, back.len)) back refl refl
    (ap (λ (row : Vec EndState Global). row.items) c.replace-row.ensures.after ∙ c.new.ensures.items)
    (c.take_row.ensures ∙ ap (λ (row : Vec EndState Global). absorbed 0 row.items (set c.loop-place.members c.loop-place.place new)) c.replace-row.ensures.value)

pub returns-clause-parts : goal.returns-clause-parts
returns-clause-parts g c = λ k d within.
    let members = c.args.members.now in
    let back = c.loop-place.invariant in
    let whole = whole_parts members c.requires.parts in
    let each = All-from_recursion (λ (m : Member g.row.K.Denot). m.deque.hand.parts ≡ (1024 - length members) + c.loop-place.place) c.loop-place.members back.parts k d within in
    let end : c.loop-place.place ≡ length members = omega (arith, c.loop-place-test.false, c.loop-place.auto.place-end) in
    omega (arith, each, end, whole)

pub returns-clause-doors : goal.returns-clause-doors
returns-clause-doors g c =
    let back = c.loop-place.invariant in
    All-from_recursion (λ (m : Member g.row.K.Denot). m.doors.items ≡ []) c.loop-place.members (closed_all c.loop-place.place (first_parts (deques_of c.args.members.now)) c.loop-place.members (omega (arith, back.len, c.loop-place-test.false)) back.doors)
