use Rattle.std.proofs.Common.{◌≡◌, ◌-◌, ◌%◌, ◌<◌, List, [], ◌∷◌, get_or, length, set, take, take_all, arith, mod-lt, le_refl, refl, sym, ap, ◌∙◌, subst}
use Rattle.std.proofs.lemmas.List.{length-set}
use Rattle.ivp_pool.specs.declared.team.Member.{Member}
use Rattle.ivp_pool.specs.Hands.{EndState}
use Rattle.ivp_pool.specs.Members.{doors_of}
use Rattle.ivp_pool.specs.Roots.{child_nodes}
use Rattle.ivp_pool.specs.Teams.{AllDid}
use Rattle.ivp_pool.proofs.Members.{put_more}
use Rattle.ivp_pool.proofs.Roots.{blank_child}
use Rattle.ivp_pool.proofs.Whole.{all_call, all_more, all_none, dealt, last_done, refused, shapes_set}
use Rattle.ivp_pool.proofs.search.deal.Goals as goal

pub loop-next-init : goal.loop-next-init
loop-next-init g c =
    let problem = c.args.problem.now in
    let word = c.args.best.now in
    let children = c.args.children.now in
    let nodes = child_nodes children in
    let start = c.args.members.now in
    let all = ap child_nodes (sym (take_all (length children) children (le_refl (length children)))) in
    record { did = subst (λ ns. AllDid problem word nodes ns start start) all (all_none problem word nodes start c.requires.workers); same = refl; tray = refl }

pub loop-next-preserved-in-Some : goal.loop-next-preserved-in-Some
loop-next-preserved-in-Some g c =
    let problem = c.args.problem.now in
    let word = c.args.best.now in
    let children = c.args.children.now in
    let count = c.loop-next.next in
    let child = get_or children (count - 1) blank_child in
    let rest = child_nodes (take (count - 1) children) in
    let start = c.args.members.now in
    let members = c.loop-next.members in
    let inv = c.loop-next.invariant in
    let number = child.place % length start in
    let d = c.index-members-child.result in
    let was : Member g.row.K.Denot = get_or members number d in
    let inside : number < length start = mod-lt child.place c.requires.some in
    let within : number < length members = omega (arith, inside, c.loop-next.auto.members) in
    let mid : Member g.row.K.Denot = record { worker = was.worker; deque = c.put.new.self; doors = was.doors } in
    let now : List (Member g.row.K.Denot) = set members number mid in
    let node = c.in-Some.node in
    let same : c.put.new.self ≡ was.deque = c.in-Some.ensures.1 in
    let one = refused problem word (node ∷ rest) members number d c.put.new.self within inv.did.workers same in
    let e = c.index-members-0.result in
    let some : 0 < length now = omega (arith, c.requires.some, c.loop-next.auto.members, length-set members number mid) in
    let went = c.close_next.ensures.went in
    let first : Member g.row.K.Denot = get_or now 0 e in
    let last : Member g.row.K.Denot = record { worker = c.close_next.new.worker; deque = first.deque; doors = first.doors } in
    let two = all_call problem word node rest went.0 now 0 e last some one.workers went.2 (sym went.1) refl refl in
    let both = subst (λ n. AllDid problem word (n ∷ rest) rest members (set now 0 last)) c.in-Some.ensures.0 (all_more problem word (node ∷ rest) (node ∷ rest) rest members now (set now 0 last) one two) in
    record {
      did = last_done problem word children count _ start members (set now 0 last) (omega (arith, c.loop-next-test.true)) c.loop-next.auto.next inv.did both;
      same = shapes_set now 0 e last refl ∙ (shapes_set members number d mid (ap (λ (end : EndState). ((end.deque, end.hand.parts), doors_of was)) same) ∙ inv.same);
      tray = c.close_next.ensures.tray ∙ inv.tray;
    }

pub loop-next-preserved : goal.loop-next-preserved
loop-next-preserved g c =
    let problem = c.args.problem.now in
    let word = c.args.best.now in
    let children = c.args.children.now in
    let count = c.loop-next.next in
    let child = get_or children (count - 1) blank_child in
    let rest = child_nodes (take (count - 1) children) in
    let start = c.args.members.now in
    let members = c.loop-next.members in
    let inv = c.loop-next.invariant in
    let number = child.place % length start in
    let d = c.index-members-child.result in
    let was : Member g.row.K.Denot = get_or members number d in
    let inside : number < length start = mod-lt child.place c.requires.some in
    let within : number < length members = omega (arith, inside, c.loop-next.auto.members) in
    let mid : Member g.row.K.Denot = record { worker = was.worker; deque = c.put.new.self; doors = was.doors } in
    let more : c.put.new.self ≡ put_more was.deque (child.node ∷ []) = c.in_default.ensures in
    let one = dealt problem word child.node rest members number d c.put.new.self within inv.did.workers more in
    record {
      did = last_done problem word children count _ start members (set members number mid) (omega (arith, c.loop-next-test.true)) c.loop-next.auto.next inv.did one;
      same = shapes_set members number d mid (ap (λ (end : EndState). ((end.deque, end.hand.parts), doors_of was)) more) ∙ inv.same;
      tray = inv.tray;
    }
