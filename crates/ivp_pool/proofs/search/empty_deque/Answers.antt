use Rattle.std.proofs.Common.{◌<◌, List, [], ◌∷◌, get_or, length, set, arith, refl, sym, ap, ◌∙◌, subst}
use Rattle.std.proofs.lemmas.Bool.{false≢true}
use Rattle.std.proofs.lemmas.List.{length-set}
use Rattle.ivp_pool.specs.declared.team.Member.{Member}
use Rattle.std.specs.Option.{IsSome}
use Rattle.ivp_pool.specs.Hands.{EndState, IsSettled}
use Rattle.ivp_pool.specs.Teams.{deque_states, HasEmptied}
use Rattle.ivp_pool.proofs.Whole.{all_call, all_more, all_none, emptied, emptying_more, emptying_none, end_at, ends_len, ends_same, ends_set, rows_set, taken_out}
use Rattle.ivp_pool.proofs.search.empty_deque.Goals as goal
use Rattle.ivp_pool.proofs.search.empty_deque.Goals.{in-None, in-Some+in-None-pop}

pub loop-init : goal.loop-init
loop-init g c =
    record {
      did = all_none c.args.problem.now c.args.best.now [] c.args.members.now c.requires.workers;
      rows = refl;
      ends = emptying_none c.args.number (deque_states c.args.members.now) (omega (arith, c.requires.number, ends_len c.args.members.now));
      tray = refl;
    }

pub loop-preserved : goal.loop-preserved
loop-preserved g c =
    let problem = c.args.problem.now in
    let word = c.args.best.now in
    let number = c.args.number in
    let start = c.args.members.now in
    let members = c.loop.members in
    let inv = c.loop.invariant in
    let d = c.index-members-number.result in
    let was : Member g.row.K.Denot = get_or members number d in
    let node = c.in-Some-pop.node in
    let within : number < length members = omega (arith, c.requires.number, inv.did.len) in
    let mid : Member g.row.K.Denot = record { worker = was.worker; deque = c.pop.new.self; doors = was.doors } in
    let now : List (Member g.row.K.Denot) = set members number mid in
    let e = c.index-members-0.result in
    let first : Member g.row.K.Denot = get_or now 0 e in
    let last : Member g.row.K.Denot = record { worker = c.close_next.new.worker; deque = first.deque; doors = first.doors } in
    let some : 0 < length now = omega (arith, within, length-set members number mid) in
    let taken = c.in-Some-pop.ensures.1 in
    let went = c.close_next.ensures.went in
    let one = taken_out problem word node [] members number d c.pop.new.self within inv.did.workers taken in
    let two = all_call problem word node [] went.0 now 0 e last some one.workers went.2 (sym went.1) refl refl in
    record {
      did = all_more problem word [] [] [] start members (set now 0 last) inv.did (all_more problem word [] (node ∷ []) [] members now (set now 0 last) one two);
      rows = rows_set now 0 e last refl ∙ (rows_set members number d mid refl ∙ inv.rows);
      ends = emptying_more number (deque_states start) (deque_states members) (deque_states (set now 0 last)) c.pop.new.self d.deque (omega (arith, c.requires.number, ends_len start)) inv.ends (ends_same now 0 e last refl ∙ ends_set members number mid)
          (ap (λ (end : EndState). end.hand.parts) taken ∙ ap (λ (end : EndState). end.hand.parts) (sym (end_at members number d within)));
      tray = c.close_next.ensures.tray ∙ inv.tray;
    }

pub returns-clause-empty : goal.returns-clause-empty
returns-clause-empty g c =
    let number = c.args.number in
    let start = c.args.members.now in
    let members = c.loop.members in
    let inv = c.loop.invariant in
    elim c.match-next.branch [
      | in-None w ↦ absurd (false≢true (subst IsSome w.in-None.is c.next.ensures.steps))
      | in-Some+in-None-pop w ↦
          let d = w.index-members-number.result in
          let was : Member g.row.K.Denot = get_or members number d in
          let mid : Member g.row.K.Denot = record { worker = was.worker; deque = w.pop.new.self; doors = was.doors } in
          let within : number < length members = omega (arith, c.requires.number, inv.did.len) in
          let none = w.in-None-pop.ensures in
          subst (HasEmptied number (deque_states start)) (sym (ap deque_states w.members-is ∙ ends_same members number d mid none.0))
          (emptied number (deque_states start) (deque_states members) d.deque (omega (arith, c.requires.number, ends_len start)) inv.ends (subst (λ (end : EndState). IsSettled end.hand) (sym (end_at members number d within)) none.1))
    ]

pub close_next-requires-clause-worker : goal.close_next-requires-clause-worker
close_next-requires-clause-worker g c κs within =
    let members = c.loop.members in
    let inv = c.loop.invariant in
    let here : c.args.number < length members = omega (arith, c.requires.number, inv.did.len) in
    let one = taken_out c.args.problem.now c.args.best.now c.in-Some-pop.node [] members c.args.number c.index-members-number.result c.pop.new.self here inv.did.workers c.in-Some-pop.ensures.1 in
    one.workers 0 c.index-members-0.result (omega (arith, here, one.len))
