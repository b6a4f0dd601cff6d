use Rattle.std.proofs.Common.{[], ◌∷◌, ◌++◌, ap, arith, sym, ◌∙◌}
use Rattle.std.proofs.lemmas.List.{append-nil, append_assoc}
use Rattle.ivp_pool.proofs.Rows.{absorbed_start, step_at, step_next}
use Rattle.ivp_pool.proofs.setup.take_row.Goals as goal

pub loop-door-init : goal.loop-door-init
loop-door-init g c = record { gone = []; row = sym (append-nil c.args.row.items); members = sym (absorbed_start c.args.row.items c.args.members.now) }

pub absorb-requires : goal.absorb-requires
absorb-requires g c =
    let inv = c.loop-door.invariant in
    step_at c.pop.new.self.items inv.gone c.args.row.items c.loop-door.row.items c.in-Some.door c.args.members.now c.loop-door.members c.len.result c.index-members-len.result inv.row c.in-Some.ensures.items inv.members (omega (arith, c.len.ensures, c.pop.new.self.ok.0)) c.requires

pub loop-door-preserved : goal.loop-door-preserved
loop-door-preserved g c =
    let inv = c.loop-door.invariant in
    let rest = c.pop.new.self.items in
    record {
      gone = c.in-Some.door ∷ inv.gone;
      row = inv.row ∙ (ap (λ xs. xs ++ inv.gone) c.in-Some.ensures.items ∙ append_assoc rest (c.in-Some.door ∷ []) inv.gone);
      members = step_next rest inv.gone c.args.row.items c.loop-door.row.items c.in-Some.door c.absorb.new.self c.args.members.now c.loop-door.members c.len.result c.index-members-len.result inv.row c.in-Some.ensures.items inv.members (omega (arith, c.len.ensures, c.pop.new.self.ok.0)) c.requires c.absorb.ensures;
    }
