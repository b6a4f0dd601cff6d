use Rattle.std.proofs.Common.{◌∙◌, if◌then◌else◌, bytes_eq, rules, Some}
use Rattle.helm_cond.proofs.Tables.{value_at, value_set}
use Rattle.helm_cond.proofs.info.Info.set.Goals as goal

pub returns-in-Some-clause-ok : goal.returns-in-Some-clause-ok
returns-in-Some-clause-ok c =
    let set = (c.get_mut.follows.holds c.args.value).3 (search rules) in
    value_set (λ key. key.items) c.args.var.now c.args.value c.args.self.now.table.entries _ set.3 set.1

pub returns-clause-ok : goal.returns-clause-ok
returns-clause-ok c other =
    let set = c.in_ok-insert.ensures.updates in
    value_set (λ key. key.items) c.in_ok-var.var.items c.args.value c.get_mut.follows.lender-at-none.entries _ set.3 set.1 other
    ∙ (λ i. if bytes_eq other (c.in_ok-var.ensures.items i) then Some c.args.value else value_at (λ key. key.items) other (c.get_mut.follows.holds-at-none i).entries)
