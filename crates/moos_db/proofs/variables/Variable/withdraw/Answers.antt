use Rattle.std.proofs.Common.{◌≡◌, ◌≤◌, ◌-◌, ◌∙◌, ap, filter, not, rules, subst, sym, true, vec_capacity, vec_len, arith, if◌then◌else◌}
use Rattle.std.proofs.lemmas.Fn.{filter_same}
use Rattle.moos_post.specs.Patterns.{matches}
use Rattle.moos_db.specs.Subscriptions.{VariableState, is_registration}
use Rattle.moos_db.specs.Withdrawing.{IsWithdrawn}
use Rattle.moos_db.proofs.variables.Variable.withdraw.Goals as goal

pub returns-then-matches : goal.returns-then-matches
returns-then-matches c =
    let before : VariableState
    = record { name = c.self.inside.name; latest = c.self.inside.latest; recipients = c.self.inside.recipients; subscriptions = c.self.inside.subscriptions.items; room = vec_capacity c.self.inside.subscriptions - vec_len c.self.inside.subscriptions } in
    let after : VariableState
    = record { name = c.self.inside.name; latest = c.self.inside.latest; recipients = c.self.inside.recipients; subscriptions = c.retain.new.self.items; room = vec_capacity c.retain.new.self - vec_len c.retain.new.self } in
    let left : c.retain.new.self.items ≡ filter (λ subscription. not (is_registration c.args.client c.args.var.now c.args.source.now subscription)) c.self.inside.subscriptions.items
    = filter_same _ (λ subscription. not (is_registration c.args.client c.args.var.now c.args.source.now subscription)) _ (λ x b f' k. search rules) _ _ c.retain.ensures.filtered in
    let matched : matches c.args.var.now c.self.inside.name ≡ true = search rules in
    subst (λ (one : VariableState). IsWithdrawn c.args.client c.args.var.now c.args.source.now one after) c.self.view_is
    (record {
      same = ap (λ subscriptions. record after { subscriptions = subscriptions }) left
          ∙ ap (λ b. record (if b then record before { subscriptions = filter (λ subscription. not (is_registration c.args.client c.args.var.now c.args.source.now subscription)) before.subscriptions } else before) { room = after.room }) (sym matched);
      room = let fewer : vec_len c.retain.new.self ≤ vec_len c.self.inside.subscriptions = c.retain.ensures.bound in
          let same : vec_capacity c.retain.new.self ≡ vec_capacity c.self.inside.subscriptions = c.retain.ensures.capacity in
          omega arith;
    })
