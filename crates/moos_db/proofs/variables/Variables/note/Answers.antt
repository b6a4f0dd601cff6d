use Rattle.std.proofs.Common.{◌∙◌, ◌++◌, ◌∷◌, [], ap, length, sym, subst}
use Rattle.moos_db.specs.Subscriptions.{HearBelow, AreNoted, AreNumbers, AreReady, VariablesState, name_at}
use Rattle.moos_db.proofs.Adding.{may-add-below, may-add-noted, may-add-ready, noted-more, numbers-noted, ready-noted}
use Rattle.moos_db.proofs.variables.Variables.note.Goals as goal

pub returns-in_err-number-clause-ready : goal.returns-in_err-number-clause-ready
returns-in_err-number-clause-ready c inboxes posts ready = may-add-ready inboxes posts c.args.clients.now c.args.self.now c.number_for.new.self c.args.var.now c.number_for.ensures.added c.number_for.ensures.numbering ready

pub returns-in_err-push-clause-ready : goal.returns-in_err-push-clause-ready
returns-in_err-push-clause-ready c inboxes posts ready =
    let inside : VariablesState = record { all = c.self.inside.all.items; numbers = c.self.inside.numbers; noted = c.self.inside.noted.items } in
    subst (λ variables. AreReady inboxes posts variables c.args.clients.now) (sym c.self.view_is ∙ ap (λ noted. record inside { noted = noted }) (sym c.in_err-push.ensures.items))
    (may-add-ready inboxes posts c.args.clients.now c.args.self.now c.number_for.new.self c.args.var.now c.number_for.ensures.added c.number_for.ensures.numbering ready)

pub returns-in_err-push-clause-below : goal.returns-in_err-push-clause-below
returns-in_err-push-clause-below c below =
    subst (λ (variables : VariablesState). HearBelow (length c.args.clients.now) variables.all) (sym c.self.view_is)
    (may-add-below c.args.clients.now c.args.self.now c.number_for.new.self c.args.var.now c.number_for.ensures.added below)

pub invariant_of-self-2 : goal.invariant_of-self-2
invariant_of-self-2 c =
    let inside : VariablesState = record { all = c.self.inside.all.items; numbers = c.self.inside.numbers; noted = c.self.inside.noted.items } in
    subst (λ noted. AreNumbers (record inside { noted = noted })) (sym c.in_ok-push.ensures.items)
    (numbers-noted inside c.in_ok-number.number c.args.var.now c.self.invariant (ap (λ (variables : VariablesState). name_at variables.all c.in_ok-number.number) c.self.view_is ∙ c.in_ok-number.ensures.number))

pub returns-clause-noted : goal.returns-clause-noted
returns-clause-noted c vars noted =
    let inside : VariablesState = record { all = c.self.inside.all.items; numbers = c.self.inside.numbers; noted = c.self.inside.noted.items } in
    let before : AreNoted vars inside = subst (AreNoted vars) (sym c.self.view_is) (may-add-noted c.args.clients.now c.args.self.now c.number_for.new.self c.args.var.now vars c.number_for.ensures.added noted) in
    subst (λ noted. AreNoted (vars ++ c.args.var.now ∷ []) (record inside { noted = noted })) (sym c.in_ok-push.ensures.items)
    (noted-more inside vars c.in_ok-number.number c.args.var.now before (ap (λ (variables : VariablesState). name_at variables.all c.in_ok-number.number) c.self.view_is ∙ c.in_ok-number.ensures.number))

pub returns-clause-below : goal.returns-clause-below
returns-clause-below c below =
    subst (λ (variables : VariablesState). HearBelow (length c.args.clients.now) variables.all) (sym c.self.view_is)
    (may-add-below c.args.clients.now c.args.self.now c.number_for.new.self c.args.var.now c.number_for.ensures.added below)

pub returns-clause-ready : goal.returns-clause-ready
returns-clause-ready c inboxes posts ready =
    let inside : VariablesState = record { all = c.self.inside.all.items; numbers = c.self.inside.numbers; noted = c.self.inside.noted.items } in
    subst (λ noted. AreReady inboxes posts (record inside { noted = noted }) c.args.clients.now) (sym c.in_ok-push.ensures.items)
    (ready-noted inboxes posts c.args.clients.now inside c.in_ok-number.number
    (subst (λ variables. AreReady inboxes posts variables c.args.clients.now) (sym c.self.view_is)
    (may-add-ready inboxes posts c.args.clients.now c.args.self.now c.number_for.new.self c.args.var.now c.number_for.ensures.added c.number_for.ensures.numbering ready)))
