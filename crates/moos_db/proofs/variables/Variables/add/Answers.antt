use Rattle.std.proofs.Common.{◌≡◌, ◌∙◌, ◌++◌, ◌∷◌, [], List, None, ap, false, length, option_map, refl, rules, sym, subst, vec_capacity, vec_len, ◌-◌}
use Rattle.std.proofs.lemmas.List.{length-replicate}
use Rattle.moos_db.specs.Subscriptions.{AreNumbers, IsAdded, VariableState, VariablesState, name_at}
use Rattle.moos_db.specs.Tables.{GetsNumber, number_of}
use Rattle.moos_db.proofs.Adding.{numbers-added}
use Rattle.moos_db.proofs.Standing.{slice_get-seam}
use Rattle.moos_db.proofs.variables.Variables.add.Goals as goal

-- what was pushed stands behind the others
pushed-is : (all reserved pushed : List VariableState) (one other : VariableState) → pushed ≡ reserved ++ one ∷ [] → reserved ≡ all → one.name ≡ other.name → one.latest ≡ other.latest → one.recipients ≡ other.recipients → one.subscriptions ≡ other.subscriptions → one.room ≡ other.room → pushed ≡ all ++ other ∷ []
pushed-is all reserved pushed one other is same name latest recipients subscriptions room =
    is ∙ (λ i. same i ++ record { name = name i; latest = latest i; recipients = recipients i; subscriptions = subscriptions i; room = room i } ∷ [])

pub invariant_of-self-2 : goal.invariant_of-self-2
invariant_of-self-2 c =
    let new : VariableState = record { name = c.args.var.now; latest = None; recipients = c.in_ok-recipients.recipients; subscriptions = c.in_ok-subscriptions.subscriptions.items; room = vec_capacity c.in_ok-subscriptions.subscriptions - vec_len c.in_ok-subscriptions.subscriptions } in
    let before : VariablesState = record { all = c.self.inside.all.items; numbers = c.self.inside.numbers; noted = c.self.inside.noted.items } in
    let counted : vec_len c.self.inside.all ≡ length before.all = search rules in
    let unknown : number_of c.args.var.now before.numbers ≡ None = subst (λ variables. number_of c.args.var.now variables.numbers ≡ None) (sym c.self.view_is) c.requires.unknown in
    let all_is : c.push_reserved.new.self.items ≡ before.all ++ new ∷ [] =
    pushed-is before.all c.reserve.new.self.items c.push_reserved.new.self.items _ new c.push_reserved.ensures.items c.reserve.ensures.items c.in_ok-name.ensures refl refl refl refl in
    let numbered : GetsNumber c.args.var.now (length before.all) before.numbers c.set.new.self = subst (λ n. GetsNumber c.args.var.now n before.numbers c.set.new.self) (c.len-number.ensures ∙ counted) c.in_ok-set.ensures.ok in
    subst AreNumbers (λ i. record { all = sym all_is i; numbers = c.set.new.self; noted = before.noted }) (numbers-added before new c.set.new.self c.self.invariant unknown numbered)

pub returns-clause-number : goal.returns-clause-number
returns-clause-number c =
    let new : VariableState = record { name = c.args.var.now; latest = None; recipients = c.in_ok-recipients.recipients; subscriptions = c.in_ok-subscriptions.subscriptions.items; room = vec_capacity c.in_ok-subscriptions.subscriptions - vec_len c.in_ok-subscriptions.subscriptions } in
    let all : List VariableState = c.self.inside.all.items in
    let counted : vec_len c.self.inside.all ≡ length all = search rules in
    let all_is : c.push_reserved.new.self.items ≡ all ++ new ∷ [] =
    pushed-is all c.reserve.new.self.items c.push_reserved.new.self.items _ new c.push_reserved.ensures.items c.reserve.ensures.items c.in_ok-name.ensures refl refl refl refl in
    ap (λ list. name_at list c.len-number.result) all_is ∙ ap (name_at (all ++ new ∷ [])) (c.len-number.ensures ∙ counted)
    ∙ ap (option_map (λ (variable : VariableState). variable.name)) (slice_get-seam all new [])

pub returns-clause-added : goal.returns-clause-added
returns-clause-added c =
    let new : VariableState = record { name = c.args.var.now; latest = None; recipients = c.in_ok-recipients.recipients; subscriptions = c.in_ok-subscriptions.subscriptions.items; room = vec_capacity c.in_ok-subscriptions.subscriptions - vec_len c.in_ok-subscriptions.subscriptions } in
    let before : VariablesState = record { all = c.self.inside.all.items; numbers = c.self.inside.numbers; noted = c.self.inside.noted.items } in
    let counted : vec_len c.self.inside.all ≡ length before.all = search rules in
    let unknown : number_of c.args.var.now before.numbers ≡ None = subst (λ variables. number_of c.args.var.now variables.numbers ≡ None) (sym c.self.view_is) c.requires.unknown in
    let all_is : c.push_reserved.new.self.items ≡ before.all ++ new ∷ [] =
    pushed-is before.all c.reserve.new.self.items c.push_reserved.new.self.items _ new c.push_reserved.ensures.items c.reserve.ensures.items c.in_ok-name.ensures refl refl refl refl in
    let numbered : GetsNumber c.args.var.now (length before.all) before.numbers c.set.new.self = subst (λ n. GetsNumber c.args.var.now n before.numbers c.set.new.self) (c.len-number.ensures ∙ counted) c.in_ok-set.ensures.ok in
    subst (λ was. IsAdded c.args.clients.now c.args.var.now was (record { all = c.push_reserved.new.self.items; numbers = c.set.new.self; noted = c.self.inside.noted.items })) c.self.view_is (record {
      subscriptions = new.subscriptions;
      room = new.room;
      recipients = new.recipients;
      marked = ap length c.in_ok-recipients.ensures ∙ length-replicate _ false ∙ search rules;
      each = c.in_ok-subscriptions.ensures.each;
      within = c.in_ok-subscriptions.ensures.within;
      all = all_is;
      numbers = numbered;
      noted = refl;
    })
