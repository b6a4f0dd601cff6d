use Rattle.std.proofs.Common.{◌≡◌, ◌∙◌, ◌<◌, Some, ap, length, refl, set, slice_get, sym, subst, arith, vec_capacity, vec_len, ◌-◌}
use Rattle.std.specs.List.{All}
use Rattle.std.proofs.lemmas.Option.{slice_get_read}
use Rattle.moos_db.specs.Subscriptions.{HasRoom, HaveMarks, IsPosted, VariableState, VariablesState}
use Rattle.moos_db.proofs.AfterRegistering.{numbers-kept, set-names}
use Rattle.moos_db.proofs.Changes.{all-at}
use Rattle.moos_db.proofs.variables.Variables.mail.Goals as goal

pub mail_to-requires-clause-room : goal.mail_to-requires-clause-room
mail_to-requires-clause-room c =
    let number = c.args.number in
    let inside : VariablesState = record { all = c.self.inside.all.items; numbers = c.self.inside.numbers; noted = c.self.inside.noted.items } in
    let within : number < length inside.noted = subst (λ (variables : VariablesState). number < length variables.noted) (sym c.self.view_is) c.requires.noted in
    let found : slice_get inside.noted number ≡ Some c.index.result.now = slice_get_read inside.noted (length inside.noted) number c.index.result.now refl within c.index.ensures in
    let numbered : c.index.result.now < length inside.all = subst (λ n. n < length inside.all) (sym c.index.ensures) (c.self.invariant.noted number c.index.result.now within) in
    let there : slice_get inside.all c.index.result.now ≡ Some c.index_mut-variable.result.now = slice_get_read inside.all (length inside.all) c.index.result.now c.index_mut-variable.result.now refl numbered c.index_mut-variable.ensures.value in
    let room : All (HasRoom c.args.clients.now.items 1) c.index_mut-variable.result.now.subscriptions =
    c.requires.room number c.index.result.now c.index_mut-variable.result.now (omega arith) (ap (λ (variables : VariablesState). slice_get variables.noted number) (sym c.self.view_is) ∙ found)
    (ap (λ (variables : VariablesState). slice_get variables.all c.index.result.now) (sym c.self.view_is) ∙ there) in
    subst (λ (variable : VariableState). All (HasRoom c.args.clients.now.items 1) variable.subscriptions) (sym c.variable.view_is) room

pub mail_to-requires-clause-marks : goal.mail_to-requires-clause-marks
mail_to-requires-clause-marks c =
    let number = c.args.number in
    let inside : VariablesState = record { all = c.self.inside.all.items; numbers = c.self.inside.numbers; noted = c.self.inside.noted.items } in
    let within : number < length inside.noted = subst (λ (variables : VariablesState). number < length variables.noted) (sym c.self.view_is) c.requires.noted in
    let numbered : c.index.result.now < length inside.all = subst (λ n. n < length inside.all) (sym c.index.ensures) (c.self.invariant.noted number c.index.result.now within) in
    let there : slice_get inside.all c.index.result.now ≡ Some c.index_mut-variable.result.now = slice_get_read inside.all (length inside.all) c.index.result.now c.index_mut-variable.result.now refl numbered c.index_mut-variable.ensures.value in
    ap (λ (variable : VariableState). length variable.recipients) c.variable.view_is
    ∙ all-at (λ (variable : VariableState). length variable.recipients ≡ length c.args.clients.now.items) inside.all c.index.result.now c.index_mut-variable.result.now
    (subst (λ (variables : VariablesState). HaveMarks (length c.args.clients.now.items) variables.all) (sym c.self.view_is) c.requires.marks) there

pub invariant_of-self : goal.invariant_of-self
invariant_of-self c =
    let number = c.args.number in
    let inside : VariablesState = record { all = c.self.inside.all.items; numbers = c.self.inside.numbers; noted = c.self.inside.noted.items } in
    let within : number < length inside.noted = subst (λ (variables : VariablesState). number < length variables.noted) (sym c.self.view_is) c.requires.noted in
    let numbered : c.index.result.now < length inside.all = subst (λ n. n < length inside.all) (sym c.index.ensures) (c.self.invariant.noted number c.index.result.now within) in
    let there : slice_get inside.all c.index.result.now ≡ Some c.index_mut-variable.result.now = slice_get_read inside.all (length inside.all) c.index.result.now c.index_mut-variable.result.now refl numbered c.index_mut-variable.ensures.value in
    numbers-kept inside _ (set-names inside.all c.index.result.now c.index_mut-variable.result.now _ there (ap (λ (variable : VariableState). variable.name) c.variable.view_is)) refl refl c.self.invariant

pub returns : goal.returns
returns c =
    let number = c.args.number in
    let inside : VariablesState = record { all = c.self.inside.all.items; numbers = c.self.inside.numbers; noted = c.self.inside.noted.items } in
    let within : number < length inside.noted = subst (λ (variables : VariablesState). number < length variables.noted) (sym c.self.view_is) c.requires.noted in
    let found : slice_get inside.noted number ≡ Some c.index.result.now = slice_get_read inside.noted (length inside.noted) number c.index.result.now refl within c.index.ensures in
    let numbered : c.index.result.now < length inside.all = subst (λ n. n < length inside.all) (sym c.index.ensures) (c.self.invariant.noted number c.index.result.now within) in
    let there : slice_get inside.all c.index.result.now ≡ Some c.index_mut-variable.result.now = slice_get_read inside.all (length inside.all) c.index.result.now c.index_mut-variable.result.now refl numbered c.index_mut-variable.ensures.value in
    let variable : VariableState = record { name = c.variable.inside.name; latest = c.variable.inside.latest; recipients = c.variable.inside.recipients; subscriptions = c.variable.inside.subscriptions.items; room = vec_capacity c.variable.inside.subscriptions - vec_len c.variable.inside.subscriptions } in
    let room_left = vec_capacity c.mail_to.new.subscriptions - vec_len c.mail_to.new.subscriptions in
    let after : VariablesState = record inside { all = set inside.all c.index.result.now (record variable { latest = Some number; recipients = c.mail_to.new.recipients; subscriptions = c.mail_to.new.subscriptions.items; room = room_left }) } in
    subst (λ before. IsPosted number c.args.stamp c.args.source.now before after c.args.clients.now.items c.mail_to.new.clients.items) c.self.view_is (record {
      at = c.index.result.now;
      variable = variable;
      numbering = c.self.invariant.numbering;
      found = found;
      room = room_left;
      recipients = c.mail_to.new.recipients;
      there = there ∙ ap (λ one. Some one) (sym c.variable.view_is);
      all = ap (λ subscriptions. set inside.all c.index.result.now (record variable { latest = Some number; recipients = c.mail_to.new.recipients; subscriptions = subscriptions; room = room_left })) c.mail_to.ensures.heard;
      numbers = refl;
      noted = refl;
      mailed = c.mail_to.ensures.mailed;
      marked = c.mail_to.ensures.marked;
    })
