use Rattle.std.proofs.Common.{◌≡◌, ◌∙◌, ◌∷◌, ◌++◌, ◌+◌, ◌<◌, List, [], Some, ap, arith, length, map, slice_get, subst, suc, sym, take}
use Rattle.std.specs.List.{All}
use Rattle.std.proofs.lemmas.List.{map-append, take_all}
use Rattle.std.proofs.lemmas.List.Elements.{All-append, All-cons, All-nil, All-weaker}
use Rattle.std.proofs.lemmas.Option.{slice_get-get_or}
use Rattle.moos_post.specs.declared.registration.Reg.{Reg}
use Rattle.moos_mail.proofs.Lists.{take-next}
use Rattle.moos_db.specs.Registering.{HasRoomThrough, variable_names, prepared_of}
use Rattle.moos_db.proofs.AfterRegistering.{roomier-names, roomier-same, roomier-then, room-kept}
use Rattle.moos_db.proofs.registering.prepare_all.Goals as goal

pub loop-reg-init : goal.loop-reg-init
loop-reg-init c = record {
  each = c.new-all.ensures.items;
  roomier = roomier-same c.args.variables.now;
  room = All-nil (λ (reg : Reg). HasRoomThrough (length c.args.regs.now) reg.var c.args.variables.now.all);
}

pub returns-in_err-one-clause-roomier : goal.returns-in_err-one-clause-roomier
returns-in_err-one-clause-roomier c = roomier-then c.args.variables.now c.loop-reg.variables c.prepare.new.variables c.loop-reg.invariant.roomier c.prepare.ensures.roomier

pub returns-in_err-push-clause-roomier : goal.returns-in_err-push-clause-roomier
returns-in_err-push-clause-roomier c = roomier-then c.args.variables.now c.loop-reg.variables c.prepare.new.variables c.loop-reg.invariant.roomier c.prepare.ensures.roomier

pub loop-reg-preserved : goal.loop-reg-preserved
loop-reg-preserved c =
    let regs : List Reg = c.args.regs.now in
    let k = c.loop-reg.reg-index in
    let reg : Reg = c.reg-item.result in
    let names = variable_names c.args.variables.now.all in
    let prepared = prepared_of c.args.client c.args.made names in
    let old = c.loop-reg.variables in
    let new = c.prepare.new.variables in
    let fits = λ (reg : Reg). HasRoomThrough (length regs) reg.var new.all in
    let same : variable_names old.all ≡ names = roomier-names c.args.variables.now.all old.all c.loop-reg.invariant.roomier.all in
    let below : k < length regs = omega (arith, c.loop-reg-test.true) in
    let there : slice_get regs k ≡ Some reg = slice_get-get_or regs k reg below ∙ ap (λ x. Some x) (sym c.reg-item.is) in
    let next : k + 1 ≡ suc k = omega arith in
    let more : take (k + 1) regs ≡ take k regs ++ reg ∷ [] = ap (λ n. take n regs) next ∙ take-next regs k reg there in
    record {
      each =
          c.in_ok-push.ensures.items
          ∙ ap (λ all. all ++ c.in_ok-one.one ∷ []) c.loop-reg.invariant.each
          ∙ ap (λ one. map prepared (take k regs) ++ one ∷ []) (c.in_ok-one.ensures.one ∙ ap (λ names. prepared_of c.args.client c.args.made names reg) same)
          ∙ sym (map-append prepared (take k regs) (reg ∷ []))
          ∙ ap (map prepared) (sym more);
      roomier = roomier-then c.args.variables.now old new c.loop-reg.invariant.roomier c.prepare.ensures.roomier;
      room =
          subst (All fits) (sym more)
          (All-append fits (take k regs) (reg ∷ [])
          (All-weaker (λ (reg : Reg). HasRoomThrough (length regs) reg.var old.all) fits (λ reg. room-kept (length regs) reg.var old.all new.all c.prepare.ensures.roomier.all) (take k regs) c.loop-reg.invariant.room)
          (All-cons fits reg [] c.in_ok-one.ensures.room (All-nil fits)));
    }

pub returns-clause-each : goal.returns-clause-each
returns-clause-each c =
    let regs : List Reg = c.args.regs.now in
    c.loop-reg.invariant.each ∙ ap (map (prepared_of c.args.client c.args.made (variable_names c.args.variables.now.all))) (take_all c.loop-reg.reg-index regs (omega (arith, c.loop-reg-test.false)))

pub returns-clause-roomier : goal.returns-clause-roomier
returns-clause-roomier c = c.loop-reg.invariant.roomier

pub returns-clause-room : goal.returns-clause-room
returns-clause-room c =
    let regs : List Reg = c.args.regs.now in
    subst (All (λ (reg : Reg). HasRoomThrough (length regs) reg.var c.loop-reg.variables.all)) (take_all c.loop-reg.reg-index regs (omega (arith, c.loop-reg-test.false))) c.loop-reg.invariant.room
