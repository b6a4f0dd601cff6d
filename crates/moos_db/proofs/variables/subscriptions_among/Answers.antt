use Rattle.std.proofs.Common.{◌≡◌, ◌∙◌, ◌<◌, ◌+◌, ◌++◌, ap, arith, length, slice_get, Some, sym, take}
use Rattle.std.proofs.lemmas.Option.{slice_get-get_or}
use Rattle.moos_db.specs.Subscriptions.{VariableState}
use Rattle.moos_db.specs.Registering.{IsRoomier, heard_where, heard_through}
use Rattle.moos_db.proofs.AfterRegistering.{each-refl, rooms-set, roomier-names, roomier-self, roomier-set, through-next}
use Rattle.moos_db.proofs.variables.subscriptions_among.Goals as goal

pub loop-number-init : goal.loop-number-init
loop-number-init c = record {
  through = c.new-subscriptions.ensures.items;
  roomier = each-refl (λ n. IsRoomier) c.args.all.now.items (λ n x. roomier-self x);
  room = λ n variable below now matched. absurd (omega arith);
}

pub loop-number-preserved : goal.loop-number-preserved
loop-number-preserved c =
    let first = c.args.all.now.items in
    let old = c.loop-number.all.items in
    let k = c.loop-number.number in
    let one : VariableState = c.index_mut.result.now in
    let live = c.args.live.now.value in
    let client = c.args.client in
    let before = c.loop-number.invariant in
    let below : k < length old = omega (arith, c.loop-number-test.true, before.roomier.each) in
    let there : slice_get old k ≡ Some one = slice_get-get_or old k one below ∙ ap (λ x. Some x) (sym c.index_mut.ensures.value) in
    record {
      through =
          c.in_ok-hear_through.ensures.heard
          ∙ ap (λ subscriptions. subscriptions ++ heard_where client live k one.name) (before.through ∙ ap (λ names. heard_through client live 0 (take k names)) (sym (roomier-names first old before.roomier)))
          ∙ sym (through-next client live old k one there)
          ∙ ap (λ names. heard_through client live 0 (take (k + 1) names)) (roomier-names first old before.roomier);
      roomier = roomier-set first old k one c.hear_through.new.self before.roomier there c.hear_through.ensures.roomier;
      room = rooms-set live.reg.var c.args.room k old one c.hear_through.new.self there c.hear_through.ensures.roomier c.in_ok-hear_through.ensures.room before.room;
    }

pub returns-in_err-hear_through-clause-roomier : goal.returns-in_err-hear_through-clause-roomier
returns-in_err-hear_through-clause-roomier c =
    let old = c.loop-number.all.items in
    let k = c.loop-number.number in
    let one : VariableState = c.index_mut.result.now in
    let before = c.loop-number.invariant in
    let below : k < length old = omega (arith, c.loop-number-test.true, before.roomier.each) in
    let there : slice_get old k ≡ Some one = slice_get-get_or old k one below ∙ ap (λ x. Some x) (sym c.index_mut.ensures.value) in
    roomier-set c.args.all.now.items old k one c.hear_through.new.self before.roomier there c.hear_through.ensures.roomier

pub returns-clause-roomier : goal.returns-clause-roomier
returns-clause-roomier c = c.loop-number.invariant.roomier
