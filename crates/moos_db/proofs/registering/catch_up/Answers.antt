use Rattle.std.proofs.Common.{◌≡◌, ◌∙◌, ◌<◌, ◌≤◌, ℕ, List, arith, fold, get_or, length, refl, slice_get, Some, subst, sym}
use Rattle.std.proofs.lemmas.List.{take_all}
use Rattle.std.proofs.lemmas.Option.{slice_get-get_or}
use Rattle.moos_mail.proofs.Lists.{found-below}
use Rattle.moos_post.specs.History.{posts_of}
use Rattle.moos_db.specs.Clients.{ClientState}
use Rattle.moos_db.specs.Subscriptions.{AreKeptAs, with_inbox}
use Rattle.moos_db.specs.Registering.{catch_number}
use Rattle.moos_db.proofs.Caught.{catch-next}
use Rattle.moos_db.proofs.Changes.{all-same}
use Rattle.moos_db.proofs.registering.catch_up.Goals as goal

pub loop-number-init : goal.loop-number-init
loop-number-init c = record {
  kept = λ inboxes at are. subst (λ now. AreKeptAs now (posts_of c.args.log.now.entries) c.args.variables.now c.args.clients.now.items) (sym (all-same c.args.client (λ inbox. inbox) inboxes inboxes refl (λ n apart. refl))) are;
  noted = c.requires.noted;
  each = refl;
  room = λ one there. let h : length c.args.latest.now ≤ one.spare = c.requires.room one there in omega arith;
}

pub loop-number-preserved : goal.loop-number-preserved
loop-number-preserved c =
    let latest : List ℕ = c.args.latest.now in
    let k = c.loop-number.number-index in
    let number : ℕ = get_or latest k 0 in
    let below : k < length latest = omega (arith, c.loop-number-test.true) in
    let there : slice_get latest k ≡ Some number = slice_get-get_or latest k 0 below in
    let client = c.args.client in
    let inv = c.loop-number.invariant in
    record {
      kept = λ inboxes at are.
          catch-next c.args.names.now (posts_of c.args.log.now.entries) client c.args.made number k latest c.loop-number.variables c.catch_one.new.variables c.loop-number.clients.items c.catch_one.new.clients.items inboxes there
          c.catch_one.ensures.kept at (inv.kept inboxes at are);
      noted = c.catch_one.ensures.noted;
      each = c.catch_one.ensures.each ∙ inv.each;
      room = λ one is.
          let had : (x : ClientState) × (slice_get c.loop-number.clients.items client ≡ Some x) = found-below c.loop-number.clients.items client (omega (arith, inv.each, c.requires.within)) in
          omega (arith, inv.room had.0 had.1, c.catch_one.ensures.room had.0 one had.1 is);
    }

pub returns-clause-kept : goal.returns-clause-kept
returns-clause-kept c =
    let latest : List ℕ = c.args.latest.now in
    let posts = posts_of c.args.log.now.entries in
    λ inboxes at are.
    subst (λ list. AreKeptAs (with_inbox c.args.client (λ one. fold (catch_number c.args.names.now posts) one list) inboxes) posts c.loop-number.variables c.loop-number.clients.items)
    (take_all c.loop-number.number-index latest (omega (arith, c.loop-number-test.false)))
    (c.loop-number.invariant.kept inboxes at are)
