use Rattle.std.proofs.Common.{◌≡◌, ◌∙◌, ◌≤◌, ◌+◌, ◌∷◌, ◌++◌, List, [], ap, append-nil, append_assoc, arith, fold, length, length-append, refl, slice_get, Some, subst, sym}
use Rattle.std.specs.List.{All}
use Rattle.moos_mail.proofs.Lists.{found-below, length-push}
use Rattle.moos_db.specs.Clients.{ClientState}
use Rattle.moos_db.specs.Subscriptions.{AreKeptAs, with_lives}
use Rattle.moos_db.specs.Registering.{AreStill, IsPrepared, PreparedState, with_prepared}
use Rattle.moos_db.proofs.AfterRegistering.{all-middle}
use Rattle.moos_db.proofs.Changes.{all-same}
use Rattle.moos_db.proofs.Making.{kept-next, ready-next, still-more, still-none}
use Rattle.moos_db.proofs.registering.make_all.Goals as goal

pub loop-one-init : goal.loop-one-init
loop-one-init c = record {
  next = tt;
  finite = tt;
  rest = c.into_iter-one-iterator.ensures.into_iter_gives.0;
  kept = λ inboxes posts are. subst (λ now. AreKeptAs now posts c.args.variables.now c.args.clients.now.items) (sym (all-same c.args.client (λ inbox. inbox) inboxes inboxes refl (λ n apart. refl))) are;
  still = still-none c.args.variables.now c.args.clients.now.items;
  noted = refl;
}

parted : (all rest whole left : List PreparedState) (one : PreparedState) → all ++ rest ≡ whole → rest ≡ one ∷ left → all ++ one ∷ left ≡ whole
parted all rest whole left one split next = ap (λ more. all ++ more) (sym next) ∙ split

count : (all whole left : List PreparedState) (one : PreparedState) → all ++ one ∷ left ≡ whole → length all + 1 ≤ length whole
count all whole left one split = omega (arith, ap length (sym split), length-append all (one ∷ left))

pub make-requires-clause-ready : goal.make-requires-clause-ready
make-requires-clause-ready c =
    let one : PreparedState = c.in-Some.one in
    let whole = c.args.all.items in
    let left = c.next.new.self.rest.items in
    let split : c.loop-one.yielded ++ one ∷ left ≡ whole = parted c.loop-one.yielded c.loop-one.one-iterator.rest.items whole left one c.loop-one.invariant.rest c.in-Some.ensures.steps.0 in
    let ready = IsPrepared c.args.client (length whole) c.args.variables.now.all in
    ready-next c.args.client (length whole) (length c.loop-one.yielded) c.args.variables.now.all c.loop-one.variables.all one
    (all-middle ready c.loop-one.yielded one left (subst (All ready) (sym split) c.requires.ready)) c.loop-one.invariant.still.variables (count c.loop-one.yielded whole left one split)

pub make-requires-clause-room : goal.make-requires-clause-room
make-requires-clause-room c =
    let one : PreparedState = c.in-Some.one in
    let whole = c.args.all.items in
    let left = c.next.new.self.rest.items in
    let split : c.loop-one.yielded ++ one ∷ left ≡ whole = parted c.loop-one.yielded c.loop-one.one-iterator.rest.items whole left one c.loop-one.invariant.rest c.in-Some.ensures.steps.0 in
    let ready = c.loop-one.invariant.still.clients in
    λ state there.
    let had : (x : ClientState) × (slice_get c.args.clients.now.items c.args.client ≡ Some x) = found-below c.args.clients.now.items c.args.client c.requires.within in
    omega (arith, c.requires.room had.0 had.1, (ready.same c.args.client had.0 state had.1 there).room, count c.loop-one.yielded whole left one split)

pub loop-one-preserved : goal.loop-one-preserved
loop-one-preserved c =
    let one : PreparedState = c.in-Some.one in
    let whole = c.args.all.items in
    let left = c.next.new.self.rest.items in
    let split : c.loop-one.yielded ++ one ∷ left ≡ whole = parted c.loop-one.yielded c.loop-one.one-iterator.rest.items whole left one c.loop-one.invariant.rest c.in-Some.ensures.steps.0 in
    let longer : length c.loop-one.yielded + 1 ≡ length (c.loop-one.yielded ++ one ∷ []) = omega (arith, length-push c.loop-one.yielded one) in
    record {
      next = tt;
      finite = tt;
      rest = append_assoc c.loop-one.yielded (one ∷ []) left ∙ split;
      kept = λ inboxes posts are.
          kept-next c.args.client c.loop-one.yielded one c.loop-one.variables c.make.new.variables c.loop-one.clients.items c.make.new.clients.items inboxes posts c.make.ensures.kept (c.loop-one.invariant.kept inboxes posts are);
      still =
          subst (λ n. AreStill n c.args.variables.now c.make.new.variables c.args.clients.now.items c.make.new.clients.items) longer
          (still-more (length c.loop-one.yielded) c.args.variables.now c.loop-one.variables c.make.new.variables c.args.clients.now.items c.loop-one.clients.items c.make.new.clients.items c.loop-one.invariant.still c.make.ensures.still);
      noted = c.make.ensures.noted ∙ c.loop-one.invariant.noted;
    }

all-made : (all rest whole : List PreparedState) → all ++ rest ≡ whole → length rest ≡ 0 → all ≡ whole
all-made all [] whole split none = sym (append-nil all) ∙ split
all-made all (one ∷ rest) whole split none = absurd (omega arith)

pub returns-clause-kept : goal.returns-clause-kept
returns-clause-kept c =
    let none : length c.loop-one.one-iterator.rest.items ≡ 0 = omega (arith, c.in-None.ensures.steps.0) in
    let same : c.loop-one.yielded ≡ c.args.all.items = all-made c.loop-one.yielded c.loop-one.one-iterator.rest.items c.args.all.items c.loop-one.invariant.rest none in
    λ inboxes posts are.
    subst (λ all. AreKeptAs (with_lives c.args.client (λ lives. fold with_prepared lives all) inboxes) posts c.loop-one.variables c.loop-one.clients.items) same (c.loop-one.invariant.kept inboxes posts are)
