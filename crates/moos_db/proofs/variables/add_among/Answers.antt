use Rattle.std.proofs.Common.{◌≡◌, ◌∙◌, ◌∷◌, ◌<◌, ◌++◌, ℕ, List, [], ap, arith, append_assoc, length, Some, subst, sym}
use Rattle.std.specs.List.{All}
use Rattle.std.proofs.lemmas.Option.{slice_get-get_or}
use Rattle.moos_db.specs.Subscriptions.{VariableState}
use Rattle.moos_db.specs.Registering.{HaveRoomFor, Heard, IsAddedTo}
use Rattle.moos_db.proofs.AfterRegistering.{added-nobody, added-set, all-middle, each-refl, room-next}
use Rattle.moos_db.proofs.variables.add_among.Goals as goal

-- what was added, what is next and what is left
parted : (all rest whole left : List Heard) (one : Heard) → all ++ rest ≡ whole → rest ≡ one ∷ left → all ++ one ∷ left ≡ whole
parted all rest whole left one split next = ap (λ more. all ++ more) (sym next) ∙ split

within : (all left whole : List Heard) (one : Heard) (below below' : ℕ) → All (λ (heard : Heard). heard.0 < below) whole → all ++ one ∷ left ≡ whole → below' ≡ below → one.0 < below'
within all left whole one below below' each split same =
    let h : one.0 < below = all-middle (λ (heard : Heard). heard.0 < below) all one left (subst (λ list. All (λ (heard : Heard). heard.0 < below) list) (sym split) each) in omega arith

pub loop-number-init : goal.loop-number-init
loop-number-init c = record {
  next = tt;
  finite = tt;
  added = each-refl (IsAddedTo []) c.args.all.now.items (λ n x. added-nobody n x);
  rest = c.into_iter-number-iterator.ensures.into_iter_gives.0;
}

pub index_mut-requires : goal.index_mut-requires
index_mut-requires c =
    let heard : Heard = (c.in-Some.number, c.in-Some.subscription) in
    let left = c.next.new.self.rest.items in
    let split : c.loop-number.yielded ++ heard ∷ left ≡ c.args.subscriptions.items
    = parted c.loop-number.yielded c.loop-number.number-iterator.rest.items c.args.subscriptions.items left heard c.loop-number.invariant.rest c.in-Some.ensures.steps.0 in
    let below : c.in-Some.number < length c.loop-number.all.items
    = within c.loop-number.yielded left c.args.subscriptions.items heard (length c.args.all.now.items) (length c.loop-number.all.items) c.requires.within split c.loop-number.invariant.added.each in
    omega (arith, below)

pub add-requires : goal.add-requires
add-requires c =
    let one : VariableState = c.index_mut.result.now in
    let heard : Heard = (c.in-Some.number, c.in-Some.subscription) in
    let left = c.next.new.self.rest.items in
    let split : c.loop-number.yielded ++ heard ∷ left ≡ c.args.subscriptions.items
    = parted c.loop-number.yielded c.loop-number.number-iterator.rest.items c.args.subscriptions.items left heard c.loop-number.invariant.rest c.in-Some.ensures.steps.0 in
    let below : c.in-Some.number < length c.loop-number.all.items
    = within c.loop-number.yielded left c.args.subscriptions.items heard (length c.args.all.now.items) (length c.loop-number.all.items) c.requires.within split c.loop-number.invariant.added.each in
    room-next c.args.all.now.items c.loop-number.all.items c.loop-number.yielded c.in-Some.number c.in-Some.subscription left one
    (subst (λ list. HaveRoomFor list c.args.all.now.items) (sym split) c.requires.room) c.loop-number.invariant.added
    (slice_get-get_or c.loop-number.all.items c.in-Some.number one below ∙ ap (λ x. Some x) (sym c.index_mut.ensures.value))

pub loop-number-preserved : goal.loop-number-preserved
loop-number-preserved c =
    let one : VariableState = c.index_mut.result.now in
    let heard : Heard = (c.in-Some.number, c.in-Some.subscription) in
    let left = c.next.new.self.rest.items in
    let split : c.loop-number.yielded ++ heard ∷ left ≡ c.args.subscriptions.items
    = parted c.loop-number.yielded c.loop-number.number-iterator.rest.items c.args.subscriptions.items left heard c.loop-number.invariant.rest c.in-Some.ensures.steps.0 in
    let below : c.in-Some.number < length c.loop-number.all.items
    = within c.loop-number.yielded left c.args.subscriptions.items heard (length c.args.all.now.items) (length c.loop-number.all.items) c.requires.within split c.loop-number.invariant.added.each in
    record {
      next = tt;
      finite = tt;
      added =
          added-set c.args.all.now.items c.loop-number.all.items c.loop-number.yielded c.in-Some.number c.in-Some.subscription one c.add.new.self c.loop-number.invariant.added
          (slice_get-get_or c.loop-number.all.items c.in-Some.number one below ∙ ap (λ x. Some x) (sym c.index_mut.ensures.value))
          c.add.ensures.same c.add.ensures.room;
      rest = append_assoc c.loop-number.yielded (heard ∷ []) left ∙ split;
    }
