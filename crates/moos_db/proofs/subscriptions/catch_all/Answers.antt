use Rattle.std.proofs.Common.{◌≡◌, ◌+◌, ◌∙◌, ◌∷◌, ◌<◌, ◌++◌, ◌||◌, ℕ, List, [], ap, arith, drop, get_or, length, map, slice_get, slice_set, Some, suc, zero, sym, take}
use Rattle.std.specs.List.{list_any}
use Rattle.std.proofs.lemmas.List.Edits.{map_over_more}
use Rattle.std.proofs.lemmas.Option.{slice_get-get_or}
use Rattle.moos_mail.proofs.Lists.{list_any-push, take-next}
use Rattle.moos_db.specs.Subscriptions.{SubscriptionState, caught_at, is_new_at}
use Rattle.moos_db.proofs.subscriptions.catch_all.Goals as goal

still-there : {X : Type 0} (f : X → X) (xs : List X) (i : ℕ) (x : X) → i < length xs → x ≡ get_or (map f (take i xs) ++ drop i xs) i x → x ≡ get_or xs i x
still-there f [] i x below is = absurd (omega arith)
still-there f (y ∷ xs) zero x below is = is
still-there f (y ∷ xs) (suc i) x below is = still-there f xs i x (omega arith) is

pub loop-k-preserved : goal.loop-k-preserved
loop-k-preserved c =
    let old : List SubscriptionState = c.args.subscriptions.now.items in
    let k = c.loop-k.k in
    let one : SubscriptionState = c.index_mut.result.now in
    let catch = caught_at c.args.client c.args.made c.args.stamp c.args.source.now in
    let is_new = is_new_at c.args.client c.args.made c.args.source.now in
    let below : k < length old = omega (arith, c.loop-k-test.true) in
    let here : slice_get old k ≡ Some one = slice_get-get_or old k one below ∙ ap (λ x. Some x) (sym (still-there catch old k one below (c.index_mut.ensures.value ∙ ap (λ items. get_or items k one) c.loop-k.invariant.caught))) in
    let next : k + 1 ≡ suc k = omega arith in
    record {
      caught = ap (slice_set c.loop-k.subscriptions.items k) c.catch_up-catches.ensures.caught ∙ map_over_more catch old c.loop-k.subscriptions.items k one below c.loop-k.invariant.caught c.index_mut.ensures.value;
      catches =
          ap (λ b. b || c.catch_up-catches.result) c.loop-k.invariant.catches ∙ ap (λ b. list_any is_new (take k old) || b) c.catch_up-catches.ensures.new
          ∙ sym (list_any-push is_new (take k old) one) ∙ ap (list_any is_new) (sym (ap (λ n. take n old) next ∙ take-next old k one here));
      len = c.loop-k.invariant.len;
    }
