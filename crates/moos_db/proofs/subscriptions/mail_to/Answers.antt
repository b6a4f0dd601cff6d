use Rattle.std.proofs.Common.{◌≡◌, ◌∙◌, ◌<◌, ◌≤◌, ◌+◌, ◌-◌, ◌++◌, ◌∷◌, [], ℕ, List, Some, ap, drop, false, get_or, inl, inr, length, map, refl, set, slice_get, subst, sym, take, arith}
use Rattle.std.proofs.lemmas.Bool.{cases_Bool}
use Rattle.std.proofs.lemmas.List.{get_or-append_right, get_or-drop, get_or-set_same, length-append, length-drop, length-map, length-take-le, take_more}
use Rattle.std.proofs.lemmas.List.Edits.{map_over_more}
use Rattle.moos_db.specs.Clients.{ClientState}
use Rattle.moos_db.specs.Subscriptions.{SubscriptionState, HasRoom, IsMailedTo, after_hearing, hears_due, is_recipient}
use Rattle.moos_db.proofs.Hearing.{stamped-client}
use Rattle.moos_db.proofs.Mailing.{IsMailing, mailing-again, mailing-due, mailing-none, mailing-passed, mailing-room}
use Rattle.moos_db.proofs.subscriptions.mail_to.Goals.{then-hear, else-hear}
use Rattle.moos_db.proofs.subscriptions.mail_to.Goals as goal

-- the next one is as it was
next-is : {X : Type 0} (f : X → X) (xs ys : List X) (i : ℕ) (d : X) → i < length xs → ys ≡ map f (take i xs) ++ drop i xs → get_or ys i d ≡ get_or xs i d
next-is f xs ys i d within are =
    ap (λ list. get_or list i d) are
    ∙ get_or-append_right (map f (take i xs)) (drop i xs) i i d (length-map (take i xs) f ∙ length-take-le i xs (omega (arith, within))) (omega arith)
    ∙ get_or-drop i xs (i - i) d ∙ ap (λ n. get_or xs n d) (let e : i + (i - i) ≡ i = omega arith in e)

same-length : {X : Type 0} (f : X → X) (xs ys : List X) (i : ℕ) → i < length xs → ys ≡ map f (take i xs) ++ drop i xs → length ys ≡ length xs
same-length f xs ys i within are =
    ap length are ∙ length-append (map f (take i xs)) (drop i xs) ∙ omega (arith, length-map (take i xs) f, length-take-le i xs (omega (arith, within)), length-drop i xs)

-- the one that heard the post is its client's as before
same-client : (stamp : ℕ) (source : List ℕ) (subscriptions : List SubscriptionState) (k : ℕ) (subscription new at : SubscriptionState) → k < length subscriptions → new ≡ after_hearing stamp source subscription → at ≡ get_or (set subscriptions k new) k at → at.client ≡ subscription.client
same-client stamp source subscriptions k subscription new at within heard found =
    ap (λ (one : SubscriptionState). one.client) (found ∙ get_or-set_same subscriptions k new at within ∙ heard) ∙ stamped-client (hears_due stamp source) stamp subscription

pub loop-k-init : goal.loop-k-init
loop-k-init c = record {
  heard = refl;
  mailed = mailing-none c.args.number c.args.stamp c.args.source.now c.args.clients.now.items c.clear.new.self (length c.args.recipients.now) c.requires.marks c.clear.ensures;
}

pub mail_once-requires-clause-within : goal.mail_once-requires-clause-within
mail_once-requires-clause-within c =
    let state = c.loop-k.invariant.mailed.mailed in
    let old = c.args.subscriptions.now.items in
    let subscription : SubscriptionState = c.index_mut.result.now in
    let within : c.loop-k.k < length old = omega (arith, c.len-k-end.ensures, c.loop-k-test.true) in
    let here : subscription ≡ get_or old c.loop-k.k subscription = c.index_mut.ensures.value ∙ next-is (after_hearing c.args.stamp c.args.source.now) old c.loop-k.subscriptions.items c.loop-k.k subscription within c.loop-k.invariant.heard in
    let counted : length c.loop-k.subscriptions.items ≡ length old = same-length (after_hearing c.args.stamp c.args.source.now) old c.loop-k.subscriptions.items c.loop-k.k within c.loop-k.invariant.heard in
    let own : c.client.result ≡ subscription.client = c.client.ensures ∙ same-client c.args.stamp c.args.source.now c.loop-k.subscriptions.items c.loop-k.k subscription c.hear.new.self c.index.result.now (omega (arith, counted)) c.hear.ensures.heard c.index.ensures in
    let below : subscription.client < length c.args.clients.now.items = subst (λ (one : SubscriptionState). one.client < length c.args.clients.now.items) (sym here) (c.requires.below c.loop-k.k subscription within) in
    omega (arith, below, own, state.each)

pub mail_once-requires-clause-room : goal.mail_once-requires-clause-room
mail_once-requires-clause-room c =
    let state = c.loop-k.invariant.mailed in
    let old = c.args.subscriptions.now.items in
    let subscription : SubscriptionState = c.index_mut.result.now in
    let within : c.loop-k.k < length old = omega (arith, c.len-k-end.ensures, c.loop-k-test.true) in
    let here : subscription ≡ get_or old c.loop-k.k subscription = c.index_mut.ensures.value ∙ next-is (after_hearing c.args.stamp c.args.source.now) old c.loop-k.subscriptions.items c.loop-k.k subscription within c.loop-k.invariant.heard in
    let counted : length c.loop-k.subscriptions.items ≡ length old = same-length (after_hearing c.args.stamp c.args.source.now) old c.loop-k.subscriptions.items c.loop-k.k within c.loop-k.invariant.heard in
    let own : c.client.result ≡ subscription.client = c.client.ensures ∙ same-client c.args.stamp c.args.source.now c.loop-k.subscriptions.items c.loop-k.k subscription c.hear.new.self c.index.result.now (omega (arith, counted)) c.hear.ensures.heard c.index.ensures in
    subst (λ n. is_recipient c.loop-k.recipients n ≡ false → (one : ClientState) → slice_get c.loop-k.clients.items n ≡ Some one → 1 ≤ one.spare) (sym own)
    (mailing-room c.args.number c.args.stamp c.args.source.now (take c.loop-k.k old) c.args.clients.now.items c.loop-k.clients.items c.loop-k.recipients subscription state
    (subst (HasRoom c.args.clients.now.items 1) (sym here) (c.requires.room c.loop-k.k subscription within)))

pub loop-k-preserved : goal.loop-k-preserved
loop-k-preserved c =
    let number = c.args.number in
    let stamp = c.args.stamp in
    let source = c.args.source.now in
    let state = c.loop-k.invariant.mailed in
    let old = c.args.subscriptions.now.items in
    let before = c.args.clients.now.items in
    let marks = c.loop-k.recipients in
    let subscription : SubscriptionState = c.index_mut.result.now in
    let within : c.loop-k.k < length old = omega (arith, c.len-k-end.ensures, c.loop-k-test.true) in
    let counted : length c.loop-k.subscriptions.items ≡ length old = same-length (after_hearing stamp source) old c.loop-k.subscriptions.items c.loop-k.k within c.loop-k.invariant.heard in
    let here : subscription ≡ get_or old c.loop-k.k subscription = c.index_mut.ensures.value ∙ next-is (after_hearing stamp source) old c.loop-k.subscriptions.items c.loop-k.k subscription within c.loop-k.invariant.heard in
    let more : take (c.loop-k.k + 1) old ≡ take c.loop-k.k old ++ subscription ∷ [] = take_more old c.loop-k.k subscription within ∙ ap (λ (one : SubscriptionState). take c.loop-k.k old ++ one ∷ []) (sym here) in
    record {
      heard = ap (set c.loop-k.subscriptions.items c.loop-k.k) c.hear.ensures.heard ∙
          map_over_more (after_hearing stamp source) old c.loop-k.subscriptions.items c.loop-k.k subscription within c.loop-k.invariant.heard c.index_mut.ensures.value;
      mailed = subst (λ subscriptions. IsMailing number stamp source subscriptions before c.if-hear.clients.items c.if-hear.recipients) (sym more) (elim c.if-hear.branch [
        | then-hear w ↦
            let own : w.client.result ≡ subscription.client = w.client.ensures ∙ same-client stamp source c.loop-k.subscriptions.items c.loop-k.k subscription c.hear.new.self w.index.result.now (omega (arith, counted)) c.hear.ensures.heard w.index.ensures in
            subst (λ clients. IsMailing number stamp source (take c.loop-k.k old ++ subscription ∷ []) before clients c.if-hear.recipients) (ap (λ vec. vec.items) (sym w.clients-is))
            (subst (λ list. IsMailing number stamp source (take c.loop-k.k old ++ subscription ∷ []) before w.mail_once.new.clients.items list) (sym w.recipients-is)
            (elim (cases_Bool (is_recipient marks subscription.client)) [
              | inl marked ↦
                  let same = w.mail_once.ensures.again (ap (is_recipient marks) own ∙ marked) in
                  subst (λ clients. IsMailing number stamp source (take c.loop-k.k old ++ subscription ∷ []) before clients w.mail_once.new.recipients) (sym same.1)
                  (subst (λ list. IsMailing number stamp source (take c.loop-k.k old ++ subscription ∷ []) before c.loop-k.clients.items list) (sym same.0)
                  (mailing-again number stamp source (take c.loop-k.k old) before c.loop-k.clients.items marks subscription state marked))
              | inr fresh ↦
                  mailing-due number stamp source (take c.loop-k.k old) before c.loop-k.clients.items marks subscription state w.mail_once.new.recipients w.mail_once.new.clients.items
                  (sym c.hear.ensures.due ∙ w.if-hear.true) fresh
                  (subst (λ n. IsMailedTo n number marks w.mail_once.new.recipients c.loop-k.clients.items w.mail_once.new.clients.items) own
                  (w.mail_once.ensures.first (ap (is_recipient marks) own ∙ fresh)))
            ]))
        | else-hear w ↦
            subst (λ clients. IsMailing number stamp source (take c.loop-k.k old ++ subscription ∷ []) before clients c.if-hear.recipients) (ap (λ vec. vec.items) (sym w.clients-is))
            (subst (λ list. IsMailing number stamp source (take c.loop-k.k old ++ subscription ∷ []) before c.loop-k.clients.items list) (sym w.recipients-is)
            (mailing-passed number stamp source (take c.loop-k.k old) before c.loop-k.clients.items marks subscription state (sym c.hear.ensures.due ∙ w.if-hear.false)))
      ]);
    }
