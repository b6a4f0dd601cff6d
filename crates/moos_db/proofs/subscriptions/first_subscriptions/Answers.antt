use Rattle.std.proofs.Common.{◌≡◌, ◌∙◌, ◌==◌, ◌++◌, ◌+◌, ◌<◌, [], map, filter, option_map, unwrap_or, ap, sym, subst, arith, inl, inr}
use Rattle.std.specs.List.{All}
use Rattle.std.proofs.lemmas.Bool.{cases_Bool, eqb-false, eqb-true}
use Rattle.std.proofs.lemmas.List.Elements.{All-append, All-weaker}
use Rattle.std.proofs.lemmas.Option.{slice_get-get_or}
use Rattle.moos_post.specs.Patterns.{matches}
use Rattle.moos_db.specs.Clients.{ClientState}
use Rattle.moos_db.specs.Subscriptions.{SubscriptionState, fresh_subscription, fresh_subscriptions, lives_at, of_client}
use Rattle.moos_db.proofs.Hearing.{fresh-within, others-more, own-more}
use Rattle.moos_db.proofs.subscriptions.first_subscriptions.Goals as goal

pub loop-number-preserved : goal.loop-number-preserved
loop-number-preserved c =
    let clients = c.args.clients.now in
    let number = c.loop-number.number in
    let var = c.args.var.now in
    let old = c.loop-number.subscriptions.items in
    let lives = map (λ live. live.value) c.lives.result.now in
    let matching = filter (λ live. matches live.reg.var var) lives in
    let all = c.in_ok-add_client.ensures in
    let lives_is : lives_at clients number ≡ lives
    = ap (λ one. unwrap_or (option_map (λ (client : ClientState). client.lives) one) []) (slice_get-get_or clients number c.index-clients-number.result (omega (arith, c.loop-number-test.true)))
    ∙ ap (λ (client : ClientState). client.lives) (sym c.index-clients-number.is) ∙ sym c.lives.ensures in
    record {
      each = λ client below. elim (cases_Bool (number == client)) [
        | inl same ↦ subst (λ n. of_client n c.add_client.new.subscriptions.items ≡ fresh_subscriptions n var (lives_at clients n)) (eqb-true number client same)
            (ap (of_client number) all ∙ own-more number old matching ∙ ap (λ front. front ++ fresh_subscriptions number var lives) (c.loop-number.invariant.none number (omega arith)) ∙ ap (fresh_subscriptions number var) (sym lives_is))
        | inr apart ↦ ap (of_client client) all ∙ others-more number client old matching apart ∙ c.loop-number.invariant.each client (omega (arith, below, eqb-false number client apart))
      ];
      none = λ client from. elim (cases_Bool (number == client)) [
        | inl same ↦ absurd (omega (arith, from, eqb-true number client same))
        | inr apart ↦ ap (of_client client) all ∙ others-more number client old matching apart ∙ c.loop-number.invariant.none client (omega (arith, from))
      ];
      within = subst (λ subscriptions. All (λ (subscription : SubscriptionState). subscription.client < number + 1) subscriptions) (sym all)
          (All-append (λ (subscription : SubscriptionState). subscription.client < number + 1) old (map (fresh_subscription number) matching)
          (All-weaker (λ (subscription : SubscriptionState). subscription.client < number) (λ subscription. subscription.client < number + 1) (λ subscription lower. omega (arith, lower)) old c.loop-number.invariant.within)
          (fresh-within number (number + 1) matching (omega arith)));
    }
