-- A post is mailed to the client of each subscription at which it is due, one subscription after the other.
use Rattle.std.proofs.Common.{◌≡◌, ◌∙◌, ◌<◌, ◌≤◌, ◌||◌, ◌&&◌, ℕ, Bool, true, false, cond, ◌==◌, List, [], ◌∷◌, ◌++◌, filter, get_or, length, replicate, set, slice_get, Some, refl, ap, sym, subst, inl, inr, arith}
use Rattle.std.specs.List.{list_any}
use Rattle.std.proofs.Math.Bool.{or-false, or-true}
use Rattle.std.proofs.lemmas.Bool.{cases_Bool, eq-eqb, eqb-false, eqb-true, false≢true, ne_eqb}
use Rattle.std.proofs.lemmas.List.{get_or-replicate, get_or-set_other, get_or-set_same, length-replicate, length-set}
use Rattle.std.proofs.lemmas.List.Elements.{filter-append}
use Rattle.std.proofs.lemmas.List.Folds.{list_any-append}
use Rattle.std.proofs.lemmas.Option.{same_Some, slice_get-get_or, slice_get_within}
use Rattle.moos_db.specs.Clients.{ClientState}
use Rattle.moos_db.specs.Subscriptions.{AreMailed, AreRecipients, HasRoom, IsMailedTo, SubscriptionState, hears_due, is_recipient, mailed_if, of_client}
use Rattle.moos_db.proofs.Changes.{set-cases}

-- so far, and a client to which it was not mailed yet is as it was
pub record IsMailing (number stamp : ℕ) (source : List ℕ) (subscriptions : List SubscriptionState) (before after : List ClientState) (recipients : List Bool) : Type 0 where
  pub mailed : AreMailed number stamp source subscriptions before after
  pub marked : AreRecipients stamp source subscriptions (length before) recipients
  pub others : (client : ℕ) (one other : ClientState) → slice_get before client ≡ Some one → slice_get after client ≡ Some other → is_recipient recipients client ≡ false → other ≡ one

-- one subscription more
any-more : (test : SubscriptionState → Bool) (client : ℕ) (subscriptions : List SubscriptionState) (subscription : SubscriptionState) →
    list_any test (of_client client (subscriptions ++ subscription ∷ [])) ≡ (list_any test (of_client client subscriptions) || (subscription.client == client && test subscription))
any-more test client subscriptions subscription =
    ap (list_any test) (filter-append (λ (one : SubscriptionState). one.client == client) subscriptions (subscription ∷ []))
    ∙ list_any-append test (of_client client subscriptions) (filter (λ (one : SubscriptionState). one.client == client) (subscription ∷ []))
    ∙ ap (λ more. list_any test (of_client client subscriptions) || more) (alone (subscription.client == client) (test subscription) refl)
  where
    alone : (own passes : Bool) → test subscription ≡ passes → list_any test (cond own (subscription ∷ []) []) ≡ own && passes
    alone true true is = ap (λ b. b || false) is
    alone true false is = ap (λ b. b || false) is
    alone false passes is = refl

-- before the first subscription it was mailed to nobody
pub mailing-none : (number stamp : ℕ) (source : List ℕ) (clients : List ClientState) (recipients : List Bool) (n : ℕ) → n ≡ length clients → recipients ≡ replicate n false → IsMailing number stamp source [] clients clients recipients
mailing-none number stamp source clients recipients n count are = record {
  mailed = record {
    each = refl;
    mail = λ client one other was is.
        let same : other ≡ one = same_Some other one (sym is ∙ was) in
        same ∙ ap (λ (state : ClientState). record one { spare = state.spare }) (sym same);
    room = λ client one other was is.
        let same : other.spare ≡ one.spare = ap (λ (state : ClientState). state.spare) (same_Some other one (sym is ∙ was)) in
        omega arith;
  };
  marked = record {
    each = ap length are ∙ length-replicate n false ∙ count;
    due = λ client below. ap (λ marks. is_recipient marks client) are ∙ get_or-replicate n client false false (omega (arith, below, count));
  };
  others = λ client one other was is none. same_Some other one (sym is ∙ was);
}

module _ (number stamp : ℕ) (source : List ℕ) (heard : List SubscriptionState) (before after : List ClientState) (recipients : List Bool) (subscription : SubscriptionState) (state : IsMailing number stamp source heard before after recipients) where
  abbrev so_far : ℕ → Bool
  so_far client = list_any (hears_due stamp source) (of_client client heard)

  abbrev any : ℕ → Bool
  any client = list_any (hears_due stamp source) (of_client client (heard ++ subscription ∷ []))

  -- there is room for the post with a client to which it wasn't mailed yet
  pub mailing-room : HasRoom before 1 subscription → is_recipient recipients subscription.client ≡ false → (one : ClientState) → slice_get after subscription.client ≡ Some one → 1 ≤ one.spare
  mailing-room room fresh one there =
      let within : subscription.client < length before = omega (arith, slice_get_within after subscription.client one there, state.mailed.each) in
      let was : slice_get before subscription.client ≡ Some (get_or before subscription.client one) = slice_get-get_or before subscription.client one within in
      let same : one ≡ get_or before subscription.client one = state.others subscription.client (get_or before subscription.client one) one was there fresh in
      let spare : one.spare ≡ (get_or before subscription.client one).spare = ap (λ (client : ClientState). client.spare) same in
      omega (arith, room (get_or before subscription.client one) was)

  -- one subscription more, by which it is mailed to nobody else
  mailing-same : ((client : ℕ) → client < length before → so_far client ≡ any client) → IsMailing number stamp source (heard ++ subscription ∷ []) before after recipients
  mailing-same same = record {
    mailed = record {
      each = state.mailed.each;
      mail = λ client one other was is. state.mailed.mail client one other was is ∙ ap (λ b. record (mailed_if b number one) { spare = other.spare }) (same client (slice_get_within before client one was));
      room = state.mailed.room;
    };
    marked = record { each = state.marked.each; due = λ client below. state.marked.due client below ∙ same client below };
    others = state.others;
  }

  -- one at which it isn't due
  pub mailing-passed : hears_due stamp source subscription ≡ false → IsMailing number stamp source (heard ++ subscription ∷ []) before after recipients
  mailing-passed due = mailing-same (λ client below.
      sym (any-more (hears_due stamp source) client heard subscription ∙ ap (λ b. so_far client || (subscription.client == client && b)) due ∙ and-false (so_far client) (subscription.client == client)))
    where
      and-false : (a b : Bool) → a || (b && false) ≡ a
      and-false true b = refl
      and-false false true = refl
      and-false false false = refl

  -- one of a client to which it was mailed
  pub mailing-again : is_recipient recipients subscription.client ≡ true → IsMailing number stamp source (heard ++ subscription ∷ []) before after recipients
  mailing-again marked = mailing-same (λ client below. elim (cases_Bool (subscription.client == client)) [
    | inl own ↦
        let was : so_far client ≡ true = sym (state.marked.due client below) ∙ ap (is_recipient recipients) (sym (eqb-true subscription.client client own)) ∙ marked in
        was ∙ sym (any-more (hears_due stamp source) client heard subscription ∙ ap (λ b. b || (subscription.client == client && hears_due stamp source subscription)) was)
    | inr apart ↦ sym (any-more (hears_due stamp source) client heard subscription ∙ ap (λ b. so_far client || (b && hears_due stamp source subscription)) apart ∙ or-false (so_far client))
  ])

  -- one at which it is due, of a client to which it wasn't: it is mailed to that
  pub mailing-due : (marks : List Bool) (others : List ClientState) → hears_due stamp source subscription ≡ true → is_recipient recipients subscription.client ≡ false → IsMailedTo subscription.client number recipients marks after others →
      IsMailing number stamp source (heard ++ subscription ∷ []) before others marks
  mailing-due marks others due fresh to =
      subst (λ list. IsMailing number stamp source (heard ++ subscription ∷ []) before list marks) (sym to.all)
      (subst (λ list. IsMailing number stamp source (heard ++ subscription ∷ []) before (set after own to.other) list) (sym to.mark) (record {
        mailed = record {
          each = length-set after own to.other ∙ state.mailed.each;
          mail = λ client first last was is. elim (set-cases after own client to.other last is) [
            | inl here ↦
                subst (λ (l : ClientState). l ≡ record (mailed_if (any client) number first) { spare = l.spare }) (sym here.1)
                (to.mailed ∙ (λ i. record (mailed_if (sym (any-own client (sym here.0)) i) number (one-is first (ap (slice_get before) (sym here.0) ∙ was) i)) { spare = to.other.spare }))
            | inr apart ↦ state.mailed.mail client first last was apart.1 ∙ ap (λ b. record (mailed_if b number first) { spare = last.spare }) (sym (any-other client (λ same. apart.0 (sym same))))
          ];
          room = λ client first last was is. elim (set-cases after own client to.other last is) [
            | inl here ↦
                let same : to.one.spare ≡ first.spare = ap (λ (one : ClientState). one.spare) (one-is first (ap (slice_get before) (sym here.0) ∙ was)) in
                let spare : last.spare ≡ to.other.spare = ap (λ (one : ClientState). one.spare) here.1 in
                omega (arith, to.room)
            | inr apart ↦ state.mailed.room client first last was apart.1
          ];
        };
        marked = record {
          each = length-set recipients own true ∙ state.marked.each;
          due = λ client below. elim (cases_Bool (own == client)) [
            | inl same ↦
                let at : own ≡ client = eqb-true own client same in
                ap (is_recipient (set recipients own true)) (sym at) ∙ marked-own ∙ sym (any-own client at)
            | inr apart ↦
                let other = eqb-false own client apart in
                get_or-set_other recipients own client true false (λ same. other (sym same)) ∙ state.marked.due client below ∙ sym (any-other client other)
          ];
        };
        others = λ client first last was is none. elim (set-cases after own client to.other last is) [
          | inl here ↦ absurd (false≢true (sym none ∙ ap (is_recipient (set recipients own true)) here.0 ∙ marked-own))
          | inr apart ↦ state.others client first last was apart.1 (sym (get_or-set_other recipients own client true false apart.0) ∙ none)
        ];
      }))
    where
      own : ℕ
      own = subscription.client

      any-own : (client : ℕ) → own ≡ client → any client ≡ true
      any-own client same =
          any-more (hears_due stamp source) client heard subscription ∙ (λ i. so_far client || (eq-eqb own client same i && due i)) ∙ or-true (so_far client)

      any-other : (client : ℕ) → (own ≡ client → ⊥) → any client ≡ so_far client
      any-other client apart =
          any-more (hears_due stamp source) client heard subscription ∙ ap (λ b. so_far client || (b && hears_due stamp source subscription)) (ne_eqb own client apart) ∙ or-false (so_far client)

      -- it was as before
      one-is : (first : ClientState) → slice_get before own ≡ Some first → to.one ≡ first
      one-is first was = state.others own first to.one was to.there fresh

      marked-own : is_recipient (set recipients own true) own ≡ true
      marked-own = get_or-set_same recipients own true false (omega (arith, slice_get_within after own to.one to.there, state.mailed.each, state.marked.each))
