-- Room is made with one client after the other.
use Rattle.std.proofs.Common.{◌≡◌, ◌∙◌, ◌<◌, ◌≤◌, ◌+◌, ℕ, ◌==◌, Some, ap, get_or, length, set, slice_get, List, refl, subst, sym, inl, inr, arith}
use Rattle.std.specs.List.{All}
use Rattle.std.proofs.lemmas.Bool.{cases_Bool, eqb-false, eqb-true}
use Rattle.std.proofs.lemmas.List.{length-set}
use Rattle.std.proofs.lemmas.List.Elements.{All-weaker}
use Rattle.std.proofs.lemmas.Option.{same_Some, slice_get_read, slice_get_within}
use Rattle.moos_mail.proofs.Lists.{found-below}
use Rattle.moos_post.specs.declared.value.Post.{Post}
use Rattle.moos_post.specs.Delivery.{Inbox}
use Rattle.moos_db.specs.Clients.{ClientState}
use Rattle.moos_db.specs.Subscriptions.{AreAlike, AreHeard, AreReady, HasRoom, SubscriptionState, VariableState, VariablesState}
use Rattle.moos_db.proofs.Changes.{set-cases}

-- there is so much room with each that hears one of these posts
abbrev pub HaveRoomTo : List ClientState → VariablesState → ℕ → ℕ → ℕ → Type 0
HaveRoomTo clients variables from end more = (post number : ℕ) (variable : VariableState) → from ≤ post → post < end → slice_get variables.noted post ≡ Some number →
    slice_get variables.all number ≡ Some variable → All (HasRoom clients more) variable.subscriptions

-- a client with which room was made is as it was but for that
pub alike-set : (before after : List ClientState) (i : ℕ) (one new : ClientState) → AreAlike before after → one ≡ get_or after i one → new ≡ record one { spare = new.spare } → AreAlike before (set after i new)
alike-set before after i one new alike was is = record {
  each = length-set after i new ∙ alike.each;
  same = λ number first last here there. elim (set-cases after i number new last there) [
    | inl own ↦
        let stood : slice_get after i ≡ Some one = slice_get_read after (length after) i one refl (omega (arith, slice_get_within (set after i new) number last there, length-set after i new, own.0)) was in
        let first_is : one ≡ record first { spare = one.spare } = alike.same i first one (subst (λ n. slice_get before n ≡ Some first) own.0 here) stood in
        subst (λ (l : ClientState). l ≡ record first { spare = l.spare }) (sym own.1) (is ∙ ap (λ (c : ClientState). record c { spare = new.spare }) first_is)
    | inr apart ↦ alike.same number first last here apart.1
  ];
}

-- there is still room with each client after some was made with one
pub room-set : (clients : List ClientState) (i more : ℕ) (new : ClientState) (subscription : SubscriptionState) → more ≤ new.spare → HasRoom clients more subscription → HasRoom (set clients i new) more subscription
room-set clients i more new subscription made room client there = elim (set-cases clients i subscription.client new client there) [
  | inl own ↦ subst (λ (c : ClientState). more ≤ c.spare) (sym own.1) made
  | inr apart ↦ room client apart.1
]

pub rooms-set : (clients : List ClientState) (i more : ℕ) (new : ClientState) (subscriptions : List SubscriptionState) → more ≤ new.spare → All (HasRoom clients more) subscriptions → All (HasRoom (set clients i new) more) subscriptions
rooms-set clients i more new subscriptions made = All-weaker (HasRoom clients more) (HasRoom (set clients i new) more) (λ subscription. room-set clients i more new subscription made) subscriptions

-- there is with that client
pub room-own : (clients : List ClientState) (i more : ℕ) (new : ClientState) (subscription : SubscriptionState) → more ≤ new.spare → i ≡ subscription.client → HasRoom (set clients i new) more subscription
room-own clients i more new subscription made same client there = elim (set-cases clients i subscription.client new client there) [
  | inl own ↦ subst (λ (c : ClientState). more ≤ c.spare) (sym own.1) made
  | inr apart ↦ absurd (apart.0 (sym same))
]

-- with those that hear one post more
pub HaveRoomTo-more : (clients : List ClientState) (variables : VariablesState) (from end more at : ℕ) (here : VariableState) → HaveRoomTo clients variables from end more → slice_get variables.noted end ≡ Some at →
    slice_get variables.all at ≡ Some here → All (HasRoom clients more) here.subscriptions → HaveRoomTo clients variables from (end + 1) more
HaveRoomTo-more clients variables from end more at here rooms noted stands room post number variable low high found there = elim (cases_Bool (end == post)) [
  | inl same ↦
      let number_is : number ≡ at = same_Some number at (sym (subst (λ n. slice_get variables.noted n ≡ Some number) (sym (eqb-true end post same)) found) ∙ noted) in
      let is : variable ≡ here = same_Some variable here (sym (subst (λ n. slice_get variables.all n ≡ Some variable) number_is there) ∙ stands) in
      subst (λ (one : VariableState). All (HasRoom clients more) one.subscriptions) (sym is) room
  | inr apart ↦ rooms post number variable low (omega (arith, high, eqb-false end post apart)) found there
]

-- all is as the inboxes say after room was made
pub alike-ready : (inboxes : ℕ → Inbox) (posts : List Post) (variables : VariablesState) (before after : List ClientState) → AreAlike before after → AreReady inboxes posts variables before → AreReady inboxes posts variables after
alike-ready inboxes posts variables before after alike ready = record {
  stand = record {
    clients = λ number client there.
        let here = found-below before number (omega (arith, slice_get_within after number client there, alike.each)) in
        let is : client ≡ record here.0 { spare = client.spare } = alike.same number here.0 client here.1 there in
        let stands = ready.stand.clients number here.0 here.1 in
        record {
          lives = ap (λ (one : ClientState). one.lives) is ∙ stands.lives;
          waits = ap (λ (one : ClientState). one.waits) is ∙ stands.waits;
        };
    heard = subst (λ n. AreHeard n inboxes posts variables) (sym alike.each) ready.stand.heard;
  };
  noted = ready.noted;
}
