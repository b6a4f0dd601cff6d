-- A variable that is posted for the first time gets a number, and those who hear it.
use Rattle.std.proofs.Common.{◌≡◌, ◌∙◌, ◌<◌, ◌≤◌, ℕ, zero, suc, Bool, true, false, List, [], ◌∷◌, ◌++◌, map, length, take, slice_get, None, Option, Some, option_map, unwrap_or, bytes_eq, refl, ap, sym, subst, inl, inr, ◌⊎◌, if◌then◌else◌, arith}
use Rattle.std.specs.List.{All}
use Rattle.std.proofs.lemmas.Bool.{false_from_ne_true}
use Rattle.std.proofs.lemmas.List.{length-map, length-take, length_push, map-append, take-append-le}
use Rattle.std.proofs.lemmas.List.Elements.{All-push, All-weaker}
use Rattle.std.proofs.lemmas.Option.{none-some, same_Some, slice_get_within}
use Rattle.std.proofs.lemmas.Slice.Eq.{bytes_eq-Decides}
use Rattle.moos_mail.proofs.Lists.{found-below}
use Rattle.moos_post.specs.declared.value.Post.{Post}
use Rattle.moos_post.specs.Delivery.{Inbox}
use Rattle.moos_db.specs.Clients.{ClientState}
use Rattle.moos_db.specs.Subscriptions.{HearBelow, AreKeptAs, AreKnown, AreNoted, AreNumbers, AreReady, HasLatest, HasRecipients, IsAdded, IsHeardBy, IsNumbering, MayAdd, VariableState, VariablesState, fresh_subscriptions, name_at}
use Rattle.moos_db.specs.Tables.{GetsNumber, latest_post_from, number_of, Row}
use Rattle.moos_db.proofs.Changes.{named-at}
use Rattle.moos_db.proofs.Hearing.{subscriptions-fresh}
use Rattle.moos_db.proofs.Standing.{slice_get-seam}

-- what stands in a list with one element more
push-cases : {X : Type 0} (xs : List X) (x : X) (k : ℕ) (v : X) → slice_get (xs ++ x ∷ []) k ≡ Some v → (slice_get xs k ≡ Some v) ⊎ ((k ≡ length xs) × (v ≡ x))
push-cases [] x zero v is = inr (refl, same_Some v x (sym is))
push-cases [] x (suc k) v is = absurd (none-some v is)
push-cases (y ∷ xs) x zero v is = inl is
push-cases (y ∷ xs) x (suc k) v is = elim (push-cases xs x k v is) [ inl old ↦ inl old | inr new ↦ inr (ap suc new.0, new.1) ]

name-front : (variables more : List VariableState) (k : ℕ) (var : List ℕ) → name_at variables k ≡ Some var → name_at (variables ++ more) k ≡ Some var
name-front [] more k var is = absurd (none-some var is)
name-front (one ∷ variables) more zero var is = is
name-front (one ∷ variables) more (suc k) var is = name-front variables more k var is

-- those that are noted stay so
names-front : (variables more : List VariableState) (numbers : List ℕ) (vars : List (List ℕ)) → map (name_at variables) numbers ≡ map (λ var. Some var) vars → map (name_at (variables ++ more)) numbers ≡ map (λ var. Some var) vars
names-front variables more [] [] are = refl
names-front variables more [] (var ∷ vars) are = absurd (let e : [] ≡ Some var ∷ map (λ var. Some var) vars = are in cc)
names-front variables more (number ∷ numbers) [] are = absurd (let e : name_at variables number ∷ map (name_at variables) numbers ≡ [] = are in cc)
names-front variables more (number ∷ numbers) (var ∷ vars) are =
    let e : name_at variables number ∷ map (name_at variables) numbers ≡ Some var ∷ map (λ var. Some var) vars = are in
    let first : name_at variables number ≡ Some var = cc in
    let rest : map (name_at variables) numbers ≡ map (λ var. Some var) vars = cc in
    λ i. name-front variables more number var first i ∷ names-front variables more numbers vars rest i

-- a variable with a name is found by it
pub named : (variables : List VariableState) (numbers : List Row) (k : ℕ) (var : List ℕ) → IsNumbering variables numbers → name_at variables k ≡ Some var → number_of var numbers ≡ Some k
named variables numbers k var numbering is =
    let found = named-at variables k var is in
    subst (λ name. number_of name numbers ≡ Some k) found.2 (numbering.each k found.0 found.1)

-- another name than that of a variable with a number
pub other-name : (numbers : List Row) (k : ℕ) (one other : List ℕ) → number_of one numbers ≡ Some k → number_of other numbers ≡ None → bytes_eq one other ≡ false
other-name numbers k one other is none = false_from_ne_true (bytes_eq one other) (λ same. none-some k (sym none ∙ ap (λ var. number_of var numbers) (sym ((bytes_eq-Decides one other).0 same)) ∙ is))

-- the table with the new variable
pub numbering-added : (variables : List VariableState) (numbers after : List Row) (new : VariableState) → IsNumbering variables numbers → number_of new.name numbers ≡ None → GetsNumber new.name (length variables) numbers after → IsNumbering (variables ++ new ∷ []) after
numbering-added variables numbers after new numbering unknown numbered = record {
  each = λ number variable is. elim (push-cases variables new number variable is) [
    | inl old ↦
        numbered variable.name
        ∙ ap (λ b. if b then Some (length variables) else number_of variable.name numbers)
        (false_from_ne_true (bytes_eq new.name variable.name) (λ same. none-some number (sym unknown ∙ ap (λ var. number_of var numbers) ((bytes_eq-Decides new.name variable.name).0 same) ∙ numbering.each number variable old)))
        ∙ numbering.each number variable old
    | inr last ↦
        numbered variable.name
        ∙ ap (λ b. if b then Some (length variables) else number_of variable.name numbers) ((bytes_eq-Decides new.name variable.name).1 (ap (λ (one : VariableState). one.name) (sym last.1)))
        ∙ ap (λ n. Some n) (sym last.0)
  ];
  only = λ number var is. through number var (bytes_eq new.name var) refl (sym (numbered var) ∙ is);
}
  where
    through : (number : ℕ) (var : List ℕ) (own : Bool) → bytes_eq new.name var ≡ own → (if bytes_eq new.name var then Some (length variables) else number_of var numbers) ≡ Some number → name_at (variables ++ new ∷ []) number ≡ Some var
    through number var true own is =
        let at : length variables ≡ number = same_Some (length variables) number (ap (λ b. if b then Some (length variables) else number_of var numbers) (sym own) ∙ is) in
        subst (λ n. name_at (variables ++ new ∷ []) n ≡ Some var) at
        (ap (option_map (λ (variable : VariableState). variable.name)) (slice_get-seam variables new []) ∙ ap (λ name. Some name) ((bytes_eq-Decides new.name var).0 own))
    through number var false own is =
        name-front variables (new ∷ []) number var (numbering.only number var (ap (λ b. if b then Some (length variables) else number_of var numbers) (sym own) ∙ is))

-- all numbers with the new variable's
pub numbers-added : (before : VariablesState) (new : VariableState) (after : List Row) → AreNumbers before → number_of new.name before.numbers ≡ None → GetsNumber new.name (length before.all) before.numbers after →
    AreNumbers (record { all = before.all ++ new ∷ []; numbers = after; noted = before.noted })
numbers-added before new after are unknown numbered = record {
  numbering = numbering-added before.all before.numbers after new are.numbering unknown numbered;
  noted = All-weaker (λ n. n < length before.all) (λ n. n < length (before.all ++ new ∷ [])) (λ n within. omega (arith, within, length_push before.all new)) before.noted are.noted;
}

-- no post is of a variable without a number
unposted : (variables : List VariableState) (numbers : List Row) (var : List ℕ) (first : ℕ) (found : Option ℕ) (noted : List ℕ) (posts : List Post) → IsNumbering variables numbers → number_of var numbers ≡ None →
    map (name_at variables) noted ≡ map (λ var. Some var) (map (λ (post : Post). post.var) posts) → found ≡ None → latest_post_from var first found posts ≡ None
unposted variables numbers var first found [] [] numbering unknown are none = none
unposted variables numbers var first found [] (post ∷ posts) numbering unknown are none = absurd (let e : [] ≡ Some post.var ∷ map (λ var. Some var) (map (λ (post : Post). post.var) posts) = are in cc)
unposted variables numbers var first found (number ∷ noted) [] numbering unknown are none = absurd (let e : name_at variables number ∷ map (name_at variables) noted ≡ [] = are in cc)
unposted variables numbers var first found (number ∷ noted) (post ∷ posts) numbering unknown are none =
    let e : name_at variables number ∷ map (name_at variables) noted ≡ Some post.var ∷ map (λ var. Some var) (map (λ (post : Post). post.var) posts) = are in
    let here : name_at variables number ≡ Some post.var = cc in
    let rest : map (name_at variables) noted ≡ map (λ var. Some var) (map (λ (post : Post). post.var) posts) = cc in
    unposted variables numbers var (suc first) (if bytes_eq post.var var then Some first else found) noted posts numbering unknown rest
    (ap (λ b. if b then Some first else found) (other-name numbers number post.var var (named variables numbers number post.var numbering here) unknown)
    ∙ none)

-- of none without a number, where one more has one, a post came through a registration
known-more : (clients : ℕ) (inboxes : ℕ → Inbox) (var : List ℕ) (number : ℕ) (numbers after : List Row) → GetsNumber var number numbers after → AreKnown clients inboxes numbers → AreKnown clients inboxes after
known-more clients inboxes var number numbers after numbered known client below k d within other none =
    known client below k d within other (through (bytes_eq var other) (sym (numbered other) ∙ none))
  where
    through : (own : Bool) → (if own then Some number else number_of other numbers) ≡ None → number_of other numbers ≡ None
    through true is = absurd (none-some number (sym is))
    through false is = is

-- the new variable is heard as the inboxes say
heard-new : (inboxes : ℕ → Inbox) (posts : List Post) (clients : List ClientState) (before after : VariablesState) (var : List ℕ) (added : IsAdded clients var before after) → AreKeptAs inboxes posts before clients →
    number_of var before.numbers ≡ None → IsHeardBy (length clients) inboxes (record { name = var; latest = None; recipients = added.recipients; subscriptions = added.subscriptions; room = added.room })
heard-new inboxes posts clients before after var added kept unknown = record {
  each = λ client below.
      let here = found-below clients client below in
      added.each client below
      ∙ ap (fresh_subscriptions client var) (ap (λ one. unwrap_or (option_map (λ (state : ClientState). state.lives) one) []) here.1 ∙ (kept.clients client here.0 here.1).lives)
      ∙ subscriptions-fresh client var (inboxes client).lives (λ k d within. kept.heard.known client below k d within var unknown);
  within = added.within;
}

-- all is as the inboxes say with the new variable
added-ready : (inboxes : ℕ → Inbox) (posts : List Post) (clients : List ClientState) (before after : VariablesState) (var : List ℕ) → IsAdded clients var before after → IsNumbering before.all before.numbers →
    number_of var before.numbers ≡ None → AreReady inboxes posts before clients → AreReady inboxes posts after clients
added-ready inboxes posts clients before after var added numbering unknown ready =
    let new : VariableState = record { name = var; latest = None; recipients = added.recipients; subscriptions = added.subscriptions; room = added.room } in
    let with_new : VariablesState = record { all = before.all ++ new ∷ []; numbers = after.numbers; noted = before.noted } in
    let is : after ≡ with_new = λ i. record { all = added.all i; numbers = after.numbers; noted = added.noted i } in
    subst (λ variables. AreReady inboxes posts variables clients) (sym is) (record {
      stand = record {
        clients = ready.stand.clients;
        heard = record {
          heard = All-push (IsHeardBy (length clients) inboxes) before.all new ready.stand.heard.heard (heard-new inboxes posts clients before after var added ready.stand unknown);
          latest = All-push (HasLatest posts) before.all new ready.stand.heard.latest
              (sym (unposted before.all before.numbers var 0 None (take (length posts) before.noted) posts numbering unknown ready.noted refl));
          recipients = All-push (HasRecipients (length clients) inboxes) before.all new ready.stand.heard.recipients
              (record { each = added.marked; mailed = λ client number below none. absurd (none-some number none) });
          known = known-more (length clients) inboxes var (length before.all) before.numbers after.numbers added.numbers ready.stand.heard.known;
        };
      };
      noted = names-front before.all (new ∷ []) (take (length posts) before.noted) (map (λ (post : Post). post.var) posts) ready.noted;
    })

pub may-add-ready : (inboxes : ℕ → Inbox) (posts : List Post) (clients : List ClientState) (before after : VariablesState) (var : List ℕ) → MayAdd clients var before after → IsNumbering before.all before.numbers →
    AreReady inboxes posts before clients → AreReady inboxes posts after clients
may-add-ready inboxes posts clients before after var (inl same) numbering ready = subst (λ variables. AreReady inboxes posts variables clients) (sym same) ready
may-add-ready inboxes posts clients before after var (inr (unknown, added)) numbering ready = added-ready inboxes posts clients before after var added numbering unknown ready

-- each hears as one of the clients after that too
pub may-add-below : (clients : List ClientState) (before after : VariablesState) (var : List ℕ) → MayAdd clients var before after → HearBelow (length clients) before.all → HearBelow (length clients) after.all
may-add-below clients before after var (inl same) below = subst (λ (variables : VariablesState). HearBelow (length clients) variables.all) (sym same) below
may-add-below clients before after var (inr (unknown, added)) below =
    subst (HearBelow (length clients)) (sym added.all)
    (All-push (λ (variable : VariableState). All (λ subscription. subscription.client < length clients) variable.subscriptions) before.all (record { name = var; latest = None; recipients = added.recipients; subscriptions = added.subscriptions; room = added.room }) below added.within)

-- those that were noted stay so
pub may-add-noted : (clients : List ClientState) (before after : VariablesState) (var : List ℕ) (vars : List (List ℕ)) → MayAdd clients var before after → AreNoted vars before → AreNoted vars after
may-add-noted clients before after var vars (inl same) noted = subst (AreNoted vars) (sym same) noted
may-add-noted clients before after var vars (inr (unknown, added)) noted =
    ap (map (name_at after.all)) added.noted ∙ ap (λ all. map (name_at all) before.noted) added.all
    ∙ names-front before.all (record { name = var; latest = None; recipients = added.recipients; subscriptions = added.subscriptions; room = added.room } ∷ []) before.noted vars noted

-- the first of those that are noted are as many as there are posts
pub noted-enough : (variables : List VariableState) (noted : List ℕ) (posts : List Post) → map (name_at variables) (take (length posts) noted) ≡ map (λ var. Some var) (map (λ (post : Post). post.var) posts) → length posts ≤ length noted
noted-enough variables noted posts are =
    omega (
      arith,
      length-take (length posts) noted,
      length-map (take (length posts) noted) (name_at variables),
      length-map posts (λ (post : Post). post.var),
      length-map (map (λ (post : Post). post.var) posts) (λ var. Some var),
      ap length are,
    )

-- one more may be noted behind them
pub ready-noted : (inboxes : ℕ → Inbox) (posts : List Post) (clients : List ClientState) (variables : VariablesState) (number : ℕ) → AreReady inboxes posts variables clients →
    AreReady inboxes posts (record variables { noted = variables.noted ++ number ∷ [] }) clients
ready-noted inboxes posts clients variables number ready = record {
  stand = record { clients = ready.stand.clients; heard = record { heard = ready.stand.heard.heard; latest = ready.stand.heard.latest; recipients = ready.stand.heard.recipients; known = ready.stand.heard.known } };
  noted = ap (map (name_at variables.all)) (take-append-le (length posts) variables.noted (number ∷ []) (noted-enough variables.all variables.noted posts ready.noted)) ∙ ready.noted;
}

pub noted-more : (variables : VariablesState) (vars : List (List ℕ)) (number : ℕ) (var : List ℕ) → AreNoted vars variables → name_at variables.all number ≡ Some var → AreNoted (vars ++ var ∷ []) (record variables { noted = variables.noted ++ number ∷ [] })
noted-more variables vars number var noted is =
    map-append (name_at variables.all) variables.noted (number ∷ [])
    ∙ (λ i. noted i ++ is i ∷ [])
    ∙ sym (map-append (λ var. Some var) vars (var ∷ []))

pub numbers-noted : (variables : VariablesState) (number : ℕ) (var : List ℕ) → AreNumbers variables → name_at variables.all number ≡ Some var → AreNumbers (record variables { noted = variables.noted ++ number ∷ [] })
numbers-noted variables number var are is = record {
  numbering = are.numbering;
  noted = All-push (λ n. n < length variables.all) variables.noted number are.noted (let found = named-at variables.all number var is in slice_get_within variables.all number found.0 found.1);
}
