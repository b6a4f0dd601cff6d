-- Lists of which one or each element is changed, the names of variables, and one client's inbox changed among all.
use Rattle.std.proofs.Common.{ℕ, ◌≡◌, ◌∙◌, ◌<◌, ◌≢◌, ◌⊎◌, ◌==◌, zero, suc, List, [], ◌∷◌, length, map, set, get_or, slice_get, Option, None, Some, option_map, inl, inr, refl, ap, sym, subst, arith, if◌then◌else◌}
use Rattle.std.specs.List.{All}
use Rattle.std.proofs.lemmas.Bool.{cases_Bool, eq-eqb, eqb-false, eqb-true, ne_eqb}
use Rattle.std.proofs.lemmas.List.{length-set}
use Rattle.std.proofs.lemmas.Option.{get_or_from_slice_get, none-some, same_Some, slice_get-get_or, slice_get-map, slice_get_within}
use Rattle.moos_post.specs.declared.value.Post.{Post}
use Rattle.moos_post.specs.Delivery.{Inbox, was_mailed}
use Rattle.moos_db.specs.Clients.{AreClients, ClientState, IsClient}
use Rattle.moos_db.specs.Subscriptions.{AreHeard, AreKnown, AreNoted, AreNumbers, HasLatest, HasRecipients, IsHeardBy, VariableState, VariablesState, is_recipient, name_at, with_inbox}
use Rattle.moos_db.specs.Registering.{AreEach, AreEachAt, variable_names}
use Rattle.moos_db.specs.Tables.{latest_post_of, number_of}

-- lists

-- what stands in a list in which one element was replaced
pub set-at : {X : Type 0} (xs : List X) (i : ℕ) (a : X) → i < length xs → slice_get (set xs i a) i ≡ Some a
set-at [] i a within = absurd (omega (arith, within))
set-at (x ∷ xs) zero a within = refl
set-at (x ∷ xs) (suc i) a within = set-at xs i a (omega (arith, within))

pub set-other : {X : Type 0} (xs : List X) (i k : ℕ) (a : X) → i ≢ k → slice_get (set xs i a) k ≡ slice_get xs k
set-other [] i k a apart = refl
set-other (x ∷ xs) zero zero a apart = absurd (apart refl)
set-other (x ∷ xs) zero (suc k) a apart = refl
set-other (x ∷ xs) (suc i) zero a apart = refl
set-other (x ∷ xs) (suc i) (suc k) a apart = set-other xs i k a (λ same. apart (ap suc same))

-- what stands somewhere after a write: the value written, or what stood there
pub set-cases : {X : Type 0} (xs : List X) (i j : ℕ) (v x : X) → slice_get (set xs i v) j ≡ Some x → ((j ≡ i) × (x ≡ v)) ⊎ ((j ≢ i) × (slice_get xs j ≡ Some x))
set-cases xs i j v x there = elim (cases_Bool (i == j)) [
  | inl same ↦
      let at : i ≡ j = eqb-true i j same in
      let own : slice_get (set xs i v) i ≡ Some x = ap (slice_get (set xs i v)) at ∙ there in
      inl (sym at, same_Some x v (sym own ∙ set-at xs i v (omega (arith, slice_get_within (set xs i v) i x own, length-set xs i v))))
  | inr apart ↦ inr ((λ same. eqb-false i j apart (sym same)), sym (set-other xs i j v (eqb-false i j apart)) ∙ there)
]

pub all-at : {X : Type 0} (P : X → Type 0) (xs : List X) (i : ℕ) (x : X) → All P xs → slice_get xs i ≡ Some x → P x
all-at P xs i x all is = subst P (get_or_from_slice_get xs i x x is) (all i x (slice_get_within xs i x is))

pub all-set : {X : Type 0} (P Q : X → Type 0) (xs : List X) (i : ℕ) (new : X) → Q new → ((k : ℕ) (x : X) → slice_get xs k ≡ Some x → k ≢ i → P x → Q x) → All P xs → All Q (set xs i new)
all-set P Q xs i new here others all k d within = elim (set-cases xs i k new (get_or (set xs i new) k d) (slice_get-get_or (set xs i new) k d within)) [
  | inl same ↦ subst Q (sym same.1) here
  | inr apart ↦ others k (get_or (set xs i new) k d) apart.1 apart.0 (all-at P xs k (get_or (set xs i new) k d) all apart.1)
]

-- what holds of all, holds of all after a change of each that keeps it
pub All-each : {X : Type 0} (R : ℕ → X → X → Type 0) (P Q : X → Type 0) (before after : List X) → AreEachAt R before after → ((n : ℕ) (one other : X) → R n one other → P one → Q other) → All P before → All Q after
All-each R P Q before after changed keeps all = λ k d below.
    let lower : k < length before = omega (arith, below, changed.each) in
    keeps k (get_or before k d) (get_or after k d) (changed.same k (get_or before k d) (get_or after k d) (slice_get-get_or before k d lower) (slice_get-get_or after k d below)) (all k d lower)

-- the same of what they show, place by place, is the same of all that they show
pub each-shown : {X Y : Type 0} (show : X → Y) (xs ys : List X) → AreEach (λ one other. show other ≡ show one) xs ys → map show ys ≡ map show xs
each-shown show [] [] each = refl
each-shown show [] (y ∷ ys) each = absurd (let e : suc (length ys) ≡ 0 = each.each in omega arith)
each-shown show (x ∷ xs) [] each = absurd (let e : 0 ≡ suc (length xs) = each.each in omega arith)
each-shown show (x ∷ xs) (y ∷ ys) each =
    ap (λ one. one ∷ map show ys) (each.same 0 x y refl refl)
    ∙ ap (λ rest. show x ∷ rest) (each-shown show xs ys (record { each = (let e : suc (length ys) ≡ suc (length xs) = each.each in omega arith); same = λ n. each.same (suc n) }))

-- a change of each of the variables that leaves their names

pub names-at : (before after : List VariableState) → variable_names after ≡ variable_names before → (number : ℕ) → name_at after number ≡ name_at before number
names-at before after names number =
    sym (slice_get-map (λ (one : VariableState). one.name) after number) ∙ ap (λ list. slice_get list number) names ∙ slice_get-map (λ (one : VariableState). one.name) before number

pub names-each : (R : VariableState → VariableState → Type 0) (before after : List VariableState) → ((one other : VariableState) → R one other → other.name ≡ one.name) → AreEach R before after →
    (number : ℕ) → name_at after number ≡ name_at before number
names-each R before after same changed =
    names-at before after (each-shown (λ (one : VariableState). one.name) before after (record { each = changed.each; same = λ n one other was is. same one other (changed.same n one other was is) }))

pub AreNoted-names : (vars : List (List ℕ)) (before after : VariablesState) → ((number : ℕ) → name_at after.all number ≡ name_at before.all number) → after.noted ≡ before.noted → AreNoted vars before → AreNoted vars after
AreNoted-names vars before after names same noted =
    ap (map (name_at after.all)) same ∙ ap (λ (name : ℕ → Option (List ℕ)). map name before.noted) (λ i number. names number i) ∙ noted

pub named-at : (all : List VariableState) (number : ℕ) (var : List ℕ) → name_at all number ≡ Some var → (variable : VariableState) × (slice_get all number ≡ Some variable) × (variable.name ≡ var)
named-at all number var is = through (slice_get all number) refl is
  where
    through : (found : Option VariableState) → slice_get all number ≡ found → option_map (λ (v : VariableState). v.name) found ≡ Some var → (variable : VariableState) × (slice_get all number ≡ Some variable) × (variable.name ≡ var)
    through None there is = absurd (none-some var is)
    through (Some variable) there is = (variable, there, same_Some variable.name var is)

pub AreNumbers-names : (before after : VariablesState) → length after.all ≡ length before.all → ((number : ℕ) → name_at after.all number ≡ name_at before.all number) → after.numbers ≡ before.numbers → after.noted ≡ before.noted →
    AreNumbers before → AreNumbers after
AreNumbers-names before after each names table noted numbers = record {
  numbering = record {
    each = λ number variable there.
        let old = named-at before.all number variable.name (sym (names number) ∙ ap (option_map (λ (v : VariableState). v.name)) there) in
        (λ i. number_of (sym old.2 i) (table i)) ∙ numbers.numbering.each number old.0 old.1;
    only = λ number var is. names number ∙ numbers.numbering.only number var (ap (number_of var) (sym table) ∙ is);
  };
  noted = subst (All (λ number. number < length after.all)) (sym noted) (subst (λ n. All (λ number. number < n) before.noted) (sym each) numbers.noted);
}

-- the name of the variable that is noted of a post is that of these that stands there
pub name-noted : (vars : List (List ℕ)) (variables : VariablesState) (post number : ℕ) (variable : VariableState) → slice_get variables.noted post ≡ Some number → slice_get variables.all number ≡ Some variable →
    AreNoted vars variables → slice_get vars post ≡ Some variable.name
name-noted vars variables post number variable there at noted =
    through (slice_get vars post) refl
    (ap (λ found. Some (option_map (λ (v : VariableState). v.name) found)) (sym at)
    ∙ ap (option_map (name_at variables.all)) (sym there)
    ∙ sym (slice_get-map (name_at variables.all) variables.noted post)
    ∙ ap (λ list. slice_get list post) noted
    ∙ slice_get-map (λ var. Some var) vars post)
  where
    through : (found : Option (List ℕ)) → slice_get vars post ≡ found → Some (Some variable.name) ≡ option_map (λ var. Some var) found → slice_get vars post ≡ Some variable.name
    through None is named = absurd (let e : Some (Some variable.name) ≡ None = named in cc)
    through (Some var) is named = is ∙ (let e : Some (Some variable.name) ≡ Some (Some var) = named in cc)

-- a variable is heard as the inboxes now say, where it was heard as they said, and its latest post is the same and was mailed to the same
pub record IsHeardSo (clients : ℕ) (inboxes now : ℕ → Inbox) (one other : VariableState) : Type 0 where
  pub name : other.name ≡ one.name
  pub latest : other.latest ≡ one.latest
  pub recipients : other.recipients ≡ one.recipients
  pub heard : IsHeardBy clients inboxes one → IsHeardBy clients now other

pub heard-changed : (clients : ℕ) (inboxes now : ℕ → Inbox) (posts : List Post) (before after : VariablesState) → AreEach (IsHeardSo clients inboxes now) before.all after.all →
    ((client : ℕ) → (now client).mailed ≡ (inboxes client).mailed) → AreKnown clients now after.numbers → AreHeard clients inboxes posts before → AreHeard clients now posts after
heard-changed clients inboxes now posts before after each mailed known are = record {
  heard = All-each (λ n. IsHeardSo clients inboxes now) (IsHeardBy clients inboxes) (IsHeardBy clients now) before.all after.all each (λ n one other so. so.heard) are.heard;
  latest = All-each (λ n. IsHeardSo clients inboxes now) (HasLatest posts) (HasLatest posts) before.all after.all each (λ n one other so latest. so.latest ∙ latest ∙ ap (λ name. latest_post_of name posts) (sym so.name)) are.latest;
  recipients = All-each (λ n. IsHeardSo clients inboxes now) (HasRecipients clients inboxes) (HasRecipients clients now) before.all after.all each
      (λ n one other so has. record {
        each = ap length so.recipients ∙ has.each;
        mailed = λ client number below latest.
            ap (λ marks. is_recipient marks client) so.recipients ∙ has.mailed client number below (sym so.latest ∙ latest) ∙ ap (was_mailed number) (sym (mailed client));
      }) are.recipients;
  known = known;
}

-- one client's inbox is changed

module _ (client : ℕ) (change : Inbox → Inbox) (inboxes : ℕ → Inbox) where
  pub at-client : with_inbox client change inboxes client ≡ change (inboxes client)
  at-client = ap (λ b. if b then change (inboxes client) else inboxes client) (eq-eqb client client refl)

  pub at-others : (number : ℕ) → number ≢ client → with_inbox client change inboxes number ≡ inboxes number
  at-others number apart = ap (λ b. if b then change (inboxes number) else inboxes number) (ne_eqb client number (λ same. apart (sym same)))

  -- what holds of it, and of each other, holds of all
  pub at-each : (P : ℕ → Inbox → Type 0) → P client (change (inboxes client)) → ((number : ℕ) → number ≢ client → P number (inboxes number)) → (number : ℕ) → P number (with_inbox client change inboxes number)
  at-each P own others number = elim (cases_Bool (client == number)) [
    | inl same ↦ subst (λ n. P n (with_inbox client change inboxes n)) (eqb-true client number same) (subst (P client) (sym at-client) own)
    | inr apart ↦
        let other : number ≢ client = λ same. eqb-false client number apart (sym same) in
        subst (P number) (sym (at-others number other)) (others number other)
  ]

  -- so does what is the same of all
  pub all-same : (other : ℕ → Inbox) → change (inboxes client) ≡ other client → ((number : ℕ) → number ≢ client → inboxes number ≡ other number) → with_inbox client change inboxes ≡ other
  all-same other own others = λ i number. at-each (λ n inbox. inbox ≡ other n) own others number i

  pub AreClients-set : (clients : List ClientState) (other : ClientState) → IsClient (change (inboxes client)) other → AreClients inboxes clients → AreClients (with_inbox client change inboxes) (set clients client other)
  AreClients-set clients other own all number one there = elim (set-cases clients client number other one there) [
    | inl same ↦ subst (λ n. IsClient (with_inbox client change inboxes n) one) (sym same.0) (subst (λ inbox. IsClient inbox one) (sym at-client) (subst (IsClient (change (inboxes client))) (sym same.1) own))
    | inr apart ↦ subst (λ inbox. IsClient inbox one) (sym (at-others number apart.0)) (all number one apart.1)
  ]

-- changed twice
pub changed-twice : (client : ℕ) (first second : Inbox → Inbox) (inboxes : ℕ → Inbox) → with_inbox client second (with_inbox client first inboxes) ≡ with_inbox client (λ inbox. second (first inbox)) inboxes
changed-twice client first second inboxes =
    all-same client second (with_inbox client first inboxes) (with_inbox client (λ inbox. second (first inbox)) inboxes)
    (ap second (at-client client first inboxes) ∙ sym (at-client client (λ inbox. second (first inbox)) inboxes))
    (λ number apart. at-others client first inboxes number apart ∙ sym (at-others client (λ inbox. second (first inbox)) inboxes number apart))
