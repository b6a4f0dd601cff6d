-- What a registration changes of what is kept of a client and of who hears the variables.
use Rattle.std.proofs.Common.{◌≡◌, ◌≢◌, ◌∙◌, ◌<◌, ◌≤◌, ◌+◌, ◌==◌, ℕ, suc, true, cond, List, [], ◌∷◌, ◌++◌, length, map, filter, Some, option_map, get_or, slice_get, slice_set, take, refl, ap, sym, subst, append-nil, append_assoc, length-append, arith, inl, inr}
use Rattle.std.specs.List.{All}
use Rattle.std.proofs.lemmas.Bool.{eq-eqb, ne_eqb}
use Rattle.std.proofs.lemmas.List.{length-map, length-set, length-take-le, map-append}
use Rattle.std.proofs.lemmas.List.Elements.{All-head, All-tail, filter-append}
use Rattle.std.proofs.lemmas.Option.{same_Some, slice_get-map, slice_get_within}
use Rattle.moos_mail.proofs.Lists.{found-below, take-next}
use Rattle.moos_post.specs.Patterns.{matches}
use Rattle.moos_db.specs.declared.registration.Registration.{Registration}
use Rattle.moos_db.specs.Subscriptions.{AreNumbers, SubscriptionState, VariableState, VariablesState}
use Rattle.moos_db.specs.Registering.{AreEach, AreEachAt, AreRoomier, HasRoomThrough, HaveRoomFor, Heard, IsAddedTo, IsRoomier, heard_at_number, heard_where, heard_through, variable_names}
use Rattle.moos_db.proofs.Changes.{AreNumbers-names, each-shown, names-at, set-cases}

-- relations place by place

pub each-refl : {X : Type 0} (R : ℕ → X → X → Type 0) (xs : List X) → ((n : ℕ) (x : X) → R n x x) → AreEachAt R xs xs
each-refl R xs same = record {
  each = refl;
  same = λ n one other is so. subst (R n one) (same_Some one other (sym is ∙ so)) (same n one);
}

pub each-then : {X : Type 0} (R S T : ℕ → X → X → Type 0) (xs ys zs : List X) → ((n : ℕ) (x y z : X) → R n x y → S n y z → T n x z) → AreEachAt R xs ys → AreEachAt S ys zs → AreEachAt T xs zs
each-then {X = X} R S T xs ys zs both first second = record {
  each = second.each ∙ first.each;
  same = λ n one other is so.
      let found : (y : X) × (slice_get ys n ≡ Some y) = found-below ys n (omega (arith, first.each, slice_get_within xs n one is)) in
      both n one found.0 other (first.same n one found.0 is found.1) (second.same n found.0 other found.1 so);
}

pub each-set : {X : Type 0} (R : ℕ → X → X → Type 0) (xs : List X) (i : ℕ) (one other : X) → ((n : ℕ) (x : X) → n ≢ i → R n x x) → slice_get xs i ≡ Some one → R i one other →
    AreEachAt R xs (slice_set xs i other)
each-set R xs i one other same there is = record {
  each = length-set xs i other;
  same = λ n before after was now. elim (set-cases xs i n other after now) [
    | inl here ↦
        let old : one ≡ before = same_Some one before (sym there ∙ ap (slice_get xs) (sym here.0) ∙ was) in
        subst (λ m. R m before after) (sym here.0) (subst (R i before) (sym here.1) (subst (λ x. R i x other) old is))
    | inr apart ↦ subst (R n before) (same_Some before after (sym was ∙ apart.1)) (same n before apart.0)
  ];
}

-- who is to hear

pub through-push : (client : ℕ) (live : Registration) (number : ℕ) (names : List (List ℕ)) (name : List ℕ) →
    heard_through client live number (names ++ name ∷ []) ≡ heard_through client live number names ++ heard_where client live (number + length names) name
through-push client live number [] name = append-nil (heard_where client live number name) ∙ (let e : number ≡ number + 0 = omega arith in ap (λ n. heard_where client live n name) e)
through-push client live number (one ∷ names) name =
    ap (λ rest. heard_where client live number one ++ rest)
    (through-push client live (suc number) names name ∙ ap (λ n. heard_through client live (suc number) names ++ heard_where client live n name) (let e : suc number + length names ≡ number + suc (length names) = omega arith in e))
    ∙ sym (append_assoc (heard_where client live number one) (heard_through client live (suc number) names) (heard_where client live (number + suc (length names)) name))

-- one variable more
pub through-next : (client : ℕ) (live : Registration) (variables : List VariableState) (k : ℕ) (variable : VariableState) → slice_get variables k ≡ Some variable →
    heard_through client live 0 (take (k + 1) (variable_names variables)) ≡ heard_through client live 0 (take k (variable_names variables)) ++ heard_where client live k variable.name
through-next client live variables k variable there =
    let named : slice_get (variable_names variables) k ≡ Some variable.name = slice_get-map (λ (one : VariableState). one.name) variables k ∙ ap (option_map (λ (one : VariableState). one.name)) there in
    let next : k + 1 ≡ suc k = omega arith in
    let far : 0 + length (take k (variable_names variables)) ≡ k = omega (arith, length-take-le k (variable_names variables) (let below : k < length (variable_names variables) = slice_get_within (variable_names variables) k variable.name named in omega arith)) in
    ap (λ n. heard_through client live 0 (take n (variable_names variables))) next
    ∙ ap (heard_through client live 0) (take-next (variable_names variables) k variable.name named)
    ∙ through-push client live 0 (take k (variable_names variables)) variable.name
    ∙ ap (λ n. heard_through client live 0 (take k (variable_names variables)) ++ heard_where client live n variable.name) far

-- room

pub roomier-self : (variable : VariableState) → IsRoomier variable variable
roomier-self variable = record { same = refl; room = omega arith }

pub roomier-more : (one other more : VariableState) → IsRoomier one other → IsRoomier other more → IsRoomier one more
roomier-more one other more first second = record {
  same = second.same ∙ ap (λ (variable : VariableState). record variable { room = more.room }) first.same;
  room = omega (arith, first.room, second.room);
}

pub roomier-set : (before after : List VariableState) (k : ℕ) (one other : VariableState) → AreEach IsRoomier before after → slice_get after k ≡ Some one → IsRoomier one other → AreEach IsRoomier before (slice_set after k other)
roomier-set before after k one other roomier there is =
    each-then (λ n. IsRoomier) (λ n. IsRoomier) (λ n. IsRoomier) before after (slice_set after k other) (λ n x y z. roomier-more x y z) roomier
    (each-set (λ n. IsRoomier) after k one other (λ n x apart. roomier-self x) there is)

pub roomier-names : (before after : List VariableState) → AreEach IsRoomier before after → variable_names after ≡ variable_names before
roomier-names before after roomier =
    each-shown (λ (variable : VariableState). variable.name) before after
    (record { each = roomier.each; same = λ n one other was now. ap (λ (variable : VariableState). variable.name) (roomier.same n one other was now).same })

pub rooms-set : (pattern : List ℕ) (more k : ℕ) (variables : List VariableState) (one other : VariableState) → slice_get variables k ≡ Some one → IsRoomier one other →
    (matches pattern one.name ≡ true → more ≤ other.room) →
    ((n : ℕ) (variable : VariableState) → n < k → slice_get variables n ≡ Some variable → matches pattern variable.name ≡ true → more ≤ variable.room) →
    (n : ℕ) (variable : VariableState) → n < k + 1 → slice_get (slice_set variables k other) n ≡ Some variable → matches pattern variable.name ≡ true → more ≤ variable.room
rooms-set pattern more k variables one other there is here before n variable below now matched = elim (set-cases variables k n other variable now) [
  | inl at ↦ subst (λ (v : VariableState). more ≤ v.room) (sym at.1) (here (ap (λ (v : VariableState). matches pattern v.name) (sym is.same ∙ sym at.1) ∙ matched))
  | inr apart ↦ before n variable (omega (arith, below, apart.0)) apart.1 matched
]

-- those who hear from now on

pub all-middle : {X : Type 0} (P : X → Type 0) (xs : List X) (x : X) (ys : List X) → All P (xs ++ x ∷ ys) → P x
all-middle P [] x ys all = All-head P x ys all
all-middle P (y ∷ xs) x ys all = all-middle P xs x ys (All-tail P y (xs ++ x ∷ ys) all)

pub at-append : (number : ℕ) (xs ys : List Heard) → heard_at_number number (xs ++ ys) ≡ heard_at_number number xs ++ heard_at_number number ys
at-append number xs ys =
    ap (map (λ (one : Heard). one.1)) (filter-append (λ (one : Heard). one.0 == number) xs ys)
    ∙ map-append (λ (one : Heard). one.1) (filter (λ (one : Heard). one.0 == number) xs) (filter (λ (one : Heard). one.0 == number) ys)

pub at-own : (number : ℕ) (subscription : SubscriptionState) (ys : List Heard) → heard_at_number number ((number, subscription) ∷ ys) ≡ subscription ∷ heard_at_number number ys
at-own number subscription ys =
    ap (λ b. map (λ (one : Heard). one.1) (cond b ((number, subscription) ∷ filter (λ (one : Heard). one.0 == number) ys) (filter (λ (one : Heard). one.0 == number) ys))) (eq-eqb number number refl)

pub at-other : (number other : ℕ) (subscription : SubscriptionState) → other ≢ number → heard_at_number other ((number, subscription) ∷ []) ≡ []
at-other number other subscription apart =
    ap (λ b. map (λ (one : Heard). one.1) (cond b ((number, subscription) ∷ []) [])) (ne_eqb number other (λ same. apart (sym same)))

added-more : (first second : List Heard) (number : ℕ) (one other more : VariableState) → IsAddedTo first number one other → IsAddedTo second number other more → IsAddedTo (first ++ second) number one more
added-more first second number one other more was now =
    let both : heard_at_number number (first ++ second) ≡ heard_at_number number first ++ heard_at_number number second = at-append number first second in
    record {
      same =
          now.same
          ∙ ap (λ (v : VariableState). record v { subscriptions = v.subscriptions ++ heard_at_number number second; room = more.room }) was.same
          ∙ ap (λ subscriptions. record one { subscriptions = subscriptions; room = more.room }) (append_assoc one.subscriptions (heard_at_number number first) (heard_at_number number second) ∙ ap (λ all. one.subscriptions ++ all) (sym both));
      room = omega (arith, was.room, now.room, ap length both, length-append (heard_at_number number first) (heard_at_number number second));
    }

pub added-nobody : (number : ℕ) (variable : VariableState) → IsAddedTo [] number variable variable
added-nobody number variable = record { same = ap (λ subscriptions. record variable { subscriptions = subscriptions }) (sym (append-nil variable.subscriptions)); room = omega arith }

added-none : (number other : ℕ) (subscription : SubscriptionState) (variable : VariableState) → other ≢ number → IsAddedTo ((number, subscription) ∷ []) other variable variable
added-none number other subscription variable apart = record {
  same = ap (λ subscriptions. record variable { subscriptions = subscriptions }) (sym (ap (λ all. variable.subscriptions ++ all) (at-other number other subscription apart) ∙ append-nil variable.subscriptions));
  room = omega arith;
}

pub added-set : (before after : List VariableState) (all : List Heard) (number : ℕ) (subscription : SubscriptionState) (one other : VariableState) → AreEachAt (IsAddedTo all) before after → slice_get after number ≡ Some one →
    other ≡ record one { subscriptions = one.subscriptions ++ subscription ∷ []; room = other.room } → one.room ≤ other.room + 1 → AreEachAt (IsAddedTo (all ++ (number, subscription) ∷ [])) before (slice_set after number other)
added-set before after all number subscription one other added there same room =
    each-then (IsAddedTo all) (IsAddedTo ((number, subscription) ∷ [])) (IsAddedTo (all ++ (number, subscription) ∷ [])) before after (slice_set after number other)
    (λ n x y z. added-more all ((number, subscription) ∷ []) n x y z) added
    (each-set (IsAddedTo ((number, subscription) ∷ [])) after number one other (λ n x apart. added-none number n subscription x apart) there (record {
      same = same ∙ ap (λ more. record one { subscriptions = one.subscriptions ++ more; room = other.room }) (sym (at-own number subscription []));
      room = omega (arith, room, ap length (at-own number subscription []));
    }))

-- there is room for the next
pub room-next : (before after : List VariableState) (all : List Heard) (number : ℕ) (subscription : SubscriptionState) (rest : List Heard) (one : VariableState) → HaveRoomFor (all ++ (number, subscription) ∷ rest) before →
    AreEachAt (IsAddedTo all) before after → slice_get after number ≡ Some one → 0 < one.room
room-next before after all number subscription rest one room added there =
    let found : (x : VariableState) × (slice_get before number ≡ Some x) = found-below before number (omega (arith, added.each, slice_get_within after number one there)) in
    let whole : heard_at_number number (all ++ (number, subscription) ∷ rest) ≡ heard_at_number number all ++ (subscription ∷ heard_at_number number rest)
    = at-append number all ((number, subscription) ∷ rest) ∙ ap (λ more. heard_at_number number all ++ more) (at-own number subscription rest) in
    omega (arith, room number found.0 found.1, (added.same number found.0 one found.1 there).room, ap length whole, length-append (heard_at_number number all) (subscription ∷ heard_at_number number rest))

-- the table of numbers is that of the names alone
pub numbers-kept : (before after : VariablesState) → variable_names after.all ≡ variable_names before.all → after.numbers ≡ before.numbers → after.noted ≡ before.noted → AreNumbers before → AreNumbers after
numbers-kept before after names =
    AreNumbers-names before after
    (sym (length-map after.all (λ (one : VariableState). one.name)) ∙ ap length names ∙ length-map before.all (λ (one : VariableState). one.name)) (names-at before.all after.all names)

pub added-names : (all : List Heard) (before after : List VariableState) → AreEachAt (IsAddedTo all) before after → variable_names after ≡ variable_names before
added-names all before after added =
    each-shown (λ (variable : VariableState). variable.name) before after
    (record { each = added.each; same = λ n one other was now. ap (λ (variable : VariableState). variable.name) (added.same n one other was now).same })

pub set-names : (variables : List VariableState) (place : ℕ) (one other : VariableState) → slice_get variables place ≡ Some one → other.name ≡ one.name → variable_names (slice_set variables place other) ≡ variable_names variables
set-names variables place one other there same =
    each-shown (λ (variable : VariableState). variable.name) variables (slice_set variables place other)
    (each-set (λ n before after. after.name ≡ before.name) variables place one other (λ n x apart. refl) there same)

-- the number of a variable that is noted
pub noted-below : (variables : VariablesState) (number place : ℕ) → AreNumbers variables → number < length variables.noted → place ≡ get_or variables.noted number place → place < length variables.all
noted-below variables number place are below is = let h : get_or variables.noted number place < length variables.all = are.noted number place below in omega arith

-- all of them

pub roomier-then : (one other more : VariablesState) → AreRoomier one other → AreRoomier other more → AreRoomier one more
roomier-then one other more first second = record {
  all = each-then (λ n. IsRoomier) (λ n. IsRoomier) (λ n. IsRoomier) one.all other.all more.all (λ n x y z. roomier-more x y z) first.all second.all;
  numbers = second.numbers ∙ first.numbers;
  noted = second.noted ∙ first.noted;
}

pub roomier-same : (variables : VariablesState) → AreRoomier variables variables
roomier-same variables = record { all = each-refl (λ n. IsRoomier) variables.all (λ n x. roomier-self x); numbers = refl; noted = refl }

pub room-kept : (more : ℕ) (pattern : List ℕ) (before after : List VariableState) → AreEach IsRoomier before after → HasRoomThrough more pattern before → HasRoomThrough more pattern after
room-kept more pattern before after roomier room number variable there matched =
    let found : (x : VariableState) × (slice_get before number ≡ Some x) = found-below before number (omega (arith, roomier.each, slice_get_within after number variable there)) in
    let is : IsRoomier found.0 variable = roomier.same number found.0 variable found.1 there in
    let name : variable.name ≡ found.0.name = ap (λ (v : VariableState). v.name) is.same in
    omega (arith, is.room, room number found.0 found.1 (ap (matches pattern) (sym name) ∙ matched))
