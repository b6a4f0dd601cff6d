-- A registration is live before an entry just where it stands at a place of an earlier one, and nothing ends it since.
use Rattle.std.proofs.Common.{◌≡◌, ℕ, zero, suc, ◌+◌, ◌⊎◌, inl, inr, Bool, true, false, cond, not, List, [], ◌∷◌, map, filter, take, drop, slice_get, Some, None, All, Contains, refl, ap, sym, ◌∙◌, arith, subst, if◌then◌else◌}
use Rattle.std.proofs.lemmas.Bool.{not-true}
use Rattle.std.proofs.lemmas.List.Elements.{All-append, All-cons, All-contains, All-head, All-map, All-nil, All-tail, All-weaker, Contains-append_left, Contains-append_right}
use Rattle.std.specs.List.{list_any}
use Rattle.moos_post.specs.declared.entry.Entry.{Entry}
use Rattle.moos_post.specs.declared.registration.Reg.{Reg}
use Rattle.moos_post.specs.History.{History}
use Rattle.moos_mail.specs.Registrations.{ends, is_alike, IsLive, last_of_each, live_before, live_from, MadeReg, made_at, regs_of}

-- what a list contains

in-here : {X : Type 0} (x : X) (xs : List X) → Contains (x ∷ xs) x
in-here x xs = (0, omega arith, refl)

in-later : {X : Type 0} (y : X) (xs : List X) (x : X) → Contains xs x → Contains (y ∷ xs) x
in-later y xs x (k, within, is) = (suc k, omega (arith, within), is)

in-cases : {X : Type 0} (y : X) (xs : List X) (x : X) → Contains (y ∷ xs) x → (y ≡ x) ⊎ Contains xs x
in-cases y xs x (zero, within, is) = inl is
in-cases y xs x (suc k, within, is) = inr (k, omega (arith, within), is)

in-map : {X Y : Type 0} (f : X → Y) (xs : List X) (x : X) → Contains xs x → Contains (map f xs) (f x)
in-map f [] x (k, within, is) = absurd (omega (arith, within))
in-map f (y ∷ xs) x there =
    elim (in-cases y xs x there) [
      | inl same ↦ subst (λ z. Contains (f y ∷ map f xs) (f z)) same (in-here (f y) (map f xs))
      | inr later ↦ in-later (f y) (map f xs) (f x) (in-map f xs x later)
    ]

in-filter : {X : Type 0} (p : X → Bool) (xs : List X) (x : X) → p x ≡ true → Contains xs x → Contains (filter p xs) x
in-filter p [] x passes (k, within, is) = absurd (omega (arith, within))
in-filter p (y ∷ xs) x passes there =
    elim (in-cases y xs x there) [
      | inl same ↦ subst (λ b. Contains (cond b (y ∷ filter p xs) (filter p xs)) x) (sym (ap p same ∙ passes)) (subst (Contains (y ∷ filter p xs)) same (in-here y (filter p xs)))
      | inr later ↦ either (p y) (in-filter p xs x passes later)
    ]
  where
    either : (kept : Bool) → Contains (filter p xs) x → Contains (cond kept (y ∷ filter p xs) (filter p xs)) x
    either true rest = in-later y (filter p xs) x rest
    either false rest = rest

-- what a filter keeps
all-kept : {X : Type 0} (p : X → Bool) (P Q : X → Type 0) (xs : List X) → ((x : X) → Q x → p x ≡ true → P x) → All Q xs → All P (filter p xs)
all-kept p P Q [] keeps all = All-nil P
all-kept p P Q (x ∷ xs) keeps all = through (p x) refl (all-kept p P Q xs keeps (All-tail Q x xs all))
  where
    through : (passes : Bool) → p x ≡ passes → All P (filter p xs) → All P (cond passes (x ∷ filter p xs) (filter p xs))
    through true is rest = All-cons P x (filter p xs) (keeps x (All-head Q x xs all) is) rest
    through false is rest = rest

-- places of a list of registrations

-- the registration stands at a place of the list, and at no later one stands one like it
record IsLast (regs : List Reg) (reg : Reg) : Type 0 where
  place : ℕ
  there : slice_get regs place ≡ Some reg
  last : list_any (is_alike reg) (drop (suc place) regs) ≡ false

last-later : (one : Reg) (regs : List Reg) (reg : Reg) → IsLast regs reg → IsLast (one ∷ regs) reg
last-later one regs reg is = record { place = suc is.place; there = is.there; last = is.last }

all-last : (regs : List Reg) → All (IsLast regs) (last_of_each regs)
all-last [] = All-nil (IsLast [])
all-last (reg ∷ later) = through (list_any (is_alike reg) later) refl (All-weaker (IsLast later) (IsLast (reg ∷ later)) (last-later reg later) (last_of_each later) (all-last later))
  where
    through : (again : Bool) → list_any (is_alike reg) later ≡ again → All (IsLast (reg ∷ later)) (last_of_each later) → All (IsLast (reg ∷ later)) (if again then last_of_each later else reg ∷ last_of_each later)
    through true is rest = rest
    through false is rest = All-cons (IsLast (reg ∷ later)) reg (last_of_each later) (record { place = 0; there = refl; last = is }) rest

in-last : (regs : List Reg) (reg : Reg) (place : ℕ) → slice_get regs place ≡ Some reg → list_any (is_alike reg) (drop (suc place) regs) ≡ false → Contains (last_of_each regs) reg
in-last [] reg place there last = absurd (let e : None ≡ Some reg = there in cc)
in-last (one ∷ regs) reg zero there last =
    let same : one ≡ reg = (let e : Some one ≡ Some reg = there in cc) in
    subst (λ again. Contains (if again then last_of_each regs else one ∷ last_of_each regs) reg) (sym (ap (λ r. list_any (is_alike r) regs) same ∙ last))
    (subst (Contains (one ∷ last_of_each regs)) same (in-here one (last_of_each regs)))
in-last (one ∷ regs) reg (suc place) there last = either (list_any (is_alike one) regs) (in-last regs reg place there last)
  where
    either : (again : Bool) → Contains (last_of_each regs) reg → Contains (if again then last_of_each regs else one ∷ last_of_each regs) reg
    either true rest = rest
    either false rest = in-later one (last_of_each regs) reg rest

-- places of entries

-- the same of these entries, the first of which has this number
record IsLiveFrom (client number : ℕ) (entries : History) (made : MadeReg) : Type 0 where
  i : ℕ
  entry : Entry
  number_is : made.entry ≡ number + i
  at : slice_get entries i ≡ Some entry
  stands : IsLast (regs_of client entry) made.reg
  stays : list_any (ends client made.reg) (drop (suc i) entries) ≡ false

all-live : (client number : ℕ) (entries : History) → All (IsLiveFrom client number entries) (live_from client number entries)
all-live client number [] = All-nil (IsLiveFrom client number [])
all-live client number (entry ∷ later) =
    let stays : Reg → Bool = λ reg. not (list_any (ends client reg) later) in
    let own : All (λ reg. IsLiveFrom client number (entry ∷ later) (made_at number reg)) (filter stays (last_of_each (regs_of client entry)))
    = all-kept stays (λ reg. IsLiveFrom client number (entry ∷ later) (made_at number reg)) (IsLast (regs_of client entry)) (last_of_each (regs_of client entry))
    (λ reg last passes. record { i = 0; entry = entry; number_is = omega arith; at = refl; stands = last; stays = not-true (list_any (ends client reg) later) passes }) (all-last (regs_of client entry)) in
    All-append (IsLiveFrom client number (entry ∷ later)) (map (made_at number) (filter stays (last_of_each (regs_of client entry)))) (live_from client (suc number) later)
    (All-map (IsLiveFrom client number (entry ∷ later)) (made_at number) (filter stays (last_of_each (regs_of client entry))) own)
    (All-weaker (IsLiveFrom client (suc number) later) (IsLiveFrom client number (entry ∷ later))
    (λ made is. record { i = suc is.i; entry = is.entry; number_is = (let e : made.entry ≡ suc number + is.i = is.number_is in omega (arith, e)); at = is.at; stands = is.stands; stays = is.stays })
    (live_from client (suc number) later) (all-live client (suc number) later))

in-live : (client number : ℕ) (entries : History) (made : MadeReg) (i : ℕ) (entry : Entry) (place : ℕ) → made.entry ≡ number + i → slice_get entries i ≡ Some entry →
    slice_get (regs_of client entry) place ≡ Some made.reg → list_any (is_alike made.reg) (drop (suc place) (regs_of client entry)) ≡ false →
    list_any (ends client made.reg) (drop (suc i) entries) ≡ false → Contains (live_from client number entries) made
in-live client number [] made i entry place is at there last stays = absurd (let e : None ≡ Some entry = at in cc)
in-live client number (one ∷ later) made zero entry place is at there last stays =
    let same : one ≡ entry = (let e : Some one ≡ Some entry = at in cc) in
    let kept : Reg → Bool = λ reg. not (list_any (ends client reg) later) in
    let here : number ≡ made.entry = omega (arith, is) in
    let inside : Contains (filter kept (last_of_each (regs_of client one))) made.reg
    = in-filter kept (last_of_each (regs_of client one)) made.reg (ap not stays)
    (subst (λ e. Contains (last_of_each (regs_of client e)) made.reg) (sym same) (in-last (regs_of client entry) made.reg place there last)) in
    Contains-append_left (map (made_at number) (filter kept (last_of_each (regs_of client one)))) (live_from client (suc number) later) made
    (subst (λ n. Contains (map (made_at number) (filter kept (last_of_each (regs_of client one)))) (made_at n made.reg)) here
    (in-map (made_at number) (filter kept (last_of_each (regs_of client one))) made.reg inside))
in-live client number (one ∷ later) made (suc i) entry place is at there last stays =
    Contains-append_right (map (made_at number) (filter (λ reg. not (list_any (ends client reg) later)) (last_of_each (regs_of client one)))) (live_from client (suc number) later) made
    (in-live client (suc number) later made i entry place (let e : made.entry ≡ number + suc i = is in omega (arith, e)) at there last stays)

-- What is live before entry k, by places.
pub live-places : (client : ℕ) (history : History) (k : ℕ) (made : MadeReg) → Contains (live_before client history k) made → IsLive client history k made
live-places client history k made inside =
    let is : IsLiveFrom client 0 (take k history) made = All-contains (IsLiveFrom client 0 (take k history)) (live_before client history k) made (all-live client 0 (take k history)) inside in
    let same : is.i ≡ made.entry = omega (arith, is.number_is) in
    record {
      entry = is.entry;
      at = subst (λ n. slice_get (take k history) n ≡ Some is.entry) same is.at;
      place = is.stands.place;
      there = is.stands.there;
      last = is.stands.last;
      stays = subst (λ n. list_any (ends client made.reg) (drop (suc n) (take k history)) ≡ false) same is.stays;
    }

pub places-live : (client : ℕ) (history : History) (k : ℕ) (made : MadeReg) → IsLive client history k made → Contains (live_before client history k) made
places-live client history k made is = in-live client 0 (take k history) made made.entry is.entry is.place (omega arith) is.at is.there is.last is.stays
