-- Which registrations are live: one entry more ends some and makes others.
use Rattle.std.proofs.Common.{◌≡◌, ℕ, suc, ◌+◌, ◌≤◌, Bool, true, false, cond, ◌||◌, not, List, [], ◌∷◌, ◌++◌, append_assoc, append-nil, length, map, filter, fold, take, slice_get, Some, refl, ap, sym, ◌∙◌, arith, if◌then◌else◌}
use Rattle.std.proofs.lemmas.List.{length-take-le}
use Rattle.std.proofs.lemmas.List.Elements.{filter-append}
use Rattle.std.specs.List.{list_any}
use Rattle.moos_post.specs.declared.entry.Entry.{Entry}
use Rattle.moos_post.specs.declared.registration.Reg.{Reg}
use Rattle.moos_post.specs.Delivery.{Live, with_reg, without_patterns}
use Rattle.moos_post.specs.History.{History}
use Rattle.moos_mail.specs.Registrations.{MadeReg, made_at, is_alike, regs_of, ends, last_of_each, live_from, live_before}
use Rattle.moos_mail.proofs.Lists.{filter-all, filter-map, list_any-push, take-next}

-- what neither test finds
filter-neither : {X : Type 0} (p q : X → Bool) (xs : List X) → filter (λ x. not (p x || q x)) xs ≡ filter (λ x. not (q x)) (filter (λ x. not (p x)) xs)
filter-neither p q [] = refl
filter-neither p q (x ∷ xs) = through (p x) (filter-neither p q xs)
  where
    through : (found : Bool) → filter (λ y. not (p y || q y)) xs ≡ filter (λ y. not (q y)) (filter (λ y. not (p y)) xs) → cond (not (found || q x)) (x ∷ filter (λ y. not (p y || q y)) xs) (filter (λ y. not (p y || q y)) xs)
        ≡ filter (λ y. not (q y)) (cond (not found) (x ∷ filter (λ y. not (p y)) xs) (filter (λ y. not (p y)) xs))
    through true rest = rest
    through false rest = ap (λ more. cond (not (q x)) (x ∷ more) more) rest

-- live registrations

-- One entry more ends some of the live registrations, and makes new ones.
pub live-push : (client number : ℕ) (history : History) (entry : Entry) →
    live_from client number (history ++ entry ∷ []) ≡ filter (λ made. not (ends client made.reg entry)) (live_from client number history) ++ map (made_at (number + length history)) (last_of_each (regs_of client entry))
live-push client number [] entry =
    append-nil (map (made_at number) (filter (λ reg. not false) (last_of_each (regs_of client entry))))
    ∙ ap (map (made_at number)) (filter-all (λ reg. not false) (last_of_each (regs_of client entry)) (λ reg. refl))
    ∙ ap (λ n. map (made_at n) (last_of_each (regs_of client entry))) (let e : number ≡ number + 0 = omega arith in e)
live-push client number (one ∷ history) entry =
    let own : List Reg = last_of_each (regs_of client one) in
    let kept : List Reg = filter (λ reg. not (list_any (ends client reg) history)) own in
    let new : List MadeReg = map (made_at (suc number + length history)) (last_of_each (regs_of client entry)) in
    let stays : MadeReg → Bool = λ made. not (ends client made.reg entry) in
    ap (λ regs. map (made_at number) regs ++ live_from client (suc number) (history ++ entry ∷ []))
    (ap (λ (test : Reg → Bool). filter (λ reg. not (test reg)) own) (λ i reg. list_any-push (ends client reg) history entry i) ∙ filter-neither (λ reg. list_any (ends client reg) history) (λ reg. ends client reg entry) own)
    ∙ ap (λ mades. mades ++ live_from client (suc number) (history ++ entry ∷ [])) (sym (filter-map stays (made_at number) kept))
    ∙ ap (λ rest. filter stays (map (made_at number) kept) ++ rest) (live-push client (suc number) history entry)
    ∙ sym (append_assoc (filter stays (map (made_at number) kept)) (filter stays (live_from client (suc number) history)) new)
    ∙ ap (λ old. old ++ new) (sym (filter-append stays (map (made_at number) kept) (live_from client (suc number) history)))
    ∙ ap (λ n. filter stays (live_from client number (one ∷ history)) ++ map (made_at n) (last_of_each (regs_of client entry))) (let e : suc number + length history ≡ number + suc (length history) = omega arith in e)

pub live-next : (client : ℕ) (history : History) (k : ℕ) (entry : Entry) → k ≤ length history → slice_get history k ≡ Some entry →
    live_before client history (suc k) ≡ filter (λ made. not (ends client made.reg entry)) (live_before client history k) ++ map (made_at k) (last_of_each (regs_of client entry))
live-next client history k entry within there =
    ap (live_from client 0) (take-next history k entry there) ∙ live-push client 0 (take k history) entry
    ∙ ap (λ n. filter (λ made. not (ends client made.reg entry)) (live_before client history k) ++ map (made_at n) (last_of_each (regs_of client entry)))
    (let e : length (take k history) ≡ k = length-take-le k history within in let e' : 0 + length (take k history) ≡ k = omega arith in e')

-- a registration that is made with nothing come through it
abbrev pub new_live : ℕ → Reg → Live
new_live entry reg = record { reg = reg; made = entry; came = [] }

-- What a Register entry makes of the live registrations.
pub lives-regs : (entry : ℕ) (lives : List Live) (regs : List Reg) →
    fold (with_reg entry) lives regs ≡ filter (λ live. not (list_any (is_alike live.reg) regs)) lives ++ map (new_live entry) (last_of_each regs)
lives-regs entry lives [] = sym (append-nil (filter (λ live. not false) lives) ∙ filter-all (λ live. not false) lives (λ live. refl))
lives-regs entry lives (reg ∷ regs) =
    let later : Live → Bool = λ live. not (list_any (is_alike live.reg) regs) in
    lives-regs entry (without_patterns reg.var reg.source lives ++ new_live entry reg ∷ []) regs
    ∙ ap (λ old. old ++ map (new_live entry) (last_of_each regs))
    (filter-append later (without_patterns reg.var reg.source lives) (new_live entry reg ∷ [])
    ∙ ap (λ old. old ++ filter later (new_live entry reg ∷ [])) (sym (filter-neither (λ live. is_alike live.reg reg) (λ live. list_any (is_alike live.reg) regs) lives)))
    ∙ append_assoc (filter (λ live. not (list_any (is_alike live.reg) (reg ∷ regs))) lives) (filter later (new_live entry reg ∷ [])) (map (new_live entry) (last_of_each regs))
    ∙ ap (λ new. filter (λ live. not (list_any (is_alike live.reg) (reg ∷ regs))) lives ++ new) (through (list_any (is_alike reg) regs))
  where
    through : (again : Bool) → cond (not again) (new_live entry reg ∷ []) [] ++ map (new_live entry) (last_of_each regs) ≡ map (new_live entry) (if again then last_of_each regs else reg ∷ last_of_each regs)
    through true = refl
    through false = refl
