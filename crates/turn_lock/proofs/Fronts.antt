-- What a history begins with.
use Rattle.std.proofs.Common.{◌≡◌, ◌≤◌, Bool, true, false, cond, List, [], ◌∷◌, ◌++◌, drop, get_or, length, nat_lt, append-nil, append_assoc, sym, refl, ap, ◌∙◌, arith}
use Rattle.std.proofs.lemmas.Bool.Decides.{nat_tests}
use Rattle.turn_lock.specs.Passes.{Begins, longer}

-- of two fronts of one list the longer begins with the shorter
shorter_begins : {E : Type 0} (xs ys r q : List E) → xs ++ r ≡ ys ++ q → length xs ≤ length ys → Begins ys xs
shorter_begins [] ys r q e short = (ys, refl)
shorter_begins (x ∷ xs) [] r q e short = absurd (omega arith)
shorter_begins (x ∷ xs) (y ∷ ys) r q e short =
    let rest = shorter_begins xs ys r q (ap (drop 1) e) (omega arith) in
    (rest.0, λ i. sym (ap (λ l. get_or l 0 x) e) i ∷ rest.1 i)

-- a list begins with itself
pub begins_itself : {E : Type 0} (xs : List E) → Begins xs xs
begins_itself xs = ([], sym (append-nil xs))

-- of two fronts of one list, both begin the longer, which is a front too
pub longer_of : {E : Type 0} (log xs ys : List E) → Begins log xs → Begins log ys → Begins log (longer xs ys) × Begins (longer xs ys) xs × Begins (longer xs ys) ys
longer_of {E} log xs ys h k = by (nat_lt (length xs) (length ys)) refl
  where
    by : (b : Bool) → nat_lt (length xs) (length ys) ≡ b → Begins log (cond b ys xs) × Begins (cond b ys xs) xs × Begins (cond b ys xs) ys
    by true e = (k, shorter_begins xs ys h.0 k.0 (sym h.1 ∙ k.1) (grind (arith, nat_tests)), begins_itself ys)
    by false e = (h, begins_itself xs, shorter_begins ys xs k.0 h.0 (sym k.1 ∙ h.1) (grind (arith, nat_tests)))

-- what begins with what begins
pub begins_on : {E : Type 0} (a b c : List E) → Begins b a → Begins c b → Begins c a
begins_on a b c one two = (one.0 ++ two.0, two.1 ∙ ap (λ front. front ++ two.0) one.1 ∙ append_assoc a one.0 two.0)

-- the history goes on
pub longer_begins : {E : Type 0} (log front added : List E) → Begins log front → Begins (log ++ added) front
longer_begins log front added h = (h.0 ++ added, ap (λ l. l ++ added) h.1 ∙ append_assoc front h.0 added)
