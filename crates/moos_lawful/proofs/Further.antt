-- Clients that answer behind the first: a schedule with more of them is wider than one with the first alone.
use Rattle.std.proofs.Common.{◌≡◌, ℕ, suc, ◌+◌, ◌-◌, ◌*◌, ◌/◌, ◌<◌, ◌≤◌, ◌==◌, Bool, true, false, cond, List, [], ◌∷◌, ◌++◌, length, nat_le, nat_lt, refl, sym, ap, ◌∙◌, arith, append-nil}
use Rattle.std.specs.Prelude.{map}
use Rattle.std.specs.List.{list_all}
use Rattle.std.proofs.lemmas.Bool.{and_from}
use Rattle.std.proofs.lemmas.Bool.Decides.{nat_tests}
use Rattle.std.proofs.lemmas.List.Folds.{list_all-append}
use Rattle.std.proofs.Math.Nat.{mul-le-mul, mul-suc}
use Rattle.moos_post.specs.declared.entry.Call.{Call}
use Rattle.moos_post.specs.declared.entry.Entry.{Entry}
use Rattle.moos_client.specs.Calls.{entries_of, entry_of}
use Rattle.moos_client.specs.Hearing.{Mailed}
use Rattle.moos_lawful.specs.Answering.{Answerer, answers_of, due_of, moment_in, openings, schedule_of, turns_from}
use Rattle.script_reader.specs.declared.script.Order.{Order}
use Rattle.script_reader.specs.declared.script.Order.TheVariants.{Stamp, Race}
use Rattle.moos_lawful.specs.Widening.{IsWider}

-- calls of one client
each_from : (known client : ℕ) (calls : List Call) → nat_le known client ≡ true → list_all (λ (entry : Entry). nat_le known entry.client) (map (entry_of client 0) calls) ≡ true
each_from known client [] here = refl
each_from known client (call ∷ calls) here = and_from (nat_le known client) (list_all (λ (entry : Entry). nat_le known entry.client) (map (entry_of client 0) calls)) here (each_from known client calls here)

-- openings are of clients from a number on
openings_from : {A : Type 0} (known client : ℕ) (others : List (Answerer A)) → known ≤ client → list_all (λ entry. nat_le known entry.client) (openings client others) ≡ true
openings_from known client [] above = refl
openings_from known client (answerer ∷ others) above =
    list_all-append (λ entry. nat_le known entry.client) (map (entry_of client 0) answerer.opening) (openings (suc client) others)
    ∙ and_from (list_all (λ entry. nat_le known entry.client) (map (entry_of client 0) answerer.opening)) (list_all (λ entry. nat_le known entry.client) (openings (suc client) others)) (each_from known client answerer.opening (here above)) (openings_from known (suc client) others (omega (arith, above)))
  where
    here : known ≤ client → nat_le known client ≡ true
    here above = grind (arith, nat_tests)

-- a stamp and a rank within it, by two and by more
ranks_keep : (more a b r s : ℕ) → r ≤ 1 → s ≤ 1 → 2 * a + r ≤ 2 * b + s → suc (suc more) * a + r ≤ suc (suc more) * b + s
ranks_keep more a b r s one other less = by (nat_lt a b) refl
  where
    by : (c : Bool) → nat_lt a b ≡ c → suc (suc more) * a + r ≤ suc (suc more) * b + s
    by true e =
        let next : suc a ≤ b = grind (arith, nat_tests, e) in
        let same : suc (suc more) ≤ suc (suc more) = omega arith in
        omega (arith, mul-le-mul same next, mul-suc (suc (suc more)) a, one)
    by false e =
        let above : b ≤ a = grind (arith, nat_tests, e) in
        let same : a ≡ b = omega (arith, above, less, one, other) in
        let rank : r ≤ s = omega (arith, same, less) in
        omega (arith, ap (λ n. suc (suc more) * n) same, rank)

-- THE HELM AMONG OTHERS: the schedule with more clients that answer is wider.
pub is_wider : {A : Type 0} (order : Order) (lines : List Entry) (clients stop period : ℕ) (first : Answerer A) (others : List (Answerer A)) (names : ℕ) (mailed : Mailed A) → clients + length (first ∷ others) ≤ names
    → IsWider (schedule_of order lines clients stop period (first ∷ []) names mailed) (schedule_of order lines clients stop period (first ∷ others) names mailed)
is_wider {A = A} order lines clients stop period first others names mailed room = record {
  openings = openings (suc clients) others;
  start = ap (λ front. front ++ openings (suc clients) others) (sym (append-nil (map (entry_of clients 0) first.opening)));
  further = openings_from (clients + 1) (suc clients) others (omega arith);
  known = omega arith;
  room = room;
  mailed = refl;
  due = λ n below. due n below;
  keeps = keeps order;
}
  where
    ticks : ℕ
    ticks = suc (stop / period)

    due : (n : ℕ) → n < clients + 1 → due_of lines clients period ticks (first ∷ others) n ≡ due_of lines clients period ticks (first ∷ []) n
    due n below = λ i heard. same heard i
      where
        same : (heard : List A) → due_of lines clients period ticks (first ∷ others) n heard ≡ due_of lines clients period ticks (first ∷ []) n heard
        same heard = by (nat_lt n clients) refl
          where
            by : (b : Bool) → nat_lt n clients ≡ b → cond b (entries_of n lines) (answers_of period ticks clients (first ∷ others) n heard) ≡ cond b (entries_of n lines) (answers_of period ticks clients (first ∷ []) n heard)
            by true e = refl
            by false e =
                let here : (clients == n) ≡ true = grind (arith, nat_tests, e, below) in
                (λ i. cond (here i) (turns_from first n period heard 0 ticks) (answers_of period ticks (suc clients) others n heard)) ∙ sym (ap (λ b. cond b (turns_from first n period heard 0 ticks) []) here)

    keeps : (order : Order) → (x y : Entry) → nat_lt x.client (clients + 1) ≡ true → nat_lt y.client (clients + 1) ≡ true → moment_in order clients 1 x ≤ moment_in order clients 1 y → moment_in order clients (suc (length others)) x ≤ moment_in order clients (suc (length others)) y
    keeps Race x y px py less = omega arith
    keeps Stamp x y px py less =
        ranks_keep (length others) x.stamp y.stamp (suc x.client - clients) (suc y.client - clients) (rank x px) (rank y py) less
      where
        rank : (e : Entry) → nat_lt e.client (clients + 1) ≡ true → suc e.client - clients ≤ 1
        rank e below = let less : e.client < clients + 1 = grind (arith, nat_tests, below) in omega (arith, less)
