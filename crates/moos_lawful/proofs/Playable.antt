-- The schedule of a script's lines beside clients that answer each tick is playable, so a history that is lawful so far can be completed.
use Rattle.std.proofs.Common.{◌≡◌, ℕ, zero, suc, ◌+◌, ◌*◌, ◌/◌, ◌≤◌, ◌==◌, ◌&&◌, Bool, true, false, cond, List, [], ◌∷◌, ◌++◌, length, nat_lt, take, refl, sym, ap, ◌∙◌, arith, eq-eqb}
use Rattle.std.specs.Prelude.{map}
use Rattle.std.specs.List.{list_all}
use Rattle.std.proofs.lemmas.Bool.{and_from, and_parts, false≢true}
use Rattle.std.proofs.lemmas.Bool.Decides.{nat_tests}
use Rattle.std.proofs.lemmas.List.{take-append-le}
use Rattle.std.proofs.lemmas.List.Folds.{list_all-append}
use Rattle.moos_post.specs.declared.entry.Call.{Call}
use Rattle.moos_post.specs.declared.entry.Call.TheVariants.{Post as Posts, Fetch}
use Rattle.moos_post.specs.declared.entry.Entry.{Entry}
use Rattle.moos_post.specs.Delivery.{is_fetch}
use Rattle.moos_client.specs.Calls.{entries_of, entry_of}
use Rattle.moos_client.specs.Hearing.{fetches, Mailed}
use Rattle.moos_lawful.specs.Schedules.{IsPlayable}
use Rattle.moos_lawful.specs.Answering.{Answerer, answers_of, due_of, moment_in, schedule_of, turns_from}
use Rattle.script_reader.specs.declared.script.Order.{Order}
use Rattle.script_reader.specs.declared.script.Order.TheVariants.{Stamp, Race}

-- ---- a client's own entries

own_lines : (n : ℕ) (lines : List Entry) → list_all (λ entry. entry.client == n) (entries_of n lines) ≡ true
own_lines n [] = refl
own_lines n (line ∷ lines) = by (line.client == n) refl (own_lines n lines)
  where
    by : (b : Bool) → (line.client == n) ≡ b → list_all (λ entry. entry.client == n) (entries_of n lines) ≡ true → list_all (λ entry. entry.client == n) (cond b (line ∷ entries_of n lines) (entries_of n lines)) ≡ true
    by true e rest = and_from (line.client == n) (list_all (λ entry. entry.client == n) (entries_of n lines)) e rest
    by false e rest = rest

own_turns : {A : Type 0} (answerer : Answerer A) (n period : ℕ) (heard : List A) (i count : ℕ) → list_all (λ entry. entry.client == n) (turns_from answerer n period heard i count) ≡ true
own_turns answerer n period heard i zero = refl
own_turns answerer n period heard i (suc count) =
    let self : (n == n) ≡ true = eq-eqb n n refl in
    let rest = own_turns answerer n period heard (suc i) count in
    and_from (n == n) ((n == n) && list_all (λ entry. entry.client == n) (turns_from answerer n period heard (suc i) count)) self
    (and_from (n == n) (list_all (λ entry. entry.client == n) (turns_from answerer n period heard (suc i) count)) self rest)

own_answers : {A : Type 0} (period ticks client : ℕ) (answerers : List (Answerer A)) (n : ℕ) (heard : List A) → list_all (λ entry. entry.client == n) (answers_of period ticks client answerers n heard) ≡ true
own_answers period ticks client [] n heard = refl
own_answers period ticks client (answerer ∷ others) n heard = by (client == n) (own_answers period ticks (suc client) others n heard)
  where
    by : (b : Bool) → list_all (λ entry. entry.client == n) (answers_of period ticks (suc client) others n heard) ≡ true
        → list_all (λ entry. entry.client == n) (cond b (turns_from answerer n period heard 0 ticks) (answers_of period ticks (suc client) others n heard)) ≡ true
    by true rest = own_turns answerer n period heard 0 ticks
    by false rest = rest

own_due : {A : Type 0} (lines : List Entry) (clients period ticks : ℕ) (answerers : List (Answerer A)) (n : ℕ) (heard : List A) → list_all (λ entry. entry.client == n) (due_of lines clients period ticks answerers n heard) ≡ true
own_due lines clients period ticks answerers n heard = by (nat_lt n clients)
  where
    by : (b : Bool) → list_all (λ entry. entry.client == n) (cond b (entries_of n lines) (answers_of period ticks clients answerers n heard)) ≡ true
    by true = own_lines n lines
    by false = own_answers period ticks clients answerers n heard

-- one among all
among : (p : Entry → Bool) (done : List Entry) (entry : Entry) (left : List Entry) → list_all p (done ++ entry ∷ left) ≡ true → p entry ≡ true
among p done entry left all = (and_parts (p entry) (list_all p left) (and_parts (list_all p done) (p entry && list_all p left) (sym (list_all-append p done (entry ∷ left)) ∙ all)).1).0

-- ---- what is left changes with what is heard, but not when it is due

-- an entry's moment doesn't depend on its call
moment_same : (order : Order) (clients others n stamp : ℕ) (one other : Call) → moment_in order clients others (entry_of n stamp one) ≡ moment_in order clients others (entry_of n stamp other)
moment_same Stamp clients others n stamp one other = refl
moment_same Race clients others n stamp one other = refl

module _ {A : Type 0} (order : Order) (clients others : ℕ)
  where
    turns_keys : (answerer : Answerer A) (n period : ℕ) (heard known : List A) (i count : ℕ) → map (moment_in order clients others) (turns_from answerer n period heard i count) ≡ map (moment_in order clients others) (turns_from answerer n period known i count)
    turns_keys answerer n period heard known i zero = refl
    turns_keys answerer n period heard known i (suc count) =
        λ j. moment_in order clients others (entry_of n (i * period) Fetch) ∷ moment_same order clients others n (i * period) (Posts (answerer.says (take (suc i) heard))) (Posts (answerer.says (take (suc i) known))) j ∷ turns_keys answerer n period heard known (suc i) count j

    turns_grow : (answerer : Answerer A) (n period : ℕ) (heard : List A) (more : A) (i count : ℕ) (done : List Entry) (entry : Entry) (left : List Entry) → turns_from answerer n period heard i count ≡ done ++ entry ∷ left → is_fetch entry.call ≡ true
        → i + fetches done ≡ length heard → (left' : List Entry) × (turns_from answerer n period (heard ++ more ∷ []) i count ≡ done ++ entry ∷ left') × (map (moment_in order clients others) left' ≡ map (moment_in order clients others) left)
    turns_grow answerer n period heard more i zero [] entry left is fetch many = absurd cc
    turns_grow answerer n period heard more i zero (d ∷ done) entry left is fetch many = absurd cc
    turns_grow answerer n period heard more i (suc count) [] entry left is fetch many = (
      later,
      ap (λ first. first ∷ later) (cc),
      (λ j. moment_same order clients others n (i * period) (Posts (answerer.says (take (suc i) (heard ++ more ∷ [])))) (Posts (answerer.says (take (suc i) heard))) j ∷ turns_keys answerer n period (heard ++ more ∷ []) heard (suc i) count j) ∙ ap (map (moment_in order clients others)) (behind is),
    )
      where
        later : List Entry
        later = entry_of n (i * period) (Posts (answerer.says (take (suc i) (heard ++ more ∷ [])))) ∷ turns_from answerer n period (heard ++ more ∷ []) (suc i) count

        behind : {first : Entry} {some : List Entry} → first ∷ some ≡ entry ∷ left → some ≡ left
        behind h = cc
    turns_grow answerer n period heard more i (suc count) (d ∷ []) entry left is fetch many = absurd (false≢true (ap (λ (e : Entry). is_fetch e.call) (second is) ∙ fetch))
      where
        second : {a b : Entry} {some : List Entry} → a ∷ b ∷ some ≡ d ∷ entry ∷ left → b ≡ entry
        second h = cc
    turns_grow answerer n period heard more i (suc count) (d ∷ d' ∷ done) entry left is fetch many =
        let first = parts is in
        let next : suc i + fetches done ≡ length heard = omega (arith, many, count_is first.0 first.1) in
        let early : take (suc i) (heard ++ more ∷ []) ≡ take (suc i) heard = take-append-le (suc i) heard (more ∷ []) (omega (arith, next)) in
        let rest = turns_grow answerer n period heard more (suc i) count done entry left first.2 fetch next in
        (rest.0, (λ j. first.0 j ∷ (ap (λ known. entry_of n (i * period) (Posts (answerer.says known))) early ∙ first.1) j ∷ rest.1 j), rest.2)
      where
        parts : {a b : Entry} {some : List Entry} → a ∷ b ∷ some ≡ d ∷ d' ∷ (done ++ entry ∷ left) → (a ≡ d) × (b ≡ d') × (some ≡ done ++ entry ∷ left)
        parts h = (cc, cc, cc)

        count_is : entry_of n (i * period) Fetch ≡ d → entry_of n (i * period) (Posts (answerer.says (take (suc i) heard))) ≡ d' → fetches (d ∷ d' ∷ done) ≡ suc (fetches done)
        count_is a b = sym (λ j. fetches (a j ∷ b j ∷ done))

    answers_grow : (period ticks client : ℕ) (answerers : List (Answerer A)) (n : ℕ) (heard : List A) (more : A) (done : List Entry) (entry : Entry) (left : List Entry) → answers_of period ticks client answerers n heard ≡ done ++ entry ∷ left → is_fetch entry.call ≡ true
        → fetches done ≡ length heard → (left' : List Entry) × (answers_of period ticks client answerers n (heard ++ more ∷ []) ≡ done ++ entry ∷ left') × (map (moment_in order clients others) left' ≡ map (moment_in order clients others) left)
    answers_grow period ticks client [] n heard more [] entry left is fetch many = absurd cc
    answers_grow period ticks client [] n heard more (d ∷ done) entry left is fetch many = absurd cc
    answers_grow period ticks client (answerer ∷ rest) n heard more done entry left is fetch many = by (client == n) is (answers_grow period ticks (suc client) rest n heard more done entry left)
      where
        by : (b : Bool) → cond b (turns_from answerer n period heard 0 ticks) (answers_of period ticks (suc client) rest n heard) ≡ done ++ entry ∷ left
            → (answers_of period ticks (suc client) rest n heard ≡ done ++ entry ∷ left → is_fetch entry.call ≡ true → fetches done ≡ length heard
            → (left' : List Entry) × (answers_of period ticks (suc client) rest n (heard ++ more ∷ []) ≡ done ++ entry ∷ left') × (map (moment_in order clients others) left' ≡ map (moment_in order clients others) left))
            → (left' : List Entry) × (cond b (turns_from answerer n period (heard ++ more ∷ []) 0 ticks) (answers_of period ticks (suc client) rest n (heard ++ more ∷ [])) ≡ done ++ entry ∷ left') × (map (moment_in order clients others) left' ≡ map (moment_in order clients others) left)
        by true is others = turns_grow answerer n period heard more 0 ticks done entry left is fetch (omega (arith, many))
        by false is others = others is fetch many

    due_grow : (lines : List Entry) (period ticks : ℕ) (answerers : List (Answerer A)) (n : ℕ) (heard : List A) (more : A) (done : List Entry) (entry : Entry) (left : List Entry) → due_of lines clients period ticks answerers n heard ≡ done ++ entry ∷ left → is_fetch entry.call ≡ true
        → fetches done ≡ length heard → (left' : List Entry) × (due_of lines clients period ticks answerers n (heard ++ more ∷ []) ≡ done ++ entry ∷ left') × (map (moment_in order clients others) left' ≡ map (moment_in order clients others) left)
    due_grow lines period ticks answerers n heard more done entry left is fetch many = by (nat_lt n clients) is
      where
        by : (b : Bool) → cond b (entries_of n lines) (answers_of period ticks clients answerers n heard) ≡ done ++ entry ∷ left
            → (left' : List Entry) × (cond b (entries_of n lines) (answers_of period ticks clients answerers n (heard ++ more ∷ [])) ≡ done ++ entry ∷ left') × (map (moment_in order clients others) left' ≡ map (moment_in order clients others) left)
        by true is = (left, is, refl)
        by false is = answers_grow period ticks clients answerers n heard more done entry left is fetch many

-- so such a schedule is playable
pub is_playable : {A : Type 0} (order : Order) (lines : List Entry) (clients stop period : ℕ) (answerers : List (Answerer A)) (names : ℕ) (mailed : Mailed A) → clients + length answerers ≤ names → IsPlayable (schedule_of order lines clients stop period answerers names mailed)
is_playable order lines clients stop period answerers names mailed room = record {
  room = room;
  own = λ n heard done entry left is.
      let here = among (λ entry. entry.client == n) done entry left (ap (list_all (λ (entry : Entry). entry.client == n)) (sym is) ∙ own_due lines clients period (suc (stop / period)) answerers n heard) in
      grind (arith, nat_tests, here);
  grows = λ n heard more done entry left is fetch many. due_grow order clients (length answerers) lines period (suc (stop / period)) answerers n heard more done entry left is fetch many;
}
