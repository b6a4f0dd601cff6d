-- The helm's entries one by one: what it does next follows from what it has heard.
use Rattle.std.proofs.Common.{◌≡◌, ℕ, zero, suc, ◌+◌, ◌*◌, ◌/◌, ◌%◌, ◌<◌, ◌≤◌, ◌==◌, ◌&&◌, Bool, true, false, cond, Some, None, List, [], ◌∷◌, ◌++◌, length, length-append, refl, ap, sym, ◌∙◌, subst, arith, append_assoc, inl, inr, zero-add}
use Rattle.std.proofs.Math.Numerals.{one-add}
use Rattle.std.proofs.lemmas.Bool.{cases_eq, cases_lt}
use Rattle.helm_core.proofs.Growing.{iteration_same}
use Rattle.helm_core.specs.declared.iteration.Iteration.{Iteration}
use Rattle.helm_core.specs.Iterations.{iteration_at}
use Rattle.helm_core.specs.Ticks.{Tick, tick_of}
use Rattle.moos_client.specs.Calls.{entries_of, entry_of}
use Rattle.moos_db.specs.Database.{letters_after}
use Rattle.moos_post.specs.declared.entry.Call.TheVariants.{Post as Posts, Fetch}
use Rattle.moos_post.specs.declared.entry.Entry.{Entry}
use Rattle.moos_post.specs.Delivery.{is_fetch}
use Rattle.moos_post.specs.History.{History}
use Rattle.moos_play.specs.Lawful.{HelmSetup, tick_entries, ticks_of, mailed_in}
use Rattle.moos_client.specs.Hearing.{heard_in}
use Rattle.moos_jobs.proofs.SummaryLines.{head}

-- how many entries are fetches
abbrev pub fetches : List Entry → ℕ
fetches [] = 0
fetches (entry ∷ later) = cond (is_fetch entry.call) 1 0 + fetches later

fetches_append : (some more : List Entry) → fetches (some ++ more) ≡ fetches some + fetches more
fetches_append [] more = sym (zero-add (fetches more))
fetches_append (entry ∷ some) more = omega (arith, fetches_append some more)

-- a client hears at each of its fetches
pub heard_at_fetches : (names : List (List ℕ)) (client : ℕ) (past entries : History) → length (heard_in (mailed_in names) client past entries) ≡ fetches (entries_of client entries)
heard_at_fetches names client past [] = refl
heard_at_fetches names client past (entry ∷ entries) = at (entry.client == client) (is_fetch entry.call) refl (heard_at_fetches names client (past ++ entry ∷ []) entries)
  where
    at : (b fetch : Bool) → is_fetch entry.call ≡ fetch → length (heard_in (mailed_in names) client (past ++ entry ∷ []) entries) ≡ fetches (entries_of client entries)
        → length (cond (b && fetch) (tick_of entry.stamp (letters_after names client past) ∷ heard_in (mailed_in names) client (past ++ entry ∷ []) entries) (heard_in (mailed_in names) client (past ++ entry ∷ []) entries))
        ≡ fetches (cond b (entry ∷ entries_of client entries) (entries_of client entries))
    at true true is same = ap suc same ∙ sym (one-add (fetches (entries_of client entries))) ∙ ap (λ b. cond b 1 0 + fetches (entries_of client entries)) (sym is)
    at true false is same = same ∙ sym (zero-add (fetches (entries_of client entries))) ∙ ap (λ b. cond b 1 0 + fetches (entries_of client entries)) (sym is)
    at false fetch is same = same

length_ticks : (helm : HelmSetup) (heard : List Tick) (n : ℕ) → length (ticks_of helm heard n) ≡ 2 * n
length_ticks helm heard zero = refl
length_ticks helm heard (suc n) = length-append (ticks_of helm heard n) (tick_entries helm heard n) ∙ omega (arith, length_ticks helm heard n)

fetches_ticks : (helm : HelmSetup) (heard : List Tick) (n : ℕ) → fetches (ticks_of helm heard n) ≡ n
fetches_ticks helm heard zero = refl
fetches_ticks helm heard (suc n) = fetches_append (ticks_of helm heard n) (tick_entries helm heard n) ∙ omega (arith, fetches_ticks helm heard n)

-- the ticks before one, it, and what stands behind it
record Parted (helm : HelmSetup) (heard : List Tick) (i n : ℕ) : Type 0 where
  later : List Entry
  is : ticks_of helm heard n ≡ ticks_of helm heard i ++ (tick_entries helm heard i ++ later)

parted : (helm : HelmSetup) (heard : List Tick) (i n : ℕ) → i < n → Parted helm heard i n
parted helm heard i zero within = absurd (omega arith)
parted helm heard i (suc n) within =
    elim (cases_eq i n) [
      | inl same ↦ subst (λ i. Parted helm heard i (suc n)) (sym same) (record { later = []; is = refl })
      | inr other ↦
          let before : Parted helm heard i n = parted helm heard i n (below i n within other) in
          record {
            later = before.later ++ tick_entries helm heard n;
            is = ap (λ ticks. ticks ++ tick_entries helm heard n) before.is
                ∙ append_assoc (ticks_of helm heard i) (tick_entries helm heard i ++ before.later) (tick_entries helm heard n);
          }
    ]
  where
    below : (i n : ℕ) → i < suc n → (i ≡ n → ⊥) → i < n
    below i n within other = omega arith

-- lists that begin with equally many entries go on alike, and begin alike
cut : (front other more later : List Entry) → length front ≡ length other → front ++ more ≡ other ++ later → (front ≡ other) × (more ≡ later)
cut [] [] more later same is = (refl, is)
cut [] (one ∷ other) more later same is = absurd (omega (arith, same))
cut (entry ∷ front) [] more later same is = absurd (omega (arith, same))
cut (entry ∷ front) (one ∷ other) more later same is =
    let first : entry ≡ one = cc in
    let rest : front ++ more ≡ other ++ later = cc in
    let both = cut front other more later (omega (arith, same)) rest in
    (ap (λ entry. entry ∷ front) first ∙ ap (λ front. one ∷ front) both.0, both.1)

-- behind all ticks nothing comes
none_next : (helm : HelmSetup) (heard : List Tick) (n : ℕ) (made next : List Entry) → n ≤ length made / 2 → made ++ next ≡ ticks_of helm heard n → head next ≡ None
none_next helm heard n made [] all is = refl
none_next helm heard n made (entry ∷ next) all is = absurd (omega (arith, all, length-append made (entry ∷ next), ap length is, length_ticks helm heard n))

-- behind whole ticks the next fetch comes
fetch_next : (helm : HelmSetup) (heard : List Tick) (i n : ℕ) (made next : List Entry) → i < n → length made ≡ 2 * i → made ++ next ≡ ticks_of helm heard n
    → head next ≡ Some (entry_of helm.client (i * helm.period) Fetch)
fetch_next helm heard i n made next within many is =
    let at : Parted helm heard i n = parted helm heard i n within in
    ap head (cut made (ticks_of helm heard i) next (tick_entries helm heard i ++ at.later) (many ∙ sym (length_ticks helm heard i)) (is ∙ at.is)).1

-- behind a fetch comes what the iteration posts, which rests on what was heard by then
post_next : (helm : HelmSetup) (heard more : List Tick) (i n : ℕ) (made next : List Entry) → i < n → length made ≡ 2 * i + 1 → fetches made ≤ length heard
    → made ++ next ≡ ticks_of helm (heard ++ more) n → head next ≡ Some (entry_of helm.client (i * helm.period) (Posts (iteration_at helm.plan heard i).posts))
post_next helm heard more i n made next within many fetched is =
    ap head both.1 ∙ ap (λ (iteration : Iteration). Some (entry_of helm.client (i * helm.period) (Posts iteration.posts))) (iteration_same helm.plan heard more i early)
  where
    fetch : Entry
    fetch = entry_of helm.client (i * helm.period) Fetch

    post : Entry
    post = entry_of helm.client (i * helm.period) (Posts (iteration_at helm.plan (heard ++ more) i).posts)

    at : Parted helm (heard ++ more) i n
    at = parted helm (heard ++ more) i n within

    both : (made ≡ ticks_of helm (heard ++ more) i ++ fetch ∷ []) × (next ≡ post ∷ at.later)
    both = cut made (ticks_of helm (heard ++ more) i ++ fetch ∷ []) next (post ∷ at.later)
        (many ∙ sym (length-append (ticks_of helm (heard ++ more) i) (fetch ∷ []) ∙ ap (λ n. n + 1) (length_ticks helm (heard ++ more) i)))
        (is ∙ at.is ∙ sym (append_assoc (ticks_of helm (heard ++ more) i) (fetch ∷ []) (post ∷ at.later)))

    early : i < length heard
    early = omega (arith, fetched, ap fetches both.0, fetches_append (ticks_of helm (heard ++ more) i) (fetch ∷ []), fetches_ticks helm (heard ++ more) i)

-- Whatever is heard later, the helm's next entry is the same.
pub same_next : (helm : HelmSetup) (heard more other : List Tick) (n : ℕ) (made next another : List Entry) → fetches made ≤ length heard → made ++ next ≡ ticks_of helm (heard ++ more) n
    → made ++ another ≡ ticks_of helm (heard ++ other) n → head next ≡ head another
same_next helm heard more other n made next another fetched is was =
    elim (cases_lt (length made / 2) n) [
      | inr past ↦ none_next helm (heard ++ more) n made next past is ∙ sym (none_next helm (heard ++ other) n made another past was)
      | inl within ↦
          elim (cases_eq (length made % 2) 0) [
            | inl even ↦
                let many : length made ≡ 2 * (length made / 2) = omega (arith, even) in
                fetch_next helm (heard ++ more) (length made / 2) n made next within many is ∙ sym (fetch_next helm (heard ++ other) (length made / 2) n made another within many was)
            | inr odd ↦
                let many : length made ≡ 2 * (length made / 2) + 1 = by (length made) odd in
                post_next helm heard more (length made / 2) n made next within many fetched is ∙ sym (post_next helm heard other (length made / 2) n made another within many fetched was)
          ]
    ]
  where
    by : (m : ℕ) → (m % 2 ≡ 0 → ⊥) → m ≡ 2 * (m / 2) + 1
    by m odd = omega arith
