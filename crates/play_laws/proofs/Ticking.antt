-- Two histories in which the helm is mailed the same by each of its ticks: it has the same entries in both.
use Rattle.std.proofs.Common.{◌≡◌, ℕ, zero, suc, ◌+◌, ◌*◌, ◌≤◌, ◌<◌, ◌&&◌, Bool, true, false, cond, nat_lt, List, [], ◌∷◌, ◌++◌, length, take, refl, sym, ap, ◌∙◌, subst, arith, eq-eqb, append_assoc, length-append, inl, inr, ◌⊎◌}
use Rattle.std.specs.Prelude.{map, filter, not}
use Rattle.std.specs.List.{list_all}
use Rattle.std.proofs.lemmas.Bool.{cases_eq}
use Rattle.std.proofs.lemmas.List.{length-map, map-append, take-map, take-take}
use Rattle.std.proofs.lemmas.List.Elements.{filter-append}
use Rattle.helm_core.specs.declared.iteration.Iteration.{Iteration}
use Rattle.helm_core.specs.Iterations.{iteration_at}
use Rattle.helm_core.specs.Plans.{wants_of}
use Rattle.helm_core.specs.Ticks.{pairs_mailed, Tick, tick_of}
use Rattle.helm_laws.specs.Inputs.{Input, input_of, SameInputSameIteration}
use Rattle.moos_client.specs.Calls.{entries_of, entry_of}
use Rattle.moos_client.specs.Hearing.{fetches, heard_in}
use Rattle.moos_client.proofs.Hearing.{heard_append, heard_deaf, heard_many}
use Rattle.moos_db.specs.Database.{letters_after}
use Rattle.moos_post.specs.declared.entry.Call.TheVariants.{Register, Post as Posts, Fetch}
use Rattle.moos_post.specs.declared.entry.Entry.{Entry}
use Rattle.moos_post.specs.Delivery.{is_fetch}
use Rattle.moos_post.specs.History.{History}
use Rattle.moos_play.specs.Lawful.{heard_of, HelmSetup, iterations_of, mailed_in, opening_of, tick_entries, ticks_of}
use Rattle.play_laws.proofs.Cutting.{Cut, cut_at}

-- ---- lists that are cut at a place

take_front : {A : Type 0} (n : ℕ) (front : List A) (one : A) (back : List A) → length front ≡ n → take n (front ++ one ∷ back) ≡ front
take_front zero [] one back is = refl
take_front (suc n) [] one back is = absurd (omega (arith, is))
take_front zero (x ∷ front) one back is = absurd (omega (arith, is))
take_front (suc n) (x ∷ front) one back is = ap (λ later. x ∷ later) (take_front n front one back (omega (arith, is)))

take_next : {A : Type 0} (n : ℕ) (front : List A) (one : A) (back : List A) → length front ≡ n → take (suc n) (front ++ one ∷ back) ≡ front ++ one ∷ []
take_next zero [] one back is = refl
take_next (suc n) [] one back is = absurd (omega (arith, is))
take_next zero (x ∷ front) one back is = absurd (omega (arith, is))
take_next (suc n) (x ∷ front) one back is = ap (λ later. x ∷ later) (take_next n front one back (omega (arith, is)))

-- ---- ticks

length_ticks : (helm : HelmSetup) (heard : List Tick) (n : ℕ) → fetches (ticks_of helm heard n) ≡ n
length_ticks helm heard zero = refl
length_ticks helm heard (suc n) =
    ap length (filter-append (λ (entry : Entry). is_fetch entry.call) (ticks_of helm heard n) (tick_entries helm heard n))
    ∙ length-append (filter (λ (entry : Entry). is_fetch entry.call) (ticks_of helm heard n)) (filter (λ (entry : Entry). is_fetch entry.call) (tick_entries helm heard n))
    ∙ omega (arith, length_ticks helm heard n)

-- the ticks before one, it, and what stands behind it
record Parted (helm : HelmSetup) (heard : List Tick) (i n : ℕ) : Type 0 where
  later : List Entry
  is : ticks_of helm heard n ≡ ticks_of helm heard i ++ (tick_entries helm heard i ++ later)

parted : (helm : HelmSetup) (heard : List Tick) (i n : ℕ) → i < n → Parted helm heard i n
parted helm heard i zero within = absurd (omega arith)
parted helm heard i (suc n) within = by (cases_eq i n) (λ less. parted helm heard i n less)
  where
    below : (i n : ℕ) → i < suc n → (i ≡ n → ⊥) → i < n
    below i n within other = omega arith

    by : (i ≡ n) ⊎ (i ≡ n → ⊥) → (i < n → Parted helm heard i n) → Parted helm heard i (suc n)
    by (inl same) before = subst (λ i. Parted helm heard i (suc n)) (sym same) (record { later = []; is = refl })
    by (inr other) before =
        let one = before (below i n within other) in
        record {
          later = one.later ++ tick_entries helm heard n;
          is = ap (λ ticks. ticks ++ tick_entries helm heard n) one.is ∙ append_assoc (ticks_of helm heard i) (tick_entries helm heard i ++ one.later) (tick_entries helm heard n);
        }

-- nothing is heard in the opening
pub opening_deaf : (helm : HelmSetup) → list_all (λ (entry : Entry). not (is_fetch entry.call)) (opening_of helm) ≡ true
opening_deaf helm = by (nat_lt 0 (length helm.plan.opening))
  where
    by : (b : Bool) → list_all (λ (entry : Entry). not (is_fetch entry.call)) (entry_of helm.client 0 (Register (wants_of helm.plan)) ∷ cond b (entry_of helm.client 0 (Posts helm.plan.opening) ∷ []) []) ≡ true
    by true = refl
    by false = refl

module _ (helm : HelmSetup) (names : List (List ℕ)) (number count : ℕ)
  where
    -- what the helm hears in what stands behind its opening
    abbrev pub heard_behind : History → List Tick
    heard_behind rest = heard_of names number (opening_of helm ++ rest)

    -- the helm's entries there are those of its ticks
    abbrev pub IsSteered : History → Type 0
    IsSteered rest = entries_of number rest ≡ ticks_of helm (heard_behind rest) count

    heard_parts : (some more : History) → heard_behind (some ++ more) ≡ heard_behind some ++ heard_in (mailed_in names) number (opening_of helm ++ some) more
    heard_parts some more = ap (heard_of names number) (sym (append_assoc (opening_of helm) some more)) ∙ heard_append (mailed_in names) number [] (opening_of helm ++ some) more

    heard_number : (some : History) → length (heard_behind some) ≡ fetches (entries_of number some)
    heard_number some =
        ap length (heard_append (mailed_in names) number [] (opening_of helm) some)
        ∙ ap (λ heard. length (heard ++ heard_in (mailed_in names) number (opening_of helm) some)) (heard_deaf (mailed_in names) number [] (opening_of helm) (opening_deaf helm))
        ∙ heard_many (mailed_in names) number (opening_of helm) some

    abbrev fetch_at : ℕ → Entry
    fetch_at i = entry_of helm.client (i * helm.period) Fetch

    abbrev tick_behind : ℕ → History → Tick
    tick_behind i before = tick_of (i * helm.period) (letters_after names number (opening_of helm ++ before))

    -- a history at the helm's tick i
    pub record AtTick (rest : History) (i : ℕ) : Type 0 where
      before : History
      behind : History
      is : rest ≡ before ++ fetch_at i ∷ behind
      pub own : helm.client ≡ number
      front : entries_of number before ≡ ticks_of helm (heard_behind rest) i
      many : length (heard_behind before) ≡ i
      more : List Tick
      heard : heard_behind rest ≡ heard_behind before ++ tick_behind i before ∷ more

    pub at_tick : (rest : History) (i : ℕ) → IsSteered rest → i < count → AtTick rest i
    at_tick rest i steered within = record {
      before = cut.before;
      behind = cut.behind;
      is = cut.is;
      own = cut.own;
      front = cut.front_is;
      many = heard_number cut.before ∙ ap fetches cut.front_is ∙ length_ticks helm (heard_behind rest) i;
      more = heard_in (mailed_in names) number ((opening_of helm ++ cut.before) ++ fetch_at i ∷ []) cut.behind;
      heard = ap heard_behind cut.is ∙ heard_parts cut.before (fetch_at i ∷ cut.behind)
          ∙ ap (λ b. heard_behind cut.before ++ cond (b && true) (tick_behind i cut.before ∷ more) more) (eq-eqb helm.client number cut.own);
    }
      where
        one : Parted helm (heard_behind rest) i count
        one = parted helm (heard_behind rest) i count within

        post : Entry
        post = entry_of helm.client (i * helm.period) (Posts (iteration_at helm.plan (heard_behind rest) i).posts)

        cut : Cut number rest (ticks_of helm (heard_behind rest) i) (fetch_at i) (post ∷ one.later)
        cut = cut_at number rest (ticks_of helm (heard_behind rest) i) (fetch_at i) (post ∷ one.later) (steered ∙ one.is)

        more : List Tick
        more = heard_in (mailed_in names) number ((opening_of helm ++ cut.before) ++ fetch_at i ∷ []) cut.behind

    abbrev inputs : History → List Input
    inputs rest = map input_of (heard_behind rest)

    inputs_at : (rest : History) (i : ℕ) → (at : AtTick rest i) → inputs rest ≡ inputs at.before ++ input_of (tick_behind i at.before) ∷ map input_of at.more
    inputs_at rest i at = ap (map input_of) at.heard ∙ map-append input_of (heard_behind at.before) (tick_behind i at.before ∷ at.more)

    inputs_before : (rest : History) (i : ℕ) → (at : AtTick rest i) → take i (inputs rest) ≡ inputs at.before
    inputs_before rest i at =
        ap (take i) (inputs_at rest i at)
        ∙ take_front i (inputs at.before) (input_of (tick_behind i at.before)) (map input_of at.more) (length-map (heard_behind at.before) input_of ∙ at.many)

    inputs_next : (rest : History) (i : ℕ) → (at : AtTick rest i) → take (suc i) (inputs rest) ≡ inputs at.before ++ input_of (tick_behind i at.before) ∷ []
    inputs_next rest i at =
        ap (take (suc i)) (inputs_at rest i at)
        ∙ take_next i (inputs at.before) (input_of (tick_behind i at.before)) (map input_of at.more) (length-map (heard_behind at.before) input_of ∙ at.many)

    module _ (law : SameInputSameIteration helm.plan)
      where
        -- ticks and iterations by what was said
        ticks_same : (heard other : List Tick) (i : ℕ) → take i (map input_of heard) ≡ take i (map input_of other) → ticks_of helm heard i ≡ ticks_of helm other i
        ticks_same heard other zero same = refl
        ticks_same heard other (suc i) same =
            ap (λ (front : List Entry). front ++ tick_entries helm heard i)
            (ticks_same heard other i (sym (take-take i (suc i) (map input_of heard) (omega arith)) ∙ ap (take i) same ∙ take-take i (suc i) (map input_of other) (omega arith)))
            ∙ ap (λ (iteration : Iteration). ticks_of helm other i ++ fetch_at i ∷ entry_of helm.client (i * helm.period) (Posts iteration.posts) ∷ [])
            (law heard other i (sym (take-map input_of (suc i) heard) ∙ same ∙ take-map input_of (suc i) other))

        iterations_same : (heard other : List Tick) (i : ℕ) → take i (map input_of heard) ≡ take i (map input_of other) → iterations_of helm.plan heard i ≡ iterations_of helm.plan other i
        iterations_same heard other zero same = refl
        iterations_same heard other (suc i) same =
            ap (λ (front : List Iteration). front ++ iteration_at helm.plan heard i ∷ [])
            (iterations_same heard other i (sym (take-take i (suc i) (map input_of heard) (omega arith)) ∙ ap (take i) same ∙ take-take i (suc i) (map input_of other) (omega arith)))
            ∙ ap (λ (iteration : Iteration). iterations_of helm.plan other i ++ iteration ∷ []) (law heard other i (sym (take-map input_of (suc i) heard) ∙ same ∙ take-map input_of (suc i) other))

        -- Behind the same entries of its own the helm is mailed the same by a fetch of its own.
        abbrev pub AreMailedAlike : History → History → Type 0
        AreMailedAlike rest other = (before behind before' behind' : History) (fetch : Entry) → fetch.client ≡ number → rest ≡ before ++ fetch ∷ behind → other ≡ before' ++ fetch ∷ behind'
            → entries_of number before ≡ entries_of number before' → pairs_mailed (letters_after names number (opening_of helm ++ before)) ≡ pairs_mailed (letters_after names number (opening_of helm ++ before'))

        inputs_same : (rest other : History) → IsSteered rest → IsSteered other → AreMailedAlike rest other → (i : ℕ) → i ≤ count → take i (inputs rest) ≡ take i (inputs other)
        inputs_same rest other steered steered' alike zero within = refl
        inputs_same rest other steered steered' alike (suc i) within = step (inputs_same rest other steered steered' alike i (omega arith))
          where
            at : AtTick rest i
            at = at_tick rest i steered (omega arith)

            at' : AtTick other i
            at' = at_tick other i steered' (omega arith)

            input : List Input → Input → List Input
            input front one = front ++ one ∷ []

            step : take i (inputs rest) ≡ take i (inputs other) → take (suc i) (inputs rest) ≡ take (suc i) (inputs other)
            step same =
                inputs_next rest i at
                ∙ ap (λ front. front ++ input_of (tick_behind i at.before) ∷ []) (sym (inputs_before rest i at) ∙ same ∙ inputs_before other i at')
                ∙ ap (λ pairs. inputs at'.before ++ record { stamp = i * helm.period; letters = pairs } ∷ [])
                (alike at.before at.behind at'.before at'.behind (fetch_at i) at.own at.is at'.is (at.front ∙ ticks_same (heard_behind rest) (heard_behind other) i same ∙ sym at'.front))
                ∙ sym (inputs_next other i at')

        -- So all its entries and iterations are the same.
        pub steered_same : (rest other : History) → IsSteered rest → IsSteered other → AreMailedAlike rest other → entries_of number rest ≡ entries_of number other
        steered_same rest other steered steered' alike = steered ∙ ticks_same (heard_behind rest) (heard_behind other) count (inputs_same rest other steered steered' alike count (omega arith)) ∙ sym steered'

        pub iterated_same : (rest other : History) → IsSteered rest → IsSteered other → AreMailedAlike rest other → iterations_of helm.plan (heard_behind rest) count ≡ iterations_of helm.plan (heard_behind other) count
        iterated_same rest other steered steered' alike = iterations_same (heard_behind rest) (heard_behind other) count (inputs_same rest other steered steered' alike count (omega arith))
