-- Lists of entries in the order of a key: what their parts tell of them.
use Rattle.std.proofs.Common.{◌≡◌, ℕ, ◌+◌, ◌≤◌, ◌==◌, Bool, true, false, cond, nat_le, Option, Some, None, List, [], ◌∷◌, ◌++◌, refl, sym, ap, ◌∙◌, subst, arith, eq-eqb, ◌⊎◌, inl, inr}
use Rattle.std.specs.Prelude.{All, map, filter}
use Rattle.std.proofs.lemmas.Bool.{and_from, and_parts, cases_eq, leb-true}
use Rattle.std.proofs.lemmas.List.Elements.{All-cons, All-head, All-nil, All-tail, All-weaker}
use Rattle.moos_client.specs.Calls.{entries_of}
use Rattle.moos_lawful.specs.Schedules.{never_falls}
use Rattle.moos_lawful.proofs.Rising.{lower}
use Rattle.moos_post.specs.declared.entry.Entry.{Entry}

-- the first entry, where there is one
abbrev pub head : List Entry → Option Entry
head [] = None
head (entry ∷ later) = Some entry

module _ (key : Entry → ℕ)
  where
    keys_from : (last : ℕ) (entries : List Entry) → never_falls last (map key entries) ≡ true → All (λ entry. last ≤ key entry) entries
    keys_from last [] order = All-nil (λ entry. last ≤ key entry)
    keys_from last (entry ∷ entries) order =
        let parts = and_parts (nat_le last (key entry)) (never_falls (key entry) (map key entries)) order in
        let first = leb-true last (key entry) parts.0 in
        All-cons (λ entry. last ≤ key entry) entry entries first
        (All-weaker (λ other. key entry ≤ key other) (λ other. last ≤ key other) (λ other later. omega arith) entries (keys_from (key entry) entries parts.1))

    -- no key of ordered entries is below the first one's
    pub first_least : (last : ℕ) (entry : Entry) (entries : List Entry) → never_falls last (map key (entry ∷ entries)) ≡ true → All (λ other. key entry ≤ key other) (entry ∷ entries)
    first_least last entry entries order =
        let parts = and_parts (nat_le last (key entry)) (never_falls (key entry) (map key entries)) order in
        All-cons (λ other. key entry ≤ key other) entry entries (omega arith) (keys_from (key entry) entries parts.1)

    -- nor is one behind an entry below its key, or one before it above
    pub behind_least : (last : ℕ) (before : List Entry) (entry : Entry) (later : List Entry) → never_falls last (map key (before ++ entry ∷ later)) ≡ true → All (λ other. key entry ≤ key other) later
    behind_least last [] entry later order = All-tail (λ other. key entry ≤ key other) entry later (first_least last entry later order)
    behind_least last (one ∷ before) entry later order =
        behind_least (key one) before entry later (and_parts (nat_le last (key one)) (never_falls (key one) (map key (before ++ entry ∷ later))) order).1

    pub before_most : (last : ℕ) (before : List Entry) (entry : Entry) (later : List Entry) → never_falls last (map key (before ++ entry ∷ later)) ≡ true → All (λ other. key other ≤ key entry) before
    before_most last [] entry later order = All-nil (λ other. key other ≤ key entry)
    before_most last (one ∷ before) entry later order =
        let parts = and_parts (nat_le last (key one)) (never_falls (key one) (map key (before ++ entry ∷ later))) order in
        All-cons (λ other. key other ≤ key entry) one before (at before (keys_from (key one) (before ++ entry ∷ later) parts.1)) (before_most (key one) before entry later parts.1)
      where
        at : (before : List Entry) → All (λ other. key one ≤ key other) (before ++ entry ∷ later) → key one ≤ key entry
        at [] all = All-head (λ other. key one ≤ key other) entry later all
        at (two ∷ before) all = at before (All-tail (λ other. key one ≤ key other) two (before ++ entry ∷ later) all)

    -- some of ordered entries are ordered
    pub filter_rises : (test : Entry → Bool) (last : ℕ) (entries : List Entry) → never_falls last (map key entries) ≡ true → never_falls last (map key (filter test entries)) ≡ true
    filter_rises test last [] order = refl
    filter_rises test last (entry ∷ entries) order =
        let parts = and_parts (nat_le last (key entry)) (never_falls (key entry) (map key entries)) order in
        by (test entry) parts.0 (filter_rises test (key entry) entries parts.1)
      where
        by : (b : Bool) → nat_le last (key entry) ≡ true → never_falls (key entry) (map key (filter test entries)) ≡ true → never_falls last (map key (cond b (entry ∷ filter test entries) (filter test entries))) ≡ true
        by true first rest = and_from (nat_le last (key entry)) (never_falls (key entry) (map key (filter test entries))) first rest
        by false first rest = lower last (key entry) (map key (filter test entries)) (leb-true last (key entry) first) rest

    module _ (class : Entry → ℕ)
      where
        -- the entries of a class
        abbrev pub of_class : ℕ → List Entry → List Entry
        of_class n entries = filter (λ entry. class entry == n) entries

        own_head : (entry : Entry) (later : List Entry) → of_class (class entry) (entry ∷ later) ≡ entry ∷ of_class (class entry) later
        own_head entry later = ap (λ b. cond b (entry ∷ of_class (class entry) later) (of_class (class entry) later)) (eq-eqb (class entry) (class entry) refl)

        -- a class's first entry is one of all
        head_among : (P : Entry → Type 0) (n : ℕ) (entries : List Entry) (one : Entry) → head (of_class n entries) ≡ Some one → All P entries → P one
        head_among P n [] one is all = absurd cc
        head_among P n (entry ∷ entries) one is all = at (class entry == n) is (λ later. head_among P n entries one later (All-tail P entry entries all))
          where
            at : (b : Bool) → head (cond b (entry ∷ of_class n entries) (of_class n entries)) ≡ Some one → (head (of_class n entries) ≡ Some one → P one) → P one
            at true is later = let same : entry ≡ one = cc in subst P same (All-head P entry entries all)
            at false is later = later is

        tails : (one : Entry) (xs ys : List Entry) → ((n : ℕ) → of_class n (one ∷ xs) ≡ of_class n (one ∷ ys)) → (n : ℕ) → of_class n xs ≡ of_class n ys
        tails one xs ys same n = by (class one == n) (same n)
          where
            by : (b : Bool) → cond b (one ∷ of_class n xs) (of_class n xs) ≡ cond b (one ∷ of_class n ys) (of_class n ys) → of_class n xs ≡ of_class n ys
            by true is = cc
            by false is = is

        -- Two ordered lists that have the same entries of each class are one, if entries with one key are of one class.
        pub merged : (P : Entry → Type 0) → ((x y : Entry) → P x → P y → key x ≡ key y → class x ≡ class y) → (last : ℕ) (xs ys : List Entry) → All P xs → All P ys
            → never_falls last (map key xs) ≡ true → never_falls last (map key ys) ≡ true → ((n : ℕ) → of_class n xs ≡ of_class n ys) → xs ≡ ys
        merged P one last [] [] all all' order order' same = refl
        merged P one last [] (y ∷ ys) all all' order order' same = let is : None ≡ Some y = ap head (same (class y) ∙ own_head y ys) in absurd cc
        merged P one last (x ∷ xs) [] all all' order order' same = let is : Some x ≡ None = ap head (sym (own_head x xs) ∙ same (class x)) in absurd cc
        merged P one last (x ∷ xs) (y ∷ ys) all all' order order' same =
            let equal : x ≡ y = first (cases_eq (class x) (class y)) in
            let same' : (n : ℕ) → of_class n (x ∷ xs) ≡ of_class n (x ∷ ys) = λ n. same n ∙ ap (λ entry. of_class n (entry ∷ ys)) (sym equal) in
            let order'' : never_falls last (map key (x ∷ ys)) ≡ true = subst (λ entry. never_falls last (map key (entry ∷ ys)) ≡ true) (sym equal) order' in
            ap (λ later. x ∷ later)
            (merged P one (key x) xs ys (All-tail P x xs all) (All-tail P y ys all') (and_parts (nat_le last (key x)) (never_falls (key x) (map key xs)) order).1
            (and_parts (nat_le last (key x)) (never_falls (key x) (map key ys)) order'').1 (tails x xs ys same'))
            ∙ ap (λ entry. entry ∷ ys) equal
          where
            both : (m n : ℕ) → m ≤ n → n ≤ m → m ≡ n
            both m n le ge = omega arith

            first : (class x ≡ class y) ⊎ (class x ≡ class y → ⊥) → x ≡ y
            first (inl is) =
                let heads : Some x ≡ Some y = sym (ap head (own_head x xs)) ∙ ap head (same (class x)) ∙ ap (λ n. head (of_class n (y ∷ ys))) is ∙ ap head (own_head y ys) in
                cc
            first (inr apart) =
                let mine : key x ≤ key y = head_among (λ entry. key x ≤ key entry) (class y) (x ∷ xs) y (ap head (same (class y)) ∙ ap head (own_head y ys)) (first_least last x xs order) in
                let yours : key y ≤ key x = head_among (λ entry. key y ≤ key entry) (class x) (y ∷ ys) x (ap head (sym (same (class x))) ∙ ap head (own_head x xs)) (first_least last y ys order') in
                absurd (apart (one x y (All-head P x xs all) (All-head P y ys all') (both (key x) (key y) mine yours)))

-- what holds of each client's entries holds of all
pub all_of_parts : (P : Entry → Type 0) (entries : List Entry) → ((n : ℕ) → All P (entries_of n entries)) → All P entries
all_of_parts P [] all = All-nil P
all_of_parts P (entry ∷ entries) all =
    All-cons P entry entries (first (entry.client == entry.client) (eq-eqb entry.client entry.client refl) (all entry.client)) (all_of_parts P entries (λ n. rest n (entry.client == n) (all n)))
  where
    first : (b : Bool) → b ≡ true → All P (cond b (entry ∷ entries_of entry.client entries) (entries_of entry.client entries)) → P entry
    first true is all = All-head P entry (entries_of entry.client entries) all
    first false is all = absurd (let e : false ≡ true = is in cc)

    rest : (n : ℕ) (b : Bool) → All P (cond b (entry ∷ entries_of n entries) (entries_of n entries)) → All P (entries_of n entries)
    rest n true all = All-tail P entry (entries_of n entries) all
    rest n false all = all

-- two tests in either order
pub filter_twice : (one other : Entry → Bool) (entries : List Entry) → filter one (filter other entries) ≡ filter other (filter one entries)
filter_twice one other [] = refl
filter_twice one other (entry ∷ entries) = by (one entry) (other entry) refl refl (filter_twice one other entries)
  where
    by : (a b : Bool) → one entry ≡ a → other entry ≡ b → filter one (filter other entries) ≡ filter other (filter one entries)
        → filter one (cond b (entry ∷ filter other entries) (filter other entries)) ≡ filter other (cond a (entry ∷ filter one entries) (filter one entries))
    by true true a b is =
        ap (λ c. cond c (entry ∷ filter one (filter other entries)) (filter one (filter other entries))) a ∙ ap (λ later. entry ∷ later) is
        ∙ sym (ap (λ c. cond c (entry ∷ filter other (filter one entries)) (filter other (filter one entries))) b)
    by true false a b is = is ∙ sym (ap (λ c. cond c (entry ∷ filter other (filter one entries)) (filter other (filter one entries))) b)
    by false true a b is = ap (λ c. cond c (entry ∷ filter one (filter other entries)) (filter one (filter other entries))) a ∙ is
    by false false a b is = is

pub filter_all : (test : Entry → Bool) (entries : List Entry) → All (λ entry. test entry ≡ true) entries → filter test entries ≡ entries
filter_all test [] all = refl
filter_all test (entry ∷ entries) all =
    ap (λ b. cond b (entry ∷ filter test entries) (filter test entries)) (All-head (λ entry. test entry ≡ true) entry entries all)
    ∙ ap (λ later. entry ∷ later) (filter_all test entries (All-tail (λ entry. test entry ≡ true) entry entries all))

pub filter_none : (test : Entry → Bool) (entries : List Entry) → All (λ entry. test entry ≡ false) entries → filter test entries ≡ []
filter_none test [] all = refl
filter_none test (entry ∷ entries) all =
    ap (λ b. cond b (entry ∷ filter test entries) (filter test entries)) (All-head (λ entry. test entry ≡ false) entry entries all)
    ∙ filter_none test entries (All-tail (λ entry. test entry ≡ false) entry entries all)
