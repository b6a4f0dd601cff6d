-- Where the ticks of a helm are among its entries.
use Rattle.std.proofs.Common.{◌≡◌, ℕ, zero, suc, ◌+◌, ◌*◌, ◌≤◌, Bool, true, false, cond, ◌==◌, ◌&&◌, ◌||◌, not, List, [], ◌∷◌, ◌++◌, length, refl, sym, ap, subst, ◌∙◌, arith, zero-add}
use Rattle.std.specs.Prelude.{nat_lt}
use Rattle.std.specs.List.{list_all}
use Rattle.std.proofs.Math.Nat.{mul-le-mul, suc-mul}
use Rattle.std.proofs.lemmas.Bool.{and_from, and_parts, le-leb}
use Rattle.moos_post.specs.declared.entry.Call.TheVariants.{Post as Posts, Fetch}
use Rattle.moos_post.specs.declared.entry.Entry.{Entry}
use Rattle.moos_post.specs.Delivery.{is_fetch}
use Rattle.moos_post.specs.History.{History}
use Rattle.moos_mail.specs.Sentences.{keeps_lives, leaves_lives}
use Rattle.moos_client.specs.Calls.{entries_of, entry_of}
use Rattle.moos_client.specs.Hearing.{fetches}
use Rattle.helm_core.specs.Iterations.{iteration_at}
use Rattle.helm_core.specs.Ticks.{Tick}
use Rattle.moos_play.specs.Lawful.{HelmSetup, tick_entries, ticks_of}

-- the first and the others of equal lists
module _ {A : Type 0} where
  abbrev first_of : A → List A → A
  first_of other [] = other
  first_of other (x ∷ xs) = x

  abbrev rest_of : List A → List A
  rest_of [] = []
  rest_of (x ∷ xs) = xs

  pub first_same : (x y : A) (xs ys : List A) → x ∷ xs ≡ y ∷ ys → x ≡ y
  first_same x y xs ys same = ap (first_of x) same

  pub rest_same : (x y : A) (xs ys : List A) → x ∷ xs ≡ y ∷ ys → xs ≡ ys
  rest_same x y xs ys same = ap rest_of same

module _ (helm : HelmSetup) (heard : List Tick) where
  -- the entries at so many ticks from one on
  abbrev pub ticks_from : ℕ → ℕ → List Entry
  ticks_from j zero = []
  ticks_from j (suc m) = entry_of helm.client (j * helm.period) Fetch ∷ entry_of helm.client (j * helm.period) (Posts (iteration_at helm.plan heard j).posts) ∷ ticks_from (suc j) m

  one_more : (j m : ℕ) → ticks_from j (suc m) ≡ ticks_from j m ++ tick_entries helm heard (j + m)
  one_more j zero = (let e : j ≡ j + 0 = omega arith in ap (tick_entries helm heard) e)
  one_more j (suc m) =
      let e : suc j + m ≡ j + suc m = omega arith in
      ap (λ rest. entry_of helm.client (j * helm.period) Fetch ∷ entry_of helm.client (j * helm.period) (Posts (iteration_at helm.plan heard j).posts) ∷ rest)
      (one_more (suc j) m ∙ ap (λ n. ticks_from (suc j) m ++ tick_entries helm heard n) e)

  pub ticks_are : (n : ℕ) → ticks_of helm heard n ≡ ticks_from 0 n
  ticks_are zero = refl
  ticks_are (suc n) = ap (λ front. front ++ tick_entries helm heard n) (ticks_are n) ∙ ap (λ m. ticks_from 0 n ++ tick_entries helm heard m) (sym (zero-add n)) ∙ sym (one_more 0 n)

  pub ticks_fetch : (j n : ℕ) → fetches (ticks_from j n) ≡ n
  ticks_fetch j zero = refl
  ticks_fetch j (suc n) = ap suc (ticks_fetch (suc j) n)

  pub ticks_leave : (j n : ℕ) → list_all (λ entry. leaves_lives entry.call) (ticks_from j n) ≡ true
  ticks_leave j zero = refl
  ticks_leave j (suc n) = ticks_leave (suc j) n

  -- a fetch among them has the stamp of its tick, and what is before it has a lesser one
  pub record IsTickAt (i : ℕ) (before : List Entry) (fetch : Entry) : Type 0 where
    pub stamp : fetch.stamp ≡ i * helm.period
    pub earlier : list_all (λ entry. nat_lt entry.stamp (i * helm.period)) before ≡ true

  pub tick_at : (j n : ℕ) (before : List Entry) (fetch : Entry) (later : List Entry) → 1 ≤ helm.period → ticks_from j n ≡ before ++ fetch ∷ later → is_fetch fetch.call ≡ true → IsTickAt (j + fetches before) before fetch
  tick_at j zero before fetch later some is own = absurd (by before is)
    where
      by : (before : List Entry) → [] ≡ before ++ fetch ∷ later → ⊥
      by [] is = omega (arith, ap length is)
      by (entry ∷ before) is = omega (arith, ap length is)
  tick_at j (suc n) [] fetch later some is own =
      let here : j ≡ j + 0 = omega arith in record { stamp = ap (λ entry. entry.stamp) (sym (first_same _ fetch _ later is)) ∙ ap (λ n. n * helm.period) here; earlier = refl }
  tick_at j (suc n) (entry ∷ []) fetch later some is own =
      absurd (let e : false ≡ true = ap (λ entry. is_fetch entry.call) (first_same _ fetch _ later (rest_same _ entry _ (fetch ∷ later) is)) ∙ own in cc)
  tick_at j (suc n) (entry ∷ post ∷ before) fetch later some is own =
      let more = rest_same _ entry _ (post ∷ before ++ fetch ∷ later) is in
      let next = tick_at (suc j) n before fetch later some (rest_same _ post _ (before ++ fetch ∷ later) more) own in
      let first : entry_of helm.client (j * helm.period) Fetch ≡ entry = first_same _ entry _ (post ∷ before ++ fetch ∷ later) is in
      let second : entry_of helm.client (j * helm.period) (Posts (iteration_at helm.plan heard j).posts) ≡ post = first_same _ post _ (before ++ fetch ∷ later) more in
      let count : suc j + fetches before ≡ j + fetches (entry ∷ post ∷ before)
      = grow (fetches before) ∙ ap (λ one. j + fetches (entry_of helm.client (j * helm.period) Fetch ∷ one ∷ before)) second ∙ ap (λ one. j + fetches (one ∷ post ∷ before)) first in
      subst (λ i. IsTickAt i (entry ∷ post ∷ before) fetch) count (record {
        stamp = next.stamp;
        earlier = and_from (nat_lt entry.stamp ((suc j + fetches before) * helm.period)) _ (less entry.stamp (fetches before) (ap (λ entry. entry.stamp) first))
            (and_from (nat_lt post.stamp ((suc j + fetches before) * helm.period)) _ (less post.stamp (fetches before) (ap (λ entry. entry.stamp) second)) next.earlier);
      })
    where
      grow : (n : ℕ) → suc j + n ≡ j + suc n
      grow n = omega arith

      less : (stamp k : ℕ) → j * helm.period ≡ stamp → nat_lt stamp ((suc j + k) * helm.period) ≡ true
      less stamp k at =
          let below : suc j ≤ suc j + k = omega arith in
          let period : helm.period ≤ helm.period = omega arith in
          le-leb (suc stamp) ((suc j + k) * helm.period) (omega (arith, at, some, suc-mul j helm.period, mul-le-mul below period))

-- an entry that isn't the client's registers nothing for it
pub own_keep : (client : ℕ) (entries : History) → list_all (λ entry. leaves_lives entry.call) (entries_of client entries) ≡ true → list_all (keeps_lives client) entries ≡ true
own_keep client [] leave = refl
own_keep client (entry ∷ entries) leave = by (entry.client == client) leave (own_keep client entries)
  where
    by : (own : Bool) → list_all (λ entry. leaves_lives entry.call) (cond own (entry ∷ entries_of client entries) (entries_of client entries)) ≡ true
        → (list_all (λ entry. leaves_lives entry.call) (entries_of client entries) ≡ true → list_all (keeps_lives client) entries ≡ true) → ((not own || leaves_lives entry.call) && list_all (keeps_lives client) entries) ≡ true
    by true leave more = (let both = and_parts (leaves_lives entry.call) (list_all (λ entry. leaves_lives entry.call) (entries_of client entries)) leave in and_from (leaves_lives entry.call) (list_all (keeps_lives client) entries) both.0 (more both.1))
    by false leave more = more leave
