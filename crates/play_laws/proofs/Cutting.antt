-- Where a client's entry stands in a history, and what others have done by then.
use Rattle.std.proofs.Common.{◌≡◌, ◌≢◌, ℕ, suc, ◌+◌, ◌*◌, ◌≤◌, ◌==◌, Bool, true, false, cond, nat_le, [], ◌∷◌, ◌++◌, length, refl, sym, ap, ◌∙◌, subst, arith, eq-eqb, ne_eqb, append-nil, length-append, cond}
use Rattle.std.specs.Prelude.{All, map, filter}
use Rattle.std.proofs.lemmas.Bool.{eqb-true, le-leb, lt-leb}
use Rattle.std.proofs.lemmas.List.Elements.{All-cons, All-filter, All-weaker, filter-append, filter_passes}
use Rattle.moos_client.specs.Calls.{entries_of}
use Rattle.moos_lawful.specs.Schedules.{never_falls}
use Rattle.moos_play.specs.Lawful.{moment_of}
use Rattle.moos_post.specs.declared.entry.Entry.{Entry}
use Rattle.moos_post.specs.History.{History}
use Rattle.play_laws.proofs.Merged.{before_most, behind_least, filter_all, filter_none}

-- a history that is cut at an entry of a client: what the client has before it and behind it
pub record Cut (n : ℕ) (rest front : History) (entry : Entry) (back : History) : Type 0 where
  pub before : History
  pub behind : History
  pub is : rest ≡ before ++ entry ∷ behind
  pub front_is : entries_of n before ≡ front
  pub back_is : entries_of n behind ≡ back
  pub own : entry.client ≡ n

pub cut_at : (n : ℕ) (rest front : History) (entry : Entry) (back : History) → entries_of n rest ≡ front ++ entry ∷ back → Cut n rest front entry back
cut_at n [] front entry back is = absurd (omega (arith, ap length is, length-append front (entry ∷ back)))
cut_at n (one ∷ rest) front entry back is = by (one.client == n) refl front is (λ front is. cut_at n rest front entry back is)
  where
    by : (b : Bool) → (one.client == n) ≡ b → (front : History) → cond b (one ∷ entries_of n rest) (entries_of n rest) ≡ front ++ entry ∷ back
        → ((front : History) → entries_of n rest ≡ front ++ entry ∷ back → Cut n rest front entry back) → Cut n (one ∷ rest) front entry back
    by true own [] is cut =
        let same : one ≡ entry = cc in
        let last : entries_of n rest ≡ back = cc in
        record {
          before = [];
          behind = rest;
          is = ap (λ one. one ∷ rest) same;
          front_is = refl;
          back_is = last;
          own = ap (λ (one : Entry). one.client) (sym same) ∙ eqb-true one.client n own;
        }
    by true own (first ∷ front) is cut =
        let same : one ≡ first = cc in
        let last : entries_of n rest ≡ front ++ entry ∷ back = cc in
        let later = cut front last in
        record {
          before = one ∷ later.before;
          behind = later.behind;
          is = ap (λ later. one ∷ later) later.is;
          front_is = ap (λ b. cond b (one ∷ entries_of n later.before) (entries_of n later.before)) own ∙ ap (λ later. one ∷ later) later.front_is ∙ ap (λ one. one ∷ front) same;
          back_is = later.back_is;
          own = later.own;
        }
    by false own front is cut =
        let later = cut front is in
        record {
          before = one ∷ later.before;
          behind = later.behind;
          is = ap (λ later. one ∷ later) later.is;
          front_is = ap (λ b. cond b (one ∷ entries_of n later.before) (entries_of n later.before)) own ∙ later.front_is;
          back_is = later.back_is;
          own = later.own;
        }

-- the moments of the helm's entries and of others
pub helm_moment : (helm : ℕ) (entry : Entry) → entry.client ≡ helm → moment_of helm entry ≡ suc (2 * entry.stamp)
helm_moment helm entry own = ap (λ b. cond b (suc (2 * entry.stamp)) (2 * entry.stamp)) (eq-eqb entry.client helm own)

pub other_moment : (helm : ℕ) (entry : Entry) → entry.client ≢ helm → moment_of helm entry ≡ 2 * entry.stamp
other_moment helm entry apart = ap (λ b. cond b (suc (2 * entry.stamp)) (2 * entry.stamp)) (ne_eqb entry.client helm apart)

-- By the helm's entry others have done just what isn't of a later moment.
pub done_by : (helm : ℕ) (test : Entry → Bool) → ((one : Entry) → test one ≡ true → one.client ≢ helm) → (rest before : History) (entry : Entry) (behind : History)
    → rest ≡ before ++ entry ∷ behind → entry.client ≡ helm → never_falls 0 (map (moment_of helm) rest) ≡ true
    → filter test before ≡ filter (λ one. nat_le (moment_of helm one) (moment_of helm entry)) (filter test rest)
done_by helm test others rest before entry behind is own order =
    sym (
    ap (λ rest. filter early (filter test rest)) is
    ∙ ap (filter early) (filter-append test before (entry ∷ behind))
    ∙ filter-append early (filter test before) (filter test (entry ∷ behind))
    ∙ ap (λ front. front ++ filter early (filter test (entry ∷ behind))) (filter_all early (filter test before) first)
    ∙ ap (λ back. filter test before ++ back) (filter_none early (filter test (entry ∷ behind)) last)
    ∙ append-nil (filter test before)
    )
  where
    early : Entry → Bool
    early one = nat_le (moment_of helm one) (moment_of helm entry)

    order' : never_falls 0 (map (moment_of helm) (before ++ entry ∷ behind)) ≡ true
    order' = subst (λ rest. never_falls 0 (map (moment_of helm) rest) ≡ true) is order

    first : All (λ one. nat_le (moment_of helm one) (moment_of helm entry) ≡ true) (filter test before)
    first = All-filter test (λ one. nat_le (moment_of helm one) (moment_of helm entry) ≡ true) before
        (All-weaker (λ one. moment_of helm one ≤ moment_of helm entry) (λ one. nat_le (moment_of helm one) (moment_of helm entry) ≡ true) (λ one less. le-leb (moment_of helm one) (moment_of helm entry) less) before
        (before_most (moment_of helm) 0 before entry behind order'))

    later : All (λ one. moment_of helm entry ≤ moment_of helm one) (entry ∷ behind)
    later = All-cons (λ one. moment_of helm entry ≤ moment_of helm one) entry behind (omega arith) (behind_least (moment_of helm) 0 before entry behind order')

    last : All (λ one. nat_le (moment_of helm one) (moment_of helm entry) ≡ false) (filter test (entry ∷ behind))
    last =
        All-weaker (λ one. (test one ≡ true) × (moment_of helm entry ≤ moment_of helm one)) (λ one. nat_le (moment_of helm one) (moment_of helm entry) ≡ false) past (filter test (entry ∷ behind))
        (λ k d within. (filter_passes test (entry ∷ behind) k d within, All-filter test (λ one. moment_of helm entry ≤ moment_of helm one) (entry ∷ behind) later k d within))
      where
        past : (one : Entry) → (test one ≡ true) × (moment_of helm entry ≤ moment_of helm one) → nat_le (moment_of helm one) (moment_of helm entry) ≡ false
        past one both =
            let mine : moment_of helm one ≡ 2 * one.stamp = other_moment helm one (others one both.0) in
            let yours : moment_of helm entry ≡ suc (2 * entry.stamp) = helm_moment helm entry own in
            let least : moment_of helm entry ≤ moment_of helm one = both.1 in
            lt-leb (moment_of helm one) (moment_of helm entry) (omega (arith, mine, yours, least))
