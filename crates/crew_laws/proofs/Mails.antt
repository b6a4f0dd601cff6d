-- All letters that a client has at one of its fetches, if it registers before anybody posts, from everybody and at any time.
use Rattle.std.proofs.Common.{◌≡◌, ℕ, zero, suc, ◌+◌, ◌≤◌, ◌<◌, Bool, true, false, cond, ◌==◌, ◌&&◌, not, List, [], ◌∷◌, ◌++◌, append-nil, append_assoc, length, length-append, take, refl, ap, sym, ◌∙◌, arith, subst, if◌then◌else◌, Some}
use Rattle.std.specs.Prelude.{nat_lt, option_map, option_to_list, slice_get}
use Rattle.std.specs.List.{list_all, flat_map}
use Rattle.std.proofs.Math.Bool.{and-false}
use Rattle.std.proofs.Math.Seq.{take-append-add, take-append_seam}
use Rattle.std.proofs.lemmas.Bool.{and_from, and_parts, eqb-true, le-leb, leb-true}
use Rattle.std.proofs.lemmas.Grind.{flat_map-append}
use Rattle.std.proofs.lemmas.List.Folds.{list_all-append}
use Rattle.moos_post.specs.declared.entry.Call.TheVariants.{Register}
use Rattle.moos_post.specs.declared.entry.Entry.{Entry}
use Rattle.moos_post.specs.declared.registration.Reg.{Reg}
use Rattle.moos_post.specs.declared.value.Post.{Post}
use Rattle.moos_post.specs.Delivery.{is_fetch, mail_after, mail_at, mail_of_entry}
use Rattle.moos_post.specs.History.{History, posts_of, posts_of_entry}
use Rattle.moos_mail.specs.Sentences.{given_before, is_fetch_of, keeps_lives, numbers_mailed}
use Rattle.moos_db.specs.declared.mail.Letter.{Letter}
use Rattle.moos_db.specs.Database.{letter_at, letter_of, letters_after, letters_at}
use Rattle.moos_client.proofs.Hearing.{heard_append}
use Rattle.moos_client.specs.Hearing.{heard_in, Mailed}
use Rattle.crew_laws.specs.Fetches.{before_fetch, fetches_for}
use Rattle.crew_laws.specs.InTime.{is_overtaken}
use Rattle.crew_laws.proofs.Coming.{from_everybody, mailed_in_time, matched_by, numbers_in_time}

-- what a fetch gives and what wait are all that was mailed
abbrev pub AreJoined : Type 0
AreJoined = (names : List (List ℕ)) (client : ℕ) (history : History) (k : ℕ) → k ≤ length history → given_before names client history k ++ mail_after names client (take k history) ≡ numbers_mailed names client (take k history)

-- the client registers first of all, from everybody and at any time, and never again
pub record RegistersFirst (client : ℕ) (regs : List Reg) (history : History) : Type 0 where
  pub stamp : ℕ
  pub later : History
  pub is : history ≡ record { stamp = stamp; client = client; call = Register regs } ∷ later
  pub all : from_everybody regs
  pub keeps : list_all (keeps_lives client) later ≡ true

-- the letters with those of some posts, behind others, that are of a wanted variable and come in time
abbrev pub letters_in_time : (List ℕ → Bool) → List Post → List Post → List Letter
letters_in_time wanted before [] = []
letters_in_time wanted before (post ∷ later) =
    if wanted post.var && not (is_overtaken before post) then letter_of (length before) post ∷ letters_in_time wanted (before ++ post ∷ []) later else letters_in_time wanted (before ++ post ∷ []) later

-- the post behind others
at_front : {A : Type 0} (before : List A) (one : A) (later : List A) → slice_get (before ++ one ∷ later) (length before) ≡ Some one
at_front [] one later = refl
at_front (first ∷ before) one later = at_front before one later

letters_are : (wanted : List ℕ → Bool) (before posts : List Post) → letters_at (before ++ posts) (numbers_in_time wanted before posts) ≡ letters_in_time wanted before posts
letters_are wanted before [] = refl
letters_are wanted before (post ∷ later) =
    by (wanted post.var && not (is_overtaken before post))
    (ap (λ all. letters_at all (numbers_in_time wanted (before ++ post ∷ []) later)) (sym (append_assoc before (post ∷ []) later)) ∙ letters_are wanted (before ++ post ∷ []) later)
  where
    by : (heard : Bool) → letters_at (before ++ post ∷ later) (numbers_in_time wanted (before ++ post ∷ []) later) ≡ letters_in_time wanted (before ++ post ∷ []) later
        → letters_at (before ++ post ∷ later) (if heard then length before ∷ numbers_in_time wanted (before ++ post ∷ []) later else numbers_in_time wanted (before ++ post ∷ []) later)
        ≡ (if heard then letter_of (length before) post ∷ letters_in_time wanted (before ++ post ∷ []) later else letters_in_time wanted (before ++ post ∷ []) later)
    by true h =
        ap (λ found. option_to_list (option_map (letter_of (length before)) found) ++ letters_at (before ++ post ∷ later) (numbers_in_time wanted (before ++ post ∷ []) later)) (at_front before post later)
        ∙ ap (λ rest. letter_of (length before) post ∷ rest) h
    by false h = h

-- numbers of posts that there are
abbrev are_within : List Post → List ℕ → Bool
are_within posts numbers = list_all (λ n. nat_lt n (length posts)) numbers

within_time : (wanted : List ℕ → Bool) (before posts : List Post) → are_within (before ++ posts) (numbers_in_time wanted before posts) ≡ true
within_time wanted before [] = refl
within_time wanted before (post ∷ later) =
    by (wanted post.var && not (is_overtaken before post))
    (subst (λ all. are_within all (numbers_in_time wanted (before ++ post ∷ []) later) ≡ true) (append_assoc before (post ∷ []) later) (within_time wanted (before ++ post ∷ []) later))
  where
    by : (heard : Bool) → are_within (before ++ post ∷ later) (numbers_in_time wanted (before ++ post ∷ []) later) ≡ true
        → are_within (before ++ post ∷ later) (if heard then length before ∷ numbers_in_time wanted (before ++ post ∷ []) later else numbers_in_time wanted (before ++ post ∷ []) later) ≡ true
    by true h = and_from (nat_lt (length before) (length (before ++ post ∷ later))) _ (le-leb (suc (length before)) (length (before ++ post ∷ later)) (omega (arith, length-append before (post ∷ later)))) h
    by false h = h

-- of which more posts change nothing
letters_same : (posts more : List Post) (numbers : List ℕ) → are_within posts numbers ≡ true → letters_at (posts ++ more) numbers ≡ letters_at posts numbers
letters_same posts more [] within = refl
letters_same posts more (n ∷ numbers) within =
    let both = and_parts (nat_lt n (length posts)) (are_within posts numbers) within in
    ap (λ found. option_to_list (option_map (letter_of n) found) ++ letters_at (posts ++ more) numbers) (found posts n (leb-true (suc n) (length posts) both.0))
    ∙ ap (λ rest. option_to_list (letter_at posts n) ++ rest) (letters_same posts more numbers both.1)
  where
    found : (posts : List Post) (n : ℕ) → n < length posts → slice_get (posts ++ more) n ≡ slice_get posts n
    found [] n less = absurd (omega (arith, less))
    found (post ∷ posts) zero less = refl
    found (post ∷ posts) (suc n) less = found posts n (omega (arith, less))

-- where a client's fetch i is, and how many fetches are before it
pub record IsFetchAt {A : Type 0} (mailed : Mailed A) (client i : ℕ) (past history : History) : Type 0 where
  pub before : History
  pub fetch : Entry
  pub later : History
  pub is : history ≡ before ++ fetch ∷ later
  pub own : fetches_for client fetch ≡ true
  pub front : before_fetch client i history ≡ before
  pub count : length (heard_in mailed client past before) ≡ i

pub fetch_at : {A : Type 0} (mailed : Mailed A) (client i : ℕ) (past history : History) → i < length (heard_in mailed client past history) → IsFetchAt mailed client i past history
fetch_at mailed client i past [] less = absurd (omega (arith, less))
fetch_at {A = A} mailed client i past (entry ∷ later) less = by (λ j below. fetch_at mailed client j (past ++ entry ∷ []) later below) i (fetches_for client entry) refl less
  where
    one : A
    one = mailed client entry.stamp past

    rest : List A
    rest = heard_in mailed client (past ++ entry ∷ []) later

    heard_is : (own : Bool) → fetches_for client entry ≡ own → heard_in mailed client past (entry ∷ later) ≡ cond own (one ∷ rest) rest
    heard_is own is = ap (λ own. cond own (one ∷ rest) rest) is

    by : ((j : ℕ) → j < length rest → IsFetchAt mailed client j (past ++ entry ∷ []) later) → (i : ℕ) (own : Bool) → fetches_for client entry ≡ own → i < length (heard_in mailed client past (entry ∷ later)) → IsFetchAt mailed client i past (entry ∷ later)
    by at zero true is less = record {
      before = [];
      fetch = entry;
      later = later;
      is = refl;
      own = is;
      front = ap (λ own. cond own [] (entry ∷ before_fetch client zero later)) is;
      count = refl;
    }
    by at (suc i) true is less =
        let next = at i (omega (arith, less, ap length (heard_is true is))) in record {
          before = entry ∷ next.before;
          fetch = next.fetch;
          later = next.later;
          is = ap (λ rest. entry ∷ rest) next.is;
          own = next.own;
          front = ap (λ own. entry ∷ before_fetch client (cond own i (suc i)) later) is ∙ ap (λ rest. entry ∷ rest) next.front;
          count = ap (λ own. length (cond own (one ∷ heard_in mailed client (past ++ entry ∷ []) next.before) (heard_in mailed client (past ++ entry ∷ []) next.before))) is ∙ ap suc next.count;
        }
    by at i false is less =
        let next = at i (omega (arith, less, ap length (heard_is false is))) in record {
          before = entry ∷ next.before;
          fetch = next.fetch;
          later = next.later;
          is = ap (λ rest. entry ∷ rest) next.is;
          own = next.own;
          front = skips i is ∙ ap (λ rest. entry ∷ rest) next.front;
          count = ap (λ own. length (cond own (one ∷ heard_in mailed client (past ++ entry ∷ []) next.before) (heard_in mailed client (past ++ entry ∷ []) next.before))) is ∙ next.count;
        }
      where
        skips : (i : ℕ) → fetches_for client entry ≡ false → before_fetch client i (entry ∷ later) ≡ entry ∷ before_fetch client i later
        skips zero is = ap (λ own. cond own [] (entry ∷ before_fetch client zero later)) is
        skips (suc i) is = ap (λ own. entry ∷ before_fetch client (cond own i (suc i)) later) is

-- a front of a history up to a fetch
pub registers_before : (client : ℕ) (regs : List Reg) (before : History) (fetch : Entry) (later : History) → fetches_for client fetch ≡ true → RegistersFirst client regs (before ++ fetch ∷ later) → RegistersFirst client regs before
registers_before client regs [] fetch later own so =
    let same : is_fetch fetch.call ≡ false = ap (first_fetch fetch) so.is in
    absurd (let e : true ≡ false = sym (and_parts (fetch.client == client) (is_fetch fetch.call) own).1 ∙ same in cc)
  where
    first_fetch : Entry → History → Bool
    first_fetch other [] = is_fetch other.call
    first_fetch other (entry ∷ later) = is_fetch entry.call
registers_before client regs (entry ∷ before) fetch later own so = record {
  stamp = so.stamp;
  later = before;
  is = ap (λ first. first ∷ before) (ap (first_of entry) so.is);
  all = so.all;
  keeps = (and_parts (list_all (keeps_lives client) before) (list_all (keeps_lives client) (fetch ∷ later))
      (sym (list_all-append (keeps_lives client) before (fetch ∷ later)) ∙ ap (λ rest. list_all (keeps_lives client) rest) (ap rest_of so.is) ∙ so.keeps)).0;
}
  where
    first_of : Entry → History → Entry
    first_of other [] = other
    first_of other (entry ∷ later) = entry

    rest_of : History → History
    rest_of [] = []
    rest_of (entry ∷ later) = later

module _ {A : Type 0} (names : List (List ℕ)) (client : ℕ) (regs : List Reg) (mailed : Mailed A) (mail : A → List Letter) (gives : (stamp : ℕ) (past : History) → mail (mailed client stamp past) ≡ letters_after names client past) (joined : AreJoined) where
  -- what was given and what waits are the posts in time
  sum_is : (past more : History) → RegistersFirst client regs past → given_before names client (past ++ more) (length past) ++ mail_after names client past ≡ numbers_in_time (matched_by regs) [] (posts_of past)
  sum_is past more so =
      ap (λ front. given_before names client (past ++ more) (length past) ++ mail_after names client front) (sym (take-append_seam past more))
      ∙ joined names client (past ++ more) (length past) (omega (arith, length-append past more)) ∙ ap (numbers_mailed names client) (take-append_seam past more ∙ so.is)
      ∙ mailed_in_time names client so.stamp regs so.later so.all so.keeps ∙ ap (λ history. numbers_in_time (matched_by regs) [] (posts_of history)) (sym so.is)

  both_within : (past more : History) → RegistersFirst client regs past → (are_within (posts_of past) (given_before names client (past ++ more) (length past)) ≡ true) × (are_within (posts_of past) (mail_after names client past) ≡ true)
  both_within past more so =
      and_parts (are_within (posts_of past) (given_before names client (past ++ more) (length past))) (are_within (posts_of past) (mail_after names client past))
      (sym (list_all-append (λ n. nat_lt n (length (posts_of past))) (given_before names client (past ++ more) (length past)) (mail_after names client past))
      ∙ ap (are_within (posts_of past)) (sum_is past more so) ∙ within_time (matched_by regs) [] (posts_of past))

  -- what was given behind a part of a history is what the client has heard there
  abbrev AreGiven : History → History → Type 0
  AreGiven past more = letters_at (posts_of past) (given_before names client (past ++ more) (length past)) ≡ flat_map mail (heard_in mailed client [] past)

  given_next : (past : History) (entry : Entry) (more : History) → RegistersFirst client regs past → AreGiven past (entry ∷ more) → AreGiven (past ++ entry ∷ []) more
  given_next past entry more so given =
      ap (λ whole. letters_at (posts_of (past ++ entry ∷ [])) (given_before names client whole (length (past ++ entry ∷ [])))) (append_assoc past (entry ∷ []) more)
      ∙ ap (λ k. letters_at (posts_of (past ++ entry ∷ [])) (given_before names client whole k)) (length-append past (entry ∷ []) ∙ count)
      ∙ ap (λ new. letters_at (posts_of (past ++ entry ∷ [])) (old ++ new)) new_is
      ∙ ap (λ posts. letters_at posts (old ++ new (fetches_for client entry))) (flat_map-append posts_of_entry past (entry ∷ []))
      ∙ flat_map-append (λ number. option_to_list (letter_at (posts_of past ++ posts_of (entry ∷ [])) number)) old (new (fetches_for client entry))
      ∙ ap (λ front. front ++ letters_at (posts_of past ++ posts_of (entry ∷ [])) (new (fetches_for client entry))) (letters_same (posts_of past) (posts_of (entry ∷ [])) old (both_within past (entry ∷ more) so).0 ∙ given)
      ∙ by (fetches_for client entry)
      ∙ sym (flat_map-append mail (heard_in mailed client [] past) (heard_in mailed client past (entry ∷ [])))
      ∙ ap (flat_map mail) (sym (heard_append mailed client [] past (entry ∷ [])))
    where
      whole : History
      whole = past ++ entry ∷ more

      old : List ℕ
      old = given_before names client whole (length past)

      new : Bool → List ℕ
      new own = if own then mail_after names client past else []

      count : length past + 1 ≡ suc (length past)
      count = omega arith

      there : slice_get whole (length past) ≡ Some entry
      there = at_front past entry more

      one : A
      one = mailed client entry.stamp past

      mail_of : (own fetch : Bool) → (entry.client == client) ≡ own
          → (if own && fetch then (if fetch then mail_after names entry.client (take (length past) whole) else []) else []) ≡ (if own && fetch then mail_after names client past else [])
      mail_of true true is = ap (λ number. mail_after names number (take (length past) whole)) (eqb-true entry.client client is) ∙ ap (mail_after names client) (take-append_seam past (entry ∷ more))
      mail_of true false is = refl
      mail_of false fetch is = refl

      new_is : (if is_fetch_of client (slice_get whole (length past)) then mail_at names whole (length past) else []) ≡ new (fetches_for client entry)
      new_is = ap (λ found. if is_fetch_of client found then mail_of_entry names (take (length past) whole) found else []) there ∙ mail_of (entry.client == client) (is_fetch entry.call) refl

      by : (own : Bool) → flat_map mail (heard_in mailed client [] past) ++ letters_at (posts_of past ++ posts_of (entry ∷ [])) (new own) ≡ flat_map mail (heard_in mailed client [] past) ++ flat_map mail (cond own (one ∷ []) [])
      by true = ap (λ rest. flat_map mail (heard_in mailed client [] past) ++ rest) (letters_same (posts_of past) (posts_of (entry ∷ [])) (mail_after names client past) (both_within past (entry ∷ more) so).1 ∙ sym (append-nil (mail one) ∙ gives entry.stamp past))
      by false = refl

  given_on : (past entries more : History) → list_all (keeps_lives client) entries ≡ true → RegistersFirst client regs past → AreGiven past (entries ++ more) → AreGiven (past ++ entries) more
  given_on past [] more keeps so given = subst (λ past. AreGiven past more) (sym (append-nil past)) given
  given_on past (entry ∷ entries) more keeps so given =
      let both = and_parts (keeps_lives client entry) (list_all (keeps_lives client) entries) keeps in
      subst (λ past. AreGiven past more) (append_assoc past (entry ∷ []) entries)
      (given_on (past ++ entry ∷ []) entries more both.1 (one_more both.0) (given_next past entry (entries ++ more) so given))
    where
      one_more : keeps_lives client entry ≡ true → RegistersFirst client regs (past ++ entry ∷ [])
      one_more keep = record {
        stamp = so.stamp;
        later = so.later ++ entry ∷ [];
        is = ap (λ front. front ++ entry ∷ []) so.is;
        all = so.all;
        keeps = list_all-append (keeps_lives client) so.later (entry ∷ []) ∙ and_from (list_all (keeps_lives client) so.later) (list_all (keeps_lives client) (entry ∷ [])) so.keeps (and_from (keeps_lives client entry) true keep refl);
      }

  -- and so it is behind each part of a history that begins with the registration
  given_all : (past more : History) → RegistersFirst client regs past → AreGiven past more
  given_all past more so = subst (λ past. AreGiven past more) (sym so.is) (given_on (opening ∷ []) so.later more so.keeps begun start)
    where
      opening : Entry
      opening = record { stamp = so.stamp; client = client; call = Register regs }

      begun : RegistersFirst client regs (opening ∷ [])
      begun = record { stamp = so.stamp; later = []; is = refl; all = so.all; keeps = refl }

      start : AreGiven (opening ∷ []) (so.later ++ more)
      start =
          ap (λ own. letters_at [] (if own then [] else [])) (and-false (client == client))
          ∙ ap (λ own. flat_map mail (cond own (mailed client so.stamp [] ∷ []) [])) (sym (and-false (client == client)))

  -- All letters that the client has at its fetch i: those with the posts in time before it.
  pub letters_by_fetch : (history : History) (i : ℕ) → RegistersFirst client regs history → i < length (heard_in mailed client [] history)
      → flat_map mail (take (suc i) (heard_in mailed client [] history)) ≡ letters_in_time (matched_by regs) [] (posts_of (before_fetch client i history))
  letters_by_fetch history i so less =
      ap (λ heard. flat_map mail (take (suc i) heard)) heard_is ∙ ap (λ n. flat_map mail (take n (old ++ one ∷ later))) (sym count)
      ∙ ap (flat_map mail) (take-append-add old (one ∷ later) 1) ∙ flat_map-append mail old (one ∷ [])
      ∙ ap (λ front. front ++ flat_map mail (one ∷ [])) (sym (given_all at.before (at.fetch ∷ at.later) first))
      ∙ ap (λ back. letters_at (posts_of at.before) given ++ back) (append-nil (mail one) ∙ gives at.fetch.stamp at.before)
      ∙ sym (flat_map-append (λ number. option_to_list (letter_at (posts_of at.before) number)) given (mail_after names client at.before))
      ∙ ap (letters_at (posts_of at.before)) (sum_is at.before (at.fetch ∷ at.later) first)
      ∙ letters_are (matched_by regs) [] (posts_of at.before) ∙ ap (λ before. letters_in_time (matched_by regs) [] (posts_of before)) (sym at.front)
    where
      at : IsFetchAt mailed client i [] history
      at = fetch_at mailed client i [] history less

      first : RegistersFirst client regs at.before
      first = registers_before client regs at.before at.fetch at.later at.own (subst (RegistersFirst client regs) at.is so)

      old : List A
      old = heard_in mailed client [] at.before

      one : A
      one = mailed client at.fetch.stamp at.before

      later : List A
      later = heard_in mailed client (at.before ++ at.fetch ∷ []) at.later

      given : List ℕ
      given = given_before names client (at.before ++ at.fetch ∷ at.later) (length at.before)

      count : length old + 1 ≡ suc i
      count = omega (arith, at.count)

      heard_is : heard_in mailed client [] history ≡ old ++ one ∷ later
      heard_is = ap (heard_in mailed client []) at.is ∙ heard_append mailed client [] at.before (at.fetch ∷ at.later) ∙ ap (λ own. old ++ cond own (one ∷ later) later) at.own
