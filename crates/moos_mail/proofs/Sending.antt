-- Which posts are mailed at an entry: those that are due there, and those that catch up.
use Rattle.std.proofs.Common.{◌≡◌, ℕ, suc, ◌+◌, ◌-◌, ◌<◌, ◌≤◌, Bool, true, false, ◌==◌, ◌&&◌, not, List, [], ◌∷◌, append-nil, length, map, fold, take, drop, slice_get, Some, None, All, refl, ap, sym, ◌∙◌, arith, inl, inr, subst}
use Rattle.std.proofs.lemmas.Bool.{cases_lt, ne_eqb, lt-ltb, le-ltb, and_left, and_right}
use Rattle.std.proofs.lemmas.List.Elements.{All-weaker}
use Rattle.std.proofs.lemmas.List.Folds.{list_any_none}
use Rattle.std.specs.List.{list_any}
use Rattle.moos_post.specs.declared.entry.Call.{Call}
use Rattle.moos_post.specs.declared.entry.Call.TheVariants.{Register, Unregister, Post as Posts, Fetch}
use Rattle.moos_post.specs.declared.entry.Entry.{Entry}
use Rattle.moos_post.specs.declared.registration.Reg.{Reg}
use Rattle.moos_post.specs.declared.value.Post.{Post}
use Rattle.moos_post.specs.Delivery.{Mailing, Inbox, mailed_to, with_reg, after_catching_up, selects, is_due, is_latest, is_new_for, was_mailed}
use Rattle.moos_post.specs.History.{History, posts_of, posts_of_call, posts_of_entry}
use Rattle.moos_mail.specs.Sentences.{posts_before}
use Rattle.moos_mail.specs.Registrations.{MadeReg, live_before, is_mailed_at, live_at, is_due_at, is_wanted_anew, catches_up_at, is_to_mail}
use Rattle.moos_mail.proofs.Catching.{caught-at, catching, catching_as}
use Rattle.moos_mail.proofs.Coming.{AllMade, posted-at}
use Rattle.moos_mail.proofs.Inboxes.{ended, entries-own, posts-own, posts-inbox_of, keeps-catching}
use Rattle.moos_mail.proofs.Lists.{found-below, list_any-alike, list_any-map}
use Rattle.moos_mail.proofs.Living.{front, own_part, front-entries, front-posts, next_live, live-after, live-same, lives-new, lives-part, lives-are, mailed-here, mailed-at, mailed-own, none-before, within, IsUnder, live-under, live-by, made-filter, post-front, stand-entry, before-next}
use Rattle.moos_mail.proofs.Mailed.{mailed-past}
use Rattle.moos_mail.proofs.Orderly.{IsPast, IsOrderly, orderly-keeps, settled-inbox_of}

-- none of these registrations was made at the entry
none-new : (k : ℕ) (p : MadeReg → Bool) (mades : List MadeReg) → AllMade (IsUnder k) mades → list_any (λ made. made.entry == k && p made) mades ≡ false
none-new k p [] all = refl
none-new k p (made ∷ mades) all =
    rw (ne_eqb made.entry k (λ same. (let h : made.entry < k = all.0 in omega (arith, h, same)))) (none-new k p mades all.1)

-- no number from here on was mailed
none-past : (count n e : ℕ) (mailed : List Mailing) → All (λ one. one.number < count) mailed → count ≤ n → is_mailed_at n e mailed ≡ false
none-past count n e mailed past above =
    list_any_none (λ one. one.number == n && one.entry == e) mailed
    (All-weaker (λ (one : Mailing). one.number < count) (λ one. (one.number == n && one.entry == e) ≡ false)
    (λ one below. and_left (one.number == n) (one.entry == e) (ne_eqb one.number n (λ same. omega (arith, below, same)))) mailed past)

module _ (names : List (List ℕ)) (client : ℕ) (history : History) (k : ℕ) (entry : Entry) (there : slice_get history k ≡ Some entry) where
  abbrev here : Inbox
  here = front names client history k entry there

  abbrev part : Bool → Call → Inbox
  part own call = own_part names client history k entry there own call

  abbrev next : Bool → Call → List MadeReg
  next own call = next_live names client history k entry there own call

  lived : here.lives ≡ map (live_at names client history (posts_before history k)) (live_before client history k)
  lived = lives-are names client history k (let h : k < length history = within names client history k entry there in omega (arith, h))

  entries-here : here.entries ≡ k
  entries-here = front-entries names client history k entry there

  count-here : length here.posts ≡ posts_before history k
  count-here = front-posts names client history k entry there

  none-here : (n : ℕ) → is_mailed_at n k here.mailed ≡ false
  none-here n = none-before names client history n k (let h : k < length history = within names client history k entry there in omega (arith, h))

  -- an entry that registers nothing for the client makes no earlier post catch up
  still : (n : ℕ) (post : Post) → AllMade (IsUnder k) (live_before client history (suc k)) → catches_up_at names client history k n (Some post) ≡ false
  still n post all =
      ap (λ b. is_latest post (drop (suc n) (posts_of (take k history))) && b && not (was_mailed n (mailed_to names client (take k history)))) (none-new k (λ made. selects names made.reg post) (live_before client history (suc k)) all)
      ∙ and_left (is_latest post (drop (suc n) (posts_of (take k history))) && false) _ (and_right (is_latest post (drop (suc n) (posts_of (take k history)))) false refl)

  under-same : AllMade (IsUnder k) (live_before client history k)
  under-same = live-under client history k (let h : k < length history = within names client history k entry there in omega (arith, h))

  anew : (regs : List Reg) (post : Post) → live_before client history (suc k) ≡ next true (Register regs) →
      list_any (is_new_for names k post) (fold (with_reg here.entries) here.lives regs) ≡ is_wanted_anew names client history k post
  anew regs post after =
      ap (list_any (is_new_for names k post)) (lives-new names client history k entry there regs lived)
      ∙ list_any-map (is_new_for names k post) (catching names client history k 0) (next true (Register regs))
      ∙ list_any-alike _ (λ made. made.entry == k && selects names made.reg post) (next true (Register regs)) (λ made. through made (made.entry == k))
      ∙ ap (list_any (λ made. made.entry == k && selects names made.reg post)) (sym after)
    where
      through : (made : MadeReg) (own : Bool) → is_new_for names k post (catching_as names client history k own 0 made) ≡ (made.entry == k && selects names made.reg post)
      through made true = refl
      through made false = refl

  -- an earlier post is mailed where it catches up
  earlier : (own : Bool) (call : Call) (n : ℕ) (post : Post) → live_before client history (suc k) ≡ next own call → slice_get (posts_of (take k history)) n ≡ Some post →
      is_mailed_at n k (part own call).mailed ≡ catches_up_at names client history k n (Some post)
  earlier false call n post after is = none-here n ∙ sym (still n post (subst (AllMade (IsUnder k)) (sym (after ∙ live-same names client history k entry there)) under-same))
  earlier true (Posts batch) n post after is = none-here n ∙ sym (still n post (subst (AllMade (IsUnder k)) (sym (after ∙ live-same names client history k entry there)) under-same))
  earlier true Fetch n post after is = none-here n ∙ sym (still n post (subst (AllMade (IsUnder k)) (sym (after ∙ live-same names client history k entry there)) under-same))
  earlier true (Unregister var source) n post after is =
      none-here n ∙ sym (still n post (subst (AllMade (IsUnder k)) (sym (after ∙ append-nil _)) (made-filter (IsUnder k) _ (live_before client history k) under-same)))
  earlier true (Register regs) n post after is =
      let inbox : Inbox = record here { lives = fold (with_reg here.entries) here.lives regs } in
      let zero-plus : 0 + n ≡ n = omega arith in
      subst (λ m. is_mailed_at m k (after_catching_up names 0 inbox here.posts).mailed ≡ (is_latest post (drop (suc n) here.posts) && list_any (is_new_for names k post) inbox.lives && not (was_mailed m here.mailed))) zero-plus
      (subst (λ e. is_mailed_at (0 + n) e (after_catching_up names 0 inbox here.posts).mailed ≡ (is_latest post (drop (suc n) here.posts) && list_any (is_new_for names e post) inbox.lives && not (was_mailed (0 + n) here.mailed))) entries-here
      (caught-at names 0 n post inbox here.posts (ap (λ posts. slice_get posts n) (posts-inbox_of names client (take k history)) ∙ is)
      (ap (λ e. is_mailed_at (0 + n) e here.mailed) entries-here ∙ none-here (0 + n))))
      ∙ ap (λ posts. is_latest post (drop (suc n) posts) && list_any (is_new_for names k post) inbox.lives && not (was_mailed n here.mailed)) (posts-inbox_of names client (take k history))
      ∙ ap (λ b. is_latest post (drop (suc n) (posts_of (take k history))) && b && not (was_mailed n here.mailed)) (anew regs post after)

  -- no later post is mailed by the client's own call
  own-past : (own : Bool) (call : Call) (n : ℕ) → posts_before history k ≤ n → is_mailed_at n k (part own call).mailed ≡ false
  own-past false call n above = none-here n
  own-past true (Posts batch) n above = none-here n
  own-past true Fetch n above = none-here n
  own-past true (Unregister var source) n above = none-here n
  own-past true (Register regs) n above =
      let inbox : Inbox = record here { lives = fold (with_reg here.entries) here.lives regs } in
      let old : IsOrderly here = (settled-inbox_of names client (take k history)).orderly in
      let orderly : IsOrderly (after_catching_up names 0 inbox here.posts)
      = keeps-catching names IsOrderly (orderly-keeps names) 0 inbox here.posts (omega arith) ((orderly-keeps names).relived here inbox.lives old) in
      none-past (posts_before history k) n k (after_catching_up names 0 inbox here.posts).mailed
      (All-weaker (IsPast (after_catching_up names 0 inbox here.posts).entries (length (after_catching_up names 0 inbox here.posts).posts)) (λ one. one.number < posts_before history k)
      (λ one past. omega (arith, past.number, ap length (posts-own names here true (Register regs)), count-here)) _ orderly.past) above

  own-entries : (own : Bool) (call : Call) → (part own call).entries ≡ k
  own-entries own call = entries-own names here own call ∙ entries-here

  -- an entry with posts leaves the live registrations
  same-live : (own : Bool) (call : Call) (i : ℕ) (post : Post) → live_before client history (suc k) ≡ next own call → slice_get (posts_of_call entry.stamp entry.client call) i ≡ Some post →
      live_before client history (suc k) ≡ live_before client history k
  same-live false call i post after is = after ∙ live-same names client history k entry there
  same-live true (Posts batch) i post after is = after ∙ live-same names client history k entry there
  same-live true (Register regs) i post after is = absurd (let e : None ≡ Some post = is in cc)
  same-live true (Unregister var source) i post after is = absurd (let e : None ≡ Some post = is in cc)
  same-live true Fetch i post after is = absurd (let e : None ≡ Some post = is in cc)

  -- a post of the entry is mailed where it is due
  made-now : (n : ℕ) → posts_before history k ≤ n → n < posts_before history (suc k) →
      is_mailed_at n k (mailed_to names client history) ≡ is_due_at names client history k n (slice_get (posts_of history) n)
  made-now n above below =
      let p : ℕ = posts_before history k in
      let own : Bool = entry.client == client in
      let i : ℕ = n - p in
      let at : p + i ≡ n = omega (arith, above) in
      let found : (post : Post) × (slice_get (posts_of_entry entry) i ≡ Some post) = found-below (posts_of_entry entry) i (omega (arith, before-next history k entry there, below, above)) in
      let after : live_before client history (suc k) ≡ next own entry.call = live-after names client history k entry there in
      let due : is_mailed_at (p + i) k (ended names client here entry).mailed ≡ list_any (λ made. is_due names found.0 (live_at names client history (p + i) made)) (live_before client history (suc k))
      = subst (λ e. is_mailed_at (p + i) e (ended names client here entry).mailed ≡ list_any (λ made. is_due names found.0 (live_at names client history (p + i) made)) (live_before client history (suc k))) (own-entries own entry.call)
      (posted-at names client history p i found.0 (posts_of_entry entry) (part own entry.call) (live_before client history (suc k))
      (ap length (posts-own names here own entry.call) ∙ count-here) found.1 (stand-entry names client history k entry there) (live-by names client history k (within names client history k entry there))
      (lives-part names client history k entry there lived)
      (ap (λ e. is_mailed_at (p + i) e (part own entry.call).mailed) (own-entries own entry.call) ∙ own-past own entry.call (p + i) (omega arith))) in
      mailed-here names client history k entry there n
      ∙ subst (λ m. is_mailed_at m k (ended names client here entry).mailed ≡ list_any (λ made. is_due names found.0 (live_at names client history m made)) (live_before client history (suc k))) at due
      ∙ ap (list_any (λ made. is_due names found.0 (live_at names client history n made))) (same-live own entry.call i found.0 after found.1)
      ∙ ap (is_due_at names client history k n) (sym (ap (slice_get (posts_of history)) (sym at) ∙ stand-entry names client history k entry there i found.0 found.1))

  -- an earlier post is mailed where it catches up
  made-before : (n : ℕ) → n < posts_before history k → is_mailed_at n k (mailed_to names client history) ≡ catches_up_at names client history k n (slice_get (posts_of history) n)
  made-before n below =
      let found : (post : Post) × (slice_get (posts_of (take k history)) n ≡ Some post) = found-below (posts_of (take k history)) n below in
      sym (mailed-own names client history k entry there n below)
      ∙ earlier (entry.client == client) entry.call n found.0 (live-after names client history k entry there) found.1
      ∙ ap (catches_up_at names client history k n) (sym (post-front history k n found.0 found.1))

  -- a later post is not mailed
  made-after : (n : ℕ) → posts_before history (suc k) ≤ n → is_mailed_at n k (mailed_to names client history) ≡ false
  made-after n above =
      let h : k < length history = within names client history k entry there in
      mailed-at names client history n k h
      ∙ none-past (posts_before history (suc k)) n k (mailed_to names client (take (suc k) history))
      (All-weaker (λ (one : Mailing). (one.entry < suc k) × (one.number < posts_before history (suc k))) (λ one. one.number < posts_before history (suc k)) (λ one past. past.1) _ (mailed-past names client history (suc k) (omega (arith, h)))) above

  pub mailed-where : (n : ℕ) → is_mailed_at n k (mailed_to names client history) ≡ is_to_mail names client history n k
  mailed-where n =
      elim (cases_lt n (posts_before history k)) [
        | inl below ↦ rw (lt-ltb n (posts_before history k) below) (made-before n below)
        | inr above ↦ rw (le-ltb n (posts_before history k) above) (elim (cases_lt n (posts_before history (suc k))) [
          | inl now ↦ rw (lt-ltb n (posts_before history (suc k)) now) (made-now n above now)
          | inr later ↦ rw (le-ltb n (posts_before history (suc k)) later) (made-after n later)
        ])
      ]

-- A post is mailed at an entry just where it is to be mailed there.
pub sent : (names : List (List ℕ)) (client : ℕ) (history : History) (n e : ℕ) → e < length history → is_mailed_at n e (mailed_to names client history) ≡ is_to_mail names client history n e
sent names client history n e below = (let found : (entry : Entry) × (slice_get history e ≡ Some entry) = found-below history e below in mailed-where names client history e found.0 found.1 n)
