-- From one stamp to the next: all that is shared so far, with the lines of a stamp and one carrying more.
use Rattle.std.proofs.Common.{◌≡◌, ℕ, suc, ◌+◌, ◌<◌, ◌≤◌, ◌==◌, ◌⊎◌, inl, inr, ◌||◌, ◌&&◌, Bool, true, false, cond, List, [], ◌∷◌, ◌++◌, drop, length, length-append, take, Option, None, Some, nat_le, nat_lt, refl, sym, ap, ◌∙◌, subst, arith, append-nil, append_assoc}
use Rattle.std.specs.List.{list_all, list_any}
use Rattle.std.proofs.lemmas.Bool.{and_from, and_parts, or_left, or_right}
use Rattle.std.proofs.lemmas.Bool.Decides.{nat_tests}
use Rattle.std.proofs.lemmas.List.Folds.{list_all-append, list_any-append}
use Rattle.moos_bridged.proofs.Bridging.{bridged_next, bridged_on, post_at}
use Rattle.moos_bridged.proofs.Lines.{all_left, late_next, lines_below, next_among, some_same}
use Rattle.moos_bridged.proofs.Moments.{below_next, early_next, keeps_next, rising_next}
use Rattle.moos_bridged.specs.Bridging.{IsBridgedSoFar}
use Rattle.moos_bridged.specs.Communities.{bridge_entry, bridge_in, community_history, community_script, done_lines, GoesOnBy, HasCrossed, HasPlayedStamp, IsResting, left_lines, next_line_stamp, StaysAt}
use Rattle.moos_bridged.specs.declared.community.Community.{Community}
use Rattle.moos_bridged.specs.Stamping.{behind_opening, earlier, IsPlayedTo, IsSharedSoFar, lines_left}
use Rattle.moos_client.proofs.Histories.{fronts_pass}
use Rattle.moos_client.specs.Calls.{entries_of, entry_of}
use Rattle.moos_db.specs.Database.{letters_after}
use Rattle.moos_post.specs.declared.entry.Call.TheVariants.{Fetch, Post as Posts}
use Rattle.moos_post.specs.declared.entry.Call.{Call}
use Rattle.moos_post.specs.declared.entry.Entry.{Entry}
use Rattle.moos_post.specs.History.{History}
use Rattle.moos_share.specs.Bridged.{bridge_number, has_stamp, keeps_moments, names_bridged}
use Rattle.moos_share.specs.Carrying.{BridgeState}
use Rattle.moos_share.specs.declared.rule.Rule.{Rule}
use Rattle.moos_share.specs.Renaming.{renamed}
use Rattle.moos_step.proofs.Steps.{none_past}
use Rattle.script_reader.specs.declared.script.Script.{Script}

-- the earlier of two stamps is one of them, and neither is below it
pub earlier_one : (one two : Option ℕ) (stamp : ℕ) → earlier one two ≡ Some stamp → (one ≡ Some stamp) ⊎ (two ≡ Some stamp)
earlier_one None two stamp is = inr is
earlier_one (Some one) None stamp is = inl is
earlier_one (Some one) (Some two) stamp is = by (nat_lt two one) is
  where
    by : (b : Bool) → Some (cond b two one) ≡ Some stamp → (Some one ≡ Some stamp) ⊎ (Some two ≡ Some stamp)
    by true is = inr is
    by false is = inl is

earlier_first : (one two : Option ℕ) (stamp next : ℕ) → earlier one two ≡ Some stamp → one ≡ Some next → stamp ≤ next
earlier_first None two stamp next is here = absurd cc
earlier_first (Some one) None stamp next is here = omega (arith, some_same is, some_same here)
earlier_first (Some one) (Some two) stamp next is here = by (nat_lt two one) refl (some_same is)
  where
    by : (b : Bool) → nat_lt two one ≡ b → cond b two one ≡ stamp → stamp ≤ next
    by true e is = let same = some_same here in grind (arith, nat_tests, e, is, same)
    by false e is = let same = some_same here in omega (arith, is, same)

earlier_second : (one two : Option ℕ) (stamp next : ℕ) → earlier one two ≡ Some stamp → two ≡ Some next → stamp ≤ next
earlier_second None two stamp next is here = omega (arith, some_same (sym is ∙ here))
earlier_second (Some one) None stamp next is here = absurd cc
earlier_second (Some one) (Some two) stamp next is here = by (nat_lt two one) refl (some_same is)
  where
    by : (b : Bool) → nat_lt two one ≡ b → cond b two one ≡ stamp → stamp ≤ next
    by true e is = let same = some_same here in omega (arith, is, same)
    by false e is = let same = some_same here in grind (arith, nat_tests, e, is, same)

-- the next stamp, as it was looked up
pub next_is : (one two : Community) (first second result : Option ℕ) (stamp : ℕ) → first ≡ next_line_stamp (left_lines one) → second ≡ next_line_stamp (left_lines two) → result ≡ earlier first second → result ≡ Some stamp → earlier (next_line_stamp (left_lines one)) (next_line_stamp (left_lines two)) ≡ Some stamp
next_is one two first second result stamp f s r is = ap (λ first. earlier first (next_line_stamp (left_lines two))) (sym f) ∙ ap (earlier first) (sym s) ∙ sym r ∙ is

-- so no line of an earlier stamp is left
pub first_late : (one two : Community) (stamp : ℕ) → IsResting one → earlier (next_line_stamp (left_lines one)) (next_line_stamp (left_lines two)) ≡ Some stamp → list_all (λ line. nat_le stamp line.stamp) (left_lines one) ≡ true
first_late one two stamp so is =
    let script : Script = community_script one in
    late_next (length script.names) 0 script.stop one.from script.lines stamp so.valid.lines (λ next here. earlier_first (next_line_stamp (left_lines one)) (next_line_stamp (left_lines two)) stamp next is here)

pub second_late : (one two : Community) (stamp : ℕ) → IsResting two → earlier (next_line_stamp (left_lines one)) (next_line_stamp (left_lines two)) ≡ Some stamp → list_all (λ line. nat_le stamp line.stamp) (left_lines two) ≡ true
second_late one two stamp so is =
    let script : Script = community_script two in
    late_next (length script.names) 0 script.stop two.from script.lines stamp so.valid.lines (λ next here. earlier_second (next_line_stamp (left_lines one)) (next_line_stamp (left_lines two)) stamp next is here)

-- the stamp is that of a line of either script
stamp_among : (one two : Community) (stamp : ℕ) → earlier (next_line_stamp (left_lines one)) (next_line_stamp (left_lines two)) ≡ Some stamp → (has_stamp stamp (community_script one).lines || has_stamp stamp (community_script two).lines) ≡ true
stamp_among one two stamp is = by (earlier_one (next_line_stamp (left_lines one)) (next_line_stamp (left_lines two)) stamp is)
  where
    by : (next_line_stamp (left_lines one) ≡ Some stamp) ⊎ (next_line_stamp (left_lines two) ≡ Some stamp) → (has_stamp stamp (community_script one).lines || has_stamp stamp (community_script two).lines) ≡ true
    by (inl here) = or_left (has_stamp stamp (community_script one).lines) (has_stamp stamp (community_script two).lines) (next_among one.from (community_script one).lines stamp here)
    by (inr here) = or_right (has_stamp stamp (community_script one).lines) (has_stamp stamp (community_script two).lines) (next_among two.from (community_script two).lines stamp here)

-- nor is it below any that a line which is left may have
least_next : (low stamp : ℕ) (left : List Entry) → list_all (λ line. nat_le low line.stamp) left ≡ true → next_line_stamp left ≡ Some stamp → low ≤ stamp
least_next low stamp [] late is = absurd cc
least_next low stamp (line ∷ left) late is =
    let here = (and_parts (nat_le low line.stamp) (list_all (λ line. nat_le low line.stamp) left) late).0 in let same = some_same is in grind (arith, nat_tests, here, same)

low_next : (low stamp : ℕ) (one two : Community) → list_all (λ line. nat_le low line.stamp) (left_lines one) ≡ true → list_all (λ line. nat_le low line.stamp) (left_lines two) ≡ true → earlier (next_line_stamp (left_lines one)) (next_line_stamp (left_lines two)) ≡ Some stamp → low ≤ stamp
low_next low stamp one two first second is = by (earlier_one (next_line_stamp (left_lines one)) (next_line_stamp (left_lines two)) stamp is)
  where
    by : (next_line_stamp (left_lines one) ≡ Some stamp) ⊎ (next_line_stamp (left_lines two) ≡ Some stamp) → low ≤ stamp
    by (inl here) = least_next low stamp (left_lines one) first here
    by (inr here) = least_next low stamp (left_lines two) second here

-- lines whose stamps are among some, and more lines of one stamp more
among_more : (stamps : List ℕ) (stamp : ℕ) (done : List Entry) → list_all (λ line. list_any (λ one. one == line.stamp) stamps) done ≡ true → list_all (λ line. list_any (λ one. one == line.stamp) (stamps ++ stamp ∷ [])) done ≡ true
among_more stamps stamp [] all = refl
among_more stamps stamp (line ∷ done) all =
    let tests = and_parts (list_any (λ one. one == line.stamp) stamps) (list_all (λ line. list_any (λ one. one == line.stamp) stamps) done) all in
    and_from (list_any (λ one. one == line.stamp) (stamps ++ stamp ∷ [])) (list_all (λ line. list_any (λ one. one == line.stamp) (stamps ++ stamp ∷ [])) done)
    (list_any-append (λ one. one == line.stamp) stamps (stamp ∷ []) ∙ or_left (list_any (λ one. one == line.stamp) stamps) (list_any (λ one. one == line.stamp) (stamp ∷ [])) tests.0) (among_more stamps stamp done tests.1)

among_last : (stamps : List ℕ) (stamp : ℕ) (lines : List Entry) → list_all (λ line. line.stamp == stamp) lines ≡ true → list_all (λ line. list_any (λ one. one == line.stamp) (stamps ++ stamp ∷ [])) lines ≡ true
among_last stamps stamp [] all = refl
among_last stamps stamp (line ∷ lines) all =
    let tests = and_parts (line.stamp == stamp) (list_all (λ line. line.stamp == stamp) lines) all in
    let here = tests.0 in
    and_from (list_any (λ one. one == line.stamp) (stamps ++ stamp ∷ [])) (list_all (λ line. list_any (λ one. one == line.stamp) (stamps ++ stamp ∷ [])) lines)
    (list_any-append (λ one. one == line.stamp) stamps (stamp ∷ []) ∙ or_right (list_any (λ one. one == line.stamp) stamps) (list_any (λ one. one == line.stamp) (stamp ∷ [])) (or_left (stamp == line.stamp) false (grind (arith, nat_tests, here))))
    (among_last stamps stamp lines tests.1)

-- one community, with the lines of the stamp and then the bridge's entry more
played_next : (low stamp : ℕ) (stamps : List ℕ) (before played after : Community) (part : History) (call : Call) (on : HasPlayedStamp stamp before played) → low ≤ stamp → IsResting before → IsPlayedTo low stamps before part
    → GoesOnBy (bridge_entry played stamp call ∷ []) played after → StaysAt played after → IsPlayedTo (suc stamp) (stamps ++ stamp ∷ []) after ((part ++ on.played.added) ++ bridge_entry played stamp call ∷ [])
played_next low stamp stamps before played after part call on less resting so crossed stays = record {
  done = subst (λ lines. list_all (λ line. list_any (λ one. one == line.stamp) (stamps ++ stamp ∷ [])) lines ≡ true) (sym done)
      (list_all-append (λ line. list_any (λ one. one == line.stamp) (stamps ++ stamp ∷ [])) (done_lines before) on.lines
      ∙ and_from (list_all (λ line. list_any (λ one. one == line.stamp) (stamps ++ stamp ∷ [])) (done_lines before)) (list_all (λ line. list_any (λ one. one == line.stamp) (stamps ++ stamp ∷ [])) on.lines) (among_more stamps stamp (done_lines before) so.done) (among_last stamps stamp on.lines on.one));
  left = subst (λ lines. list_all (λ line. nat_lt stamp line.stamp) lines ≡ true) (sym left) on.over;
  moments = subst (λ (n : ℕ). keeps_moments n 0 ((part ++ on.played.added) ++ entry ∷ []) ≡ true) (ap bridge_number (sym script))
      (subst (λ history. keeps_moments (bridge_in before) 0 history ≡ true) (sym (append_assoc part on.played.added (entry ∷ []))) (keeps_next (bridge_in before) low stamp part on.played.added entry less so.moments so.early stamped clients refl));
  early = subst (λ history. list_all (λ (entry : Entry). nat_lt entry.stamp (suc stamp)) history ≡ true) (sym (append_assoc part on.played.added (entry ∷ []))) (early_next low stamp part on.played.added entry less so.early stamped refl);
}
  where
    entry : Entry
    entry = bridge_entry played stamp call

    script : community_script after ≡ community_script before
    script = crossed.script ∙ on.played.on.script

    done : done_lines after ≡ done_lines before ++ on.lines
    done = ap (λ (s : Script). take after.from s.lines) crossed.script ∙ ap (λ n. take n (community_script played).lines) stays ∙ on.done

    left : left_lines after ≡ left_lines played
    left = ap (λ (s : Script). drop after.from s.lines) crossed.script ∙ ap (λ n. drop n (community_script played).lines) stays

    own : (n : ℕ) → (rest : History) × (entries_of n on.lines ≡ entries_of n on.played.added ++ rest)
    own n = ([], sym (on.played.own n) ∙ sym (append-nil (entries_of n on.played.added)))

    stamped : list_all (λ entry. entry.stamp == stamp) on.played.added ≡ true
    stamped = fronts_pass (λ entry. entry.stamp == stamp) on.lines on.played.added own on.one

    below : list_all (λ line. nat_lt line.client (bridge_in before)) on.lines ≡ true
    below = front on.lines (left_lines played) (ap (list_all (λ (line : Entry). nat_lt line.client (bridge_in before))) (sym on.left) ∙ all_left (λ line. nat_lt line.client (bridge_in before)) (community_script before).lines before.from
        (lines_below (bridge_in before) 0 (community_script before).stop (community_script before).lines resting.valid.lines))
      where
        front : (some more : List Entry) → list_all (λ line. nat_lt line.client (bridge_in before)) (some ++ more) ≡ true → list_all (λ line. nat_lt line.client (bridge_in before)) some ≡ true
        front some more all = (and_parts (list_all (λ line. nat_lt line.client (bridge_in before)) some) (list_all (λ line. nat_lt line.client (bridge_in before)) more) (sym (list_all-append (λ line. nat_lt line.client (bridge_in before)) some more) ∙ all)).0

    clients : list_all (λ entry. nat_lt entry.client (bridge_in before)) on.played.added ≡ true
    clients = fronts_pass (λ entry. nat_lt entry.client (bridge_in before)) on.lines on.played.added own below

-- no entry of the clients is the bridge's
played_none : (stamp : ℕ) (before after : Community) → IsResting before → (on : HasPlayedStamp stamp before after) → entries_of (bridge_in before) on.played.added ≡ []
played_none stamp before after so on =
    on.played.own (bridge_in before)
    ∙ none_past (bridge_in before) (bridge_in before) on.lines
    ((and_parts (below on.lines) (below (left_lines after)) (sym (list_all-append (λ line. nat_lt line.client (bridge_in before)) on.lines (left_lines after)) ∙ ap below (sym on.left)
    ∙ all_left (λ line. nat_lt line.client (bridge_in before)) (community_script before).lines before.from (lines_below (bridge_in before) 0 (community_script before).stop (community_script before).lines so.valid.lines))).0)
    (omega arith)
  where
    below : List Entry → Bool
    below lines = list_all (λ line. nat_lt line.client (bridge_in before)) lines

-- the scripts stay
bridged_same : (first first' second second' : Script) (rules rules' : List Rule) (stamps : List ℕ) (one one' two two' : History) → first' ≡ first → second' ≡ second → rules' ≡ rules → one' ≡ one → two' ≡ two
    → IsBridgedSoFar first second rules stamps one two → IsBridgedSoFar first' second' rules' stamps one' two'
bridged_same first first' second second' rules rules' stamps one one' two two' f s r o t so =
    subst (λ first. IsBridgedSoFar first second' rules' stamps one' two') (sym f)
    (subst (λ second. IsBridgedSoFar first second rules' stamps one' two') (sym s)
    (subst (λ rules. IsBridgedSoFar first second rules stamps one' two') (sym r)
    (subst (λ one. IsBridgedSoFar first second rules stamps one two') (sym o)
    (subst (λ two. IsBridgedSoFar first second rules stamps one two) (sym t) so))))

-- THE NEXT STAMP
pub shared_next : (bridge bridge' : BridgeState) (stamp : ℕ) (one played_one after_one two played_two after_two : Community) → IsSharedSoFar bridge one two → earlier (next_line_stamp (left_lines one)) (next_line_stamp (left_lines two)) ≡ Some stamp
    → HasPlayedStamp stamp one played_one → HasPlayedStamp stamp two played_two → bridge' ≡ bridge → IsResting after_one → IsResting after_two → HasCrossed bridge.rules stamp played_one after_one played_two after_two → IsSharedSoFar bridge' after_one after_two
shared_next bridge bridge' stamp one played_one after_one two played_two after_two so is on_one on_two same rests_one rests_two crossed = record {
  none = ap (λ (bridge : BridgeState). bridge.unposted) same ∙ so.none;
  first = rests_one;
  second = rests_two;
  stamps = so.stamps ++ stamp ∷ [];
  low = suc stamp;
  bridged = bridged_same first (community_script after_one) second (community_script after_two) bridge.rules bridge'.rules (so.stamps ++ stamp ∷ []) _ (community_history after_one) _ (community_history after_two)
      script_one script_two (ap (λ (bridge : BridgeState). bridge.rules) same) history_one history_two
      (bridged_next first second bridge.rules so.stamps stamp (H1 ++ on_one.played.added) (H2 ++ on_two.played.added)
      (bridged_on first second bridge.rules so.stamps H1 H2 on_one.played.added on_two.played.added so.bridged (played_none stamp one played_one so.first on_one) (played_none stamp two played_two so.second on_two)));
  taken = record {
    rising = rising_next so.low stamp so.stamps less so.taken.rising so.taken.below;
    below = below_next so.low stamp so.stamps less so.taken.below;
    each = subst (λ (lines : List Entry). list_all (λ stamp. has_stamp stamp lines || has_stamp stamp (community_script after_two).lines) (so.stamps ++ stamp ∷ []) ≡ true) (ap (λ (s : Script). s.lines) (sym script_one))
        (subst (λ (lines : List Entry). list_all (λ stamp. has_stamp stamp first.lines || has_stamp stamp lines) (so.stamps ++ stamp ∷ []) ≡ true) (ap (λ (s : Script). s.lines) (sym script_two))
        (list_all-append (λ stamp. has_stamp stamp first.lines || has_stamp stamp second.lines) so.stamps (stamp ∷ [])
        ∙ and_from (list_all (λ stamp. has_stamp stamp first.lines || has_stamp stamp second.lines) so.stamps) ((has_stamp stamp first.lines || has_stamp stamp second.lines) && true) so.taken.each
        (and_from (has_stamp stamp first.lines || has_stamp stamp second.lines) true (stamp_among one two stamp is) refl)));
  };
  first_to = subst (IsPlayedTo (suc stamp) (so.stamps ++ stamp ∷ []) after_one) (sym part_one) (played_next so.low stamp so.stamps one played_one after_one (behind_opening H1) Fetch on_one less so.first so.first_to crossed.first crossed.from);
  second_to = subst (IsPlayedTo (suc stamp) (so.stamps ++ stamp ∷ []) after_two) (sym (crossed.second.history ∙ ap (λ front. front ++ bridge_entry played_two stamp post ∷ []) on_two.played.on.history))
      (played_next so.low stamp so.stamps two played_two after_two H2 post on_two less so.second so.second_to crossed.second crossed.to);
}
  where
    first : Script
    first = community_script one

    second : Script
    second = community_script two

    H1 : History
    H1 = community_history one

    H2 : History
    H2 = community_history two

    less : so.low ≤ stamp
    less = low_next so.low stamp one two so.first_to.left so.second_to.left is

    script_one : community_script after_one ≡ first
    script_one = crossed.first.script ∙ on_one.played.on.script

    script_two : community_script after_two ≡ second
    script_two = crossed.second.script ∙ on_two.played.on.script

    post : Call
    post = Posts (renamed (names_bridged (community_script played_one)) bridge.rules (letters_after (names_bridged (community_script played_one)) (bridge_in played_one) (community_history played_one)))

    history_one : community_history after_one ≡ (H1 ++ on_one.played.added) ++ entry_of (bridge_number first) stamp Fetch ∷ []
    history_one = crossed.first.history ∙ ap (λ (s : Script). community_history played_one ++ entry_of (bridge_number s) stamp Fetch ∷ []) on_one.played.on.script ∙ ap (λ front. front ++ entry_of (bridge_number first) stamp Fetch ∷ []) on_one.played.on.history

    history_two : community_history after_two ≡ (H2 ++ on_two.played.added) ++ post_at first second bridge.rules stamp (H1 ++ on_one.played.added) ∷ []
    history_two =
        crossed.second.history
        ∙ ap (λ (s : Script). community_history played_two ++ entry_of (bridge_number s) stamp post ∷ []) on_two.played.on.script
        ∙ ap (λ (s : Script). community_history played_two ++ post_at s second bridge.rules stamp (community_history played_one) ∷ []) on_one.played.on.script
        ∙ ap (λ history. community_history played_two ++ post_at first second bridge.rules stamp history ∷ []) on_one.played.on.history
        ∙ ap (λ front. front ++ post_at first second bridge.rules stamp (H1 ++ on_one.played.added) ∷ []) on_two.played.on.history

    part_one : behind_opening (community_history after_one) ≡ (behind_opening H1 ++ on_one.played.added) ++ bridge_entry played_one stamp Fetch ∷ []
    part_one =
        ap behind_opening (crossed.first.history ∙ ap (λ front. front ++ bridge_entry played_one stamp Fetch ∷ []) (on_one.played.on.history ∙ ap (λ front. front ++ on_one.played.added) so.bridged.opened))
        ∙ ap (λ history. (behind_opening history ++ on_one.played.added) ++ bridge_entry played_one stamp Fetch ∷ []) (sym so.bridged.opened)

-- as many lines are left after a stamp as are left behind its lines
lines_fewer : (stamp : ℕ) (before played after : Community) → HasPlayedStamp stamp before played → community_script after ≡ community_script played → StaysAt played after → length (left_lines after) ≤ length (left_lines before)
lines_fewer stamp before played after on script stays =
    omega (arith, ap length on.left, length-append on.lines (left_lines played), ap (λ (s : Script). length (drop after.from s.lines)) script, ap (λ n. length (drop n (community_script played).lines)) stays)

-- and fewer where the next line has the stamp
fewer_next : (stamp : ℕ) (before played after : Community) → HasPlayedStamp stamp before played → community_script after ≡ community_script played → StaysAt played after → next_line_stamp (left_lines before) ≡ Some stamp → length (left_lines after) < length (left_lines before)
fewer_next stamp before played after on script stays next =
    omega (arith, some on.lines (subst (λ left. next_line_stamp left ≡ Some stamp) on.left next), ap length on.left, length-append on.lines (left_lines played), ap (λ (s : Script). length (drop after.from s.lines)) script, ap (λ n. length (drop n (community_script played).lines)) stays)
  where
    later : (left : List Entry) → list_all (λ line. nat_lt stamp line.stamp) left ≡ true → next_line_stamp left ≡ Some stamp → ⊥
    later [] over is = absurd cc
    later (line ∷ left) over is =
        let here = (and_parts (nat_lt stamp line.stamp) (list_all (λ line. nat_lt stamp line.stamp) left) over).0 in let same = some_same is in absurd (grind (arith, nat_tests, here, same))

    some : (lines : List Entry) → next_line_stamp (lines ++ left_lines played) ≡ Some stamp → 0 < length lines
    some [] is = absurd (later (left_lines played) on.over is)
    some (line ∷ lines) is = omega arith

pub left_less : (stamp : ℕ) (one played_one after_one two played_two after_two : Community) → earlier (next_line_stamp (left_lines one)) (next_line_stamp (left_lines two)) ≡ Some stamp → HasPlayedStamp stamp one played_one → HasPlayedStamp stamp two played_two
    → community_script after_one ≡ community_script played_one → community_script after_two ≡ community_script played_two → StaysAt played_one after_one → StaysAt played_two after_two → lines_left after_one after_two < lines_left one two
left_less stamp one played_one after_one two played_two after_two is on_one on_two script_one script_two from to = by (earlier_one (next_line_stamp (left_lines one)) (next_line_stamp (left_lines two)) stamp is)
  where
    by : (next_line_stamp (left_lines one) ≡ Some stamp) ⊎ (next_line_stamp (left_lines two) ≡ Some stamp) → lines_left after_one after_two < lines_left one two
    by (inl here) = omega (arith, fewer_next stamp one played_one after_one on_one script_one from here, lines_fewer stamp two played_two after_two on_two script_two to)
    by (inr here) = omega (arith, fewer_next stamp two played_two after_two on_two script_two to here, lines_fewer stamp one played_one after_one on_one script_one from)

-- where there is no next stamp nothing is left
pub left_none : (one two : Community) → earlier (next_line_stamp (left_lines one)) (next_line_stamp (left_lines two)) ≡ None → lines_left one two ≡ 0
left_none one two is = by (left_lines one) (left_lines two) is
  where
    by : (one two : List Entry) → earlier (next_line_stamp one) (next_line_stamp two) ≡ None → length one + length two ≡ 0
    by [] [] is = refl
    by [] (line ∷ lines) is = absurd cc
    by (line ∷ lines) [] is = absurd cc
    by (one ∷ ones) (two ∷ twos) is = absurd cc
