-- A community after a step: it rests again.
use Rattle.std.proofs.Common.{◌≡◌, ℕ, ◌+◌, ◌-◌, ◌≤◌, ◌==◌, true, List, [], ◌∷◌, ◌++◌, append-nil, drop, length, length-append, length-take, take, Ok, nat_le, nat_lt, refl, sym, ap, ◌∙◌, subst, arith}
use Rattle.std.specs.List.{list_all}
use Rattle.std.specs.Prelude.{codes}
use Rattle.std.proofs.lemmas.Bool.{and_parts}
use Rattle.std.specs.declared.alloc.AllocError.{AllocError}
use Rattle.std.proofs.lemmas.List.Elements.{filter-append}
use Rattle.moos_bridged.proofs.Bridging.{other_next}
use Rattle.moos_bridged.proofs.Lines.{drop_cut, over_next, take_cut}
use Rattle.moos_bridged.specs.Communities.{bridge_in, community_history, community_script, done_lines, HasPlayedLines, HasPlayedStamp, IsResting, IsStampEnd, left_lines, lines_cut, StaysAt}
use Rattle.moos_bridged.specs.declared.community.Community.{Community}
use Rattle.moos_client.specs.Calls.{entries_of}
use Rattle.moos_post.specs.declared.entry.Entry.{Entry}
use Rattle.moos_share.specs.Bridged.{bridge_number, names_bridged}
use Rattle.moos_step.proofs.Growing.{grown}
use Rattle.moos_step.specs.Steps.{CommunityLock, GoesOn, IsGathered, IsPlayed, IsWhole, KnowsNothing}
use Rattle.script_reader.specs.declared.script.Script.{Script}
use Rattle.script_reader.specs.Validity.{IsValid}

-- the bridge is the last of the clients
pub bridge_last : (community : Community) → IsResting community → bridge_in community + 1 ≡ length community.lock.base
bridge_last community resting = omega (arith, ap length resting.names, length-append (community_script community).names (codes "pShare" ∷ []))

-- the same community after its clients have played some lines
pub rests_played : (before after : Community) → IsResting before → community_script after ≡ community_script before → after.lock ≡ before.lock → before.from ≤ after.from → after.from ≤ length (community_script before).lines
    → length after.calls.items ≡ length before.calls.items → IsGathered before.lock after.first.seat → GoesOn (IsPlayed {E = AllocError} (lines_cut before.from after.from (community_script before).lines) (Ok tt)) before.first.seat after.first.seat → IsResting after
rests_played before after so script lock more within calls gathered on = record {
  valid = subst IsValid (sym script) so.valid;
  names = ap (λ (l : CommunityLock). l.base) lock ∙ so.names ∙ ap names_bridged (sym script);
  gathered = subst (λ lock. IsGathered lock after.first.seat) (sym lock) gathered;
  whole = on.whole;
  within = omega (arith, within, ap (λ (s : Script). length s.lines) script);
  calls = calls ∙ so.calls ∙ ap (λ (s : Script). length s.names) (sym script);
  own = λ client other.
      ap (entries_of client) on.later.1
      ∙ filter-append (λ entry. entry.client == client) before.first.seat.seen on.later.0
      ∙ ap (λ front. front ++ entries_of client on.later.0) (so.own client (λ e. other (e ∙ ap bridge_number (sym script))))
      ∙ ap (λ end. entries_of client (done_lines before) ++ end) (played client)
      ∙ sym (filter-append (λ entry. entry.client == client) (done_lines before) lines)
      ∙ ap (entries_of client) (sym (take_cut before.from after.from (community_script before).lines more))
      ∙ ap (λ (s : Script). entries_of client (take after.from s.lines)) (sym script);
}
  where
    lines : List Entry
    lines = lines_cut before.from after.from (community_script before).lines

    played : (client : ℕ) → entries_of client on.later.0 ≡ entries_of client lines
    played client = (grown (IsPlayed {E = AllocError} lines (Ok tt)) before.first.seat after.first.seat so.whole on client).all

-- what it adds to the history
pub plays_lines : (before after : Community) → IsResting before → community_script after ≡ community_script before → after.lock ≡ before.lock → (lines : List Entry)
    → GoesOn (IsPlayed {E = AllocError} lines (Ok tt)) before.first.seat after.first.seat → HasPlayedLines lines before after
plays_lines before after so script lock lines on = record {
  added = on.later.0;
  on = record { script = script; lock = lock; history = on.later.1 };
  own = λ client. (grown (IsPlayed {E = AllocError} lines (Ok tt)) before.first.seat after.first.seat so.whole on client).all;
}

-- the same community after one entry of the bridge
pub rests_on : (before after : Community) (entry : Entry) → IsResting before → entry.client ≡ bridge_in before → community_script after ≡ community_script before → after.lock ≡ before.lock → StaysAt before after → length after.calls.items ≡ length before.calls.items
    → IsGathered before.lock after.first.seat → IsWhole after.first.seat → after.first.seat.seen ≡ before.first.seat.seen ++ entry ∷ [] → IsResting after
rests_on before after entry so bridge script lock from calls gathered whole history = record {
  valid = subst IsValid (sym script) so.valid;
  names = ap (λ (l : CommunityLock). l.base) lock ∙ so.names ∙ ap names_bridged (sym script);
  gathered = subst (λ lock. IsGathered lock after.first.seat) (sym lock) gathered;
  whole = whole;
  within = omega (arith, so.within, from, ap (λ (s : Script). length s.lines) script);
  calls = calls ∙ so.calls ∙ ap (λ (s : Script). length s.names) (sym script);
  own = λ client other.
      ap (entries_of client) history
      ∙ other_next client before.first.seat.seen entry (λ e. other (sym e ∙ bridge ∙ ap bridge_number (sym script)))
      ∙ so.own client (λ e. other (e ∙ ap bridge_number (sym script)))
      ∙ ap (λ n. entries_of client (take n (community_script before).lines)) (sym from)
      ∙ ap (λ (s : Script). entries_of client (take after.from s.lines)) (sym script);
}

-- a community that has yet to play its first line
pub rests_new : (community : Community) (script : Script) → community_script community ≡ script → IsValid script → community.from ≡ 0 → community.lock.base ≡ names_bridged script → IsGathered community.lock community.first.seat → KnowsNothing community.first.seat
    → length community.calls.items ≡ length script.names → IsResting community
rests_new community script is valid from names gathered nothing calls = record {
  valid = subst IsValid (sym is) valid;
  names = names ∙ ap names_bridged (sym is);
  gathered = gathered;
  whole = λ n. ap (entries_of n) nothing.seen ∙ sym (nothing.known n);
  within = omega (arith, from);
  calls = calls ∙ ap (λ (s : Script). length s.names) (sym is);
  own = λ client other. ap (entries_of client) nothing.seen ∙ ap (λ n. entries_of client (take n (community_script community).lines)) (sym from);
}

-- a step of all lines of a stamp
pub plays_stamp : (stamp : ℕ) (before after : Community) → IsResting before → list_all (λ line. nat_le stamp line.stamp) (left_lines before) ≡ true → IsStampEnd stamp before.from after.from (community_script before).lines
    → HasPlayedLines (lines_cut before.from after.from (community_script before).lines) before after → HasPlayedStamp stamp before after
plays_stamp stamp before after so late end played = record {
  lines = lines_cut before.from after.from lines;
  played = played;
  left = drop_cut before.from after.from lines end.more ∙ ap (λ (s : Script). lines_cut before.from after.from lines ++ drop after.from s.lines) (sym played.on.script);
  done = ap (λ (s : Script). take after.from s.lines) played.on.script ∙ take_cut before.from after.from lines end.more;
  one = end.one;
  over = ap (λ (s : Script). list_all (λ (line : Entry). nat_lt stamp line.stamp) (drop after.from s.lines)) played.on.script
      ∙ over_next (length (community_script before).names) 0 (community_script before).stop after.from lines stamp so.valid.lines later end.over;
}
  where
    lines : List Entry
    lines = (community_script before).lines

    later : list_all (λ line. nat_le stamp line.stamp) (drop after.from lines) ≡ true
    later = behind (lines_cut before.from after.from lines) (drop after.from lines) (ap (list_all (λ (line : Entry). nat_le stamp line.stamp)) (sym (drop_cut before.from after.from lines end.more)) ∙ late)
      where
        behind : (some more : List Entry) → list_all (λ line. nat_le stamp line.stamp) (some ++ more) ≡ true → list_all (λ line. nat_le stamp line.stamp) more ≡ true
        behind [] more all = all
        behind (line ∷ some) more all = behind some more (and_parts (nat_le stamp line.stamp) (list_all (λ line. nat_le stamp line.stamp) (some ++ more)) all).1

-- nothing was there to play
pub plays_none : (from : ℕ) (before : Community) → HasPlayedLines (lines_cut from from (community_script before).lines) before before
plays_none from before =
    let none : from - from ≡ 0 = omega arith in
    subst (λ n. HasPlayedLines (take n (drop from (community_script before).lines)) before before) (sym none) (record {
      added = [];
      on = record { script = refl; lock = refl; history = sym (append-nil (community_history before)) };
      own = λ client. refl;
    })

-- as many counts of calls as before
pub counts_kept : (n : ℕ) (before after : List ℕ) → length after ≡ length before → n ≡ length before → length (take n (after ++ drop (length after) before)) ≡ n
counts_kept n before after long all = omega (arith, long, all, length-take n (after ++ drop (length after) before), length-append after (drop (length after) before))
