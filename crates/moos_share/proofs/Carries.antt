-- What holds over any list of calls of `carry`.
use Rattle.std.proofs.Common.{◌≡◌, ℕ, List, [], ◌∷◌, ◌++◌, map, Option, None, Some, refl, sym, ap, ◌∙◌, subst, append-nil, append_assoc, inl, inr}
use Rattle.std.proofs.lemmas.List.{map-append}
use Rattle.std.proofs.lemmas.Grind.{flat_map-append}
use Rattle.moos_client.specs.Calls.{entries_of, entry_of, IsCalled, IsFetched, SeatState}
use Rattle.moos_db.proofs.Batches.{posts-next}
use Rattle.moos_db.proofs.Letters.{letters_are}
use Rattle.moos_db.specs.declared.mail.Letter.{Letter}
use Rattle.moos_db.specs.Database.{letters_after, pair_posted}
use Rattle.moos_post.specs.declared.entry.Call.TheVariants.{Fetch, Post as Posts}
use Rattle.moos_post.specs.declared.entry.Entry.{Entry}
use Rattle.moos_post.specs.declared.value.Pair.{Pair}
use Rattle.moos_post.specs.Delivery.{mail_after}
use Rattle.moos_post.specs.History.{History, post_of, posts_of}
use Rattle.moos_share.specs.declared.fetching.Fetched.{Fetched}
use Rattle.moos_share.specs.declared.rule.Rule.{Rule}
use Rattle.moos_share.specs.Carrying.{BridgeState, Carries, CarriesAll, HasCarried, HasInHand, HasNotFetched, HasNotPosted, SeatedBridge}
use Rattle.moos_share.specs.Fetches.{fetch_entry, fetches_by, fetches_of, IsAtStart, IsUpToDate, letters_fetched, LosesNothing, MailedFetch, pairs_posted, post_entry, renamed_unposted}
use Rattle.moos_share.specs.Renaming.{renamed}
use Rattle.moos_share.proofs.NextFetches.{entries_next, fetches_next, fetches_none, fetches_same, none_more}
use Rattle.turn_lock.specs.Passes.{Begins}

-- the pairs of a batch are those of its posts
batch_pairs : (stamp client : ℕ) (batch : List Pair) → map pair_posted (map (post_of stamp client) batch) ≡ batch
batch_pairs stamp client [] = refl
batch_pairs stamp client (pair ∷ batch) = ap (λ more. pair ∷ more) (batch_pairs stamp client batch)

-- what entries post, and one post entry more
pairs_next : (mine : List Entry) (client stamp : ℕ) (batch : List Pair) → pairs_posted (mine ++ entry_of client stamp (Posts batch) ∷ []) ≡ pairs_posted mine ++ batch
pairs_next mine client stamp batch =
    ap (map pair_posted) (posts-next mine (entry_of client stamp (Posts batch)))
    ∙ map-append pair_posted (posts_of mine) (map (post_of stamp client) batch)
    ∙ ap (λ more. pairs_posted mine ++ more) (batch_pairs stamp client batch)

-- the letters of one fetch more
letters_next : (fetches : List MailedFetch) (one : MailedFetch) → letters_fetched (fetches ++ one ∷ []) ≡ letters_fetched fetches ++ one.mail
letters_next fetches one = flat_map-append (λ (one : MailedFetch). one.mail) fetches (one ∷ []) ∙ ap (λ more. letters_fetched fetches ++ more) (append-nil one.mail)

renamed_append : (names : List (List ℕ)) (rules : List Rule) (some more : List Letter) → renamed names rules (some ++ more) ≡ renamed names rules some ++ renamed names rules more
renamed_append names rules some more = flat_map-append _ some more

-- what a client has fetched with one fetch more, behind a history that goes on from what it had seen
fetches_further : (names : List (List ℕ)) (n stamp : ℕ) (seen before : History) (mine : List Entry) → Begins before seen → entries_of n seen ≡ mine → entries_of n before ≡ mine
    → fetches_of names n (before ++ entry_of n stamp Fetch ∷ []) ≡ fetches_of names n seen ++ record { stamp = stamp; mail = letters_after names n before } ∷ []
fetches_further names n stamp seen before mine later own here =
    fetches_next names n stamp before
    ∙ ap (λ fetches. fetches ++ record { stamp = stamp; mail = letters_after names n before } ∷ [])
    (ap (fetches_of names n) later.1 ∙ fetches_same names n seen later.0 (none_more n seen later.0 mine own (subst (λ history. entries_of n history ≡ mine) later.1 here)))

-- a seat after a fetch
module _ (names : List (List ℕ)) (stamp : ℕ) (from after : SeatState) (mail : List Letter) (fetched : IsFetched from after names stamp mail) (own : entries_of from.number from.seen ≡ from.mine) where
  fetched_number : after.number ≡ from.number
  fetched_number = ap (λ (s : SeatState). s.number) fetched.after

  fetched_own : entries_of after.number after.seen ≡ after.mine
  fetched_own = subst (λ (s : SeatState). entries_of s.number s.seen ≡ s.mine) (sym fetched.after)
      (entries_next from.number stamp fetched.before ∙ ap (λ mine. mine ++ entry_of from.number stamp Fetch ∷ []) fetched.own)

  fetched_next : fetches_of names after.number after.seen ≡ fetches_of names from.number from.seen ++ record { stamp = stamp; mail = mail } ∷ []
  fetched_next =
      ap (λ (s : SeatState). fetches_of names s.number s.seen) fetched.after
      ∙ fetches_further names from.number stamp from.seen fetched.before from.mine fetched.later own fetched.own
      ∙ ap (λ (mail : List Letter). fetches_of names from.number from.seen ++ record { stamp = stamp; mail = mail } ∷ [])
      (sym (letters_are (posts_of fetched.before) (mail_after names from.number fetched.before) mail fetched.given))

-- what is in hand leaves the first seat with just its own entries, and is the renaming of all that was fetched behind what was posted
hand_own : (names : List (List ℕ)) (stamp : ℕ) (unposted : Option Fetched) (from after : SeatState) (hand : Fetched) → HasInHand names stamp unposted from after hand → entries_of from.number from.seen ≡ from.mine → entries_of after.number after.seen ≡ after.mine
hand_own names stamp None from after hand h own = fetched_own names stamp from after hand.mail h.1 own
hand_own names stamp (Some unposted) from after hand h own = subst (λ (s : SeatState). entries_of s.number s.seen ≡ s.mine) (sym h.1) own

hand_all : (names : List (List ℕ)) (stamp : ℕ) (rules : List Rule) (posted : List Pair) (unposted : Option Fetched) (from after : SeatState) (hand : Fetched) → HasInHand names stamp unposted from after hand → entries_of from.number from.seen ≡ from.mine
    → posted ++ renamed_unposted rules unposted ≡ renamed names rules (letters_fetched (fetches_of names from.number from.seen))
    → posted ++ renamed hand.names rules hand.mail ≡ renamed names rules (letters_fetched (fetches_of names after.number after.seen))
hand_all names stamp rules posted None from after hand h own so =
    ap (λ names. posted ++ renamed names rules hand.mail) h.0
    ∙ ap (λ front. front ++ renamed names rules hand.mail) (sym (append-nil posted) ∙ so)
    ∙ sym (renamed_append names rules (letters_fetched (fetches_of names from.number from.seen)) hand.mail)
    ∙ ap (renamed names rules) (sym (letters_next (fetches_of names from.number from.seen) (record { stamp = stamp; mail = hand.mail })) ∙ ap letters_fetched (sym (fetched_next names stamp from after hand.mail h.1 own)))
hand_all names stamp rules posted (Some unposted) from after hand h own so =
    ap (λ (hand : Fetched). posted ++ renamed hand.names rules hand.mail) h.0 ∙ so ∙ ap (λ (s : SeatState). renamed names rules (letters_fetched (fetches_of names s.number s.seen))) (sym h.1)

-- what the second seat has posted, after one post more
posted_next : (to after : SeatState) (stamp : ℕ) (batch : List Pair) → IsCalled to after stamp (Posts batch) → pairs_posted after.mine ≡ pairs_posted to.mine ++ batch
posted_next to after stamp batch called = ap (λ (s : SeatState). pairs_posted s.mine) called.after ∙ pairs_next to.mine to.number stamp batch

-- one call
carried_on : (names : List (List ℕ)) (stamp : ℕ) (before after : SeatedBridge) → HasCarried names stamp before after → LosesNothing names before → LosesNothing names after
carried_on names stamp before after carried so = record {
  own = hand_own names stamp before.bridge.unposted before.from after.from carried.fetched carried.in_hand so.own;
  carried =
      ap (λ (bridge : BridgeState). pairs_posted after.to.mine ++ renamed_unposted bridge.rules bridge.unposted) carried.bridge
      ∙ append-nil (pairs_posted after.to.mine)
      ∙ posted_next before.to after.to stamp (renamed carried.fetched.names before.bridge.rules carried.fetched.mail) carried.posted
      ∙ hand_all names stamp before.bridge.rules (pairs_posted before.to.mine) before.bridge.unposted before.from after.from carried.fetched carried.in_hand so.own so.carried
      ∙ ap (λ (bridge : BridgeState). renamed names bridge.rules (letters_fetched (fetches_by names after))) (sym carried.bridge);
}

not_fetched_on : (names : List (List ℕ)) (before after : SeatedBridge) → HasNotFetched before after → LosesNothing names before → LosesNothing names after
not_fetched_on names before after kept so = record {
  own = ap (λ (s : SeatState). entries_of s.number after.from.seen) kept.uncalled.same ∙ kept.own ∙ sym (ap (λ (s : SeatState). s.mine) kept.uncalled.same);
  carried =
      ap (λ (s : SeatState). pairs_posted s.mine ++ renamed_unposted after.bridge.rules after.bridge.unposted) kept.to
      ∙ ap (λ (bridge : BridgeState). pairs_posted before.to.mine ++ renamed_unposted bridge.rules bridge.unposted) kept.bridge
      ∙ so.carried
      ∙ ap (renamed names before.bridge.rules) (ap letters_fetched (sym same))
      ∙ ap (λ (bridge : BridgeState). renamed names bridge.rules (letters_fetched (fetches_by names after))) (sym kept.bridge);
}
  where
    later : Begins after.from.seen before.from.seen
    later = kept.uncalled.later

    same : fetches_by names after ≡ fetches_by names before
    same =
        ap (λ (s : SeatState). fetches_of names s.number after.from.seen) kept.uncalled.same
        ∙ ap (fetches_of names before.from.number) later.1
        ∙ fetches_same names before.from.number before.from.seen later.0
        (none_more before.from.number before.from.seen later.0 before.from.mine so.own (subst (λ history. entries_of before.from.number history ≡ before.from.mine) later.1 kept.own))

not_posted_on : (names : List (List ℕ)) (stamp : ℕ) (before after : SeatedBridge) → HasNotPosted names stamp before after → LosesNothing names before → LosesNothing names after
not_posted_on names stamp before after kept so = record {
  own = hand_own names stamp before.bridge.unposted before.from after.from kept.fetched kept.in_hand so.own;
  carried =
      ap (λ (bridge : BridgeState). pairs_posted after.to.mine ++ renamed_unposted bridge.rules bridge.unposted) kept.bridge
      ∙ ap (λ (s : SeatState). pairs_posted s.mine ++ renamed kept.fetched.names before.bridge.rules kept.fetched.mail) kept.uncalled.same
      ∙ hand_all names stamp before.bridge.rules (pairs_posted before.to.mine) before.bridge.unposted before.from after.from kept.fetched kept.in_hand so.own so.carried
      ∙ ap (λ (bridge : BridgeState). renamed names bridge.rules (letters_fetched (fetches_by names after))) (sym kept.bridge);
}

call_on : (names : List (List ℕ)) (stamp : ℕ) (before after : SeatedBridge) → Carries names stamp before after → LosesNothing names before → LosesNothing names after
call_on names stamp before after (inl carried) so = carried_on names stamp before after carried so
call_on names stamp before after (inr (inl kept)) so = not_fetched_on names before after kept so
call_on names stamp before after (inr (inr kept)) so = not_posted_on names stamp before after kept so

-- any list of calls
pub all_on : (names : List (List ℕ)) (stamps : List ℕ) (one last : SeatedBridge) → CarriesAll names stamps one last → LosesNothing names one → LosesNothing names last
all_on names [] one last same so = subst (LosesNothing names) (sym same) so
all_on names (stamp ∷ stamps) one last all so = all_on names stamps all.0 last all.2 (call_on names stamp one all.0 all.1 so)

-- before the first call
start_none : (names : List (List ℕ)) (one : SeatedBridge) → IsAtStart one → fetches_by names one ≡ []
start_none names one start = fetches_none names one.from.number [] one.from.seen (rw start.own start.unfetched)

pub start_loses_nothing : (names : List (List ℕ)) (one : SeatedBridge) → IsAtStart one → LosesNothing names one
start_loses_nothing names one start = record {
  own = start.own;
  carried =
      ap (λ mine. pairs_posted mine ++ renamed_unposted one.bridge.rules one.bridge.unposted) start.idle
      ∙ ap (renamed_unposted one.bridge.rules) start.none
      ∙ sym (ap (λ fetches. renamed names one.bridge.rules (letters_fetched fetches)) (start_none names one start));
}

pub start_up_to_date : (names : List (List ℕ)) (one : SeatedBridge) → IsAtStart one → IsUpToDate names one.from.mine [] one
start_up_to_date names one start = record {
  own = start.own;
  none = start.none;
  stamps_are = ap (map (λ (fetch : MailedFetch). fetch.stamp)) none;
  fetched = sym (append-nil one.from.mine) ∙ ap (λ fetches. one.from.mine ++ map (fetch_entry one.from.number) fetches) (sym none);
  posted = start.idle ∙ ap (map (post_entry names one.bridge.rules one.to.number)) (sym none);
}
  where
    none : fetches_by names one ≡ []
    none = start_none names one start

-- one call that found memory, of a bridge that has posted all
pub up_to_date_on : (names : List (List ℕ)) (opening : List Entry) (stamps : List ℕ) (stamp : ℕ) (before after : SeatedBridge) → HasCarried names stamp before after
    → IsUpToDate names opening stamps before → IsUpToDate names opening (stamps ++ stamp ∷ []) after
up_to_date_on names opening stamps stamp before after carried so = record {
  own = fetched_own names stamp before.from after.from mail fetched so.own;
  none = ap (λ (bridge : BridgeState). bridge.unposted) carried.bridge;
  stamps_are = ap (map (λ (one : MailedFetch). one.stamp)) next ∙ map-append (λ (one : MailedFetch). one.stamp) old (new ∷ []) ∙ ap (λ stamps. stamps ++ stamp ∷ []) so.stamps_are;
  fetched =
      ap (λ (s : SeatState). s.mine) fetched.after
      ∙ ap (λ mine. mine ++ entry_of before.from.number stamp Fetch ∷ []) so.fetched
      ∙ append_assoc opening (map (fetch_entry before.from.number) old) (entry_of before.from.number stamp Fetch ∷ [])
      ∙ ap (λ mine. opening ++ mine) (sym (map-append (fetch_entry before.from.number) old (new ∷ [])))
      ∙ ap (λ fetches. opening ++ map (fetch_entry before.from.number) fetches) (sym next)
      ∙ ap (λ n. opening ++ map (fetch_entry n) (fetches_by names after)) (sym number);
  posted =
      ap (λ (s : SeatState). s.mine) carried.posted.after
      ∙ ap (λ mine. mine ++ entry_of before.to.number stamp (Posts (renamed carried.fetched.names before.bridge.rules mail)) ∷ []) so.posted
      ∙ ap (λ names'. map (post_entry names before.bridge.rules before.to.number) old ++ entry_of before.to.number stamp (Posts (renamed names' before.bridge.rules mail)) ∷ []) hand.0
      ∙ sym (map-append (post_entry names before.bridge.rules before.to.number) old (new ∷ []))
      ∙ ap (map (post_entry names before.bridge.rules before.to.number)) (sym next)
      ∙ ap (λ n. map (post_entry names before.bridge.rules n) (fetches_by names after)) (sym (ap (λ (s : SeatState). s.number) carried.posted.after))
      ∙ ap (λ (bridge : BridgeState). map (post_entry names bridge.rules after.to.number) (fetches_by names after)) (sym carried.bridge);
}
  where
    hand : HasInHand names stamp None before.from after.from carried.fetched
    hand = subst (λ unposted. HasInHand names stamp unposted before.from after.from carried.fetched) so.none carried.in_hand

    mail : List Letter
    mail = carried.fetched.mail

    fetched : IsFetched before.from after.from names stamp mail
    fetched = hand.1

    old : List MailedFetch
    old = fetches_by names before

    new : MailedFetch
    new = record { stamp = stamp; mail = mail }

    number : after.from.number ≡ before.from.number
    number = fetched_number names stamp before.from after.from mail fetched so.own

    next : fetches_by names after ≡ old ++ new ∷ []
    next = fetched_next names stamp before.from after.from mail fetched so.own
