-- A bridge that carries once for each of some lines.
use Rattle.std.proofs.Common.{◌≡◌, ℕ, ◌<◌, ◌+◌, List, [], ◌∷◌, ◌++◌, length, take, get_or, sym, ap, ◌∙◌}
use Rattle.std.proofs.lemmas.List.{map-append, take_more}
use Rattle.moos_bridged.specs.Racing.{HasCarriedLines, stamps_of}
use Rattle.moos_client.specs.Calls.{SeatState}
use Rattle.moos_post.specs.declared.entry.Entry.{Entry}
use Rattle.moos_share.specs.Carrying.{HasGoneOn, SeatedBridge}
use Rattle.moos_share.specs.Fetches.{IsUpToDate}
use Rattle.turn_lock.proofs.Fronts.{begins_on}

gone_on : (a b c : SeatState) → HasGoneOn a b → HasGoneOn b c → HasGoneOn a c
gone_on a b c one more = record {
  later = begins_on a.seen b.seen c.seen one.later more.later;
  same = more.same ∙ ap {A = SeatState} (λ s. record s { seen = c.seen; mine = c.mine }) one.same;
}

-- one line more
pub carried_more : (names : List (List ℕ)) (stamps : List ℕ) (stamp : ℕ) (one before after : SeatedBridge) → HasCarriedLines names stamps one before → IsUpToDate names one.from.mine (stamps ++ stamp ∷ []) after → after.bridge.rules ≡ before.bridge.rules
    → HasGoneOn before.from after.from → HasGoneOn before.to after.to → HasCarriedLines names (stamps ++ stamp ∷ []) one after
carried_more names stamps stamp one before after so up_to_date rules from to = record {
  up_to_date = up_to_date;
  rules = rules ∙ so.rules;
  from = gone_on one.from before.from after.from so.from from;
  to = gone_on one.to before.to after.to so.to to;
}

-- the stamps of the lines so far, with the next one's
pub stamps_more : (lines : List Entry) (i : ℕ) (line : Entry) → i < length lines → line ≡ get_or lines i line → stamps_of (take (i + 1) lines) ≡ stamps_of (take i lines) ++ line.stamp ∷ []
stamps_more lines i line below is =
    ap stamps_of (take_more lines i line below ∙ ap (λ line. take i lines ++ line ∷ []) (sym is)) ∙ map-append (λ (line : Entry). line.stamp) (take i lines) (line ∷ [])
