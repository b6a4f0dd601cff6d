-- Two communities once the bridge has registered.
use Rattle.std.proofs.Common.{◌≡◌, true, false, List, [], ◌∷◌, ◌++◌, arith, drop, length, take, None, nat_lt, refl, sym, ap, ◌∙◌, subst}
use Rattle.std.specs.List.{list_all}
use Rattle.moos_bridged.proofs.Bridging.{bridged_begun}
use Rattle.moos_bridged.proofs.Lines.{late_next}
use Rattle.moos_bridged.specs.Bridging.{IsBridgedSoFar}
use Rattle.moos_bridged.specs.Communities.{bridge_entry, bridge_in, community_history, community_script, GoesOnBy, IsResting}
use Rattle.moos_bridged.specs.declared.community.Community.{Community}
use Rattle.moos_bridged.specs.Stamping.{IsPlayedTo, IsSharedSoFar}
use Rattle.moos_post.specs.declared.entry.Call.TheVariants.{Register}
use Rattle.moos_post.specs.declared.entry.Entry.{Entry}
use Rattle.moos_post.specs.declared.registration.Reg.{Reg}
use Rattle.moos_post.specs.History.{History}
use Rattle.moos_share.specs.Bridged.{bridge_opening, keeps_moments, regs_of_rules}
use Rattle.moos_share.specs.Carrying.{BridgeState}
use Rattle.moos_share.specs.declared.rule.Rule.{Rule}
use Rattle.script_reader.specs.declared.script.Script.{Script}

-- the histories are bridged so far
pub begun_bridged : (bridge : BridgeState) (rules : List Rule) (one two : Community) → bridge.rules ≡ rules → community_history one ≡ bridge_opening (community_script one) rules ∷ [] → community_history two ≡ []
    → IsBridgedSoFar (community_script one) (community_script two) bridge.rules [] (community_history one) (community_history two)
begun_bridged bridge rules one two is opened none =
    subst (λ rules. IsBridgedSoFar (community_script one) (community_script two) rules [] (community_history one) (community_history two)) (sym is)
    (subst (λ history. IsBridgedSoFar (community_script one) (community_script two) rules [] history (community_history two)) (sym opened)
    (subst (IsBridgedSoFar (community_script one) (community_script two) rules [] (bridge_opening (community_script one) rules ∷ [])) (sym none) (bridged_begun (community_script one) (community_script two) rules)))

-- no line is played
begun_to : (community : Community) (part : History) → IsResting community → community.from ≡ 0 → part ≡ [] → IsPlayedTo 0 [] community part
begun_to community part so from none = record {
  done = ap (λ n. list_all (λ (line : Entry). false) (take n (community_script community).lines)) from;
  left = late_next (length script.names) 0 script.stop community.from script.lines 0 so.valid.lines (λ next here. omega arith);
  moments = subst (λ part. keeps_moments (bridge_in community) 0 part ≡ true) (sym none) refl;
  early = subst (λ part. list_all (λ (entry : Entry). nat_lt entry.stamp 0) part ≡ true) (sym none) refl;
}
  where
    script : Script
    script = community_script community

pub begun_so_far : (bridge : BridgeState) (rules : List Rule) (one two : Community) → bridge ≡ record { rules = rules; unposted = None } → IsResting one → IsResting two → one.from ≡ 0 → two.from ≡ 0
    → community_history one ≡ bridge_opening (community_script one) rules ∷ [] → community_history two ≡ [] → IsSharedSoFar bridge one two
begun_so_far bridge rules one two is first second from to opened none = record {
  none = ap (λ (bridge : BridgeState). bridge.unposted) is;
  first = first;
  second = second;
  stamps = [];
  low = 0;
  bridged = begun_bridged bridge rules one two (ap (λ (bridge : BridgeState). bridge.rules) is) opened none;
  taken = record { rising = refl; below = refl; each = refl };
  first_to = begun_to one (drop 1 (community_history one)) first from (ap (drop 1) opened);
  second_to = begun_to two (community_history two) second to none;
}

-- the bridge's registration is the first entry
pub opened_by : (rules : List Rule) (regs : List Reg) (one after : Community) → regs ≡ regs_of_rules rules → community_history one ≡ [] → GoesOnBy (bridge_entry one 0 (Register regs) ∷ []) one after → community_history after ≡ bridge_opening (community_script after) rules ∷ []
opened_by rules regs one after is none on =
    on.history ∙ ap (λ front. front ++ bridge_entry one 0 (Register regs) ∷ []) none ∙ ap (λ regs. bridge_entry one 0 (Register regs) ∷ []) is ∙ ap (λ (s : Script). bridge_opening s rules ∷ []) (sym on.script)
