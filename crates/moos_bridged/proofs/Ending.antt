-- Two communities in which no line is left.
use Rattle.std.proofs.Common.{◌≡◌, ◌==◌, Bool, List, drop, length, length-drop, sym, ap, ◌∙◌, subst, arith}
use Rattle.std.specs.List.{list_all, list_any}
use Rattle.std.proofs.lemmas.Bool.{and_from}
use Rattle.std.proofs.lemmas.List.{take_all}
use Rattle.std.proofs.lemmas.List.Folds.{list_all-append}
use Rattle.moos_bridged.specs.Communities.{bridge_in, community_history, community_script, done_lines, IsResting, left_lines}
use Rattle.moos_bridged.specs.declared.community.Community.{Community}
use Rattle.moos_bridged.specs.Stamping.{IsSharedSoFar, lines_left}
use Rattle.moos_client.specs.Calls.{entries_of}
use Rattle.moos_post.specs.declared.entry.Entry.{Entry}
use Rattle.moos_post.specs.History.{History}
use Rattle.moos_share.specs.Bridged.{AreStamps, HasOwnLines, IsShared, keeps_moments}
use Rattle.moos_share.specs.Carrying.{BridgeState}
use Rattle.moos_share.specs.declared.rule.Rule.{Rule}
use Rattle.script_reader.specs.declared.script.Order.{Order}
use Rattle.script_reader.specs.declared.script.Order.TheVariants.{Stamp}
use Rattle.script_reader.specs.declared.script.Script.{Script}

-- then all are played
all_done : (community : Community) → length (left_lines community) ≡ 0 → done_lines community ≡ (community_script community).lines
all_done community none = take_all community.from (community_script community).lines (omega (arith, none, length-drop community.from (community_script community).lines))

pub own_lines : (community : Community) → IsResting community → length (left_lines community) ≡ 0 → HasOwnLines (community_script community) (community_history community)
own_lines community so none client other = so.own client other ∙ ap (entries_of client) (all_done community none)

-- in order Stamp
pub shared_by_stamp : (bridge : BridgeState) (one two : Community) → IsSharedSoFar bridge one two → lines_left one two ≡ 0 → IsShared Stamp (community_script one) (community_script two) bridge.rules (community_history one) (community_history two)
shared_by_stamp bridge one two so none = record {
  bridged = record {
    rest = so.bridged.rest;
    opened = so.bridged.opened;
    fetched = so.bridged.fetched;
    posted = so.bridged.posted;
    ordered = record {
      stamps = subst (AreStamps (community_script one).lines (community_script two).lines) (sym so.bridged.stamps_are) (record {
        rising = so.taken.rising;
        each = so.taken.each;
        all = list_all-append among (community_script one).lines (community_script two).lines
            ∙ and_from (list_all among (community_script one).lines) (list_all among (community_script two).lines) (ap (list_all among) (sym (all_done one one_none)) ∙ so.first_to.done) (ap (list_all among) (sym (all_done two two_none)) ∙ so.second_to.done);
      });
      first_in_order = ap (λ history. keeps_moments (bridge_in one) 0 (drop 1 history)) (sym so.bridged.opened) ∙ so.first_to.moments;
      second_in_order = so.second_to.moments;
    };
  };
  first_lines = own_lines one so.first one_none;
  second_lines = own_lines two so.second two_none;
}
  where
    among : Entry → Bool
    among = λ (line : Entry). list_any (λ stamp. stamp == line.stamp) so.stamps

    one_none : length (left_lines one) ≡ 0
    one_none = omega (arith, none)

    two_none : length (left_lines two) ≡ 0
    two_none = omega (arith, none)

-- the same in other words for the scripts, the rules and the histories
pub shared_same : (order : Order) (first first' second second' : Script) (rules rules' : List Rule) (one one' two two' : History) → first' ≡ first → second' ≡ second → rules' ≡ rules → one' ≡ one → two' ≡ two
    → IsShared order first second rules one two → IsShared order first' second' rules' one' two'
shared_same order first first' second second' rules rules' one one' two two' f s r o t so =
    subst (λ first. IsShared order first second' rules' one' two') (sym f)
    (subst (λ second. IsShared order first second rules' one' two') (sym s)
    (subst (λ rules. IsShared order first second rules one' two') (sym r)
    (subst (λ one. IsShared order first second rules one two') (sym o)
    (subst (λ two. IsShared order first second rules one two) (sym t) so))))
