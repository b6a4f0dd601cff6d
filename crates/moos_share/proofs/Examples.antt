-- Bridge files, renamings and bridged histories worked by hand.
use Rattle.std.proofs.Common.{◌≡◌, ℕ, zero, suc, ◌==◌, Bool, Option, false, cond, List, [], ◌∷◌, ◌++◌, refl, sym, ap, Some, None, ne_eqb}
use Rattle.std.specs.Prelude.{codes, Ok, Err, pos}
use Rattle.std.proofs.lemmas.Bool.{false≢true}
use Rattle.moos_db.specs.declared.mail.Letter.{Letter}
use Rattle.moos_client.specs.Calls.{entry_of}
use Rattle.moos_post.specs.declared.entry.Call.TheVariants.{Fetch, Register, Post as Posts}
use Rattle.moos_post.specs.declared.entry.Entry.{Entry}
use Rattle.moos_post.specs.declared.registration.Reg.{Reg}
use Rattle.moos_post.specs.declared.value.Value.TheVariants.{Num}
use Rattle.moos_post.specs.History.{History}
use Rattle.moos_text.specs.declared.cause.Cause.TheVariants.{G1, G2, G3, G5, G6}
use Rattle.moos_text.specs.declared.cause.ReadFault.TheVariants.{At}
use Rattle.script_reader.specs.declared.script.Order.TheVariants.{Stamp, Race}
use Rattle.script_reader.specs.declared.script.Script.{Script}
use Rattle.moos_share.specs.declared.rule.Rule.{Rule}
use Rattle.moos_share.specs.Bridged.{are_rising, AreStamps, fetches_on, IsBridged, IsShared, keeps_moments, KeepsStamps}
use Rattle.moos_share.specs.BridgeFiles.{rules_of}
use Rattle.moos_share.specs.LongNames.{too_long_line}
use Rattle.moos_share.specs.Renaming.{renamed}

abbrev reg : List ℕ → List ℕ → ℕ → Reg
reg var source interval = record { var = var; source = source; interval = interval }

abbrev rule : Reg → Option (List ℕ) → ℕ → Rule
rule reg prefix line = record { reg = reg; prefix = prefix; line = line }

abbrev everything : Reg
everything = reg (codes "*") (codes "*") 0

-- bridge files
empty : rules_of [] ≡ Ok []
empty = refl

two_lines : rules_of (codes "// rules\n\n  share X * 0 A_ // of X\r\n\tshare NAV_* a? 0.5 -\n")
    ≡ Ok (rule (reg (codes "X") (codes "*") 0) (Some (codes "A_")) 3 ∷ rule (reg (codes "NAV_*") (codes "a?") 500) None 4 ∷ [])
two_lines = refl

three_words : rules_of (codes "share X * 0 -\nshare X * 0") ≡ Err (At 2 G1)
three_words = refl

five_words : rules_of (codes "share X * 0 A_ B") ≡ Err (At 1 G1)
five_words = refl

other_verb : rules_of (codes "Share X * 0 -") ≡ Err (At 1 G1)
other_verb = refl

quote_open : rules_of (codes "share \"X * 0 -") ≡ Err (At 1 G1)
quote_open = refl

quote_alone : rules_of (codes "\n\"") ≡ Err (At 2 G1)
quote_alone = refl

bad_variable : rules_of (codes "share X! * a 9A") ≡ Err (At 1 G2)
bad_variable = refl

bad_source : rules_of (codes "share X a! 0 -") ≡ Err (At 1 G2)
bad_source = refl

bad_interval : rules_of (codes "share X * 1000000.001 9A") ≡ Err (At 1 G3)
bad_interval = refl

bad_number : rules_of (codes "share X * a 9A") ≡ Err (At 1 G3)
bad_number = refl

negative : rules_of (codes "share X * -1 -") ≡ Err (At 1 G3)
negative = refl

bad_prefix : rules_of (codes "share X * 0 9A") ≡ Err (At 1 G5)
bad_prefix = refl

two_dashes : rules_of (codes "share X * 0 --") ≡ Err (At 1 G5)
two_dashes = refl

prefix_of_32 : rules_of (codes "share X * 0 A2345678901234567890123456789012")
    ≡ Ok (rule (reg (codes "X") (codes "*") 0) (Some (codes "A2345678901234567890123456789012")) 1 ∷ [])
prefix_of_32 = refl

prefix_of_33 : rules_of (codes "share X * 0 A23456789012345678901234567890123") ≡ Err (At 1 G5)
prefix_of_33 = refl

-- so many lines
abbrev times : ℕ → List ℕ → List ℕ
times zero line = []
times (suc n) line = line ++ times n line

-- the 65th line is judged before all else
one_too_many : rules_of (times 64 (codes "share X * 0 -\n") ++ codes "\n\"") ≡ Err (At 66 G6)
one_too_many = refl

-- a script of one client
abbrev posts : ℕ → ℕ → List ℕ → ℕ → Entry
posts stamp client var n = entry_of client stamp (Posts (record { var = var; value = Num (pos n) } ∷ []))

abbrev first : Script
first = record { names = codes "a" ∷ []; lines = posts 0 0 (codes "X") 1000 ∷ posts 1000 0 (codes "NAV_Y") 2000 ∷ []; stop = 1000 }

abbrev second : Script
second = record { names = codes "b" ∷ []; lines = entry_of 0 0 (Register (everything ∷ [])) ∷ entry_of 0 2000 Fetch ∷ []; stop = 2000 }

abbrev long_name : List ℕ
long_name = codes "B234567890123456789012345678901234567890123456789012345678901234"

abbrev long : Script
long = record { names = codes "a" ∷ []; lines = posts 0 0 long_name 1 ∷ []; stop = 0 }

abbrev rules : List Rule
rules = rule (reg (codes "X") (codes "*") 0) (Some (codes "A_")) 1 ∷ rule everything None 2 ∷ []

-- the first line whose own pattern matches, whatever its source and the lines before
none_too_long : too_long_line rules long.lines ≡ None
none_too_long = refl

too_long : too_long_line (rule everything None 1 ∷ rule (reg (codes "B*") (codes "nobody") 0) (Some (codes "A")) 7 ∷ []) long.lines ≡ Some 7
too_long = refl

-- the renaming: the first rule that selects a letter, by its variable and its source
abbrev letter : ℕ → ℕ → List ℕ → ℕ → Letter
letter number source var n = record { number = number; post = record { stamp = 0; source = source; var = var; value = Num (pos n) } }

by_first_rule : renamed (codes "a" ∷ codes "b" ∷ [])
    (rule (reg (codes "X") (codes "b") 0) (Some (codes "B_")) 1 ∷ rule (reg (codes "X?") (codes "*") 0) (Some (codes "A_")) 2 ∷ rule (reg (codes "X*") (codes "*") 0) None 3 ∷ [])
    (letter 4 0 (codes "X") 1 ∷ letter 5 1 (codes "X") 2 ∷ letter 6 1 (codes "XY") 3 ∷ letter 7 1 (codes "Y") 4 ∷ [])
    ≡ record { var = codes "X"; value = Num (pos 1) } ∷ record { var = codes "B_X"; value = Num (pos 2) } ∷ record { var = codes "A_XY"; value = Num (pos 3) } ∷ []
by_first_rule = refl

left_out : renamed (codes "a" ∷ []) (rule everything (Some (codes "A")) 1 ∷ []) (letter 0 0 long_name 1 ∷ []) ≡ []
left_out = refl

-- both histories of a run in order Stamp
abbrev registers : Entry
registers = entry_of 1 0 (Register (reg (codes "X") (codes "*") 0 ∷ everything ∷ []))

abbrev one : History
one =
    registers ∷ posts 0 0 (codes "X") 1000 ∷ entry_of 1 0 Fetch ∷ posts 1000 0 (codes "NAV_Y") 2000 ∷ entry_of 1 1000 Fetch ∷ entry_of 1 2000 Fetch ∷ []

abbrev two : History
two =
    entry_of 0 0 (Register (everything ∷ [])) ∷ posts 0 1 (codes "A_X") 1000 ∷ posts 1000 1 (codes "NAV_Y") 2000 ∷ entry_of 0 2000 Fetch ∷ entry_of 1 2000 (Posts []) ∷ []

abbrev late : Letter
late = record { number = 1; post = record { stamp = 1000; source = 0; var = codes "NAV_Y"; value = Num (pos 2000) } }

fetched : fetches_on first one
    ≡ record { stamp = 0; mail = letter 0 0 (codes "X") 1000 ∷ [] }
    ∷ record { stamp = 1000; mail = late ∷ [] }
    ∷ record { stamp = 2000; mail = [] } ∷ []
fetched = refl

in_order : KeepsStamps first second one
    (posts 0 0 (codes "X") 1000 ∷ entry_of 1 0 Fetch ∷ posts 1000 0 (codes "NAV_Y") 2000 ∷ entry_of 1 1000 Fetch ∷ entry_of 1 2000 Fetch ∷ []) two
in_order = record { stamps = record { rising = refl; each = refl; all = refl }; first_in_order = refl; second_in_order = refl }

-- no entry stands behind one of a later stamp, nor behind the bridge's entry of its stamp
stamp_falls : keeps_moments 1 0 (posts 1000 0 (codes "X") 1 ∷ posts 0 0 (codes "X") 2 ∷ []) ≡ false
stamp_falls = refl

behind_the_bridge : keeps_moments 1 0 (entry_of 1 0 Fetch ∷ posts 0 0 (codes "X") 1000 ∷ []) ≡ false
behind_the_bridge = refl

-- a stamp that is missing, one of no line, and one twice
stamp_missing : AreStamps first.lines second.lines (0 ∷ 1000 ∷ []) → ⊥
stamp_missing are = false≢true are.all

stamp_of_none : AreStamps first.lines second.lines (0 ∷ 500 ∷ 1000 ∷ 2000 ∷ []) → ⊥
stamp_of_none are = false≢true are.each

stamp_twice : are_rising (0 ∷ 1000 ∷ 1000 ∷ 2000 ∷ []) ≡ false
stamp_twice = refl

bridged : IsBridged Stamp first second rules one two
bridged =
    record {
      rest = posts 0 0 (codes "X") 1000 ∷ entry_of 1 0 Fetch ∷ posts 1000 0 (codes "NAV_Y") 2000 ∷ entry_of 1 1000 Fetch ∷ entry_of 1 2000 Fetch ∷ [];
      opened = refl;
      fetched = refl;
      posted = refl;
      ordered = in_order;
    }

-- the other clients' entries are the scripts' lines, whichever client it is
shared : IsShared Stamp first second rules one two
shared = record {
  bridged = bridged;
  first_lines = λ client other. ap (of_first client) (ne_eqb 1 client (λ e. other (sym e)));
  second_lines = λ client other. ap (of_second client) (ne_eqb 1 client (λ e. other (sym e)));
}
  where
    with : Bool → Entry → List Entry → List Entry
    with is entry later = cond is (entry ∷ later) later

    of_first : ℕ → Bool → List Entry
    of_first client is =
        with is registers (with (0 == client) (posts 0 0 (codes "X") 1000) (with is (entry_of 1 0 Fetch) (with (0 == client) (posts 1000 0 (codes "NAV_Y") 2000)
        (with is (entry_of 1 1000 Fetch) (with is (entry_of 1 2000 Fetch) [])))))

    of_second : ℕ → Bool → List Entry
    of_second client is =
        with (0 == client) (entry_of 0 0 (Register (everything ∷ []))) (with is (posts 0 1 (codes "A_X") 1000) (with is (posts 1000 1 (codes "NAV_Y") 2000)
        (with (0 == client) (entry_of 0 2000 Fetch) (with is (entry_of 1 2000 (Posts [])) []))))

-- both histories of a race, in which the first fetch finds nothing yet
abbrev raced_one : History
raced_one =
    registers ∷ entry_of 1 0 Fetch ∷ posts 0 0 (codes "X") 1000 ∷ posts 1000 0 (codes "NAV_Y") 2000 ∷ entry_of 1 1000 Fetch ∷ entry_of 1 2000 Fetch ∷ []

abbrev raced_two : History
raced_two =
    entry_of 1 0 (Posts []) ∷ entry_of 0 0 (Register (everything ∷ [])) ∷ entry_of 0 2000 Fetch
    ∷ entry_of 1 1000 (Posts (record { var = codes "A_X"; value = Num (pos 1000) } ∷ record { var = codes "NAV_Y"; value = Num (pos 2000) } ∷ [])) ∷ entry_of 1 2000 (Posts []) ∷ []

raced : IsBridged Race first second rules raced_one raced_two
raced =
    record {
      rest = entry_of 1 0 Fetch ∷ posts 0 0 (codes "X") 1000 ∷ posts 1000 0 (codes "NAV_Y") 2000 ∷ entry_of 1 1000 Fetch ∷ entry_of 1 2000 Fetch ∷ [];
      opened = refl;
      fetched = refl;
      posted = refl;
      ordered = record {
        stamps = refl;
        ended = record {
          before = record { stamp = 0; mail = [] } ∷ record { stamp = 1000; mail = letter 0 0 (codes "X") 1000 ∷ late ∷ [] } ∷ [];
          last = record { stamp = 2000; mail = [] };
          fetches = refl;
          fetch = (registers ∷ entry_of 1 0 Fetch ∷ posts 0 0 (codes "X") 1000 ∷ posts 1000 0 (codes "NAV_Y") 2000 ∷ entry_of 1 1000 Fetch ∷ [], refl);
          post = (
            entry_of 1 0 (Posts []) ∷ entry_of 0 0 (Register (everything ∷ [])) ∷ entry_of 0 2000 Fetch
                ∷ entry_of 1 1000 (Posts (record { var = codes "A_X"; value = Num (pos 1000) } ∷ record { var = codes "NAV_Y"; value = Num (pos 2000) } ∷ [])) ∷ [],
            refl,
          );
        };
      };
    }
