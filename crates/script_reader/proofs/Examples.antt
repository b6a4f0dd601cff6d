-- Scripts and refusals worked by hand.
use Rattle.std.proofs.Common.{◌≡◌, ℕ, zero, suc, ◌<◌, ◌==◌, ◌&&◌, true, false, List, [], ◌∷◌, ◌++◌, length, map, replicate, refl, sym, ap, ◌∙◌, arith}
use Rattle.std.specs.Prelude.{codes, Ok, Err, Some, None, pos, slice_index, slice_index_or}
use Rattle.std.specs.List.{All}
use Rattle.std.proofs.lemmas.Bool.{false≢true}
use Rattle.std.proofs.lemmas.Bool.Decides.{nat_tests}
use Rattle.std.proofs.lemmas.List.{get_or-replicate}
use Rattle.std.proofs.lemmas.List.Elements.{All-cons, All-head, All-nil}
use Rattle.std.proofs.lemmas.List.Sums.{count_by-le-length}
use Rattle.moos_post.specs.declared.entry.Call.TheVariants.{Register, Unregister, Post as Posts, Fetch}
use Rattle.moos_post.specs.declared.entry.Entry.{Entry}
use Rattle.moos_post.specs.declared.registration.Reg.{Reg}
use Rattle.moos_post.specs.declared.value.Pair.{Pair}
use Rattle.moos_post.specs.declared.value.Value.TheVariants.{Num, Text}
use Rattle.moos_post.specs.Entries.{IsEntry, IsPair, IsReg}
use Rattle.moos_text.specs.declared.cause.Cause.TheVariants.{S1, S2, S3, S4, S5, S6, S7, S9}
use Rattle.moos_text.specs.declared.cause.ReadFault.TheVariants.{At}
use Rattle.script_reader.specs.declared.script.Script.{Script}
use Rattle.script_reader.specs.Counts.{after_call, AreCounts, pairs_in, with_call, with_call_variables, with_made, with_name, with_pairs}
use Rattle.script_reader.specs.Named.{line_of_client}
use Rattle.script_reader.specs.Script.{is_register, registrations_of, script_of}
use Rattle.script_reader.specs.Validity.{are_clients, are_lines, IsValid, keeps_limits}
use Rattle.script_reader.proofs.Joining.{IsOwn, Named}

abbrev registers : ℕ → ℕ → List ℕ → ℕ → List ℕ → Entry
registers stamp client var interval source =
    record { stamp = stamp; client = client; call = Register (record { var = var; source = source; interval = interval } ∷ []) }

abbrev says : List ℕ → ℕ → Pair
says var n = record { var = var; value = Num (pos n) }

abbrev posts : ℕ → ℕ → List Pair → Entry
posts stamp client pairs = record { stamp = stamp; client = client; call = Posts pairs }

abbrev fetches : ℕ → ℕ → Entry
fetches stamp client = record { stamp = stamp; client = client; call = Fetch }

empty : script_of [] ≡ Ok (record { names = []; lines = []; stop = 0 })
empty = refl

blanks_say_nothing : script_of (codes "\n \t // nobody\n") ≡ Ok (record { names = []; lines = []; stop = 0 })
blanks_say_nothing = refl

patterns_and_batches :
    script_of (codes "0 log register NAV_* 0 p*\n0.5 two register NAV_?\n1 p post NAV_=1 # NAV_X=2 # NAV_XY=3\n2 q post NAV_X=4\n3 log fetch\n4 two fetch\n")
    ≡ Ok (record {
      names = codes "log" ∷ codes "two" ∷ codes "p" ∷ codes "q" ∷ [];
      lines = registers 0 0 (codes "NAV_*") 0 (codes "p*")
          ∷ registers 500 1 (codes "NAV_?") 0 (codes "*")
          ∷ posts 1000 2 (says (codes "NAV_") 1000 ∷ says (codes "NAV_X") 2000 ∷ says (codes "NAV_XY") 3000 ∷ [])
          ∷ posts 2000 3 (says (codes "NAV_X") 4000 ∷ []) ∷ fetches 3000 0 ∷ fetches 4000 1 ∷ [];
      stop = 4000;
    })
patterns_and_batches = refl

interval_in_seconds : script_of (codes "0 a register X 0.5\n0.499 a post X=2\n2 a fetch")
    ≡ Ok (record {
      names = codes "a" ∷ [];
      lines = registers 0 0 (codes "X") 500 (codes "*") ∷ posts 499 0 (says (codes "X") 2000 ∷ []) ∷ fetches 2000 0 ∷ [];
      stop = 2000;
    })
interval_in_seconds = refl

late_registration : script_of (codes "0 a post A=1\n3 b register A\n4 b register *\n5 b fetch\n")
    ≡ Ok (record {
      names = codes "a" ∷ codes "b" ∷ [];
      lines = posts 0 0 (says (codes "A") 1000 ∷ []) ∷ registers 3000 1 (codes "A") 0 (codes "*")
          ∷ registers 4000 1 (codes "*") 0 (codes "*") ∷ fetches 5000 1 ∷ [];
      stop = 5000;
    })
late_registration = refl

withdrawal : script_of (codes "0 b register X 10\n2 b unregister X\n3 b register X 10\n")
    ≡ Ok (record {
      names = codes "b" ∷ [];
      lines = registers 0 0 (codes "X") 10000 (codes "*") ∷ record { stamp = 2000; client = 0; call = Unregister (codes "X") (codes "*") }
          ∷ registers 3000 0 (codes "X") 10000 (codes "*") ∷ [];
      stop = 3000;
    })
withdrawal = refl

until_carries_its_stamp : script_of (codes "1 a fetch\n2.5 until\n")
    ≡ Ok (record { names = codes "a" ∷ []; lines = fetches 1000 0 ∷ []; stop = 2500 })
until_carries_its_stamp = refl

texts_keep_their_blanks : script_of (codes "0 a post  T = a  # b // c\r\n")
    ≡ Err (At 1 S5)
texts_keep_their_blanks = refl

quoted : script_of (codes "0 a post T = \"a  # // b\" # U:=1 2")
    ≡ Ok (record {
      names = codes "a" ∷ [];
      lines = posts 0 0 (record { var = codes "T"; value = Text (codes "a  # // b") } ∷ record { var = codes "U"; value = Text (codes "1 2") } ∷ []) ∷ [];
      stop = 0;
    })
quoted = refl

stamp_goes_back : script_of (codes "1 a post X=1\n0.5 a fetch\n") ≡ Err (At 2 S2)
stamp_goes_back = refl

helm_is_no_client : script_of (codes "0 pHelmIvP fetch") ≡ Err (At 1 S9)
helm_is_no_client = refl

unknown_operation : script_of (codes "0 a jump") ≡ Err (At 1 S3)
unknown_operation = refl

open_quote : script_of (codes "0 a post X=\"open") ≡ Err (At 1 S5)
open_quote = refl

bad_pattern : script_of (codes "0 a register N#") ≡ Err (At 1 S6)
bad_pattern = refl

bad_interval : script_of (codes "0 a register X -1") ≡ Err (At 1 S7)
bad_interval = refl

bad_variable : script_of (codes "0 a post 9X=1") ≡ Err (At 1 S4)
bad_variable = refl

missing_pair : script_of (codes "0 a post X=1 #") ≡ Err (At 1 S5)
missing_pair = refl

word_too_many : script_of (codes "0 a fetch now") ≡ Err (At 1 S3)
word_too_many = refl

late_stamp : script_of (codes "1000000.001 a fetch") ≡ Err (At 1 S1)
late_stamp = refl

-- A script of two clients and two lines, with a last stamp of its own: what it keeps, and what is counted beside it.
abbrev two : Script
two = record {
  names = codes "a" ∷ codes "b" ∷ [];
  lines = registers 0 0 (codes "X") 500 (codes "*") ∷ posts 499 1 (says (codes "X") 2000 ∷ says (codes "Y") 1000 ∷ []) ∷ [];
  stop = 2000;
}

two_is_read : script_of (codes "0 a register X 0.5\n0.499 b post X=2 # Y=1\n2 until") ≡ Ok two
two_is_read = refl

entries_of_two : All IsEntry two.lines
entries_of_two =
    All-cons IsEntry (registers 0 0 (codes "X") 500 (codes "*")) (posts 499 1 (says (codes "X") 2000 ∷ says (codes "Y") 1000 ∷ []) ∷ [])
    (record { stamp = omega arith; call = All-cons IsReg (record { var = codes "X"; source = codes "*"; interval = 500 }) [] (record { var = refl; source = refl; interval = omega arith }) (All-nil IsReg) })
    (All-cons IsEntry (posts 499 1 (says (codes "X") 2000 ∷ says (codes "Y") 1000 ∷ [])) [] (record { stamp = omega arith; call = (omega arith, pairs) }) (All-nil IsEntry))
  where
    pairs : All IsPair (says (codes "X") 2000 ∷ says (codes "Y") 1000 ∷ [])
    pairs =
        All-cons IsPair (says (codes "X") 2000) (says (codes "Y") 1000 ∷ []) (record { var = refl; value = (grind arith, grind arith) })
        (All-cons IsPair (says (codes "Y") 1000) [] (record { var = refl; value = (grind arith, grind arith) }) (All-nil IsPair))

is_valid : IsValid two
is_valid = record {
  named = All-cons Named (codes "a") (codes "b" ∷ []) refl (All-cons Named (codes "b") [] refl (All-nil Named));
  clients = refl;
  few_clients = omega arith;
  lines = refl;
  entries = entries_of_two;
  early = omega arith;
  few_lines = omega arith;
  few_registrations = λ client. omega (arith, count_by-le-length (λ line. line.client == client && is_register line.call) two.lines);
  few_variables = omega arith;
}

-- It keeps that no more where the second client has no name, where the last stamp is late, or is below that of a line.
no_name : IsValid (record two { names = codes "a" ∷ [] }) → ⊥
no_name valid = false≢true valid.lines

late_stop : IsValid (record two { stop = 1000000001 }) → ⊥
late_stop valid = omega (arith, valid.early)

early_stop : IsValid (record two { stop = 498 }) → ⊥
early_stop valid = false≢true valid.lines

-- Clients have names of their own, none of which is the helm's.
clients : map are_clients ([] ∷ two.names ∷ (codes "a" ∷ codes "b" ∷ codes "a" ∷ []) ∷ (codes "a" ∷ codes "pHelmIvP" ∷ []) ∷ []) ≡ true ∷ true ∷ false ∷ false ∷ []
clients = refl

-- Lines are by those clients, and their stamps don't go back.
lines_of_two : are_lines 2 0 499 two.lines ≡ true
lines_of_two = refl

first_too_early : are_lines 2 1 499 two.lines ≡ false
first_too_early = refl

stamps_go_back : are_lines 2 0 2000 (fetches 1000 0 ∷ fetches 999 1 ∷ []) ≡ false
stamps_go_back = refl

no_such_client : are_lines 2 0 2000 (fetches 1000 2 ∷ []) ≡ false
no_such_client = refl

-- A registration line is one registration, and a post has 1 to 64 pairs.
abbrev reg : ℕ → Reg
reg interval = record { var = codes "X"; source = codes "*"; interval = interval }

registrations : map keeps_limits (Register [] ∷ Register (reg 1000000000 ∷ []) ∷ Register (reg 1000000001 ∷ []) ∷ Register (reg 0 ∷ reg 0 ∷ []) ∷ []) ≡ false ∷ true ∷ false ∷ false ∷ []
registrations = refl

batches : map keeps_limits (Posts [] ∷ Posts (replicate 64 (says (codes "X") 0)) ∷ Posts (replicate 65 (says (codes "X") 0)) ∷ []) ≡ false ∷ true ∷ false ∷ []
batches = refl

others_keep : map keeps_limits (Unregister (codes "X") (codes "*") ∷ Fetch ∷ []) ≡ true ∷ true ∷ []
others_keep = refl

-- One registration, by the first client, two variables, in the order of their first posts, and two clients.
abbrev made : List ℕ
made = 1 ∷ replicate 63 0

other_registers : (client : ℕ) → registrations_of (suc client) two.lines ≡ 0
other_registers client = grind (arith, nat_tests)

are_counts : AreCounts two made (codes "X" ∷ codes "Y" ∷ []) two.names
are_counts = record {
  few = omega arith;
  each = refl;
  registrations = counted;
  posted = refl;
  joined = refl;
  named = is_valid.named;
  own = All-cons IsOwn (codes "a") (codes "b" ∷ []) refl (All-cons IsOwn (codes "b") [] refl (All-nil IsOwn));
}
  where
    counted : (client : ℕ) → client < 64 → slice_index made client ≡ registrations_of client two.lines
    counted zero below = refl
    counted (suc client) below = get_or-replicate 63 client 0 0 (omega (arith, below)) ∙ sym (other_registers client)

none_counted : AreCounts two (replicate 64 0) (codes "X" ∷ codes "Y" ∷ []) two.names → ⊥
none_counted counts = omega (arith, counts.registrations 0 (omega arith))

other_variables : AreCounts two made (codes "Y" ∷ codes "X" ∷ []) two.names → ⊥
other_variables counts = omega (arith, ap (λ vars. slice_index (slice_index_or vars 0 []) 0) counts.posted)

variable_twice : AreCounts two made (codes "X" ∷ codes "Y" ∷ codes "X" ∷ []) two.names → ⊥
variable_twice counts = omega (arith, ap length counts.posted)

other_clients : AreCounts two made (codes "X" ∷ codes "Y" ∷ []) (codes "b" ∷ codes "a" ∷ []) → ⊥
other_clients counts = omega (arith, ap (λ names. slice_index (slice_index_or names 0 []) 0) counts.joined)

-- Each of the clients is named as one may be.
no_client_without_name : AreCounts (record two { names = [] ∷ [] }) made (codes "X" ∷ codes "Y" ∷ []) ([] ∷ []) → ⊥
no_client_without_name counts = false≢true (All-head Named [] [] counts.named)

no_client_named_as_helm : AreCounts (record two { names = codes "pHelmIvP" ∷ [] }) made (codes "X" ∷ codes "Y" ∷ []) (codes "pHelmIvP" ∷ []) → ⊥
no_client_named_as_helm counts = false≢true (All-head IsOwn (codes "pHelmIvP") [] counts.own)

-- What a call adds to both.
counts_on : (with_made (1 ∷ 0 ∷ []) 1 (Register (reg 0 ∷ [])) ≡ 1 ∷ 1 ∷ []) × (with_made (1 ∷ 0 ∷ []) 1 Fetch ≡ 1 ∷ 0 ∷ [])
counts_on = (refl, refl)

pairs_of_calls : (pairs_in (Posts (says (codes "X") 1 ∷ [])) ≡ says (codes "X") 1 ∷ []) × (pairs_in (Register (reg 0 ∷ [])) ≡ []) × (pairs_in Fetch ≡ [])
pairs_of_calls = (refl, refl, refl)

known_once : with_pairs (codes "X" ∷ []) (says (codes "Y") 1 ∷ says (codes "X") 2 ∷ says (codes "Y") 3 ∷ []) ≡ codes "X" ∷ codes "Y" ∷ []
known_once = refl

known_by_calls : (with_call_variables (codes "X" ∷ []) (Posts (says (codes "Y") 1 ∷ [])) ≡ codes "X" ∷ codes "Y" ∷ []) × (with_call_variables (codes "X" ∷ []) (Unregister (codes "Y") (codes "*")) ≡ codes "X" ∷ [])
known_by_calls = (refl, refl)

-- A client joins the names once, and a call the lines.
joins_once : (with_name two (codes "c") ≡ record two { names = codes "a" ∷ codes "b" ∷ codes "c" ∷ [] }) × (with_name two (codes "b") ≡ two)
joins_once = (refl, refl)

call_after : (after_call two 2001 (codes "fetch") 1 ≡ Ok (with_call two 2001 1 Fetch)) × (after_call two 2001 (codes "fetch all") 1 ≡ Err S3)
call_after = (refl, refl)

call_more : with_call two 2001 1 Fetch ≡ record { names = two.names; lines = two.lines ++ fetches 2001 1 ∷ []; stop = 2001 }
call_more = refl

-- the first line of one of two clients is the fourth; the third carries a stamp alone, and the comment says nothing
second_client : line_of_client (codes "pShare" ∷ codes "c" ∷ []) (codes "0 a fetch\n\n1 until // c\n1 c fetch\n1 pShare fetch\n") ≡ Some 4
second_client = refl

-- a stamp alone is of no client, whatever its name
until_is_no_client : line_of_client (codes "until" ∷ []) (codes "1 until\n") ≡ None
until_is_no_client = refl
