-- Calls of which one text is printed are the same, and what stands behind them is.
use Rattle.std.proofs.Common.{◌≡◌, ℕ, ◌&&◌, Bool, true, false, List, [], ◌∷◌, ◌++◌, flat_map, length, drop, get_or, refl, ap, sym, ◌∙◌, arith, append_assoc}
use Rattle.std.specs.Prelude.{codes, decimal, IsTrue}
use Rattle.std.specs.List.{All, concat, list_all}
use Rattle.std.proofs.lemmas.Bool.{false≢true}
use Rattle.std.proofs.lemmas.Fmt.{decimal_injective}
use Rattle.std.proofs.lemmas.List.{append_cancel_left}
use Rattle.std.proofs.lemmas.List.Elements.{All-head, All-tail}
use Rattle.moos_post.specs.declared.entry.Call.{Call}
use Rattle.moos_post.specs.declared.entry.Call.TheVariants.{Register, Unregister, Post as Posts, Fetch}
use Rattle.moos_post.specs.declared.registration.Reg.{Reg}
use Rattle.moos_post.specs.declared.value.Pair.{Pair}
use Rattle.moos_post.specs.Delivery.{mail_after}
use Rattle.moos_post.specs.History.{History, name_of, posts_of}
use Rattle.moos_post.specs.Entries.{IsCall, IsPair, IsReg}
use Rattle.moos_post.specs.Words.{begins_name, is_name, is_name_byte, is_pattern, is_pattern_byte}
use Rattle.moos_text.specs.Numbers.{unsigned_text}
use Rattle.moos_report.specs.Report.{call_text, letters_text, reg_text, said_text, value_text}
use Rattle.moos_report.proofs.Cuts.{cut_at, Lacks, lacks_all}
use Rattle.moos_report.proofs.NextEntries.{Differs}
use Rattle.moos_report.proofs.PrintedValues.{decimal_lacks, unsigned_lacks, unsigned_same, value_lacks, value_same}
use Rattle.moos_report.proofs.Reporting.{batch_is}

first_of_three : (a b c : Bool) → (a && b && c) ≡ true → b ≡ true
first_of_three true true c h = refl
first_of_three true false c h = absurd (false≢true h)
first_of_three false b c h = absurd (false≢true h)

-- a name and a pattern hold no blank and no line end
pub name_lacks : (byte : ℕ) (name : List ℕ) → is_name_byte byte ≡ false → IsTrue (is_name name) → Lacks byte name
name_lacks byte [] other fine = tt
name_lacks byte (first ∷ rest) other fine = lacks_all is_name_byte byte (first ∷ rest) other (first_of_three (begins_name first) (list_all is_name_byte (first ∷ rest)) _ fine)

pattern_lacks : (byte : ℕ) (pattern : List ℕ) → is_pattern_byte byte ≡ false → IsTrue (is_pattern pattern) → Lacks byte pattern
pattern_lacks byte pattern other fine = lacks_all is_pattern_byte byte pattern other (first_of_three _ (list_all is_pattern_byte pattern) _ fine)

-- the line of a registration, and what stands behind it
reg_open : (reg : Reg) (after : List ℕ) → reg_text reg ++ after ≡ codes "%% reg " ++ (reg.var ++ 32 ∷ (reg.source ++ 32 ∷ (unsigned_text reg.interval ++ 10 ∷ after)))
reg_open reg after = simp append_assoc refl

reg_cut : (one other : Reg) (after later : List ℕ) → IsReg one → IsReg other → reg_text one ++ after ≡ reg_text other ++ later → (one ≡ other) × (after ≡ later)
reg_cut one other after later h k e =
    let lines = append_cancel_left (codes "%% reg ") _ _ (sym (reg_open one after) ∙ e ∙ reg_open other later) in
    let vars = cut_at 32 one.var other.var _ _ (pattern_lacks 32 one.var refl h.var) (pattern_lacks 32 other.var refl k.var) lines in
    let sources = cut_at 32 one.source other.source _ _ (pattern_lacks 32 one.source refl h.source) (pattern_lacks 32 other.source refl k.source) vars.1 in
    let intervals = cut_at 10 (unsigned_text one.interval) (unsigned_text other.interval) after later
    (unsigned_lacks 10 one.interval h.interval refl (λ e. absurd (omega (arith, e)))) (unsigned_lacks 10 other.interval k.interval refl (λ e. absurd (omega (arith, e)))) sources.1 in
    let interval = unsigned_same one.interval other.interval h.interval k.interval intervals.0 in
    (λ i. record { var = vars.0 i; source = sources.0 i; interval = interval i }, intervals.1)

regs_cut : (one other : List Reg) (after later : List ℕ) → All IsReg one → All IsReg other → Differs 114 after → Differs 114 later → flat_map reg_text one ++ after ≡ flat_map reg_text other ++ later → (one ≡ other) × (after ≡ later)
regs_cut [] [] after later h k f g e = (refl, e)
regs_cut [] (y ∷ other) after later h k f g e = absurd (f (ap (λ l. get_or l 3 0) e))
regs_cut (x ∷ one) [] after later h k f g e = absurd (g (sym (ap (λ l. get_or l 3 0) e)))
regs_cut (x ∷ one) (y ∷ other) after later h k f g e =
    let first = reg_cut x y (flat_map reg_text one ++ after) (flat_map reg_text other ++ later) (All-head IsReg x one h) (All-head IsReg y other k)
    (sym (append_assoc (reg_text x) (flat_map reg_text one) after) ∙ e ∙ append_assoc (reg_text y) (flat_map reg_text other) later) in
    let rest = regs_cut one other after later (All-tail IsReg x one h) (All-tail IsReg y other k) f g first.1 in
    (λ i. first.0 i ∷ rest.0 i, rest.1)

-- the line of a post, and what stands behind it
said_open : (stamp : ℕ) (source : List ℕ) (pair : Pair) (after : List ℕ) → said_text stamp source pair.var pair.value ++ after
    ≡ unsigned_text stamp ++ 32 ∷ (pair.var ++ 32 ∷ (source ++ 32 ∷ (value_text pair.value ++ 10 ∷ after)))
said_open stamp source pair after = simp append_assoc refl

pair_cut : (stamp : ℕ) (source : List ℕ) (one other : Pair) (after later : List ℕ) → IsPair one → IsPair other
    → said_text stamp source one.var one.value ++ after ≡ said_text stamp source other.var other.value ++ later → (one ≡ other) × (after ≡ later)
pair_cut stamp source one other after later h k e =
    let lines = append_cancel_left (unsigned_text stamp) _ _ (sym (said_open stamp source one after) ∙ e ∙ said_open stamp source other later) in
    let vars = cut_at 32 one.var other.var _ _ (name_lacks 32 one.var refl h.var) (name_lacks 32 other.var refl k.var) (ap (drop 1) lines) in
    let behind = append_cancel_left source _ _ vars.1 in
    let values = cut_at 10 (value_text one.value) (value_text other.value) after later (value_lacks one.value h.value) (value_lacks other.value k.value) (ap (drop 1) behind) in
    let value = value_same one.value other.value h.value k.value values.0 in
    (λ i. record { var = vars.0 i; value = value i }, values.1)

pairs_cut : (stamp : ℕ) (source : List ℕ) (one other : List Pair) (after later : List ℕ) → All IsPair one → All IsPair other → length one ≡ length other
    → flat_map (λ pair. said_text stamp source pair.var pair.value) one ++ after ≡ flat_map (λ pair. said_text stamp source pair.var pair.value) other ++ later → (one ≡ other) × (after ≡ later)
pairs_cut stamp source [] [] after later h k long e = (refl, e)
pairs_cut stamp source [] (y ∷ other) after later h k long e = absurd (omega (arith, long))
pairs_cut stamp source (x ∷ one) [] after later h k long e = absurd (omega (arith, long))
pairs_cut stamp source (x ∷ one) (y ∷ other) after later h k long e =
    let text : Pair → List ℕ = λ pair. said_text stamp source pair.var pair.value in
    let first = pair_cut stamp source x y (flat_map text one ++ after) (flat_map text other ++ later) (All-head IsPair x one h) (All-head IsPair y other k)
    (sym (append_assoc (text x) (flat_map text one) after) ∙ e ∙ append_assoc (text y) (flat_map text other) later) in
    let rest = pairs_cut stamp source one other after later (All-tail IsPair x one h) (All-tail IsPair y other k) (omega (arith, long)) first.1 in
    (λ i. first.0 i ∷ rest.0 i, rest.1)

-- the lines of a batch behind its head
posting_open : (first count posts after : List ℕ) → (concat (codes " post " ∷ first ∷ codes " " ∷ count ∷ codes "\n" ∷ []) ++ posts) ++ after ≡ (codes " post " ++ (first ++ codes " ")) ++ (count ++ 10 ∷ (posts ++ after))
posting_open first count posts after = simp append_assoc refl

batch_open : (names : List (List ℕ)) (past : History) (stamp client : ℕ) (batch : List Pair) (after : List ℕ) → call_text names past (record { stamp = stamp; client = client; call = Posts batch }) (Posts batch) ++ after
    ≡ (codes " post " ++ (decimal (length (posts_of past)) ++ codes " ")) ++ (decimal (length batch) ++ 10 ∷ (flat_map (λ pair. said_text stamp (name_of names client) pair.var pair.value) batch ++ after))
batch_open names past stamp client batch after =
    ap (λ posts. (concat (codes " post " ∷ decimal (length (posts_of past)) ∷ codes " " ∷ decimal (length batch) ∷ codes "\n" ∷ []) ++ posts) ++ after) (batch_is names stamp client batch)
    ∙ posting_open (decimal (length (posts_of past))) (decimal (length batch)) (flat_map (λ pair. said_text stamp (name_of names client) pair.var pair.value) batch) after

batch_cut : (names : List (List ℕ)) (past : History) (stamp client : ℕ) (one other : List Pair) (after later : List ℕ) → IsCall (Posts one) → IsCall (Posts other)
    → call_text names past (record { stamp = stamp; client = client; call = Posts one }) (Posts one) ++ after ≡ call_text names past (record { stamp = stamp; client = client; call = Posts other }) (Posts other) ++ later
    → (one ≡ other) × (after ≡ later)
batch_cut names past stamp client one other after later h k e =
    let heads = append_cancel_left (codes " post " ++ (decimal (length (posts_of past)) ++ codes " ")) _ _ (sym (batch_open names past stamp client one after) ∙ e ∙ batch_open names past stamp client other later) in
    let counts = cut_at 10 (decimal (length one)) (decimal (length other)) _ _ (decimal_lacks 10 (length one) h.0 refl) (decimal_lacks 10 (length other) k.0 refl) heads in
    let long = decimal_injective (length one) (length other) h.0 k.0 counts.0 in
    pairs_cut stamp (name_of names client) one other after later h.1 k.1 long counts.1

-- the patterns of a withdrawal
withdrawal_open : (var source after : List ℕ) → concat (codes " unregister\n%% reg " ∷ var ∷ codes " " ∷ source ∷ codes "\n" ∷ []) ++ after ≡ codes " unregister\n%% reg " ++ (var ++ 32 ∷ (source ++ 10 ∷ after))
withdrawal_open var source after = simp append_assoc refl

withdrawal_cut : (var var' source source' after later : List ℕ) → IsCall (Unregister var source) → IsCall (Unregister var' source')
    → concat (codes " unregister\n%% reg " ∷ var ∷ codes " " ∷ source ∷ codes "\n" ∷ []) ++ after ≡ concat (codes " unregister\n%% reg " ∷ var' ∷ codes " " ∷ source' ∷ codes "\n" ∷ []) ++ later
    → (Unregister var source ≡ Unregister var' source') × (after ≡ later)
withdrawal_cut var var' source source' after later h k e =
    let lines = append_cancel_left (codes " unregister\n%% reg ") _ _ (sym (withdrawal_open var source after) ∙ e ∙ withdrawal_open var' source' later) in
    let vars = cut_at 32 var var' _ _ (pattern_lacks 32 var refl h.0) (pattern_lacks 32 var' refl k.0) lines in
    let sources = cut_at 10 source source' after later (pattern_lacks 10 source refl h.1) (pattern_lacks 10 source' refl k.1) vars.1 in
    (λ i. Unregister (vars.0 i) (sources.0 i), sources.1)

-- the calls of two entries by one client, at one stamp and behind the same entries
pub call_cut : (names : List (List ℕ)) (past : History) (stamp client : ℕ) (one other : Call) (after later : List ℕ) → IsCall one → IsCall other → Differs 114 after → Differs 114 later
    → call_text names past (record { stamp = stamp; client = client; call = one }) one ++ after ≡ call_text names past (record { stamp = stamp; client = client; call = other }) other ++ later
    → (one ≡ other) × (after ≡ later)
call_cut names past stamp client (Register one) (Register other) after later h k f g e =
    let heads = append_cancel_left (codes " register\n") _ _ (sym (append_assoc (codes " register\n") (flat_map reg_text one) after) ∙ e ∙ append_assoc (codes " register\n") (flat_map reg_text other) later) in
    let regs = regs_cut one other after later h k f g heads in
    (ap Register regs.0, regs.1)
call_cut names past stamp client (Register one) (Unregister var source) after later h k f g e = absurd (omega (arith, ap (λ l. get_or l 1 0) e))
call_cut names past stamp client (Register one) (Posts other) after later h k f g e = absurd (omega (arith, ap (λ l. get_or l 1 0) e))
call_cut names past stamp client (Register one) Fetch after later h k f g e = absurd (omega (arith, ap (λ l. get_or l 1 0) e))
call_cut names past stamp client (Unregister var source) (Register other) after later h k f g e = absurd (omega (arith, ap (λ l. get_or l 1 0) e))
call_cut names past stamp client (Unregister var source) (Unregister var' source') after later h k f g e = withdrawal_cut var var' source source' after later h k e
call_cut names past stamp client (Unregister var source) (Posts other) after later h k f g e = absurd (omega (arith, ap (λ l. get_or l 1 0) e))
call_cut names past stamp client (Unregister var source) Fetch after later h k f g e = absurd (omega (arith, ap (λ l. get_or l 1 0) e))
call_cut names past stamp client (Posts one) (Register other) after later h k f g e = absurd (omega (arith, ap (λ l. get_or l 1 0) e))
call_cut names past stamp client (Posts one) (Unregister var source) after later h k f g e = absurd (omega (arith, ap (λ l. get_or l 1 0) e))
call_cut names past stamp client (Posts one) (Posts other) after later h k f g e =
    let pairs = batch_cut names past stamp client one other after later h k e in
    (ap Posts pairs.0, pairs.1)
call_cut names past stamp client (Posts one) Fetch after later h k f g e = absurd (omega (arith, ap (λ l. get_or l 1 0) e))
call_cut names past stamp client Fetch (Register other) after later h k f g e = absurd (omega (arith, ap (λ l. get_or l 1 0) e))
call_cut names past stamp client Fetch (Unregister var source) after later h k f g e = absurd (omega (arith, ap (λ l. get_or l 1 0) e))
call_cut names past stamp client Fetch (Posts other) after later h k f g e = absurd (omega (arith, ap (λ l. get_or l 1 0) e))
call_cut names past stamp client Fetch Fetch after later h k f g e =
    (refl, append_cancel_left (codes " fetch\n" ++ letters_text names (posts_of past) (mail_after names client past)) after later e)
