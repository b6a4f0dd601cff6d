-- Histories of which one report is printed are the same.
use Rattle.std.proofs.Common.{◌≡◌, true, ℕ, suc, ◌<◌, List, [], ◌∷◌, ◌++◌, flat_map, length, drop, get_or, refl, ap, sym, ◌∙◌, subst, arith, append_assoc}
use Rattle.std.specs.Prelude.{codes, decimal, IsTrue}
use Rattle.std.specs.List.{All, concat}
use Rattle.std.proofs.lemmas.List.{append_cancel_left}
use Rattle.std.proofs.lemmas.List.Elements.{All-head, All-tail}
use Rattle.moos_post.specs.declared.entry.Call.{Call}
use Rattle.moos_post.specs.declared.entry.Call.TheVariants.{Register, Unregister, Post as Posts, Fetch}
use Rattle.moos_post.specs.declared.entry.Entry.{Entry}
use Rattle.moos_post.specs.History.{History, name_of}
use Rattle.moos_post.specs.Words.{is_name}
use Rattle.moos_text.specs.Numbers.{unsigned_text}
use Rattle.moos_post.specs.Entries.{IsEntry}
use Rattle.helm_core.specs.declared.iteration.Iteration.{Iteration}
use Rattle.moos_report.specs.declared.setup.Setup.{Setup}
use Rattle.moos_report.specs.Community.{HaveClients, HaveOwnNames, StandOnLines}
use Rattle.moos_report.specs.IterationLines.{outcome_text}
use Rattle.moos_report.specs.Report.{call_text, client_text, clients_text, end_text, entries_text, entry_text, head_text, report_text, ReportsTellTheirEnd, ReportsTell, reported_text, TwoReportsTell, unused_text}
use Rattle.moos_report.proofs.Cuts.{cut_at, Lacks}
use Rattle.moos_report.proofs.NextEntries.{Differs, IsNext, outcome_differs, outcome_skipped, unused_differs, unused_skipped}
use Rattle.moos_report.proofs.PassedLines.{next_entry}
use Rattle.moos_report.proofs.PrintedCalls.{call_cut, name_lacks}
use Rattle.moos_report.proofs.PrintedValues.{unsigned_lacks, unsigned_same}

-- a client's name
abbrev Named : List ℕ → Type 0
Named name = IsTrue (is_name name)

-- the name of a client holds no blank
client_lacks : (names : List (List ℕ)) (client : ℕ) → All Named names → client < length names → Lacks 32 (name_of names client)
client_lacks names client named within = name_lacks 32 (name_of names client) refl (named client [] within)

-- a blank stands before what an entry asks for
call_blank : (names : List (List ℕ)) (past : History) (entry : Entry) (call : Call) → call_text names past entry call ≡ 32 ∷ drop 1 (call_text names past entry call)
call_blank names past entry (Register regs) = refl
call_blank names past entry (Unregister var source) = refl
call_blank names past entry (Posts batch) = refl
call_blank names past entry Fetch = refl

-- the line of an entry, and what stands behind it
asking_open : (number stamp name asked after : List ℕ) → (concat (codes "%% entry " ∷ number ∷ codes " " ∷ stamp ∷ codes " " ∷ name ∷ []) ++ 32 ∷ asked) ++ after
    ≡ (codes "%% entry " ++ (number ++ codes " ")) ++ (stamp ++ 32 ∷ (name ++ 32 ∷ (asked ++ after)))
asking_open number stamp name asked after = simp append_assoc refl

entry_open : (names : List (List ℕ)) (past : History) (entry : Entry) (after : List ℕ) → entry_text names past entry ++ after
    ≡ (codes "%% entry " ++ (decimal (length past) ++ codes " ")) ++ (unsigned_text entry.stamp ++ 32 ∷ (name_of names entry.client ++ 32 ∷ (drop 1 (call_text names past entry entry.call) ++ after)))
entry_open names past entry after =
    ap (λ t. (concat (codes "%% entry " ∷ decimal (length past) ∷ codes " " ∷ unsigned_text entry.stamp ∷ codes " " ∷ name_of names entry.client ∷ []) ++ t) ++ after) (call_blank names past entry entry.call)
    ∙ asking_open (decimal (length past)) (unsigned_text entry.stamp) (name_of names entry.client) (drop 1 (call_text names past entry entry.call)) after

entry_cut : (names : List (List ℕ)) (past : History) (one other : Entry) (after later : List ℕ) → All Named names → HaveOwnNames names
    → IsEntry one → IsEntry other → one.client < length names → other.client < length names → Differs 114 after → Differs 114 later
    → entry_text names past one ++ after ≡ entry_text names past other ++ later → (one ≡ other) × (after ≡ later)
entry_cut names past one other after later named own h k within within' f g e =
    let heads = append_cancel_left (codes "%% entry " ++ (decimal (length past) ++ codes " ")) _ _ (sym (entry_open names past one after) ∙ e ∙ entry_open names past other later) in
    let stamps = cut_at 32 (unsigned_text one.stamp) (unsigned_text other.stamp) _ _
    (unsigned_lacks 32 one.stamp h.stamp refl (λ e. absurd (omega (arith, e)))) (unsigned_lacks 32 other.stamp k.stamp refl (λ e. absurd (omega (arith, e)))) heads in
    let stamp : one.stamp ≡ other.stamp = unsigned_same one.stamp other.stamp h.stamp k.stamp stamps.0 in
    let clients = cut_at 32 (name_of names one.client) (name_of names other.client) _ _ (client_lacks names one.client named within) (client_lacks names other.client named within') stamps.1 in
    let client : one.client ≡ other.client = own one.client other.client within within' clients.0 in
    let lines : call_text names past one one.call ++ after ≡ call_text names past other other.call ++ later =
    ap (λ t. t ++ after) (call_blank names past one one.call) ∙ ap (λ t. 32 ∷ t) clients.1 ∙ sym (ap (λ t. t ++ later) (call_blank names past other other.call)) in
    let calls = call_cut names past one.stamp one.client one.call other.call after later h.call k.call f g
    (lines ∙ (λ i. call_text names past (record { stamp = sym stamp i; client = sym client i; call = other.call }) other.call ++ later)) in
    (λ i. record { stamp = stamp i; client = client i; call = calls.0 i }, calls.1)

-- the line at the end
abbrev Ends : List ℕ → Type 0
Ends text = (rest : List ℕ) × (text ≡ codes "%% end " ++ rest)

-- entries and the end are what is found
entries_next : (setup : Setup) (iterations : List Iteration) (names : List (List ℕ)) (past history : History) (end : List ℕ) → Ends end → IsNext (entries_text setup 0 iterations names past history ++ end)
entries_next setup iterations names past [] end ends = record {
  letter = ap (λ text. get_or text 3 0) ends.1;
  found = ap (next_entry true) ends.1 ∙ sym ends.1;
}
entries_next setup iterations names past (entry ∷ later) end ends = record { letter = refl; found = refl }

entries_cut : (setup setup' : Setup) (iterations iterations' : List Iteration) (names : List (List ℕ)) (past one other : History) (end end' : List ℕ) → All Named names → HaveOwnNames names
    → All IsEntry one → All IsEntry other → HaveClients (length names) one → HaveClients (length names) other → StandOnLines setup iterations → StandOnLines setup' iterations' → Ends end → Ends end'
    → entries_text setup 0 iterations names past one ++ end ≡ entries_text setup' 0 iterations' names past other ++ end' → (one ≡ other) × (end ≡ end')
entries_cut setup setup' iterations iterations' names past [] [] end end' named own h k within within' lines lines' f g e = (refl, e)
entries_cut setup setup' iterations iterations' names past [] (y ∷ other) end end' named own h k within within' lines lines' f g e = absurd (omega (arith, ap (λ l. get_or l 5 0) (sym f.1 ∙ e)))
entries_cut setup setup' iterations iterations' names past (x ∷ one) [] end end' named own h k within within' lines lines' f g e = absurd (omega (arith, ap (λ l. get_or l 5 0) (e ∙ g.1)))
entries_cut setup setup' iterations iterations' names past (x ∷ one) (y ∷ other) end end' named own h k within within' lines lines' f g e =
    let outcome = outcome_text setup 0 iterations names past x in
    let outcome' = outcome_text setup' 0 iterations' names past y in
    let left = entries_text setup 0 iterations names (past ++ x ∷ []) one in
    let left' = entries_text setup' 0 iterations' names (past ++ y ∷ []) other in
    let next = entries_next setup iterations names (past ++ x ∷ []) one end f in
    let next' = entries_next setup' iterations' names (past ++ y ∷ []) other end' g in
    let first = entry_cut names past x y (outcome ++ (left ++ end)) (outcome' ++ (left' ++ end')) named own (All-head IsEntry x one h) (All-head IsEntry y other k)
    (All-head (λ entry. entry.client < length names) x one within) (All-head (λ entry. entry.client < length names) y other within')
    (outcome_differs setup iterations names past x (left ++ end) lines next) (outcome_differs setup' iterations' names past y (left' ++ end') lines' next')
    (sym (parted (entry_text names past x) outcome left end) ∙ e ∙ parted (entry_text names past y) outcome' left' end') in
    let behind : left ++ end ≡ left' ++ end' =
    sym next.found ∙ sym (outcome_skipped setup iterations names past x lines (left ++ end)) ∙ ap (next_entry true) first.1
    ∙ outcome_skipped setup' iterations' names past y lines' (left' ++ end') ∙ next'.found in
    let rest = entries_cut setup setup' iterations iterations' names (past ++ x ∷ []) one other end end' named own (All-tail IsEntry x one h) (All-tail IsEntry y other k)
    (All-tail (λ entry. entry.client < length names) x one within) (All-tail (λ entry. entry.client < length names) y other within') lines lines' f g
    (behind ∙ (λ i. entries_text setup' 0 iterations' names (past ++ sym first.0 i ∷ []) other ++ end')) in
    (λ i. first.0 i ∷ rest.0 i, rest.1)
  where
    parted : (entry outcome left end : List ℕ) → (entry ++ (outcome ++ left)) ++ end ≡ entry ++ (outcome ++ (left ++ end))
    parted entry outcome left end = append_assoc entry (outcome ++ left) end ∙ ap (λ behind. entry ++ behind) (append_assoc outcome left end)

-- the line of a client, and what stands behind it
client_open : (number : ℕ) (name after : List ℕ) → client_text number name ++ after ≡ (codes "%% client " ++ (decimal number ++ codes " ")) ++ (name ++ 10 ∷ after)
client_open number name after = simp append_assoc refl

clients_cut : (number : ℕ) (one other : List (List ℕ)) (after later : List ℕ) → All Named one → All Named other → Differs 99 after → Differs 99 later
    → clients_text number one ++ after ≡ clients_text number other ++ later → (one ≡ other) × (after ≡ later)
clients_cut number [] [] after later h k f g e = (refl, e)
clients_cut number [] (y ∷ other) after later h k f g e = absurd (f (ap (λ l. get_or l 3 0) e))
clients_cut number (x ∷ one) [] after later h k f g e = absurd (g (sym (ap (λ l. get_or l 3 0) e)))
clients_cut number (x ∷ one) (y ∷ other) after later h k f g e =
    let lines = append_cancel_left (codes "%% client " ++ (decimal number ++ codes " ")) _ _
    (sym (client_open number x (clients_text (suc number) one ++ after)) ∙ sym (append_assoc (client_text number x) (clients_text (suc number) one) after)
    ∙ e ∙ append_assoc (client_text number y) (clients_text (suc number) other) later ∙ client_open number y (clients_text (suc number) other ++ later)) in
    let first = cut_at 10 x y _ _ (name_lacks 10 x refl (All-head Named x one h)) (name_lacks 10 y refl (All-head Named y other k)) lines in
    let rest = clients_cut (suc number) one other after later (All-tail Named x one h) (All-tail Named y other k) f g first.1 in
    (λ i. first.0 i ∷ rest.0 i, rest.1)

-- the lines at the head of a report, one behind the other
head_open : (clients unused after : List ℕ) → (codes "%% moosdb play 1\n" ++ (clients ++ unused)) ++ after ≡ codes "%% moosdb play 1\n" ++ (clients ++ (unused ++ after))
head_open clients unused after = append_assoc (codes "%% moosdb play 1\n") (clients ++ unused) after ∙ ap (λ text. codes "%% moosdb play 1\n" ++ text) (append_assoc clients unused after)

-- a report with a text behind it
report_open : (head entries end rest : List ℕ) → (head ++ (entries ++ end)) ++ rest ≡ head ++ (entries ++ (end ++ rest))
report_open head entries end rest = append_assoc head (entries ++ end) rest ∙ ap (λ text. head ++ text) (append_assoc entries end rest)

-- clients and histories of which one report is printed, and what stands behind it
pub reports_end : ReportsTellTheirEnd
reports_end setup setup' names others history other iterations iterations' rest rest' h k lines lines' e =
    let end = end_text history ++ rest in
    let end' = end_text other ++ rest' in
    let entries = entries_text setup 0 iterations names [] history ++ end in
    let entries' : List (List ℕ) → List ℕ = λ names. entries_text setup' 0 iterations' names [] other ++ end' in
    let unused = flat_map unused_text setup.unused in
    let unused' = flat_map unused_text setup'.unused in
    let next = entries_next setup iterations names [] history end (ends_with history rest) in
    let next' = entries_next setup' iterations' others [] other end' (ends_with other rest') in
    let clients = clients_cut 0 others names (unused' ++ entries' others) (unused ++ entries) k.named h.named
    (unused_differs setup'.unused (entries' others) next') (unused_differs setup.unused entries next)
    (append_cancel_left (codes "%% moosdb play 1\n") _ _
    (sym (opened setup' others other iterations' rest') ∙ e ∙ opened setup names history iterations rest)) in
    let behind : entries' others ≡ entries =
    sym next'.found ∙ sym (unused_skipped setup' iterations' lines' (entries' others)) ∙ ap (next_entry true) clients.1
    ∙ unused_skipped setup iterations lines entries ∙ next.found in
    let told = entries_cut setup' setup iterations' iterations names [] other history end' end h.named h.own k.entries h.entries
    (subst (λ ns. HaveClients (length ns) other) clients.0 k.clients) h.clients lines' lines (ends_with other rest') (ends_with history rest) (ap entries' (sym clients.0) ∙ behind) in
    (clients.0, told.0, append_cancel_left (end_text history) rest' rest (ap (λ history. end_text history ++ rest') (sym told.0) ∙ told.1))
  where
    ends_with : (history : History) (rest : List ℕ) → Ends (end_text history ++ rest)
    ends_with history rest = (_, refl)

    opened : (setup : Setup) (names : List (List ℕ)) (history : History) (iterations : List Iteration) (rest : List ℕ)
        → report_text setup names history iterations ++ rest
        ≡ codes "%% moosdb play 1\n" ++ (clients_text 0 names ++ (flat_map unused_text setup.unused ++ (entries_text setup 0 iterations names [] history ++ (end_text history ++ rest))))
    opened setup names history iterations rest =
        report_open (head_text setup names) (entries_text setup 0 iterations names [] history) (end_text history) rest
        ∙ head_open (clients_text 0 names) (flat_map unused_text setup.unused) (entries_text setup 0 iterations names [] history ++ (end_text history ++ rest))

-- nothing stands behind a report that is the whole text
pub report_same : ReportsTell
report_same setup setup' names others history other iterations iterations' h k lines lines' e =
    let told = reports_end setup setup' names others history other iterations iterations' [] [] h k lines lines' (ap (λ text. text ++ []) e) in (told.0, told.1)

-- two reports in a row
pub both_same : TwoReportsTell
both_same one two other another e =
    let first = reports_end one.setup other.setup one.names other.names one.history other.history one.iterations other.iterations (reported_text two) (reported_text another)
    one.community other.community one.lines other.lines e in
    let second = report_same two.setup another.setup two.names another.names two.history another.history two.iterations another.iterations
    two.community another.community two.lines another.lines first.2 in (first.0, first.1, second.0, second.1)
