-- The database as a whole, where nothing has happened and after one entry more.
use Rattle.std.proofs.Common.{◌≡◌, ◌∙◌, ◌<◌, ◌^◌, ℕ, suc, List, [], ◌∷◌, ◌++◌, length, get_or, set, take, slice_get, Some, inl, inr, refl, ap, sym, subst, arith}
use Rattle.std.specs.List.{All}
use Rattle.std.proofs.lemmas.Bool.{cases_lt}
use Rattle.std.proofs.lemmas.List.{get_or_append_left, take-append-le}
use Rattle.std.proofs.lemmas.Option.{get_or_from_slice_get, slice_get_within}
use Rattle.std.proofs.Math.Seq.{get_or-append_seam, take-append_seam}
use Rattle.moos_post.specs.declared.entry.Call.TheVariants.{Fetch}
use Rattle.moos_post.specs.declared.entry.Entry.{Entry}
use Rattle.moos_post.specs.Delivery.{mail_at, mail_of_entry}
use Rattle.moos_post.specs.History.{History}
use Rattle.moos_mail.proofs.Lists.{found-below, length-push, slice_get-front}
use Rattle.moos_db.specs.declared.db.Parts.{Parts}
use Rattle.moos_db.specs.Clients.{ClientState, IsBlank}
use Rattle.moos_db.specs.Subscriptions.{VariablesState}
use Rattle.moos_db.specs.Places.{AreKept, IsDb, LogState}
use Rattle.moos_db.proofs.AfterCalls.{AreKept-fetch, AreKept-mail, AreKept-room}
use Rattle.moos_db.proofs.Standing.{slice_get-seam}

-- Parts that equal those of a database are such parts too: a box has what it was made of, and lends what it has.
pub IsDb-equal : (others parts : Parts) → others ≡ parts → IsDb parts.names parts.log parts.variables parts.clients.items → IsDb others.names others.log others.variables others.clients.items
IsDb-equal others parts same db = subst (λ (one : Parts). IsDb one.names one.log one.variables one.clients.items) (sym same) db

pub mail_at-stays : (names : List (List ℕ)) (history : History) (entry : Entry) (k : ℕ) → k < length history → mail_at names (history ++ entry ∷ []) k ≡ mail_at names history k
mail_at-stays names history entry k below =
    let found : (one : Entry) × (slice_get history k ≡ Some one) = found-below history k below in
    ap (λ h. mail_of_entry names h (slice_get (history ++ entry ∷ []) k)) (take-append-le k history (entry ∷ []) (omega arith))
    ∙ ap (mail_of_entry names (take k history)) (slice_get-front history (entry ∷ []) k found.0 found.1 ∙ sym found.1)

pub mail_at-seam : (names : List (List ℕ)) (history : History) (entry : Entry) → mail_at names (history ++ entry ∷ []) (length history) ≡ mail_of_entry names history (Some entry)
mail_at-seam names history entry =
    ap (λ h. mail_of_entry names h (slice_get (history ++ entry ∷ []) (length history))) (take-append_seam history (entry ∷ []))
    ∙ ap (mail_of_entry names history) (slice_get-seam history entry [])

-- The same history, of which other parts are kept.
pub IsDb-stays : (names : List (List ℕ)) (journal other : LogState) (variables more : VariablesState) (clients others : List ClientState) → other ≡ journal → AreKept names other.entries more others →
    IsDb names journal variables clients → IsDb names other more others
IsDb-stays names journal other variables more clients others same kept db = record {
  kept = kept;
  lettered = subst (λ (one : LogState). length one.letters ≡ length one.entries) (sym same) db.lettered;
  given = subst (λ (one : LogState). (k : ℕ) → k < length one.entries → get_or one.letters k [] ≡ mail_at names one.entries k) (sym same) db.given;
}

-- One entry more, with its letters.
pub IsDb-push : (names : List (List ℕ)) (journal other : LogState) (variables more : VariablesState) (clients others : List ClientState) (entry : Entry) (numbers : List ℕ) →
    other ≡ record { entries = journal.entries ++ entry ∷ []; letters = journal.letters ++ numbers ∷ [] } → numbers ≡ mail_of_entry names journal.entries (Some entry) →
    AreKept names other.entries more others → IsDb names journal variables clients → IsDb names other more others
IsDb-push names journal other variables more clients others entry numbers after mail kept db =
    subst (λ (one : LogState). IsDb names one more others) (sym after)
    (record {
      kept = subst (λ (one : LogState). AreKept names one.entries more others) after kept;
      lettered = length-push journal.letters numbers ∙ ap suc db.lettered ∙ sym (length-push journal.entries entry);
      given = λ k below. elim (cases_lt k (length journal.entries)) [
        | inl before ↦
            let h : length journal.letters ≡ length journal.entries = db.lettered in
            get_or_append_left journal.letters (numbers ∷ []) [] k (omega arith) ∙ db.given k before ∙ sym (mail_at-stays names journal.entries entry k before)
        | inr behind ↦
            let h : length journal.letters ≡ length journal.entries = db.lettered in
            let last : k ≡ length journal.entries = omega (arith, length-push journal.entries entry) in
            ap (λ n. get_or (journal.letters ++ numbers ∷ []) n []) (last ∙ sym h) ∙ get_or-append_seam journal.letters numbers [] []
            ∙ mail ∙ sym (mail_at-seam names journal.entries entry) ∙ ap (mail_at names (journal.entries ++ entry ∷ [])) (sym last)
      ];
    })

-- Where nothing has happened, nothing is kept.
pub IsDb-new : (names : List (List ℕ)) (clients : List ClientState) → length names < 2 ^ 32 → length clients ≡ length names → All IsBlank clients →
    IsDb names (record { entries = []; letters = [] }) (record { all = []; numbers = []; noted = [] }) clients
IsDb-new names clients few each blank = record {
  kept = record {
    few = few;
    each = each;
    kept = record {
      clients = λ number client there.
          let is : IsBlank client = subst IsBlank (get_or_from_slice_get clients number client client there) (blank number client (slice_get_within clients number client there)) in
          record { lives = is.lives; waits = is.waits };
      heard = record {
        heard = λ k d below. absurd (omega arith);
        latest = λ k d below. absurd (omega arith);
        recipients = λ k d below. absurd (omega arith);
        known = λ client below. λ k d none. absurd (omega arith);
      };
    };
    noted = refl;
  };
  lettered = refl;
  given = λ k below. absurd (omega arith);
}

-- The client fetched what waited for it.
pub IsDb-fetch : (names : List (List ℕ)) (journal other : LogState) (variables : VariablesState) (clients : List ClientState) (stamp client : ℕ) (one new : ClientState) → slice_get clients client ≡ Some one →
    other ≡ record { entries = journal.entries ++ record { stamp = stamp; client = client; call = Fetch } ∷ []; letters = journal.letters ++ one.waits ∷ [] } → new ≡ record one { waits = []; spare = new.spare } →
    IsDb names journal variables clients → IsDb names other variables (set clients client new)
IsDb-fetch names journal other variables clients stamp client one new there after given db =
    IsDb-push names journal other variables variables clients (set clients client new) (record { stamp = stamp; client = client; call = Fetch }) one.waits after
    (AreKept-mail names journal.entries client variables clients one there db.kept)
    (subst (λ (log : LogState). AreKept names log.entries variables (set clients client new)) (sym after)
    (subst (λ state. AreKept names (journal.entries ++ record { stamp = stamp; client = client; call = Fetch } ∷ []) variables (set clients client state)) (sym given)
    (AreKept-fetch names journal.entries stamp client variables clients one new.spare there db.kept)))
    db

-- It found no memory, and has the same but for room.
pub IsDb-spare : (names : List (List ℕ)) (journal other : LogState) (variables : VariablesState) (clients : List ClientState) (client : ℕ) (one new : ClientState) → slice_get clients client ≡ Some one →
    other ≡ journal → new ≡ record one { spare = new.spare } → IsDb names journal variables clients → IsDb names other variables (set clients client new)
IsDb-spare names journal other variables clients client one new there same given db =
    IsDb-stays names journal other variables variables clients (set clients client new) same
    (subst (λ (log : LogState). AreKept names log.entries variables (set clients client new)) (sym same)
    (subst (λ state. AreKept names journal.entries variables (set clients client state)) (sym given)
    (AreKept-room names journal.entries client variables clients one (record one { spare = new.spare }) there refl db.kept)))
    db
