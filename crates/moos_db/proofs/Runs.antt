-- The mails of a run, one call more at a time.
use Rattle.std.proofs.Common.{◌≡◌, ℕ, suc, ◌<◌, List, [], ◌∷◌, ◌++◌, length, take, slice_get, Some, inl, inr, ap, sym, ◌∙◌, arith, subst}
use Rattle.std.proofs.lemmas.Bool.{cases_lt}
use Rattle.std.proofs.lemmas.List.{take-append-le}
use Rattle.std.proofs.lemmas.Option.{slice_get_within}
use Rattle.std.proofs.Math.Seq.{take-append_seam}
use Rattle.moos_post.specs.declared.entry.Entry.{Entry}
use Rattle.moos_post.specs.Delivery.{mail_of_entry, mail_at}
use Rattle.moos_post.specs.History.{History, posts_of}
use Rattle.moos_db.specs.declared.mail.Letter.{Letter}
use Rattle.moos_db.specs.Database.{AreLetters, AreMails}
use Rattle.moos_mail.proofs.Lists.{found-below, length-push, slice_get-front}
use Rattle.moos_db.proofs.Standing.{slice_get-seam}
use Rattle.moos_db.proofs.Whole.{mail_at-stays, mail_at-seam}

pub AreMails-push : (names : List (List ℕ)) (history : History) (mails : List (List Letter)) (entry : Entry) (mail : List Letter) → AreLetters (posts_of history) (mail_of_entry names history (Some entry)) mail →
    AreMails names history mails → AreMails names (history ++ entry ∷ []) (mails ++ mail ∷ [])
AreMails-push names history mails entry mail letters are =
    let more : History = history ++ entry ∷ [] in
    let each : length mails ≡ length history = are.each in
    record {
      each = length-push mails mail ∙ ap suc each ∙ sym (length-push history entry);
      mail = λ k one there. elim (cases_lt k (length history)) [
        | inl before ↦
            let found : (x : List Letter) × (slice_get mails k ≡ Some x) = found-below mails k (omega arith) in
            let same : found.0 ≡ one = (let e : Some found.0 ≡ Some one = sym (slice_get-front mails (mail ∷ []) k found.0 found.1) ∙ there in cc) in
            subst (AreLetters (posts_of (take k more)) (mail_at names more k)) same
            (subst (λ numbers. AreLetters (posts_of (take k more)) numbers found.0) (sym (mail_at-stays names history entry k before))
            (subst (λ past. AreLetters (posts_of past) (mail_at names history k) found.0) (sym (take-append-le k history (entry ∷ []) (omega arith)))
            (are.mail k found.0 found.1)))
        | inr after ↦
            let within : k < length (mails ++ mail ∷ []) = slice_get_within (mails ++ mail ∷ []) k one there in
            let last : k ≡ length history = omega (arith, length-push mails mail) in
            let same : mail ≡ one
            = (let e : Some mail ≡ Some one = sym (slice_get-seam mails mail []) ∙ ap (slice_get (mails ++ mail ∷ [])) (each ∙ sym last) ∙ there in cc) in
            subst (λ n. AreLetters (posts_of (take n more)) (mail_at names more n) one) (sym last)
            (subst (AreLetters (posts_of (take (length history) more)) (mail_at names more (length history))) same
            (subst (λ numbers. AreLetters (posts_of (take (length history) more)) numbers mail) (sym (mail_at-seam names history entry))
            (subst (λ past. AreLetters (posts_of past) (mail_of_entry names history (Some entry)) mail) (sym (take-append_seam history (entry ∷ []))) letters)))
      ];
    }
