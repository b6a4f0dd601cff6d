-- What a step adds to the history, and all that a closed lock has.
use Rattle.std.proofs.Common.{◌≡◌, ℕ, [], ◌++◌, sym, ap, ◌∙◌, subst, List, append-nil}
use Rattle.moos_client.specs.Calls.{entries_of, SeatState}
use Rattle.moos_client.proofs.Histories.{none_left, own_rest}
use Rattle.moos_step.specs.Steps.{IsWhole, GoesOn}
use Rattle.moos_post.specs.History.{History}
use Rattle.moos_post.specs.declared.entry.Entry.{Entry}
use Rattle.turn_lock.specs.Passes.{Begins, known_of}

-- what a step adds to the history has of each client what the client may make
pub grown : (may : ℕ → List Entry → Type 0) (before after : SeatState) → IsWhole before → (on : GoesOn may before after) → (n : ℕ) → may n (entries_of n on.later.0)
grown may before after whole on n =
    subst (may n) (sym (own_rest before.seen on.later.0 n (on.known n).added (ap (entries_of n) (sym on.later.1) ∙ on.whole n ∙ (on.known n).is ∙ ap (λ front. front ++ (on.known n).added) (sym (whole n))))) (on.known n).allowed

-- nothing is in it that the first seat, which knows all, hasn't seen
pub closed_same : (first : SeatState) (history : History) → Begins history first.seen → ((n : ℕ) → entries_of n history ≡ known_of first n) → IsWhole first → history ≡ first.seen
closed_same first history begins knows whole = begins.1 ∙ ap (λ rest. first.seen ++ rest) (none_left begins.0 (λ n. rest n)) ∙ append-nil first.seen
  where
    rest : (n : ℕ) → entries_of n begins.0 ≡ []
    rest n = own_rest first.seen begins.0 n [] (ap (entries_of n) (sym begins.1) ∙ knows n ∙ sym (whole n) ∙ sym (append-nil (entries_of n first.seen)))
