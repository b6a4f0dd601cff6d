-- What a client hears at its fetches in a history.
use Rattle.std.specs.Prelude.{ℕ, ◌==◌, ◌&&◌, if◌then◌else◌, List, [], ◌∷◌, ◌++◌, filter, length}
use Rattle.moos_post.specs.declared.entry.Entry.{Entry}
use Rattle.moos_post.specs.Delivery.{is_fetch}
use Rattle.moos_post.specs.History.{History}

-- what a client hears that fetches with a stamp behind a history
abbrev pub Mailed : Type 0 → Type 0
Mailed A = ℕ → ℕ → History → A

-- what a client hears at each of its fetches in a part of a history that follows another part
abbrev pub heard_in : {A : Type 0} → Mailed A → ℕ → History → History → List A
heard_in mailed client past [] = []
heard_in mailed client past (entry ∷ later) =
    let heard = heard_in mailed client (past ++ entry ∷ []) later in
    if entry.client == client && is_fetch entry.call then mailed client entry.stamp past ∷ heard else heard

-- how many of the entries are fetches
abbrev pub fetches : List Entry → ℕ
fetches entries = length (filter (λ entry. is_fetch entry.call) entries)
