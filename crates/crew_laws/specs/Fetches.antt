-- What a history has before a client's fetches.
use Rattle.std.specs.Prelude.{ℕ, zero, suc, ◌==◌, ◌&&◌, Bool, if◌then◌else◌, [], ◌∷◌}
use Rattle.moos_post.specs.declared.entry.Entry.{Entry}
use Rattle.moos_post.specs.Delivery.{is_fetch}
use Rattle.moos_post.specs.History.{History}

-- the entry is a fetch of this client
abbrev pub fetches_for : ℕ → Entry → Bool
fetches_for client entry = entry.client == client && is_fetch entry.call

-- the entries before a client's fetch i, which is counted from 0; all of them if it has no such fetch
abbrev pub before_fetch : ℕ → ℕ → History → History
before_fetch client i [] = []
before_fetch client zero (entry ∷ later) = if fetches_for client entry then [] else entry ∷ before_fetch client zero later
before_fetch client (suc i) (entry ∷ later) = entry ∷ before_fetch client (if fetches_for client entry then i else suc i) later
