use Rattle.std.proofs.Common.{◌≡◌, length, vec_len, rules}
use Rattle.moos_db.proofs.Standing.{IsLog-push}
use Rattle.moos_db.proofs.log.Log.append.Goals as goal

pub invariant_of-self-2 : goal.invariant_of-self-2
invariant_of-self-2 c =
    let counted : vec_len c.self.inside.entries ≡ length c.self.inside.entries.items = search rules in
    rw (c.push_reserved.ensures.items, c.in_ok-push_entry.ensures.entries, c.in_ok-push_entry.ensures.letters, c.in_ok-push_entry.ensures.places, counted)
    (IsLog-push _ _ _ _ _ c.self.invariant)
