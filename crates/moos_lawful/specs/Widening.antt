-- A play that knows the part of some clients alone, and its caller, who knows those of further ones too.
use Rattle.std.specs.Prelude.{◌≡◌, ℕ, ◌<◌, ◌≤◌, nat_le, nat_lt, IsTrue, [], ◌∷◌, ◌++◌, map}
use Rattle.std.specs.List.{list_all}
use Rattle.moos_post.specs.declared.entry.Entry.{Entry}
use Rattle.moos_post.specs.History.{History}
use Rattle.moos_lawful.specs.Schedules.{clients_below, entries_below, IsLawfulSoFar, never_falls, Schedule}

-- The wider of two schedules knows more clients, has their openings at the end of its start, and measures the clients of both in
-- the same order.
pub record IsWider {A : Type 0} (short long : Schedule A) : Type 0 where
  pub openings : History
  pub start : long.start ≡ short.start ++ openings
  pub further : IsTrue (list_all (λ entry. nat_le short.known entry.client) openings)
  pub known : short.known ≤ long.known
  pub room : long.known ≤ long.names
  pub mailed : long.mailed ≡ short.mailed
  pub due : (n : ℕ) → n < short.known → long.due n ≡ short.due n
  pub keeps : (x y : Entry) → IsTrue (nat_lt x.client short.known) → IsTrue (nat_lt y.client short.known) → short.moment x ≤ short.moment y → long.moment x ≤ long.moment y

-- A part of the play's clients alone, with two bounds: no moment so far is above the lower one, none of the part or of what is
-- left for the play's clients is below it, none of the part is above the upper one, and none of what is left for the further
-- clients is below that.
pub record IsBounded {A : Type 0} (short long : Schedule A) (history later : History) (so : IsLawfulSoFar long history) (now : IsLawfulSoFar short (history ++ later)) : Type 0 where
  pub low : ℕ
  pub high : ℕ
  pub rising : low ≤ high
  pub clients : IsTrue (clients_below short.known later)
  pub before : IsTrue (never_falls 0 (map long.moment (entries_below long.known so.rest) ++ low ∷ []))
  pub above : IsTrue (list_all (λ entry. nat_le low (long.moment entry)) later)
  pub below : IsTrue (list_all (λ n. nat_le n high) (map long.moment later))
  pub left : (n : ℕ) → n < short.known → IsTrue (list_all (λ entry. nat_le low (long.moment entry)) (now.left n))
  pub further : (n : ℕ) → short.known ≤ n → n < long.known → IsTrue (never_falls high (map long.moment (so.left n)))
