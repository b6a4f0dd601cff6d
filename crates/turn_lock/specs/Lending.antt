-- What lending out the value of a `Held` writes back.
use Rattle.std.specs.Borrow.{Fml, Lends, MutBor, RattleType}
use Rattle.turn_lock.specs.declared.held.Held.{Held}
use Rattle.turn_lock.specs.contracts.held.Held.{the_row}

-- the value is what was last written, and all else stays
abbrev pub LendsValue : (S E B : RattleType) → MutBor (Held S.Denot E.Denot B.Denot) → MutBor S.Denot → Fml
LendsValue S E B held lent = Lends (the_row S E B) S held lent (λ value. record held.now { value = value })
