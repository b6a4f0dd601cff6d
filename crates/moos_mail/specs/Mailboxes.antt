-- What a mailbox stands for.
use Rattle.std.specs.Prelude.{ℕ, List}

-- the numbers not yet fetched in the order of mailing, and how many more can be mailed without memory
pub record MailboxState : Type 0 where
  pub waiting : List ℕ
  pub spare : ℕ
