use Rattle.moos_db.proofs.Growth.{mail_at-below}
use Rattle.moos_db.proofs.db.Db.letters_law.Goals as goal

pub returns : goal.returns
returns c = mail_at-below c.args.self.now.names c.args.self.now.history c.args.k
