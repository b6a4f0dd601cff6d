use Rattle.moos_io.proofs.BufferedWriting.{writes_on}
use Rattle.moos_report.proofs.posts.put_fetch.Goals as goal

pub returns : goal.returns
returns g c = writes_on c.write.ensures c.put_letters.ensures
