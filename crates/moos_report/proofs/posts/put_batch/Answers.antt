use Rattle.moos_io.proofs.BufferedWriting.{writes_on}
use Rattle.moos_report.proofs.posts.put_batch.Goals as goal

pub returns : goal.returns
returns g c = writes_on c.put_posting.ensures c.put_pairs.ensures
