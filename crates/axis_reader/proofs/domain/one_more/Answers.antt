use Rattle.axis_reader.proofs.Behind.{one_behind}
use Rattle.axis_reader.proofs.domain.one_more.Goals as goal

pub returns : goal.returns
returns c = rw c.copy_from_slice.ensures.after (one_behind c.args.axes.now c.args.axis c.requires)
