use Rattle.moos_report.proofs.parts.put_ending.Goals as goal

pub returns : goal.returns
returns g c = rw (c.entries.ensures, c.posts.ensures) at c.put_end.ensures
