use Rattle.moos_report.proofs.behaviors.put_behavior.Goals as goal

pub returns : goal.returns
returns g c = rw (c.bytes.ensures.value, c.behavior_state.ensures) at c.put_words.ensures
