-- The last batch of one turn more is what the manager posts.
use Rattle.std.proofs.Common.{◌∙◌, ap, sym}
use Rattle.contact_avoid.specs.Contacts.{batches_of}
use Rattle.sim_clients.proofs.Contacting.{last_behind}
use Rattle.sim_clients.specs.Clients.{last_batch}
use Rattle.sim_clients.proofs.basic_contact_mgr.BasicContactMgr.turn.Goals as goal

pub returns-clause-said : goal.returns-clause-said
returns-clause-said c = λ ranges mails is. sym (ap last_batch (c.in_ok-batch.ensures.turned.posted ranges mails is) ∙ last_behind (batches_of ranges mails) c.in_ok-batch.batch)

pub returns-clause-after : goal.returns-clause-after
returns-clause-after c = λ ranges mails is. c.in_ok-batch.ensures.turned.known ranges mails is
