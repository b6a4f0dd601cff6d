use Rattle.std.proofs.Common.{◌≡◌, ◌++◌, ◌∷◌, [], rules, subst, sym}
use Rattle.moos_post.specs.declared.entry.Call.TheVariants.{Unregister}
use Rattle.moos_post.specs.History.{History, posts_of}
use Rattle.moos_db.specs.Places.{AreKept, inboxes_after}
use Rattle.moos_db.proofs.AfterCalls.{AreKept-unregister}
use Rattle.moos_db.proofs.registering.unregister.Goals as goal

pub returns-clause-kept : goal.returns-clause-kept
returns-clause-kept c = λ names before.
    let entries = c.args.log.now.entries in
    let added : c.append.new.self.entries ≡ c.args.log.now.entries ++ record { stamp = c.args.stamp; client = c.args.client; call = Unregister c.args.var.now c.args.source.now } ∷ [] = search rules in
    subst (λ (history : History). AreKept names history c.withdraw.new.variables c.withdraw.new.clients.items) (sym added)
    (AreKept-unregister names entries c.args.stamp c.args.client c.args.var.now c.args.source.now c.args.variables.now c.withdraw.new.variables c.args.clients.now.items c.withdraw.new.clients.items c.withdraw.ensures.still c.withdraw.ensures.noted
    (c.withdraw.ensures.kept (inboxes_after names entries) (posts_of entries) before.kept) before)
