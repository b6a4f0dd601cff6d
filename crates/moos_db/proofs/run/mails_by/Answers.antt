use Rattle.std.proofs.Common.{ap, sym, ◌∙◌, subst, Some}
use Rattle.moos_post.specs.Delivery.{mail_of_entry}
use Rattle.moos_post.specs.History.{posts_of}
use Rattle.moos_db.specs.Database.{Database, after_entry, AreLetters, AreMails}
use Rattle.moos_db.proofs.Runs.{AreMails-push}
use Rattle.moos_db.proofs.run.mails_by.Goals as goal

pub loop-call-preserved : goal.loop-call-preserved
loop-call-preserved c = record {
  next = tt;
  finite = tt;
  db = c.in_ok-mail.ensures.ok ∙ ap (λ (db : Database). after_entry db c.in-Some.call) c.loop-call.invariant.db;
  mails =
      subst (AreMails c.args.db.now.names _) (sym c.in_ok-push.ensures.items)
      (AreMails-push c.args.db.now.names c.loop-call.yielded c.loop-call.mails.items c.in-Some.call _
      (subst (λ (db : Database). AreLetters (posts_of db.history) (mail_of_entry db.names db.history (Some c.in-Some.call)) c.in_ok-mail.mail) c.loop-call.invariant.db c.in_ok-mail.ensures.mail)
      c.loop-call.invariant.mails);
}
