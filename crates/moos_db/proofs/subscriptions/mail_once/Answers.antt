use Rattle.std.proofs.Common.{◌∙◌, ap, refl, Some, sym}
use Rattle.std.proofs.lemmas.Option.{slice_get-get_or}
use Rattle.moos_db.proofs.subscriptions.mail_once.Goals as goal

pub mail-requires : goal.mail-requires
mail-requires c =
    c.requires.room (sym c.has.ensures ∙ c.if-has.false) c.index_mut.result.now
    (slice_get-get_or c.args.clients.now.items c.args.client c.index_mut.result.now c.requires.within ∙ ap (λ x. Some x) (sym c.index_mut.ensures.value))

pub returns-clause-first : goal.returns-clause-first
returns-clause-first c fresh = record {
  one = c.index_mut.result.now;
  there = slice_get-get_or c.args.clients.now.items c.args.client c.index_mut.result.now c.requires.within ∙ ap (λ x. Some x) (sym c.index_mut.ensures.value);
  other = c.mail.new.self;
  mailed = c.mail.ensures.mailed;
  room = c.mail.ensures.room;
  all = refl;
  mark = c.add.ensures;
}
