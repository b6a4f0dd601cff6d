use Rattle.std.proofs.Common.{◌≡◌, ◌∙◌, ◌≤◌, ◌+◌, ◌-◌, ◌++◌, ◌∷◌, [], Some, ap, length, slice_get, subst, sym, take, arith, length-append}
use Rattle.moos_post.specs.History.{name_of, posts_of, posts_of_entry}
use Rattle.moos_db.specs.Subscriptions.{IsPosted}
use Rattle.moos_db.specs.Places.{AreKept, inboxes_after}
use Rattle.moos_db.proofs.Batches.{IsPosting, forgotten-kept, found-origin, kept-below, kept-marks, next-post, posting-end, posting-next, posting-start, posts-next, ready-from}
use Rattle.moos_db.proofs.posting.post.Goals as goal

pub add_entry-requires-clause-below : goal.add_entry-requires-clause-below
add_entry-requires-clause-below c =
    let kept = c.requires.kept in
    kept-below (inboxes_after c.args.names.now c.args.log.now.entries) (posts_of c.args.log.now.entries) c.args.variables.now c.args.clients.now.items kept.kept

pub returns-in-Err-clause-same : goal.returns-in-Err-clause-same
returns-in-Err-clause-same c = c.in-Err.ensures.same

pub returns-in-Err-clause-kept : goal.returns-in-Err-clause-kept
returns-in-Err-clause-kept c =
    let names = c.args.names.now in
    let history = c.args.log.now.entries in
    let kept = c.requires.kept in
    let ready = c.add_entry.ensures.ready (inboxes_after names history) (posts_of history) (ready-from names history c.args.variables.now c.args.clients.now.items kept) in
    subst (λ entries. AreKept names entries c.forget.new.self c.add_entry.new.clients.items) (ap (λ log. log.entries) (sym c.in-Err.ensures.same))
    (subst (λ variables. AreKept names history variables c.add_entry.new.clients.items)
    (sym (c.forget.ensures ∙ ap (λ n. record c.add_entry.new.variables { noted = take n c.add_entry.new.variables.noted }) c.posts-first.ensures))
    (forgotten-kept names history c.add_entry.new.variables c.add_entry.new.clients.items kept.few (c.add_entry.ensures.each ∙ kept.each) ready))

pub loop-number-init : goal.loop-number-init
loop-number-init c =
    let names = c.args.names.now in
    let history = c.args.log.now.entries in
    let kept = c.requires.kept in
    let ready = c.add_entry.ensures.ready (inboxes_after names history) (posts_of history) (ready-from names history c.args.variables.now c.args.clients.now.items kept) in
    subst (λ done. IsPosting names history (posts_of_entry c.args.entry) done c.add_entry.new.variables c.add_entry.new.clients.items)
    (let e : 0 ≡ c.posts-first.result - c.posts-first.result = omega arith in e)
    (posting-start names history (posts_of_entry c.args.entry) c.add_entry.new.variables c.add_entry.new.clients.items (c.add_entry.ensures.each ∙ kept.each) ready
    (c.in_default.ensures.noted _ kept.noted) c.in_default.ensures.room)

pub mail-requires-clause-below : goal.mail-requires-clause-below
mail-requires-clause-below c = kept-below _ _ c.loop-number.variables c.loop-number.clients.items c.loop-number.invariant.stand

pub mail-requires-clause-marks : goal.mail-requires-clause-marks
mail-requires-clause-marks c = kept-marks _ _ c.loop-number.variables c.loop-number.clients.items c.loop-number.invariant.stand

pub loop-number-preserved : goal.loop-number-preserved
loop-number-preserved c =
    let names = c.args.names.now in
    let history = c.args.log.now.entries in
    let entry = c.args.entry in
    let number = c.loop-number.number in
    let entries : c.add_entry.new.log.entries ≡ history ++ entry ∷ [] = ap (λ log. log.entries) c.in_default.ensures.ok in
    let found = found-origin (posts_of c.add_entry.new.log.entries) number c.origin-origin.result c.origin-origin.ensures in
    let post = found.0 in
    let first : length (posts_of history) ≤ number = omega (arith, c.posts-first.ensures) in
    let at : number ≡ length (posts_of history) + (number - c.posts-first.result) = omega (arith, c.posts-first.ensures) in
    let next : slice_get (posts_of_entry entry) (number - c.posts-first.result) ≡ Some post =
    ap (λ n. slice_get (posts_of_entry entry) (number - n)) c.posts-first.ensures
    ∙ next-post history entry number post first (ap (λ h. slice_get (posts_of h) number) (sym entries) ∙ found.1) in
    let posted : IsPosted (length (posts_of history) + (number - c.posts-first.result)) post.stamp (name_of names post.source) c.loop-number.variables c.mail.new.self c.loop-number.clients.items c.mail.new.clients.items =
    subst (λ n. IsPosted n post.stamp (name_of names post.source) c.loop-number.variables c.mail.new.self c.loop-number.clients.items c.mail.new.clients.items) at
    (subst (λ stamp. IsPosted number stamp (name_of names post.source) c.loop-number.variables c.mail.new.self c.loop-number.clients.items c.mail.new.clients.items) (sym found.2)
    (subst (λ source. IsPosted number c.origin-origin.result.stamp source c.loop-number.variables c.mail.new.self c.loop-number.clients.items c.mail.new.clients.items)
    (c.source_of-source.ensures ∙ ap (name_of names) (sym found.3)) c.mail.ensures)) in
    subst (λ done. IsPosting names history (posts_of_entry entry) done c.mail.new.self c.mail.new.clients.items)
    (let e : number - c.posts-first.result + 1 ≡ number + 1 - c.posts-first.result = omega arith in e)
    (posting-next names history (posts_of_entry entry) (number - c.posts-first.result) c.loop-number.variables c.mail.new.self c.loop-number.clients.items c.mail.new.clients.items post
    c.loop-number.invariant next posted)

pub returns-clause-ok : goal.returns-clause-ok
returns-clause-ok c = c.in_default.ensures.ok

pub returns-clause-kept : goal.returns-clause-kept
returns-clause-kept c =
    let names = c.args.names.now in
    let history = c.args.log.now.entries in
    let entries : c.add_entry.new.log.entries ≡ history ++ c.args.entry ∷ [] = ap (λ log. log.entries) c.in_default.ensures.ok in
    let count : length (posts_of c.add_entry.new.log.entries) ≡ length (posts_of history) + length (posts_of_entry c.args.entry) =
    ap (λ h. length (posts_of h)) entries ∙ ap length (posts-next history c.args.entry) ∙ length-append (posts_of history) (posts_of_entry c.args.entry) in
    subst (λ h. AreKept names h c.loop-number.variables c.loop-number.clients.items) (sym entries)
    (posting-end names history c.args.entry (c.loop-number.number - c.posts-first.result) c.loop-number.variables c.loop-number.clients.items c.loop-number.invariant
    (omega (arith, count, c.posts-number-end.ensures, c.posts-first.ensures, c.loop-number-test.false)) c.requires.posts c.requires.kept.few)
