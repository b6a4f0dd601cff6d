use Rattle.std.proofs.Common.{◌∙◌, ◌++◌, ◌∷◌, [], ap, append_assoc, length, map, sym, subst, take}
use Rattle.std.proofs.lemmas.List.{map_more}
use Rattle.moos_db.specs.Subscriptions.{HearBelow, AreNoted, AreReady}
use Rattle.moos_db.proofs.Rooms.{alike-ready}
use Rattle.moos_db.proofs.posting.prepare.Goals as goal

pub returns-in_err-note-clause-ready : goal.returns-in_err-note-clause-ready
returns-in_err-note-clause-ready c inboxes posts ready =
    subst (AreReady inboxes posts c.note.new.self) c.as_slice.ensures.value
    (c.note.ensures.ready inboxes posts (subst (AreReady inboxes posts c.loop-pair.variables) (sym c.as_slice.ensures.value) (c.loop-pair.invariant.ready inboxes posts ready)))

pub loop-pair-preserved : goal.loop-pair-preserved
loop-pair-preserved c = record {
  ready = λ inboxes posts ready.
      subst (AreReady inboxes posts c.note.new.self) c.as_slice.ensures.value
      (c.note.ensures.ready inboxes posts (subst (AreReady inboxes posts c.loop-pair.variables) (sym c.as_slice.ensures.value) (c.loop-pair.invariant.ready inboxes posts ready)));
  noted = λ vars noted.
      subst (λ more. AreNoted more c.note.new.self)
      (append_assoc vars (map (λ pair. pair.var) (take c.loop-pair.pair-index c.args.pairs.now)) (c.pair-item.result.var ∷ [])
      ∙ ap (λ more. vars ++ more)
      (ap (λ pair. map (λ pair. pair.var) (take c.loop-pair.pair-index c.args.pairs.now) ++ pair.var ∷ []) c.pair-item.is
      ∙ sym (map_more (λ pair. pair.var) c.args.pairs.now c.loop-pair.pair-index c.pair-item.result c.loop-pair-test.true)))
      (c.in_ok-note.ensures.noted (vars ++ map (λ pair. pair.var) (take c.loop-pair.pair-index c.args.pairs.now)) (c.loop-pair.invariant.noted vars noted));
  below =
      subst (λ clients. HearBelow (length clients) c.note.new.self.all) c.as_slice.ensures.value
      (c.note.ensures.below (subst (λ clients. HearBelow (length clients) c.loop-pair.variables.all) (sym c.as_slice.ensures.value) c.loop-pair.invariant.below));
}

pub returns-clause-ready : goal.returns-clause-ready
returns-clause-ready c inboxes posts ready = alike-ready inboxes posts c.loop-pair.variables c.args.clients.now.items c.make_room.new.clients.items c.make_room.ensures.alike (c.loop-pair.invariant.ready inboxes posts ready)
