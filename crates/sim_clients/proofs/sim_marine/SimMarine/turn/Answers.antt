-- The latest numbers are those of all mails, and so is where the vehicle is by them.
use Rattle.std.proofs.Common.{◌≡◌, ◌++◌, ◌∷◌, [], ◌∙◌, List, sym, subst}
use Rattle.std.specs.Prelude.{codes, IfOk}
use Rattle.moos_post.specs.declared.value.Pair.{Pair}
use Rattle.sim_vehicle.specs.declared.hull.Hull.{Hull}
use Rattle.sim_vehicle.specs.Motion.{hull_after}
use Rattle.sim_clients.proofs.Hearing.{hull_next, number_more}
use Rattle.sim_clients.specs.Clients.{hull_by, hull_pairs}
use Rattle.sim_clients.specs.Keeping.{pairs_in_mail}
use Rattle.sim_clients.proofs.sim_marine.SimMarine.turn.Goals as goal

pub returns-clause-after : goal.returns-clause-after
returns-clause-after c = λ mails is.
    let craft = c.args.craft.now in
    let said = pairs_in_mail c.args.mail.now in
    let old = c.args.self.now in
    let rudder = c.hear.ensures.rudder ∙ number_more (codes "DESIRED_RUDDER") mails said old.rudder is.rudder in
    let thrust = c.hear.ensures.thrust ∙ number_more (codes "DESIRED_THRUST") mails said old.thrust is.thrust in
    let want_depth = c.hear.ensures.want_depth ∙ number_more (codes "DESIRED_DEPTH") mails said old.want_depth is.want_depth in
    record {
      hull = c.advance-self.ensures.value
          ∙ (λ j. hull_after craft ((c.hear.ensures.hull ∙ is.hull) j) ((c.thousandths.ensures.value ∙ rudder) j) ((c.thousandths-2.ensures.value ∙ thrust) j) ((c.thousandths-3.ensures.value ∙ want_depth) j) c.args.period)
          ∙ sym (hull_next craft c.args.period mails said);
      within = c.advance-self.ensures.hull;
      rudder = rudder;
      thrust = thrust;
      want_depth = want_depth;
    }

pub returns-clause-said : goal.returns-clause-said
returns-clause-said c = λ mails is.
    let craft = c.args.craft.now in
    let said = pairs_in_mail c.args.mail.now in
    let moved : c.advance-self.result ≡ hull_by craft c.args.period (mails ++ said ∷ []) = (returns-clause-after c mails is).hull in
    subst (λ (hull : Hull). IfOk c.hull_pairs.result (λ (batch : List Pair). batch ≡ hull_pairs hull)) moved c.hull_pairs.ensures
