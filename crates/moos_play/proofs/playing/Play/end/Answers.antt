use Rattle.std.proofs.Common.{◌∙◌, ap}
use Rattle.moos_play.specs.Plays.{clients_in, history_in}
use Rattle.moos_play.proofs.Showing.{has_seats}
use Rattle.moos_play.proofs.playing.Play.end.Goals as goal

pub close-db-requires : goal.close-db-requires
close-db-requires c = has_seats c.self.inside.run c.self.inside.whole c.args.self c.self.view_is c.self.invariant.0 c.requires

pub returns-clause-names : goal.returns-clause-names
returns-clause-names c = c.close-db.ensures.names ∙ ap clients_in c.self.view_is

pub returns-clause-history : goal.returns-clause-history
returns-clause-history c = c.close-db.ensures.history ∙ ap history_in c.self.view_is
