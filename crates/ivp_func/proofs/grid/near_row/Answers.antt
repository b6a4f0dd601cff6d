use Rattle.std.proofs.Common.{◌<◌, List, ℕ, length, sym, subst}
use Rattle.std.specs.List.{All}
use Rattle.ivp_func.proofs.Meetings.{numbers_below}
use Rattle.ivp_func.proofs.grid.near_row.Goals as goal

pub with_meeting-requires : goal.with_meeting-requires
with_meeting-requires c =
    let count = length c.args.pieces.now in
    subst (λ (all : List ℕ). All (λ number. number < count) all) (sym c.requires.all) (numbers_below count)
