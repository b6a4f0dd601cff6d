use Rattle.std.proofs.Common.{subst}
use Rattle.ivp_func.specs.Cuts.{AreCuts}
use Rattle.ivp_func.proofs.Cutting.{cell_runs, runs_some}
use Rattle.ivp_func.proofs.cuts.Cuts.cell_box.Goals as goal

pub nonzero_div-one : goal.nonzero_div-one
nonzero_div-one c =
    let cuts = subst (λ axes. AreCuts axes c.self.inside.last c.self.inside.run c.self.inside.runs c.self.inside.reciprocals) c.self.view_is c.self.invariant in
    rw cuts.count (runs_some c.args.self.now 3)

pub nonzero_div-one-2 : goal.nonzero_div-one-2
nonzero_div-one-2 c =
    let cuts = subst (λ axes. AreCuts axes c.self.inside.last c.self.inside.run c.self.inside.runs c.self.inside.reciprocals) c.self.view_is c.self.invariant in
    rw cuts.count (runs_some c.args.self.now 2)

pub nonzero_div-one-3 : goal.nonzero_div-one-3
nonzero_div-one-3 c =
    let cuts = subst (λ axes. AreCuts axes c.self.inside.last c.self.inside.run c.self.inside.runs c.self.inside.reciprocals) c.self.view_is c.self.invariant in
    rw cuts.count (runs_some c.args.self.now 1)

pub nonzero_div-two : goal.nonzero_div-two
nonzero_div-two c =
    let cuts = subst (λ axes. AreCuts axes c.self.inside.last c.self.inside.run c.self.inside.runs c.self.inside.reciprocals) c.self.view_is c.self.invariant in
    rw cuts.count (runs_some c.args.self.now 3)

pub nonzero_div-two-2 : goal.nonzero_div-two-2
nonzero_div-two-2 c =
    let cuts = subst (λ axes. AreCuts axes c.self.inside.last c.self.inside.run c.self.inside.runs c.self.inside.reciprocals) c.self.view_is c.self.invariant in
    rw cuts.count (runs_some c.args.self.now 2)

pub nonzero_rem-two : goal.nonzero_rem-two
nonzero_rem-two c =
    let cuts = subst (λ axes. AreCuts axes c.self.inside.last c.self.inside.run c.self.inside.runs c.self.inside.reciprocals) c.self.view_is c.self.invariant in
    rw cuts.count (runs_some c.args.self.now 1)

pub nonzero_div-three : goal.nonzero_div-three
nonzero_div-three c =
    let cuts = subst (λ axes. AreCuts axes c.self.inside.last c.self.inside.run c.self.inside.runs c.self.inside.reciprocals) c.self.view_is c.self.invariant in
    rw cuts.count (runs_some c.args.self.now 3)

pub nonzero_rem-three : goal.nonzero_rem-three
nonzero_rem-three c =
    let cuts = subst (λ axes. AreCuts axes c.self.inside.last c.self.inside.run c.self.inside.runs c.self.inside.reciprocals) c.self.view_is c.self.invariant in
    rw cuts.count (runs_some c.args.self.now 2)

pub nonzero_rem-four : goal.nonzero_rem-four
nonzero_rem-four c =
    let cuts = subst (λ axes. AreCuts axes c.self.inside.last c.self.inside.run c.self.inside.runs c.self.inside.reciprocals) c.self.view_is c.self.invariant in
    rw cuts.count (runs_some c.args.self.now 3)

pub low-requires-clause-run : goal.low-requires-clause-run
low-requires-clause-run c =
    let cuts = subst (λ axes. AreCuts axes c.self.inside.last c.self.inside.run c.self.inside.runs c.self.inside.reciprocals) c.self.view_is c.self.invariant in
    rw cuts.count ((cell_runs c.args.self.now c.args.cell c.requires).0)

pub low-requires-2-clause-run : goal.low-requires-2-clause-run
low-requires-2-clause-run c =
    let cuts = subst (λ axes. AreCuts axes c.self.inside.last c.self.inside.run c.self.inside.runs c.self.inside.reciprocals) c.self.view_is c.self.invariant in
    rw cuts.count ((cell_runs c.args.self.now c.args.cell c.requires).1)

pub low-requires-3-clause-run : goal.low-requires-3-clause-run
low-requires-3-clause-run c =
    let cuts = subst (λ axes. AreCuts axes c.self.inside.last c.self.inside.run c.self.inside.runs c.self.inside.reciprocals) c.self.view_is c.self.invariant in
    rw cuts.count ((cell_runs c.args.self.now c.args.cell c.requires).2)

pub low-requires-4-clause-run : goal.low-requires-4-clause-run
low-requires-4-clause-run c =
    let cuts = subst (λ axes. AreCuts axes c.self.inside.last c.self.inside.run c.self.inside.runs c.self.inside.reciprocals) c.self.view_is c.self.invariant in
    rw cuts.count ((cell_runs c.args.self.now c.args.cell c.requires).3)

pub high-requires-clause-run : goal.high-requires-clause-run
high-requires-clause-run c =
    let cuts = subst (λ axes. AreCuts axes c.self.inside.last c.self.inside.run c.self.inside.runs c.self.inside.reciprocals) c.self.view_is c.self.invariant in
    rw cuts.count ((cell_runs c.args.self.now c.args.cell c.requires).0)

pub high-requires-2-clause-run : goal.high-requires-2-clause-run
high-requires-2-clause-run c =
    let cuts = subst (λ axes. AreCuts axes c.self.inside.last c.self.inside.run c.self.inside.runs c.self.inside.reciprocals) c.self.view_is c.self.invariant in
    rw cuts.count ((cell_runs c.args.self.now c.args.cell c.requires).1)

pub high-requires-3-clause-run : goal.high-requires-3-clause-run
high-requires-3-clause-run c =
    let cuts = subst (λ axes. AreCuts axes c.self.inside.last c.self.inside.run c.self.inside.runs c.self.inside.reciprocals) c.self.view_is c.self.invariant in
    rw cuts.count ((cell_runs c.args.self.now c.args.cell c.requires).2)

pub high-requires-4-clause-run : goal.high-requires-4-clause-run
high-requires-4-clause-run c =
    let cuts = subst (λ axes. AreCuts axes c.self.inside.last c.self.inside.run c.self.inside.runs c.self.inside.reciprocals) c.self.view_is c.self.invariant in
    rw cuts.count ((cell_runs c.args.self.now c.args.cell c.requires).3)
