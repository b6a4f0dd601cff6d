use Rattle.std.proofs.Common.{subst, arith}
use Rattle.ivp_func.specs.Cuts.{AreCuts}
use Rattle.ivp_func.proofs.Cutting.{cell_of, cells_few}
use Rattle.ivp_func.proofs.cuts.Cuts.cell_at.Goals as goal

pub overflow_mul-two : goal.overflow_mul-two
overflow_mul-two c =
    let cuts = subst (λ axes. AreCuts axes c.self.inside.last c.self.inside.run c.self.inside.runs c.self.inside.reciprocals) c.self.view_is c.self.invariant in
    let of = cell_of c.args.self.now c.args.point.now c.requires in
    let few = cells_few c.args.self.now cuts.points in
    rw (cuts.count, c.run_at.ensures) (omega (arith, of.two, few.0))

pub overflow_add-two : goal.overflow_add-two
overflow_add-two c =
    let cuts = subst (λ axes. AreCuts axes c.self.inside.last c.self.inside.run c.self.inside.runs c.self.inside.reciprocals) c.self.view_is c.self.invariant in
    let of = cell_of c.args.self.now c.args.point.now c.requires in
    let few = cells_few c.args.self.now cuts.points in
    rw (cuts.count, c.run_at.ensures, c.run_at-2.ensures) (omega (arith, of.two, few.0))

pub overflow_mul-three : goal.overflow_mul-three
overflow_mul-three c =
    let cuts = subst (λ axes. AreCuts axes c.self.inside.last c.self.inside.run c.self.inside.runs c.self.inside.reciprocals) c.self.view_is c.self.invariant in
    let of = cell_of c.args.self.now c.args.point.now c.requires in
    let few = cells_few c.args.self.now cuts.points in
    rw (cuts.count, c.run_at.ensures, c.run_at-2.ensures) (omega (arith, of.three, few.1))

pub overflow_add-three : goal.overflow_add-three
overflow_add-three c =
    let cuts = subst (λ axes. AreCuts axes c.self.inside.last c.self.inside.run c.self.inside.runs c.self.inside.reciprocals) c.self.view_is c.self.invariant in
    let of = cell_of c.args.self.now c.args.point.now c.requires in
    let few = cells_few c.args.self.now cuts.points in
    rw (cuts.count, c.run_at.ensures, c.run_at-2.ensures, c.run_at-3.ensures) (omega (arith, of.three, few.1))

pub overflow_mul-result : goal.overflow_mul-result
overflow_mul-result c =
    let cuts = subst (λ axes. AreCuts axes c.self.inside.last c.self.inside.run c.self.inside.runs c.self.inside.reciprocals) c.self.view_is c.self.invariant in
    let of = cell_of c.args.self.now c.args.point.now c.requires in
    let few = cells_few c.args.self.now cuts.points in
    rw (cuts.count, c.run_at.ensures, c.run_at-2.ensures, c.run_at-3.ensures) (omega (arith, of.within, few.2))

pub overflow_add-result : goal.overflow_add-result
overflow_add-result c =
    let cuts = subst (λ axes. AreCuts axes c.self.inside.last c.self.inside.run c.self.inside.runs c.self.inside.reciprocals) c.self.view_is c.self.invariant in
    let of = cell_of c.args.self.now c.args.point.now c.requires in
    let few = cells_few c.args.self.now cuts.points in
    rw (cuts.count, c.run_at.ensures, c.run_at-2.ensures, c.run_at-3.ensures, c.run_at-4.ensures) (omega (arith, of.within, few.2))

pub returns-clause-within : goal.returns-clause-within
returns-clause-within c =
    let cuts = subst (λ axes. AreCuts axes c.self.inside.last c.self.inside.run c.self.inside.runs c.self.inside.reciprocals) c.self.view_is c.self.invariant in
    let of = cell_of c.args.self.now c.args.point.now c.requires in
    let few = cells_few c.args.self.now cuts.points in
    rw (cuts.count, c.run_at.ensures, c.run_at-2.ensures, c.run_at-3.ensures, c.run_at-4.ensures) (of.within)
