use Rattle.std.proofs.Common.{◌≡◌, ℕ, true, ◌^◌, ◌<◌, ◌≤◌, List, map, length, sym, ◌∙◌, ap, subst, arith}
use Rattle.ivp_domain.specs.declared.axis.Axis.{Axis}
use Rattle.ivp_domain.proofs.Sizes.{four_axes}
use Rattle.ivp_func.specs.declared.piece.Piece.{Piece}
use Rattle.ivp_func.specs.Functions.{Function, IsFunction}
use Rattle.ivp_func.specs.Pieces.{value_at}
use Rattle.ivp_build.specs.declared.profile.Profile.{Profile}
use Rattle.ivp_build.specs.Builders.{piece_over, pieces_along}
use Rattle.ivp_build.specs.Ends.{cut_ends, runs_by}
use Rattle.ivp_build.specs.Shapes.{IsProfileOf}
use Rattle.ivp_build.proofs.Lawful.{Fits, along_function, by_ends, few_pieces, fits, value}
use Rattle.ivp_build.proofs.along.func_along.Goals as goal
use Rattle.ivp_domain.specs.Domains.{is_domain, size_on}

-- the pieces that were made are the shape's
made : (axes : List Axis) (number count : ℕ) (p : Profile) (ends : List ℕ) (pieces : List Piece) → Fits axes number p → count ≡ size_on number axes → ends ≡ cut_ends p.slopes count p.crest
    → pieces ≡ map (piece_over axes number p) (runs_by 0 ends) → pieces ≡ pieces_along axes number p
made axes number count p ends pieces h e e' e'' =
    e'' ∙ ap (λ es. map (piece_over axes number p) (runs_by 0 es)) (e' ∙ ap (λ n. cut_ends p.slopes n p.crest) e) ∙ by_ends axes number p h

ready : (axes : List Axis) (number count : ℕ) (p : Profile) → count ≡ size_on number axes → is_domain axes ≡ true → number < length axes → count ≤ 2 ^ 28
    → IsProfileOf (size_on number axes) p → Fits axes number p
ready axes number count p e lawful listed few h = fits axes number p lawful listed (omega arith) h

pub ends-requires-clause-profile : goal.ends-requires-clause-profile
ends-requires-clause-profile c = subst (λ count. IsProfileOf count c.args.profile.now) (sym c.axis_on-count.ensures.count) c.requires.profile

pub pieces_by-requires-clause-axis : goal.pieces_by-requires-clause-axis
pieces_by-requires-clause-axis c = let four = four_axes c.args.domain.now c.axis_on-count.ensures.lawful in omega (arith, c.requires.axis)

pub pieces_by-requires-clause-profile : goal.pieces_by-requires-clause-profile
pieces_by-requires-clause-profile c = subst (λ count. IsProfileOf count c.args.profile.now) (sym c.axis_on-count.ensures.count) c.requires.profile

pub pieces_by-requires-clause-within : goal.pieces_by-requires-clause-within
pieces_by-requires-clause-within c = c.ends.ensures.within

pub of_pieces-requires : goal.of_pieces-requires
of_pieces-requires c =
    let h = ready c.args.domain.now c.args.axis c.axis_on-count.result.points c.args.profile.now c.axis_on-count.ensures.count c.axis_on-count.ensures.lawful c.requires.axis c.axis_on-count.ensures.few c.requires.profile in
    let same = made c.args.domain.now c.args.axis c.axis_on-count.result.points c.args.profile.now c.ends.result c.in_ok-pieces.pieces.items h c.axis_on-count.ensures.count c.ends.ensures.ends
    c.in_ok-pieces.ensures in
    subst (λ pieces. IsFunction (record { axes = c.args.domain.now; pieces = pieces })) (sym same) (along_function c.args.domain.now c.args.axis c.args.profile.now c.axis_on-count.ensures.lawful h)

pub returns-clause-pieces : goal.returns-clause-pieces
returns-clause-pieces c =
    let h = ready c.args.domain.now c.args.axis c.axis_on-count.result.points c.args.profile.now c.axis_on-count.ensures.count c.axis_on-count.ensures.lawful c.requires.axis c.axis_on-count.ensures.few c.requires.profile in
    let same = made c.args.domain.now c.args.axis c.axis_on-count.result.points c.args.profile.now c.ends.result c.in_ok-pieces.pieces.items h c.axis_on-count.ensures.count c.ends.ensures.ends
    c.in_ok-pieces.ensures in
    c.in_ok-func.ensures ∙ ap (λ pieces. record { axes = c.args.domain.now; pieces = pieces }) same

pub returns-clause-value : goal.returns-clause-value
returns-clause-value c p inside =
    let h = ready c.args.domain.now c.args.axis c.axis_on-count.result.points c.args.profile.now c.axis_on-count.ensures.count c.axis_on-count.ensures.lawful c.requires.axis c.axis_on-count.ensures.few c.requires.profile in
    let same = made c.args.domain.now c.args.axis c.axis_on-count.result.points c.args.profile.now c.ends.result c.in_ok-pieces.pieces.items h c.axis_on-count.ensures.count c.ends.ensures.ends
    c.in_ok-pieces.ensures in
    ap (λ func. value_at func.pieces p) c.in_ok-func.ensures ∙ ap (λ pieces. value_at pieces p) same ∙ value c.args.domain.now c.args.axis c.args.profile.now h p inside

pub returns-clause-few : goal.returns-clause-few
returns-clause-few c =
    let h = ready c.args.domain.now c.args.axis c.axis_on-count.result.points c.args.profile.now c.axis_on-count.ensures.count c.axis_on-count.ensures.lawful c.requires.axis c.axis_on-count.ensures.few c.requires.profile in
    let same = made c.args.domain.now c.args.axis c.axis_on-count.result.points c.args.profile.now c.ends.result c.in_ok-pieces.pieces.items h c.axis_on-count.ensures.count c.ends.ensures.ends
    c.in_ok-pieces.ensures in
    subst (λ (func : Function). length func.pieces ≤ 9) (sym (c.in_ok-func.ensures ∙ ap (λ pieces. record { axes = c.args.domain.now; pieces = pieces }) same)) (few_pieces c.args.domain.now c.args.axis c.args.profile.now h)
