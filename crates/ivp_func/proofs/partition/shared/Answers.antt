use Rattle.std.proofs.Common.{◌≡◌, sym, ap, ◌∙◌, arith}
use Rattle.ivp_domain.specs.Boxes.{common, volume_of}
use Rattle.ivp_func.proofs.Cover.{common_of, none_of, shared_with-le, shared_with-none}
use Rattle.ivp_func.proofs.partition.shared.Goals as goal

pub volume-requires-clause-fits : goal.volume-requires-clause-fits
volume-requires-clause-fits c =
    let e : c.in-Some.both ≡ common c.args.area.now c.args.piece.now.area = common_of c.args.area.now c.args.piece.now.area c.in-Some.both c.in-Some.ensures.exact in
    let same : volume_of c.in-Some.both ≡ volume_of (common c.args.area.now c.args.piece.now.area) = ap volume_of e in
    omega (arith, same, shared_with-le c.args.area.now c.args.piece.now, c.requires.few)

pub returns-in-Some-clause-shared : goal.returns-in-Some-clause-shared
returns-in-Some-clause-shared c = c.volume.ensures.sides ∙ ap volume_of (common_of c.args.area.now c.args.piece.now.area c.in-Some.both c.in-Some.ensures.exact)

pub returns-in-Some-clause-within : goal.returns-in-Some-clause-within
returns-in-Some-clause-within c =
    let same = c.volume.ensures.sides ∙ ap volume_of (common_of c.args.area.now c.args.piece.now.area c.in-Some.both c.in-Some.ensures.exact) in
    omega (arith, same, shared_with-le c.args.area.now c.args.piece.now, c.requires.few)

pub returns-in-None-clause-shared : goal.returns-in-None-clause-shared
returns-in-None-clause-shared c = sym (shared_with-none c.args.area.now c.args.piece.now (none_of c.args.area.now c.args.piece.now.area c.in-None.ensures.exact))
