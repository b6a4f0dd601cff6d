use Rattle.std.proofs.Common.{◌+◌, ◌++◌, ◌∷◌, [], ap, append_assoc, map, sym, ◌∙◌, arith}
use Rattle.std.specs.List.{range_with_len}
use Rattle.std.proofs.lemmas.List.FromFn.{map-range_with_len_more}
use Rattle.moos_db.specs.Places.{place_at}
use Rattle.moos_db.proofs.log.push_places.Goals as goal

pub loop-pair-preserved : goal.loop-pair-preserved
loop-pair-preserved c =
    let entry = c.args.entry in
    let pair = c.loop-pair.pair in
    let old = c.args.places.now.items in
    record {
      items =
          c.push_reserved.ensures.items
          ∙ ap (λ places. places ++ place_at entry pair ∷ []) c.loop-pair.invariant.items
          ∙ append_assoc old (map (place_at entry) (range_with_len 0 pair)) (place_at entry pair ∷ [])
          ∙ ap (λ more. old ++ more) (sym (map-range_with_len_more (place_at entry) 0 pair pair (omega arith)));
      len = c.push_reserved.ensures.len ∙ ap (λ n. n + 1) c.loop-pair.invariant.len ∙ omega arith;
      capacity = c.push_reserved.ensures.capacity ∙ c.loop-pair.invariant.capacity;
    }
