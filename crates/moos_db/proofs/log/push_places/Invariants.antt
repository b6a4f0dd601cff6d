use Rattle.std.proofs.Common.{◌≡◌, ◌+◌, ◌++◌, map, vec_capacity, vec_len}
use Rattle.std.specs.List.{range_with_len}
use Rattle.moos_db.specs.Places.{place_at}
use Rattle.moos_db.proofs.log.push_places.Given as goal

abbrev pub invariant-loop-pair : goal.invariant-loop-pair
invariant-loop-pair l = record {
  items : l.places.items ≡ l.initial.places.items ++ map (place_at l.entry) (range_with_len 0 l.pair);
  len : vec_len l.places ≡ vec_len l.initial.places + l.pair;
  capacity : vec_capacity l.places ≡ vec_capacity l.initial.places;
}
