use Rattle.std.proofs.Common.{◌≡◌, ◌<◌, ◌∙◌, length, ap, sym, subst, Some, option_map, slice_get, rules}
use Rattle.moos_post.specs.History.{posts_of}
use Rattle.moos_db.specs.Database.{origin_of, pair_posted}
use Rattle.moos_db.specs.Places.{LogState}
use Rattle.moos_db.proofs.Standing.{stands, stands-within, stands-origin, stands-pair, stands-post}
use Rattle.moos_db.proofs.log.Log.post.Goals as goal

pub index-entry-requires : goal.index-entry-requires
index-entry-requires c =
    let below : c.args.number < length (posts_of c.self.inside.entries.items) = subst (λ (v : LogState). c.args.number < length (posts_of v.entries)) (sym c.self.view_is) c.requires in
    let within : c.index-place.result.now.entry < length c.self.inside.entries.items = stands-within _ _ _ (stands _ _ _ _ _ c.self.invariant below c.index-place.ensures) in
    search rules

pub pair_in-requires : goal.pair_in-requires
pair_in-requires c =
    let below : c.args.number < length (posts_of c.self.inside.entries.items) = subst (λ (v : LogState). c.args.number < length (posts_of v.entries)) (sym c.self.view_is) c.requires in
    stands-pair _ _ _ _ (stands _ _ _ _ _ c.self.invariant below c.index-place.ensures) c.index-entry.ensures

pub returns-clause-pair : goal.returns-clause-pair
returns-clause-pair c =
    let below : c.args.number < length (posts_of c.self.inside.entries.items) = subst (λ (v : LogState). c.args.number < length (posts_of v.entries)) (sym c.self.view_is) c.requires in
    let Told : LogState → Type 0 = λ v. option_map pair_posted (slice_get (posts_of v.entries) c.args.number) ≡ Some c.pair_in.result.now in
    subst Told c.self.view_is (ap (option_map pair_posted) (stands-post _ _ _ _ (stands _ _ _ _ _ c.self.invariant below c.index-place.ensures) c.index-entry.ensures) ∙ c.pair_in.ensures)

pub returns-clause-origin : goal.returns-clause-origin
returns-clause-origin c =
    let below : c.args.number < length (posts_of c.self.inside.entries.items) = subst (λ (v : LogState). c.args.number < length (posts_of v.entries)) (sym c.self.view_is) c.requires in
    let Told : LogState → Type 0 = λ v. option_map origin_of (slice_get (posts_of v.entries) c.args.number) ≡ Some (record { stamp = c.index-entry.result.now.stamp; client = c.index-entry.result.now.client }) in
    subst Told c.self.view_is (stands-origin _ _ _ _ (stands _ _ _ _ _ c.self.invariant below c.index-place.ensures) c.index-entry.ensures)
