-- What a bridge has posted by a place of the second history.
use Rattle.std.proofs.Common.{◌≡◌, ℕ, ◌==◌, List, [], ◌∷◌, ◌++◌, append_assoc, map, refl, sym, ap, ◌∙◌}
use Rattle.std.proofs.lemmas.Grind.{flat_map-append}
use Rattle.std.proofs.lemmas.List.{map-append}
use Rattle.std.proofs.lemmas.List.Elements.{filter-append}
use Rattle.moos_client.specs.Calls.{entries_of}
use Rattle.moos_db.specs.Database.{letters_after, pair_posted}
use Rattle.moos_post.specs.History.{History, post_of, posts_of}
use Rattle.moos_bridged.proofs.Mailed.{mailed_is}
use Rattle.moos_bridged.specs.Fronts.{HasCarriedFront}
use Rattle.moos_share.specs.Bridged.{bridge_number, fetches_on, IsBridged, names_bridged, shared_entry}
use Rattle.moos_share.specs.declared.rule.Rule.{Rule}
use Rattle.moos_share.specs.Fetches.{letters_fetched, MailedFetch, pairs_posted, post_entry}
use Rattle.moos_share.specs.Renaming.{carried_by, renamed, rule_for}
use Rattle.moos_post.specs.declared.value.Pair.{Pair}
use Rattle.script_reader.specs.declared.script.Order.{Order}
use Rattle.script_reader.specs.declared.script.Script.{Script}
use Rattle.turn_lock.specs.Passes.{Begins}

-- the front of a list of images is one of images
record IsFrontOf {X Y : Type 0} (f : X → Y) (xs : List X) (ys : List Y) : Type 0 where
  some : List X
  more : List X
  is : xs ≡ some ++ more
  images : ys ≡ map f some

front_of : {X Y : Type 0} (f : X → Y) (xs : List X) (ys zs : List Y) → ys ++ zs ≡ map f xs → IsFrontOf f xs ys
front_of f xs [] zs is = record { some = []; more = xs; is = refl; images = refl }
front_of f [] (y ∷ ys) zs is = absurd cc
front_of f (x ∷ xs) (y ∷ ys) zs is =
    let first : y ≡ f x = cc in
    let later : ys ++ zs ≡ map f xs = cc in
    let rest = front_of f xs ys zs later in
    record { some = x ∷ rest.some; more = rest.more; is = ap (λ xs. x ∷ xs) rest.is; images = (λ i. first i ∷ rest.images i) }

-- the pairs of a batch are those of its posts
batch_pairs : (stamp client : ℕ) (batch : List Pair) → map pair_posted (map (post_of stamp client) batch) ≡ batch
batch_pairs stamp client [] = refl
batch_pairs stamp client (pair ∷ batch) = ap (λ more. pair ∷ more) (batch_pairs stamp client batch)

-- what posts of fetches post
pub pairs_shared : (names : List (List ℕ)) (rules : List Rule) (client : ℕ) (fetches : List MailedFetch) → pairs_posted (map (post_entry names rules client) fetches) ≡ renamed names rules (letters_fetched fetches)
pairs_shared names rules client [] = refl
pairs_shared names rules client (one ∷ fetches) =
    map-append pair_posted (map (post_of one.stamp client) (renamed names rules one.mail)) (posts_of (map (post_entry names rules client) fetches))
    ∙ (λ i. batch_pairs one.stamp client (renamed names rules one.mail) i ++ pairs_shared names rules client fetches i)
    ∙ sym (flat_map-append (λ letter. carried_by letter.post (rule_for names rules letter.post)) one.mail (letters_fetched fetches))

pub carried_front : (order : Order) (first second : Script) (rules : List Rule) (one two front : History) → IsBridged order first second rules one two → Begins two front → HasCarriedFront first second rules one front
carried_front order first second rules one two front bridged begins = record {
  letters = letters_fetched split.some;
  some = (
    letters_fetched split.more ++ letters_after names (bridge_number first) one,
    mailed_is names (bridge_number first) one
        ∙ ap (λ fetches. letters_fetched fetches ++ letters_after names (bridge_number first) one) split.is
        ∙ ap (λ letters. letters ++ letters_after names (bridge_number first) one) (flat_map-append (λ (one : MailedFetch). one.mail) split.some split.more)
        ∙ append_assoc (letters_fetched split.some) (letters_fetched split.more) (letters_after names (bridge_number first) one),
  );
  posted = ap pairs_posted split.images ∙ pairs_shared names rules n split.some;
}
  where
    names : List (List ℕ)
    names = names_bridged first

    n : ℕ
    n = bridge_number second

    split : IsFrontOf (shared_entry first second rules) (fetches_on first one) (entries_of n front)
    split = front_of (shared_entry first second rules) (fetches_on first one) (entries_of n front) (entries_of n begins.0)
        (sym (filter-append (λ entry. entry.client == n) front begins.0) ∙ ap (entries_of n) (sym begins.1) ∙ bridged.posted)
