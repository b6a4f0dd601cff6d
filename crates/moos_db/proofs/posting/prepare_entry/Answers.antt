use Rattle.std.proofs.Common.{◌≡◌, ◌∙◌, ◌++◌, List, [], ◌∷◌, ℕ, OnOk, ap, length, map, refl, sym, subst}
use Rattle.std.proofs.lemmas.List.{length-map}
use Rattle.moos_post.specs.declared.entry.Call.{Call}
use Rattle.moos_post.specs.declared.entry.Call.TheVariants.{Post as Posts}
use Rattle.moos_post.specs.declared.value.Pair.{Pair}
use Rattle.moos_post.specs.declared.value.Post.{Post}
use Rattle.moos_post.specs.History.{post_of, posts_of_call}
use Rattle.moos_db.specs.Subscriptions.{AreNoted, HaveLetterRoom}
use Rattle.moos_db.proofs.posting.prepare_entry.Goals as goal

-- the variables of a batch's posts, and how many these are
vars-of : (stamp client : ℕ) (pairs : List Pair) → map (λ (pair : Pair). pair.var) pairs ≡ map (λ (post : Post). post.var) (map (post_of stamp client) pairs)
vars-of stamp client [] = refl
vars-of stamp client (pair ∷ pairs) = ap (λ vars. pair.var ∷ vars) (vars-of stamp client pairs)

vars-of_entry : (stamp client : ℕ) (call : Call) (batch pairs : List Pair) → call ≡ Posts batch → pairs ≡ batch → map (λ (pair : Pair). pair.var) pairs ≡ map (λ (post : Post). post.var) (posts_of_call stamp client call)
vars-of_entry stamp client call batch pairs is are = ap (map (λ (pair : Pair). pair.var)) are ∙ vars-of stamp client batch ∙ ap (λ one. map (λ (post : Post). post.var) (posts_of_call stamp client one)) (sym is)

count-of_entry : (stamp client : ℕ) (call : Call) (batch pairs : List Pair) → call ≡ Posts batch → pairs ≡ batch → length pairs ≡ length (posts_of_call stamp client call)
count-of_entry stamp client call batch pairs is are = ap length are ∙ sym (length-map batch (post_of stamp client)) ∙ ap (λ one. length (posts_of_call stamp client one)) (sym is)

pub returns-in-Post-clause-noted : goal.returns-in-Post-clause-noted
returns-in-Post-clause-noted c vars noted =
    subst (λ more. OnOk c.prepare.result (AreNoted (vars ++ more) c.prepare.new.variables))
    (vars-of_entry c.args.entry.now.stamp c.args.entry.now.client c.args.entry.now.call c.in-Post.batch c.all.result.now c.in-Post.is c.all.ensures)
    (c.prepare.ensures.noted vars noted)

pub returns-in-Post-clause-room : goal.returns-in-Post-clause-room
returns-in-Post-clause-room c =
    subst (λ more. OnOk c.prepare.result (HaveLetterRoom c.prepare.new.clients.items c.prepare.new.variables c.args.first more))
    (count-of_entry c.args.entry.now.stamp c.args.entry.now.client c.args.entry.now.call c.in-Post.batch c.all.result.now c.in-Post.is c.all.ensures)
    c.prepare.ensures.room
