-- The history of a database: its entries in order, and the posts that they make.
use Rattle.std.specs.Prelude.{ℕ, List, [], map, flat_map, slice_index_or}
use Rattle.moos_post.specs.declared.entry.Call.{Call}
use Rattle.moos_post.specs.declared.entry.Call.TheVariants.{Register, Unregister, Post as Posts, Fetch}
use Rattle.moos_post.specs.declared.entry.Entry.{Entry}
use Rattle.moos_post.specs.declared.value.Pair.{Pair}
use Rattle.moos_post.specs.declared.value.Post.{Post}

-- a database's history: what was asked of it, in the order in which it took effect
abbrev pub History : Type 0
History = List Entry

-- a pair as a post of this client, made at this time
abbrev pub post_of : ℕ → ℕ → Pair → Post
post_of stamp client pair = record { stamp = stamp; source = client; var = pair.var; value = pair.value }

-- the posts that a call makes: a batch's, in its own order
abbrev pub posts_of_call : ℕ → ℕ → Call → List Post
posts_of_call stamp client (Register regs) = []
posts_of_call stamp client (Unregister var source) = []
posts_of_call stamp client (Posts batch) = map (post_of stamp client) batch
posts_of_call stamp client Fetch = []

-- the posts that an entry makes
abbrev pub posts_of_entry : Entry → List Post
posts_of_entry entry = posts_of_call entry.stamp entry.client entry.call

-- every post of a history, in order; a post's number is its place here, from 0
abbrev pub posts_of : History → List Post
posts_of history = flat_map posts_of_entry history

-- the name of the client with this number; empty if there is none
abbrev pub name_of : List (List ℕ) → ℕ → List ℕ
name_of names client = slice_index_or names client []
