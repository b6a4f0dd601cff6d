-- The counts of a script with one line more.
use Rattle.std.proofs.Common.{◌≡◌, ℕ, ◌+◌, ◌<◌, Bool, true, false, cond, ◌&&◌, ◌==◌, nat_eq, List, [], ◌∷◌, ◌++◌, length, map, refl, sym, ap, ◌∙◌, arith, append-nil, add-zero, get_or, set}
use Rattle.std.specs.Prelude.{count_by, replicate, fold, slice_index, slice_set}
use Rattle.std.proofs.lemmas.Bool.{eqb-true, eqb-false}
use Rattle.std.proofs.lemmas.List.{get_or-replicate, get_or-set_same, get_or-set_other, length-set}
use Rattle.std.proofs.lemmas.List.Elements.{All-nil}
use Rattle.std.proofs.lemmas.List.Concat.{flat_map-append}
use Rattle.std.proofs.lemmas.List.Sums.{fold-append}
use Rattle.moos_post.specs.declared.entry.Call.{Call}
use Rattle.moos_post.specs.declared.entry.Call.TheVariants.{Register, Unregister, Post as Posts, Fetch}
use Rattle.moos_post.specs.declared.entry.Entry.{Entry}
use Rattle.moos_post.specs.declared.value.Pair.{Pair}
use Rattle.moos_post.specs.declared.value.Post.{Post}
use Rattle.moos_post.specs.History.{post_of, posts_of, posts_of_entry, posts_of_call}
use Rattle.script_reader.specs.declared.script.Script.{Script}
use Rattle.script_reader.specs.Script.{with_variable, variables_of, is_register, registrations_of}
use Rattle.script_reader.specs.Counts.{with_pairs, with_call_variables, with_made, with_call, AreCounts}
use Rattle.script_reader.proofs.Joining.{Named, IsOwn}

abbrev and_var : List (List ℕ) → Post → List (List ℕ)
and_var vars post = with_variable vars post.var

-- the variables of a batch's posts are those of its pairs
batch_variables : (stamp client : ℕ) (known : List (List ℕ)) (batch : List Pair) → fold and_var known (map (post_of stamp client) batch) ≡ with_pairs known batch
batch_variables stamp client known [] = refl
batch_variables stamp client known (pair ∷ batch) = batch_variables stamp client (with_variable known pair.var) batch

call_variables : (stamp client : ℕ) (known : List (List ℕ)) (call : Call) → fold and_var known (posts_of_call stamp client call) ≡ with_call_variables known call
call_variables stamp client known (Register regs) = refl
call_variables stamp client known (Unregister var source) = refl
call_variables stamp client known (Posts batch) = batch_variables stamp client known batch
call_variables stamp client known Fetch = refl

pub variables_more : (lines : List Entry) (line : Entry) → variables_of (lines ++ line ∷ []) ≡ with_call_variables (variables_of lines) line.call
variables_more lines line =
    ap (fold and_var []) (flat_map-append posts_of_entry lines (line ∷ []) ∙ ap (λ posts. posts_of lines ++ posts) (append-nil (posts_of_entry line)))
    ∙ fold-append and_var [] (posts_of lines) (posts_of_entry line) ∙ call_variables line.stamp line.client (variables_of lines) line.call

count_more : {X : Type 0} (p : X → Bool) (xs : List X) (x : X) → count_by p (xs ++ x ∷ []) ≡ count_by p xs + cond (p x) 1 0
count_more p xs x = fold-append (λ count y. count + cond (p y) 1 0) 0 xs (x ∷ [])

pub registrations_more : (client : ℕ) (lines : List Entry) (line : Entry)
    → registrations_of client (lines ++ line ∷ []) ≡ registrations_of client lines + cond (line.client == client && is_register line.call) 1 0
registrations_more client lines line = count_more (λ one. one.client == client && is_register one.call) lines line

-- before the first line
pub counts_none : AreCounts (record { names = []; lines = []; stop = 0 }) (replicate 64 0) [] []
counts_none = record {
  few = omega arith;
  each = refl;
  registrations = λ client within. get_or-replicate 64 client 0 0 within;
  posted = refl;
  joined = refl;
  named = All-nil Named;
  own = All-nil IsOwn;
}

registered : (made : List ℕ) (number client : ℕ) (call : Call) → number < length made
    → slice_index (with_made made number call) client ≡ slice_index made client + cond (number == client && is_register call) 1 0
registered made number client call within = at (is_register call) (nat_eq number client) refl
  where
    at : (one same : Bool) → nat_eq number client ≡ same
        → slice_index (cond one (slice_set made number (slice_index made number + 1)) made) client ≡ slice_index made client + cond (same && one) 1 0
    at false true is = sym (add-zero (slice_index made client))
    at false false is = sym (add-zero (slice_index made client))
    at true true is =
        let same : number ≡ client = eqb-true number client is in
        ap (λ n. get_or (set made number (slice_index made number + 1)) n 0) (sym same)
        ∙ get_or-set_same made number (slice_index made number + 1) 0 within ∙ ap (λ n. slice_index made n + 1) same
    at true false is =
        get_or-set_other made number client (slice_index made number + 1) 0 (λ same. eqb-false number client is (sym same))
        ∙ sym (add-zero (slice_index made client))

-- the counts with a call more
pub counts_more : (script : Script) (made : List ℕ) (variables clients : List (List ℕ)) (stamp number : ℕ) (call : Call) → AreCounts script made variables clients → number < 64
    → AreCounts (with_call script stamp number call) (with_made made number call) (with_call_variables variables call) clients
counts_more script made variables clients stamp number call counts among =
    let line : Entry = record { stamp = stamp; client = number; call = call } in
    record {
      few = counts.few;
      each = made_length (is_register call);
      registrations = λ client within.
          registered made number client call (omega (arith, counts.each))
          ∙ ap (λ n. n + cond (number == client && is_register call) 1 0) (counts.registrations client within)
          ∙ sym (registrations_more client script.lines line);
      posted = ap (λ known. with_call_variables known call) counts.posted ∙ sym (variables_more script.lines line);
      joined = counts.joined;
      named = counts.named;
      own = counts.own;
    }
  where
    made_length : (one : Bool) → length (cond one (slice_set made number (slice_index made number + 1)) made) ≡ 64
    made_length true = length-set made number (slice_index made number + 1) ∙ counts.each
    made_length false = counts.each
