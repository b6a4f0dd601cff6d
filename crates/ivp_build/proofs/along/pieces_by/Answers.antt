use Rattle.std.proofs.Common.{◌≡◌, ℕ, ◌+◌, ◌-◌, ◌<◌, ◌≤◌, List, [], ◌∷◌, ◌++◌, length, get_or, drop, map, refl, sym, ap, ◌∙◌, add-one, append_assoc, arith}
use Rattle.std.proofs.Math.Seq.{drop-cons}
use Rattle.std.proofs.lemmas.Bool.{lt-ltb, le-ltb}
use Rattle.ivp_func.specs.declared.piece.Piece.{Piece}
use Rattle.ivp_build.specs.Builders.{piece_over}
use Rattle.ivp_build.specs.Cuts.{Run}
use Rattle.ivp_build.specs.Ends.{runs_by}
use Rattle.ivp_build.proofs.along.pieces_by.Goals.{then-low-end+in_ok-push, else-low-end}
use Rattle.ivp_build.proofs.along.pieces_by.Goals as goal

-- the runs from an end that is greater, and from one that isn't
run_taken : (low i : ℕ) (ends : List ℕ) → i < length ends → low < get_or ends i 0 → runs_by low (drop i ends) ≡ record { low = low; high = get_or ends i 0 - 1 } ∷ runs_by (get_or ends i 0) (drop (i + 1) ends)
run_taken low i ends inside h = rw (add-one, drop-cons ends i 0, lt-ltb low (get_or ends i 0) h) refl

run_skipped : (low i : ℕ) (ends : List ℕ) → i < length ends → get_or ends i 0 ≤ low → runs_by low (drop i ends) ≡ runs_by low (drop (i + 1) ends)
run_skipped low i ends inside h = rw (add-one, drop-cons ends i 0, le-ltb low (get_or ends i 0) h) refl

-- the pieces so far, with those of the runs that are left, are all
added : (f : Run → Piece) (low low' i : ℕ) (ends : List ℕ) (had new all : List Piece) → i < length ends → low < get_or ends i 0 → low' ≡ get_or ends i 0
    → new ≡ had ++ (f (record { low = low; high = get_or ends i 0 - 1 }) ∷ []) → had ++ map f (runs_by low (drop i ends)) ≡ all → new ++ map f (runs_by low' (drop (i + 1) ends)) ≡ all
added f low low' i ends had new all inside h e e' made = rw (e, e', append_assoc) (sym (ap (λ runs. had ++ map f runs) (run_taken low i ends inside h)) ∙ made)

left : (f : Run → Piece) (low low' i : ℕ) (ends : List ℕ) (had new all : List Piece) → i < length ends → get_or ends i 0 ≤ low → low' ≡ low
    → new ≡ had → had ++ map f (runs_by low (drop i ends)) ≡ all → new ++ map f (runs_by low' (drop (i + 1) ends)) ≡ all
left f low low' i ends had new all inside h e e' made = rw (e, e') (sym (ap (λ runs. had ++ map f runs) (run_skipped low i ends inside h)) ∙ made)

pub loop-end-preserved : goal.loop-end-preserved
loop-end-preserved c =
    let ends = c.args.ends.now in
    let i = c.loop-end.end-index in
    let low = c.loop-end.low in
    let had = c.loop-end.pieces.items in
    let f : Run → Piece = piece_over c.args.domain.now c.args.axis c.args.profile.now in
    let inside : i < length ends = omega arith in
    let within = c.requires.within i inside in
    elim c.if-low-end.branch [
      | then-low-end+in_ok-push w ↦
          let pushed = w.in_ok-push.ensures.items ∙ ap (λ (piece : Piece). had ++ (piece ∷ [])) w.piece_over.ensures in
          record {
            low = omega (arith, w.low-is, within);
            made = added f low c.if-low-end.low i ends had _ _ inside w.if-low-end.true w.low-is (ap (λ v. v.items) w.pieces-is ∙ pushed) c.loop-end.invariant.made;
          }
      | else-low-end w ↦
          record {
            low = omega (arith, w.low-is, c.loop-end.invariant.low);
            made = left f low c.if-low-end.low i ends had _ _ inside w.if-low-end.false w.low-is (ap (λ v. v.items) w.pieces-is) c.loop-end.invariant.made;
          }
    ]
