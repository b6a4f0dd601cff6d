-- Lemmas on bytes that are held back and passed on.
use Rattle.std.proofs.Common.{◌≡◌, ℕ, ◌<◌, Some, None, Option, List, [], ◌++◌, length, take, drop, refl, ap, sym, subst, ◌∙◌, arith, length-append, append_assoc, append-nil, take-append-drop}
use Rattle.std.proofs.Math.Seq.{take-append_seam}
use Rattle.std.specs.Prelude.{IsErr, Result, Ok, Err}
use Rattle.moos_io.specs.declared.sink.Failed.{Failed}
use Rattle.moos_io.specs.BufferedWriting.{Delivers}
use Rattle.moos_io.specs.Faults.{Faring, FaresOn, Fell}
use Rattle.moos_io.specs.Pieces.{Took, TookFront}
use Rattle.moos_io.specs.Writing.{Way, way, Went}

-- a sink that took one piece and then another took both
took_then : (before between now : Option (List ℕ)) (first second : List ℕ) → Took before between first → Took between now second → Took before now (first ++ second)
took_then None between now first second one other = rw (other, one) refl
took_then (Some old) between now first second one other = rw (other, one) (ap Some (append_assoc old first second))

-- some more was passed on, and let go
pub passed_on : (start : Way) (before now : Option (List ℕ)) (held piece left : List ℕ) (faring after : Faring) (count : ℕ)
    → Went start (way before held faring) [] → piece ≡ held → Took before now (take count piece) → after ≡ faring → left ≡ drop count held
    → Went start (way now left after) []
passed_on start before now held piece left faring after count went whole took fares rest = record {
  piece = went.piece ++ take count held;
  took = took_then start.taken before now went.piece (take count held) went.took (subst (λ all. Took before now (take count all)) whole took);
  rest = ap (λ left. (went.piece ++ take count held) ++ left) rest ∙ append_assoc went.piece (take count held) (drop count held)
      ∙ ap (λ rest. went.piece ++ rest) (take-append-drop count held) ∙ went.rest;
  same = fares ∙ went.same;
}

-- what was passed on and what is still held are what was held at first
parted : {start : Way} {now : Option (List ℕ)} {held : List ℕ} {faring : Faring} (went : Went start (way now held faring) []) → went.piece ++ held ≡ start.held
parted {start = start} went = went.rest ∙ append-nil start.held

-- a front was passed on, and something is still held
pub took_front : {start : Way} {now : Option (List ℕ)} {held : List ℕ} {faring : Faring} → Went start (way now held faring) [] → 0 < length held → TookFront start.taken now start.held
took_front {start = start} {now = now} {held = held} went some =
    let whole = parted went in
    let front : take (length went.piece) start.held ≡ went.piece =
    ap (take (length went.piece)) (sym whole) ∙ take-append_seam went.piece held in (
      length went.piece,
      omega (arith, some, sym (length-append went.piece held) ∙ ap length whole),
      subst (Took start.taken now) (sym front) went.took,
    )

-- a front was passed on, and then the sink failed
pub failed : {S : Type 0} (taken : S → Option (List ℕ)) (faults : S → Faring) (before between after : S) (held rest : List ℕ) (result : Result (Unit {0}) Failed)
    → Went (way (taken before) held (faults before)) (way (taken between) rest (faults between)) [] → 0 < length rest
    → taken after ≡ taken between → FaresOn (faults between) (faults after) → Fell (faults between) (faults after) (taken after)
    → IsErr result → Delivers taken faults before after result held
failed taken faults before between after held rest (Ok done) went some none later fell is = cc
failed taken faults before between after held rest (Err failure) went some none later fell is = record {
  ok = tt;
  front = subst (λ now. TookFront (taken before) now held) (sym none) (took_front went some);
  fares = subst (λ faring. FaresOn faring (faults after)) went.same later;
  rose = subst (λ faring. Fell faring (faults after) (taken after)) went.same fell;
}
