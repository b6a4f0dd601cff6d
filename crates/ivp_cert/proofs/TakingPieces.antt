-- The printed pieces of a function, as the reader takes them.
use Rattle.std.proofs.Common.{◌≡◌, ℕ, suc, ◌+◌, ◌<◌, ◌≤◌, true, nat_lt, Ok, List, [], ◌∷◌, ◌++◌, flat_map, length, refl, ap, sym, arith, append_assoc, append-nil, length-append}
use Rattle.std.specs.Prelude.{codes}
use Rattle.std.specs.List.{list_all, AllByRecursion as Each}
use Rattle.std.proofs.lemmas.Bool.{and_parts, lt-ltb}
use Rattle.ivp_domain.specs.Domains.{is_domain}
use Rattle.ivp_func.specs.declared.piece.Piece.{Piece}
use Rattle.ivp_func.specs.Pieces.{is_piece_of}
use Rattle.ivp_func.proofs.Facts.{piece_parts}
use Rattle.ivp_cert.specs.declared.phase.DecisionStage.TheVariants.{OfProblem}
use Rattle.ivp_cert.specs.declared.stage.ProblemStage.TheVariants.{Functions}
use Rattle.ivp_cert.specs.Stages.{after_first}
use Rattle.ivp_cert.specs.Printed.{HasFourPlaces, IsPrefix}
use Rattle.ivp_cert.specs.Texts.{piece_text}
use Rattle.ivp_cert.specs.Unfinished.{UnfinishedSum}
use Rattle.ivp_cert.proofs.PrintedLines.{IsWord}
use Rattle.ivp_cert.proofs.PrintedPieces.{IsSpelled, piece_spelled, piece_words}
use Rattle.ivp_cert.proofs.PrintedTexts.{piece_line}
use Rattle.ivp_cert.proofs.Taking.{Leads, Takes, takes_as, takes_both, takes_line, takes_none, takes_to}

-- more pieces of the last function
abbrev pub with_pieces : UnfinishedSum → List Piece → UnfinishedSum
with_pieces sum pieces = record { before = sum.before; line = sum.line; weight = sum.weight; pieces = sum.pieces ++ pieces }

piece_word : IsWord (codes "piece")
piece_word = record { some = omega arith; ink = (omega arith, (omega arith, (omega arith, (omega arith, (omega arith, tt))))) }

piece_first : (line : ℕ) (sum : UnfinishedSum) (piece : Piece) → IsSpelled (length sum.before.axes) piece → is_piece_of sum.before.axes piece ≡ true → length sum.pieces < 4096 → after_first line (OfProblem (Functions sum)) (codes "piece") (piece_words (length sum.before.axes) piece) ≡ Ok (OfProblem (Functions (with_pieces sum (piece ∷ []))))
piece_first line sum piece is fit few =
    let room : nat_lt (length sum.pieces) 4096 ≡ true = lt-ltb (length sum.pieces) 4096 few in
    rw (is.back, room, (piece_parts sum.before.axes piece fit).0) refl

piece_taken : (lines : ℕ) (prefix : List ℕ) (sum : UnfinishedSum) (piece : Piece) → IsPrefix prefix → is_domain sum.before.axes ≡ true → is_piece_of sum.before.axes piece ≡ true → HasFourPlaces piece → length sum.pieces < 4096 → Takes lines (OfProblem (Functions sum)) (piece_text prefix (length sum.before.axes) piece) (suc lines) (OfProblem (Functions (with_pieces sum (piece ∷ []))))
piece_taken lines prefix sum piece at domain fit four few =
    let is = piece_spelled sum.before.axes piece domain fit four.low four.high four.slope in
    let then = OfProblem (Functions (with_pieces sum (piece ∷ []))) in
    takes_as lines (suc lines) (OfProblem (Functions sum)) then (piece_text prefix (length sum.before.axes) piece) _ (piece_line prefix (length sum.before.axes) piece)
    (takes_line lines (OfProblem (Functions sum)) then prefix 112 (codes "iece") (piece_words (length sum.before.axes) piece) at (omega arith) piece_word is.words (piece_first (suc lines) sum piece is fit few))

pub pieces_taken : (lines : ℕ) (prefix : List ℕ) (sum : UnfinishedSum) (pieces : List Piece) → IsPrefix prefix → is_domain sum.before.axes ≡ true → list_all (is_piece_of sum.before.axes) pieces ≡ true → Each HasFourPlaces pieces → length sum.pieces + length pieces ≤ 4096 → Leads lines (OfProblem (Functions sum)) (flat_map (piece_text prefix (length sum.before.axes)) pieces) (OfProblem (Functions (with_pieces sum pieces)))
pieces_taken lines prefix sum [] at domain fit four few = record {
  more = lines;
  takes = takes_to lines lines (OfProblem (Functions sum)) (OfProblem (Functions sum)) (OfProblem (Functions (with_pieces sum []))) [] (ap (λ all. OfProblem (Functions (record sum { pieces = all }))) (sym (append-nil sum.pieces))) (takes_none lines (OfProblem (Functions sum)));
}
pieces_taken lines prefix sum (piece ∷ pieces) at domain fit four few =
    let both = and_parts (is_piece_of sum.before.axes piece) (list_all (is_piece_of sum.before.axes) pieces) fit in
    let next = with_pieces sum (piece ∷ []) in
    let one = piece_taken lines prefix sum piece at domain both.0 four.0 (omega (arith, few)) in
    let others = pieces_taken (suc lines) prefix next pieces at domain both.1 four.1 (omega (arith, few, length-append sum.pieces (piece ∷ []))) in
    let text = piece_text prefix (length sum.before.axes) in
    let all = takes_both lines (suc lines) others.more (OfProblem (Functions sum)) (OfProblem (Functions next)) (OfProblem (Functions (with_pieces next pieces))) (text piece) (flat_map text pieces) one others.takes in
    record {
      more = others.more;
      takes = takes_to lines others.more (OfProblem (Functions sum)) (OfProblem (Functions (with_pieces next pieces))) (OfProblem (Functions (with_pieces sum (piece ∷ pieces)))) (text piece ++ flat_map text pieces) (ap (λ ps. OfProblem (Functions (record sum { pieces = ps }))) (append_assoc sum.pieces (piece ∷ []) pieces)) all;
    }
