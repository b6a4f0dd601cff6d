-- The greatest value of the pieces so far.
use Rattle.std.proofs.Common.{◌≡◌, ℕ, ◌+◌, ◌<◌, ◌≤◌, ℤ, true, false, cond, ◌⊎◌, inl, inr, List, [], ◌∷◌, length, get_or, Some, sym, subst, ◌∙◌, IsTrue, arith}
use Rattle.std.specs.Prelude.{slice_get, ◌≤ℤ◌, int_lt}
use Rattle.std.specs.Int.{int_max}
use Rattle.std.proofs.lemmas.Bool.Decides.{nat_tests}
use Rattle.std.proofs.lemmas.Int.{ints}
use Rattle.std.proofs.lemmas.Option.{slice_get-get_or}
use Rattle.ivp_domain.specs.declared.axis.Axis.{Axis}
use Rattle.ivp_domain.specs.declared.boxes.Point.{Point}
use Rattle.ivp_domain.specs.Domains.{is_point}
use Rattle.ivp_func.specs.declared.piece.Piece.{Piece}
use Rattle.ivp_func.specs.Functions.{IsPartition, IsTop}
use Rattle.ivp_func.specs.Pieces.{are_pieces_of, piece_has, value_at, piece_value}
use Rattle.ivp_func.proofs.Counting.{find_at, value_at-only}
use Rattle.ivp_func.proofs.Facts.{blank, each_more, fits_at, piece_point}

-- the value is that at some point, and no value of the first pieces is greater
pub record TopSoFar (axes : List Axis) (xs : List Piece) (i : ℕ) (top : ℤ) : Type 0 where
  pub attained : (p : Point) × IsTrue (is_point axes p) × (value_at xs p ≡ top)
  pub greatest : (k : ℕ) (x : Piece) → k < i → slice_get xs k ≡ Some x → (p : Point) → IsTrue (piece_has p x) → piece_value x p ≤ℤ top

pub top_more : (axes : List Axis) (xs : List Piece) (i : ℕ) (top more : ℤ) (corner : Point) → IsPartition axes xs → are_pieces_of axes xs ≡ true → i < length xs → TopSoFar axes xs i top → piece_has corner (get_or xs i blank) ≡ true → ((p : Point) → IsTrue (piece_has p (get_or xs i blank)) → piece_value (get_or xs i blank) p ≤ℤ piece_value (get_or xs i blank) corner) → top ≤ℤ more → piece_value (get_or xs i blank) corner ≤ℤ more → (more ≡ top) ⊎ (more ≡ piece_value (get_or xs i blank) corner) → TopSoFar axes xs (i + 1) more
top_more axes xs i top more corner partition fit within keeps inside most above above' either =
    let piece = get_or xs i blank in
    let in_domain = piece_point axes piece corner (fits_at axes xs i fit within) inside in
    let value : value_at xs corner ≡ piece_value piece corner = value_at-only xs i piece corner (partition corner in_domain) (slice_get-get_or xs i blank within) inside in
    record {
      attained = elim either [
        | inl same ↦ (keeps.attained.0, keeps.attained.1, keeps.attained.2 ∙ sym same)
        | inr same ↦ (corner, in_domain, value ∙ sym same)
      ];
      greatest = each_more (λ x. (p : Point) → IsTrue (piece_has p x) → piece_value x p ≤ℤ more) xs i (λ k x below e p h. let old = keeps.greatest k x below e p h in omega (arith, ints)) (λ p h. let old = most p h in omega (arith, ints));
    }

pub top_of_all : (axes : List Axis) (xs : List Piece) (i : ℕ) (top : ℤ) → IsPartition axes xs → length xs ≤ i → TopSoFar axes xs i top → IsTop axes xs top
top_of_all axes xs i top partition all keeps =
    record {
      attained = keeps.attained;
      greatest = λ p inside. let one = find_at xs p (partition p inside) in subst (λ v. v ≤ℤ top) (sym one.value) (keeps.greatest one.place one.piece (omega (arith, one.within)) one.stands p one.holds_it);
    }

pub max_either : (a b m : ℤ) → m ≡ int_max a b → (m ≡ a) ⊎ (m ≡ b)
max_either a b m e = elim (int_lt b a) as (λ t. m ≡ cond t a b → (m ≡ a) ⊎ (m ≡ b)) [ true ↦ λ h. inl h | false ↦ λ h. inr h ] e

-- the point of least index is one of every domain
pub least_point : (axes : List Axis) (p : Point) → p.at ≡ 0 ∷ 0 ∷ 0 ∷ 0 ∷ [] → is_point axes p ≡ true
least_point axes p e = rw e (grind (arith, nat_tests))

pub top_at_first : (axes : List Axis) (xs : List Piece) (p : Point) (top : ℤ) → p.at ≡ 0 ∷ 0 ∷ 0 ∷ 0 ∷ [] → top ≡ value_at xs p → TopSoFar axes xs 0 top
top_at_first axes xs p top e h = record { attained = (p, least_point axes p e, sym h); greatest = λ k x below. absurd (omega arith) }
