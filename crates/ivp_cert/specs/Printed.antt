-- What a decision keeps so that its text stands for it.
use Rattle.std.specs.Prelude.{◌≡◌, ◌⊎◌, ℕ, ◌<◌, ◌≤◌, ◌*◌, ◌^◌, IsTrue, List, [], codes, length, Some, slice_get}
use Rattle.ivp_domain.specs.declared.axis.Axis.{Axis}
use Rattle.ivp_domain.specs.AxisNames.{is_axis_name}
use Rattle.ivp_func.specs.declared.piece.Piece.{Piece}
use Rattle.ivp_problem.specs.declared.term.Term.{Term}
use Rattle.ivp_problem.specs.Problems.{IsProblem, WeightedSum}
use Rattle.ivp_cert.specs.declared.cert.Line.{Line}
use Rattle.ivp_cert.specs.declared.claim.Decision.{Decision}

-- each of a list
abbrev pub AllOf : {X : Type 0} → (X → Type 0) → List X → Type 0
AllOf {X} P xs = (place : ℕ) (x : X) → slice_get xs place ≡ Some x → P x

-- nothing, or `%% `
abbrev pub IsPrefix : List ℕ → Type 0
IsPrefix prefix = (prefix ≡ []) ⊎ (prefix ≡ codes "%% ")

-- each array of a piece holds four numbers
pub record HasFourPlaces (piece : Piece) : Type 0 where
  pub low : length piece.area.low ≡ 4
  pub high : length piece.area.high ≡ 4
  pub slope : length piece.slope ≡ 4

-- the axes of a problem have names, and its pieces four places each
pub record IsPrintableProblem (problem : WeightedSum) : Type 0 where
  pub lawful : IsProblem problem
  pub names : AllOf (λ (axis : Axis). IsTrue (is_axis_name axis.name)) problem.axes
  pub pieces : AllOf (λ (term : Term). AllOf HasFourPlaces term.func.pieces) problem.terms

-- a path of at most 64 numbers of 32 bits, a sum of at most 64,000,000,000 in thousandths, and an index of 32 bits
pub record IsPrintableLine (line : Line) : Type 0 where
  pub few : length line.path ≤ 64
  pub path : AllOf (λ number. number < 2 ^ 32) line.path
  pub sum : line.sum ≤ 64 * 10 ^ 12
  pub index : line.index < 2 ^ 32

-- the sums of a decision are in range: at most 64,000,000,000, in thousandths
pub record HasSums (decision : Decision) : Type 0 where
  pub claim : decision.claim.sum ≤ 64 * 10 ^ 12
  pub lines : AllOf (λ (line : Line). line.sum ≤ 64 * 10 ^ 12) decision.cert
