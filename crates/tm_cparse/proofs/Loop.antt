-- What the loop of the reader of expressions keeps.
use Rattle.std.proofs.Common.{◌≤◌, ℕ, Option, None, Some, List, [], arith}
use Rattle.tm_cir.specs.Tree.{TruthTree}
use Rattle.tm_cir.specs.Text.Token.{Token}
use Rattle.tm_cparse.specs.declared.part.Sort.{Sort}
use Rattle.tm_cparse.specs.Inner.Reading.{Moves}
use Rattle.tm_cparse.proofs.Moves.{stays, moves_then}
use Rattle.tm_cparse.specs.Inner.Parts.{PartTree, FitParts, FitsOperand, IsLeft}

-- an operand is left of at least one token
abbrev pub cost : Option TruthTree → ℕ
cost None = 0
cost (Some t) = 1

pub record SoFar (root : Sort) (tokens : List Token) (ps : List PartTree) (operand : Option TruthTree)
    (rest : List Token) : Type 0 where
  pub moved : Moves (IsLeft root [] None) (IsLeft root ps operand) tokens rest
  pub fit : FitParts root ps
  pub fits : FitsOperand root ps operand

pub cost_small : (operand : Option TruthTree) → cost operand ≤ 1
cost_small None = omega arith
cost_small (Some t) = omega arith

pub so_far_begins : (root : Sort) (tokens : List Token) → SoFar root tokens [] None tokens
so_far_begins root tokens = record { moved = stays (IsLeft root [] None) tokens; fit = tt; fits = tt }

-- a step was taken
pub so_far_then : {root : Sort} {tokens rest behind : List Token} {ps qs : List PartTree}
    {operand next : Option TruthTree} → SoFar root tokens ps operand rest →
    Moves (IsLeft root ps operand) (IsLeft root qs next) rest behind → FitParts root qs → FitsOperand root qs next →
    SoFar root tokens qs next behind
so_far_then so_far moved fit fits = record { moved = moves_then so_far.moved moved; fit = fit; fits = fits }
