-- Blocks whose names the design has fit it.
use Rattle.std.proofs.Common.{◌≡◌, ℕ, zero, suc, ◌+◌, ◌^◌, ◌<◌, ◌≤◌, Some, List, [], ◌∷◌, ◌++◌, map, length, All, slice_get, subst, append_assoc, arith}
use Rattle.std.proofs.lemmas.List.Elements.{All-nil, All-cons, All-head, All-tail}
use Rattle.tm_syntax.specs.Design.{DesignTree}
use Rattle.tm_cir.specs.Tree.{NumTree, var, goal, last, complement, binary, shift, conditional, TruthTree, num, negation, compare, join, BlockTree, test, call, leave, idle}
use Rattle.tm_cir.specs.Tree as trees
use Rattle.tm_cir.specs.Fit.{FitsNum, FitsTruth, FitsBlock}
use Rattle.tm_cir.specs.Text.Token.{Token, variable, location, constant, sign, close_parenthesis, close_brace}
use Rattle.tm_cir.specs.Text.Grammar.{num_tokens, truth_tokens, argument_tokens, statement_tokens}
use Rattle.tm_cparse.specs.Written.{NumInRange, TruthInRange, BlockInRange, WrittenBlock, written_tokens}
use Rattle.tm_cparse.specs.Inner.Bodies.{block_of, IsSmallBlock}
use Rattle.tm_cparse.proofs.Walks.{more_tokens}
use Rattle.tm_cparse.proofs.Placed.{test_is, call_is, IsRightStatement, AreRightBlocks}

-- the design has what the token names, and a constant has 64 bits
abbrev pub IsGood : DesignTree → Token → Type 0
IsGood d (variable k) = k < length d.vars
IsGood d (location p) = p < length d.processes
IsGood d (constant n) = n < 2 ^ 64
IsGood d t = Unit {0}

abbrev pub AreGood : DesignTree → List Token → Type 0
AreGood d [] = Unit {0}
AreGood d (t ∷ ts) = IsGood d t × AreGood d ts

pub good_front : (d : DesignTree) (xs ys : List Token) → AreGood d (xs ++ ys) → AreGood d xs
good_front d [] ys good = tt
good_front d (x ∷ xs) ys good = (good.0, good_front d xs ys good.1)

pub good_behind : (d : DesignTree) (xs ys : List Token) → AreGood d (xs ++ ys) → AreGood d ys
good_behind d [] ys good = good
good_behind d (x ∷ xs) ys good = good_behind d xs ys good.1

abbrev closing : List Token
closing = sign close_parenthesis ∷ []

mutual
  num_fits : (d : DesignTree) (a : NumTree) → NumInRange a → AreGood d (num_tokens a) →
      FitsNum (length d.vars) (length d.processes) a
  num_fits d (trees.constant n) range good = good.0
  num_fits d (var k) range good = good.0
  num_fits d (trees.location p) range good = good.0
  num_fits d goal range good = tt
  num_fits d last range good = tt
  num_fits d (complement a) range good = num_fits d a range (good_front d (num_tokens a) closing good.1.1)
  num_fits d (binary op a b) range good =
      let inner = good_front d (num_tokens a ++ sign _ ∷ num_tokens b) closing good.1 in (
        num_fits d a range.0 (good_front d (num_tokens a) (sign _ ∷ num_tokens b) inner),
        num_fits d b range.1 ((good_behind d (num_tokens a) (sign _ ∷ num_tokens b) inner).1),
      )
  num_fits d (shift op a by) range good =
      let inner = good_front d (num_tokens a ++ sign _ ∷ constant by ∷ []) closing good.1 in
      (num_fits d a range.0 (good_front d (num_tokens a) (sign _ ∷ constant by ∷ []) inner), range.1)
  num_fits d (conditional t a b) range good =
      let inner = good_front d ((truth_tokens t ++ sign _ ∷ num_tokens a) ++ sign _ ∷ num_tokens b) closing good.1 in
      let front = good_front d (truth_tokens t ++ sign _ ∷ num_tokens a) (sign _ ∷ num_tokens b) inner in (
        truth_fits d t range.0 (good_front d (truth_tokens t) (sign _ ∷ num_tokens a) front),
        num_fits d a range.1 ((good_behind d (truth_tokens t) (sign _ ∷ num_tokens a) front).1),
        num_fits d b range.2
            ((good_behind d (truth_tokens t ++ sign _ ∷ num_tokens a) (sign _ ∷ num_tokens b) inner).1),
      )

  pub truth_fits : (d : DesignTree) (t : TruthTree) → TruthInRange t → AreGood d (truth_tokens t) →
      FitsTruth (length d.vars) (length d.processes) t
  truth_fits d (num n) range good = num_fits d n range good
  truth_fits d (negation t) range good = truth_fits d t range (good_front d (truth_tokens t) closing good.1.1)
  truth_fits d (compare op a b) range good =
      let inner = good_front d (num_tokens a ++ sign _ ∷ num_tokens b) closing good.1 in (
        num_fits d a range.0 (good_front d (num_tokens a) (sign _ ∷ num_tokens b) inner),
        num_fits d b range.1 ((good_behind d (num_tokens a) (sign _ ∷ num_tokens b) inner).1),
      )
  truth_fits d (join op t u) range good =
      let inner = good_front d (truth_tokens t ++ sign _ ∷ truth_tokens u) closing good.1 in (
        truth_fits d t range.0 (good_front d (truth_tokens t) (sign _ ∷ truth_tokens u) inner),
        truth_fits d u range.1 ((good_behind d (truth_tokens t) (sign _ ∷ truth_tokens u) inner).1),
      )

more_fit : (d : DesignTree) (args : List NumTree) → All NumInRange args → AreGood d (more_tokens args) →
    All (FitsNum (length d.vars) (length d.processes)) args
more_fit d [] range good = All-nil (FitsNum (length d.vars) (length d.processes))
more_fit d (a ∷ args) range good =
    All-cons (FitsNum (length d.vars) (length d.processes)) a args
    (num_fits d a (All-head NumInRange a args range) (good_front d (num_tokens a) (more_tokens args) good.1))
    (more_fit d args (All-tail NumInRange a args range) (good_behind d (num_tokens a) (more_tokens args) good.1))

pub arguments_fit : (d : DesignTree) (args : List NumTree) → All NumInRange args → AreGood d (argument_tokens args) →
    All (FitsNum (length d.vars) (length d.processes)) args
arguments_fit d [] range good = All-nil (FitsNum (length d.vars) (length d.processes))
arguments_fit d (a ∷ args) range good =
    All-cons (FitsNum (length d.vars) (length d.processes)) a args
    (num_fits d a (All-head NumInRange a args range) (good_front d (num_tokens a) (more_tokens args) good))
    (more_fit d args (All-tail NumInRange a args range) (good_behind d (num_tokens a) (more_tokens args) good))

-- a right statement, whose names the design has, fits it
block_fits : (d : DesignTree) (count at : ℕ) (b : BlockTree) (rest : List Token) → BlockInRange b →
    IsRightStatement d count (at + 1) b → AreGood d (statement_tokens b ++ rest) → FitsBlock d count at b
block_fits d count at (test t first second) rest range right good =
    let whole = subst (AreGood d) (test_is t first second rest) good in (
      truth_fits d t range (good_front d (truth_tokens t) _ whole.1.1),
      (omega (arith, right.0.0), right.0.1),
      (omega (arith, right.1.0), right.1.1),
    )
block_fits d count at (call k args) rest range right good =
    let whole = subst (AreGood d) (call_is k args rest) good in
    (right.0, right.1, arguments_fit d args range (good_front d (argument_tokens args) _ whole.1.1))
block_fits d count at (leave p) rest range right good = right.0
block_fits d count at idle rest range right good = tt

abbrev end : List Token
end = sign close_brace ∷ []

abbrev InRange : WrittenBlock → Type 0
InRange w = BlockInRange w.block

pub blocks_fit : (d : DesignTree) (count n : ℕ) (ws : List WrittenBlock) →
    All (λ (w : WrittenBlock). BlockInRange w.block) ws → AreRightBlocks d count n ws →
    AreGood d (written_tokens ws ++ end) → (i : ℕ) (b : BlockTree) → slice_get (map block_of ws) i ≡ Some b →
    FitsBlock d count (n + i) b
blocks_fit d count n [] range right good i b is = absurd (cc)
blocks_fit d count n (w ∷ ws) range right good zero b is =
    let good' = subst (AreGood d) (append_assoc (statement_tokens w.block) (written_tokens ws) end) good.1.1 in
    let same : w.block ≡ b = cc in
    subst (FitsBlock d count (n + 0)) same
    (subst (λ (k : ℕ). FitsBlock d count k w.block) (omega arith)
    (block_fits d count n w.block (written_tokens ws ++ end)
    (All-head (λ (w : WrittenBlock). BlockInRange w.block) w ws range) right.0.1 good'))
blocks_fit d count n (w ∷ ws) range right good (suc i) b is =
    let good' = subst (AreGood d) (append_assoc (statement_tokens w.block) (written_tokens ws) end) good.1.1 in
    subst (λ (k : ℕ). FitsBlock d count k b) (omega arith)
    (blocks_fit d count (n + 1) ws (All-tail (λ (w : WrittenBlock). BlockInRange w.block) w ws range) right.1
    (good_behind d (statement_tokens w.block) (written_tokens ws ++ end) good') i b is)

pub small_blocks : (d : DesignTree) (count n : ℕ) (ws : List WrittenBlock) → count ≤ 2 ^ 32 →
    AreRightBlocks d count n ws → All IsSmallBlock (map block_of ws)
small_blocks d count n [] few right = All-nil IsSmallBlock
small_blocks d count n (w ∷ ws) few right =
    All-cons IsSmallBlock w.block (map block_of ws) (small w.block right.0.1)
    (small_blocks d count (n + 1) ws few right.1)
  where
    small : (b : BlockTree) → IsRightStatement d count (n + 1) b → IsSmallBlock b
    small (test t first second) right = (omega (arith, few, right.0.1), omega (arith, few, right.1.1))
    small (call k args) right = tt
    small (leave p) right = right.1
    small idle right = tt
