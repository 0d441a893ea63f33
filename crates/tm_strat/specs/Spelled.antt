-- What drafted blocks are in C, as plain data. Here sp says what their numbers stand for.
use Rattle.std.specs.Prelude.{ℕ, ◌+◌, ◌-◌, Bool, false, List, [], ◌∷◌, length, map, min, slice_get, slice_index_or}
use Rattle.std.specs.declared.vec.Vec.{Vec}
use Rattle.std.specs.Option.{option_map_or}
use Rattle.std.specs.declared.alloc.Global.{Global}
use Rattle.tm_base.specs.Bits.{bits_of}
use Rattle.tm_cir.specs.declared.block.Comparison.TheVariants as comparisons
use Rattle.tm_cir.specs.Tree.{BlockTree, TruthTree, compare, constant, goal, idle, test}
use Rattle.tm_flat.specs.BitRun.{number_at}
use Rattle.tm_game.specs.declared.moves.MoveShape.{MoveShape}
use Rattle.tm_game.specs.declared.moves.MoveShape.TheVariants as shapes
use Rattle.tm_strat.specs.Trees.{candidate_tree, move_tree, predicate_tree, shape_in}
use Rattle.tm_strat.specs.declared.candidates.Candidate.{Candidate}
use Rattle.tm_strat.specs.declared.expressions.Expression.{Expression}
use Rattle.tm_strat.specs.declared.expressions.Expression.TheVariants as expressions
use Rattle.tm_strat.specs.declared.spelling.Spelling.{Spelling}
use Rattle.tm_strat_drafts.specs.declared.drafts.DraftBlock.{DraftBlock}
use Rattle.tm_strat_drafts.specs.declared.drafts.DraftBlock.TheVariants.{Move, Test}
use Rattle.tm_strat_drafts.specs.declared.drafts.MoveChoice.{MoveChoice}
use Rattle.tm_strat_drafts.specs.declared.drafts.MoveChoice.TheVariants as choices
use Rattle.tm_syntax.specs.Design.{DesignTree}

-- ---- constants
-- a bit of a number of 64 bits, the most significant first; none is set past the last
abbrev pub bit_in : ℕ → ℕ → Bool
bit_in bits k = slice_index_or (bits_of 64 bits) k false

-- the constants that bits hold from one on in these widths, one behind the other
abbrev pub constants_from : ℕ → ℕ → List ℕ → List Expression
constants_from bits k [] = []
constants_from bits k (w ∷ ws) =
    expressions.Constant (number_at (bit_in bits) k (min w 64)) ∷ constants_from bits (min (k + w) 64) ws

-- the widths of the parameters of each task
abbrev pub widths_of : Spelling → List (List ℕ)
widths_of sp = map (λ (widths : Vec ℕ Global). widths.items) sp.widths.items

-- those of the task that a shape calls
abbrev pub widths_in : Spelling → MoveShape → List ℕ
widths_in sp (shapes.Call n) = slice_index_or (widths_of sp) n []
widths_in sp _ = []

-- ---- blocks
-- the test of a number; behind those of states come those whether a goal is pending
abbrev pub test_tree : Spelling → ℕ → TruthTree
test_tree sp k =
    option_map_or (predicate_tree sp.counts) (slice_get sp.predicates.items k)
    (compare comparisons.Equal goal (constant (k - length sp.predicates.items)))

-- a move; a candidate that is not there is to idle
abbrev pub choice_tree : DesignTree → Spelling → MoveChoice → BlockTree
choice_tree d sp (choices.Candidate n) =
    option_map_or (candidate_tree d sp.counts sp.shapes.items) (slice_get sp.candidates.items n) idle
choice_tree d sp (choices.Constant n bits) =
    move_tree d sp.counts (shape_in sp.shapes.items n)
    (constants_from bits 0 (widths_in sp (shape_in sp.shapes.items n)))

-- a block
abbrev pub draft_tree : DesignTree → Spelling → DraftBlock → BlockTree
draft_tree d sp (Test k first second) = test (test_tree sp k) first second
draft_tree d sp (Move m) = choice_tree d sp m
