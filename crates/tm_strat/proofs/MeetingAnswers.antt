-- Drafted blocks that lead to a move answer it in C.
use Rattle.std.proofs.Common.{◌≡◌, ℕ, Bool, true, false, List, None, Some, length, map, slice_get, sym, ap, ◌∙◌}
use Rattle.std.proofs.lemmas.Option.{slice_get-map}
use Rattle.std.specs.Option.{option_map, option_map_or}
use Rattle.std.specs.Prelude.{if◌then◌else◌, nat_lt}
use Rattle.tm_check.specs.Replies.{move_of}
use Rattle.tm_cir.specs.Answer.{AnswersFrom, calls, goes_first, goes_second, idles, leaves}
use Rattle.tm_cir.specs.Meaning.{holds}
use Rattle.tm_cir.specs.Tree.{BlockTree, call, idle, leave, test}
use Rattle.tm_game.specs.declared.moves.MoveShape.{MoveShape}
use Rattle.tm_game.specs.declared.moves.MoveShape.TheVariants as shapes
use Rattle.tm_sem.specs.State.{StateData}
use Rattle.tm_strat.specs.Spelled.{choice_tree, constants_from, draft_tree, test_tree, widths_in}
use Rattle.tm_strat.specs.Trees.{candidate_tree, expression_tree, move_tree, shape_in, takes}
use Rattle.tm_strat.specs.declared.candidates.Candidate.{Candidate}
use Rattle.tm_strat.specs.declared.expressions.Expression.{Expression}
use Rattle.tm_strat.specs.declared.numbers.Counts.{Counts}
use Rattle.tm_strat.specs.declared.spelling.Spelling.{Spelling}
use Rattle.tm_strat_drafts.specs.Blocks.{Leads, goes_first as drafts_first, goes_second as drafts_second}
use Rattle.tm_strat_drafts.specs.Blocks.{moves as drafts_move}
use Rattle.tm_strat_drafts.specs.Moves.{Game, passes}
use Rattle.tm_strat_drafts.specs.declared.drafts.DraftBlock.{DraftBlock}
use Rattle.tm_strat_drafts.specs.declared.drafts.DraftBlock.TheVariants.{Move, Test}
use Rattle.tm_strat_drafts.specs.declared.drafts.MoveChoice.{MoveChoice}
use Rattle.tm_strat_drafts.specs.declared.drafts.MoveChoice.TheVariants as choices
use Rattle.tm_syntax.specs.Design.{DesignTree}

-- a block that makes a move
abbrev IsMoving : BlockTree → Type 0
IsMoving (test t first second) = ⊥
IsMoving _ = Unit {0}

either_moving : (t : Bool) (a b : BlockTree) → IsMoving a → IsMoving b → IsMoving (if t then a else b)
either_moving true a b one other = one
either_moving false a b one other = other

move_moving : (d : DesignTree) (c : Counts) (shape : MoveShape) (args : List Expression) →
    IsMoving (move_tree d c shape args)
move_moving d c shapes.Idle args = tt
move_moving d c (shapes.Leave p) args = either_moving (nat_lt p (length d.processes)) (leave p) idle tt tt
move_moving d c (shapes.Call n) args =
    either_moving (takes d n (length args)) (call n (map (expression_tree c) args)) idle tt tt

choice_moving : (d : DesignTree) (sp : Spelling) (m : MoveChoice) → IsMoving (choice_tree d sp m)
choice_moving d sp (choices.Candidate n) =
    elim (slice_get sp.candidates.items n) as (λ o.
    IsMoving (option_map_or (candidate_tree d sp.counts sp.shapes.items) o idle)) [
      | None ↦ tt
      | Some k ↦ move_moving d sp.counts (shape_in sp.shapes.items k.shape) k.arguments.items
    ]
choice_moving d sp (choices.Constant n bits) =
    move_moving d sp.counts (shape_in sp.shapes.items n)
    (constants_from bits 0 (widths_in sp (shape_in sp.shapes.items n)))

-- such a block answers its move
answers_move : (bs : List BlockTree) (s : StateData) (goal at : ℕ) (b : BlockTree) → IsMoving b →
    slice_get bs at ≡ Some b → AnswersFrom bs s goal at (move_of goal b s)
answers_move bs s goal at (test t first second) moving there = absurd moving
answers_move bs s goal at (call task args) moving there = calls there
answers_move bs s goal at (leave p) moving there = leaves there
answers_move bs s goal at idle moving there = idles there

-- a block of C stands where the drafted one does
drafted_at : (d : DesignTree) (sp : Spelling) (bs : List DraftBlock) (at : ℕ) (b : DraftBlock) →
    slice_get bs at ≡ Some b → slice_get (map (draft_tree d sp) bs) at ≡ Some (draft_tree d sp b)
drafted_at d sp bs at b there =
    slice_get-map (draft_tree d sp) bs at ∙ ap (option_map (draft_tree d sp)) there

module _ (d : DesignTree) (sp : Spelling) (g : Game) (s : StateData) (goal : ℕ)
    (tests : (k : ℕ) → passes g k s ≡ holds s goal (test_tree sp k)) (bs : List DraftBlock) where
  pub answers : {at : ℕ} {m : MoveChoice} → Leads g bs s at m →
      AnswersFrom (map (draft_tree d sp) bs) s goal at (move_of goal (choice_tree d sp m) s)
  answers {at} {m} (drafts_first {test = k} {first = first} {second = second} there so rest) =
      goes_first (drafted_at d sp bs at (Test k first second) there) (sym (tests k) ∙ so) (answers rest)
  answers {at} {m} (drafts_second {test = k} {first = first} {second = second} there so rest) =
      goes_second (drafted_at d sp bs at (Test k first second) there) (sym (tests k) ∙ so) (answers rest)
  answers {at} {m} (drafts_move there) =
      answers_move (map (draft_tree d sp) bs) s goal at (choice_tree d sp m) (choice_moving d sp m)
      (drafted_at d sp bs at (Move m) there)
