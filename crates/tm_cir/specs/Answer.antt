-- What a driver answers: the tests are followed from the first block to a call, a leave or nothing.
use Rattle.std.specs.Prelude.{◌≡◌, ℕ, true, false, List, Some, map, slice_get}
use Rattle.tm_sem.specs.State.{StateData}
use Rattle.tm_sem.specs.declared.state.Move.{Move}
use Rattle.tm_sem.specs.declared.state.Move.TheVariants as moves
use Rattle.tm_cir.specs.Tree.{NumTree, TruthTree, BlockTree, test, call, leave, idle}
use Rattle.tm_cir.specs.Meaning.{num_value, holds}

-- the move to which the tests lead from a block on
pub data AnswersFrom (bs : List BlockTree) (s : StateData) (g : ℕ) : ℕ → Move → Type 0 where
  goes_first : {at first second : ℕ} {t : TruthTree} {m : Move} →
      slice_get bs at ≡ Some (test t first second) → holds s g t ≡ true → AnswersFrom bs s g first m →
      AnswersFrom bs s g at m
  goes_second : {at first second : ℕ} {t : TruthTree} {m : Move} →
      slice_get bs at ≡ Some (test t first second) → holds s g t ≡ false → AnswersFrom bs s g second m →
      AnswersFrom bs s g at m
  calls : {at task : ℕ} {args : List NumTree} →
      slice_get bs at ≡ Some (call task args) → AnswersFrom bs s g at (moves.Call task (map (num_value s g) args))
  leaves : {at process : ℕ} → slice_get bs at ≡ Some (leave process) → AnswersFrom bs s g at (moves.Leave process)
  idles : {at : ℕ} → slice_get bs at ≡ Some idle → AnswersFrom bs s g at moves.Idle

-- the move that the blocks answer at a state and the number of the pending goal
abbrev pub Answers : List BlockTree → StateData → ℕ → Move → Type 0
Answers bs s g m = AnswersFrom bs s g 0 m
