-- Where each action does what its block does, both lead to the same moves.
use Rattle.std.proofs.Common.{◌≡◌, ℕ, ◌↔◌, true, false, List, Option, None, Some, map, slice_get, refl, sym, ap, subst, ◌∙◌}
use Rattle.tm_sem.specs.State.{StateData}
use Rattle.tm_sem.specs.declared.state.Move.{Move}
use Rattle.tm_sem.specs.declared.state.Move.TheVariants as moves
use Rattle.tm_cir.specs.Tree.{NumTree, TruthTree, BlockTree, test}
use Rattle.tm_cir.specs.Tree as blocks
use Rattle.tm_cir.specs.Meaning.{num_value, holds}
use Rattle.tm_cir.specs.Answer.{AnswersFrom}
use Rattle.tm_cir.specs.Answer as answers
use Rattle.tm_cir.proofs.Following.{IsReadAs, read}
use Rattle.tm_struct.specs.Tree.{ActionTree, choose, call, leave, go, idle}
use Rattle.tm_struct.specs.Answer.{LeadsTo, goes_first, goes_second, calls, leaves, goes_on, idles}
use Rattle.tm_struct.specs.Inner.Laying.{Does}
use Rattle.tm_struct.specs.Inner.Laying as doing

module _ (bs : List BlockTree) (starts : List ℕ) (fs : List ActionTree) (s : StateData) (g : ℕ)
    (each : (k at : ℕ) (a : ActionTree) → slice_get starts k ≡ Some at → slice_get fs k ≡ Some a → Does bs starts at a)
    (begins : (k : ℕ) (a : ActionTree) → slice_get fs k ≡ Some a → (at : ℕ) × (slice_get starts k ≡ Some at)) where
  -- to where the action leads, the block answers
  pub block_answers : {at : ℕ} {a : ActionTree} {m : Move} → Does bs starts at a → LeadsTo fs s g a m →
      AnswersFrom bs s g at m
  block_answers (doing.tests is first second) (goes_first so rest) =
      answers.goes_first is so (block_answers first rest)
  block_answers (doing.tests is first second) (goes_second so rest) =
      answers.goes_second is so (block_answers second rest)
  block_answers (doing.calls is) calls = answers.calls is
  block_answers (doing.leaves is) leaves = answers.leaves is
  block_answers (doing.goes {at = at} {k = k} starts_there) (goes_on {a = a} is rest) =
      block_answers (each k at a starts_there is) rest
  block_answers (doing.idles is) idles = answers.idles is
