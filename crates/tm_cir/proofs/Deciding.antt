-- Blocks that fit have an answer at each state, since tests go to later blocks alone. So blocks with a certificate are
-- a good driver.
use Rattle.std.proofs.Common.{◌≡◌, ℕ, zero, suc, ◌+◌, ◌<◌, ◌≤◌, Bool, true, false, Some, List, length, map, get_or, refl, arith}
use Rattle.std.specs.Prelude.{slice_get}
use Rattle.std.proofs.lemmas.Option.{slice_get-get_or}
use Rattle.tm_syntax.specs.Design.{DesignTree, IsDesign}
use Rattle.tm_sem.specs.State.{StateData}
use Rattle.tm_sem.specs.declared.state.Move.{Move}
use Rattle.tm_sem.specs.Strategy.{Good}
use Rattle.tm_sem.specs.Certificates.{DriverSets, MeetsDriver}
use Rattle.tm_sem.proofs.CertifiedRounds.{certified_is_good}
use Rattle.tm_cir.specs.Tree.{BlockTree, test, call, leave, idle}
use Rattle.tm_cir.specs.Meaning.{holds}
use Rattle.tm_cir.specs.Fit.{FitBlocks, FitsBlock}
use Rattle.tm_cir.specs.Answer.{AnswersFrom, goes_first, goes_second, calls, leaves, idles, Answers}

module _ (d : DesignTree) (bs : List BlockTree) (fit : FitBlocks d bs) (s : StateData) (g : ℕ) where
  -- from each block on there is an answer, where so many blocks are left at most
  answer_from : (left at : ℕ) → length bs ≤ at + left → at < length bs → (move : Move) × AnswersFrom bs s g at move
  answer_from zero at few within = absurd (omega arith)
  answer_from (suc left) at few within =
      of_block (λ next below there. answer_from left next below there) (get_or bs at idle)
      (slice_get-get_or bs at idle within)
    where
      of_block : ((next : ℕ) → length bs ≤ next + left → next < length bs →
          (move : Move) × AnswersFrom bs s g next move) → (b : BlockTree) → slice_get bs at ≡ Some b →
          (move : Move) × AnswersFrom bs s g at move
      of_block next (test t first second) is = of_test (holds s g t) refl
        where
          later : FitsBlock d (length bs) at (test t first second)
          later = fit.each at (test t first second) is

          of_test : (b : Bool) → holds s g t ≡ b → (move : Move) × AnswersFrom bs s g at move
          of_test true so =
              let found = next first (omega (arith, later.1.0)) later.1.1 in
              (found.0, goes_first is so found.1)
          of_test false so =
              let found = next second (omega (arith, later.2.0)) later.2.1 in
              (found.0, goes_second is so found.1)
      of_block next (call task args) is = (_, calls is)
      of_block next (leave p) is = (_, leaves is)
      of_block next idle is = (_, idles is)

  -- blocks that fit have an answer at each state
  pub some_answer : (move : Move) × Answers bs s g move
  some_answer = answer_from (length bs) 0 (omega arith) fit.some

-- blocks with a certificate are a good driver
pub certified_blocks : (d : DesignTree) (bs : List BlockTree) (c : DriverSets) → IsDesign d → FitBlocks d bs →
    MeetsDriver d (Answers bs) c → Good d (Answers bs) (map length c.goals)
certified_blocks d bs c is fit meets =
    certified_is_good d (Answers bs) c is (λ s g turn. some_answer d bs fit s g) meets
