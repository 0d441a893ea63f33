use Rattle.std.proofs.Common.{◌<◌, ◌-◌, length}
use Rattle.tm_sem.specs.declared.state.Move.{Move}
use Rattle.tm_cir.specs.View.{trees_of}
use Rattle.tm_cir.specs.Answer.{AnswersFrom, Answers}
use Rattle.tm_cir.proofs.answering.answer.Given as goal

abbrev pub invariant-loop-at : goal.invariant-loop-at
invariant-loop-at l = record {
  in_range : l.at < length l.list;
  leads : (m : Move) → AnswersFrom (trees_of l.blocks) l.state l.goal l.at m →
      Answers (trees_of l.blocks) l.state l.goal m;
}

abbrev pub decreases-loop-at : goal.decreases-loop-at
decreases-loop-at l = length l.list - l.at
