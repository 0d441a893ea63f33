use Rattle.std.proofs.Common.{◌≤◌, length}
use Rattle.tm_sem.specs.declared.state.Move.{Move}
use Rattle.tm_struct.specs.View.{program_tree}
use Rattle.tm_struct.specs.Answer.{LeadsTo, AnswersSo}
use Rattle.tm_struct.specs.Inner.Answering.{body_of}
use Rattle.tm_struct.proofs.answering.answer_structured.Given as goal

abbrev pub invariant-loop-task : goal.invariant-loop-task
invariant-loop-task l = record {
  within : l.at ≤ length (program_tree l.program).functions;
  leads : (m : Move) →
      LeadsTo (program_tree l.program).functions l.state l.goal (body_of (program_tree l.program) l.at) m →
      AnswersSo (program_tree l.program) l.state l.goal m;
}

abbrev pub decreases-loop-task : goal.decreases-loop-task
decreases-loop-task l = l.at
