-- The blocks answer one move at a state.
use Rattle.std.proofs.Common.{◌≡◌, ℕ, List}
use Rattle.tm_sem.specs.State.{StateData}
use Rattle.tm_sem.specs.declared.state.Move.{Move}
use Rattle.tm_cir.specs.Tree.{BlockTree}
use Rattle.tm_cir.specs.Answer.{Answers}
use Rattle.tm_cir.proofs.Following.{same_answer}

pub one_answer : (bs : List BlockTree) (s : StateData) (goal : ℕ) (one other : Move) →
    Answers bs s goal one → Answers bs s goal other → one ≡ other
one_answer bs s goal one other first second = same_answer bs s goal first second
