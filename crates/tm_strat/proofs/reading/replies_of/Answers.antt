use Rattle.std.proofs.Common.{List, subst}
use Rattle.tm_check.specs.Replies.{AreReplies}
use Rattle.tm_cir.specs.Tree.{BlockTree}
use Rattle.tm_strat.proofs.reading.replies_of.Goals as goal
use Rattle.tm_syntax.specs.Design.View.{design_tree}

pub returns-clause-replies : goal.returns-clause-replies
returns-clause-replies c =
    subst (λ (l : List BlockTree). AreReplies (design_tree c.args.design.now) c.read_replies.new.game 0 l
    c.in_ok-replies.replies) c.fitting-blocks.ensures.same c.in_ok-replies.ensures.replies
