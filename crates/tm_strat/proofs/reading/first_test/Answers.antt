use Rattle.std.proofs.Common.{sym, ◌∙◌, subst}
use Rattle.std.proofs.lemmas.Option.{get_or_from_slice_get}
use Rattle.tm_check.specs.Replies.{IsReply}
use Rattle.tm_check.specs.declared.replies.Reply.{Reply}
use Rattle.tm_cir.specs.Tree.{test}
use Rattle.tm_strat.proofs.reading.first_test.Goals as goal

pub returns : goal.returns
returns c = λ d g shapes t first second x there is.
    c.test_of.ensures d g shapes t first second
    (subst (λ (r : Reply). IsReply d g.order g.diagrams.table 0 shapes (test t first second) r)
    (sym (c.index-replies-0.is
    ∙ get_or_from_slice_get c.args.replies.now 0 x c.index-replies-0.result there)) is)
