use Rattle.std.proofs.Common.{sym, ap, ◌∙◌}
use Rattle.std.proofs.lemmas.Result.{IfOk-weaker}
use Rattle.tm_ddops.specs.Changed.{branch_value}
use Rattle.tm_ddops.proofs.Changing.{either_of_choice}
use Rattle.tm_ddops.proofs.rewrite.Walks.branch_under.Goals as goal

pub returns-in-Quantified-clause-answer : goal.returns-in-Quantified-clause-answer
returns-in-Quantified-clause-answer c =
    IfOk-weaker c.chosen-in-Quantified.result _ _
    (λ id x. record {
      known = x.known;
      meaning = λ v. x.meaning v ∙ either_of_choice c.args.store.now c.args.lo c.args.hi v
          ∙ sym (ap (λ change. branch_value c.args.store.now change c.args.lo c.args.hi v) c.in-Quantified.is);
    })
    c.chosen-in-Quantified.ensures.answer
