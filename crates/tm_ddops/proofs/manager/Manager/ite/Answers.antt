use Rattle.std.proofs.Common.{refl}
use Rattle.std.proofs.lemmas.Result.{IfOk-weaker}
use Rattle.tm_dd.specs.Table.{Knows}
use Rattle.tm_ddops.proofs.Connectives.{one_of_three}
use Rattle.tm_ddops.proofs.manager.Manager.ite.Goals as goal

pub answered-requires : goal.answered-requires
answered-requires c = record {
  operands = λ x there. one_of_three (Knows c.args.self.now.table) c.args.f c.args.g c.args.h x c.requires.f
      c.requires.g c.requires.h there;
  choice = record { test = c.requires.f; if_true = c.requires.g; if_false = c.requires.h };
  same = λ s v. refl;
}

pub returns-clause-answer : goal.returns-clause-answer
returns-clause-answer c = IfOk-weaker c.answered.result _ _ (λ id r. r.function) c.answered.ensures.answer
