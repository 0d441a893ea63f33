use Rattle.std.proofs.Common.{◌∙◌, inl, inr, arith}
use Rattle.std.proofs.lemmas.Result.{IfOk-weaker}
use Rattle.tm_ddops.proofs.Changing.{by_level_function}
use Rattle.tm_ddops.proofs.Walks.{AreChoices-Extends}
use Rattle.tm_ddops.proofs.rewrite.Walks.branch_at.Goals as goal

pub returns-then-rank-depth-2-clause-choices : goal.returns-then-rank-depth-2-clause-choices
returns-then-rank-depth-2-clause-choices c =
    AreChoices-Extends c.args.store.now c.branch-store.new.store c.branch-store.ensures.extends c.args.self.now.choices
    c.requires.choices

pub returns-in_err-test-clause-choices : goal.returns-in_err-test-clause-choices
returns-in_err-test-clause-choices c =
    AreChoices-Extends c.args.store.now c.branch-store-2.new.store c.branch-store-2.ensures.extends
    c.args.self.now.choices c.requires.choices

pub chosen-requires-clause-choices : goal.chosen-requires-clause-choices
chosen-requires-clause-choices c =
    AreChoices-Extends c.args.store.now c.branch-store-2.new.store c.branch-store-2.ensures.extends
    c.args.self.now.choices c.requires.choices

pub returns-clause-answer : goal.returns-clause-answer
returns-clause-answer c =
    IfOk-weaker c.chosen.result _ _
    (λ id x. record {
      known = x.known;
      meaning = λ v. x.meaning v
          ∙ by_level_function c.args.store.now c.branch-store-2.new.store c.args.level c.in_ok-test.test c.args.hi
          c.args.lo c.requires.hi_known c.requires.lo_known c.branch-store-2.ensures.extends
          c.in_ok-test.ensures.meaning v;
    })
    c.chosen.ensures.answer

pub branch-store-requires-2-clause-lo_deeper : goal.branch-store-requires-2-clause-lo_deeper
branch-store-requires-2-clause-lo_deeper c = inl (omega arith)

pub branch-store-requires-2-clause-hi_deeper : goal.branch-store-requires-2-clause-hi_deeper
branch-store-requires-2-clause-hi_deeper c = inl (omega arith)

pub branch-store-requires-clause-lo_deeper : goal.branch-store-requires-clause-lo_deeper
branch-store-requires-clause-lo_deeper c =
    inr (omega (arith, c.if-rank-depth.true, c.rank-rank.ensures.value, c.depth.ensures.value))

pub branch-store-requires-clause-hi_deeper : goal.branch-store-requires-clause-hi_deeper
branch-store-requires-clause-hi_deeper c =
    inr (omega (arith, c.if-rank-depth-2.true, c.rank-rank.ensures.value, c.depth-then-rank-depth.ensures.value))
