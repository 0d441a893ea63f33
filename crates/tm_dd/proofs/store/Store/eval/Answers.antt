use Rattle.std.proofs.Common.{◌∙◌, refl, sym, subst}
use Rattle.tm_dd.specs.Reduced.{IsReduced}
use Rattle.tm_dd.specs.Table.{assignment}
use Rattle.tm_dd.proofs.Meaning.{means-IsConstant}
use Rattle.tm_dd.proofs.Nodes.{reduced}
use Rattle.tm_dd.proofs.store.Store.eval.Goals as goal

pub returns-clause-value : goal.returns-clause-value
returns-clause-value c =
    c.eq.ensures
    ∙ sym (means-IsConstant c.args.self.now c.loop-rest.rest (assignment c.args.values.now)
    (c.loop-rest-test.ensures.0 refl))
    ∙ c.loop-rest.invariant.same

pub returns-clause-reduced : goal.returns-clause-reduced
returns-clause-reduced c = subst IsReduced c.self.view_is (reduced _ c.self.invariant.unique)
