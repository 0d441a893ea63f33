use Rattle.std.proofs.Common.{ap, subst, ◌∙◌}
use Rattle.tm_dd.specs.Reduced.{IsReduced}
use Rattle.tm_dd.specs.Table.{Table}
use Rattle.tm_dd.proofs.Nodes.{reduced}
use Rattle.tm_dd.proofs.Ranks.{no_rank_read, rank_read}
use Rattle.tm_dd.proofs.store.Store.rank.Goals as goal

pub returns-in-Some-clause-value : goal.returns-in-Some-clause-value
returns-in-Some-clause-value c =
    let held = c.deref.ensures.value ∙ ap (λ (t : Table). t.ranks) c.self.view_is in
    rank_read c.args.self.now c.deref.result.now c.args.level c.in-Some.rank.now held c.in-Some.ensures.lookup.0
    c.in-Some.ensures.lookup.1

pub returns-in-Some-clause-reduced : goal.returns-in-Some-clause-reduced
returns-in-Some-clause-reduced c = subst IsReduced c.self.view_is (reduced _ c.self.invariant.unique)

pub returns-in-None-clause-value : goal.returns-in-None-clause-value
returns-in-None-clause-value c =
    let held = c.deref.ensures.value ∙ ap (λ (t : Table). t.ranks) c.self.view_is in
    no_rank_read c.args.self.now c.deref.result.now c.args.level c.self.inside.levels held
    (ap (λ (t : Table). t.levels) c.self.view_is) c.in-None.ensures.lookup.0

pub returns-in-None-clause-reduced : goal.returns-in-None-clause-reduced
returns-in-None-clause-reduced c = subst IsReduced c.self.view_is (reduced _ c.self.invariant.unique)
