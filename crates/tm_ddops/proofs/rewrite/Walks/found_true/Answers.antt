use Rattle.std.proofs.Common.{refl}
use Rattle.tm_dd.specs.declared.node.TheConstants.{TRUE}
use Rattle.tm_ddops.specs.Changed.{IsChanged, change_at}
use Rattle.tm_ddops.proofs.Changing.{changed_true}
use Rattle.tm_ddops.proofs.VisitLemmas.{elsewhere_insert, visit_insert}
use Rattle.tm_ddops.proofs.rewrite.Walks.found_true.Goals as goal
use Rattle.tm_ddops.proofs.rewrite.Walks.found_true.Goals.{In_ok-insert}

answer : (c : In_ok-insert) → IsChanged c.args.store.now (change_at c.args.changes.now) c.args.f TRUE
answer c =
    changed_true c.args.store.now c.requires.reduced (change_at c.args.changes.now) c.args.f c.requires.known
    c.requires.inner TRUE c.requires.lo c.requires.quantified refl

pub returns-clause-found : goal.returns-clause-found
returns-clause-found c =
    visit_insert (IsChanged c.args.store.now (change_at c.args.changes.now)) c.args.number c.args.self.now.found
    c.insert.new.self c.requires.found c.args.f TRUE c.in_ok-insert.ensures.updates
    (answer (goal.at.returns-clause-found c).In_ok-insert)

pub returns-clause-others : goal.returns-clause-others
returns-clause-others c =
    elsewhere_insert c.args.number c.args.f TRUE c.args.self.now.found c.insert.new.self c.in_ok-insert.ensures.updates

pub returns-clause-answer : goal.returns-clause-answer
returns-clause-answer c = answer (goal.at.returns-clause-answer c).In_ok-insert
