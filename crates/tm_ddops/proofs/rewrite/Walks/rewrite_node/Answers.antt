use Rattle.std.proofs.Common.{sym, ap, subst, ◌∙◌}
use Rattle.tm_ddops.specs.Changed.{IsChanged, change_at}
use Rattle.tm_ddops.specs.Inner.Visited.{AreChanged, SameElsewhere, found_under}
use Rattle.tm_ddops.proofs.Changing.{IsChanged-Extends}
use Rattle.tm_ddops.proofs.VisitLemmas.{elsewhere_insert, visit_insert, visit_unchanged}
use Rattle.tm_ddops.proofs.rewrite.Walks.rewrite_node.Goals as goal
use Rattle.tm_ddops.proofs.rewrite.Walks.rewrite_node.Goals.{After-joined}

-- what was found before is true still
were : (c : After-joined) →
    AreChanged c.joined.new.store (change_at c.args.changes.now) c.args.number c.joined.new.self.found
were c g r h =
    IsChanged-Extends c.args.store.now c.joined.new.store c.joined.ensures.extends (change_at c.args.changes.now) g r
    (c.requires.found g r (ap (λ m. found_under m c.args.number g) (sym c.joined.ensures.found) ∙ h))

pub returns-in_err-answer-clause-found : goal.returns-in_err-answer-clause-found
returns-in_err-answer-clause-found c = were (goal.at.returns-in_err-answer-clause-found c).After-joined

pub returns-in_err-insert-clause-found : goal.returns-in_err-insert-clause-found
returns-in_err-insert-clause-found c =
    visit_unchanged (IsChanged c.joined.new.store (change_at c.args.changes.now)) c.args.number
    c.joined.new.self.found c.insert.new.self
    (were (goal.at.returns-in_err-insert-clause-found c).After-joined) c.in_err-insert.ensures.err

pub returns-clause-found : goal.returns-clause-found
returns-clause-found c =
    visit_insert (IsChanged c.joined.new.store (change_at c.args.changes.now)) c.args.number
    c.joined.new.self.found c.insert.new.self
    (were (goal.at.returns-clause-found c).After-joined) c.args.f c.in_ok-answer.answer
    c.in_ok-insert.ensures.updates c.in_ok-answer.ensures.answer

pub returns-clause-others : goal.returns-clause-others
returns-clause-others c =
    subst (λ m. SameElsewhere c.args.number m c.insert.new.self) c.joined.ensures.found
    (elsewhere_insert c.args.number c.args.f c.in_ok-answer.answer c.joined.new.self.found c.insert.new.self
    c.in_ok-insert.ensures.updates)
