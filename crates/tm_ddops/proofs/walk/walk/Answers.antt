use Rattle.tm_dd.specs.Table.{kept}
use Rattle.tm_ddops.proofs.Counts.{rises_within}
use Rattle.tm_ddops.proofs.walk.walk.Goals as goal

pub returns-clause-requests : goal.returns-clause-requests
returns-clause-requests g c choices has =
    rises_within c.choose-answer.new.store c.args.choice c.args.memo.now c.choose-answer.new.memo
    c.len.ensures.unique c.choose-answer.ensures.met choices has c.choose-answer.result c.args.steps.now
    c.choose-answer.new.steps
    c.choose-answer.ensures.requests c.choose-answer.ensures.refused_requests c.choose-answer.ensures.unnoted

pub returns-clause-nodes : goal.returns-clause-nodes
returns-clause-nodes g c choices has =
    rises_within c.choose-answer.new.store c.args.choice c.args.memo.now c.choose-answer.new.memo
    c.len.ensures.unique c.choose-answer.ensures.met choices has c.choose-answer.result (kept c.args.store.now)
    (kept c.choose-answer.new.store)
    c.choose-answer.ensures.nodes c.choose-answer.ensures.refused_nodes c.choose-answer.ensures.unnoted
