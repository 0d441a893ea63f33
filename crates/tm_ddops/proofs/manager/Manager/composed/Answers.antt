use Rattle.std.proofs.lemmas.Result.{IfOk-weaker}
use Rattle.tm_ddops.proofs.ChangeLists.{composed_of_changed, knows_parts}
use Rattle.tm_ddops.proofs.Facts.{knows-Extends}
use Rattle.tm_ddops.proofs.manager.Manager.composed.Goals as goal

pub rewrite-requires-clause-parts : goal.rewrite-requires-clause-parts
rewrite-requires-clause-parts c = knows_parts c.args.self.now.table c.args.parts.now c.requires.parts

pub returns-clause-answer : goal.returns-clause-answer
returns-clause-answer c =
    let t = c.rewrite.new.self.table in
    IfOk-weaker c.rewrite.result _ _
    (λ id x. composed_of_changed t c.rewrite.ensures.manager.reduced c.args.parts.now
    (λ g h. knows-Extends c.args.self.now.table t c.rewrite.ensures.extends g (c.requires.parts g h)) c.args.f id x)
    c.rewrite.ensures.answer
