use Rattle.std.proofs.Common.{sym, subst}
use Rattle.tm_dd.specs.declared.node.NodeId.{NodeId}
use Rattle.tm_dd.specs.Table.{means}
use Rattle.tm_game_bits.specs.Diagrams.{IsSetOf, step_of}
use Rattle.tm_game_bits.specs.Forcing.{Keeps, Leads}
use Rattle.tm_game_bits.proofs.StepSets.{keeps_is}
use Rattle.tm_game_bits.proofs.step.StepDiagrams.keeps.Goals as goal

pub returns-clause-answer : goal.returns-clause-answer
returns-clause-answer c =
    let s = c.args.dd.now.table in
    let t = c.leads.new.dd.table in
    let step = step_of s c.args.self.now in
    let leaves = subst (λ (f : NodeId). IsSetOf t (Leads step (means s f)) c.in_ok-leaves.leaves)
    c.complement.ensures.value c.in_ok-leaves.ensures.answer in
    subst (IsSetOf t (Keeps step (means s c.args.set))) (sym c.complement-2.ensures.value)
    (keeps_is s t step c.args.set c.in_ok-leaves.leaves leaves)
