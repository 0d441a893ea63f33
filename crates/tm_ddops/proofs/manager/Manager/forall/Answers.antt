use Rattle.std.proofs.Common.{rules, ◌≡◌, ℕ, List, subst, sym}
use Rattle.tm_dd.specs.declared.node.NodeId.{NodeId}
use Rattle.tm_dd.specs.NodeId.{complement}
use Rattle.tm_dd.specs.Table.{Table}
use Rattle.tm_ddops.specs.Quantified.{IsExists, IsForall}
use Rattle.tm_ddops.proofs.ChangeLists.{forall_of_exists}
use Rattle.tm_ddops.proofs.manager.Manager.forall.Goals as goal

answer : (s : Table) (levels : List ℕ) (f g id r : NodeId) → IsExists s levels g id → g ≡ complement f →
    r ≡ complement id → IsForall s levels f r
answer s levels f g id r x e h =
    subst (IsForall s levels f) (sym h) (forall_of_exists s levels f id (subst (λ k. IsExists s levels k id) e x))

pub returns-clause-answer : goal.returns-clause-answer
returns-clause-answer c = search (rules, answer)
