use Rattle.std.proofs.Common.{◌≡◌, ℕ, List, length, ap, ◌∙◌, subst, arith, rules}
use Rattle.tm_abs.proofs.Predicates.{bit_node}
use Rattle.tm_abs.specs.Inner.Reading.{bit_at}
use Rattle.tm_dd.specs.declared.node.TheConstants.{FALSE, TRUE}
use Rattle.tm_dd.specs.Table.{Table, means}
use Rattle.tm_ddops.specs.Manager.{Diagrams}
use Rattle.tm_abs.proofs.reading.bit_level.Goals as goal

pub returns-then-eq-2 : goal.returns-then-eq-2
returns-then-eq-2 c =
    let node = c.node-node.result in
    let lo : node.lo ≡ FALSE = search rules in
    let hi : node.hi ≡ TRUE = search rules in
    let same = c.store.ensures.value ∙ ap (λ (m : Diagrams). m.table) c.manager-manager.ensures in
    let below = c.if-node-order.true in
    let order = ap (λ (o : List ℕ). length o) c.order.ensures.value in (
      omega (arith, below, order),
      subst (λ (t : Table). means t c.args.id ≡ bit_at node.level) same
          (bit_node c.store.result.now c.args.id node c.node-node.ensures.is_node lo hi),
    )
