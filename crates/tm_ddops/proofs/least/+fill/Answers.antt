use Rattle.std.proofs.Common.{◌≡◌, ℕ, true, set, subst, sym, ap, ◌∙◌, refl, arith, length-set}
use Rattle.tm_dd.specs.declared.node.Node.{Node}
use Rattle.tm_dd.specs.declared.node.TheConstants.{FALSE}
use Rattle.tm_dd.specs.NodeId.{IsConstant}
use Rattle.tm_dd.specs.Table.{node_of}
use Rattle.tm_ddops.specs.Least.{IsClearFrom, IsFilled}
use Rattle.tm_ddops.proofs.Facts.{same_ids, ids_apart}
use Rattle.tm_ddops.proofs.Fill.{filled_constant, filled_lo, filled_hi, clear_lo, clear_hi}
use Rattle.tm_ddops.proofs.least.+fill.Goals as goal
use Rattle.tm_ddops.proofs.least.+fill.Goals.{After-node-node}

inner : (t : ℕ) (c : After-node-node t) → ¬ IsConstant c.args.f
inner t c h = let e = c.if-is_constant.ensures.1 h in cc

pub returns-then-is_constant : goal.returns-then-is_constant
returns-then-is_constant t c =
    filled_constant c.args.store.now c.requires.reduced c.args.f (c.if-is_constant.ensures.0 refl) c.requires.not_false
    c.args.values.now

pub fill-requires : goal.fill-requires
fill-requires t c =
    let s = c.args.store.now in
    let old = c.args.values.now in
    let is_inner = inner t (goal.at.fill-requires t c).After-node-node in
    let node = c.node-node.ensures.is_node in
    let lo_false : c.node-node.result.lo ≡ FALSE = same_ids _ _ c.if-eq.ensures in
    let P : Node → Type 0 = λ n. IsClearFrom s n.hi (set old n.level true) in (
      omega (arith, node.hi_smaller, c.decreases),
      (
        c.requires.reduced,
        (
          node.hi_known,
          (
            (λ e. node.differ (lo_false ∙ sym e)),
            (
              length-set old c.node-node.result.level true ∙ c.requires.one_a_level,
              subst P (sym c.node-node.ensures.value)
                  (subst (λ l. IsClearFrom s (node_of s c.args.f).hi (set old l true))
                  (sym (c.requires.reduced.nodes c.args.f c.requires.known is_inner).level)
                  (clear_hi s c.requires.reduced c.args.f c.requires.known is_inner old c.requires.one_a_level
                  c.requires.clear)),
            ),
          ),
        ),
      ),
    )

pub returns-then-eq : goal.returns-then-eq
returns-then-eq t c =
    let s = c.args.store.now in
    let old = c.args.values.now in
    let is_inner = inner t (goal.at.returns-then-eq t c).After-node-node in
    let lo_false : c.node-node.result.lo ≡ FALSE = same_ids _ _ c.if-eq.ensures in
    let Q : Node → Type 0 = λ n. IsFilled s n.hi (set old n.level true) c.fill.new.values in
    filled_hi s c.requires.reduced c.args.f c.requires.known is_inner old c.requires.one_a_level c.requires.clear
    (sym (ap (λ n. n.lo) c.node-node.ensures.value) ∙ lo_false) c.fill.new.values
    (subst (λ l. IsFilled s (node_of s c.args.f).hi (set old l true) c.fill.new.values)
    (c.requires.reduced.nodes c.args.f c.requires.known is_inner).level
    (subst Q c.node-node.ensures.value c.fill.ensures))

pub fill-requires-else-eq : goal.fill-requires-else-eq
fill-requires-else-eq t c =
    let s = c.args.store.now in
    let old = c.args.values.now in
    let is_inner = inner t (goal.at.fill-requires-else-eq t c).After-node-node in
    let node = c.node-node.ensures.is_node in (
      omega (arith, node.lo_smaller, c.decreases),
      (
        c.requires.reduced,
        (
          node.lo_known,
          (
            ids_apart c.node-node.result.lo FALSE c.if-eq.ensures,
            (
              c.requires.one_a_level,
              subst (λ n. IsClearFrom s n.lo old) (sym c.node-node.ensures.value)
                  (clear_lo s c.requires.reduced c.args.f c.requires.known is_inner old c.requires.one_a_level
                  c.requires.clear),
            ),
          ),
        ),
      ),
    )

pub returns-else-eq : goal.returns-else-eq
returns-else-eq t c =
    let s = c.args.store.now in
    let old = c.args.values.now in
    let is_inner = inner t (goal.at.returns-else-eq t c).After-node-node in
    filled_lo s c.requires.reduced c.args.f c.requires.known is_inner old c.requires.one_a_level c.requires.clear
    c.fill-else-eq.new.values
    (subst (λ n. IsFilled s n.lo old c.fill-else-eq.new.values) c.node-node.ensures.value c.fill-else-eq.ensures)
