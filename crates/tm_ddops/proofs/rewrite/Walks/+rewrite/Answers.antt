use Rattle.std.proofs.Common.{sym, subst, ◌∙◌, arith}
use Rattle.std.proofs.lemmas.Result.{IfOk-weaker}
use Rattle.tm_dd.proofs.CallerLaws.{Extends-trans, depth_of-IsConstant}
use Rattle.tm_dd.specs.declared.node.Node.{Node}
use Rattle.tm_ddops.specs.Changed.{IsChanged, IsSettled, change_at}
use Rattle.tm_ddops.proofs.Changing.{IsChanged-Extends, IsDepth-Extends, changed_below, changed_settled}
use Rattle.tm_ddops.proofs.Facts.{knows-Extends}
use Rattle.tm_ddops.proofs.rewrite.Walks.+rewrite.Goals as goal

pub returns-then-depth-clause-answer : goal.returns-then-depth-clause-answer
returns-then-depth-clause-answer t c =
    changed_below c.args.store.now c.requires.reduced (change_at c.args.changes.now) c.args.f c.requires.known
    c.requires.parts c.args.depth c.requires.depth (omega (arith, c.if-depth.true, c.depth.ensures.value))

pub returns-in-Some-clause-answer : goal.returns-in-Some-clause-answer
returns-in-Some-clause-answer t c = c.requires.found c.args.f c.in-Some.known.now (sym c.in-Some.ensures.value)

pub returns-in-Some-settled-clause-answer : goal.returns-in-Some-settled-clause-answer
returns-in-Some-settled-clause-answer t c =
    let s = c.args.store.now in
    let u = c.rewrite.new.store in
    let e = c.rewrite.ensures.extends in
    let same = c.node-node.ensures.value ∙ sym (e.same_node c.args.f c.requires.known) in
    IfOk-weaker c.rewrite.result _ _
    (λ id x. changed_settled u c.rewrite.ensures.reduced (change_at c.args.changes.now) c.args.f
    (knows-Extends s u e c.args.f c.requires.known)
    (λ constant. omega (
      arith,
      depth_of-IsConstant s c.requires.reduced c.args.f constant,
      c.requires.depth.within,
      c.if-depth.false,
      c.depth.ensures.value,
    ))
    c.in-Some-settled.branch
    (subst (λ (n : Node). IsSettled (change_at c.args.changes.now n.level) n c.in-Some-settled.branch) same
    c.in-Some-settled.ensures) id x)
    c.rewrite.ensures.answer

pub rewrite_node-requires-clause-lo : goal.rewrite_node-requires-clause-lo
rewrite_node-requires-clause-lo t c =
    let whole = Extends-trans _ _ _ c.rewrite-2.ensures.extends c.rewrite-3.ensures.extends in
    subst (λ n. IsChanged c.rewrite-3.new.store (change_at c.args.changes.now) n.lo c.in_ok-lo.lo)
    (c.node-node.ensures.value ∙ sym (whole.same_node c.args.f c.requires.known))
    (IsChanged-Extends c.rewrite-2.new.store c.rewrite-3.new.store c.rewrite-3.ensures.extends
    (change_at c.args.changes.now) c.node-node.result.lo c.in_ok-lo.lo c.in_ok-lo.ensures.answer)

pub node-node-requires-clause-inner : goal.node-node-requires-clause-inner
node-node-requires-clause-inner t c constant =
    omega (
      arith,
      depth_of-IsConstant c.args.store.now c.requires.reduced c.args.f constant,
      c.requires.depth.within,
      c.if-depth.false,
      c.depth.ensures.value,
    )

pub rewrite_node-requires-clause-level : goal.rewrite_node-requires-clause-level
rewrite_node-requires-clause-level t c =
    let whole = Extends-trans _ _ _ c.rewrite-2.ensures.extends c.rewrite-3.ensures.extends in
    omega (
      arith,
      whole.same_level c.args.f c.requires.known,
      c.node-node.ensures.is_node.level,
      c.node-node.ensures.is_node.below,
      c.requires.changes,
    )

pub rewrite-requires-3 : goal.rewrite-requires-3
rewrite-requires-3 t c =
    let s = c.args.store.now in
    let u = c.rewrite-2.new.store in
    let e = c.rewrite-2.ensures.extends in
    let node = c.node-node.ensures.is_node in (
      omega (arith, node.hi_smaller, c.decreases),
      (
        c.rewrite-2.ensures.reduced,
        (
          knows-Extends s u e c.node-node.result.hi node.hi_known,
          (
            c.requires.changes ∙ sym e.same_levels,
            (
              IsDepth-Extends s u e (change_at c.args.changes.now) c.args.depth c.requires.depth,
              (c.in_ok-lo.ensures.answer.parts, (c.rewrite-2.ensures.found, c.rewrite-2.ensures.choices)),
            ),
          ),
        ),
      ),
    )
