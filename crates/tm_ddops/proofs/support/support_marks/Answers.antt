use Rattle.std.proofs.Common.{eqb, length-set, ap, ◌∙◌, arith}
use Rattle.std.proofs.lemmas.Map.Iter.{iter_end}
use Rattle.std.specs.List.{list_any}
use Rattle.std.specs.Map.Iter.{deref}
use Rattle.tm_dd.specs.Table.{level_of}
use Rattle.tm_ddops.proofs.Supports.{any-map, item_there, known_reached, marked_more, support_exact}
use Rattle.tm_ddops.proofs.support.support_marks.Goals as goal

pub node-node-requires-clause-known : goal.node-node-requires-clause-known
node-node-requires-clause-known c =
    let keys = c.in_ok-inner.inner.keys in
    let there =
    item_there deref keys _ _ _ _ _ c.in-Some.id c.into_iter-id-iterator.ensures.into_iter_gives.0 c.loop-id.yielded_by
    c.in-Some.is c.next.ensures.steps in
    known_reached c.args.store.now c.levels.ensures.reduced c.args.f c.in-Some.id.now c.requires
    (c.in_ok-inner.ensures.reached c.in-Some.id.now there)

pub node-node-requires-clause-inner : goal.node-node-requires-clause-inner
node-node-requires-clause-inner c =
    let keys = c.in_ok-inner.inner.keys in
    let there =
    item_there deref keys _ _ _ _ _ c.in-Some.id c.into_iter-id-iterator.ensures.into_iter_gives.0 c.loop-id.yielded_by
    c.in-Some.is c.next.ensures.steps in
    c.in_ok-inner.ensures.inner c.in-Some.id.now there

pub loop-id-preserved : goal.loop-id-preserved
loop-id-preserved c =
    let s = c.args.store.now in
    let node = c.node-node.ensures.is_node in (
      length-set c.loop-id.marks.items _ _ ∙ c.loop-id.invariant.0,
      marked_more (λ id. level_of s id.now) s.levels c.loop-id.marks.items c.loop-id.yielded c.in-Some.id
          c.node-node.result.level node.level
          (omega (arith, node.below, c.loop-id.invariant.0)) c.loop-id.invariant.1,
    )

pub returns-clause-exact : goal.returns-clause-exact
returns-clause-exact c =
    let s = c.args.store.now in
    let keys = c.in_ok-inner.inner.keys in
    let end =
    iter_end deref keys c.loop-id.yielded _ _ _ _ c.into_iter-id-iterator.ensures.into_iter_gives.0 c.loop-id.yielded_by
    c.in-None.is c.next.ensures.steps in
    support_exact s c.levels.ensures.reduced c.args.f c.requires keys c.in_ok-inner.ensures c.loop-id.marks.items
    c.loop-id.invariant.0
    (λ k below. c.loop-id.invariant.1 k below ∙ any-map deref (λ id. eqb (level_of s id) k) c.loop-id.yielded
    ∙ ap (list_any (λ id. eqb (level_of s id) k)) end.0)
