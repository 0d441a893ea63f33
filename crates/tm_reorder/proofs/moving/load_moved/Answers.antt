use Rattle.std.proofs.Common.{◌≡◌, List, [], ◌∷◌, ◌++◌, sym, ap, ◌∙◌, subst, arith}
use Rattle.std.proofs.lemmas.Option.{slice_get-get_or}
use Rattle.tm_dd.specs.declared.node.NodeId.{NodeId}
use Rattle.tm_dd.specs.declared.node.TheConstants.{FALSE, TRUE}
use Rattle.tm_dd.proofs.CallerLaws.{Extends-refl, Extends-trans}
use Rattle.tm_reorder.specs.Inner.Moved.{AreFirstMoved, seen}
use Rattle.tm_dd.specs.Table.{Knows, means}
use Rattle.tm_reorder.proofs.Loading.{all_moved, begun, bit_known, bit_seen, child_known, hi_read, hi_within, lo_read, lo_within, one_more}
use Rattle.tm_reorder.proofs.moving.load_moved.Goals as goal

pub loop-entry-init : goal.loop-entry-init
loop-entry-init c =
    let items : c.push-2.new.self.items ≡ FALSE ∷ TRUE ∷ [] =
    c.in_ok-push-2.ensures.items
    ∙ ap (λ (ids : List NodeId). ids ++ TRUE ∷ [])
    (c.in_ok-push.ensures.items ∙ ap (λ (ids : List NodeId). ids ++ FALSE ∷ []) c.new-ids.ensures.items) in
    let see = seen c.args.dd.now.table c.args.order.now c.args.bits.now in
    record {
      extends = Extends-refl c.args.dd.now.table;
      first = subst (AreFirstMoved c.args.dd.now.table see c.args.nodes.now 0) (sym items)
          (begun see c.args.nodes.now c.args.dd.now.table);
    }

pub index-requires-in-loop-entry : goal.index-requires-in-loop-entry
index-requires-in-loop-entry c =
    let before = hi_within (seen c.args.dd.now.table c.args.order.now c.args.bits.now) c.args.nodes.now
    c.requires.nodes c.loop-entry.entry-index _
    (slice_get-get_or c.args.nodes.now c.loop-entry.entry-index (record { level = 0; lo = 0; hi = 0 })
    c.loop-entry-test.true)
    c.loop-entry.dd.table c.loop-entry.ids.items c.loop-entry.invariant.first in
    omega arith

pub index-requires : goal.index-requires
index-requires c =
    let before = lo_within (seen c.args.dd.now.table c.args.order.now c.args.bits.now) c.args.nodes.now
    c.requires.nodes c.loop-entry.entry-index _
    (slice_get-get_or c.args.nodes.now c.loop-entry.entry-index (record { level = 0; lo = 0; hi = 0 })
    c.loop-entry-test.true)
    c.loop-entry.dd.table c.loop-entry.ids.items c.loop-entry.invariant.first in
    omega arith

pub branch-dd-requires-clause-bit : goal.branch-dd-requires-clause-bit
branch-dd-requires-clause-bit c =
    subst (Knows c.loop-entry.dd.table) (sym c.moved_bit-bit.ensures)
    (bit_known c.args.dd.now.table c.loop-entry.dd.table c.args.bits.now _ c.loop-entry.invariant.extends
    c.requires.bits)

pub branch-dd-requires-clause-hi : goal.branch-dd-requires-clause-hi
branch-dd-requires-clause-hi c =
    let see = seen c.args.dd.now.table c.args.order.now c.args.bits.now in
    let at = slice_get-get_or c.args.nodes.now c.loop-entry.entry-index (record { level = 0; lo = 0; hi = 0 })
    c.loop-entry-test.true in
    child_known see c.args.nodes.now c.requires.nodes c.loop-entry.entry-index _ at
    c.loop-entry.dd.table c.loop-entry.ids.items c.loop-entry.invariant.first _ c.index-in-loop-entry.result.now
    (hi_read see c.args.nodes.now c.requires.nodes c.loop-entry.entry-index _ at
    c.loop-entry.dd.table c.loop-entry.ids.items c.loop-entry.invariant.first
    c.index-in-loop-entry.result.now c.index-in-loop-entry.ensures)

pub branch-dd-requires-clause-lo : goal.branch-dd-requires-clause-lo
branch-dd-requires-clause-lo c =
    let see = seen c.args.dd.now.table c.args.order.now c.args.bits.now in
    let at = slice_get-get_or c.args.nodes.now c.loop-entry.entry-index (record { level = 0; lo = 0; hi = 0 })
    c.loop-entry-test.true in
    child_known see c.args.nodes.now c.requires.nodes c.loop-entry.entry-index _ at
    c.loop-entry.dd.table c.loop-entry.ids.items c.loop-entry.invariant.first _ c.index.result.now
    (lo_read see c.args.nodes.now c.requires.nodes c.loop-entry.entry-index _ at
    c.loop-entry.dd.table c.loop-entry.ids.items c.loop-entry.invariant.first c.index.result.now
    c.index.ensures)

pub returns-in_err-id-clause-extends : goal.returns-in_err-id-clause-extends
returns-in_err-id-clause-extends c =
    Extends-trans c.args.dd.now.table c.loop-entry.dd.table c.branch-dd.new.dd.table c.loop-entry.invariant.extends
    c.branch-dd.ensures.extends

pub returns-in_err-push-3-clause-extends : goal.returns-in_err-push-3-clause-extends
returns-in_err-push-3-clause-extends c =
    Extends-trans c.args.dd.now.table c.loop-entry.dd.table c.branch-dd.new.dd.table c.loop-entry.invariant.extends
    c.branch-dd.ensures.extends

pub loop-entry-preserved : goal.loop-entry-preserved
loop-entry-preserved c =
    let see = seen c.args.dd.now.table c.args.order.now c.args.bits.now in
    let at = slice_get-get_or c.args.nodes.now c.loop-entry.entry-index (record { level = 0; lo = 0; hi = 0 })
    c.loop-entry-test.true in
    record {
      extends = Extends-trans c.args.dd.now.table c.loop-entry.dd.table c.branch-dd.new.dd.table
          c.loop-entry.invariant.extends c.branch-dd.ensures.extends;
      first = one_more see c.args.nodes.now c.requires.nodes c.loop-entry.entry-index _ at
          c.loop-entry.dd.table c.loop-entry.ids.items c.loop-entry.invariant.first c.branch-dd.new.dd.table
          c.moved_bit-bit.result c.index.result.now c.index-in-loop-entry.result.now c.in_ok-id.id
          c.push-in-loop-entry.new.self.items c.branch-dd.ensures.extends
          (lo_read see c.args.nodes.now c.requires.nodes c.loop-entry.entry-index _ at
          c.loop-entry.dd.table c.loop-entry.ids.items c.loop-entry.invariant.first c.index.result.now
          c.index.ensures)
          (hi_read see c.args.nodes.now c.requires.nodes c.loop-entry.entry-index _ at
          c.loop-entry.dd.table c.loop-entry.ids.items c.loop-entry.invariant.first
          c.index-in-loop-entry.result.now c.index-in-loop-entry.ensures)
          (λ v. ap (λ (bit : NodeId). means c.loop-entry.dd.table bit v) c.moved_bit-bit.ensures
          ∙ bit_seen c.args.dd.now.table c.loop-entry.dd.table c.args.order.now c.args.bits.now _
          c.loop-entry.invariant.extends c.requires.bits v)
          c.in_ok-id.ensures.answer c.in_ok-push-3.ensures.items;
    }

pub returns-clause-loaded : goal.returns-clause-loaded
returns-clause-loaded c =
    all_moved (seen c.args.dd.now.table c.args.order.now c.args.bits.now) c.args.nodes.now c.loop-entry.dd.table
    c.loop-entry.entry-index c.loop-entry.ids.items
    (omega arith) c.loop-entry.invariant.first
