use Rattle.std.proofs.Common.{◌≡◌, ◌+◌, List, [], ◌∷◌, ◌++◌, length, sym, ap, ◌∙◌, subst, arith}
use Rattle.std.proofs.lemmas.Option.{slice_get-get_or}
use Rattle.tm_dd.proofs.CallerLaws.{RanksRise-Extends}
use Rattle.tm_dd.specs.declared.node.NodeId.{NodeId}
use Rattle.tm_dd.specs.declared.node.TheConstants.{FALSE, TRUE}
use Rattle.tm_verdict.specs.Inner.Loading.{AreFirst}
use Rattle.tm_game.proofs.Growing.{grows_none, grows_then}
use Rattle.tm_verdict.proofs.Loading.{all_loaded, begun, first_kept, hi_before, hi_deeper, hi_is, level_below, lo_before, lo_deeper, lo_is, one_more}
use Rattle.tm_verdict.proofs.nodes.load_nodes.Goals as goal

pub loop-entry-init : goal.loop-entry-init
loop-entry-init c =
    let items : c.push-2.new.self.items ≡ FALSE ∷ TRUE ∷ [] =
    c.in_ok-push-2.ensures.items
    ∙ ap (λ (ids : List NodeId). ids ++ TRUE ∷ [])
    (c.in_ok-push.ensures.items ∙ ap (λ (ids : List NodeId). ids ++ FALSE ∷ []) c.new-ids.ensures.items) in
    record {
      grows = grows_none c.args.game.now;
      first = subst (AreFirst c.args.game.now.diagrams.table (length c.args.game.now.order) c.args.nodes.now 0)
          (sym items)
          (begun c.args.game.now.diagrams.table (length c.args.game.now.order) c.args.nodes.now);
    }

pub index-requires : goal.index-requires
index-requires c =
    let before = lo_before (length c.args.game.now.order) c.args.nodes.now c.requires.nodes c.loop-entry.entry-index _
    (slice_get-get_or c.args.nodes.now c.loop-entry.entry-index (record { level = 0; lo = 0; hi = 0 })
    c.loop-entry-test.true)
    c.loop-entry.ids.items c.loop-entry.game.diagrams.table c.loop-entry.invariant.first in
    omega arith

pub index-requires-in-loop-entry : goal.index-requires-in-loop-entry
index-requires-in-loop-entry c =
    let before = hi_before (length c.args.game.now.order) c.args.nodes.now c.requires.nodes c.loop-entry.entry-index _
    (slice_get-get_or c.args.nodes.now c.loop-entry.entry-index (record { level = 0; lo = 0; hi = 0 })
    c.loop-entry-test.true)
    c.loop-entry.ids.items c.loop-entry.game.diagrams.table c.loop-entry.invariant.first in
    omega arith

pub make-requires-clause-level : goal.make-requires-clause-level
make-requires-clause-level c =
    level_below (length c.args.game.now.order) c.args.nodes.now c.requires.nodes c.loop-entry.entry-index _
    (slice_get-get_or c.args.nodes.now c.loop-entry.entry-index (record { level = 0; lo = 0; hi = 0 })
    c.loop-entry-test.true)
    c.loop-entry.game.diagrams.table
    (omega (arith, c.requires.levels, c.loop-entry.invariant.grows.diagrams.same_levels))

pub make-requires-clause-lo_known : goal.make-requires-clause-lo_known
make-requires-clause-lo_known c =
    (c.loop-entry.invariant.first.each _ _
    (lo_is (length c.args.game.now.order) c.args.nodes.now c.requires.nodes c.loop-entry.entry-index _
    (slice_get-get_or c.args.nodes.now c.loop-entry.entry-index (record { level = 0; lo = 0; hi = 0 })
    c.loop-entry-test.true)
    c.loop-entry.ids.items c.loop-entry.game.diagrams.table c.index.result.now c.loop-entry.invariant.first
    c.index.ensures)).function.known

pub make-requires-clause-hi_known : goal.make-requires-clause-hi_known
make-requires-clause-hi_known c =
    (c.loop-entry.invariant.first.each _ _
    (hi_is (length c.args.game.now.order) c.args.nodes.now c.requires.nodes c.loop-entry.entry-index _
    (slice_get-get_or c.args.nodes.now c.loop-entry.entry-index (record { level = 0; lo = 0; hi = 0 })
    c.loop-entry-test.true)
    c.loop-entry.ids.items c.loop-entry.game.diagrams.table c.index-in-loop-entry.result.now
    c.loop-entry.invariant.first c.index-in-loop-entry.ensures)).function.known

pub make-requires-clause-lo_deeper : goal.make-requires-clause-lo_deeper
make-requires-clause-lo_deeper c =
    lo_deeper (length c.args.game.now.order) c.args.nodes.now c.requires.nodes c.loop-entry.entry-index _
    (slice_get-get_or c.args.nodes.now c.loop-entry.entry-index (record { level = 0; lo = 0; hi = 0 })
    c.loop-entry-test.true)
    c.loop-entry.ids.items c.loop-entry.game.diagrams.table c.index.result.now
    c.loop-entry.invariant.first
    (lo_is (length c.args.game.now.order) c.args.nodes.now c.requires.nodes c.loop-entry.entry-index _
    (slice_get-get_or c.args.nodes.now c.loop-entry.entry-index (record { level = 0; lo = 0; hi = 0 })
    c.loop-entry-test.true)
    c.loop-entry.ids.items c.loop-entry.game.diagrams.table c.index.result.now c.loop-entry.invariant.first
    c.index.ensures)

pub make-requires-clause-hi_deeper : goal.make-requires-clause-hi_deeper
make-requires-clause-hi_deeper c =
    hi_deeper (length c.args.game.now.order) c.args.nodes.now c.requires.nodes c.loop-entry.entry-index _
    (slice_get-get_or c.args.nodes.now c.loop-entry.entry-index (record { level = 0; lo = 0; hi = 0 })
    c.loop-entry-test.true)
    c.loop-entry.ids.items c.loop-entry.game.diagrams.table c.index-in-loop-entry.result.now
    c.loop-entry.invariant.first
    (hi_is (length c.args.game.now.order) c.args.nodes.now c.requires.nodes c.loop-entry.entry-index _
    (slice_get-get_or c.args.nodes.now c.loop-entry.entry-index (record { level = 0; lo = 0; hi = 0 })
    c.loop-entry-test.true)
    c.loop-entry.ids.items c.loop-entry.game.diagrams.table c.index-in-loop-entry.result.now
    c.loop-entry.invariant.first c.index-in-loop-entry.ensures)

pub returns-in_err-id-clause-grows : goal.returns-in_err-id-clause-grows
returns-in_err-id-clause-grows c = grows_then _ _ _ c.loop-entry.invariant.grows c.make.ensures.grows

pub returns-in_err-push-3-clause-grows : goal.returns-in_err-push-3-clause-grows
returns-in_err-push-3-clause-grows c = grows_then _ _ _ c.loop-entry.invariant.grows c.make.ensures.grows

pub loop-entry-preserved : goal.loop-entry-preserved
loop-entry-preserved c =
    let grown = first_kept c.loop-entry.game.diagrams.table c.make.new.self.diagrams.table
    (length c.args.game.now.order) c.args.nodes.now c.loop-entry.entry-index c.loop-entry.ids.items
    c.make.ensures.grows.diagrams c.loop-entry.invariant.first in
    let more = one_more (length c.args.game.now.order) c.args.nodes.now c.requires.nodes c.loop-entry.entry-index _
    (slice_get-get_or c.args.nodes.now c.loop-entry.entry-index (record { level = 0; lo = 0; hi = 0 })
    c.loop-entry-test.true)
    c.loop-entry.ids.items c.make.new.self.diagrams.table
    (RanksRise-Extends c.loop-entry.game.diagrams.table c.make.new.self.diagrams.table c.make.ensures.grows.diagrams
    (length c.args.game.now.order)
    (RanksRise-Extends c.args.game.now.diagrams.table c.loop-entry.game.diagrams.table
    c.loop-entry.invariant.grows.diagrams (length c.args.game.now.order) c.order-order.ensures.rises))
    c.index.result.now c.index-in-loop-entry.result.now c.in_ok-id.id grown
    (lo_is (length c.args.game.now.order) c.args.nodes.now c.requires.nodes c.loop-entry.entry-index _
    (slice_get-get_or c.args.nodes.now c.loop-entry.entry-index (record { level = 0; lo = 0; hi = 0 })
    c.loop-entry-test.true)
    c.loop-entry.ids.items c.loop-entry.game.diagrams.table c.index.result.now c.loop-entry.invariant.first
    c.index.ensures)
    (hi_is (length c.args.game.now.order) c.args.nodes.now c.requires.nodes c.loop-entry.entry-index _
    (slice_get-get_or c.args.nodes.now c.loop-entry.entry-index (record { level = 0; lo = 0; hi = 0 })
    c.loop-entry-test.true)
    c.loop-entry.ids.items c.loop-entry.game.diagrams.table c.index-in-loop-entry.result.now
    c.loop-entry.invariant.first c.index-in-loop-entry.ensures)
    c.in_ok-id.ensures.answer c.in_ok-id.ensures.deep in
    record {
      grows = grows_then _ _ _ c.loop-entry.invariant.grows c.make.ensures.grows;
      first = subst (AreFirst c.make.new.self.diagrams.table (length c.args.game.now.order) c.args.nodes.now
          (c.loop-entry.entry-index + 1))
          (sym c.in_ok-push-3.ensures.items) more;
    }

pub returns-clause-loaded : goal.returns-clause-loaded
returns-clause-loaded c =
    all_loaded c.loop-entry.game.diagrams.table (length c.args.game.now.order) c.args.nodes.now c.loop-entry.entry-index
    c.loop-entry.ids.items
    (omega arith) c.loop-entry.invariant.first
