use Rattle.std.proofs.Common.{ap, ◌∙◌, arith}
use Rattle.std.specs.List.{list_any}
use Rattle.std.proofs.lemmas.List.{take_all}
use Rattle.std.proofs.lemmas.Option.{slice_get-get_or}
use Rattle.tm_dd.specs.declared.node.NodeId.{NodeId}
use Rattle.tm_dd.specs.Table.{means}
use Rattle.tm_dd.proofs.Meaning.{means-FALSE}
use Rattle.tm_envcheck.proofs.Falling.{union_more}
use Rattle.tm_game.proofs.Growing.{grows_none, grows_then, set_kept}
use Rattle.tm_game.proofs.MadeSets.{false_set}
use Rattle.tm_envcheck.proofs.stuck.union.Goals as goal

pub loop-set-init : goal.loop-set-init
loop-set-init c = record {
  grows = grows_none c.args.game.now;
  held = false_set c.args.game.now;
  value = λ v. means-FALSE c.args.game.now.diagrams.table v;
}

pub either-requires-clause-b : goal.either-requires-clause-b
either-requires-clause-b c =
    set_kept c.args.game.now c.loop-set.game c.loop-set.invariant.grows _
    (c.requires c.loop-set.set-index _
    (slice_get-get_or c.args.chain.now c.loop-set.set-index (record { 0 = 0 }) c.loop-set-test.true))

pub loop-set-preserved : goal.loop-set-preserved
loop-set-preserved c = record {
  grows = grows_then _ _ _ c.loop-set.invariant.grows c.either.ensures.grows;
  held = c.in_ok-held.ensures.set;
  value = union_more c.args.game.now c.loop-set.game c.either.new.game c.loop-set.invariant.grows c.args.chain.now
      c.loop-set.set-index c.loop-set.held c.in_ok-held.held c.loop-set-test.true (record { 0 = 0 })
      (c.requires c.loop-set.set-index _
      (slice_get-get_or c.args.chain.now c.loop-set.set-index (record { 0 = 0 }) c.loop-set-test.true))
      c.loop-set.invariant.value c.in_ok-held.ensures.value;
}

pub returns-clause-value : goal.returns-clause-value
returns-clause-value c = λ v.
    c.loop-set.invariant.value v
    ∙ ap (list_any (λ (id : NodeId). means c.args.game.now.diagrams.table id v))
    (take_all c.loop-set.set-index c.args.chain.now (omega arith))
