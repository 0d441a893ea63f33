use Rattle.std.proofs.Common.{◌<◌, List, [], length, get_or, sym, subst, arith}
use Rattle.std.proofs.lemmas.List.{get_or_default}
use Rattle.tm_dd.specs.declared.node.NodeId.{NodeId}
use Rattle.tm_dd.specs.Table.{means}
use Rattle.tm_dd.proofs.CallerLaws.{Extends-refl, Extends-trans}
use Rattle.tm_game_bits.specs.Diagrams.{IsSetOf}
use Rattle.tm_game_bits.specs.Functions.{Function}
use Rattle.tm_game_bits.proofs.Extended.{Knows-Extends, means-Extends}
use Rattle.tm_game_steps.specs.Sets.{AreSets, IsAlwaysOneIn}
use Rattle.tm_game_steps.specs.Setting.{setting_of}
use Rattle.tm_game_steps.proofs.SetsOf.{sets_all, sets_more, sets_none}
use Rattle.tm_game_steps.proofs.encoding.Encoding.always_sets.Goals as goal

pub loop-id-init : goal.loop-id-init
loop-id-init c = record {
  extends = Extends-refl c.args.dd.now.table;
  ready = c.requires.ready;
  sets = subst (λ (nodes : List NodeId).
      AreSets c.args.dd.now.table
      (IsAlwaysOneIn (setting_of c.args.self.now) (means c.args.dd.now.table c.args.valid)) [] nodes)
      (sym c.new-nodes.ensures.items)
      (sets_none c.args.dd.now.table
      (IsAlwaysOneIn (setting_of c.args.self.now) (means c.args.dd.now.table c.args.valid)));
}

pub always-requires-clause-valid : goal.always-requires-clause-valid
always-requires-clause-valid c = Knows-Extends _ _ c.loop-id.invariant.extends _ c.requires.valid

pub always-requires-clause-term : goal.always-requires-clause-term
always-requires-clause-term c = c.requires.terms c.loop-id.id-index _ c.loop-id-test.true

pub loop-id-preserved : goal.loop-id-preserved
loop-id-preserved c =
    let within : c.loop-id.id-index < length c.args.ids.now = c.loop-id-test.true in
    let same = means-Extends c.args.dd.now.table c.loop-id.dd.table c.loop-id.invariant.extends c.args.valid
    c.requires.valid in
    let is = subst (λ (f : Function).
    IsSetOf c.always.new.dd.table
    (IsAlwaysOneIn (setting_of c.args.self.now) f (get_or c.args.ids.now c.loop-id.id-index (record { 0 = 0 })))
    c.in_ok-node.node) same c.in_ok-node.ensures.set in
    record {
      extends = Extends-trans _ _ _ c.loop-id.invariant.extends c.always.ensures.earlier;
      ready = c.always.ensures.ready;
      sets = sets_more c.loop-id.dd.table c.always.new.dd.table
          (IsAlwaysOneIn (setting_of c.args.self.now) (means c.args.dd.now.table c.args.valid)) c.args.ids.now
          c.loop-id.id-index
          (get_or c.args.ids.now c.loop-id.id-index (record { 0 = 0 })) c.loop-id.nodes.items c.push.new.self.items
          c.in_ok-node.node within
          (get_or_default c.args.ids.now c.loop-id.id-index (record { 0 = 0 })
          (get_or c.args.ids.now c.loop-id.id-index (record { 0 = 0 })) within)
          c.always.ensures.earlier c.loop-id.invariant.sets is c.in_ok-push.ensures.items;
    }

pub returns-in_err-node-clause-earlier : goal.returns-in_err-node-clause-earlier
returns-in_err-node-clause-earlier c = Extends-trans _ _ _ c.loop-id.invariant.extends c.always.ensures.earlier

pub returns-in_err-push-clause-earlier : goal.returns-in_err-push-clause-earlier
returns-in_err-push-clause-earlier c = Extends-trans _ _ _ c.loop-id.invariant.extends c.always.ensures.earlier

pub returns-clause-sets : goal.returns-clause-sets
returns-clause-sets c =
    sets_all c.loop-id.dd.table (IsAlwaysOneIn (setting_of c.args.self.now) (means c.args.dd.now.table c.args.valid))
    c.args.ids.now c.loop-id.id-index c.loop-id.nodes.items (omega arith) c.loop-id.invariant.sets
