use Rattle.std.proofs.Common.{◌≡◌, ◌+◌, ◌<◌, ℕ, List, get_or, length, replicate, ap, ◌∙◌, subst, arith}
use Rattle.std.proofs.lemmas.List.{length-replicate, length-set}
use Rattle.std.proofs.lemmas.Option.{slice_get-get_or}
use Rattle.tm_dd.specs.declared.node.NodeId.{NodeId}
use Rattle.tm_dd.specs.declared.node.TheConstants.{FALSE}
use Rattle.tm_reorder.proofs.Wanted.{AreFirstKeyed, keyed_all, keyed_more, keyed_none, two_more}
use Rattle.tm_reorder.proofs.moving.spread.Goals as goal

pub loop-index-init : goal.loop-index-init
loop-index-init c =
    let items : c.push-2.new.self.items ≡ replicate (c.args.count + 1 + 1) FALSE =
    two_more c.args.count c.in_ok-ids.ids.items c.push.new.self.items c.push-2.new.self.items
    (c.in_ok-ids.ensures.items_if_clones_equal (λ y is. is)) c.in_ok-push.ensures.items c.in_ok-push-2.ensures.items in
    record {
      count =
          let long = ap (λ (ids : List NodeId). length ids) items in
          let all = length-replicate (c.args.count + 1 + 1) FALSE in
          omega (arith, long, all);
      keyed = λ s see nodes count found.
          keyed_none s see nodes c.args.keys.now c.args.values.now c.args.loaded.now found c.args.count _ count items;
    }

pub index_mut-requires : goal.index_mut-requires
index_mut-requires c =
    let low = c.requires.keys c.loop-index.index 0 c.loop-index-test.true in
    omega (arith, low, c.loop-index.invariant.count)

pub loop-index-preserved : goal.loop-index-preserved
loop-index-preserved c =
    let keys = c.args.keys.now in
    let values = c.args.values.now in
    let loaded = c.args.loaded.now in
    let index = c.loop-index.index in
    let key = get_or keys index 0 in
    let value = get_or values index 0 in
    let id = get_or loaded value FALSE in
    let ids = c.loop-index.ids.items in
    let key_below : key < c.args.count + 2 = c.requires.keys index 0 c.loop-index-test.true in
    let within : index < length values = omega (arith, c.loop-index-test.true, c.requires.same) in
    let there : value < length loaded = c.requires.values index 0 within in
    record {
      count = length-set ids key id ∙ c.loop-index.invariant.count;
      keyed = λ s see nodes count found.
          keyed_more s see nodes keys values loaded found index key value id ids
          (slice_get-get_or keys index 0 c.loop-index-test.true) (slice_get-get_or values index 0 within)
          (slice_get-get_or loaded value FALSE there)
          (omega (arith, key_below, c.loop-index.invariant.count))
          (c.loop-index.invariant.keyed s see nodes count found);
    }

pub returns : goal.returns
returns c = λ s see nodes count found.
    let all : c.loop-index.index ≡ length c.args.keys.now = omega arith in
    keyed_all s see nodes c.args.keys.now c.args.values.now c.args.loaded.now found c.loop-index.ids.items
    (subst (λ (done : ℕ). AreFirstKeyed s see nodes c.args.keys.now done c.loop-index.ids.items) all
    (c.loop-index.invariant.keyed s see nodes count found))
