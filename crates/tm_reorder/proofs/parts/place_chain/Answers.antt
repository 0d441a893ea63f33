use Rattle.std.proofs.Common.{◌≡◌, ℕ, ◌<◌, length, get_or, subst, arith}
use Rattle.std.proofs.lemmas.Option.{slice_get-get_or}
use Rattle.tm_numbering.specs.Parts.{ArePairs}
use Rattle.tm_numbering.proofs.Growth.{stay_none, stay_then}
use Rattle.tm_numbering.proofs.Items.{at_index}
use Rattle.tm_numbering.proofs.Pairs.{pairs_more, pairs_none, pairs_weaker}
use Rattle.tm_reorder.specs.Inner.Parts.{Stands}
use Rattle.tm_reorder.proofs.Parting.{stands_later}
use Rattle.tm_reorder.proofs.parts.place_chain.Goals as goal

pub loop-set-init : goal.loop-set-init
loop-set-init c = record {
  entries = c.requires.entries;
  stay = stay_none c.args.kept.now.keys;
  pairs = pairs_none (Stands c.args.ids.now c.args.kept.now.keys) c.args.chain.now c.new-placed.result.items
      c.new-placed.ensures.items;
}

pub place-requires-clause-set : goal.place-requires-clause-set
place-requires-clause-set c =
    at_index (λ (set : ℕ). set < length c.args.ids.now) c.args.chain.now c.loop-set.set-index _ c.requires.sets
    (slice_get-get_or c.args.chain.now c.loop-set.set-index 0 c.loop-set-test.true)

pub loop-set-preserved : goal.loop-set-preserved
loop-set-preserved c =
    let ids = c.args.ids.now in
    let before = c.loop-set.kept.keys in
    let after = c.place.new.kept.keys in
    let chain = c.args.chain.now in
    let index = c.loop-set.set-index in
    record {
      entries = c.in_ok-number.ensures.numbered;
      stay = stay_then c.args.kept.now.keys before after c.loop-set.invariant.stay c.in_ok-number.ensures.stay;
      pairs = pairs_more (Stands ids after) chain c.loop-set.placed.items c.push.new.self.items index
          (get_or chain index 0) c.in_ok-number.number c.in_ok-push.ensures.items
          (slice_get-get_or chain index 0 c.loop-set-test.true) c.in_ok-number.ensures.part
          (pairs_weaker (Stands ids before) (Stands ids after) chain c.loop-set.placed.items index
          (stands_later ids before after c.in_ok-number.ensures.stay) c.loop-set.invariant.pairs);
    }

pub returns : goal.returns
returns c =
    let all : c.loop-set.set-index ≡ length c.args.chain.now = omega arith in
    record {
      numbered = c.loop-set.invariant.entries;
      stay = c.loop-set.invariant.stay;
      part = subst
          (λ (n : ℕ). ArePairs (Stands c.args.ids.now c.loop-set.kept.keys) c.args.chain.now c.loop-set.placed.items n)
          all c.loop-set.invariant.pairs;
    }
