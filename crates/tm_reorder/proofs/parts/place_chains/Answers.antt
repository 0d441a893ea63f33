use Rattle.std.proofs.Common.{◌≡◌, ℕ, ◌<◌, List, Vec, Global, length, map, refl, sym, ap, ◌∙◌, subst, arith}
use Rattle.std.specs.Prelude.{All}
use Rattle.std.proofs.lemmas.List.{length-map}
use Rattle.std.proofs.lemmas.Option.{slice_get_read}
use Rattle.tm_numbering.specs.Parts.{ArePairs}
use Rattle.tm_numbering.proofs.Growth.{stay_none, stay_then}
use Rattle.tm_numbering.proofs.Items.{at_index, map_more, mapped_get}
use Rattle.tm_numbering.proofs.Pairs.{pairs_more, pairs_none, pairs_weaker}
use Rattle.tm_reorder.specs.Inner.Parts.{ChainStands}
use Rattle.tm_reorder.proofs.Parting.{chain_later}
use Rattle.tm_reorder.proofs.parts.place_chains.Goals as goal

-- the items of a row
abbrev row : Vec ℕ Global → List ℕ
row v = v.items

pub loop-chain-init : goal.loop-chain-init
loop-chain-init c = record {
  entries = c.requires.entries;
  stay = stay_none c.args.kept.now.keys;
  pairs = pairs_none (ChainStands c.args.ids.now c.args.kept.now.keys) (map row c.args.chains.now)
      (map row c.new-placed.result.items) (ap (map row) c.new-placed.ensures.items);
}

pub place_chain-requires-clause-sets : goal.place_chain-requires-clause-sets
place_chain-requires-clause-sets c =
    subst (All (λ (set : ℕ). set < length c.args.ids.now)) (sym c.as_slice.ensures.value)
    (at_index (All (λ (set : ℕ). set < length c.args.ids.now)) (map row c.args.chains.now) c.loop-chain.chain-index
    c.chain-item.result.items c.requires.sets
    (mapped_get row c.args.chains.now c.loop-chain.chain-index c.chain-item.result
    (slice_get_read c.args.chains.now (length c.args.chains.now) c.loop-chain.chain-index c.chain-item.result refl
    c.loop-chain-test.true c.chain-item.is)))

pub loop-chain-preserved : goal.loop-chain-preserved
loop-chain-preserved c =
    let ids = c.args.ids.now in
    let before = c.loop-chain.kept.keys in
    let after = c.place_chain.new.kept.keys in
    let chains = c.args.chains.now in
    let index = c.loop-chain.chain-index in
    record {
      entries = c.in_ok-row.ensures.numbered;
      stay = stay_then c.args.kept.now.keys before after c.loop-chain.invariant.stay c.in_ok-row.ensures.stay;
      pairs = pairs_more (ChainStands ids after) (map row chains) (map row c.loop-chain.placed.items)
          (map row c.push.new.self.items) index c.chain-item.result.items c.in_ok-row.row.items
          (ap (map row) c.in_ok-push.ensures.items ∙ map_more row c.loop-chain.placed.items c.in_ok-row.row)
          (mapped_get row chains index c.chain-item.result
          (slice_get_read chains (length chains) index c.chain-item.result refl c.loop-chain-test.true c.chain-item.is))
          (subst (λ (xs : List ℕ). ChainStands ids after xs c.in_ok-row.row.items) c.as_slice.ensures.value
          c.in_ok-row.ensures.part)
          (pairs_weaker (ChainStands ids before) (ChainStands ids after) (map row chains)
          (map row c.loop-chain.placed.items) index
          (chain_later ids before after c.in_ok-row.ensures.stay) c.loop-chain.invariant.pairs);
    }

pub returns : goal.returns
returns c =
    let all : c.loop-chain.chain-index ≡ length (map row c.args.chains.now) =
    omega (arith, length-map c.args.chains.now row) in
    record {
      numbered = c.loop-chain.invariant.entries;
      stay = c.loop-chain.invariant.stay;
      part = subst
          (λ (n : ℕ). ArePairs (ChainStands c.args.ids.now c.loop-chain.kept.keys) (map row c.args.chains.now)
          (map row c.loop-chain.placed.items) n)
          all c.loop-chain.invariant.pairs;
    }
