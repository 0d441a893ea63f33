use Rattle.std.proofs.Common.{◌≡◌, ℕ, Global, List, Vec, length, map, refl, sym, ap, ◌∙◌, subst, arith}
use Rattle.std.proofs.lemmas.Option.{slice_get_read}
use Rattle.tm_dd.specs.declared.node.NodeId.{NodeId}
use Rattle.tm_numbering.specs.Parts.{ArePairs}
use Rattle.tm_numbering.proofs.Growth.{stay_none, stay_then}
use Rattle.tm_numbering.proofs.Items.{map_more}
use Rattle.tm_numbering.proofs.Pairs.{pairs_more, pairs_none, pairs_weaker}
use Rattle.tm_solve.specs.declared.iterates.Chain.{Chain}
use Rattle.tm_solve.specs.Iterates.{Each, KnowsChain}
use Rattle.tm_solve_exact.specs.Exact.{IsStateSet, exact_ids}
use Rattle.tm_strat_cert.specs.Inner.Placed.{SetsPlaced}
use Rattle.tm_strat_cert.proofs.Later.{each_at, sets_later}
use Rattle.tm_strat_cert.proofs.chains.place_chains.Goals as goal

pub loop-chain-init : goal.loop-chain-init
loop-chain-init c = record {
  numbered = c.requires.numbered;
  stay = stay_none c.args.kept.now.keys;
  pairs = pairs_none (λ (x : Chain) (sets : List ℕ). SetsPlaced c.args.kept.now.keys x.sets.items sets)
      c.args.chains.now (map (λ (v : Vec ℕ Global). v.items) c.new-placed.result.items)
      (ap (map (λ (v : Vec ℕ Global). v.items)) c.new-placed.ensures.items);
}

pub place_chain-requires-clause-known : goal.place_chain-requires-clause-known
place_chain-requires-clause-known c =
    subst (Each (IsStateSet c.args.game.now)) (sym c.as_slice.ensures.value)
    (each_at (KnowsChain (exact_ids c.args.game.now)) c.args.chains.now c.loop-chain.chain-index c.chain-item.result
    c.requires.known
    (slice_get_read c.args.chains.now (length c.args.chains.now) c.loop-chain.chain-index c.chain-item.result refl
    c.loop-chain-test.true c.chain-item.is))

pub loop-chain-preserved : goal.loop-chain-preserved
loop-chain-preserved c = record {
  numbered = c.in_ok-sets.ensures.numbered;
  stay = stay_then c.args.kept.now.keys c.loop-chain.kept.keys c.place_chain.new.kept.keys c.loop-chain.invariant.stay
      c.in_ok-sets.ensures.stay;
  pairs = pairs_more (λ (x : Chain) (sets : List ℕ). SetsPlaced c.place_chain.new.kept.keys x.sets.items sets)
      c.args.chains.now (map (λ (v : Vec ℕ Global). v.items) c.loop-chain.placed.items)
      (map (λ (v : Vec ℕ Global). v.items) c.push.new.self.items) c.loop-chain.chain-index c.chain-item.result
      c.in_ok-sets.sets.items
      (ap (map (λ (v : Vec ℕ Global). v.items)) c.in_ok-push.ensures.items
      ∙ map_more (λ (v : Vec ℕ Global). v.items) c.loop-chain.placed.items c.in_ok-sets.sets)
      (slice_get_read c.args.chains.now (length c.args.chains.now) c.loop-chain.chain-index c.chain-item.result refl
      c.loop-chain-test.true c.chain-item.is)
      (subst (λ (xs : List NodeId). SetsPlaced c.place_chain.new.kept.keys xs c.in_ok-sets.sets.items)
      c.as_slice.ensures.value c.in_ok-sets.ensures.part)
      (pairs_weaker (λ (x : Chain) (sets : List ℕ). SetsPlaced c.loop-chain.kept.keys x.sets.items sets)
      (λ (x : Chain) (sets : List ℕ). SetsPlaced c.place_chain.new.kept.keys x.sets.items sets) c.args.chains.now
      (map (λ (v : Vec ℕ Global). v.items) c.loop-chain.placed.items) c.loop-chain.chain-index
      (sets_later c.loop-chain.kept.keys c.place_chain.new.kept.keys c.in_ok-sets.ensures.stay)
      c.loop-chain.invariant.pairs);
}

pub returns : goal.returns
returns c =
    let all : c.loop-chain.chain-index ≡ length c.args.chains.now = omega arith in
    record {
      numbered = c.loop-chain.invariant.numbered;
      stay = c.loop-chain.invariant.stay;
      part = subst
          (λ (n : ℕ). ArePairs (λ (x : Chain) (sets : List ℕ). SetsPlaced c.loop-chain.kept.keys x.sets.items sets)
          c.args.chains.now (map (λ (v : Vec ℕ Global). v.items) c.loop-chain.placed.items) n)
          all c.loop-chain.invariant.pairs;
    }
