use Rattle.std.proofs.Common.{◌≡◌, ℕ, length, subst, arith}
use Rattle.std.proofs.lemmas.Option.{slice_get-get_or}
use Rattle.tm_numbering.specs.Numbers.{HasNumber}
use Rattle.tm_numbering.specs.Parts.{ArePairs}
use Rattle.tm_numbering.proofs.Growth.{stay_none, stay_then}
use Rattle.tm_numbering.proofs.Pairs.{pairs_more, pairs_none, pairs_weaker}
use Rattle.tm_solve_exact.specs.Exact.{IsStateSet}
use Rattle.tm_strat_cert.proofs.Later.{each_at, set_later}
use Rattle.tm_strat_cert.proofs.chains.place_chain.Goals as goal

pub loop-set-init : goal.loop-set-init
loop-set-init c = record {
  numbered = c.requires.numbered;
  stay = stay_none c.args.kept.now.keys;
  pairs = pairs_none (HasNumber c.args.kept.now.keys) c.args.sets.now c.new-placed.result.items
      c.new-placed.ensures.items;
}

pub place-requires-clause-set : goal.place-requires-clause-set
place-requires-clause-set c =
    each_at (IsStateSet c.args.game.now) c.args.sets.now c.loop-set.set-index _ c.requires.known
    (slice_get-get_or c.args.sets.now c.loop-set.set-index (record { 0 = 0 }) c.loop-set-test.true)

pub loop-set-preserved : goal.loop-set-preserved
loop-set-preserved c = record {
  numbered = c.in_ok-n.ensures.numbered;
  stay = stay_then c.args.kept.now.keys c.loop-set.kept.keys c.place.new.kept.keys c.loop-set.invariant.stay
      c.in_ok-n.ensures.stay;
  pairs = pairs_more (HasNumber c.place.new.kept.keys) c.args.sets.now c.loop-set.placed.items c.push.new.self.items
      c.loop-set.set-index _ c.in_ok-n.n c.in_ok-push.ensures.items
      (slice_get-get_or c.args.sets.now c.loop-set.set-index (record { 0 = 0 }) c.loop-set-test.true)
      c.in_ok-n.ensures.part
      (pairs_weaker (HasNumber c.loop-set.kept.keys) (HasNumber c.place.new.kept.keys) c.args.sets.now
      c.loop-set.placed.items c.loop-set.set-index
      (set_later c.loop-set.kept.keys c.place.new.kept.keys c.in_ok-n.ensures.stay)
      c.loop-set.invariant.pairs);
}

pub returns : goal.returns
returns c =
    let all : c.loop-set.set-index ≡ length c.args.sets.now = omega arith in
    record {
      numbered = c.loop-set.invariant.numbered;
      stay = c.loop-set.invariant.stay;
      part = subst
          (λ (n : ℕ). ArePairs (HasNumber c.loop-set.kept.keys) c.args.sets.now c.loop-set.placed.items n)
          all c.loop-set.invariant.pairs;
    }
