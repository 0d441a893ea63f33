use Rattle.std.proofs.Common.{ℕ, Global, List, Vec, map, refl, sym, subst}
use Rattle.tm_numbering.proofs.Growth.{stay_then}
use Rattle.tm_solve.specs.declared.iterates.Chain.{Chain}
use Rattle.tm_solve.specs.Iterates.{Each, KnowsChain}
use Rattle.tm_solve_exact.specs.Exact.{exact_ids}
use Rattle.tm_strat_cert.specs.Inner.Placed.{ChainsPlaced}
use Rattle.tm_strat_cert.proofs.Later.{set_later}
use Rattle.tm_strat_cert.proofs.chains.place_level.Goals as goal

pub place_chains-requires-clause-known : goal.place_chains-requires-clause-known
place_chains-requires-clause-known c =
    subst (Each (KnowsChain (exact_ids c.args.game.now))) (sym c.as_slice.ensures.value) c.requires.known.1

pub returns : goal.returns
returns c = record {
  numbered = c.in_ok-chains.ensures.numbered;
  stay = stay_then c.args.kept.now.keys c.place.new.kept.keys c.place_chains.new.kept.keys c.in_ok-set.ensures.stay
      c.in_ok-chains.ensures.stay;
  part = record {
    goal = refl;
    set = set_later c.place.new.kept.keys c.place_chains.new.kept.keys c.in_ok-chains.ensures.stay
        c.args.level.now.set c.in_ok-set.set c.in_ok-set.ensures.part;
    chains = subst
        (λ (xs : List Chain). ChainsPlaced c.place_chains.new.kept.keys xs
        (map (λ (v : Vec ℕ Global). v.items) c.in_ok-chains.chains.items)) c.as_slice.ensures.value
        c.in_ok-chains.ensures.part;
  };
}
