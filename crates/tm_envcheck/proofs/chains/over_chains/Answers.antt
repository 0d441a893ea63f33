use Rattle.std.proofs.Common.{◌≡◌, ◌<◌, ℕ, Some, length, sym, ap, ◌∙◌, subst, arith}
use Rattle.std.specs.Prelude.{slice_get}
use Rattle.std.specs.List.{flat_map, range_with_len}
use Rattle.std.proofs.lemmas.Option.{slice_get-get_or}
use Rattle.tm_envcheck.specs.Inner.Over.{chains_in}
use Rattle.tm_envcheck.specs.Inner.Parts.{chain_parts_at}
use Rattle.tm_envcheck.specs.Tried.{AreTried}
use Rattle.tm_envcheck.proofs.ChainParts.{chain_in, chains_count, chains_long}
use Rattle.tm_envcheck.proofs.Growing.{can_kept, over_kept, ready_kept, told_kept}
use Rattle.tm_game.proofs.Growing.{grows_none, grows_then}
use Rattle.tm_verdict.specs.declared.verdict.Verdict.TheVariants.{Accepted, Refused}
use Rattle.tm_verdict.specs.Environment.{level_meaning}
use Rattle.tm_verdict.proofs.Trying.{refused_stops, tried_all, tried_more, tried_none}
use Rattle.tm_envcheck.proofs.chains.over_chains.Goals as goal

pub loop-fair-init : goal.loop-fair-init
loop-fair-init c = record {
  grows = grows_none c.args.game.now;
  tried = λ d of k can tells rests.
      tried_none (level_meaning d of) (chain_parts_at c.args.tried of k) (length (chains_in c.args.level.now));
}

pub try_chain-requires-clause-ready : goal.try_chain-requires-clause-ready
try_chain-requires-clause-ready c =
    ready_kept c.args.game.now c.loop-fair.game c.loop-fair.invariant.grows c.requires.ready

pub try_chain-requires-clause-level : goal.try_chain-requires-clause-level
try_chain-requires-clause-level c =
    over_kept c.args.game.now c.loop-fair.game c.loop-fair.invariant.grows c.args.level.now c.requires.level

pub try_chain-requires-clause-chain : goal.try_chain-requires-clause-chain
try_chain-requires-clause-chain c =
    let chains = c.as_slice-chains.result.now in
    let i : ℕ = c.loop-fair.fair in
    let within : i < length chains = omega (arith, c.loop-fair-test.true) in
    chain_in c.args.level.now i c.index-chains-fair.result
    (ap (λ cs. slice_get cs i) (sym c.as_slice-chains.ensures.value)
    ∙ slice_get-get_or chains i c.index-chains-fair.result within
    ∙ ap Some (sym c.index-chains-fair.is))
    ∙ ap Some (sym c.as_slice.ensures.value)

pub returns-in_err-try_chain-clause-grows : goal.returns-in_err-try_chain-clause-grows
returns-in_err-try_chain-clause-grows c = grows_then _ _ _ c.loop-fair.invariant.grows c.try_chain.ensures.grows

pub returns-in-Refused-clause-grows : goal.returns-in-Refused-clause-grows
returns-in-Refused-clause-grows c = grows_then _ _ _ c.loop-fair.invariant.grows c.try_chain.ensures.grows

pub returns-in-Refused-clause-tried : goal.returns-in-Refused-clause-tried
returns-in-Refused-clause-tried c = λ d of k can tells rests.
    let i : ℕ = c.loop-fair.fair in
    let within : i < length c.as_slice-chains.result.now = omega (arith, c.loop-fair-test.true) in
    subst
    (λ (n : ℕ). AreTried d of (flat_map (chain_parts_at c.args.tried of k) (range_with_len 0 n))
    (Refused c.in-Refused.condition c.in-Refused.goal c.in-Refused.state))
    (sym (chains_long d c.args.game.now of k c.args.level.now tells))
    (refused_stops (level_meaning d of) (chain_parts_at c.args.tried of k) (length (chains_in c.args.level.now)) i
    c.in-Refused.condition c.in-Refused.goal c.in-Refused.state
    (omega (arith, within, ap length c.as_slice-chains.ensures.value, chains_count c.args.level.now))
    (c.loop-fair.invariant.tried d of k can tells rests)
    (subst (AreTried d of (chain_parts_at c.args.tried of k i)) c.in-Refused.is
    (c.in_ok-try_chain.ensures.tried d of k
    (can_kept c.args.game.now c.loop-fair.game c.loop-fair.invariant.grows d can)
    (told_kept c.args.game.now c.loop-fair.game c.loop-fair.invariant.grows d of k c.args.level.now c.requires.level
    tells) (rests i))))

pub loop-fair-preserved : goal.loop-fair-preserved
loop-fair-preserved c =
    let i : ℕ = c.loop-fair.fair in
    let within : i < length c.as_slice-chains.result.now = omega (arith, c.loop-fair-test.true) in
    record {
      grows = grows_then _ _ _ c.loop-fair.invariant.grows c.try_chain.ensures.grows;
      tried = λ d of k can tells rests.
          tried_more (level_meaning d of) (chain_parts_at c.args.tried of k) (length (chains_in c.args.level.now)) i
          (omega (arith, within, ap length c.as_slice-chains.ensures.value, chains_count c.args.level.now))
          (c.loop-fair.invariant.tried d of k can tells rests)
          (subst (AreTried d of (chain_parts_at c.args.tried of k i)) c.in-Accepted.is
          (c.in_ok-try_chain.ensures.tried d of k
          (can_kept c.args.game.now c.loop-fair.game c.loop-fair.invariant.grows d can)
          (told_kept c.args.game.now c.loop-fair.game c.loop-fair.invariant.grows d of k c.args.level.now
          c.requires.level tells) (rests i)));
    }

pub returns-clause-tried : goal.returns-clause-tried
returns-clause-tried c = λ d of k can tells rests.
    let all : c.loop-fair.fair ≡ length c.as_slice-chains.result.now = omega arith in
    subst
    (λ (n : ℕ). AreTried d of (flat_map (chain_parts_at c.args.tried of k) (range_with_len 0 n)) Accepted)
    (sym (chains_long d c.args.game.now of k c.args.level.now tells))
    (tried_all (level_meaning d of) (chain_parts_at c.args.tried of k) (length (chains_in c.args.level.now))
    c.loop-fair.fair (omega (arith, all, ap length c.as_slice-chains.ensures.value, chains_count c.args.level.now))
    (c.loop-fair.invariant.tried d of k can tells rests))
