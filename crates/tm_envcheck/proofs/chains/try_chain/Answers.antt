use Rattle.std.proofs.Common.{sym, subst}
use Rattle.std.proofs.lemmas.Result.{IfOk-weaker}
use Rattle.tm_envcheck.specs.declared.chains.ChainCondition.{ChainCondition}
use Rattle.tm_envcheck.specs.Inner.Parts.{RestsOnChain, chain_parts_at}
use Rattle.tm_envcheck.specs.Tried.{AreTried}
use Rattle.tm_envcheck.proofs.chains.try_chain.Goals as goal

pub shaped-requires-clause-chain : goal.shaped-requires-clause-chain
shaped-requires-clause-chain c = c.requires.level.chains c.args.fair c.args.chain.now c.requires.chain

pub holding-requires-clause-chain : goal.holding-requires-clause-chain
holding-requires-clause-chain c = c.requires.level.chains c.args.fair c.args.chain.now c.requires.chain

pub returns-in-Shaped-clause-tried : goal.returns-in-Shaped-clause-tried
returns-in-Shaped-clause-tried c =
    IfOk-weaker c.shaped.result _ _
    (λ v tried d of k can tells rests.
    subst (λ (t : ChainCondition). AreTried d of (chain_parts_at t of k c.args.fair) v) (sym c.in-Shaped.is)
    (tried d of k c.args.fair can tells c.requires.chain))
    c.shaped.ensures.tried

pub returns-in-Holding-clause-tried : goal.returns-in-Holding-clause-tried
returns-in-Holding-clause-tried c =
    IfOk-weaker c.holding.result _ _
    (λ v tried d of k can tells rests.
    subst (λ (t : ChainCondition). AreTried d of (chain_parts_at t of k c.args.fair) v) (sym c.in-Holding.is)
    (tried d of k c.args.fair can tells c.requires.chain))
    c.holding.ensures.tried

pub returns-in-Waiting-clause-tried : goal.returns-in-Waiting-clause-tried
returns-in-Waiting-clause-tried c =
    IfOk-weaker c.waiting.result _ _
    (λ v tried d of k can tells rests.
    subst (λ (t : ChainCondition). AreTried d of (chain_parts_at t of k c.args.fair) v) (sym c.in-Waiting.is)
    (tried d of k can tells
    (subst (λ (t : ChainCondition). RestsOnChain d of t k c.args.fair) c.in-Waiting.is rests)))
    c.waiting.ensures.tried
