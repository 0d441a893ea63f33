use Rattle.std.proofs.Common.{ap, ◌∙◌}
use Rattle.tm_cert.specs.Written.{list_data, number_data}
use Rattle.tm_cert.proofs.Writing.{written_lists, written_more}
use Rattle.tm_cert.proofs.write.chains_value.Goals as goal

pub loop-chain-preserved : goal.loop-chain-preserved
loop-chain-preserved c =
    written_more (λ part. list_data number_data part.items) c.args.chains.now c.loop-chain.chain-index
    c.chain-item.result c.loop-chain.items.items _ _
    c.loop-chain.invariant c.loop-chain-test.true
    (c.in_ok-chain_value.ensures ∙ ap (list_data number_data) c.deref.ensures.value
    ∙ ap (λ part. list_data number_data part.items) c.chain-item.is)
    c.in_ok-push.ensures.items

pub returns : goal.returns
returns c =
    written_lists (list_data number_data) c.args.chains.now c.loop-chain.chain-index c.loop-chain.items
    c.loop-chain.invariant
    c.loop-chain-test.false
