use Rattle.std.proofs.Common.{◌≡◌, map, take}
use Rattle.serde_json.specs.View.{view}
use Rattle.tm_cert.specs.Written.{list_data, number_data}
use Rattle.tm_cert.proofs.write.chains_value.Given as goal

abbrev pub invariant-loop-chain : goal.invariant-loop-chain
invariant-loop-chain l = map view l.items.items ≡ map (λ part. list_data number_data part.items)
    (take l.chain-index l.chains)
