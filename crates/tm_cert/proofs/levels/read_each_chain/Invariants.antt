use Rattle.std.proofs.Common.{◌≡◌, [], drop, map}
use Rattle.serde_json.specs.View.{items_view}
use Rattle.tm_cert.specs.Judged.{at_next, each}
use Rattle.tm_cert.specs.Levels.{chain_at}
use Rattle.tm_cert.specs.Path.{path_text}
use Rattle.tm_cert.proofs.levels.read_each_chain.Given as goal

abbrev pub invariant-loop-value : goal.invariant-loop-value
invariant-loop-value l =
    let judge = at_next (chain_at l.ids) (path_text l.path) in
    each judge [] (items_view l.parts)
    ≡ each judge (map (λ part. part.items) l.chains.items) (items_view (drop l.value-index l.parts))
