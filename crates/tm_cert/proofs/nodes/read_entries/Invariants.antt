use Rattle.std.proofs.Common.{◌≡◌, [], drop}
use Rattle.serde_json.specs.View.{items_view}
use Rattle.tm_cert.specs.Judged.{each}
use Rattle.tm_cert.specs.Nodes.{entry_at}
use Rattle.tm_cert.specs.Path.{path_text}
use Rattle.tm_cert.proofs.nodes.read_entries.Given as goal

abbrev pub invariant-loop-value : goal.invariant-loop-value
invariant-loop-value l =
    let judge = entry_at (path_text l.path) l.bits in
    each judge [] (items_view l.entries) ≡ each judge l.nodes.keys (items_view (drop l.value-index l.entries))
