use Rattle.std.proofs.Common.{◌≡◌, [], drop}
use Rattle.serde_json.specs.View.{items_view}
use Rattle.tm_cert.specs.Judged.{each}
use Rattle.tm_cert.specs.Order.{place_at}
use Rattle.tm_cert.specs.Path.{path_text}
use Rattle.tm_cert.proofs.order.read_places.Given as goal

abbrev pub invariant-loop-value : goal.invariant-loop-value
invariant-loop-value l =
    let judge = place_at (path_text l.path) l.bits in
    each judge [] (items_view l.places) ≡ each judge l.order.keys (items_view (drop l.value-index l.places))
