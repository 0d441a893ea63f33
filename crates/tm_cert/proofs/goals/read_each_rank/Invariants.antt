use Rattle.std.proofs.Common.{◌≡◌, [], drop}
use Rattle.serde_json.specs.View.{items_view}
use Rattle.tm_cert.specs.Judged.{at_next, each}
use Rattle.tm_cert.specs.Goals.{rank_at}
use Rattle.tm_cert.specs.Path.{path_text}
use Rattle.tm_cert.proofs.goals.read_each_rank.Given as goal

abbrev pub invariant-loop-value : goal.invariant-loop-value
invariant-loop-value l =
    let judge = at_next (rank_at l.fairs l.ids) (path_text l.path) in
    each judge [] (items_view l.parts)
    ≡ each judge l.ranks.items (items_view (drop l.value-index l.parts))
