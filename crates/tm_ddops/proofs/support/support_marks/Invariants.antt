use Rattle.std.proofs.Common.{◌≡◌, ℕ, ◌<◌, length, eqb, get_or, false}
use Rattle.std.specs.List.{list_any}
use Rattle.tm_dd.specs.Table.{level_of}
use Rattle.tm_ddops.proofs.support.support_marks.Given as goal

abbrev pub invariant-loop-id : goal.invariant-loop-id
invariant-loop-id l =
    (length l.marks.items ≡ l.store.levels)
    × ((k : ℕ) → k < l.store.levels →
    get_or l.marks.items k false ≡ list_any (λ id. eqb (level_of l.store id.now) k) l.yielded)
