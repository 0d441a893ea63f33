use Rattle.std.proofs.Common.{◌≡◌, map, take}
use Rattle.tm_strat.proofs.making.widths_of.Given as goal

abbrev pub invariant-loop-index : goal.invariant-loop-index
invariant-loop-index l = map (λ row. row.items) l.all.items ≡ map (λ row. row.items) (take l.index l.rows)
