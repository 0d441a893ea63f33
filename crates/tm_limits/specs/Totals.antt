-- Counts over a node of a graph and all that lie below it.
use Rattle.std.specs.Prelude.{ℕ, zero, suc, ◌+◌, max, List, [], ◌∷◌}
use Rattle.std.specs.List.{flat_map}
use Rattle.tm_limits.specs.declared.totals.Combination.{Combination}
use Rattle.tm_limits.specs.declared.totals.Combination.TheVariants.{Sum, Greatest}
use Rattle.tm_limits.specs.Orders.{targets}

-- two counts, put together
abbrev pub combined : Combination → ℕ → ℕ → ℕ
combined Sum m n = m + n
combined Greatest m n = max m n

-- some counts, put together
abbrev pub over : Combination → List ℕ → ℕ
over c [] = 0
over c (n ∷ ns) = combined c n (over c ns)

-- a node and all nodes below it, each as often as paths lead to it, where paths are at most so long
abbrev pub nodes_below : ℕ → List (List ℕ) → ℕ → List ℕ
nodes_below zero graph n = []
nodes_below (suc depth) graph n = n ∷ flat_map (nodes_below depth graph) (targets graph n)
