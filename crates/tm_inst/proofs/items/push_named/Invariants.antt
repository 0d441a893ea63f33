use Rattle.std.proofs.Common.{◌≡◌, ◌++◌, map, drop, true}
use Rattle.tm_syntax.specs.Tree.{NamedTree}
use Rattle.tm_syntax.specs.Tree.View.{named_tree}
use Rattle.tm_inst.specs.Inner.Listed.{items_from}
use Rattle.tm_inst.proofs.items.push_named.Given as goal

abbrev pub invariant-loop-index : goal.invariant-loop-index
invariant-loop-index l =
    l.items.items ++ items_from (λ _. true) (λ (g : NamedTree). g.name) l.number l.base l.index
    (map named_tree (drop l.index l.named))
    ≡ l.initial.items.items ++ items_from (λ _. true) (λ (g : NamedTree). g.name) l.number l.base 0
    (map named_tree l.named)
