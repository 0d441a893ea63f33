use Rattle.std.proofs.Common.{◌≡◌, ◌++◌, ◌∷◌, map}
use Rattle.std.specs.Fmt.{decimal}
use Rattle.std.specs.List.{range_with_len}
use Rattle.tm_inst.specs.Inner.Listed.{var_of}
use Rattle.tm_inst.proofs.vars.push_elements.Given as goal

abbrev pub invariant-loop-index : goal.invariant-loop-index
invariant-loop-index l =
    l.vars.items
    ≡ l.initial.vars.items ++ map (λ p. var_of l.number p l.ty l.init)
    (map (λ k. l.base ++ 46 ∷ decimal k) (range_with_len 0 l.index))
