use Rattle.std.proofs.Common.{◌≡◌, ◌++◌, codes, map, drop}
use Rattle.std.specs.List.{flat_map}
use Rattle.tm_syntax.specs.Design.View.{design_tree}
use Rattle.tm_cir.specs.View.{num_tree}
use Rattle.tm_cprint.specs.Layout.{num_text}
use Rattle.tm_cprint.proofs.printer.push_more_arguments.Given as goal

abbrev pub invariant-loop-arg : goal.invariant-loop-arg
invariant-loop-arg l =
    l.text.items
    ++ flat_map (λ b. codes ", " ++ num_text (design_tree l.design) b) (map num_tree (drop l.arg-index l.args))
    ≡ l.initial.text.items
    ++ flat_map (λ b. codes ", " ++ num_text (design_tree l.design) b) (map num_tree l.args)
