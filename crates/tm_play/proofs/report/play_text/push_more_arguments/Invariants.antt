use Rattle.std.proofs.Common.{◌≡◌, ◌++◌, codes, drop}
use Rattle.std.specs.List.{flat_map}
use Rattle.std.specs.Fmt.{decimal}
use Rattle.tm_play.proofs.report.play_text.push_more_arguments.Given as goal

abbrev pub invariant-loop-arg : goal.invariant-loop-arg
invariant-loop-arg l =
    l.line.items ++ flat_map (λ b. codes ", " ++ decimal b) (drop l.arg-index l.args)
    ≡ l.initial.line.items ++ flat_map (λ b. codes ", " ++ decimal b) l.args
