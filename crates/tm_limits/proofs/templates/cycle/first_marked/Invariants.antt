use Rattle.std.proofs.Common.{take}
use Rattle.std.specs.Option.{option_copied, option_map}
use Rattle.tm_syntax.specs.Faults.Cycles.{TemplateMark}
use Rattle.tm_syntax.specs.Faults.Marks.{named}
use Rattle.tm_limits.specs.Firsts.{IsFirstOf}
use Rattle.tm_limits.specs.Inner.Cycles.{IsMarked, marks_of}
use Rattle.tm_limits.proofs.templates.cycle.first_marked.Given as goal

abbrev pub invariant-loop-number : goal.invariant-loop-number
invariant-loop-number l =
    IsFirstOf (λ (t : TemplateMark). t.mark) (λ (t : TemplateMark). IsMarked l.marks t.number)
    (marks_of (take l.number l.templates)) (option_map named (option_copied l.first))
