use Rattle.std.proofs.Common.{◌≡◌, ◌<◌, ℕ, Bool, Option, Some, length, ap, subst, arith, if◌then◌else◌}
use Rattle.std.proofs.lemmas.List.{take_all}
use Rattle.std.specs.Option.{option_copied, option_map}
use Rattle.tm_syntax.specs.declared.tree.Ident.{Ident}
use Rattle.tm_syntax.specs.declared.tree.Template.{Template}
use Rattle.tm_syntax.specs.Faults.Cycles.{TemplateMark}
use Rattle.tm_syntax.specs.Faults.Marks.{named}
use Rattle.tm_limits.specs.Firsts.{IsFirstOf}
use Rattle.tm_limits.specs.Inner.Cycles.{IsMarked, marks_of}
use Rattle.tm_limits.proofs.Cyclic.{marked_more}
use Rattle.tm_limits.proofs.templates.cycle.first_marked.Goals as goal
use Rattle.tm_limits.proofs.templates.cycle.first_marked.Goals.{then-comes_first, else-comes_first}

pub loop-number-preserved : goal.loop-number-preserved
loop-number-preserved c =
    let marks = c.args.marks.now in
    let templates = c.args.templates.now in
    let i : ℕ = c.loop-number.number in
    let t : Template = c.index-templates-number.result in
    let first : Option Ident = option_copied c.loop-number.first in
    let within : i < length templates = omega arith in
    let more = λ (found : Bool) (next : Option Ident) (chosen : next ≡ (if found then Some t.name else first)).
    marked_more marks templates i t first next found within c.index-templates-number.is chosen in
    elim c.if-comes_first.branch [
      | then-comes_first w ↦
          more _ (option_copied c.if-comes_first.first) (ap option_copied w.first-is) w.if-comes_first.ensures
          c.loop-number.invariant
      | else-comes_first w ↦
          more _ (option_copied c.if-comes_first.first) (ap option_copied w.first-is) w.if-comes_first.ensures
          c.loop-number.invariant
    ]

pub returns : goal.returns
returns c =
    subst (λ ts. IsFirstOf (λ (t : TemplateMark). t.mark) (λ (t : TemplateMark). IsMarked c.args.marks.now t.number)
    (marks_of ts) (option_map named (option_copied c.loop-number.first)))
    (take_all c.loop-number.number c.args.templates.now (omega arith)) c.loop-number.invariant
