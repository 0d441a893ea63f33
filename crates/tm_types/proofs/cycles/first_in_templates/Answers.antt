use Rattle.std.proofs.Common.{ℕ, map, sym, ap, ◌∙◌, arith}
use Rattle.std.specs.List.{enumerate_from, flat_map}
use Rattle.std.specs.Option.{option_map}
use Rattle.tm_syntax.specs.Tree.{TemplateTree}
use Rattle.tm_syntax.specs.Tree.View.{template_tree}
use Rattle.tm_syntax.specs.Faults.Cycles.{template_tasks}
use Rattle.tm_syntax.specs.Faults.Marks.{first_mark}
use Rattle.tm_types.specs.Inner.Looping.{looping_mark}
use Rattle.tm_names.specs.ScopeNames.{mark_of}
use Rattle.tm_names.proofs.BodyParts.{flat_map-flat_map}
use Rattle.tm_types.proofs.NumberedParts.{first_from, numbered_all, numbered_more}
use Rattle.tm_types.proofs.cycles.first_in_templates.Goals as goal

pub loop-number-preserved : goal.loop-number-preserved
loop-number-preserved c =
    let faults = λ (t : ℕ × TemplateTree). flat_map (looping_mark c.args.looping.now) (template_tasks t) in
    numbered_more template_tree faults c.args.templates.now c.loop-number.number c.index-templates-number.result
    (option_map mark_of c.loop-number.first) (option_map mark_of c.first_in_template.result)
    (option_map mark_of c.earlier_mark-first.result) (first_from template_tree faults c.args.templates.now 0)
    (omega (arith, c.loop-number-test.true)) c.index-templates-number.is c.first_in_template.ensures
    c.earlier_mark-first.ensures c.loop-number.invariant

pub returns : goal.returns
returns c =
    let faults = λ (t : ℕ × TemplateTree). flat_map (looping_mark c.args.looping.now) (template_tasks t) in
    numbered_all template_tree faults c.args.templates.now c.loop-number.number
    (option_map mark_of c.loop-number.first) (first_from template_tree faults c.args.templates.now 0)
    (omega (arith, c.loop-number-test.false)) c.loop-number.invariant
    ∙ ap first_mark (sym (flat_map-flat_map (looping_mark c.args.looping.now) template_tasks
    (enumerate_from 0 (map template_tree c.args.templates.now))))
