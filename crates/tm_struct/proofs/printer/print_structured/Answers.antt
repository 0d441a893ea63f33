use Rattle.std.proofs.Common.{◌≡◌, ap}
use Rattle.tm_syntax.specs.Design.View.{design_tree}
use Rattle.tm_struct.specs.View.{action_tree, action_trees, program_tree}
use Rattle.tm_struct.specs.Layout.{program_text}
use Rattle.tm_struct.proofs.Whole.{is_laid_out, reads_so, reads_only_so}
use Rattle.tm_struct.proofs.printer.print_structured.Goals as goal

laid_out : (c : goal.In_ok-push_body) →
    c.push_body.new.text.items ≡ program_text (design_tree c.args.design.now) (program_tree c.args.program.now)
laid_out c =
    is_laid_out (design_tree c.args.design.now) (action_trees c.deref.result.now) _ (action_tree
    c.args.program.now.main)
    _ _ _ _ _ c.new-text.ensures.items c.in_ok-push.ensures c.in_ok-push_functions.ensures c.in_ok-push-2.ensures
    c.in_ok-push_body.ensures (ap action_trees c.deref.ensures.value)

pub returns-clause-reads_so : goal.returns-clause-reads_so
returns-clause-reads_so c = reads_so c.args.design.now c.args.program.now c.push_body.new.text.items c.requires
    (laid_out c)

pub returns-clause-reads_only_so : goal.returns-clause-reads_only_so
returns-clause-reads_only_so c = reads_only_so c.args.design.now c.args.program.now c.push_body.new.text.items
    c.requires (laid_out c)
