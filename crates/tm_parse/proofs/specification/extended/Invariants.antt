use Rattle.std.proofs.Common.{◌≤◌, length}
use Rattle.tm_syntax.specs.Tree.View.{template_tree}
use Rattle.tm_parse.proofs.Templates.{Extending}
use Rattle.tm_parse.proofs.specification.extended.Given as goal

abbrev pub invariant-loop-sort : goal.invariant-loop-sort
invariant-loop-sort l = record {
  so_far : Extending l.text (template_tree l.fn.template) (template_tree l.template) l.tokens l.rest;
  shorter : length l.rest ≤ length l.tokens;
}

abbrev pub decreases-loop-sort : goal.decreases-loop-sort
decreases-loop-sort l = length l.rest
