use Rattle.std.proofs.Common.{refl, arith, sym, ap, ◌∙◌, subst, List}
use Rattle.std.proofs.lemmas.List.{map_push}
use Rattle.tm_syntax.specs.declared.token.Sign.TheVariants as sign
use Rattle.tm_syntax.specs.Tree.{ExprTree}
use Rattle.tm_syntax.specs.Tree.View.{expr_tree, expr_trees}
use Rattle.tm_parse.specs.Operands.{AnExpr, GoesExpr}
use Rattle.tm_parse.proofs.Lists.{SoFar, so_far_one, so_far_more, so_far_all, list_blocked, more_blocked}
use Rattle.tm_parse.proofs.Taking.{refused_so}
use Rattle.tm_parse.proofs.Terminals.{without_place}
use Rattle.tm_parse.proofs.Values.{listed_exprs}
use Rattle.tm_parse.proofs.assignments.exprs.Goals as goal

pub returns-in-Err-clause-refused : goal.returns-in-Err-clause-refused
returns-in-Err-clause-refused c =
    refused_so (λ deep here. list_blocked sign.Comma (listed_exprs c.args.text.now c.args.depth).comma) _
    c.in-Err.ensures.refused

pub loop-behind-init : goal.loop-behind-init
loop-behind-init c = record {
  so_far = subst (λ (es : List ExprTree).
      SoFar sign.Comma (AnExpr c.args.text.now 0 c.args.depth) (GoesExpr 0) es c.args.tokens.now c.in-Ok.read.1.now)
      (sym (ap expr_trees c.in_ok-exprs.ensures.items))
      (so_far_one (listed_exprs c.args.text.now c.args.depth).comma c.in-Ok.ensures.taken);
  shorter = omega (arith, c.in-Ok.ensures.shorter);
}

pub returns-in-Err-expr-clause-refused : goal.returns-in-Err-expr-clause-refused
returns-in-Err-expr-clause-refused c =
    refused_so (λ deep here. more_blocked (listed_exprs c.args.text.now c.args.depth).comma
    c.loop-behind.invariant.so_far (without_place c.in-Some.ensures.taken)) _ c.in-Err-expr.ensures.refused

pub loop-behind-preserved : goal.loop-behind-preserved
loop-behind-preserved c = record {
  so_far = subst (λ (es : List ExprTree).
      SoFar sign.Comma (AnExpr c.args.text.now 0 c.args.depth) (GoesExpr 0) es c.args.tokens.now
      c.in-Ok-expr.read.1.now)
      (sym (ap expr_trees c.in_ok-push.ensures.items ∙ map_push expr_tree c.loop-behind.exprs.items
      c.in-Ok-expr.read.0))
      (so_far_more (listed_exprs c.args.text.now c.args.depth).comma c.loop-behind.invariant.so_far
      (without_place c.in-Some.ensures.taken) c.in-Ok-expr.ensures.taken);
  shorter = omega (arith, c.in-Ok-expr.ensures.shorter, c.in-Some.ensures.shorter);
}

pub returns-clause-taken : goal.returns-clause-taken
returns-clause-taken c = so_far_all (c.in_default.ensures.none refl) c.loop-behind.invariant.so_far
