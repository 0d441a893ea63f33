use Rattle.std.proofs.Common.{sym, subst}
use Rattle.tm_syntax.specs.Tree.{element}
use Rattle.tm_syntax.specs.Tree.View.{expr_tree}
use Rattle.tm_scope.specs.Types.{ty_of}
use Rattle.tm_flat_exprs.specs.Kept.{AreKept, KeptTerms}
use Rattle.tm_flat_exprs.specs.Valued.{Finds}
use Rattle.tm_flat_exprs.proofs.Later.{truth_along}
use Rattle.tm_flat_stmts.proofs.Valuing.{operand_so}
use Rattle.tm_flat_stmts.proofs.elements.element.Goals as goal

pub element-requires-clause-ready : goal.element-requires-clause-ready
element-requires-clause-ready c = record {
  settled = c.requires.settled;
  sound = c.requires.sound;
  kept = subst (λ (k : KeptTerms). AreKept c.args.reader.now.tables c.args.terms.now k) (sym c.memory.ensures)
      c.requires.flow.memory.kept;
}

pub fail-requires-clause-failed : goal.fail-requires-clause-failed
fail-requires-clause-failed c =
    truth_along c.args.terms.now c.element.new.terms c.args.ends.now.failed c.in_ok-valued.ensures.grown
    c.requires.ends.failed

pub without-requires-clause-truth : goal.without-requires-clause-truth
without-requires-clause-truth c =
    truth_along c.element.new.terms c.fail.new.terms c.in_ok-valued.valued.overrun c.in_ok-fail.ensures.grown
    c.in_ok-valued.ensures.overrun

pub returns : goal.returns
returns c =
    operand_so c.args.reader.now (ty_of c.args.asked) (element c.args.path.now (expr_tree c.args.index.now))
    c.args.terms.now c.element.new.terms c.fail.new.terms c.without.new.terms c.args.flow c.in_ok-goes.goes
    c.args.ends.now c.fail.new.self c.in_ok-valued.valued c.requires.flow c.requires.ends
    (subst (λ (k : KeptTerms). Finds c.args.reader.now k (ty_of c.args.asked)
    (element c.args.path.now (expr_tree c.args.index.now)) c.args.terms.now c.element.new.terms
    c.in_ok-valued.valued) c.memory.ensures c.in_ok-valued.ensures) c.in_ok-fail.ensures c.in_ok-goes.ensures
