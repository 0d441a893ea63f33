use Rattle.std.proofs.Common.{◌≡◌, ℕ, true, false, sym, ap, subst, ◌∙◌}
use Rattle.tm_cir.specs.View.{truth_tree}
use Rattle.tm_struct.specs.Tree.{choose}
use Rattle.tm_struct.specs.View.{action_tree}
use Rattle.tm_struct.specs.Answer.{LeadsTo, goes_first, goes_second}
use Rattle.tm_struct.specs.Inner.Answering.{FitsAt}
use Rattle.tm_struct.proofs.answering.end_of.Goals as goal

pub is_so-requires : goal.is_so-requires
is_so-requires c =
    (subst (FitsAt c.args.state.now c.requires.0) (ap action_tree c.in-If.is)
    (c.loop-end.invariant.fits c.requires.0 c.requires.1)).0

pub loop-end-preserved-then-is_so : goal.loop-end-preserved-then-is_so
loop-end-preserved-then-is_so c = record {
  fits = λ below fits.
      subst (λ x. FitsAt c.args.state.now below (action_tree x)) (sym c.deref-end.ensures)
      (subst (FitsAt c.args.state.now below) (ap action_tree c.in-If.is) (c.loop-end.invariant.fits below fits)).1;
  leads = λ fs m leads.
      c.loop-end.invariant.leads fs m
      (subst (λ x. LeadsTo fs c.args.state.now c.args.goal x m) (sym (ap action_tree c.in-If.is))
      (goes_first (sym c.is_so.ensures ∙ c.if-is_so.true)
      (subst (λ x. LeadsTo fs c.args.state.now c.args.goal (action_tree x) m) c.deref-end.ensures leads)));
}

pub loop-end-preserved : goal.loop-end-preserved
loop-end-preserved c = record {
  fits = λ below fits.
      subst (λ x. FitsAt c.args.state.now below (action_tree x)) (sym c.deref-end-else-is_so.ensures)
      (subst (FitsAt c.args.state.now below) (ap action_tree c.in-If.is) (c.loop-end.invariant.fits below fits)).2;
  leads = λ fs m leads.
      c.loop-end.invariant.leads fs m
      (subst (λ x. LeadsTo fs c.args.state.now c.args.goal x m) (sym (ap action_tree c.in-If.is))
      (goes_second (sym c.is_so.ensures ∙ c.if-is_so.false)
      (subst (λ x. LeadsTo fs c.args.state.now c.args.goal (action_tree x) m) c.deref-end-else-is_so.ensures leads)));
}
