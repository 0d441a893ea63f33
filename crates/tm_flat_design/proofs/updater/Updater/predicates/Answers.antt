use Rattle.std.proofs.Common.{sym, ap, ◌∙◌, subst}
use Rattle.tm_syntax.specs.declared.design.Design.{Design}
use Rattle.tm_syntax.specs.declared.member.Member.{Member}
use Rattle.tm_syntax.specs.declared.tree.Spec.{Spec}
use Rattle.tm_syntax.specs.Tree.View.{spec_tree}
use Rattle.tm_syntax.specs.Scopes.Calls.{Reaches}
use Rattle.tm_syntax.specs.Design.View.{design_tree}
use Rattle.tm_syntax.specs.Faults.{IsOfText, IsSound}
use Rattle.tm_atoms.specs.Orders.{HasCallOrder}
use Rattle.tm_flat.specs.Inputs.{input_widths}
use Rattle.tm_flat_states.specs.Markable.{IsMarkable}
use Rattle.tm_flat_design.proofs.Pooled.{predicates_made}
use Rattle.tm_flat_design.proofs.updater.Updater.predicates.Goals as goal

pub order_tasks-requires : goal.order_tasks-requires
order_tasks-requires c =
    subst (λ (s : Spec). (m : Member) → Reaches (spec_tree s) m m → ⊥) (sym c.args.self.now.same_text)
    c.requires.design.runnable.sound.no_call_cycle

pub pool-requires-clause-design : goal.pool-requires-clause-design
pool-requires-clause-design c =
    subst (λ (d : Design). IsSound (design_tree d)) (sym c.new-pooler.ensures) c.requires.design.runnable.sound

pub pool-requires-clause-of_text : goal.pool-requires-clause-of_text
pool-requires-clause-of_text c =
    subst (λ (d : Design). IsOfText (spec_tree d.spec)) (sym c.new-pooler.ensures) c.requires.design.runnable.read

pub pool-requires-clause-order : goal.pool-requires-clause-order
pool-requires-clause-order c =
    subst (λ (d : Design). HasCallOrder (spec_tree d.spec)) (sym c.new-pooler.ensures)
    (subst (λ (s : Spec). HasCallOrder (spec_tree s)) c.args.self.now.same_text c.in_ok-order_tasks.ensures)

pub pool-requires-clause-markable : goal.pool-requires-clause-markable
pool-requires-clause-markable c =
    subst IsMarkable (sym c.new-pooler.ensures)
    (c.sound_designs_of_texts_are_markable.ensures c.args.self.now.design.now c.requires.design.runnable.sound
    c.requires.design.runnable.read)

pub pool-requires-clause-inputs : goal.pool-requires-clause-inputs
pool-requires-clause-inputs c =
    c.requires.terms.inputs ∙ ap (λ (d : Design). input_widths (design_tree d)) (sym c.new-pooler.ensures)

pub returns : goal.returns
returns c =
    predicates_made c.args.self.now.design.now c.new-pooler.result.design.now c.new-pooler.ensures
    c.args.course.now.terms c.pool.new.terms c.in_ok-made.made c.in_ok-made.ensures.first c.in_ok-made.ensures.pool
