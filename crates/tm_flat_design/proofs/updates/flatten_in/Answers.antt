use Rattle.std.proofs.Common.{IfOk, sym, subst}
use Rattle.tm_syntax.specs.declared.design.Design.{Design}
use Rattle.tm_syntax.specs.Design.View.{design_tree}
use Rattle.tm_flat_states.specs.Marks.{MakesSuch}
use Rattle.tm_flat_design.specs.Making.{AreOver, IsWhole}
use Rattle.tm_flat_design.proofs.Whole.{may_update}
use Rattle.tm_flat_design.proofs.updates.flatten_in.Goals as goal

pub updates_over-requires-clause-design : goal.updates_over-requires-clause-design
updates_over-requires-clause-design c =
    may_update c.sound_designs_of_texts_are_markable.ensures c.new-updater.result c.args.tables.now
    c.args.locations.now c.new-updater.ensures.design c.new-updater.ensures.locations c.requires.runnable
    c.requires.located

pub updates_over-requires-clause-terms : goal.updates_over-requires-clause-terms
updates_over-requires-clause-terms c =
    subst (λ (d : Design). AreOver d c.args.terms.now) (sym c.new-updater.ensures.design) c.requires.terms

pub returns : goal.returns
returns c =
    subst (λ (d : Design). IfOk c.updates_over.result
    (MakesSuch c.args.terms.now c.updates_over.new.terms (IsWhole (design_tree d)))) c.new-updater.ensures.design
    c.updates_over.ensures
