use Rattle.std.proofs.Common.{ap, ◌∙◌}
use Rattle.tm_syntax.specs.Design.Atoms.{resolved_atom}
use Rattle.tm_syntax.specs.Design.View.{design_tree}
use Rattle.tm_atoms.specs.Atoms.{atom_of, listed}
use Rattle.tm_atoms.specs.declared.atom.AtomAt.{AtomAt}
use Rattle.tm_flat_pool.specs.Inner.Marks.{variable_in}
use Rattle.tm_flat_pool.proofs.HeldAtoms.{atom_there, atom_typed, one_atom}
use Rattle.tm_flat_pool.proofs.pooler.Pooler.atom_variable.Goals as goal

pub variable_of-requires : goal.variable_of-requires
variable_of-requires c = record {
  typed = atom_typed c.args.self.now.design.now (listed c.args.atoms.now) c.args.number c.get.result c.in-Some.atom
      c.requires.truths c.get.ensures c.in-Some.is;
}

pub unreachable-requires : goal.unreachable-requires
unreachable-requires c =
    atom_there (listed c.args.atoms.now) c.args.number c.get.result c.requires.number c.get.ensures c.in-None.is

pub returns : goal.returns
returns c = λ a there.
    c.variable_of.ensures
    ∙ ap (λ (x : AtomAt). variable_in (resolved_atom (design_tree c.args.self.now.design.now) (atom_of x)))
    (one_atom (listed c.args.atoms.now) c.args.number c.get.result c.in-Some.atom a c.get.ensures c.in-Some.is there)
