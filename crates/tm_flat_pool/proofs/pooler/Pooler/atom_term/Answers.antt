use Rattle.tm_syntax.specs.Design.View.{design_tree}
use Rattle.tm_atoms.specs.Atoms.{listed}
use Rattle.tm_flat_pool.proofs.HeldAtoms.{atom_held, atom_there, atom_typed}
use Rattle.tm_flat_pool.proofs.pooler.Pooler.atom_term.Goals as goal

pub holds-requires-clause-typed : goal.holds-requires-clause-typed
holds-requires-clause-typed c =
    atom_typed c.args.self.now.design.now (listed c.args.atoms.now) c.args.number c.get.result c.in-Some.atom
    c.requires.truths c.get.ensures c.in-Some.is

pub unreachable-requires : goal.unreachable-requires
unreachable-requires c =
    atom_there (listed c.args.atoms.now) c.args.number c.get.result c.requires.number c.get.ensures c.in-None.is

pub returns : goal.returns
returns c = λ a there.
    atom_held (design_tree c.args.self.now.design.now) (listed c.args.atoms.now) c.args.number c.get.result
    c.in-Some.atom c.args.terms.now c.holds.new.terms _ c.get.ensures c.in-Some.is c.in_ok-id-in-Some.ensures a there
