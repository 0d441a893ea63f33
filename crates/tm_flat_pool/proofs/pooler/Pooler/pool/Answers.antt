use Rattle.std.proofs.Common.{List, map, sym, ap, ◌∙◌, subst}
use Rattle.std.specs.Prelude.{◌++◌, Bool}
use Rattle.std.specs.List.{AllByRecursion}
use Rattle.tm_syntax.specs.Design.Atoms.{Atom, pool_atoms}
use Rattle.tm_syntax.specs.Design.View.{design_tree}
use Rattle.tm_typing.proofs.Sound.{checked}
use Rattle.tm_locations.proofs.TextLeads.{sound_leads}
use Rattle.tm_term.specs.declared.term.TermId.{TermId}
use Rattle.tm_atoms.specs.Atoms.{atom_of, listed}
use Rattle.tm_flat_pool.specs.Truths.{IsTruth}
use Rattle.tm_flat_pool.proofs.PoolAtoms.{pool_truths}
use Rattle.tm_flat_pool.specs.Inner.Marks.{AreMarked}
use Rattle.tm_flat_pool.proofs.FirstAtoms.{first_few}
use Rattle.tm_flat_pool.proofs.PredicateTerms.{pool_made}
use Rattle.tm_flat_pool.proofs.pooler.Pooler.pool.Goals as goal

pub atoms-requires-clause-leads : goal.atoms-requires-clause-leads
atoms-requires-clause-leads c = sound_leads (design_tree c.args.self.now.design.now) c.requires.design

pub atom_terms-requires-clause-truths : goal.atom_terms-requires-clause-truths
atom_terms-requires-clause-truths c =
    let d = design_tree c.args.self.now.design.now in
    subst (λ (l : List Atom). AllByRecursion (IsTruth d) l) (sym c.in-Ok.ensures.atoms)
    (pool_truths d (checked d c.requires.design c.requires.of_text))

pub marks-requires : goal.marks-requires
marks-requires c =
    let d = design_tree c.args.self.now.design.now in
    record {
      truths = subst (λ (l : List Atom). AllByRecursion (IsTruth d) l) (sym c.in-Ok.ensures.atoms)
          (pool_truths d (checked d c.requires.design c.requires.of_text));
    }

pub bit_terms-requires-clause-inputs : goal.bit_terms-requires-clause-inputs
bit_terms-requires-clause-inputs c =
    c.in-Ok-atom_terms.ensures.grown.inputs ∙ c.in-Ok-input_memory.ensures.grown.inputs ∙ c.requires.inputs

pub bit_terms-requires-clause-marks : goal.bit_terms-requires-clause-marks
bit_terms-requires-clause-marks c =
    let d = design_tree c.args.self.now.design.now in
    subst (λ (ms : List Bool). AreMarked d (pool_atoms d) ms) (sym c.as_slice.ensures.value)
    (subst (λ (l : List Atom). AreMarked d l c.in-Ok-marks.given.items) c.in-Ok.ensures.atoms
    c.in-Ok-marks.ensures)

pub first_count-first-requires : goal.first_count-first-requires
first_count-first-requires c =
    first_few (design_tree c.args.self.now.design.now) c.in-Ok.given.first c.requires.design.within
    c.in-Ok.ensures.first

pub returns-clause-first : goal.returns-clause-first
returns-clause-first c = c.first_count-first.ensures ∙ c.in-Ok.ensures.first

pub returns-clause-pool : goal.returns-clause-pool
returns-clause-pool c =
    pool_made (design_tree c.args.self.now.design.now) c.requires.markable.small c.args.terms.now
    c.input_memory.new.terms c.atom_terms.new.terms c.bit_terms.new.terms (map atom_of (listed c.in-Ok.given))
    c.in-Ok-atom_terms.given.items c.in-Ok-bit_terms.given.items _ c.requires.inputs c.in-Ok.ensures.atoms
    c.in-Ok-input_memory.ensures.grown
    c.in-Ok-atom_terms.ensures c.in-Ok-bit_terms.ensures
    (c.in-Ok-extend_from_slice.ensures.items ∙ ap (λ (l : List TermId). c.in-Ok-atom_terms.given.items ++ l)
    c.as_slice-2.ensures.value)
