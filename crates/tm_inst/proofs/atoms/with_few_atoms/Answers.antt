use Rattle.std.proofs.Common.{◌≡◌, ℕ, ◌<◌, length, refl, sym, subst, arith}
use Rattle.tm_syntax.specs.declared.fault.Quantity.TheVariants as quantity
use Rattle.tm_syntax.specs.Tree.View.{spec_tree}
use Rattle.tm_syntax.specs.Design.Atoms.{pool_atoms}
use Rattle.tm_syntax.specs.Places.{text_start}
use Rattle.tm_syntax.specs.Faults.{HasTreeFault}
use Rattle.tm_syntax.specs.Faults.Limits.{above, many_atoms}
use Rattle.tm_inst.specs.Inner.Parts.{parts_tree}
use Rattle.tm_inst.proofs.Told.{limit_told}
use Rattle.tm_inst.proofs.atoms.with_few_atoms.Goals as goal

pub returns-then-found-gt-MOST_ATOMS-clause-faulty : goal.returns-then-found-gt-MOST_ATOMS-clause-faulty
returns-then-found-gt-MOST_ATOMS-clause-faulty c =
    let spec = spec_tree c.args.scopes.now in
    let d = parts_tree spec c.args.parts in
    let n : ℕ = length (pool_atoms d) in
    let found : c.in_ok-found.found ≡ n = c.in_ok-found.ensures in
    let many : 512 < n = omega (arith, found) in
    subst (HasTreeFault spec) (sym (c.above.ensures n (omega (arith, found))))
    (limit_told spec c.requires.typed (above text_start quantity.Atoms n) c.requires.parts.acyclic
    (many_atoms d c.requires.parts.within.names c.requires.parts.within.counts refl c.requires.parts.numbered many))

pub returns-else-found-gt-MOST_ATOMS-clause-ok : goal.returns-else-found-gt-MOST_ATOMS-clause-ok
returns-else-found-gt-MOST_ATOMS-clause-ok c =
    let n : ℕ = length (pool_atoms (parts_tree (spec_tree c.args.scopes.now) c.args.parts)) in
    let found : c.in_ok-found.found ≡ n = c.in_ok-found.ensures in
    record { parts = c.requires.parts; few = omega (arith, found) }
