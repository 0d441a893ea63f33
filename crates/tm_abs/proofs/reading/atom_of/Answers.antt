use Rattle.std.proofs.Common.{◌≡◌, ◌-◌, List, length, refl, sym, ap, ◌∙◌, subst, arith, ℕ}
use Rattle.std.proofs.Math.Logic.{∥∥₁_elim}
use Rattle.std.proofs.Props.{props}
use Rattle.tm_abs.proofs.Predicates.{atom_is}
use Rattle.tm_abs.specs.declared.atoms.Atom.{Atom}
use Rattle.tm_abs.specs.Inner.Atoms.{IsAtom}
use Rattle.tm_dd.specs.Table.{Table}
use Rattle.tm_ddops.specs.Manager.{Diagrams}
use Rattle.tm_flat.specs.Flat.{FlatTerms}
use Rattle.tm_abs.proofs.reading.atom_of.Goals as goal

-- that an atom is one can hold in one way
atom_prop : (count : ℕ) (s : Table) (a : Atom) → IsProp (IsAtom count s a)
atom_prop count s a = hlevel props

pub levels_read-requires : goal.levels_read-requires
levels_read-requires c = ∥∥₁_elim c.requires.pool (hlevel props) (λ it. it.4.known)

pub returns-clause-atom : goal.returns-clause-atom
returns-clause-atom c =
    let g = c.args.game.now in
    let s = g.diagrams.table in
    let levels : c.levels.result ≡ s.levels =
    c.levels.ensures.value
    ∙ ap (λ (t : Table). t.levels) (c.store.ensures.value ∙ ap (λ (m : Diagrams). m.table) c.manager.ensures) in
    let room = c.order-order.ensures.predicates in
    let below = c.requires.number in
    ∥∥₁_elim c.requires.pool (atom_prop _ _ _)
    (λ it.
    let order = ap (λ (o : List ℕ). length o) it.3.order in
    let pool = ap (λ (f : FlatTerms). length f.pool) it.3.flat in
    subst (λ (o : List ℕ). IsAtom (length o) s (record {
      level = c.levels.result - 1 - c.args.number;
      holds = c.args.holds;
      reads = c.in_ok-reads.reads;
    })) (sym it.3.order)
    (atom_is it.0 it.1 s c.args.number c.args.holds it.4 (record {
      level = c.levels.result - 1 - c.args.number;
      holds = c.args.holds;
      reads = c.in_ok-reads.reads;
    }) refl c.in_ok-reads.ensures (omega (arith, levels, room, below)) (omega (arith, order, pool, room))
    (omega (arith, pool, below))))

pub returns-clause-numbered : goal.returns-clause-numbered
returns-clause-numbered c =
    let s = c.args.game.now.diagrams.table in
    let levels : c.levels.result ≡ s.levels =
    c.levels.ensures.value
    ∙ ap (λ (t : Table). t.levels) (c.store.ensures.value ∙ ap (λ (m : Diagrams). m.table) c.manager.ensures) in
    let room = c.order-order.ensures.predicates in
    let below = c.requires.number in
    omega (arith, levels, room, below)
