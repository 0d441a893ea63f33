use Rattle.std.proofs.Common.{ℕ, List, ◌∷◌, [], ◌++◌, All, length, sym, ap, ◌∙◌, subst, arith}
use Rattle.std.proofs.Math.Logic.{∥∥₁_elim}
use Rattle.std.proofs.Props.{props}
use Rattle.std.proofs.lemmas.List.Elements.{All-push}
use Rattle.tm_abs.proofs.Readings.{read_atom, read_bit}
use Rattle.tm_abs.proofs.Tracking.{atoms_kept}
use Rattle.tm_abs.specs.declared.atoms.Atom.{Atom}
use Rattle.tm_abs.specs.Inner.Atoms.{AreTracked, IsAtom}
use Rattle.tm_abs.specs.Tracked.{tracked_of}
use Rattle.tm_game.proofs.Growing.{means_kept}
use Rattle.tm_abs.proofs.reading.read_predicate.Goals as goal

pub bit_level-requires : goal.bit_level-requires
bit_level-requires c =
    ∥∥₁_elim c.requires.pool (hlevel props) (λ x. (c.in_ok-holds.ensures.predicate x.0 x.1).known)

pub returns-in-Some-clause-atoms : goal.returns-in-Some-clause-atoms
returns-in-Some-clause-atoms c = λ all.
    let g = c.args.game.now in
    atoms_kept g.diagrams.table c.predicate.new.game.diagrams.table c.predicate.ensures.grows.diagrams (length g.order)
    c.args.atoms.now.items all

pub returns-in-Some-clause-tracked : goal.returns-in-Some-clause-tracked
returns-in-Some-clause-tracked c = λ h d before grows pooled tracked.
    let k = c.predicate.new.game in
    let found = c.in-Some.ensures in
    let below = found.0 in
    let count = c.requires.count in
    let order = ap (λ (o : List ℕ). length o) c.predicate.ensures.grows.order in
    let known = ∥∥₁_elim c.requires.pool (hlevel props) (λ x. (c.in_ok-holds.ensures.predicate x.0 x.1).known) in
    read_bit d h pooled before c.args.free.now.items c.args.atoms.now.items tracked c.args.number c.in_ok-holds.holds
    (c.in_ok-holds.ensures.always h d grows pooled) c.in-Some.level (omega (arith, below, count, order))
    (means_kept k h grows c.in_ok-holds.holds known ∙ found.1)

pub atom_of-requires-clause-pool : goal.atom_of-requires-clause-pool
atom_of-requires-clause-pool c =
    ∥∥₁_elim c.requires.pool (squash₁)
    (λ x. ∣ (
      x.0,
      c.args.game.now,
      x.1,
      c.predicate.ensures.grows,
      c.in_ok-holds.ensures.predicate x.0 x.1,
    ) ∣₁)

pub returns-clause-atoms : goal.returns-clause-atoms
returns-clause-atoms c = λ all.
    let g = c.args.game.now in
    let t = c.predicate.new.game.diagrams.table in
    let n = length g.order in
    let atoms = c.args.atoms.now.items in
    let atom = c.in_ok-atom.atom in
    subst (λ (xs : List Atom). All (IsAtom n t) xs) (sym c.in_ok-push.ensures.items)
    (All-push (IsAtom n t) atoms atom
    (atoms_kept g.diagrams.table t c.predicate.ensures.grows.diagrams n atoms all)
    (subst (λ (o : List ℕ). IsAtom (length o) t atom) c.predicate.ensures.grows.order c.in_ok-atom.ensures.atom))

pub returns-clause-tracked : goal.returns-clause-tracked
returns-clause-tracked c = λ h d before grows pooled tracked.
    let free = c.args.free.now.items in
    let atom = c.in_ok-atom.ensures in
    subst (λ (xs : List Atom). AreTracked d h h.diagrams.table
    (before ++ tracked_of d (c.args.number ∷ [])) free xs)
    (sym c.in_ok-push.ensures.items)
    (read_atom d h pooled before free c.args.atoms.now.items tracked c.args.number c.in_ok-holds.holds
    (c.in_ok-holds.ensures.always h d grows pooled) c.in_ok-atom.atom atom.holds
    (atom.numbered ∙ sym grows.diagrams.same_levels))
