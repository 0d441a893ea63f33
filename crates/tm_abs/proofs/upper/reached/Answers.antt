use Rattle.std.proofs.Common.{ℕ, List, length, map, All, Contains, IfOk, sym, ap, ◌∙◌, subst}
use Rattle.std.proofs.lemmas.Result.{IfOk-weaker}
use Rattle.tm_abs.proofs.Composing.{apart_kept, composed, part_of, parts_known}
use Rattle.tm_abs.proofs.Tracking.{atoms_kept}
use Rattle.tm_abs.specs.declared.atoms.Atom.{Atom}
use Rattle.tm_abs.specs.Inner.Atoms.{IsAtom}
use Rattle.tm_abs.specs.Inner.Quantified.{IsReached}
use Rattle.tm_abs.specs.Inner.Turns.{AreTurnsOf}
use Rattle.tm_dd.specs.declared.node.NodeId.{NodeId}
use Rattle.tm_dd.specs.Table.{means}
use Rattle.tm_ddops.specs.Manager.{IsFunction}
use Rattle.tm_ddops.specs.Operation.{substituted}
use Rattle.tm_game.proofs.Growing.{grows_then}
use Rattle.tm_abs.proofs.upper.reached.Goals as goal

pub quantified-requires : goal.quantified-requires
quantified-requires c =
    let joined = c.args.joined.now in
    let gone = joined.gone.marks.items in
    let turns = c.in_ok-turns.turns in
    record {
      known = c.requires.set.known;
      turns = (
        gone,
        joined.atoms.items,
        subst (λ (xs : List Atom). AreTurnsOf gone xs turns.unread.items turns.turns.items) c.deref.ensures.value
            c.in_ok-turns.ensures,
        subst (λ (n : ℕ). All (IsAtom n c.args.game.now.diagrams.table) joined.atoms.items) (sym c.requires.count)
            c.requires.atoms,
      );
    }

pub compose-requires : goal.compose-requires
compose-requires c =
    let joined = c.args.joined.now in
    let gone = joined.gone.marks.items in
    let turns = c.in_ok-turns.turns in
    let s = c.args.game.now.diagrams.table in
    let t = c.quantified.new.game.diagrams.table in
    let count = c.requires.count in
    let order = c.args.game.now.order in
    record {
      known = (c.in_ok-quantified.ensures.quantified gone joined.atoms.items
          (subst (λ (xs : List Atom). AreTurnsOf gone xs turns.unread.items turns.turns.items) c.deref.ensures.value
          c.in_ok-turns.ensures)
          (subst (λ (n : ℕ). All (IsAtom n s) joined.atoms.items) (sym count) c.requires.atoms)).known;
      parts = λ id there.
          parts_known t (length order) joined.atoms.items
          (atoms_kept s t c.quantified.ensures.grows.diagrams (length order) joined.atoms.items c.requires.atoms) id
          (subst (λ (xs : List (ℕ × NodeId)). Contains (map (λ p. p.1) xs) id)
          (c.deref-3.ensures.value ∙ c.in_ok-parts.ensures ∙ ap (map part_of) c.deref-2.ensures.value) there);
    }

pub returns-clause-reached : goal.returns-clause-reached
returns-clause-reached c =
    let joined = c.args.joined.now in
    let gone = joined.gone.marks.items in
    let told = joined.atoms.items in
    let turns = c.in_ok-turns.turns in
    let s = c.args.game.now.diagrams.table in
    let t = c.quantified.new.game.diagrams.table in
    let u = c.compose.new.self.diagrams.table in
    let e = c.quantified.ensures.grows.diagrams in
    let count = length c.args.game.now.order in
    let quantified = c.in_ok-quantified.quantified in
    IfOk-weaker c.compose.result
    (λ (id : NodeId). IsFunction u id (λ v. means u quantified (substituted u (map part_of told) v)))
    (IsReached u gone told count (means s c.args.set))
    (λ id is. composed t u c.compose.ensures.grows.diagrams gone told count (means s c.args.set) c.requires.set.reads
    c.requires.count (atoms_kept s t e count told c.requires.atoms)
    (apart_kept s t e count told c.requires.atoms c.requires.apart) quantified id
    (c.in_ok-quantified.ensures.quantified gone told
    (subst (λ (xs : List Atom). AreTurnsOf gone xs turns.unread.items turns.turns.items) c.deref.ensures.value
    c.in_ok-turns.ensures) (subst (λ (n : ℕ). All (IsAtom n s) told) (sym c.requires.count) c.requires.atoms)) is)
    (subst (λ (xs : List (ℕ × NodeId)). IfOk c.compose.result
    (λ (id : NodeId). IsFunction u id (λ v. means u quantified (substituted u xs v))))
    (c.deref-3.ensures.value ∙ c.in_ok-parts.ensures ∙ ap (map part_of) c.deref-2.ensures.value)
    c.compose.ensures.answer)

pub returns-in_err-parts-clause-grows : goal.returns-in_err-parts-clause-grows
returns-in_err-parts-clause-grows c = c.quantified.ensures.grows

pub returns-clause-grows : goal.returns-clause-grows
returns-clause-grows c =
    grows_then c.args.game.now c.quantified.new.game c.compose.new.self c.quantified.ensures.grows
    c.compose.ensures.grows
