use Rattle.std.proofs.Common.{ℕ, Bool, true, List, [], ◌∷◌, All, length, take, sym, ap, ◌∙◌, subst}
use Rattle.std.specs.Prelude.{slice_index_or}
use Rattle.std.proofs.lemmas.List.{length-replicate, take_all, take_more}
use Rattle.std.proofs.lemmas.List.Elements.{All-nil}
use Rattle.tm_abs.proofs.Tracking.{predicates_at-append, tracked_none}
use Rattle.tm_abs.proofs.ValidParts.{some_kept}
use Rattle.tm_abs.specs.declared.atoms.Atom.{Atom}
use Rattle.tm_abs.specs.Inner.Atoms.{AreTracked, IsAtom}
use Rattle.tm_abs.specs.Tracked.{tracked_of}
use Rattle.tm_flat_pool.specs.Predicates.{Predicate, pool}
use Rattle.tm_game.proofs.Growing.{grows_none, grows_then}
use Rattle.tm_abs.proofs.reading.read_tracked.Goals as goal

pub loop-number-init : goal.loop-number-init
loop-number-init c =
    let g = c.args.game.now in
    let s = g.diagrams.table in
    let n = length c.order.result.now in
    let all = c.in_ok-free.ensures in
    record {
      grows = grows_none g;
      count = ap (λ (xs : List Bool). length xs) all ∙ length-replicate n true
          ∙ ap (λ (o : List ℕ). length o) c.order.ensures.value;
      atoms = subst (λ (xs : List Atom). All (IsAtom (length g.order) s) xs) (sym c.new-atoms.ensures.items)
          (All-nil (IsAtom (length g.order) s));
      tracked = λ h d grows pooled.
          subst (λ (xs : List Atom). AreTracked d h h.diagrams.table [] c.in_ok-free.free.items xs)
          (sym c.new-atoms.ensures.items)
          (subst (λ (marks : List Bool). AreTracked d h h.diagrams.table [] marks []) (sym all)
          (tracked_none d h h.diagrams.table n));
    }

pub read_predicate-requires-clause-pool : goal.read_predicate-requires-clause-pool
read_predicate-requires-clause-pool c =
    some_kept c.args.game.now c.loop-number.game c.loop-number.invariant.grows c.requires.pool

pub returns-in_err-read_predicate-clause-grows : goal.returns-in_err-read_predicate-clause-grows
returns-in_err-read_predicate-clause-grows c =
    grows_then c.args.game.now c.loop-number.game c.read_predicate.new.game c.loop-number.invariant.grows
    c.read_predicate.ensures.grows

pub loop-number-preserved : goal.loop-number-preserved
loop-number-preserved c =
    let g = c.args.game.now in
    let before = c.loop-number.invariant in
    let read = c.in_ok-read_predicate.ensures in
    let t = c.read_predicate.new.game.diagrams.table in
    let numbers = c.args.numbers.now in
    let index = c.loop-number.number-index in
    let free = c.read_predicate.new.free.items in
    let atoms = c.read_predicate.new.atoms.items in
    let number = slice_index_or numbers index 0 in
    record {
      grows = grows_then g c.loop-number.game c.read_predicate.new.game before.grows read.grows;
      count = read.count ∙ before.count;
      atoms = subst (λ (o : List ℕ). All (IsAtom (length o) t) atoms) before.grows.order
          (read.atoms (subst (λ (o : List ℕ). All (IsAtom (length o) c.loop-number.game.diagrams.table)
          c.loop-number.atoms.items) (sym before.grows.order) before.atoms));
      tracked = λ h d grows pooled.
          subst (λ (ps : List Predicate). AreTracked d h h.diagrams.table ps free atoms)
          (sym (ap (tracked_of d) (take_more numbers index 0 c.loop-number-test.true)
          ∙ predicates_at-append (pool d) (take index numbers) (number ∷ [])))
          (read.tracked h d (tracked_of d (take index numbers)) grows pooled
          (before.tracked h d (grows_then c.loop-number.game c.read_predicate.new.game h read.grows grows) pooled));
    }

pub returns-clause-tracked : goal.returns-clause-tracked
returns-clause-tracked c = λ h d grows pooled.
    let numbers = c.args.numbers.now in
    subst (λ (ks : List ℕ). AreTracked d h h.diagrams.table (tracked_of d ks) c.loop-number.free.items
    c.loop-number.atoms.items)
    (take_all c.loop-number.number-index numbers c.loop-number-test.false)
    (c.loop-number.invariant.tracked h d grows pooled)
