use Rattle.std.proofs.Common.{ℕ, ◌<◌, ◌≤◌, List, [], ◌∷◌, ◌++◌, length, take, sym, ◌∙◌, ap, subst}
use Rattle.std.specs.Prelude.{slice_index_or}
use Rattle.std.proofs.Math.Logic.{∥∥₁_elim}
use Rattle.std.proofs.lemmas.List.{take_all, take_more}
use Rattle.tm_abs.proofs.Tracking.{predicates_at-append}
use Rattle.tm_abs.proofs.ValidParts.{in_pool_kept}
use Rattle.tm_abs.specs.Inner.Narrowed.{IsSought}
use Rattle.tm_abs.specs.Tracked.{tracked_of}
use Rattle.tm_flat_pool.specs.Predicates.{Predicate, pool}
use Rattle.tm_game.proofs.Growing.{grows_none, grows_then}
use Rattle.tm_abs.proofs.cells.Cells.narrowed.Goals as goal

pub loop-number-init : goal.loop-number-init
loop-number-init c = record {
  grows = grows_none c.args.game.now;
  narrowed = λ d first set pooled grows is. is;
}

pub narrow-requires : goal.narrow-requires
narrow-requires c =
    let g = c.args.game.now in
    let before = c.loop-number.invariant in
    let numbers = c.args.self.now.tracked.items in
    let items = c.deref-number-items.result.now in
    let index = c.loop-number.number-index in
    record {
      number = in_pool_kept g c.loop-number.game before.grows items numbers c.deref-number-items.ensures.value
          c.requires.tracked index 0 c.loop-number-test.true;
      narrowed = ∥∥₁_elim c.requires.narrowed (squash₁)
          (λ it. ∣ (
            it.0,
            it.1,
            it.2,
            tracked_of it.0 (take index numbers),
            it.3,
            grows_then it.1 g c.loop-number.game it.4 before.grows,
            before.narrowed it.0 it.1 it.2 it.3 it.4 it.5,
          ) ∣₁);
    }

pub returns-in_err-found-clause-grows : goal.returns-in_err-found-clause-grows
returns-in_err-found-clause-grows c =
    grows_then c.args.game.now c.loop-number.game c.narrow.new.game c.loop-number.invariant.grows
    c.narrow.ensures.grows

pub loop-number-preserved : goal.loop-number-preserved
loop-number-preserved c =
    let g = c.args.game.now in
    let l = c.loop-number.game in
    let t = c.narrow.new.game.diagrams.table in
    let before = c.loop-number.invariant in
    let numbers = c.args.self.now.tracked.items in
    let index = c.loop-number.number-index in
    let found = c.in_ok-found.found in
    let same = c.deref-number-items.ensures.value in
    let below = subst (λ (ks : List ℕ). index < length ks) same c.loop-number-test.true in
    record {
      grows = grows_then g l c.narrow.new.game before.grows c.narrow.ensures.grows;
      narrowed = λ d first set pooled fg is.
          subst (λ (ps : List Predicate). IsSought d first t set ps found.cell found.sought)
          (sym (ap (tracked_of d) (take_more numbers index 0 below)
          ∙ predicates_at-append (pool d) (take index numbers) (slice_index_or numbers index 0 ∷ [])
          ∙ ap (λ (ks : List ℕ). tracked_of d (take index numbers) ++ tracked_of d (slice_index_or ks index 0 ∷ []))
          (sym same)))
          (c.in_ok-found.ensures.narrowed d first set (tracked_of d (take index numbers)) pooled
          (grows_then first g l fg before.grows) (before.narrowed d first set pooled fg is));
    }

pub returns-clause-narrowed : goal.returns-clause-narrowed
returns-clause-narrowed c = λ d first set pooled fg is.
    let numbers = c.args.self.now.tracked.items in
    let index = c.loop-number.number-index in
    let found = c.loop-number.found in
    let all = subst (λ (ks : List ℕ). length ks ≤ index) c.deref-number-items.ensures.value
    c.loop-number-test.false in
    subst (λ (ks : List ℕ). IsSought d first c.loop-number.game.diagrams.table set (tracked_of d ks)
    found.cell found.sought) (take_all index numbers all) (c.loop-number.invariant.narrowed d first set pooled fg is)
