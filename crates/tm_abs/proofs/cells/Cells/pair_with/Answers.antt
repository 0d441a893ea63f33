use Rattle.std.proofs.Common.{[], sym, subst}
use Rattle.std.proofs.Math.Logic.{∥∥₁_elim}
use Rattle.std.proofs.Props.{props}
use Rattle.tm_abs.proofs.Cutting.{inside_set, is_cut, some_inside}
use Rattle.tm_abs.proofs.Narrows.{order_before, sought_least, sought_set, some_sought}
use Rattle.tm_abs.proofs.ValidParts.{pooled_kept, set_prop}
use Rattle.tm_abs.specs.Inner.Narrowed.{IsNarrowed}
use Rattle.tm_abs.specs.Tracked.{tracked_of}
use Rattle.tm_dd.specs.declared.node.NodeId.{NodeId}
use Rattle.tm_game.proofs.Growing.{grows_none, grows_then, known_kept, of_kept}
use Rattle.tm_game.proofs.LeastStates.{found_none, found_some}
use Rattle.tm_game.specs.Least.{HoldsNowhere, test_of}
use Rattle.tm_sem.specs.StateBits.{IsLeast}
use Rattle.tm_abs.proofs.cells.Cells.pair_with.Goals as goal

pub narrowed-requires : goal.narrowed-requires
narrowed-requires c =
    let l = c.args.game.now in
    let cut = c.args.cut in
    record {
      tracked = c.requires.tracked;
      narrowed = ∥∥₁_elim c.requires.cut (squash₁)
          (λ it. ∣ (
            it.0,
            l,
            cut,
            pooled_kept it.0 it.1 l it.3 it.2,
            grows_none l,
            (
              it.6.0,
              subst (λ (id : NodeId). IsNarrowed it.0 l l.diagrams.table cut [] it.6.0 id cut)
                  (sym c.valid.ensures.value) it.6.1,
            ),
          ) ∣₁);
    }

pub least-requires : goal.least-requires
least-requires c =
    let l = c.args.game.now in
    let m = c.narrowed.new.game in
    let cut = c.args.cut in
    let found = c.in_ok-found.found in
    let order = c.order-order.ensures.places in
    ∥∥₁_elim c.requires.cut (set_prop m found.sought)
    (λ it.
    let start = subst (λ (id : NodeId). IsNarrowed it.0 l l.diagrams.table cut [] it.6.0 id cut)
    (sym c.valid.ensures.value) it.6.1 in
    let pooled = pooled_kept it.0 it.1 l it.3 it.2 in
    let held = c.in_ok-found.ensures.narrowed it.0 l cut pooled (grows_none l) (it.6.0, start) in
    sought_set it.0 l m c.narrowed.ensures.grows pooled.of order cut
    (tracked_of it.0 c.args.self.now.tracked.items) held.0 found.cell found.sought held.1)

pub unreachable-requires : goal.unreachable-requires
unreachable-requires c =
    let l = c.args.game.now in
    let m = c.narrowed.new.game in
    let cut = c.args.cut in
    let found = c.in_ok-found.found in
    let order = c.order-order.ensures.places in
    ∥∥₁_elim c.requires.cut (hlevel props)
    (λ it.
    let start = subst (λ (id : NodeId). IsNarrowed it.0 l l.diagrams.table cut [] it.6.0 id cut)
    (sym c.valid.ensures.value) it.6.1 in
    let pooled = pooled_kept it.0 it.1 l it.3 it.2 in
    let held = c.in_ok-found.ensures.narrowed it.0 l cut pooled (grows_none l) (it.6.0, start) in
    some_sought it.0 l m c.narrowed.ensures.grows pooled.of order cut
    (tracked_of it.0 c.args.self.now.tracked.items) held.0 found.cell found.sought held.1
    (found_none (HoldsNowhere it.0 (test_of it.0 m found.sought)) (IsLeast it.0 (test_of it.0 m found.sought)) _
    c.in_default.is (c.in_ok-state.ensures.least it.0 (of_kept l m c.narrowed.ensures.grows it.0 pooled.of))))

pub and-requires : goal.and-requires
and-requires c =
    let l = c.args.game.now in
    let m = c.narrowed.new.game in
    let cut = c.args.cut in
    let found = c.in_ok-found.found in
    let order = c.order-order.ensures.places in
    let k = c.least.new.self in
    record {
      f = ∥∥₁_elim c.requires.cut (hlevel props)
          (λ it.
          let start = subst (λ (id : NodeId). IsNarrowed it.0 l l.diagrams.table cut [] it.6.0 id cut)
          (sym c.valid.ensures.value) it.6.1 in
          let pooled = pooled_kept it.0 it.1 l it.3 it.2 in
          let held = c.in_ok-found.ensures.narrowed it.0 l cut pooled (grows_none l) (it.6.0, start) in
          known_kept m k c.least.ensures.grows found.cell held.1.cell_is.known);
      g = ∥∥₁_elim c.requires.cut (hlevel props)
          (λ it.
          known_kept it.1 k
          (grows_then it.1 m k (grows_then it.1 l m it.3 c.narrowed.ensures.grows) c.least.ensures.grows) c.args.c
          it.4.known);
    }

pub least-requires-2 : goal.least-requires-2
least-requires-2 c =
    let l = c.args.game.now in
    let m = c.narrowed.new.game in
    let k = c.least.new.self in
    let n = c.and.new.self in
    let cut = c.args.cut in
    let found = c.in_ok-found.found in
    let inside = c.in_ok-inside.inside in
    let order = c.order-order.ensures.places in
    let numbers = c.args.self.now.tracked.items in
    ∥∥₁_elim c.requires.cut (set_prop n inside)
    (λ it.
    let start = subst (λ (id : NodeId). IsNarrowed it.0 l l.diagrams.table cut [] it.6.0 id cut)
    (sym c.valid.ensures.value) it.6.1 in
    let pooled = pooled_kept it.0 it.1 l it.3 it.2 in
    let held = c.in_ok-found.ensures.narrowed it.0 l cut pooled (grows_none l) (it.6.0, start) in
    let least = found_some (HoldsNowhere it.0 (test_of it.0 m found.sought))
    (IsLeast it.0 (test_of it.0 m found.sought)) _ c.in-Some.state c.in-Some.is
    (c.in_ok-state.ensures.least it.0 (of_kept l m c.narrowed.ensures.grows it.0 pooled.of)) in
    inside_set it.0 it.1 l k n it.3 (grows_then l m k c.narrowed.ensures.grows c.least.ensures.grows)
    c.and.ensures.grows it.2.of (order_before it.1 l it.3 order) (tracked_of it.0 numbers) c.args.c cut it.4 it.5
    c.in-Some.state found.cell found.sought inside
    (sought_least it.0 l m c.narrowed.ensures.grows pooled.of order cut (tracked_of it.0 numbers) held.0 found.cell
    found.sought held.1 c.in-Some.state least k c.least.ensures.grows)
    c.in_ok-inside.ensures.answer)

pub unreachable-requires-in-None : goal.unreachable-requires-in-None
unreachable-requires-in-None c =
    let l = c.args.game.now in
    let m = c.narrowed.new.game in
    let k = c.least.new.self in
    let n = c.and.new.self in
    let cut = c.args.cut in
    let found = c.in_ok-found.found in
    let inside = c.in_ok-inside.inside in
    let order = c.order-order.ensures.places in
    let numbers = c.args.self.now.tracked.items in
    ∥∥₁_elim c.requires.cut (hlevel props)
    (λ it.
    let start = subst (λ (id : NodeId). IsNarrowed it.0 l l.diagrams.table cut [] it.6.0 id cut)
    (sym c.valid.ensures.value) it.6.1 in
    let pooled = pooled_kept it.0 it.1 l it.3 it.2 in
    let held = c.in_ok-found.ensures.narrowed it.0 l cut pooled (grows_none l) (it.6.0, start) in
    let gl = it.3 in
    let lk = grows_then l m k c.narrowed.ensures.grows c.least.ensures.grows in
    let least = found_some (HoldsNowhere it.0 (test_of it.0 m found.sought))
    (IsLeast it.0 (test_of it.0 m found.sought)) _ c.in-Some.state c.in-Some.is
    (c.in_ok-state.ensures.least it.0 (of_kept l m c.narrowed.ensures.grows it.0 pooled.of)) in
    let whole = grows_then it.1 k n (grows_then it.1 l k gl lk) c.and.ensures.grows in
    some_inside it.0 it.1 l k n gl lk c.and.ensures.grows it.2.of (order_before it.1 l gl order)
    (tracked_of it.0 numbers) c.args.c cut it.4 it.5 c.in-Some.state found.cell found.sought inside
    (sought_least it.0 l m c.narrowed.ensures.grows pooled.of order cut (tracked_of it.0 numbers) held.0 found.cell
    found.sought held.1 c.in-Some.state least k c.least.ensures.grows)
    c.in_ok-inside.ensures.answer
    (found_none (HoldsNowhere it.0 (test_of it.0 n inside)) (IsLeast it.0 (test_of it.0 n inside)) _ c.in-None.is
    (c.in_ok-first.ensures.least it.0 (of_kept it.1 n whole it.0 it.2.of))))

pub returns-in_err-inside-clause-grows : goal.returns-in_err-inside-clause-grows
returns-in_err-inside-clause-grows c =
    let l = c.args.game.now in
    let m = c.narrowed.new.game in
    let k = c.least.new.self in
    grows_then l k c.and.new.self (grows_then l m k c.narrowed.ensures.grows c.least.ensures.grows) c.and.ensures.grows

pub returns-in_err-first-clause-grows : goal.returns-in_err-first-clause-grows
returns-in_err-first-clause-grows c =
    let l = c.args.game.now in
    let m = c.narrowed.new.game in
    let k = c.least.new.self in
    let n = c.and.new.self in
    grows_then l n c.least-2.new.self
    (grows_then l k n (grows_then l m k c.narrowed.ensures.grows c.least.ensures.grows) c.and.ensures.grows)
    c.least-2.ensures.grows

pub returns-clause-grows : goal.returns-clause-grows
returns-clause-grows c =
    let l = c.args.game.now in
    let m = c.narrowed.new.game in
    let k = c.least.new.self in
    let n = c.and.new.self in
    grows_then l n c.least-2.new.self
    (grows_then l k n (grows_then l m k c.narrowed.ensures.grows c.least.ensures.grows) c.and.ensures.grows)
    c.least-2.ensures.grows

pub returns-clause-pair : goal.returns-clause-pair
returns-clause-pair c = λ d g pooled gl set off narrowed.
    let l = c.args.game.now in
    let m = c.narrowed.new.game in
    let k = c.least.new.self in
    let n = c.and.new.self in
    let cut = c.args.cut in
    let found = c.in_ok-found.found in
    let inside = c.in_ok-inside.inside in
    let order = c.order-order.ensures.places in
    let numbers = c.args.self.now.tracked.items in
    let start = subst (λ (id : NodeId). IsNarrowed d l l.diagrams.table cut [] narrowed.0 id cut)
    (sym c.valid.ensures.value) narrowed.1 in
    let here = pooled_kept d g l gl pooled in
    let held = c.in_ok-found.ensures.narrowed d l cut here (grows_none l) (narrowed.0, start) in
    let lk = grows_then l m k c.narrowed.ensures.grows c.least.ensures.grows in
    let whole = grows_then g k n (grows_then g l k gl lk) c.and.ensures.grows in
    let least = found_some (HoldsNowhere d (test_of d m found.sought)) (IsLeast d (test_of d m found.sought)) _
    c.in-Some.state c.in-Some.is (c.in_ok-state.ensures.least d (of_kept l m c.narrowed.ensures.grows d here.of)) in
    is_cut d g l k n gl lk c.and.ensures.grows pooled.of (order_before g l gl order) (tracked_of d numbers) c.args.c
    cut set off c.in-Some.state found.cell found.sought inside
    (sought_least d l m c.narrowed.ensures.grows here.of order cut (tracked_of d numbers) held.0 found.cell found.sought
    held.1 c.in-Some.state least k c.least.ensures.grows)
    c.in_ok-inside.ensures.answer c.in-Some-2.first
    (found_some (HoldsNowhere d (test_of d n inside)) (IsLeast d (test_of d n inside)) _ c.in-Some-2.first
    c.in-Some-2.is (c.in_ok-first.ensures.least d (of_kept g n whole d pooled.of)))
