use Rattle.std.proofs.Common.{◌≡◌, List, length, ap, ◌∙◌, arith}
use Rattle.tm_dd.specs.Table.{Table as Nodes}
use Rattle.tm_ddops.specs.Manager.{Diagrams}
use Rattle.tm_solve.proofs.Items.{get_below}
use Rattle.tm_term.specs.declared.term.TermId.{TermId}
use Rattle.tm_flat.specs.Flat.{FlatTerms}
use Rattle.tm_refine.proofs.PoolTells.{agree_told, differs_told, inputs_fit, inputs_told, known_told, one_cell_where, pool_known, tells_each}
use Rattle.tm_refine.proofs.RoundSides.{of_none, of_some}
use Rattle.tm_refine.proofs.telling.first_apart.Goals as goal

pub first_different-requires-clause-known : goal.first_different-requires-clause-known
first_different-requires-clause-known c =
    let p = c.requires.apart in
    known_told c.terms.result.now c.args.game.now.terms c.deref.result.now c.args.game.now.flat.pool c.terms.ensures
    (c.deref.ensures.value ∙ ap (λ (t : FlatTerms). t.pool) c.flat.ensures) (pool_known p.0 c.args.game.now p.1)

pub first_different-requires-clause-one : goal.first_different-requires-clause-one
first_different-requires-clause-one c =
    let p = c.requires.apart in
    inputs_told c.terms.result.now c.args.game.now.terms c.deref-2.result.now _ c.terms.ensures
    (c.deref-2.ensures.value ∙ c.in_ok-one.ensures) (inputs_fit p.0 c.args.game.now p.1 c.args.left.now p.2)

pub first_different-requires-clause-other : goal.first_different-requires-clause-other
first_different-requires-clause-other c =
    let p = c.requires.apart in
    inputs_told c.terms.result.now c.args.game.now.terms c.deref-3.result.now _ c.terms.ensures
    (c.deref-3.ensures.value ∙ c.in_ok-other.ensures) (inputs_fit p.0 c.args.game.now p.1 c.args.right.now p.3)

pub unreachable-requires : goal.unreachable-requires
unreachable-requires c =
    let p = c.requires.apart in
    p.4 (one_cell_where p.0 c.args.game.now p.1 c.args.left.now c.args.right.now p.2 p.3
    (agree_told c.terms.result.now c.args.game.now.terms c.deref-2.result.now c.deref-3.result.now c.args.left.now
    c.args.right.now c.deref.result.now c.args.game.now.flat.pool c.terms.ensures
    (c.deref-2.ensures.value ∙ c.in_ok-one.ensures) (c.deref-3.ensures.value ∙ c.in_ok-other.ensures)
    (c.deref.ensures.value ∙ ap (λ (t : FlatTerms). t.pool) c.flat.ensures)
    (of_none c.first_different.result _ _ c.first_different.ensures c.in_default.not-Some)))

pub overflow_cast-result : goal.overflow_cast-result
overflow_cast-result c =
    let differs = of_some c.first_different.result _ _ c.in-Some.number c.first_different.ensures c.in-Some.is in
    let read : length c.deref.result.now ≡ length c.args.game.now.flat.pool =
    ap (λ (l : List TermId). length l) (c.deref.ensures.value ∙ ap (λ (t : FlatTerms). t.pool) c.flat.ensures) in
    let levels : c.levels-levels.result ≡ c.args.game.now.diagrams.table.levels =
    c.levels-levels.ensures.value
    ∙ ap (λ (t : Nodes). t.levels) (c.store.ensures.value ∙ ap (λ (m : Diagrams). m.table) c.manager.ensures) in
    let fits = c.levels-levels.type_inv in
    omega (
      arith,
      read,
      levels,
      fits,
      get_below c.deref.result.now c.in-Some.number differs.id differs.at,
      c.order-order.ensures.predicates,
    )

pub returns : goal.returns
returns c = record {
  first = λ e can.
      let p = c.requires.apart in
      tells_each c.args.game.now p.0 p.1 c.args.left.now c.args.right.now p.2 p.3 c.in-Some.number
      (differs_told c.terms.result.now c.args.game.now.terms c.deref-2.result.now c.deref-3.result.now c.args.left.now
      c.args.right.now c.deref.result.now c.args.game.now.flat.pool c.terms.ensures
      (c.deref-2.ensures.value ∙ c.in_ok-one.ensures) (c.deref-3.ensures.value ∙ c.in_ok-other.ensures)
      (c.deref.ensures.value ∙ ap (λ (t : FlatTerms). t.pool) c.flat.ensures) c.in-Some.number
      (of_some c.first_different.result _ _ c.in-Some.number c.first_different.ensures c.in-Some.is)) e can;
}
