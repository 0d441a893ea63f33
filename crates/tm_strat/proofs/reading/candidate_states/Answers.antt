use Rattle.std.proofs.Common.{ℕ, Some, sym, ap, ◌∙◌, subst, arith}
use Rattle.std.proofs.lemmas.Option.{slice_get-get_or}
use Rattle.tm_dd.specs.declared.node.NodeId.{NodeId}
use Rattle.tm_solve_exact.proofs.Growing.{kept_exact}
use Rattle.tm_strat.proofs.Carrying.{grown, sets_stay}
use Rattle.tm_strat.proofs.Made.{served_more, served_none, serves_one}
use Rattle.tm_strat.specs.Served.{AreServed, ServesOne}
use Rattle.tm_strat.proofs.reading.candidate_states.Goals as goal

pub loop-one-init : goal.loop-one-init
loop-one-init c = record {
  grows = λ base b. b;
  served = λ d zones targets shapes blocks from.
      served_none d c.args.game.now zones targets blocks c.new-states.result.items c.new-states.ensures.items;
}

pub loop-one-preserved : goal.loop-one-preserved
loop-one-preserved c = record {
  grows = λ base b. c.served.ensures.grows base (c.loop-one.invariant.grows base b);
  served = λ d zones targets shapes blocks from.
      let to_m = grown c.args.game.now c.loop-one.game c.loop-one.invariant.grows in
      let to_h = grown c.loop-one.game c.served.new.game c.served.ensures.grows in
      let is_m = kept_exact d c.args.game.now from.of c.loop-one.game to_m in
      served_more d c.loop-one.game c.served.new.game is_m to_h zones targets
      (sets_stay c.args.game.now c.loop-one.game c.loop-one.invariant.grows zones from.zone_sets)
      (sets_stay c.args.game.now c.loop-one.game c.loop-one.invariant.grows targets from.target_sets) blocks
      c.loop-one.states.items c.push.new.self.items c.loop-one.one-index c.in_ok-served.served
      (c.loop-one.invariant.served d zones targets shapes blocks from)
      (λ b there.
      c.in_ok-served.ensures.served d zones targets shapes b
      (subst (λ (i : NodeId). ServesOne d c.loop-one.game zones targets shapes b i c.one-item.result)
      (sym c.id_at-good.ensures)
      (serves_one d c.args.game.now c.loop-one.game to_m zones targets shapes blocks c.args.pairs.now c.args.given.now
      from is_m c.loop-one.one-index b c.one-item.result there
      (slice_get-get_or c.args.given.now c.loop-one.one-index c.one-item.result c.loop-one-test.true
      ∙ ap Some (sym c.one-item.is)))))
      c.in_ok-push.ensures.items;
}

pub returns-clause-served : goal.returns-clause-served
returns-clause-served c =
    let ends = c.loop-one.auto.one-index-end in
    let last = c.loop-one-test.false in
    λ d zones targets shapes blocks from.
    subst (λ (n : ℕ). AreServed d c.loop-one.game zones targets blocks c.loop-one.states.items n)
    (omega (arith, ends, last)) (c.loop-one.invariant.served d zones targets shapes blocks from)

pub returns-in_err-served-clause-grows : goal.returns-in_err-served-clause-grows
returns-in_err-served-clause-grows c = λ base b. c.served.ensures.grows base (c.loop-one.invariant.grows base b)

pub returns-in_err-push-clause-grows : goal.returns-in_err-push-clause-grows
returns-in_err-push-clause-grows c = λ base b. c.served.ensures.grows base (c.loop-one.invariant.grows base b)
