use Rattle.std.proofs.Common.{ℕ, ◌-◌, ◌+◌, Some, List, sym, ap, ◌∙◌, arith}
use Rattle.std.specs.Prelude.{slice_get}
use Rattle.tm_flat_exprs.specs.declared.memory.versions.Version.{Version}
use Rattle.tm_design.proofs.StepCells.{derived_test}
use Rattle.tm_flat_exprs.proofs.Versions.{is_latest, one_passed}
use Rattle.tm_flat_exprs.proofs.memory.step_terms.StepTerms.latest.Goals as goal

pub returns-then-eq : goal.returns-then-eq
returns-then-eq c =
    let index : ℕ = c.len-count.result - 1 - c.loop-behind.behind in
    is_latest c.args.self.now c.args.cell c.in-Some-Put.found c.in-Some-Put.id
    (c.len-count.result - c.loop-behind.behind) index (omega (arith, c.loop-behind-test.true))
    (ap (λ (ws : List Version). slice_get ws index) (sym c.self.view_is)
    ∙ sym c.get.ensures ∙ c.in-Some-Put.is ∙ ap Some c.in-Some-Put.field-0-is)
    c.loop-behind.invariant c.args.zero
    (sym (derived_test c.in-Some-Put.found c.args.cell) ∙ sym c.eq.ensures ∙ c.if-eq.true)

pub loop-behind-preserved : goal.loop-behind-preserved
loop-behind-preserved c =
    let index : ℕ = c.len-count.result - 1 - c.loop-behind.behind in
    one_passed c.args.self.now c.args.cell c.in-Some-Put.found c.in-Some-Put.id
    (c.len-count.result - c.loop-behind.behind) index (omega (arith, c.loop-behind-test.true))
    (ap (λ (ws : List Version). slice_get ws index) (sym c.self.view_is)
    ∙ sym c.get.ensures ∙ c.in-Some-Put.is ∙ ap Some c.in-Some-Put.field-0-is)
    c.loop-behind.invariant (c.len-count.result - (c.loop-behind.behind + 1)) (omega arith)
    (sym (derived_test c.in-Some-Put.found c.args.cell) ∙ sym c.eq.ensures ∙ c.if-eq.false)
