use Rattle.std.proofs.Common.{◌≡◌, ◌+◌, length, ◌∙◌, subst, arith}
use Rattle.std.specs.Prelude.{slice_index}
use Rattle.std.specs.List.{list_any, range_with_len}
use Rattle.tm_syntax.specs.Design.Locations.{is_magic_at}
use Rattle.tm_syntax.specs.Design.View.{design_tree}
use Rattle.tm_flat_exprs.specs.Made.{MakesTruth}
use Rattle.tm_flat_states.proofs.Picking.{any_first, any_found}
use Rattle.tm_flat_states.proofs.marker.Marker.turn.Goals as goal

pub loop-process-init : goal.loop-process-init
loop-process-init c =
    let d = c.args.self.now.design.now in
    any_first c.args.terms.now
    (λ u v p. is_magic_at (design_tree d) p (slice_index v (length d.vars.items + p))) c.requires.sound

pub or_at_magic-requires-clause-inputs : goal.or_at_magic-requires-clause-inputs
or_at_magic-requires-clause-inputs c = c.loop-process.invariant.grown.inputs ∙ c.requires.inputs

pub or_at_magic-requires-clause-process : goal.or_at_magic-requires-clause-process
or_at_magic-requires-clause-process c =
    let d = c.args.self.now.design.now in
    omega (arith, c.loop-process-test.true, c.len-process-end.ensures, d.processes.ok.0)

pub loop-process-preserved : goal.loop-process-preserved
loop-process-preserved c =
    let d = c.args.self.now.design.now in
    any_found c.args.terms.now c.loop-process.terms c.or_at_magic.new.terms
    (λ v p. is_magic_at (design_tree d) p (slice_index v (length d.vars.items + p))) c.loop-process.process
    c.loop-process.turn c.in_ok-turn.turn c.loop-process.invariant c.in_ok-turn.ensures

pub returns : goal.returns
returns c =
    let d = c.args.self.now.design.now in
    let all : c.loop-process.process ≡ length d.processes.items =
    omega (
      arith,
      c.loop-process-test.false,
      c.loop-process.auto.process-end,
      c.len-process-end.ensures,
      d.processes.ok.0,
    )
    in
    subst (λ n. MakesTruth c.args.terms.now c.loop-process.terms c.loop-process.turn (λ u v. list_any
    (λ p. is_magic_at (design_tree d) p (slice_index v (length d.vars.items + p))) (range_with_len 0 n))) all
    c.loop-process.invariant
