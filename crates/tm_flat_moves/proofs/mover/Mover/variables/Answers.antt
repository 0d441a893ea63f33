use Rattle.std.proofs.Common.{◌≡◌, ◌++◌, ◌∷◌, [], length, sym, ap, ◌∙◌, arith}
use Rattle.std.proofs.lemmas.List.{take_all}
use Rattle.tm_design.proofs.Zipped.{one_more_taken}
use Rattle.tm_flat_moves.proofs.mover.Mover.variables.Goals as goal

pub variable-id-requires : goal.variable-id-requires
variable-id-requires c =
    let d = c.args.self.now.design.now in
    omega (arith, c.loop-number-test.true, c.len-number-end.ensures, d.vars.ok.0, c.requires)

pub loop-number-preserved : goal.loop-number-preserved
loop-number-preserved c =
    c.in_ok-push.ensures.items
    ∙ ap (λ l. l ++ c.variable-id.result ∷ []) c.loop-number.invariant
    ∙ sym (one_more_taken c.args.memory.now.values c.loop-number.number c.variable-id.result c.variable-id.ensures)

pub returns : goal.returns
returns c =
    let d = c.args.self.now.design.now in
    c.loop-number.invariant
    ∙ take_all c.loop-number.number c.args.memory.now.values
    (omega (arith, c.loop-number-test.false, c.len-number-end.ensures, d.vars.ok.0, c.requires))
