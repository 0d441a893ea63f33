use Rattle.std.proofs.Common.{ℕ, rules, sym, subst}
use Rattle.tm_cparse.specs.Inner.Fronts.{AreBlanks}
use Rattle.tm_cparse.proofs.Fronts.{one_blank, blanks_short}
use Rattle.tm_cparse.proofs.include.behind_blanks.Goals as goal

pub loop-first-preserved : goal.loop-first-preserved
loop-first-preserved c =
    let more : AreBlanks c.args.text.now c.in-Some.behind.now c.line_behind-line.result =
    subst (λ (n : ℕ). AreBlanks c.args.text.now c.in-Some.behind.now n) (sym c.line_behind-line.ensures)
    (one_blank c.args.text.now c.loop-first.rest.now c.in-Some.behind.now c.loop-first.line c.in-Some.first.now
    c.loop-first.invariant.0 c.in-Some.ensures.cases.0 (search rules)) in
    (more, blanks_short c.args.text.now c.in-Some.behind.now c.line_behind-line.result more)
