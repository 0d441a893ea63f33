use Rattle.std.proofs.Common.{arith}
use Rattle.tm_syntax.specs.Design.View.{design_tree}
use Rattle.tm_cparse.proofs.Cuts.{no_run_token, run_token_first}
use Rattle.tm_cparse.proofs.scan.first_run.Goals as goal

pub returns-in_err-found : goal.returns-in_err-found
returns-in_err-found c =
    rw c.from_residual.ensures
    (no_run_token c.args.text.now c.args.len c.requires.all (λ e. omega (arith, c.requires.some))
    c.in_err-found.ensures)

pub returns : goal.returns
returns c =
    run_token_first (design_tree c.args.design.now) c.args.text.now c.args.len c.in_ok-found.found c.requires.all
    (λ e. omega (arith, c.requires.some)) c.in_ok-found.ensures
