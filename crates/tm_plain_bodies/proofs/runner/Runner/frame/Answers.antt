use Rattle.std.proofs.Common.{◌≡◌, None, sym, ◌∙◌, subst}
use Rattle.tm_syntax.specs.Design.View.{design_tree}
use Rattle.tm_syntax.specs.Design.Scope.{site}
use Rattle.tm_plain_bodies.specs.Tables.{IsReady, body_of}
use Rattle.tm_design.proofs.Found.{nothing_found, no_source}
use Rattle.tm_plain_bodies.proofs.Readers.{is_frame}
use Rattle.tm_plain_bodies.proofs.runner.Runner.frame.Goals as goal

pub returns-in_err-reader-clause-none : goal.returns-in_err-reader-clause-none
returns-in_err-reader-clause-none c =
    let d = c.args.self.now in
    nothing_found c.from_residual.result (site (design_tree d) c.args.at.instance ≡ None) c.from_residual.ensures
    (no_source (λ _. body_of d c.args.at) (site (design_tree d) c.args.at.instance) c.reader.result c.reader.ensures
    c.in_err-reader.was)

pub returns-clause-found : goal.returns-clause-found
returns-clause-found c =
    is_frame c.args.self.now c.self.inside.order.now
    (subst (λ d. IsReady d c.self.inside.order.now) c.self.view_is c.self.invariant.3) c.args.at c.in_ok-reader.reader
    (sym c.in_ok-reader.was ∙ c.reader.ensures)
