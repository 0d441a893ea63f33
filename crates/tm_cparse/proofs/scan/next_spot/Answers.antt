use Rattle.std.proofs.Common.{sym, ◌∙◌, true≢false}
use Rattle.tm_syntax.specs.Design.View.{design_tree}
use Rattle.tm_cparse.proofs.Scans.{no_token_there, too_many_open, next_there}
use Rattle.tm_cparse.proofs.scan.next_spot.Goals as goal

pub returns-in_err-found : goal.returns-in_err-found
returns-in_err-found c =
    rw c.from_residual.ensures
    (no_token_there c.args.open_count c.args.line c.args.text.now c.requires.no_blank c.in_err-found.ensures)

pub returns-then-not-may_stand : goal.returns-then-not-may_stand
returns-then-not-may_stand c =
    too_many_open (design_tree c.args.design.now) c.args.open_count c.args.line c.in_ok-found.len c.args.text.now
    c.in_ok-found.found c.requires.no_blank c.in_ok-found.ensures
    (λ may. true≢false (sym (c.may_stand.ensures.1 may) ∙ c.if-not-may_stand.true))

pub returns : goal.returns
returns c =
    next_there (design_tree c.args.design.now) c.args.open_count c.args.line c.in_ok-found.len c.args.text.now
    c.in_ok-found.found c.in_ok-found.ensures (c.may_stand.ensures.0 c.if-not-may_stand.false)
