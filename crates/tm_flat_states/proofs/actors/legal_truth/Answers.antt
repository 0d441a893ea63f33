use Rattle.std.proofs.Common.{sym, ◌∙◌}
use Rattle.tm_flat_states.proofs.Picking.{legal_some, legal_magic, legal_none}
use Rattle.tm_flat_states.proofs.actors.legal_truth.Goals as goal

pub returns-then-is_magic : goal.returns-then-is_magic
returns-then-is_magic c = λ d p are.
    legal_magic d p _ c.args.place (sym (c.is_magic.ensures d p are) ∙ c.if-is_magic.true)

pub returns-in-Some : goal.returns-in-Some
returns-in-Some c = λ d p are.
    legal_some d p c.args.steps.now c.args.place (sym (c.is_magic.ensures d p are) ∙ c.if-is_magic.false) c.in-Some.step
    c.in-Some.ensures.lookup

pub returns-in-None : goal.returns-in-None
returns-in-None c = λ d p are.
    legal_none d p c.args.steps.now c.args.place (sym (c.is_magic.ensures d p are) ∙ c.if-is_magic.false)
    c.in-None.ensures.lookup
