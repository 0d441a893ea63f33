use Rattle.std.proofs.Common.{◌+◌, Bool, drop, sym, ap, ◌∙◌, arith}
use Rattle.std.specs.Prelude.{◌||◌}
use Rattle.std.proofs.lemmas.List.{at_drop_all}
use Rattle.tm_syntax.specs.Scopes.Pauses.{value_pauses}
use Rattle.tm_syntax.specs.Tree.{LocalTree}
use Rattle.tm_scope.specs.Marks.{is_marked}
use Rattle.tm_scope.proofs.BodyRows.{passes, passes-more}
use Rattle.tm_scope.proofs.calls.bodies.local_pauses.Goals as goal

pub returns-then-value_pauses : goal.returns-then-value_pauses
returns-then-value_pauses c =
    let test : LocalTree → Bool = λ x. value_pauses (is_marked c.args.calls.now) x.value in
    let xs = c.args.locals.now in
    sym (sym c.loop-local.invariant
    ∙ passes-more test xs c.loop-local.local-index c.local-item.result (omega arith) c.local-item.is
    ∙ ap (λ b. b || passes test (drop (c.loop-local.local-index + 1) xs)) (sym c.if-value_pauses.ensures))

pub loop-local-preserved : goal.loop-local-preserved
loop-local-preserved c =
    let test : LocalTree → Bool = λ x. value_pauses (is_marked c.args.calls.now) x.value in
    let xs = c.args.locals.now in
    sym (passes-more test xs c.loop-local.local-index c.local-item.result (omega arith) c.local-item.is
    ∙ ap (λ b. b || passes test (drop (c.loop-local.local-index + 1) xs)) (sym c.if-value_pauses.ensures))
    ∙ c.loop-local.invariant

pub returns : goal.returns
returns c =
    sym (at_drop_all (passes (λ x. value_pauses (is_marked c.args.calls.now) x.value)) c.args.locals.now
    c.loop-local.local-index (omega arith))
    ∙ c.loop-local.invariant
