use Rattle.std.proofs.Common.{◌≡◌, None}
use Rattle.std.proofs.lemmas.Result.{IfOk-weaker}
use Rattle.tm_envcheck.proofs.Growing.{can_kept, ready_kept}
use Rattle.tm_envcheck.proofs.Reporting.{least_none, least_some, want_refused}
use Rattle.tm_game.specs.Least.{test_of}
use Rattle.tm_game.proofs.Growing.{grows_then}
use Rattle.tm_envcheck.proofs.reports.wants.Goals as goal

pub fails-requires : goal.fails-requires
fails-requires c = ready_kept c.args.game.now c.least.new.self c.least.ensures.grows c.requires.ready

pub returns-in_default-clause-grows : goal.returns-in_default-clause-grows
returns-in_default-clause-grows c = grows_then _ _ _ c.least.ensures.grows c.fails.ensures.grows

pub returns-in_default-clause-verdict : goal.returns-in_default-clause-verdict
returns-in_default-clause-verdict c =
    let none : c.in_ok-_found.field-0 ≡ None = cc in
    IfOk-weaker c.fails.result _ _
    (λ v verdict d can.
    want_refused d (test_of d c.args.game.now c.args.wanted) c.args.condition c.args.goal v
    (least_none d (test_of d c.args.game.now c.args.wanted) c.in_ok-_found.field-0 none
    (c.in_ok-_found.ensures.least d can.of))
    (verdict d (can_kept c.args.game.now c.least.new.self c.least.ensures.grows d can)))
    c.fails.ensures.verdict

pub returns-clause-verdict : goal.returns-clause-verdict
returns-clause-verdict c = λ d can.
    let here = least_some d (test_of d c.args.game.now c.args.wanted) c.in_ok-_found.field-0 c.in-Some._found
    c.in-Some.is (c.in_ok-_found.ensures.least d can.of) in
    (c.in-Some._found, here.here)
