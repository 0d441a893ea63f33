use Rattle.std.proofs.Common.{◌≡◌, ◌∙◌, ◌-◌, suc, ap, refl, subst, arith}
use Rattle.tm_scope.specs.Cells.{scope_of}
use Rattle.tm_locations.specs.Inner.Walks.{IsWalking, WalkTables, call_locations, tables_of}
use Rattle.tm_locations.specs.declared.walk.Frame.{Frame}
use Rattle.tm_locations.proofs.WalkCalls.{too-deep}
use Rattle.tm_locations.proofs.WalkParts.{lighter-called, settles-called}
use Rattle.tm_locations.proofs.WalkSteps.{settles-none}
use Rattle.tm_locations.proofs.walk.Walk.walk_call.Goals as goal

pub returns-in_default-clause-settles : goal.returns-in_default-clause-settles
returns-in_default-clause-settles c = λ d over by_text trail items all it ir deep walking.
    let frame = c.args.frame in
    subst (λ next. IsWalking d (tables_of c.args.self.now) next all)
    (c.in_default.ensures.quiet d over by_text (scope_of frame.scope).body frame.depth deep trail items) walking

pub returns-then-frame-eq0-clause-settles : goal.returns-then-frame-eq0-clause-settles
returns-then-frame-eq0-clause-settles c = λ d over by_text.
    let w : WalkTables = tables_of c.args.self.now in
    let scope = scope_of c.args.frame.scope in
    let names = c.args.path.now in
    settles-none d w w c.args.frame c.args.after
    (λ trail items. call_locations c.args.frame.depth d scope trail names items) refl
    (λ trail items. ap (λ k. call_locations k d scope trail names items) c.if-frame-eq0.true
    ∙ too-deep d scope names trail items)

pub returns-clause-settles : goal.returns-clause-settles
returns-clause-settles c = λ d over by_text.
    let frame = c.args.frame in
    let body = c.in-Some.called.body.now in
    let inner : Frame =
    record { scope = c.in-Some.called.scope; trail = c.in_ok-enter.field-0; depth = frame.depth - 1 } in
    let deeper : frame.depth ≡ suc (frame.depth - 1) = omega (arith, c.if-frame-eq0.false) in
    settles-called d frame inner c.args.path.now body c.as_slice.result deeper
    (c.in-Some.ensures.called d over (scope_of frame.scope).body) c.as_slice.ensures.value
    (tables_of c.args.self.now) (tables_of c.enter.new.self) (tables_of c.leave.new.self) c.args.after
    c.in_ok-enter.ensures.grown c.in_ok-leave.ensures c.in_ok-enter.ensures.trail

pub returns-clause-lighter : goal.returns-clause-lighter
returns-clause-lighter c = λ d over.
    let frame = c.args.frame in
    let body = c.in-Some.called.body.now in
    let inner : Frame =
    record { scope = c.in-Some.called.scope; trail = c.in_ok-enter.field-0; depth = frame.depth - 1 } in
    let deeper : frame.depth ≡ suc (frame.depth - 1) = omega (arith, c.if-frame-eq0.false) in
    lighter-called d frame inner c.args.path.now body c.as_slice.result deeper
    (c.in-Some.ensures.called d over (scope_of frame.scope).body) c.as_slice.ensures.value
    (tables_of c.args.self.now) (tables_of c.enter.new.self) (tables_of c.leave.new.self) c.args.after
    c.in_ok-enter.ensures.grown c.in_ok-leave.ensures
