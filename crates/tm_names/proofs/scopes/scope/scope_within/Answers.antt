use Rattle.std.proofs.Common.{◌≡◌, ◌+◌, ◌-◌, ◌<◌, ◌++◌, length, drop, refl, arith}
use Rattle.tm_names.specs.Sorts.{all_declared}
use Rattle.tm_names.proofs.ScopeSteps.{scope_begins, scope_ends, scope_grows}
use Rattle.tm_names.proofs.scopes.scope.scope_within.Goals as goal

pub loop-left-init : goal.loop-left-init
loop-left-init c = (
  omega arith,
  λ around is. scope_begins c.args.declared.now (length c.args.declared.now) c.new-names.result c.args.outer.now
      c.args.outer.now.repeat around refl c.new-names.ensures refl is,
)

pub loop-left-preserved : goal.loop-left-preserved
loop-left-preserved c =
    let next : c.loop-left.left ≡ c.loop-left.left - 1 + 1 = omega arith in
    let within : c.loop-left.left - 1 < length c.args.declared.now = omega (arith, c.loop-left.invariant.0) in (
      omega (arith, within),
      λ around is. scope_grows c.args.declared.now (c.loop-left.left - 1) c.loop-left.left c.index-declared-left.result
          c.loop-left.names c.note.new.inner c.args.outer.now c.in_ok-note.field-0 c.loop-left.repeat
          c.earlier_mark-repeat.result around next within c.index-declared-left.is (c.loop-left.invariant.1 around is)
          (c.in_ok-note.ensures (all_declared (drop c.loop-left.left c.args.declared.now) ++ around))
          c.earlier_mark-repeat.ensures,
    )

pub returns : goal.returns
returns c = λ around is.
    scope_ends c.args.declared.now c.loop-left.left (record {
      names = c.loop-left.names;
      repeat = c.loop-left.repeat;
    }) c.args.outer.now around (omega (arith, c.loop-left-test.false)) (c.loop-left.invariant.1 around is)
