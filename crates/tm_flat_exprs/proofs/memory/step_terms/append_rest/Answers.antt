use Rattle.std.proofs.Common.{◌+◌, ◌-◌, ◌<◌, length, sym, ap, ◌∙◌, subst, arith}
use Rattle.tm_scope.proofs.Entries.{at-there}
use Rattle.tm_flat_exprs.proofs.Appending.{AppendsUntil, appends_all, appends_more, appends_start}
use Rattle.tm_flat_exprs.proofs.memory.step_terms.append_rest.Goals.{in-Some+in_ok-push-2, in_default}
use Rattle.tm_flat_exprs.proofs.memory.step_terms.append_rest.Goals as goal

pub loop-index-init : goal.loop-index-init
loop-index-init c =
    appends_start c.args.guard c.args.all.now c.args.other.now c.push.new.self c.args.common c.in_ok-push.ensures

pub overflow_sub-by : goal.overflow_sub-by
overflow_sub-by c = omega (arith, c.loop-index.invariant.long, c.requires, c.len.ensures)

pub loop-index-preserved : goal.loop-index-preserved
loop-index-preserved c = elim c.match-get.branch [
  | in-Some+in_ok-push-2 w ↦
      subst (λ ws. AppendsUntil c.args.guard c.args.all.now c.args.other.now ws c.args.common
      (c.loop-index.index + 1)) (sym w.all-is)
      (appends_more c.args.guard c.args.all.now c.args.other.now c.loop-index.all w.push-in-Some.new.self
      c.args.common c.loop-index.index (w.len.result - c.loop-index.index) w.in-Some.version w.version_behind.result
      c.loop-index.invariant (sym c.get.ensures ∙ w.in-Some.is) (ap (λ n. n - c.loop-index.index) w.len.ensures)
      w.version_behind.ensures w.in_ok-push-2.ensures c.requires)
  | in_default w ↦
      let below : c.loop-index.index < length c.args.other.now =
      omega (arith, c.loop-index-test.true, c.len-index-end.ensures) in
      let here = at-there c.args.other.now c.loop-index.index below in
      absurd (w.in_default.not-Some here.0 (c.get.ensures ∙ here.1))
]

pub returns : goal.returns
returns c =
    appends_all c.args.guard c.args.all.now c.args.other.now c.loop-index.all c.args.common c.loop-index.index
    c.loop-index.invariant (omega (arith, c.loop-index-test.false, c.len-index-end.ensures))
