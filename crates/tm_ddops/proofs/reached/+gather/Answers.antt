use Rattle.std.proofs.Common.{inl, inr, subst, sym, ap, ◌∙◌, refl, arith}
use Rattle.std.proofs.lemmas.Bool.{OnFalse_at, not-false}
use Rattle.std.proofs.lemmas.Result.{on_ok_weaker}
use Rattle.tm_ddops.specs.Reached.{IsGathered}
use Rattle.tm_ddops.proofs.Reach.{gathered, gathered_already, in_set, set_more, set_only, set_there}
use Rattle.tm_ddops.proofs.reached.+gather.Goals as goal
use Rattle.tm_ddops.proofs.reached.+gather.Goals.{then-is_constant-via-then-is_constant, then-is_constant-via-else-is_constant+in_ok-insert+then-not-branch}

pub returns-then-is_constant : goal.returns-then-is_constant
returns-then-is_constant t c =
    let s = c.args.store.now in
    let f = c.args.f in
    let a = c.args.inner.now.keys in
    elim c.then-is_constant.branch [
      | then-is_constant-via-then-is_constant w ↦
          subst (IsGathered s f a) (sym (ap (λ m. m.keys) w.inner-is))
          (gathered_already s f a (inl (w.if-is_constant.ensures.0 refl)))
      | then-is_constant-via-else-is_constant+in_ok-insert+then-not-branch w ↦
          let was = not-false _ (sym w.in_ok-insert.ensures.added ∙ w.if-not-branch.true) in
          let same = OnFalse_at w.if-not-branch.true w.in_ok-insert.ensures.unchanged in
          subst (IsGathered s f a) (sym (ap (λ m. m.keys) w.inner-is ∙ same))
          (gathered_already s f a (inr (in_set a f was)))
    ]

pub gather-requires : goal.gather-requires
gather-requires t c =
    let node = c.node-node.ensures.is_node in (omega (arith, node.lo_smaller, c.decreases), node.lo_known)

pub gather-requires-2 : goal.gather-requires-2
gather-requires-2 t c =
    let node = c.node-node.ensures.is_node in (omega (arith, node.hi_smaller, c.decreases), node.hi_known)

pub returns : goal.returns
returns t c =
    let s = c.args.store.now in
    let a = c.args.inner.now.keys in
    let b = c.insert.new.self.keys in
    let k = c.gather.new.inner.keys in
    let updates = c.in_ok-insert.ensures.updates.0 in
    on_ok_weaker c.gather-2.result
    (λ rest. gathered s c.args.f (λ h. let e = c.if-is_constant.ensures.1 h in cc) a b k c.gather-2.new.inner.keys
    (set_there a b c.args.f updates) (set_more a b c.args.f updates) (set_only a b c.args.f updates)
    (subst (λ n. IsGathered s n.lo b k) c.node-node.ensures.value c.in_ok-gather.ensures)
    (subst (λ n. IsGathered s n.hi k c.gather-2.new.inner.keys) c.node-node.ensures.value rest)) c.gather-2.ensures
