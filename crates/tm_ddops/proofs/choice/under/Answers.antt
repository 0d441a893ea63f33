use Rattle.std.proofs.Common.{◌≡◌, not, sym, ap, subst, ◌∙◌, arith}
use Rattle.tm_dd.specs.Table.{means}
use Rattle.tm_dd.specs.NodeId.{IsConstant, complement}
use Rattle.tm_dd.proofs.CallerLaws.{depth_of-IsConstant, depth_of-within, means-complement}
use Rattle.tm_ddops.proofs.Facts.{same_ids, constant_of-complement}
use Rattle.tm_ddops.proofs.choice.under.Goals as goal

-- the branch is the complement of the test
is_complement : (c : goal.After-constant-then-eq-2) → c.args.branch ≡ complement c.args.test
is_complement c = same_ids _ _ c.if-eq-2.ensures ∙ c.complement.ensures.value

pub returns-then-eq-2-clause-constant : goal.returns-then-eq-2-clause-constant
returns-then-eq-2-clause-constant c h =
    absurd (c.requires (constant_of-complement c.args.test (subst IsConstant (is_complement c) h)))

pub returns-then-eq-2-clause-meaning : goal.returns-then-eq-2-clause-meaning
returns-then-eq-2-clause-meaning c s v h =
    c.constant-then-eq-2.ensures.meaning s v
    ∙ ap not (sym h)
    ∙ sym (means-complement s c.args.test v)
    ∙ ap (λ f. means s f v) (sym (is_complement c))

pub returns-then-eq-clause-deep : goal.returns-then-eq-clause-deep
returns-then-eq-clause-deep c s reduced known =
    omega (
      arith,
      depth_of-IsConstant s reduced c.constant.result c.constant.ensures.constant,
      depth_of-within s reduced c.args.branch,
    )

pub returns-then-eq-2-clause-deep : goal.returns-then-eq-2-clause-deep
returns-then-eq-2-clause-deep c s reduced known =
    omega (
      arith,
      depth_of-IsConstant s reduced c.constant-then-eq-2.result c.constant-then-eq-2.ensures.constant,
      depth_of-within s reduced c.args.branch,
    )
