use Rattle.std.proofs.Common.{sym, ◌∙◌, subst}
use Rattle.tm_flat_exprs.specs.Inner.Merging.{Appends, MergesSteps}
use Rattle.tm_flat_exprs.proofs.Appending.{both_same, first_kept, second_kept}
use Rattle.tm_flat_exprs.proofs.memory.step_terms.StepTerms.merge.Goals as goal

pub returns-then-others-common : goal.returns-then-others-common
returns-then-others-common c =
    subst (λ ws. MergesSteps c.args.guard ws c.args.other.now ws) c.self.view_is
    (subst (λ ws. MergesSteps c.args.guard c.self.inside.versions ws c.self.inside.versions) c.other.view_is
    (both_same c.args.guard c.self.inside.versions c.other.inside.versions c.common-common.result
    c.common-common.ensures (sym c.len-own.ensures ∙ c.if-own-common.true)
    (sym c.len-others.ensures ∙ c.if-others-common.true)))

pub returns-then-others-own : goal.returns-then-others-own
returns-then-others-own c =
    subst (λ ws. MergesSteps c.args.guard ws c.args.other.now c.push.new.self) c.self.view_is
    (subst (λ ws. MergesSteps c.args.guard c.self.inside.versions ws c.push.new.self) c.other.view_is
    (first_kept c.args.guard c.self.inside.versions c.other.inside.versions c.append.new.all c.push.new.self
    c.len-own.result c.in_ok-behind.behind c.len-own.ensures c.in_ok-behind.ensures c.in_ok-push.ensures))

pub returns : goal.returns
returns c =
    subst (λ ws. MergesSteps c.args.guard ws c.args.other.now c.push-2.new.self) c.self.view_is
    (subst (λ ws. MergesSteps c.args.guard c.self.inside.versions ws c.push-2.new.self) c.other.view_is
    (second_kept c.args.guard c.self.inside.versions c.other.inside.versions c.append-2.new.all c.push-2.new.self
    c.len-others.result c.in_ok-behind-2.behind c.len-others.ensures
    (subst (λ ws. Appends c.args.guard ws c.self.inside.versions c.append-2.new.all c.in_ok-behind-2.behind)
    c.in_ok-all.ensures c.in_ok-behind-2.ensures)
    c.in_ok-push-2.ensures))
