use Rattle.std.proofs.Common.{◌≡◌, ℕ, ◌-◌, ◌≤◌, length, refl, ◌∙◌, subst}
use Rattle.tm_dd.specs.declared.node.TheConstants.{FALSE}
use Rattle.tm_strat.proofs.Chosen.{other_test, own_test}
use Rattle.tm_strat.proofs.choosing.ChoosingMoves.test.Goals as goal

pub returns-then-index-count-2-clause-value : goal.returns-then-index-count-2-clause-value
returns-then-index-count-2-clause-value c =
    let count : c.len-count.result ≡ length c.args.self.now.tests.holds.items =
    c.len-count.ensures ∙ c.args.self.now.tests.holds.ok.0 in
    own_test c.args.self.now.game c.args.self.now.tests.holds.items c.args.self.now.goals.items c.args.self.now.is
    c.args.self.now.pending c.args.number c.valid.result
    (subst (λ (n : ℕ). n ≤ c.args.number) count c.if-index-count.false)
    (subst (λ (n : ℕ). c.args.number - n ≡ c.args.self.now.pending) count c.if-index-count-2.true)
    c.valid.ensures.value

pub returns-clause-value : goal.returns-clause-value
returns-clause-value c =
    let count : c.len-count.result ≡ length c.args.self.now.tests.holds.items =
    c.len-count.ensures ∙ c.args.self.now.tests.holds.ok.0 in
    other_test c.args.self.now.game c.args.self.now.tests.holds.items c.args.self.now.goals.items c.args.self.now.is
    c.args.self.now.pending c.args.number FALSE
    (subst (λ (n : ℕ). n ≤ c.args.number) count c.if-index-count.false)
    (subst (λ (n : ℕ). ¬ (c.args.number - n ≡ c.args.self.now.pending)) count c.if-index-count-2.false) refl
