use Rattle.std.proofs.Common.{◌≡◌, ◌<◌, ◌≤◌, length, sym, ◌∙◌, subst, arith}
use Rattle.tm_syntax.specs.declared.design.Design.{Design}
use Rattle.tm_syntax.specs.Design.View.{design_tree}
use Rattle.tm_sem.specs.Step.{stands_at_magic}
use Rattle.tm_plain.proofs.Permitting.{none_more, none_passes, one_passes}
use Rattle.tm_plain.proofs.machine.Machine.magic.Goals as goal

pub returns-then-stands_at_magic : goal.returns-then-stands_at_magic
returns-then-stands_at_magic c =
    let d = c.args.self.now in
    let k = c.loop-number.number in
    let count : c.len-number-end.result ≡ length d.processes.items =
    subst (λ (d : Design). c.len-number-end.result ≡ length d.processes.items) c.self.view_is
    (c.len-number-end.ensures ∙ c.self.inside.locations.ok.0 ∙ c.self.invariant.2.are) in
    let below : k < length d.processes.items = omega (arith, count, c.loop-number-test.true) in
    sym (one_passes (stands_at_magic (design_tree d) c.args.state.now) (length d.processes.items) k below
    (sym c.stands_at_magic.ensures ∙ c.if-stands_at_magic.true))

pub loop-number-preserved : goal.loop-number-preserved
loop-number-preserved c =
    let d = c.args.self.now in
    let k = c.loop-number.number in
    let count : c.len-number-end.result ≡ length d.processes.items =
    subst (λ (d : Design). c.len-number-end.result ≡ length d.processes.items) c.self.view_is
    (c.len-number-end.ensures ∙ c.self.inside.locations.ok.0 ∙ c.self.invariant.2.are) in
    let below : k < length d.processes.items = omega (arith, count, c.loop-number-test.true) in
    none_more (stands_at_magic (design_tree d) c.args.state.now) (length d.processes.items) k below
    c.loop-number.invariant (sym c.stands_at_magic.ensures ∙ c.if-stands_at_magic.false)

pub returns : goal.returns
returns c =
    let d = c.args.self.now in
    let k = c.loop-number.number in
    let count : c.len-number-end.result ≡ length d.processes.items =
    subst (λ (d : Design). c.len-number-end.result ≡ length d.processes.items) c.self.view_is
    (c.len-number-end.ensures ∙ c.self.inside.locations.ok.0 ∙ c.self.invariant.2.are) in
    let past : length d.processes.items ≤ k = omega (arith, count, c.loop-number-test.false) in
    sym (none_passes (stands_at_magic (design_tree d) c.args.state.now) (length d.processes.items) k past
    c.loop-number.invariant)
