use Rattle.std.proofs.Common.{sym, ◌∙◌, subst}
use Rattle.tm_flat_stmts.specs.Flows.{FlowTerms, IsFlow, MakesJoin}
use Rattle.tm_flat_stmts.proofs.Flowing.{alike_later, guard_later, joined_flow}
use Rattle.tm_flat_stmts.proofs.flow.Flow.joined.Goals as goal

pub make-requires : goal.make-requires
make-requires c =
    let x = c.requires.flows.0 in
    let first = subst (IsFlow x c.args.terms.now) (sym c.self.view_is) c.requires.flows.1 in
    let second = subst (IsFlow x c.args.terms.now) (sym c.other.view_is) c.requires.flows.2 in
    (first.guard.0, second.guard.0, first.guard.1 ∙ sym second.guard.1)

pub merge-requires-clause-guard : goal.merge-requires-clause-guard
merge-requires-clause-guard c =
    let f : FlowTerms = record {
      guard = c.self.inside.guard;
      memory = c.self.inside.memory;
      position = c.self.inside.position;
    } in
    let g : FlowTerms = record {
      guard = c.other.inside.guard;
      memory = c.other.inside.memory;
      position = c.other.inside.position;
    } in
    let x = c.requires.flows.0 in
    guard_later c.args.terms.now c.make.new.terms c.make.new.terms f g c.in_ok-guard.guard f.memory x
    (subst (IsFlow x c.args.terms.now) (sym c.self.view_is) c.requires.flows.1)
    (subst (IsFlow x c.args.terms.now) (sym c.other.view_is) c.requires.flows.2) c.in_ok-guard.ensures

pub merge-requires-clause-alike : goal.merge-requires-clause-alike
merge-requires-clause-alike c =
    let f : FlowTerms = record {
      guard = c.self.inside.guard;
      memory = c.self.inside.memory;
      position = c.self.inside.position;
    } in
    let g : FlowTerms = record {
      guard = c.other.inside.guard;
      memory = c.other.inside.memory;
      position = c.other.inside.position;
    } in
    let x = c.requires.flows.0 in
    alike_later c.args.terms.now c.make.new.terms c.make.new.terms f g c.in_ok-guard.guard f.memory x
    (subst (IsFlow x c.args.terms.now) (sym c.self.view_is) c.requires.flows.1)
    (subst (IsFlow x c.args.terms.now) (sym c.other.view_is) c.requires.flows.2) c.in_ok-guard.ensures

pub returns : goal.returns
returns c =
    let f : FlowTerms = record {
      guard = c.self.inside.guard;
      memory = c.self.inside.memory;
      position = c.self.inside.position;
    } in
    let g : FlowTerms = record {
      guard = c.other.inside.guard;
      memory = c.other.inside.memory;
      position = c.other.inside.position;
    } in
    let x = c.requires.flows.0 in
    let joined : FlowTerms = record {
      guard = c.in_ok-guard.guard;
      memory = c.in_ok-memory.memory;
      position = c.max-position.result;
    } in
    subst (λ (a : FlowTerms). MakesJoin c.args.terms.now c.merge.new.terms a c.args.other.now joined) c.self.view_is
    (subst (λ (b : FlowTerms). MakesJoin c.args.terms.now c.merge.new.terms f b joined) c.other.view_is
    (joined_flow c.args.terms.now c.make.new.terms c.merge.new.terms f g c.in_ok-guard.guard c.in_ok-memory.memory x
    (subst (IsFlow x c.args.terms.now) (sym c.self.view_is) c.requires.flows.1)
    (subst (IsFlow x c.args.terms.now) (sym c.other.view_is) c.requires.flows.2) c.in_ok-guard.ensures
    c.max-position.result c.max-position.ensures c.in_ok-memory.ensures))
