use Rattle.std.proofs.Common.{sym, ◌∙◌, subst}
use Rattle.tm_base.specs.Arithmetic.{is_nonzero}
use Rattle.tm_term.specs.Value.{value_of}
use Rattle.tm_flat.specs.Steps.{IsTerm}
use Rattle.tm_flat_stmts.specs.Flows.{FlowTerms, Narrows}
use Rattle.tm_flat_stmts.proofs.Flowing.{narrowed_flow}
use Rattle.tm_flat_stmts.proofs.flow.Flow.narrowed.Goals as goal

pub make-requires : goal.make-requires
make-requires c =
    let own : IsTerm c.args.terms.now 1 c.self.inside.guard =
    subst (λ (x : FlowTerms). IsTerm c.args.terms.now 1 x.guard) (sym c.self.view_is) c.requires.guard in
    (own.0, c.requires.test.0, own.1 ∙ sym c.requires.test.1)

pub returns : goal.returns
returns c =
    let f : FlowTerms = record {
      guard = c.self.inside.guard;
      memory = c.self.inside.memory;
      position = c.self.inside.position;
    } in
    subst (λ (x : FlowTerms). Narrows c.args.terms.now c.make.new.terms x (record {
      guard = c.in_ok-guard.guard;
      memory = c.self.inside.memory;
      position = c.self.inside.position;
    }) (λ u v. is_nonzero (value_of u v c.args.test))) c.self.view_is
    (narrowed_flow c.args.terms.now c.make.new.terms f c.args.test c.in_ok-guard.guard
    (subst (λ (x : FlowTerms). IsTerm c.args.terms.now 1 x.guard) (sym c.self.view_is) c.requires.guard)
    c.requires.test c.in_ok-guard.ensures)
