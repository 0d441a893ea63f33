use Rattle.std.proofs.Common.{◌≡◌, Some, List, slice_get, refl, sym, subst}
use Rattle.tm_term.specs.declared.term.TermId.{TermId}
use Rattle.tm_flat_stmts.specs.Flows.{FlowTerms, PutsAt}
use Rattle.tm_flat_stmts.proofs.Leaving.{leaves_put}
use Rattle.tm_flat_stmts.proofs.flow.Flow.with.Goals as goal

pub returns : goal.returns
returns c =
    let g : FlowTerms = record {
      guard = c.self.inside.guard;
      memory = c.put.new.self;
      position = c.self.inside.position;
    } in
    subst (λ (f : FlowTerms). PutsAt c.args.at c.args.cell c.args.id f g) c.self.view_is (record {
      guard = refl;
      position = refl;
      memory = λ x t ty memory typed term. c.in_ok-put.ensures.memory x t ty memory typed term;
      keeps = λ x apart u v m cell keeps there. c.in_ok-put.ensures.keeps x u v m cell apart keeps there;
      leaves = λ x k there i had none is.
          subst (λ (ids : List TermId). slice_get ids i ≡ Some had) (sym c.in_ok-put.ensures.values)
          (leaves_put i x c.args.at c.args.cell c.args.id c.self.inside.memory.values k there had none is);
    })
