use Rattle.std.proofs.Common.{◌≡◌, ℕ, ◌<◌, false, get_or, length, subst, sym, ap, ◌∙◌, arith}
use Rattle.std.proofs.lemmas.List.{get_or-replicate, length-replicate}
use Rattle.tm_dd.specs.declared.node.TheConstants.{FALSE}
use Rattle.tm_dd.specs.Table.{Knows, assignment}
use Rattle.tm_ddops.specs.Least.{IsLeast}
use Rattle.tm_ddops.proofs.Facts.{ids_apart}
use Rattle.tm_ddops.proofs.Fill.{least_of_filled, back_is}
use Rattle.tm_ddops.proofs.manager.Manager.least.Goals as goal
use Rattle.tm_ddops.proofs.manager.Manager.least.Goals.{After-deref_mut}

-- the values are false at first
clear : (c : After-deref_mut) (k : ℕ) → k < c.self.inside.store.levels → assignment c.deref_mut.result.now k ≡ false
clear c k below =
    ap (λ xs. get_or xs k false) (c.deref_mut.ensures.value ∙ c.in_ok-values.ensures)
    ∙ get_or-replicate c.levels.result k false false (omega (arith, below, c.levels.ensures.value))

many : (c : After-deref_mut) → length c.deref_mut.result.now ≡ c.self.inside.store.levels
many c = ap length (c.deref_mut.ensures.value ∙ c.in_ok-values.ensures) ∙ length-replicate c.levels.result false
    ∙ c.levels.ensures.value

pub fill-requires : goal.fill-requires
fill-requires c = record {
  reduced = c.levels.ensures.reduced;
  known = subst (λ m. Knows m.table c.args.f) (sym c.self.view_is) c.requires;
  not_false = ids_apart c.args.f FALSE c.if-eq.ensures;
  one_a_level = many c;
  clear = λ k _ below. clear c k below;
}

pub returns : goal.returns
returns c =
    let d = (goal.at.returns c).After-deref_mut in
    let new = c.fill.new.values in
    let old = c.in_ok-values.values.items in
    let same : length new ≡ length c.deref_mut.result.now = c.fill.auto.values in
    subst (IsLeast c.args.self.now.table c.args.f)
    (sym (back_is new old c.in_ok-values.values.len (same ∙ ap length c.deref_mut.ensures.value)
    c.in_ok-values.values.ok.0))
    (subst (λ m. IsLeast m.table c.args.f new) c.self.view_is
    (least_of_filled c.self.inside.store c.args.f c.deref_mut.result.now new (same ∙ many d) (clear d) c.fill.ensures))
