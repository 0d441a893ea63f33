use Rattle.std.proofs.Common.{ℕ, List, Bool, subst, sym, ◌≡◌}
use Rattle.std.specs.Prelude.{◌↔◌, true}
use Rattle.tm_ddops.specs.Quantified.{is_marked_level}
use Rattle.tm_ddops.specs.Support.{DependsOn}
use Rattle.tm_ddops.proofs.Supports.{listed_alike}
use Rattle.tm_ddops.proofs.manager.Manager.support.Goals as goal

pub returns-clause-exact : goal.returns-clause-exact
returns-clause-exact c =
    let f = c.args.f in
    let P : List Bool → Type 0 = λ marks. (k : ℕ) →
    (is_marked_level marks k ≡ true) ↔ DependsOn c.self.inside.store f k in
    let alike : P c.deref.result.now = subst P (sym c.deref.ensures.value) c.in_ok-marks.ensures.exact in
    listed_alike c.marked_levels.result (λ levels. levels.items) (λ k. is_marked_level c.deref.result.now k ≡ true)
    (DependsOn c.args.self.now.table f)
    (subst (λ m. (k : ℕ) → (is_marked_level c.deref.result.now k ≡ true) ↔ DependsOn m.table f k) c.self.view_is alike)
    c.marked_levels.ensures.exact
