-- The locations of the processes of a design, one after the other.
use Rattle.std.proofs.Common.{◌≡◌, ℕ, zero, suc, ◌+◌, ◌<◌, ◌≤◌, ◌⊎◌, inl, inr, None, Some, List, [], ◌∷◌, ◌++◌, get_or, length, refl, sym, ap, ◌∙◌, subst, arith, length-append}
use Rattle.std.specs.Prelude.{slice_get}
use Rattle.std.proofs.lemmas.Option.{slice_get-get_or, slice_get_within}
use Rattle.tm_syntax.specs.declared.design.Design.{Design}
use Rattle.tm_syntax.specs.declared.member.Member.{Member}
use Rattle.tm_syntax.specs.declared.tree.Spec.{Spec}
use Rattle.tm_syntax.specs.Tree.View.{spec_tree}
use Rattle.tm_syntax.specs.Scopes.Pauses.{call_depth}
use Rattle.tm_syntax.specs.Design.View.{design_tree}
use Rattle.tm_scope.specs.CallOrder.{CoversTasks, IsCallOrder}
use Rattle.tm_scope.specs.Cells.{ArePausing}
use Rattle.tm_locations.specs.Locations.{AreLocations, table_of}
use Rattle.tm_locations.specs.declared.table.Locations.{Locations}
use Rattle.tm_plain.specs.Machine.{AreLocated, AreTables}

-- what stands in a list behind which one more was put
pushed : {A : Type 0} (xs : List A) (y : A) (k : ℕ) (z : A) → slice_get (xs ++ y ∷ []) k ≡ Some z →
    (slice_get xs k ≡ Some z) ⊎ ((k ≡ length xs) × (y ≡ z))
pushed [] y zero z is = let same : y ≡ z = cc in inr (refl, same)
pushed [] y (suc k) z is = absurd (cc)
pushed (x ∷ xs) y zero z is = inl is
pushed (x ∷ xs) y (suc k) z is = up (pushed xs y k z is)
  where
    up : (slice_get xs k ≡ Some z) ⊎ ((k ≡ length xs) × (y ≡ z)) →
        (slice_get xs k ≡ Some z) ⊎ ((suc k ≡ suc (length xs)) × (y ≡ z))
    up (inl h) = inl h
    up (inr h) = inr (ap suc h.0, h.1)

pub none_located : (d : Design) (all : List Locations) → all ≡ [] → AreLocated d 0 all
none_located d all none = record {
  are = ap length none;
  each = λ p t is. absurd (let no : slice_get [] p ≡ Some t = sym (ap (λ ts. slice_get ts p) none) ∙ is in cc);
}

pub more_located : (d : Design) (n : ℕ) (all new : List Locations) (t : Locations) → AreLocated d n all →
    AreLocations (table_of t) (design_tree d) n → new ≡ all ++ t ∷ [] → AreLocated d (n + 1) new
more_located d n all new t so_far are is = record {
  are = ap length is ∙ length-append all (t ∷ []) ∙ ap (λ k. k + 1) so_far.are;
  each = λ p u there. by p u (pushed all t p u (sym (ap (λ ts. slice_get ts p) is) ∙ there));
}
  where
    by : (p : ℕ) (u : Locations) → (slice_get all p ≡ Some u) ⊎ ((p ≡ length all) × (t ≡ u)) →
        AreLocations (table_of u) (design_tree d) p
    by p u (inl h) = so_far.each p u h
    by p u (inr h) =
        subst (λ k. AreLocations (table_of u) (design_tree d) k) (sym (h.0 ∙ so_far.are))
        (subst (λ v. AreLocations (table_of v) (design_tree d) n) h.1 are)

-- where nothing stands, the list has ended
pub nothing_past : {A : Type 0} (xs : List A) (k : ℕ) → slice_get xs k ≡ None → length xs ≤ k
nothing_past [] k none = omega arith
nothing_past (x ∷ xs) zero none = absurd (cc)
nothing_past (x ∷ xs) (suc k) none = let rest = nothing_past xs k none in omega (arith, rest)

-- a table that is listed is that of a process of the design
pub table_at : (d : Design) (all : List Locations) → AreLocated d (length d.processes.items) all → (k : ℕ)
    (t : Locations) → slice_get all k ≡ Some t →
    (k < length d.processes.items) × AreLocations (table_of t) (design_tree d) k
table_at d all located k t there =
    (subst (λ n. k < n) located.are (slice_get_within all k t there), located.each k t there)

-- a table that stands at the index of a process is that of the process
pub table_below : (d e : Design) (all : List Locations) → e ≡ d → AreLocated e (length e.processes.items) all →
    (k : ℕ) (t : Locations) → k < length d.processes.items → t ≡ get_or all k t →
    AreLocations (table_of t) (design_tree d) k
table_below d e all same located k t below here =
    let own : AreLocated d (length d.processes.items) all =
    subst (λ (d : Design). AreLocated d (length d.processes.items) all) same located in
    let within : k < length all = omega (arith, own.are) in
    own.each k t (slice_get-get_or all k t within ∙ ap Some (sym here))

-- what a walk of locations asks of the tables of a text, and what a runner does
module _ (d : Design) (spec : Spec) (order marks : List Member) (are : AreTables d spec order marks) where
  pub pausing_here : ArePausing (spec_tree spec) marks
  pausing_here = subst (λ (s : Spec). ArePausing (spec_tree s) marks) (sym are.text) are.may_pause

  module _ (tasks : List Member) (same : tasks ≡ order) where
    abbrev Listed : Spec → Type 0
    Listed s =
        IsCallOrder (spec_tree s) tasks × CoversTasks (spec_tree s) tasks × (length tasks ≤ call_depth (spec_tree s))

    pub tasks_of_text : Listed d.spec
    tasks_of_text =
        subst (λ (ms : List Member). IsCallOrder (spec_tree d.spec) ms × CoversTasks (spec_tree d.spec) ms
        × (length ms ≤ call_depth (spec_tree d.spec))) (sym same) (are.ordered, are.covers, are.short)

    pub tasks_here : Listed spec
    tasks_here = subst Listed (sym are.text) tasks_of_text
