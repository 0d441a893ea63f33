-- What a machine does of an assignment.
use Rattle.std.proofs.Common.{◌≡◌, ℕ, true, false, Option, None, Some, List, [], ◌∷◌, refl, sym, ap, ◌∙◌, subst}
use Rattle.std.specs.Prelude.{nat_lt, ◌||◌}
use Rattle.std.specs.List.{list_any}
use Rattle.std.specs.Option.{option_map, option_and_then}
use Rattle.tm_base.specs.declared.place.Place.{Place}
use Rattle.tm_syntax.specs.declared.tree.Ident.{Ident}
use Rattle.tm_syntax.specs.Tree.{ExprTree, ValueTree, star, plain, assign, element}
use Rattle.tm_syntax.specs.Design.{DesignTree}
use Rattle.tm_syntax.specs.Design.Scope.{context}
use Rattle.tm_syntax.specs.Design.Cells.{Cell, cell}
use Rattle.tm_syntax.specs.Design.Sizes.{type_size}
use Rattle.tm_syntax.specs.Design.Work.{perform}
use Rattle.tm_scope.specs.Cells.{HasCells, ScopedCells, cell_at, scope_of}
use Rattle.tm_scope.specs.declared.cells.site_body.CellNumber.{CellNumber}
use Rattle.tm_sem.specs.Value.{Memory, index_value, overruns, value}
use Rattle.tm_sem.specs.Run.{asked_by, chooses_value, goes_on, put_in}
use Rattle.tm_sem.specs.Run as run
use Rattle.tm_typing.specs.HasType.{IsSized}
use Rattle.tm_plain_bodies.specs.declared.course.Course.{Course}
use Rattle.tm_plain_bodies.specs.declared.halt.Halt.{Halt}
use Rattle.tm_plain_bodies.specs.declared.halt.Halt.TheVariants as halt
use Rattle.tm_design.specs.StepCells.{AreApart}
use Rattle.tm_plain_exprs.specs.Kept.{Keeps}
use Rattle.tm_plain_bodies.specs.Runs.{Stands, GetsThrough, HaltsWithin, HaltsAt, HaltsAtTarget, IsAssigned, IsSame, IsTarget, TargetAt, item_of, told}
use Rattle.tm_design.proofs.Contexts.{context_is}
use Rattle.tm_plain_bodies.proofs.Doing.{blocks, halts_at, halts_earlier, passes, stands_on}
use Rattle.tm_plain_bodies.proofs.Progress.{star_goes, target_overruns, value_goes, value_overruns, value_refused, value_taken, no_value_left}
use Rattle.tm_plain_bodies.proofs.Targets.{TargetType, asked_is, asked_sized, target_type}

-- a halt at a target is one of the assignment
pub halts_at_target : (s : ScopedCells) (from to : Course) (names : List Ident) (index : Option ExprTree)
    (v : ValueTree) (h : Halt) → HaltsAtTarget s from names index h →
    HaltsWithin s.tables (item_of s from.trail (assign names index v)) from to h
halts_at_target s from to names None v h is =
    subst (HaltsWithin s.tables (item_of s from.trail (assign names None v)) from to) (sym is) tt
halts_at_target s from to names (Some e) v h is =
    halts_at s (perform (scope_of s.at) from.trail (assign names (Some e) v)) from to (element names e) h is
    (λ o over. target_overruns o.design (scope_of s.at) from.trail o.memory from.choices names (Some e) v
    (ap (λ b. b || false) (over.is (told s from.store o))))

module _ (s : ScopedCells) (from mid to : Course) (same : IsSame from mid) (names : List Ident)
    (index : Option ExprTree) (at : TargetAt s names index) (found : Option CellNumber)
    (is : IsTarget s from.store names index found) where
  -- the cell of the target
  abbrev seen : Option Cell
  seen = option_and_then (cell_at s.tables s.at) found

  abbrev index_of : Stands s.tables from.store → Option ℕ
  index_of o = option_map (index_value o.design (scope_of s.at) o.memory) index

  abbrev target : Stands s.tables from.store → Option Cell
  target o = cell o.design (scope_of s.at) names (index_of o)

  seen_is : (o : Stands s.tables from.store) → seen ≡ target o
  seen_is o = is.cell (told s from.store o)

  within : (o : Stands s.tables from.store) →
      list_any (overruns o.design (scope_of s.at) o.memory) (run.target_element names index) ≡ false
  within o = is.within (told s from.store o)

  kind : TargetType at.context names
  kind = target_type at.context names index at.resolves

  here : (o : Stands s.tables from.store) → context o.design (scope_of s.at) ≡ Some at.context
  here o = context_is s at.context at.stands o.design o.cells

  sized : (o : Stands s.tables from.store) → IsSized (asked_by o.design seen)
  sized o =
      asked_sized o.design o.typed (scope_of s.at) at.context (here o) names kind.ty kind.named kind.sized (index_of o)
      seen (sym (seen_is o))

  -- the memory after a value was put into the target
  module _ (n : ℕ) (trail : to.trail ≡ mid.trail) (puts : (m : Memory) → AreApart s.tables →
      Keeps s.tables mid.store m → Keeps s.tables to.store (put_in m seen n)) where
    kept : (o : Stands s.tables from.store) → Keeps s.tables to.store (put_in o.memory (target o) n)
    kept o =
        subst (λ c. Keeps s.tables to.store (put_in o.memory c n)) (seen_is o)
        (puts o.memory o.apart (stands_on s.tables from mid same.store o).keeps)

    -- the next choice
    pub star_passes : (place : Place) → mid.choices ≡ n ∷ to.choices →
        ((d : DesignTree) → HasCells s.tables d → IsSized (asked_by d seen) →
        true ≡ nat_lt n (type_size d.spec (asked_by d seen))) →
        GetsThrough s.tables (item_of s from.trail (assign names index (star place))) from to
    star_passes place first takes =
        passes s.tables (perform (scope_of s.at) from.trail (assign names index (star place))) from to
        (trail ∙ same.trail)
        (λ o. (
          put_in o.memory (target o) n,
          kept o,
          star_goes o.design (scope_of s.at) from.trail o.memory from.choices names index (within o) place
              ∙ ap (chooses_value o.design o.memory (target o)) (sym same.choices ∙ first)
              ∙ value_taken o.design o.memory (target o) n to.choices
              (ap (λ c. nat_lt n (type_size o.design.spec (asked_by o.design c))) (sym (seen_is o))
              ∙ sym (takes o.design o.cells (sized o))),
        ))

    -- the value of an expression
    pub value_passes : (e : ExprTree) → to.choices ≡ mid.choices → IsAssigned s from.store names e n →
        GetsThrough s.tables (item_of s from.trail (assign names index (plain e))) from to
    value_passes e unread assigned =
        passes s.tables (perform (scope_of s.at) from.trail (assign names index (plain e))) from to
        (trail ∙ same.trail)
        (λ o. let w = told s from.store o in (
          put_in o.memory (target o) n,
          kept o,
          value_goes o.design (scope_of s.at) from.trail o.memory from.choices names index (within o) e
              (assigned.valued.within w)
              ∙ ap (λ m. goes_on [] m from.choices) (value_put o (target o) refl)
              ∙ ap (goes_on [] (put_in o.memory (target o) n)) (sym (unread ∙ same.choices)),
        ))
      where
        value_put : (o : Stands s.tables from.store) (t : Option Cell) → target o ≡ t →
            put_in o.memory t (value o.design (scope_of s.at) o.memory (asked_by o.design t) e)
            ≡ put_in o.memory t n
        value_put o None there = refl
        value_put o (Some c) there =
            let place = context_is s assigned.context assigned.stands o.design o.cells in
            ap (put_in o.memory (Some c))
            (ap (λ ty. value o.design (scope_of s.at) o.memory ty e)
            (asked_is o.design o.typed (scope_of s.at) assigned.context place names assigned.ty assigned.named
            (index_of o) c there)
            ∙ assigned.valued.value (told s from.store o))

  -- no choice is left
  pub star_wants : (place : Place) → mid.choices ≡ [] →
      HaltsWithin s.tables (item_of s from.trail (assign names index (star place))) from to halt.Blocked
  star_wants place none =
      blocks s.tables (perform (scope_of s.at) from.trail (assign names index (star place))) from to
      (λ o. star_goes o.design (scope_of s.at) from.trail o.memory from.choices names index (within o) place
      ∙ ap (chooses_value o.design o.memory (target o)) (sym same.choices ∙ none)
      ∙ no_value_left o.design o.memory (target o))

  -- the next choice is no value of the type
  pub star_refuses : (place : Place) (n : ℕ) (ds : List ℕ) → mid.choices ≡ n ∷ ds →
      ((d : DesignTree) → HasCells s.tables d → IsSized (asked_by d seen) →
      false ≡ nat_lt n (type_size d.spec (asked_by d seen))) →
      HaltsWithin s.tables (item_of s from.trail (assign names index (star place))) from to halt.Blocked
  star_refuses place n ds first takes =
      blocks s.tables (perform (scope_of s.at) from.trail (assign names index (star place))) from to
      (λ o. star_goes o.design (scope_of s.at) from.trail o.memory from.choices names index (within o) place
      ∙ ap (chooses_value o.design o.memory (target o)) (sym same.choices ∙ first)
      ∙ value_refused o.design o.memory (target o) n ds
      (ap (λ c. nat_lt n (type_size o.design.spec (asked_by o.design c))) (sym (seen_is o))
      ∙ sym (takes o.design o.cells (sized o))))

  -- a halt at the value
  pub value_halts : (e : ExprTree) (h : Halt) → HaltsAt s mid e h →
      HaltsWithin s.tables (item_of s from.trail (assign names index (plain e))) from to h
  value_halts e h halts =
      halts_at s (perform (scope_of s.at) from.trail (assign names index (plain e))) from to e h
      (halts_earlier s from mid same e h halts)
      (λ o over. value_overruns o.design (scope_of s.at) from.trail o.memory from.choices names index (within o) e
      (over.is (told s from.store o)))
