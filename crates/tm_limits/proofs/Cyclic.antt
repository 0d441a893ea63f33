-- The first template that reaches itself, found from the front.
use Rattle.std.proofs.Common.{◌≡◌, ℕ, zero, suc, ◌+◌, ◌<◌, Bool, true, false, Option, None, Some, List, [], ◌∷◌, ◌++◌, length, map, take, get_or, slice_get, refl, sym, ap, ◌∙◌, subst, arith, true≢false, if◌then◌else◌}
use Rattle.std.specs.Prelude.{◌&&◌, ◌↔◌}
use Rattle.std.specs.Option.{option_map}
use Rattle.std.specs.List.{AllByRecursion, enumerate_from}
use Rattle.std.proofs.lemmas.List.{take_more, length-take-le}
use Rattle.tm_syntax.specs.declared.tree.Ident.{Ident}
use Rattle.tm_syntax.specs.declared.tree.Template.{Template}
use Rattle.tm_syntax.specs.declared.tree.Spec.{Spec}
use Rattle.tm_syntax.specs.Tree.View.{spec_tree, template_tree}
use Rattle.tm_syntax.specs.Faults.{IsFirst}
use Rattle.tm_syntax.specs.Faults.Cycles.{TemplateMark, HoldsItself, all_templates}
use Rattle.tm_syntax.specs.Faults.Marks.{named}
use Rattle.tm_scope.specs.declared.graph.Walked.{Walked}
use Rattle.tm_scope.specs.Graph.{IsWalk, LeadsTo}
use Rattle.tm_scope.proofs.TaskSets.{both-true}
use Rattle.tm_limits.specs.Firsts.{IsFirstOf}
use Rattle.tm_limits.specs.Inner.Cycles.{IsMarked, marks_of, stands_before}
use Rattle.tm_limits.specs.TemplateOrders.{AreOrdered}
use Rattle.tm_limits.specs.Orders.{IsOrder}
use Rattle.tm_limits.specs.Templates.{held_numbers, holdings}
use Rattle.tm_limits.proofs.FirstMarks.{first_of_more, first_same, is_earlier}
use Rattle.tm_limits.proofs.TemplateGraphs.{held_where_leads, leads_where_held, length-mapped, marks_agree}
use Rattle.tm_limits.proofs.Walks.{leads_within, walk_covers, walk_order}

-- the mark of a template
abbrev mark_at : ℕ → Template → TemplateMark
mark_at k t = record { number = k; mark = named t.name }

marks_pushed : (k : ℕ) (ts : List Template) (t : Template) →
    map (λ (t : ℕ × Template). mark_at t.0 t.1) (enumerate_from k (ts ++ t ∷ []))
    ≡ map (λ (t : ℕ × Template). mark_at t.0 t.1) (enumerate_from k ts) ++ mark_at (k + length ts) t ∷ []
marks_pushed k [] t =
    let same : k ≡ k + 0 = omega arith in ap (λ n. mark_at n t ∷ []) same
marks_pushed k (u ∷ ts) t =
    let same : k + 1 + length ts ≡ k + length (u ∷ ts) = omega arith in
    ap (λ ms. mark_at k u ∷ ms) (marks_pushed (k + 1) ts t
    ∙ ap (λ n. map (λ (t : ℕ × Template). mark_at t.0 t.1) (enumerate_from (k + 1) ts) ++ mark_at n t ∷ []) same)

module _ (P : ℕ → Type 0) where
  -- one more template: what was found says whether it is a fault and stands before the first one
  pub cyclic_more : (ts : List Template) (i : ℕ) (t : Template) (first next : Option Ident) (found : Bool) →
      i < length ts → t ≡ get_or ts i t → next ≡ (if found then Some t.name else first) →
      (found ≡ true → P i) → (found ≡ true → stands_before t.name first ≡ true) →
      (found ≡ false → stands_before t.name first ≡ true → ¬ P i) →
      IsFirstOf (λ (m : TemplateMark). m.mark) (λ (m : TemplateMark). P m.number)
      (marks_of (take i ts)) (option_map named first) →
      IsFirstOf (λ (m : TemplateMark). m.mark) (λ (m : TemplateMark). P m.number)
      (marks_of (take (i + 1) ts)) (option_map named next)
  cyclic_more ts i t first next found within is chosen holds before misses so =
      subst (λ (ms : List TemplateMark). IsFirstOf (λ (m : TemplateMark). m.mark)
      (λ (m : TemplateMark). P m.number) ms (option_map named next)) marks
      (subst (IsFirstOf (λ (m : TemplateMark). m.mark) (λ (m : TemplateMark). P m.number)
      (marks_of (take i ts) ++ mark_at i t ∷ [])) (answer found chosen)
      (first_of_more (λ (m : TemplateMark). m.mark) (λ (m : TemplateMark). P m.number)
      (marks_of (take i ts)) (mark_at i t) (option_map named first) found holds
      (λ e. sym (agrees first) ∙ before e) (λ e h. misses e (agrees first ∙ h)) so))
    where
      agrees : (o : Option Ident) → stands_before t.name o
          ≡ is_earlier (λ (m : TemplateMark). m.mark) (λ (m : TemplateMark). P m.number)
          (mark_at i t) (option_map named o)
      agrees None = refl
      agrees (Some name) = refl

      answer : (b : Bool) → next ≡ (if b then Some t.name else first) →
          (if b then Some (named t.name) else option_map named first) ≡ option_map named next
      answer true e = sym (ap (option_map named) e)
      answer false e = sym (ap (option_map named) e)

      marks : marks_of (take i ts) ++ mark_at i t ∷ [] ≡ marks_of (take (i + 1) ts)
      marks =
          let count : 0 + length (take i ts) ≡ i = let e = length-take-le i ts (omega arith) in omega (arith, e) in
          sym (ap marks_of (take_more ts i t within ∙ ap (λ u. take i ts ++ u ∷ []) (sym is))
          ∙ marks_pushed 0 (take i ts) t
          ∙ ap (λ n. marks_of (take i ts) ++ mark_at n t ∷ []) count)

-- one more template, by a table of marks
pub marked_more : (marks : List Bool) (ts : List Template) (i : ℕ) (t : Template) (first next : Option Ident)
    (found : Bool) → i < length ts → t ≡ get_or ts i t → next ≡ (if found then Some t.name else first) →
    found ≡ (get_or marks i false && stands_before t.name first) →
    IsFirstOf (λ (m : TemplateMark). m.mark) (λ (m : TemplateMark). IsMarked marks m.number)
    (marks_of (take i ts)) (option_map named first) →
    IsFirstOf (λ (m : TemplateMark). m.mark) (λ (m : TemplateMark). IsMarked marks m.number)
    (marks_of (take (i + 1) ts)) (option_map named next)
marked_more marks ts i t first next found within is chosen tested so =
    cyclic_more (IsMarked marks) ts i t first next found within is chosen
    (λ e. (both-true (get_or marks i false) (stands_before t.name first) (sym tested ∙ e)).0)
    (λ e. (both-true (get_or marks i false) (stands_before t.name first) (sym tested ∙ e)).1)
    (λ e before marked. true≢false (sym (tested ∙ (λ j. marked j && before j)) ∙ e)) so

-- what holds of the marks of all templates holds at each number
none_at : (P : ℕ → Type 0) (k : ℕ) (ts : List Template) →
    AllByRecursion (λ (m : TemplateMark). P m.number)
    (map (λ (t : ℕ × Template). mark_at t.0 t.1) (enumerate_from k ts)) →
    (a : ℕ) → a < length ts → P (k + a)
none_at P k [] all a below = absurd (omega arith)
none_at P k (t ∷ ts) all zero below = let same : k ≡ k + 0 = omega arith in subst P same all.0
none_at P k (t ∷ ts) all (suc a) below =
    let same : k + 1 + a ≡ k + suc a = omega arith in subst P same (none_at P (k + 1) ts all.1 a (omega arith))

module _ (s : Spec) (graph : List (List ℕ)) (marks : List Bool) (ts : List Template)
    (same : graph ≡ holdings (spec_tree s)) (whole : ts ≡ s.templates.items)
    (told : (a : ℕ) → IsMarked marks a ↔ LeadsTo graph a a) where
  -- a template is marked exactly where it holds itself
  holds_where_marked : (m : TemplateMark) → IsMarked marks m.number → HoldsItself (spec_tree s) m
  holds_where_marked m e =
      held_where_leads (spec_tree s) m.number m.number
      (subst (λ g. LeadsTo g m.number m.number) same ((told m.number).0 e))

  marked_where_holds : (m : TemplateMark) → HoldsItself (spec_tree s) m → IsMarked marks m.number
  marked_where_holds m r =
      (told m.number).1 (subst (λ g. LeadsTo g m.number m.number) (sym same)
      (leads_where_held (spec_tree s) m.number m.number r))

  -- the first template that is marked is the first that holds itself
  pub first_holds : (name : Ident) →
      IsFirst (λ (m : TemplateMark). m.mark) (λ (m : TemplateMark). IsMarked marks m.number) (marks_of ts)
      (named name) →
      IsFirst (λ (m : TemplateMark). m.mark) (HoldsItself (spec_tree s)) (all_templates (spec_tree s)) (named name)
  first_holds name first =
      subst (λ (ms : List TemplateMark). IsFirst (λ (m : TemplateMark). m.mark) (HoldsItself (spec_tree s)) ms
      (named name)) (ap marks_of whole ∙ marks_agree 0 s.templates.items)
      (first_same (λ (m : TemplateMark). m.mark) (λ (m : TemplateMark). IsMarked marks m.number)
      (HoldsItself (spec_tree s)) holds_where_marked marked_where_holds (marks_of ts) (named name) first)

  -- where none is marked, no number of a template leads to itself
  none_leads : AllByRecursion (λ (m : TemplateMark). ¬ IsMarked marks m.number) (marks_of ts) →
      (a : ℕ) → ¬ LeadsTo graph a a
  none_leads none a leads =
      let within : a < length ts =
      let below = leads_within graph a a leads in
      let count = ap length same ∙ length-mapped (held_numbers (spec_tree s)) (spec_tree s).templates
      ∙ length-mapped template_tree s.templates.items ∙ ap length (sym whole) in
      omega (arith, below, count) in
      let zero_first : 0 + a ≡ a = omega arith in
      subst (λ n. ¬ IsMarked marks n) zero_first (none_at (λ n. ¬ IsMarked marks n) 0 ts none a within)
      ((told a).1 leads)

  -- then the walk's order has all templates, each behind all that it holds
  pub ordered_all : (walk : List Walked) (order : List ℕ) → IsWalk graph walk →
      order ≡ map (λ (w : Walked). w.node) walk →
      AllByRecursion (λ (m : TemplateMark). ¬ IsMarked marks m.number) (marks_of ts) →
      AreOrdered (spec_tree s) graph order
  ordered_all walk order is nodes none =
      let acyclic : (a : ℕ) → ¬ LeadsTo graph a a = none_leads none in
      record {
        acyclic = λ t r. acyclic t (subst (λ g. LeadsTo g t t) (sym same) (leads_where_held (spec_tree s) t t r));
        graph_is = same;
        ordered = subst (IsOrder graph) (sym nodes) (walk_order graph walk is acyclic);
        covers = λ a below. subst (λ (o : List ℕ). (k : ℕ) × (slice_get o k ≡ Some a)) (sym nodes)
            (walk_covers graph walk is a below);
        short =
            let count = ap length nodes ∙ length-mapped (λ (w : Walked). w.node) walk in
            let few = is.short in omega (arith, count, few);
      }
