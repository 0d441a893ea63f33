-- Outside of all bodies no index overruns: each is a number within its array.
use Rattle.std.proofs.Common.{◌≡◌, ℕ, ◌<◌, Bool, true, false, Option, None, Some, true≢false, slice_get, refl, sym, ap, ◌∙◌, arith}
use Rattle.std.specs.Prelude.{◌||◌, ◌&&◌, nat_le, not, unwrap_or, if◌then◌else◌}
use Rattle.std.specs.Option.{option_map, option_and_then}
use Rattle.std.proofs.lemmas.Bool.Decides.{nat_tests}
use Rattle.tm_base.specs.declared.place.Place.{Place}
use Rattle.tm_syntax.specs.declared.tree.BinaryOperator.{BinaryOperator}
use Rattle.tm_syntax.specs.declared.tree.BinaryOperator.TheVariants.{AndAlso, OrElse}
use Rattle.tm_syntax.specs.declared.design.Instance.{Instance}
use Rattle.tm_syntax.specs.declared.design.Ty.{Ty}
use Rattle.tm_syntax.specs.declared.tree.Template.{Template}
use Rattle.tm_syntax.specs.Tree.{ExprTree, binary}
use Rattle.tm_syntax.specs.Tree.View.{spec_tree, template_tree}
use Rattle.tm_syntax.specs.Scopes.Context.{Context, outside}
use Rattle.tm_syntax.specs.Scopes.Names.{number_of}
use Rattle.tm_syntax.specs.Scopes.Types.{array_length}
use Rattle.tm_syntax.specs.Design.{DesignTree}
use Rattle.tm_syntax.specs.Design.Scope.{Scope, context}
use Rattle.tm_scope.specs.Cells.{ScopedCells, scope_of}
use Rattle.tm_scope.specs.Context.{body_name}
use Rattle.tm_scope.specs.declared.context.BodyName.TheVariants.{Outside}
use Rattle.tm_typing.specs.HasType.{HasType, a_truth, a_number, a_path, a_group, a_negation, a_complement, arithmetic, logic, a_comparison, a_shift, a_conditional, a_cast, an_element_at, an_element}
use Rattle.tm_sem.specs.Value.{Memory, overruns, holds_in}
use Rattle.tm_plain_exprs.specs.Kept.{Kept, Keeps}
use Rattle.tm_design.specs.Typed.{context_at, HasTypeAt}
use Rattle.tm_plain_exprs.specs.Valued.{Overruns, Told}
use Rattle.tm_design.proofs.Contexts.{some_design, some_cells, context_is}

both_false : (a b : Bool) → a ≡ false → b ≡ false → (a || b) ≡ false
both_false a b first second = ap (λ x. x || b) first ∙ second

and_false : (t b : Bool) → b ≡ false → (t && b) ≡ false
and_false true b second = second
and_false false b second = refl

one_false : (t a b : Bool) → a ≡ false → b ≡ false → (if t then a else b) ≡ false
one_false true a b first second = first
one_false false a b first second = second

module _ (d : DesignTree) (scope : Scope) (m : Memory) where
  two_within : (at : Place) (op : BinaryOperator) (a b : ExprTree) → overruns d scope m a ≡ false →
      overruns d scope m b ≡ false → overruns d scope m (binary at op a b) ≡ false
  two_within at AndAlso a b first second =
      both_false (overruns d scope m a) (holds_in d scope m a && overruns d scope m b) first
      (and_false (holds_in d scope m a) (overruns d scope m b) second)
  two_within at OrElse a b first second =
      both_false (overruns d scope m a) (not (holds_in d scope m a) && overruns d scope m b) first
      (and_false (not (holds_in d scope m a)) (overruns d scope m b) second)
  two_within at _ a b first second = both_false (overruns d scope m a) (overruns d scope m b) first second

  module _ (c : Context) (here : context d scope ≡ Some c) (out : c.body ≡ outside) where
    pub within_outside : {ty : Ty} (e : ExprTree) → HasType c ty e → overruns d scope m e ≡ false
    within_outside e a_truth = refl
    within_outside e (a_number _ _ _) = refl
    within_outside e (a_path _ _ _) = refl
    within_outside e (a_group {e = x} h) = within_outside x h
    within_outside e (a_negation {e = x} h) = within_outside x h
    within_outside e (a_complement {e = x} h) = within_outside x h
    within_outside e (arithmetic {at = at} {op = op} {a = a} {b = b} _ x y) =
        two_within at op a b (within_outside a x) (within_outside b y)
    within_outside e (logic {at = at} {op = op} {a = a} {b = b} _ x y) =
        two_within at op a b (within_outside a x) (within_outside b y)
    within_outside e (a_comparison {at = at} {op = op} {a = a} {b = b} _ _ x y) =
        two_within at op a b (within_outside a x) (within_outside b y)
    within_outside e (a_shift {e = x} h _ _) = within_outside x h
    within_outside e (a_conditional {e = test} {a = a} {b = b} t x y) =
        both_false (overruns d scope m test)
        (if holds_in d scope m test then overruns d scope m a else overruns d scope m b) (within_outside test t)
        (one_false (holds_in d scope m test) (overruns d scope m a) (overruns d scope m b) (within_outside a x)
        (within_outside b y))
    within_outside e (a_cast {e = x} _ _ _ h) = within_outside x h
    within_outside e (an_element_at {size = size} {v = v} {names = names} {n = n} _ _ length is less) =
        ap (λ o. nat_le (unwrap_or (option_and_then (λ c. array_length c names) o) 0) (number_of n)) here
        ∙ ap (λ o. nat_le (unwrap_or o 0) (number_of n)) length
        ∙ ap (λ o. nat_le size (unwrap_or o 0)) is
        ∙ not_past size v less
      where
        not_past : (size v : ℕ) → v < size → nat_le size v ≡ false
        not_past size v less = grind (arith, nat_tests)
    within_outside e (an_element _ _ _ inside _ _) = absurd (inside out)

-- the body of a context is the one that asks
body_here : (s : ScopedCells) (c : Context) → context_at s ≡ Some c → c.body ≡ body_name s.at.body
body_here s c is = by_instance (slice_get s.tables.instances s.at.instance) is
  where
    at_template : Template → Context
    at_template t = record {
      spec = spec_tree s.tables.spec;
      template = template_tree t;
      body = body_name s.at.body;
    }

    by_template : (o : Option Template) → option_map at_template o ≡ Some c → c.body ≡ body_name s.at.body
    by_template None h = absurd (cc)
    by_template (Some t) h = let same : at_template t ≡ c = cc in sym (ap (λ (k : Context). k.body) same)

    by_instance : (o : Option Instance) →
        option_and_then (λ (i : Instance). option_map at_template (slice_get s.tables.spec.templates.items
        i.template)) o
        ≡ Some c → c.body ≡ body_name s.at.body
    by_instance None h = absurd (cc)
    by_instance (Some i) h = by_template (slice_get s.tables.spec.templates.items i.template) h

-- a typed expression outside of all bodies never overruns
pub never_overruns : (s : ScopedCells) (k : Kept) (ty : Ty) (e : ExprTree) → HasTypeAt s ty e → s.at.body ≡ Outside →
    (m : Memory) → Keeps s.tables k m → Overruns s k e → ⊥
never_overruns s k ty e h out m keeps over =
    let d : DesignTree = some_design s.tables in
    let of : Told s k = record { design = d; memory = m; cells = some_cells s.tables; keeps = keeps } in
    let here : context d (scope_of s.at) ≡ Some h.context
    = context_is s h.context h.stands d (some_cells s.tables) in
    let body : h.context.body ≡ outside = body_here s h.context h.stands ∙ ap body_name out in
    true≢false (sym (over.is of) ∙ within_outside d (scope_of s.at) m h.context here body e h.typed)
