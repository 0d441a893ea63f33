-- The terms of conditions that stand outside of all bodies.
use Rattle.std.proofs.Common.{◌≡◌, ◌⊎◌, inl, inr, ℕ, zero, suc, ◌+◌, ◌^◌, ◌<◌, ◌≤◌, ◌==◌, Option, None, Some, List, [], ◌∷◌, ◌++◌, length, map, take, slice_get, slice_index, refl, sym, ap, ◌∙◌, subst, arith, length-take}
use Rattle.std.specs.Prelude.{IfNone, IfSome, not}
use Rattle.std.specs.List.{AllZip, range_with_len}
use Rattle.std.specs.Option.{option_map}
use Rattle.std.specs.declared.vec.Vec.{Vec}
use Rattle.std.specs.declared.alloc.Global.{Global}
use Rattle.std.proofs.lemmas.List.{get_or-take}
use Rattle.tm_base.specs.Arithmetic.{bit}
use Rattle.tm_syntax.specs.declared.design.Design.{Design}
use Rattle.tm_syntax.specs.declared.design.Item.{Item}
use Rattle.tm_syntax.specs.declared.design.Ty.TheVariants as types
use Rattle.tm_syntax.specs.declared.design.Var.{Var}
use Rattle.tm_syntax.specs.Tree.{ExprTree}
use Rattle.tm_syntax.specs.Tree.View.{spec_tree}
use Rattle.tm_syntax.specs.Design.{DesignTree}
use Rattle.tm_syntax.specs.Design.Scope.{site}
use Rattle.tm_syntax.specs.Design.Sizes.{type_bits}
use Rattle.tm_syntax.specs.Design.View.{design_tree}
use Rattle.tm_scope.specs.Cells.{CellTables, HasCells, ScopedCells}
use Rattle.tm_scope.specs.declared.cells.site_body.SiteBody.{SiteBody}
use Rattle.tm_design.specs.Typed.{HasTypeAt, context_at}
use Rattle.tm_design.proofs.Contexts.{context_here, of_site}
use Rattle.tm_term.specs.declared.term.TermId.{TermId}
use Rattle.tm_term.specs.Table.{Table, IsSound}
use Rattle.tm_term.specs.Value.{value_of, Extends}
use Rattle.tm_term.proofs.Valued.{Extends-trans}
use Rattle.tm_sem.specs.Fairness.{fair_expr, of_text}
use Rattle.tm_sem.specs.Play.{goal_expr}
use Rattle.tm_sem.specs.Value.{plain_memory}
use Rattle.tm_flat.specs.Inputs.{AreSmall, input_widths}
use Rattle.tm_flat.specs.IsFlat.{IsGoalTerm}
use Rattle.tm_flat.specs.Steps.{IsInput, IsTerm}
use Rattle.tm_flat_exprs.specs.declared.valued.Valued.{Valued}
use Rattle.tm_flat_exprs.specs.Kept.{Keeps, KeptTerms}
use Rattle.tm_flat_exprs.specs.Made.{Makes}
use Rattle.tm_flat_exprs.specs.Merged.{IsMemory}
use Rattle.tm_flat_exprs.specs.Valued.{Finds, IsReady}
use Rattle.tm_flat_exprs.proofs.Along.{kept_along}
use Rattle.tm_flat_exprs.proofs.Later.{Extends-refl, below_later, term_along}
use Rattle.tm_flat_states.specs.Actors.{IsConditionTerm}
use Rattle.tm_flat_states.specs.Conditions.{AreInputTerms, AreStated, HasInputs, IsStated, MakesMemory, stated}
use Rattle.tm_flat_exprs.specs.Tables.{cells_of}
use Rattle.tm_flat_states.specs.Markable.{IsMarkable, outside_of}
use Rattle.tm_flat_states.specs.Marks.{MakesSuch}
use Rattle.tm_flat_states.proofs.ConditionTerms.{fair_told, goal_told}
use Rattle.tm_flat_states.proofs.InputTerms.{input_along, input_of, input_value, inputs_many, var_width}
use Rattle.tm_flat_states.proofs.Lists.{get_within, map_long}
use Rattle.tm_flat_states.proofs.Numbered.{numbered_all, zip_mapped, zip_taken}

pub own_cells : (d : Design) → HasCells (cells_of d) (design_tree d)
own_cells d = record { text = refl; instances = refl; vars = refl }

-- ---- inputs that are made one behind the other
pub no_inputs : (t : Table) → IsSound t → AreInputTerms t t 0 []
no_inputs t sound = record {
  grown = Extends-refl t;
  sound = sound;
  as_many = refl;
  each = λ i id is. absurd (cc);
}

pushed_long : {X : Type 0} (xs : List X) (x : X) → length (xs ++ x ∷ []) ≡ length xs + 1
pushed_long [] x = refl
pushed_long (y ∷ xs) x = let rest = pushed_long xs x in omega (arith, rest)

get_pushed : {X : Type 0} (xs : List X) (y : X) (k : ℕ) (x : X) → slice_get (xs ++ y ∷ []) k ≡ Some x →
    (slice_get xs k ≡ Some x) ⊎ ((k ≡ length xs) × (y ≡ x))
get_pushed [] y zero x is = inr (refl, let same : y ≡ x = cc in same)
get_pushed [] y (suc k) x is = absurd (cc)
get_pushed (z ∷ xs) y zero x is = inl is
get_pushed {X} (z ∷ xs) y (suc k) x is = by (get_pushed xs y k x is)
  where
    by : (slice_get xs k ≡ Some x) ⊎ ((k ≡ length xs) × (y ≡ x)) →
        (slice_get xs k ≡ Some x) ⊎ ((suc k ≡ suc (length xs)) × (y ≡ x))
    by (inl here) = inl here
    by (inr last) = inr (ap suc last.0, last.1)

pub more_inputs : (t m n : Table) (i : ℕ) (ids more : List TermId) (id : TermId) → AreInputTerms t m i ids →
    Extends m n → IsSound n → IsInput n i id → more ≡ ids ++ id ∷ [] → AreInputTerms t n (i + 1) more
more_inputs t m n i ids more id so_far grown sound is pushed = subst (AreInputTerms t n (i + 1)) (sym pushed) (record {
  grown = Extends-trans t m n so_far.grown grown;
  sound = sound;
  as_many = pushed_long ids id ∙ ap (λ k. k + 1) so_far.as_many;
  each = λ k x at. by k x (get_pushed ids id k x at);
})
  where
    by : (k : ℕ) (x : TermId) → (slice_get ids k ≡ Some x) ⊎ ((k ≡ length ids) × (id ≡ x)) → IsInput n k x
    by k x (inl here) = input_along m n k x grown (so_far.each k x here)
    by k x (inr last) =
        subst (λ j. IsInput n j x) (sym (last.0 ∙ so_far.as_many)) (subst (IsInput n i) last.1 is)

-- lists of one length with equal elements are one
same_lists : (xs ys : List ℕ) → length xs ≡ length ys →
    ((k : ℕ) → k < length xs → slice_index xs k ≡ slice_index ys k) → xs ≡ ys
same_lists [] [] long same = refl
same_lists [] (y ∷ ys) long same = absurd (omega (arith, long))
same_lists (x ∷ xs) [] long same = absurd (omega (arith, long))
same_lists (x ∷ xs) (y ∷ ys) long same =
    let first : x ≡ y = same 0 (omega arith) in
    let rest = same_lists xs ys (omega (arith, long)) (λ k below. same (suc k) (omega arith)) in
    (λ i. first i ∷ rest i)

index_map : {X : Type 0} (f : X → ℕ) (xs : List X) (k : ℕ) (x : X) → slice_get xs k ≡ Some x →
    slice_index (map f xs) k ≡ f x
index_map f [] k x is = absurd (cc)
index_map f (y ∷ xs) zero x is = let same : y ≡ x = cc in ap f same
index_map f (y ∷ xs) (suc k) x is = index_map f xs k x is

-- the values of the first inputs are those that they are given
first_inputs : (t n : Table) (count : ℕ) (ids : List TermId) → AreInputTerms t n count ids → (u : Table) → Extends n u →
    (v : List ℕ) → count ≤ length v → map (value_of u v) ids ≡ take count v
first_inputs t n count ids are u more v many =
    let long : length (map (value_of u v) ids) ≡ count = map_long (value_of u v) ids ∙ are.as_many in
    same_lists (map (value_of u v) ids) (take count v) (long ∙ sym (omega (arith, length-take count v)))
    (λ k below.
    let inside : k < count = omega (arith, long, below) in
    let here = get_within ids k (let m = are.as_many in omega (arith, m, inside)) in
    index_map (value_of u v) ids k here.0 here.1
    ∙ input_value n u k here.0 are.sound (are.each k here.0 here.1) more v
    ∙ sym (get_or-take count v k 0 inside))

-- ---- the memory of the inputs
pub memory_made : (d : Design) (t n : Table) (count : ℕ) (ids : List TermId) (k : KeptTerms) →
    t.inputs ≡ input_widths (design_tree d) → count ≡ length d.vars.items → AreInputTerms t n count ids →
    ((x : CellTables) (u : Table) (v : List ℕ) → Keeps x u v k (plain_memory (map (value_of u v) ids))) →
    ((x : CellTables) (t : Table) → length ids ≡ length x.vars →
    ((i : ℕ) (id : TermId) (var : Var) → slice_get ids i ≡ Some id → slice_get x.vars i ≡ Some var →
    IsTerm t (type_bits (spec_tree x.spec) var.ty) id) → IsMemory x t k) → MakesMemory (cells_of d) t n k
memory_made d t n count ids k inputs many are keeps memory = record {
  grown = are.grown;
  inputs = record {
    sound = are.sound;
    kept = (memory (cells_of d) n (are.as_many ∙ many) (λ i id var here there.
        input_of (design_tree d) n i (type_bits (spec_tree d.spec) var.ty) id (are.grown.inputs ∙ inputs) are.sound
        (are.each i id here) (var_width (design_tree d) i var there))).kept;
    keeps = λ u more v is.
        subst (λ vs. Keeps (cells_of d) u v k (plain_memory vs))
        (first_inputs t n count ids are u more v
        (let all : length v ≡ length (input_widths (design_tree d)) =
        is.count ∙ ap length (more.inputs ∙ are.grown.inputs ∙ inputs) in
        omega (arith, all, many, inputs_many (design_tree d)))
        ∙ ap (λ c. take c v) many)
        (keeps (cells_of d) u v);
  };
}

pub inputs_along : (x : CellTables) (t n : Table) (k : KeptTerms) → Extends t n → IsSound n → HasInputs x t k →
    HasInputs x n k
inputs_along x t n k grown sound has = record {
  sound = sound;
  kept = kept_along x t n k grown has.kept;
  keeps = λ u more v are. has.keeps u (Extends-trans t n u grown more) v are;
}

-- ---- a condition
itself : (x : ℕ) → x < 2 ^ 1 → bit (not (x == 0)) ≡ x
itself zero below = refl
itself (suc zero) below = refl
itself (suc (suc x)) below = absurd (omega arith)

pub ready_here : (s : ScopedCells) (d : Design) (n : ℕ) (t : Table) (k : KeptTerms) → s ≡ outside_of d n →
    IsMarkable d → HasInputs (cells_of d) t k → IsReady s t k
ready_here s d n t k same markable has = subst (λ w. IsReady w t k) (sym same) (record {
  settled = markable.settled;
  sound = has.sound;
  kept = has.kept;
})

pub condition_made : (s : ScopedCells) (d : Design) (i : ℕ) (t n : Table) (k : KeptTerms) (e : ExprTree)
    (found : Valued) →
    s ≡ outside_of d i → HasInputs (cells_of d) t k → Finds s k types.Bool e t n found →
    Makes t n 1 found.value (λ u v. bit (stated (design_tree d) i (Some e) v))
condition_made s d i t n k e found same has finds = by (subst (λ w. Finds w k types.Bool e t n found) same finds)
  where
    by : Finds (outside_of d i) k types.Bool e t n found →
        Makes t n 1 found.value (λ u v. bit (stated (design_tree d) i (Some e) v))
    by finds = record {
      grown = finds.grown;
      sound = finds.ready.sound;
      term = finds.value;
      value = λ u more v are.
          let is = (finds.means u more v are).value (record {
            design = design_tree d;
            memory = plain_memory (take (length d.vars.items) v);
            cells = own_cells d;
            keeps = has.keeps u (Extends-trans t n u finds.grown more) v are;
          }) in
          let below = below_later n u v 1 found.value finds.ready.sound finds.value more are in
          sym (ap (λ x. bit (not (x == 0))) is ∙ itself (value_of u v found.value) below);
    }

-- ---- what stands outside of the bodies of an instance
source_is : {X Y : Type 0} (o : Option X) (y z : Y) (r : Option Y) → r ≡ option_map (λ _. y) o → r ≡ Some z → z ≡ y
source_is None y z r is some = absurd (cc)
source_is (Some x) y z r is some = let same : z ≡ y = cc in same

no_source : {X Y : Type 0} (o : Option X) (y : Y) (r : Option Y) → r ≡ option_map (λ _. y) o → r ≡ None → o ≡ None
no_source None y r is none = refl
no_source (Some x) y r is none = absurd (cc)

module _ (d : Design) (x : CellTables) (same : x ≡ cells_of d) (at : SiteBody) (r : Option ScopedCells)
    (told : (e : DesignTree) → HasCells x e → r ≡ option_map (λ _. record { tables = x; at = at }) (site e at.instance))
  where
    here : r ≡ option_map (λ _. record { tables = x; at = at }) (site (design_tree d) at.instance)
    here = told (design_tree d) (subst (λ (y : CellTables). HasCells y (design_tree d)) (sym same) (own_cells d))

    pub scope_found : (scope : ScopedCells) → r ≡ Some scope → scope ≡ record { tables = cells_of d; at = at }
    scope_found scope is =
        source_is (site (design_tree d) at.instance) (record { tables = x; at = at }) scope r here is
        ∙ ap (λ (y : CellTables). record { tables = y; at = at }) same

    pub no_scope : r ≡ None → site (design_tree d) at.instance ≡ None
    no_scope is = no_source (site (design_tree d) at.instance) (record { tables = x; at = at }) r here is

-- an expression that has a type stands in an instance of the design
pub has_site : (d : Design) (n : ℕ) (e : ExprTree) → HasTypeAt (outside_of d n) types.Bool e →
    site (design_tree d) n ≡ None → ⊥
has_site d n e h none =
    let s = outside_of d n in
    let missing : context_at s ≡ None =
    sym (context_here s (design_tree d) (own_cells d)) ∙ ap (option_map (of_site (design_tree d) s)) none in
    let there = h.stands in cc

-- what was found is what stands outside of the bodies of the instance
pub reader_found : (d : Design) (n : ℕ) (e : ExprTree) (found : Option ScopedCells) →
    IfSome found (λ r. r ≡ outside_of d n) → IfNone found (site (design_tree d) n ≡ None) →
    HasTypeAt (outside_of d n) types.Bool e → found ≡ Some (outside_of d n)
reader_found d n e None some none typed = absurd (has_site d n e typed none)
reader_found d n e (Some r) some none typed = ap Some some

-- ---- conditions one behind the other
module _ (d : DesignTree) (expr : Item → Option ExprTree) where
  pub none_stated : (t : Table) → IsSound t → AreStated d expr [] t t []
  none_stated t sound = record { grown = Extends-refl t; sound = sound; each = λ u more. tt }

  pub more_stated : (items : List Item) (i : ℕ) (item : Item) (t m n : Table) (ids more : List TermId) (id : TermId) →
      slice_get items i ≡ Some item → AreStated d expr (take i items) t m ids →
      Makes m n 1 id (λ u v. bit (stated d item.instance (expr item) v)) → more ≡ ids ++ id ∷ [] →
      AreStated d expr (take (i + 1) items) t n more
  more_stated items i item t m n ids more id here so_far made pushed =
      subst (AreStated d expr (take (i + 1) items) t n) (sym pushed) (record {
        grown = Extends-trans t m n so_far.grown made.grown;
        sound = made.sound;
        each = λ u later.
            zip_taken (IsStated d expr u) items ids i item id
            (so_far.each u (Extends-trans m n u made.grown later)) here (record {
              term = term_along n u 1 id later made.term;
              value = λ v are. made.value u later v are;
            });
      })

-- ---- terms of goals, and of declared fairness conditions
module _ (t m n : Table) (d : DesignTree) (small : AreSmall d) (inputs : t.inputs ≡ input_widths d)
    (grown : Extends t m)
    (ids : Vec TermId Global) where
  pub goals_such : AreStated d (goal_expr d) d.goals m n ids.items →
      MakesSuch t n (λ u (l : Vec TermId Global). AllZip (IsGoalTerm u d) (range_with_len 0 (length d.goals)) l.items)
      ids
  goals_such are = record {
    grown = Extends-trans t m n grown are.grown;
    sound = are.sound;
    is = λ u more.
        numbered_all (IsStated d (goal_expr d) u) (IsGoalTerm u d) d.goals ids.items (λ k item id here is.
        goal_told u d small (more.inputs ∙ are.grown.inputs ∙ grown.inputs ∙ inputs) k item id here is)
        (are.each u more);
  }

  pub fairs_such : AreStated d (fair_expr d) d.fairs m n ids.items →
      MakesSuch t n (λ u (l : Vec TermId Global). AllZip (IsConditionTerm u d) (map of_text d.fairs) l.items) ids
  fairs_such are = record {
    grown = Extends-trans t m n grown are.grown;
    sound = are.sound;
    is = λ u more.
        zip_mapped (IsStated d (fair_expr d) u) (IsConditionTerm u d) of_text (λ item id is.
        fair_told u d small (more.inputs ∙ are.grown.inputs ∙ grown.inputs ∙ inputs) item id is) d.fairs ids.items
        (are.each u more);
  }

pub one_found : {X : Type 0} (o : Option X) (a b : X) → o ≡ Some a → o ≡ Some b → a ≡ b
one_found o a b first second = let same : Some a ≡ Some b = sym first ∙ second in cc

-- an expression that was found states what the same one does
pub stated_so : (t n : Table) (id : TermId) (d : DesignTree) (i : ℕ) (e o : Option ExprTree) → e ≡ o →
    Makes t n 1 id (λ u v. bit (stated d i e v)) → Makes t n 1 id (λ u v. bit (stated d i o v))
stated_so t n id d i e o same made = subst (λ x. Makes t n 1 id (λ u v. bit (stated d i x v))) same made
