-- Two memories of terms as one.
use Rattle.std.proofs.Common.{◌≡◌, ℕ, suc, ◌<◌, ◌==◌, Bool, true, false, Some, List, [], ◌∷◌, length, map, cond, refl, sym, ap, ◌∙◌, subst, arith}
use Rattle.std.specs.Prelude.{not, slice_get, if◌then◌else◌}
use Rattle.std.proofs.lemmas.Option.{slice_get_within}
use Rattle.tm_base.specs.Arithmetic.{choice}
use Rattle.tm_syntax.specs.Tree.View.{spec_tree}
use Rattle.tm_syntax.specs.Design.Sizes.{type_bits}
use Rattle.tm_scope.specs.Cells.{CellTables}
use Rattle.tm_scope.proofs.Entries.{at-there}
use Rattle.tm_term.specs.declared.term.TermId.{TermId}
use Rattle.tm_term.specs.Table.{Table}
use Rattle.tm_term.specs.Value.{AreInputs, value_of, Extends}
use Rattle.tm_sem.specs.Value.{Memory}
use Rattle.tm_flat.specs.Steps.{IsTerm}
use Rattle.tm_design.specs.declared.step_cells.StepCell.{StepCell}
use Rattle.tm_flat_exprs.specs.declared.memory.versions.Version.{Version}
use Rattle.tm_flat_exprs.specs.Kept.{KeptTerms, Keeps}
use Rattle.tm_flat_exprs.specs.Merged.{IsMemory, AreAlike, Merges}
use Rattle.tm_flat_exprs.specs.Versions.{step_value}
use Rattle.tm_flat_exprs.specs.Inner.Merging.{Chooses, MergesValues, MergesSteps}
use Rattle.tm_flat_exprs.proofs.Along.{kept_along}
use Rattle.tm_flat_exprs.proofs.Later.{term_along}

-- terms of one width have that width
pub one_width : (t : Table) (v w : ℕ) (x : TermId) → IsTerm t v x → IsTerm t w x → v ≡ w
one_width t v w x a b = sym a.1 ∙ b.1

-- a choice between terms of a width has it
chosen_width : (n : Table) (guard a b id : TermId) (w : ℕ) → Chooses n guard a b id → IsTerm n w a → IsTerm n w id
chosen_width n guard a b id w c first = subst (λ k. IsTerm n k id) (one_width n c.width w a c.first first) c.term

-- a choice by whether its test is 0
choice_is : (g a b : ℕ) (z : Bool) → (g == 0) ≡ z → choice g a b ≡ cond z b a
choice_is g a b true e = ap (λ y. cond (not y) a b) e
choice_is g a b false e = ap (λ y. cond (not y) a b) e

same_mapped : (f : TermId → ℕ) (xs ys : List TermId) → length xs ≡ length ys →
    ((i : ℕ) (a b : TermId) → slice_get xs i ≡ Some a → slice_get ys i ≡ Some b → f a ≡ f b) → map f xs ≡ map f ys
same_mapped f [] [] long each = refl
same_mapped f [] (y ∷ ys) long each = absurd (omega arith)
same_mapped f (x ∷ xs) [] long each = absurd (omega arith)
same_mapped f (x ∷ xs) (y ∷ ys) long each =
    let first : f x ≡ f y = each 0 x y refl refl in
    let rest = same_mapped f xs ys (omega arith) (λ i a b at there. each (suc i) a b at there) in
    (λ j. first j ∷ rest j)

module _ (t n : Table) (guard : TermId) (truth : IsTerm t 1 guard) (k l merged : KeptTerms)
    (count : length k.values ≡ length l.values)
    (values : MergesValues t n guard k.values l.values (length k.values) merged.values)
    (steps : MergesSteps guard k.step l.step merged.step) where
  merged_is : (x : CellTables) → IsMemory x t k → IsMemory x t l → IsMemory x n merged
  merged_is x first second = record {
    count = values.long ∙ first.count;
    slots = steps.terms.slots x first.slots second.slots;
    kept = record {
      values = λ i id v is var.
          let below : i < length k.values = omega (arith, slice_get_within merged.values i id is, values.long) in
          let a = at-there k.values i below in
          let b = at-there l.values i (omega (arith, below, count)) in
          let bits = type_bits (spec_tree x.spec) v.ty in
          chosen_width n guard a.0 b.0 id bits (values.each i a.0 b.0 id a.1 b.1 is)
          (term_along t n bits a.0 values.grown (first.kept.values i a.0 v a.1 var));
      step = steps.terms.kept x n (term_along t n 1 guard values.grown truth)
          (kept_along x t n k values.grown first.kept).step (kept_along x t n l values.grown second.kept).step;
    };
  }

  merged_keeps : (x : CellTables) (u : Table) (v : List ℕ) (m : Memory) → Extends n u → AreInputs u v →
      Keeps x u v (if value_of u v guard == 0 then l else k) m → Keeps x u v merged m
  merged_keeps x u v m more are keeps = by (value_of u v guard == 0) refl keeps
    where
      one_value : (z : Bool) → (value_of u v guard == 0) ≡ z → (i : ℕ) (y id : TermId) →
          slice_get (cond z l k).values i ≡ Some y → slice_get merged.values i ≡ Some id →
          value_of u v y ≡ value_of u v id
      one_value true e i y id at is =
          let below : i < length k.values = omega (arith, slice_get_within l.values i y at, count) in
          let a = at-there k.values i below in
          sym ((values.each i a.0 y id a.1 at is).value u more v are
          ∙ choice_is (value_of u v guard) (value_of u v a.0) (value_of u v y) true e)
      one_value false e i y id at is =
          let below : i < length l.values = omega (arith, slice_get_within k.values i y at, count) in
          let b = at-there l.values i below in
          sym ((values.each i y b.0 id at b.1 is).value u more v are
          ∙ choice_is (value_of u v guard) (value_of u v y) (value_of u v b.0) false e)

      long : (z : Bool) → length (cond z l k).values ≡ length merged.values
      long true = sym (values.long ∙ count)
      long false = sym values.long

      one_step : (z : Bool) → (value_of u v guard == 0) ≡ z → (cell : StepCell) →
          step_value u v (cond z l k).step cell ≡ step_value u v merged.step cell
      one_step true e cell =
          sym (steps.value u v cell
          ∙ choice_is (value_of u v guard) (step_value u v k.step cell) (step_value u v l.step cell) true e)
      one_step false e cell =
          sym (steps.value u v cell
          ∙ choice_is (value_of u v guard) (step_value u v k.step cell) (step_value u v l.step cell) false e)

      by : (z : Bool) → (value_of u v guard == 0) ≡ z → Keeps x u v (cond z l k) m → Keeps x u v merged m
      by z e of = record {
        values = of.values ∙ same_mapped (value_of u v) (cond z l k).values merged.values (long z) (one_value z e);
        step = λ cell c is. of.step cell c is ∙ one_step z e cell;
      }

  merged_same : (i : ℕ) (id : TermId) → slice_get k.values i ≡ Some id → slice_get l.values i ≡ Some id →
      slice_get merged.values i ≡ Some id
  merged_same i id at there =
      let x = at-there merged.values i (omega (arith, slice_get_within k.values i id at, values.long)) in
      x.1 ∙ ap (λ y. Some y) ((values.each i id id x.0 at there x.1).same refl)

  pub memories_merged : Merges t n guard k l merged
  memories_merged = record {
    grown = values.grown;
    sound = values.sound;
    memory = merged_is;
    keeps = merged_keeps;
    same = merged_same;
  }

-- memories over the same tables have terms of one width of each state variable
pub memories_alike : (x : CellTables) (t : Table) (k l : KeptTerms) → IsMemory x t k → IsMemory x t l → AreAlike t k l
memories_alike x t k l first second = record {
  count = first.count ∙ sym second.count;
  values = λ i a b at there.
      let v = at-there x.vars i (omega (arith, slice_get_within k.values i a at, first.count)) in
      record {
        width = type_bits (spec_tree x.spec) v.0.ty;
        first = first.kept.values i a v.0 at v.1;
        second = second.kept.values i b v.0 there v.1;
      };
}

-- so are memories that are seen as these lists
pub merged_of : (t n : Table) (guard : TermId) (k l merged : KeptTerms) (xs ys : List TermId) (es fs : List Version) →
    IsTerm t 1 guard → xs ≡ k.values → ys ≡ l.values → es ≡ k.step → fs ≡ l.step →
    length k.values ≡ length l.values → MergesValues t n guard xs ys (length xs) merged.values →
    MergesSteps guard es fs merged.step → Merges t n guard k l merged
merged_of t n guard k l merged xs ys es fs truth xs_is ys_is es_is fs_is count values steps =
    memories_merged t n guard truth k l merged count
    (subst (λ zs. MergesValues t n guard k.values zs (length k.values) merged.values) ys_is
    (subst (λ zs. MergesValues t n guard zs ys (length zs) merged.values) xs_is values))
    (subst (λ zs. MergesSteps guard k.step zs merged.step) fs_is
    (subst (λ zs. MergesSteps guard zs fs merged.step) es_is steps))
