-- Where runs begin.
use Rattle.std.proofs.Common.{◌≡◌, ℕ, ◌+◌, ◌<◌, ◌≤◌, Some, List, length, map, take, slice_get, slice_index, refl, sym, ap, ◌∙◌, subst, arith, length-take}
use Rattle.std.proofs.lemmas.List.{get_or-take}
use Rattle.tm_syntax.specs.declared.design.Design.{Design}
use Rattle.tm_syntax.specs.declared.design.Var.{Var}
use Rattle.tm_syntax.specs.Tree.View.{spec_tree}
use Rattle.tm_syntax.specs.Design.{DesignTree}
use Rattle.tm_syntax.specs.Design.Sizes.{type_bits}
use Rattle.tm_syntax.specs.Design.View.{design_tree}
use Rattle.tm_scope.specs.Cells.{CellTables}
use Rattle.tm_term.specs.declared.term.TermId.{TermId}
use Rattle.tm_term.specs.Table.{Table, IsSound}
use Rattle.tm_term.specs.Value.{AreInputs, value_of, Extends}
use Rattle.tm_sem.specs.Value.{plain_memory}
use Rattle.tm_flat.specs.Inputs.{input_widths}
use Rattle.tm_flat.specs.Steps.{IsInput, IsTerm}
use Rattle.tm_flat_exprs.specs.Kept.{KeptTerms, Keeps}
use Rattle.tm_flat_exprs.specs.Merged.{IsMemory}
use Rattle.tm_flat_exprs.proofs.Later.{term_along}
use Rattle.tm_flat_stmts.specs.Flows.{FlowTerms}
use Rattle.tm_flat_moves.specs.Begun.{AreInputTerms, Begins}
use Rattle.tm_flat_exprs.specs.Tables.{cells_of}
use Rattle.tm_flat_moves.proofs.InputTerms.{input_value}
use Rattle.tm_flat_moves.proofs.InputWidths.{input_of, inputs_many, var_width}
use Rattle.tm_flat_moves.proofs.Lists.{get_within, index_map, map_long, same_lists}

module _ (t n : Table) (first count : ℕ) (ids : List TermId) (are : AreInputTerms t n first count ids) (u : Table)
    (more : Extends n u) (v : List ℕ) where
  -- the values of inputs are those that they are given
  pub input_at : (k : ℕ) → k < count → slice_index (map (value_of u v) ids) k ≡ slice_index v (first + k)
  input_at k below =
      let here = get_within ids k (let long = are.as_many in omega (arith, long)) in
      index_map (value_of u v) ids k here.0 here.1
      ∙ input_value n u (first + k) here.0 are.sound (are.each k here.0 here.1) more v

pub first_inputs : (t n : Table) (count : ℕ) (ids : List TermId) → AreInputTerms t n 0 count ids → (u : Table) →
    Extends n u → (v : List ℕ) → count ≤ length v → map (value_of u v) ids ≡ take count v
first_inputs t n count ids are u more v many =
    let long : length (map (value_of u v) ids) ≡ count = map_long (value_of u v) ids ∙ are.as_many in
    same_lists (map (value_of u v) ids) (take count v) (long ∙ sym (omega (arith, length-take count v)))
    (λ k below.
    let at : 0 + k ≡ k = omega arith in
    let inside : k < count = omega (arith, long) in
    input_at t n 0 count ids are u more v k inside
    ∙ ap (slice_index v) at
    ∙ sym (get_or-take count v k 0 inside))

module _ (d : Design) (t n : Table) (guard : TermId) (ids : List TermId) (k : KeptTerms)
    (inputs : t.inputs ≡ input_widths (design_tree d)) (term : IsTerm t 1 guard)
    (are : AreInputTerms t n 0 (length d.vars.items) ids) (values : k.values ≡ ids)
    (keeps : (x : CellTables) (u : Table) (v : List ℕ) → Keeps x u v k (plain_memory (map (value_of u v) ids)))
    (memory : (x : CellTables) (t : Table) → length ids ≡ length x.vars →
    ((i : ℕ) (id : TermId) (var : Var) → slice_get ids i ≡ Some id → slice_get x.vars i ≡ Some var →
    IsTerm t (type_bits (spec_tree x.spec) var.ty) id) → IsMemory x t k) where
  abbrev tree : DesignTree
  tree = design_tree d

  later : n.inputs ≡ input_widths tree
  later = are.grown.inputs ∙ inputs

  many : (u : Table) → Extends n u → (v : List ℕ) → AreInputs u v → length d.vars.items ≤ length v
  many u more v is =
      let all : length v ≡ length (input_widths tree) = is.count ∙ ap length (more.inputs ∙ later) in
      omega (arith, all, inputs_many tree)

  abbrev flow : FlowTerms
  flow = record { guard = guard; memory = k; position = 0 }

  pub begins : (f : FlowTerms) → f ≡ flow → Begins (cells_of d) t n guard f
  begins f is = subst (Begins (cells_of d) t n guard) (sym is) (record {
    grown = are.grown;
    sound = are.sound;
    flow = record {
      guard = term_along t n 1 guard are.grown term;
      memory = memory (cells_of d) n are.as_many (λ i id var here there.
          input_of tree n i (type_bits (spec_tree d.spec) var.ty) id later are.sound
          (let at : 0 + i ≡ i = omega arith in subst (λ j. IsInput n j id) at (are.each i id here))
          (var_width tree i var there));
    };
    stands = refl;
    position = refl;
    inputs = λ i id has.
        let at : 0 + i ≡ i = omega arith in
        subst (λ j. IsInput n j id) at (are.each i id (ap (λ (l : List TermId). slice_get l i) (sym values) ∙ has));
    keeps = λ u more v inputs.
        subst (λ vs. Keeps (cells_of d) u v k (plain_memory vs))
        (first_inputs t n (length d.vars.items) ids are u more v (many u more v inputs)) (keeps (cells_of d) u v);
  })
