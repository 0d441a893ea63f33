use Rattle.std.proofs.Common.{ℕ, ◌^◌, sym, ap, ◌∙◌, subst, arith}
use Rattle.std.specs.Prelude.{min}
use Rattle.tm_syntax.specs.declared.tree.Expr.{Expr}
use Rattle.tm_syntax.specs.Tree.View.{expr_tree}
use Rattle.tm_scope.specs.Cells.{scope_of}
use Rattle.tm_scope.specs.Types.{ty_of}
use Rattle.tm_design.proofs.Contexts.{index_told, length_by_tables}
use Rattle.tm_design.proofs.OperandParts.{index_part}
use Rattle.tm_flat_exprs.specs.Kept.{AreKept, KeptTerms}
use Rattle.tm_flat_exprs.specs.Valued.{Finds}
use Rattle.tm_flat_exprs.proofs.Reading.{length_told}
use Rattle.tm_flat_stmts.specs.declared.places.TargetPlace.TheVariants.{Number, Found}
use Rattle.tm_flat_stmts.specs.Places.{FindsPlace}
use Rattle.tm_flat_stmts.proofs.IntoElements.{elements_place, number_place}
use Rattle.tm_flat_stmts.proofs.Written.{written_by}
use Rattle.tm_flat_stmts.proofs.places.element_place.Goals as goal

pub returns-in-Number : goal.returns-in-Number
returns-in-Number c =
    subst (λ (e : Expr). FindsPlace c.args.reader.now c.args.flow.now.memory c.args.path.now (expr_tree e)
    c.args.terms.now c.args.terms.now (Number c.unwrap_or.result)) (sym c.in-Number.is)
    (number_place c.args.reader.now c.args.path.now _ c.unwrap_or.result c.args.flow.now.memory c.args.terms.now
    c.unwrap_or.ensures c.requires.sound)

pub value-requires-clause-typed : goal.value-requires-clause-typed
value-requires-clause-typed c =
    index_part c.args.reader.now c.requires.typed.0 c.args.path.now (expr_tree c.args.index.now) c.requires.typed.1
    c.unwrap_or-length.result
    (λ k stands.
    c.unwrap_or-length.ensures
    ∙ length_by_tables c.scope.result.now c.args.reader.now c.scope.ensures c.array_length.result c.args.path.now
    c.array_length.ensures k stands)
    (ty_of c.index_type-asked.result)
    (index_told c.scope-2.result.now c.args.reader.now c.scope-2.ensures (expr_tree c.args.index.now)
    (ty_of c.index_type-asked.result) c.index_type-asked.ensures) (omega (arith, c.unwrap_or-length.type_inv))

pub value-requires-clause-ready : goal.value-requires-clause-ready
value-requires-clause-ready c = record {
  settled = c.requires.settled;
  sound = c.requires.sound;
  kept = subst (λ (k : KeptTerms). AreKept c.args.reader.now.tables c.args.terms.now k) (sym c.memory.ensures)
      c.requires.flow.memory.kept;
}

pub width-requires : goal.width-requires
width-requires c = c.in_ok-number.ensures.value.0

pub returns : goal.returns
returns c =
    subst (λ (n : ℕ). FindsPlace c.args.reader.now c.args.flow.now.memory c.args.path.now (expr_tree c.args.index.now)
    c.args.terms.now c.value.new.terms (Found c.in_ok-number.number.value n))
    (sym (c.reached-count.ensures ∙ ap (λ w. min c.unwrap_or-length.result (2 ^ w)) c.width.ensures.width))
    (elements_place c.args.reader.now c.args.path.now (expr_tree c.args.index.now) (ty_of c.index_type-asked.result)
    c.unwrap_or-length.result c.args.flow.now.memory c.args.terms.now c.value.new.terms c.in_ok-number.number
    (λ d has.
    sym (index_told c.scope-2.result.now c.args.reader.now c.scope-2.ensures (expr_tree c.args.index.now)
    (ty_of c.index_type-asked.result) c.index_type-asked.ensures d has))
    (length_told c.args.reader.now c.args.flow.now.memory c.requires.typed.0 c.args.path.now
    (expr_tree c.args.index.now) c.unwrap_or-length.result c.requires.typed.1
    (λ k stands.
    c.unwrap_or-length.ensures
    ∙ length_by_tables c.scope.result.now c.args.reader.now c.scope.ensures c.array_length.result c.args.path.now
    c.array_length.ensures k stands))
    (λ d has i. written_by d (scope_of c.args.reader.now.at) i c.args.path.now c.args.index.now c.in_default.not-Number)
    (subst (λ (k : KeptTerms). Finds c.args.reader.now k (ty_of c.index_type-asked.result)
    (expr_tree c.args.index.now) c.args.terms.now c.value.new.terms c.in_ok-number.number) c.memory.ensures
    c.in_ok-number.ensures))
