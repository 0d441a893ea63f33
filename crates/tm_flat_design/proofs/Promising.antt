-- What a checked text promises of the statements of its bodies, with what their targets are.
use Rattle.std.proofs.Common.{◌≡◌, List, [], ◌∷◌, ◌++◌}
use Rattle.std.specs.List.{AllByRecursion, flat_map}
use Rattle.tm_syntax.specs.Tree.{SpecTree, StmtTree, row_of}
use Rattle.tm_syntax.specs.Scopes.Context.{Context}
use Rattle.tm_syntax.specs.Scopes.Parts.{BodyAt, all_stmts, bodies, exprs, inner_stmts, row_stmts, stmts_in}
use Rattle.tm_syntax.specs.Faults.{IsTyped}
use Rattle.tm_syntax.specs.Faults.Mismatches.{asked_faults, body_faults, stmt_call_faults, target_faults, template_faults}
use Rattle.tm_typing.proofs.Fitting.{all_of_both, both_empty}
use Rattle.tm_typing.proofs.Listed.{In, all_hold, all_join, holds_in, none_of}
use Rattle.tm_states.specs.Promised.{IsPromised}
use Rattle.tm_states.proofs.Promised.{body_promised}

-- a statement is promised, and its target is one
pub record IsAsked (c : Context) (s : StmtTree) : Type 0 where
  pub promised : IsPromised c s
  pub targets : target_faults c s ≡ []

pub body_asked : (spec : SpecTree) → IsTyped spec → (b : BodyAt) → In b (bodies spec) →
    AllByRecursion (IsAsked b.context) (stmts_in b.body)
body_asked spec checked b i = all_hold (IsAsked b.context) (stmts_in b.body) (λ s j. record {
  promised = holds_in (IsPromised b.context) {x = s} (stmts_in b.body) (body_promised spec checked b i) j;
  targets = (both_empty (target_faults b.context s) (stmt_call_faults b.context s)
      (none_of (λ s. target_faults b.context s ++ stmt_call_faults b.context s) (stmts_in b.body)
      (none_of body_faults (bodies spec) bodies_match i) j)).0;
})
  where
    bodies_match : flat_map body_faults (bodies spec) ≡ []
    bodies_match =
        let front = both_empty
        (flat_map (template_faults spec) spec.templates ++ flat_map body_faults (bodies spec))
        (flat_map asked_faults (exprs spec)) checked.matching in
        (both_empty (flat_map (template_faults spec) spec.templates) (flat_map body_faults (bodies spec)) front.0).1

-- of a row, as of its statements
pub row_asked : (c : Context) (ss : List StmtTree) → AllByRecursion (IsAsked c) (all_stmts ss) →
    AllByRecursion (IsAsked c) (row_stmts (row_of ss))
row_asked c [] asked = tt
row_asked c (s ∷ ss) asked =
    let parts = all_of_both (IsAsked c) (s ∷ inner_stmts s) (all_stmts ss) asked in
    all_join (IsAsked c) (s ∷ inner_stmts s) (row_stmts (row_of ss)) parts.0 (row_asked c ss parts.1)
