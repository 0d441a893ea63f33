-- Designs of one text with the same instances and variables: what fits into a room in one fits in the other.
use Rattle.std.proofs.Common.{◌≡◌, ℕ, zero, suc, ◌+◌, ◌≤◌, ◌^◌, Option, None, Some, List, [], ◌∷◌, refl, sym, ap, ◌∙◌, subst}
use Rattle.std.specs.Prelude.{MatchOption, unwrap_or}
use Rattle.std.specs.Option.{option_and_then}
use Rattle.tm_syntax.specs.declared.design.Ty.TheVariants as types
use Rattle.tm_syntax.specs.declared.tree.Ident.{Ident}
use Rattle.tm_syntax.specs.Tree.{path, ValueTree, star, result, plain, StmtTree, assign, invoke, branch, repeat, forever, choose, assert, assume, pause, wait, magic, StmtRow, nothing, then, row_of, BlockRow, nowhere, or_else}
use Rattle.tm_syntax.specs.Scopes.Context.{Context}
use Rattle.tm_syntax.specs.Scopes.Parts.{body_stmts}
use Rattle.tm_syntax.specs.Scopes.Pauses.{call_depth}
use Rattle.tm_syntax.specs.Scopes.Types.{own_type}
use Rattle.tm_syntax.specs.Design.{DesignTree}
use Rattle.tm_syntax.specs.Design.Cells.{Called, Cell, called, cell}
use Rattle.tm_syntax.specs.Design.Scope.{Scope}
use Rattle.tm_syntax.specs.Design.Sizes.{type_bits, type_size}
use Rattle.tm_syntax.specs.Design.Work.{WorkItem, perform, deliver}
use Rattle.tm_sem.specs.Run.{asked_by}
use Rattle.tm_flat.specs.Fitting.{BlocksFit, BodyFits, CallFits, ItemFits, ItemsFit, RowFits, StmtFits, TargetFits, ValueFits}
use Rattle.tm_flat.specs.Positions.{blocks_after, body_after, call_after, choice_bits, item_after, later, row_after, stmt_after, target_bits, value_after}
use Rattle.tm_flat_design.proofs.Alike.{called_alike, cell_alike, context_alike, type_alike}

module _ (d e : DesignTree) (text : d.spec ≡ e.spec) (instances : d.instances ≡ e.instances) (vars : d.vars ≡ e.vars)
  where
    bits_alike : (scope : Scope) (names : List Ident) → target_bits d scope names ≡ target_bits e scope names
    bits_alike scope names i =
        type_bits (text i) (unwrap_or (option_and_then (λ (c : Context). own_type c (path names))
        (context_alike d e text instances vars scope i)) types.Bool)

    asked_alike : (scope : Scope) (names : List Ident) (index : Option ℕ) →
        type_size d.spec (asked_by d (cell d scope names index))
        ≡ type_size e.spec (asked_by e (cell e scope names index))
    asked_alike scope names index i =
        type_size (text i) (unwrap_or (option_and_then (λ (c : Cell). type_alike d e text instances vars c i)
        (cell_alike d e text instances vars scope names index i)) types.Bool)

    target_alike : (scope : Scope) (names : List Ident) → TargetFits d scope names → TargetFits e scope names
    target_alike scope names fit index =
        subst (λ bits. type_size e.spec (asked_by e (cell e scope names index)) ≤ 2 ^ bits) (bits_alike scope names)
        (subst (λ size. size ≤ 2 ^ target_bits d scope names) (asked_alike scope names index) (fit index))

    -- what holds where an option has something holds of what it has elsewhere
    match_alike : {P Q : ℕ → Type 0} → ((k : ℕ) → P k → Q k) → (o p : Option ℕ) → o ≡ p →
        MatchOption o (Unit {0}) P → MatchOption p (Unit {0}) Q
    match_alike {P} {Q} each o p same fit = by p (subst (λ (o : Option ℕ). MatchOption o (Unit {0}) P) same fit)
      where
        by : (o : Option ℕ) → MatchOption o (Unit {0}) P → MatchOption o (Unit {0}) Q
        by None fit = tt
        by (Some k) fit = each k fit

    module _ (scope : Scope) (here there : Called → ℕ → Option ℕ) (same : (c : Called) (k : ℕ) → here c k ≡ there c k)
      where
        call_after_alike : (names : List Ident) (k : ℕ) →
            call_after here d scope names k ≡ call_after there e scope names k
        call_after_alike names k i =
            option_and_then (λ (c : Called). same c k i) (called_alike d e text instances vars scope names i)

        value_after_alike : (target : List Ident) (v : ValueTree) (k : ℕ) →
            value_after here d scope target v k ≡ value_after there e scope target v k
        value_after_alike target (star _) k = ap (λ n. Some (k + n)) (bits_alike scope target)
        value_after_alike target (result names _) k = call_after_alike names k
        value_after_alike target (plain _) k = refl

        row_behind : (o p : Option ℕ) (f g : ℕ → Option ℕ) → o ≡ p → ((k : ℕ) → f k ≡ g k) →
            option_and_then f o ≡ option_and_then g p
        row_behind o p f g same each i = option_and_then (λ k. each k i) (same i)

        mutual
          stmt_after_alike : (s : StmtTree) (k : ℕ) → stmt_after here d scope s k ≡ stmt_after there e scope s k
          stmt_after_alike (assign target _ v) k = value_after_alike target v k
          stmt_after_alike (invoke names _) k = call_after_alike names k
          stmt_after_alike (branch _ a b) k =
              (λ i. later (row_after_alike a k i) (row_after_alike b k i))
          stmt_after_alike (repeat _ _ _) k = refl
          stmt_after_alike (forever _ _) k = refl
          stmt_after_alike (choose _ blocks) k = blocks_after_alike blocks (k + choice_bits blocks)
          stmt_after_alike (assert _ _) k = refl
          stmt_after_alike (assume _ _) k = refl
          stmt_after_alike (pause _) k = refl
          stmt_after_alike (wait _ _) k = refl
          stmt_after_alike (magic _) k = refl

          row_after_alike : (row : StmtRow) (k : ℕ) → row_after here d scope row k ≡ row_after there e scope row k
          row_after_alike nothing k = refl
          row_after_alike (then first others) k =
              row_behind (stmt_after here d scope first k) (stmt_after there e scope first k)
              (λ j. row_after here d scope others j) (λ j. row_after there e scope others j) (stmt_after_alike first k)
              (λ j. row_after_alike others j)

          blocks_after_alike : (blocks : BlockRow) (k : ℕ) →
              blocks_after here d scope blocks k ≡ blocks_after there e scope blocks k
          blocks_after_alike nowhere k = refl
          blocks_after_alike (or_else first others) k =
              (λ i. later (row_after_alike first k i) (blocks_after_alike others k i))

    -- the position behind a body, and behind a work item
    body_after_alike : (n : ℕ) (c : Called) (k : ℕ) → body_after n d c k ≡ body_after n e c k
    body_after_alike zero c k = refl
    body_after_alike (suc n) c k =
        row_after_alike c.scope (body_after n d) (body_after n e) (body_after_alike n) (row_of (body_stmts c.body)) k

    -- as deep as calls nest
    deepest_alike : (c : Called) (k : ℕ) →
        body_after (call_depth d.spec) d c k ≡ body_after (call_depth e.spec) e c k
    deepest_alike c k =
        body_after_alike (call_depth d.spec) c k ∙ ap (λ n. body_after n e c k) (ap call_depth text)

    module _ (room : ℕ) where
      module _ (scope : Scope) (here there : Called → ℕ → Option ℕ)
          (same : (c : Called) (k : ℕ) → here c k ≡ there c k) (Here There : Called → ℕ → Type 0)
          (each : (c : Called) (k : ℕ) → Here c k → There c k) where
        call_alike : (names : List Ident) (k : ℕ) → CallFits Here d scope names k → CallFits There e scope names k
        call_alike names k fit =
            by (called e scope names)
            (subst (λ (o : Option Called). MatchOption o (Unit {0}) (λ c. Here c k))
            (called_alike d e text instances vars scope names) fit)
          where
            by : (o : Option Called) → MatchOption o (Unit {0}) (λ c. Here c k) →
                MatchOption o (Unit {0}) (λ c. There c k)
            by None fit = tt
            by (Some c) fit = each c k fit

        value_alike : (target : List Ident) (v : ValueTree) (k : ℕ) → ValueFits Here d scope target v k →
            ValueFits There e scope target v k
        value_alike target (star _) k fit = target_alike scope target fit
        value_alike target (result names _) k fit = call_alike names k fit
        value_alike target (plain _) k fit = tt

        never_alike : (row : StmtRow) (k : ℕ) → row_after here d scope row k ≡ None →
            row_after there e scope row k ≡ None
        never_alike row k none = sym (row_after_alike scope here there same row k) ∙ none

        mutual
          stmt_alike : (s : StmtTree) (k : ℕ) → StmtFits room here Here d scope s k →
              StmtFits room there There e scope s k
          stmt_alike (assign target _ v) k fit = value_alike target v k fit
          stmt_alike (invoke names _) k fit = call_alike names k fit
          stmt_alike (branch _ a b) k fit = (row_alike a k fit.0, row_alike b k fit.1)
          stmt_alike (repeat _ _ body) k fit = (never_alike body k fit.0, row_alike body k fit.1)
          stmt_alike (forever _ body) k fit = (never_alike body k fit.0, row_alike body k fit.1)
          stmt_alike (choose _ blocks) k fit = (fit.0, fit.1, blocks_alike blocks (k + choice_bits blocks) fit.2)
          stmt_alike (assert _ _) k fit = tt
          stmt_alike (assume _ _) k fit = tt
          stmt_alike (pause _) k fit = tt
          stmt_alike (wait _ _) k fit = tt
          stmt_alike (magic _) k fit = tt

          row_alike : (row : StmtRow) (k : ℕ) → RowFits room here Here d scope row k →
              RowFits room there There e scope row k
          row_alike nothing k fit = fit
          row_alike (then first others) k fit = (
            fit.0,
            stmt_alike first k fit.1,
            match_alike (λ j rest. row_alike others j rest) (stmt_after here d scope first k)
                (stmt_after there e scope first k) (stmt_after_alike scope here there same first k) fit.2,
          )

          blocks_alike : (blocks : BlockRow) (k : ℕ) → BlocksFit room here Here d scope blocks k →
              BlocksFit room there There e scope blocks k
          blocks_alike nowhere k fit = tt
          blocks_alike (or_else first others) k fit = (row_alike first k fit.0, blocks_alike others k fit.1)

      body_alike : (n : ℕ) (c : Called) (k : ℕ) → BodyFits room n d c k → BodyFits room n e c k
      body_alike zero c k fit = absurd fit
      body_alike (suc n) c k fit =
          row_alike c.scope (body_after n d) (body_after n e) (body_after_alike n) (BodyFits room n d)
          (BodyFits room n e) (body_alike n) (row_of (body_stmts c.body)) k fit

      deep_alike : (c : Called) (k : ℕ) → BodyFits room (call_depth d.spec) d c k →
          BodyFits room (call_depth e.spec) e c k
      deep_alike c k fit =
          subst (λ n. BodyFits room n e c k) (ap call_depth text) (body_alike (call_depth d.spec) c k fit)

      item_alike : (item : WorkItem) (k : ℕ) → ItemFits room d item k → ItemFits room e item k
      item_alike (perform scope _ s) k fit =
          stmt_alike scope (body_after (call_depth d.spec) d) (body_after (call_depth e.spec) e) deepest_alike
          (BodyFits room (call_depth d.spec) d) (BodyFits room (call_depth e.spec) e) deep_alike s k fit
      item_alike (deliver _ _ _) k fit = tt

      behind_alike : (item : WorkItem) (k : ℕ) → item_after d item k ≡ item_after e item k
      behind_alike (perform scope _ s) k =
          stmt_after_alike scope (body_after (call_depth d.spec) d) (body_after (call_depth e.spec) e) deepest_alike s k
      behind_alike (deliver _ _ _) k = refl

      -- work items that fit from a position on in one design do so in the other
      pub items_alike : (items : List WorkItem) (k : ℕ) → ItemsFit room d items k → ItemsFit room e items k
      items_alike [] k fit = fit
      items_alike (first ∷ others) k fit = (
        fit.0,
        item_alike first k fit.1,
        match_alike (λ j rest. items_alike others j rest) (item_after d first k) (item_after e first k)
            (behind_alike first k) fit.2,
      )
