-- What is sure to cross a location never falls through.
use Rattle.std.proofs.Common.{◌≡◌, ℕ, zero, suc, ◌+◌, ◌++◌, ◌⊎◌, inl, inr, Bool, true, false, ◌||◌, ◌&&◌, Option, None, Some, List, [], ◌∷◌, map, refl, sym, ◌∙◌, subst}
use Rattle.std.specs.Option.{option_map_or, option_and_then}
use Rattle.std.specs.List.{list_any}
use Rattle.tm_syntax.specs.declared.tree.Ident.{Ident}
use Rattle.tm_syntax.specs.Tree.{ValueTree, star, result, plain, StmtTree, assign, invoke, branch, repeat, forever, choose, assert, assume, pause, wait, magic, StmtRow, nothing, then, row_of, BlockRow, nowhere, or_else, LocalTree, BodyTree, TaskTree, TemplateTree}
use Rattle.tm_syntax.specs.Scopes.Context.{Context, task_body}
use Rattle.tm_syntax.specs.Scopes.Pauses.{task_reached, call_depth}
use Rattle.tm_syntax.specs.Scopes.Crossing.{value_crosses, stmt_crosses, row_crosses, blocks_cross, body_crosses, call_crosses}
use Rattle.tm_syntax.specs.Design.{DesignTree, AreInstances}
use Rattle.tm_syntax.specs.Design.Scope.{Scope, context}
use Rattle.tm_syntax.specs.Design.Cells.{Called, called}
use Rattle.tm_syntax.specs.Scopes.Parts.{body_stmts}
use Rattle.tm_flat.specs.Positions.{choice_bits, later, value_after, call_after, stmt_after, row_after, blocks_after, body_after}
use Rattle.tm_flat.specs.Wiring.{AreWired}
use Rattle.tm_flat.proofs.Wiring.{Reached, call_leads}

one_of_two : (a b : Bool) → (a || b) ≡ true → (a ≡ true) ⊎ (b ≡ true)
one_of_two true b h = inl refl
one_of_two false b h = inr h

both_of_two : (a b : Bool) → (a && b) ≡ true → (a ≡ true) × (b ≡ true)
both_of_two true b h = (refl, h)
both_of_two false b h = absurd (cc)

none_later : (a b : Option ℕ) → a ≡ None → b ≡ None → later a b ≡ None
none_later a b one other = (λ i. later (one i) (other i))

-- the locals and statements of a body, as statements
any_of_body : (test : List Ident → Bool) (locals : List LocalTree) (ss : List StmtTree) →
    (list_any (λ (l : LocalTree). value_crosses test l.value) locals || list_any (stmt_crosses test) ss)
    ≡ list_any (stmt_crosses test) (map (λ (l : LocalTree). assign (l.name ∷ []) None l.value) locals ++ ss)
any_of_body test [] ss = refl
any_of_body test (l ∷ ls) ss = of (value_crosses test l.value) (any_of_body test ls ss)
  where
    of : (b : Bool) →
        (list_any (λ (k : LocalTree). value_crosses test k.value) ls || list_any (stmt_crosses test) ss)
        ≡ list_any (stmt_crosses test) (map (λ (k : LocalTree). assign (k.name ∷ []) None k.value) ls ++ ss) →
        ((b || list_any (λ (k : LocalTree). value_crosses test k.value) ls) || list_any (stmt_crosses test) ss)
        ≡ (b || list_any (stmt_crosses test) (map (λ (k : LocalTree). assign (k.name ∷ []) None k.value) ls ++ ss))
    of true rest = refl
    of false rest = rest

module _ (d : DesignTree) (scope : Scope) (after : Called → ℕ → Option ℕ) (test : List Ident → Bool)
    (calls : (path : List Ident) (k : ℕ) → test path ≡ true → call_after after d scope path k ≡ None) where
  value_stops : (target : List Ident) (v : ValueTree) (k : ℕ) → value_crosses test v ≡ true →
      value_after after d scope target v k ≡ None
  value_stops target (star _) k h = absurd (cc)
  value_stops target (result names _) k h = calls names k h
  value_stops target (plain _) k h = absurd (cc)

  -- one behind the other, of which one never falls through
  row_stops_so : (o : Option ℕ) (next : ℕ → Option ℕ) → (o ≡ None) ⊎ ((i : ℕ) → next i ≡ None) →
      option_and_then next o ≡ None
  row_stops_so None next h = refl
  row_stops_so (Some i) next (inl h) = absurd (cc)
  row_stops_so (Some i) next (inr f) = f i

  mutual
    stmt_stops : (s : StmtTree) (k : ℕ) → stmt_crosses test s ≡ true → stmt_after after d scope s k ≡ None
    stmt_stops (assign target _ v) k h = value_stops target v k h
    stmt_stops (invoke names _) k h = calls names k h
    stmt_stops (branch _ first second) k h =
        let parts : (row_crosses test first ≡ true) × (row_crosses test second ≡ true) =
        both_of_two (row_crosses test first) (row_crosses test second) h in
        none_later (row_after after d scope first k) (row_after after d scope second k) (row_stops first k parts.0)
        (row_stops second k parts.1)
    stmt_stops (repeat _ _ _) k h = absurd (cc)
    stmt_stops (forever _ _) k h = refl
    stmt_stops (choose _ blocks) k h = blocks_stop blocks (k + choice_bits blocks) h
    stmt_stops (assert _ _) k h = absurd (cc)
    stmt_stops (assume _ _) k h = absurd (cc)
    stmt_stops (pause _) k h = refl
    stmt_stops (wait _ _) k h = refl
    stmt_stops (magic _) k h = refl

    row_stops : (row : StmtRow) (k : ℕ) → row_crosses test row ≡ true → row_after after d scope row k ≡ None
    row_stops nothing k h = absurd (cc)
    row_stops (then first others) k h =
        of (one_of_two (stmt_crosses test first) (row_crosses test others) h) (λ c. stmt_stops first k c)
        (λ c i. row_stops others i c)
      where
        of : (stmt_crosses test first ≡ true) ⊎ (row_crosses test others ≡ true) →
            (stmt_crosses test first ≡ true → stmt_after after d scope first k ≡ None) →
            (row_crosses test others ≡ true → (i : ℕ) → row_after after d scope others i ≡ None) →
            option_and_then (λ i. row_after after d scope others i) (stmt_after after d scope first k) ≡ None
        of (inl c) f g =
            row_stops_so (stmt_after after d scope first k) (λ i. row_after after d scope others i) (inl (f c))
        of (inr c) f g =
            row_stops_so (stmt_after after d scope first k) (λ i. row_after after d scope others i) (inr (g c))

    blocks_stop : (blocks : BlockRow) (k : ℕ) → blocks_cross test blocks ≡ true →
        blocks_after after d scope blocks k ≡ None
    blocks_stop nowhere k h = refl
    blocks_stop (or_else last nowhere) k h =
        none_later (row_after after d scope last k) None (row_stops last k h) refl
    blocks_stop (or_else first (or_else next others)) k h =
        let parts : (row_crosses test first ≡ true) × (blocks_cross test (or_else next others) ≡ true) =
        both_of_two (row_crosses test first) (blocks_cross test (or_else next others)) h in
        none_later (row_after after d scope first k) (blocks_after after d scope (or_else next others) k)
        (row_stops first k parts.0) (blocks_stop (or_else next others) k parts.1)

  -- statements in a list
  list_stops : (ss : List StmtTree) (k : ℕ) → list_any (stmt_crosses test) ss ≡ true →
      row_after after d scope (row_of ss) k ≡ None
  list_stops [] k h = absurd (cc)
  list_stops (s ∷ ss) k h =
      of (one_of_two (stmt_crosses test s) (list_any (stmt_crosses test) ss) h) (λ c i. list_stops ss i c)
    where
      of : (stmt_crosses test s ≡ true) ⊎ (list_any (stmt_crosses test) ss ≡ true) →
          (list_any (stmt_crosses test) ss ≡ true → (i : ℕ) → row_after after d scope (row_of ss) i ≡ None) →
          option_and_then (λ i. row_after after d scope (row_of ss) i) (stmt_after after d scope s k) ≡ None
      of (inl c) g =
          row_stops_so (stmt_after after d scope s k) (λ i. row_after after d scope (row_of ss) i)
          (inl (stmt_stops s k c))
      of (inr c) g =
          row_stops_so (stmt_after after d scope s k) (λ i. row_after after d scope (row_of ss) i) (inr (g c))

module _ (d : DesignTree) (wired : AreWired d.spec) (are : AreInstances d.spec d.instances) where
  -- a call of a body that is sure to cross, however deep this is looked for
  call_stops_so : (after : Called → ℕ → Option ℕ) (depth : ℕ) (scope : Scope) (c : Context) →
      context d scope ≡ Some c →
      ((callee : Called) (e : Context) (k : ℕ) → context d callee.scope ≡ Some e →
      body_crosses depth d.spec e.template callee.body ≡ true → after callee k ≡ None) →
      (path : List Ident) (k : ℕ) →
      option_map_or (λ t. body_crosses depth d.spec t.0 t.1.body) (task_reached d.spec c.template path) false ≡ true →
      call_after after d scope path k ≡ None
  call_stops_so after depth scope c here stops path k h =
      of (called d scope path) (λ callee known. call_leads d wired are scope c path callee here known) refl
    where
      of : (o : Option Called) →
          ((callee : Called) → called d scope path ≡ Some callee → Reached d wired are c path callee) →
          called d scope path ≡ o → option_and_then (λ callee. after callee k) o ≡ None
      of None leads known = refl
      of (Some callee) leads known =
          let r : Reached d wired are c path callee = leads callee known in
          let crosses : body_crosses depth d.spec r.template r.task.body ≡ true =
          subst
          (λ (o : Option (TemplateTree × TaskTree)).
          option_map_or (λ t. body_crosses depth d.spec t.0 t.1.body) o false ≡ true)
          r.reached h in
          stops callee (record { spec = d.spec; template = r.template; body = task_body r.index }) k r.stands
          (subst (λ (b : BodyTree). body_crosses depth d.spec r.template b ≡ true) (sym r.body) crosses)

  -- a body that is sure to cross never falls through, however deep both are looked for
  body_stops : (n depth : ℕ) (callee : Called) (c : Context) (k : ℕ) → context d callee.scope ≡ Some c →
      body_crosses depth d.spec c.template callee.body ≡ true → body_after n d callee k ≡ None
  body_stops zero depth callee c k here h = refl
  body_stops (suc n) zero callee c k here h = absurd (cc)
  body_stops (suc n) (suc depth) callee c k here h =
      list_stops d callee.scope (body_after n d)
      (λ path. option_map_or (λ t. body_crosses depth d.spec t.0 t.1.body) (task_reached d.spec c.template path) false)
      (call_stops_so (body_after n d) depth callee.scope c here (λ e x i. body_stops n depth e x i))
      (body_stmts callee.body) k
      (sym (any_of_body
      (λ path. option_map_or (λ t. body_crosses depth d.spec t.0 t.1.body) (task_reached d.spec c.template path) false)
      callee.body.locals callee.body.stmts) ∙ h)

  -- a row that is sure to cross never falls through
  pub crossing_rows_stop : (n : ℕ) (scope : Scope) (c : Context) (row : StmtRow) (k : ℕ) → context d scope ≡ Some c →
      row_crosses (call_crosses d.spec c.template) row ≡ true → row_after (body_after n d) d scope row k ≡ None
  crossing_rows_stop n scope c row k here h =
      row_stops d scope (body_after n d) (call_crosses d.spec c.template)
      (call_stops_so (body_after n d) (call_depth d.spec) scope c here
      (λ e x i. body_stops n (call_depth d.spec) e x i))
      row k h
