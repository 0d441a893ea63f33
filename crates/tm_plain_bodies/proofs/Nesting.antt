-- Where calls are in order, they nest no deeper than the order is long; and the parts of what nests so deep.
use Rattle.std.proofs.Common.{◌≡◌, ℕ, zero, suc, ◌<◌, ◌≤◌, Option, None, Some, List, [], ◌∷◌, ◌++◌, length, slice_get, refl, sym, ap, ◌∙◌, subst, arith}
use Rattle.std.specs.Prelude.{Contains}
use Rattle.std.proofs.lemmas.Option.{none-some, slice_get_within}
use Rattle.std.specs.List.{AllByRecursion}
use Rattle.std.specs.Option.{option_map, option_and_then}
use Rattle.tm_syntax.specs.declared.member.Member.{Member}
use Rattle.tm_syntax.specs.declared.tree.Ident.{Ident}
use Rattle.tm_syntax.specs.Tree.{StmtRow, TaskTree, TemplateTree, alternatives_of}
use Rattle.tm_syntax.specs.Scopes.Calls.{body_calls, numbered_task, task_number}
use Rattle.tm_syntax.specs.Scopes.Pauses.{task_reached}
use Rattle.tm_syntax.specs.Design.{DesignTree}
use Rattle.tm_syntax.specs.Design.Cells.{Called, called}
use Rattle.tm_syntax.specs.Design.Scope.{Scope, Site, site}
use Rattle.tm_scope.specs.CallOrder.{CoversTasks, IsCallOrder}
use Rattle.tm_scope.specs.Inner.Calls.{block_calls, row_calls}
use Rattle.tm_scope.specs.Members.{task_at}
use Rattle.tm_scope.proofs.CallOrders.{numbered, reached}
use Rattle.tm_typing.proofs.Fitting.{all_of_both}
use Rattle.tm_locations.specs.Locations.{LeadsByText}
use Rattle.tm_locations.proofs.CalledBodies.{IsCalled, called-is, reached-by_text, site-template}
use Rattle.tm_plain_bodies.specs.Calls.{NestsWithin}

-- what holds of each item that a list contains holds of all
all_contained : {X : Type 0} (P : X → Type 0) (xs : List X) → ((x : X) → Contains xs x → P x) → AllByRecursion P xs
all_contained P [] each = tt
all_contained P (x ∷ xs) each =
    let first : 0 < length (x ∷ xs) = omega arith in (
      each x (0, first, refl),
      all_contained P xs (λ y among.
          let later : suc among.0 < length (x ∷ xs) = omega (arith, among.1) in
          each y (suc among.0, later, among.2)),
    )

-- what holds of all items holds of each
all_of : {X : Type 0} (P : X → Type 0) (xs : List X) → ((x : X) → P x) → AllByRecursion P xs
all_of P [] each = tt
all_of P (x ∷ xs) each = (each x, all_of P xs each)

-- a member that an option leads to
leads_some : {X Y : Type 0} (f : X → Option Y) (y : Y) (o : Option X) → option_and_then f o ≡ Some y →
    (x : X) × (o ≡ Some x) × (f x ≡ Some y)
leads_some f y None e = absurd (none-some y e)
leads_some f y (Some x) e = (x, refl, e)

-- what is not there
not_there : {X : Type 0} (o : Option X) → ((x : X) → o ≡ Some x → ⊥) → o ≡ None
not_there None never = refl
not_there (Some x) never = absurd (never x refl)

-- parts of what nests so deep
pub nests_both : (n : ℕ) (d : DesignTree) (scope : Scope) (xs ys : List (List Ident)) →
    NestsWithin n d scope (xs ++ ys) →
    NestsWithin n d scope xs × NestsWithin n d scope ys
nests_both zero d scope xs ys h = all_of_both (λ (names : List Ident). called d scope names ≡ None) xs ys h
nests_both (suc n) d scope xs ys h =
    all_of_both (λ (names : List Ident). (c : Called) → called d scope names ≡ Some c →
    NestsWithin n d c.scope (body_calls c.body)) xs ys h

pub nests_block : (n : ℕ) (d : DesignTree) (scope : Scope) (bs : List StmtRow) (k : ℕ) (block : StmtRow) →
    slice_get bs k ≡ Some block → NestsWithin n d scope (block_calls (alternatives_of bs)) →
    NestsWithin n d scope (row_calls block)
nests_block n d scope [] k block is h = absurd (cc)
nests_block n d scope (b ∷ bs) zero block is h =
    let same : b ≡ block = cc in
    subst (λ r. NestsWithin n d scope (row_calls r)) same
    (nests_both n d scope (row_calls b) (block_calls (alternatives_of bs)) h).0
nests_block n d scope (b ∷ bs) (suc k) block is h =
    nests_block n d scope bs k block is (nests_both n d scope (row_calls b) (block_calls (alternatives_of bs)) h).1

-- what is called nests less deep
pub nests_call : (n : ℕ) (d : DesignTree) (scope : Scope) (names : List Ident) (c : Called) →
    NestsWithin n d scope (names ∷ []) → called d scope names ≡ Some c →
    (m : ℕ) × (n ≡ suc m) × NestsWithin m d c.scope (body_calls c.body)
nests_call zero d scope names c h is = absurd (none-some c (sym h.0 ∙ is))
nests_call (suc m) d scope names c h is = (m, refl, h.0 c is)

module _ (d : DesignTree) (order : List Member) (by_text : LeadsByText d) (ordered : IsCallOrder d.spec order) where
  -- what a task of the order calls stands before it
  stands_before : (k : ℕ) (a : Member) (t : TemplateTree × TaskTree) → slice_get order k ≡ Some a →
      task_at d.spec a ≡ Some t → (n : ℕ) (s : Site) → site d n ≡ Some s → s.template ≡ t.0 → (path : List Ident) →
      Contains (body_calls t.1.body) path → (c : Called) (is : IsCalled d s path c) →
      (j : ℕ) × (b : Member) × (j < k) × (slice_get order j ≡ Some b)
      × (task_at d.spec b ≡ Some (is.at.template, is.task))
  stands_before k a t at task n s there same path among c is =
      let reaches : option_and_then (task_at d.spec) (task_number d.spec a.template path)
      ≡ Some (is.at.template, is.task) =
      sym (reached d.spec a t path task) ∙ ap (λ u. task_reached d.spec u path) (sym same)
      ∙ reached-by_text d by_text n s there path c is in
      let to = leads_some (task_at d.spec) (is.at.template, is.task) (task_number d.spec a.template path) reaches in
      let before = ordered.behind k a to.0 at
      (record { task = t.1; path = path; is = numbered d.spec a t task; calls = among; leads = to.1 }) in
      (before.0, to.0, before.1, before.2, to.2)

  -- what is called by a task before this position nests so deep
  nests_before : (n k : ℕ) → k ≤ n → (a : Member) (t : TemplateTree × TaskTree) → slice_get order k ≡ Some a →
      task_at d.spec a ≡ Some t → (scope : Scope) (s : Site) → site d scope.instance ≡ Some s → s.template ≡ t.0 →
      NestsWithin n d scope (body_calls t.1.body)
  nests_before zero k low a t at task scope s there same =
      all_contained (λ (names : List Ident). called d scope names ≡ None) (body_calls t.1.body)
      (λ names among. not_there (called d scope names) (λ c is.
      let before = stands_before k a t at task scope.instance s there same names among c
      (called-is d scope s there names c is) in
      absurd (omega (arith, before.2, low))))
  nests_before (suc n) k low a t at task scope s there same =
      all_contained (λ (names : List Ident). (c : Called) → called d scope names ≡ Some c →
      NestsWithin n d c.scope (body_calls c.body)) (body_calls t.1.body)
      (λ names among c is.
      let one : IsCalled d s names c = called-is d scope s there names c is in
      let before = stands_before k a t at task scope.instance s there same names among c one in
      subst (λ body. NestsWithin n d c.scope (body_calls body)) (sym one.body)
      (nests_before n before.0 (omega (arith, before.2, low)) before.1 (one.at.template, one.task) before.3 before.4
      c.scope one.at (ap (site d) one.instance ∙ one.there) refl))

  module _ (covers : CoversTasks d.spec order) where
    -- what a path calls stands in the order
    pub stands_somewhere : (s : Site) (path : List Ident) (c : Called) (is : IsCalled d s path c) →
        (j : ℕ) × (b : Member) × (j < length order) × (slice_get order j ≡ Some b)
        × (task_at d.spec b ≡ Some (is.at.template, is.task))
    stands_somewhere s path c is =
        let b : Member = record { template = is.at.node.template; index = is.number } in
        let here = site-template d is.at.number is.at is.there in
        let task : numbered_task d.spec b ≡ Some is.task =
        ap (option_and_then (λ (t : TemplateTree). slice_get t.tasks is.number)) here ∙ is.is in
        let place = covers b is.task task in (
          place.0,
          b,
          slice_get_within order place.0 b place.1,
          place.1,
          ap (option_and_then (λ (t : TemplateTree). option_map (λ k. (t, k)) (slice_get t.tasks is.number))) here
              ∙ ap (option_map (λ k. (is.at.template, k))) is.is,
        )

    -- whatever is called nests no deeper than the order is long
    nests_so : (n : ℕ) → length order ≤ n → (scope : Scope) (s : Site) → site d scope.instance ≡ Some s →
        (calls : List (List Ident)) → NestsWithin n d scope calls
    nests_so zero long scope s there calls =
        all_of (λ (names : List Ident). called d scope names ≡ None) calls
        (λ names. not_there (called d scope names) (λ c is.
        let place = stands_somewhere s names c (called-is d scope s there names c is) in
        absurd (omega (arith, place.2, long))))
    nests_so (suc n) long scope s there calls =
        all_of (λ (names : List Ident). (c : Called) → called d scope names ≡ Some c →
        NestsWithin n d c.scope (body_calls c.body)) calls
        (λ names c is.
        let one : IsCalled d s names c = called-is d scope s there names c is in
        let place = stands_somewhere s names c one in
        subst (λ body. NestsWithin n d c.scope (body_calls body)) (sym one.body)
        (nests_before n place.0 (omega (arith, place.2, long)) place.1 (one.at.template, one.task) place.3 place.4
        c.scope one.at (ap (site d) one.instance ∙ one.there) refl))

    pub nests_all : (scope : Scope) (s : Site) → site d scope.instance ≡ Some s → (calls : List (List Ident)) →
        NestsWithin (length order) d scope calls
    nests_all scope s there calls = nests_so (length order) (omega arith) scope s there calls
