-- A walk over a graph that comes to a new node.
use Rattle.std.proofs.Common.{◌≡◌, ◌⊎◌, inl, inr, ⊎_elim, ℕ, suc, ◌+◌, ◌<◌, ◌≤◌, false, true, true≢false, Option, None, Some, List, [], ◌∷◌, ◌++◌, length, length-append, length-set, set, slice_get, refl, sym, ap, ◌∙◌, subst, arith}
use Rattle.std.proofs.lemmas.Option.{none-some, same_Some, slice_get_within}
use Rattle.tm_scope.specs.declared.graph.Walked.{Walked}
use Rattle.tm_scope.specs.declared.graph.groups.Group.{Group}
use Rattle.tm_scope.specs.Graph.{HasEdge, HasEdgesWithin, LeadsTo}
use Rattle.tm_scope.specs.Inner.Walks.{IsDone, IsMet, IsBefore, AreInStep, unopened, IsWalking}
use Rattle.tm_scope.proofs.Entries.{same_or_not, at-left, at-right, at-end, at-split, at-push, at-below, set-same, set-other, contained-at, at-contained}
use Rattle.tm_scope.proofs.WalkSteps.{all_lead, pushed-some, unopened-set}

module _ (graph : List (List ℕ)) (opened : List (Option ℕ)) (path pending : List ℕ) (groups : List Group)
    (done : List Walked) (b : ℕ) (so : IsWalking graph opened path (pending ++ b ∷ []) groups done)
    (busy : (i : ℕ) (g : Group) → slice_get groups i ≡ Some g → g.pending ≤ length pending)
    (within : HasEdgesWithin graph) (new : slice_get opened b ≡ Some None) (row : List ℕ)
    (row_is : slice_get graph b ≡ Some row) where
  abbrev opened' : List (Option ℕ)
  opened' = set opened b (Some (length path))

  abbrev path' : List ℕ
  path' = path ++ b ∷ []

  abbrev pending' : List ℕ
  pending' = pending ++ row

  abbrev own : Group
  own = record { start = length path; pending = length pending; loops = false }

  abbrev groups' : List Group
  groups' = groups ++ own ∷ []

  below : b < length opened
  below = slice_get_within opened b None new

  longer : length path' ≡ suc (length path)
  longer = length-append path (b ∷ []) ∙ (omega arith)

  -- what was opened before is another node
  elsewhere : (a p : ℕ) → slice_get opened a ≡ Some (Some p) → a ≡ b → ⊥
  elsewhere a p put same =
      none-some p (same_Some None (Some p) (sym new ∙ ap (slice_get opened) (sym same) ∙ put))

  still_open : (a p : ℕ) → slice_get opened a ≡ Some (Some p) → slice_get opened' a ≡ Some (Some p)
  still_open a p put = set-other opened b a (Some (length path)) (elsewhere a p put) ∙ put

  now_open : (a : ℕ) → b ≡ a → slice_get opened' a ≡ Some (Some (length path))
  now_open a same =
      ap (slice_get opened') (sym same) ∙ set-same opened b (Some (length path)) below

  met' : (a : ℕ) → a < length graph →
      ((p : ℕ) × (slice_get opened' a ≡ Some (Some p))) ⊎ ((k : ℕ) × (slice_get pending' k ≡ Some a))
  met' a inside =
      ⊎_elim (λ o. inl (o.0, still_open a o.0 o.1))
      (λ k. ⊎_elim (λ e. inr (k.0, at-left pending row k.0 a e)) (λ e. inl (length path, now_open a e.1))
      (at-push pending b k.0 a k.1))
      (so.met a inside)

  known' : (k a : ℕ) → slice_get pending' k ≡ Some a → a < length graph
  known' k a at =
      ⊎_elim (λ e. so.known k a (at-left pending (b ∷ []) k a e))
      (λ e. within b a (record { edges = row; of_node = row_is; leads = at-contained row e.0 a e.2 }))
      (at-split pending row k a at)

  on_path' : (p a : ℕ) → slice_get path' p ≡ Some a → slice_get opened' a ≡ Some (Some p)
  on_path' p a at =
      ⊎_elim (λ e. still_open a p (so.on_path p a e))
      (λ e. now_open a e.1 ∙ ap (λ k. Some (Some k)) (sym e.0)) (at-push path b p a at)

  seen' : (a p : ℕ) → slice_get opened' a ≡ Some (Some p) → (slice_get path' p ≡ Some a) ⊎ IsDone done a
  seen' a p put = by (same_or_not a b)
    where
      by : (a ≡ b) ⊎ (a ≡ b → ⊥) → (slice_get path' p ≡ Some a) ⊎ IsDone done a
      by (inl same) =
          let place : length path ≡ p =
          same_Some (length path) p (same_Some (Some (length path)) (Some p) (sym (now_open a (sym same)) ∙ put)) in
          inl (ap (slice_get path') (sym place) ∙ at-end path b ∙ ap (λ x. Some x) (sym same))
      by (inr other) =
          ⊎_elim (λ e. inl (at-left path (b ∷ []) p a e)) (λ d. inr d)
          (so.seen a p (sym (set-other opened b a (Some (length path)) other) ∙ put))

  apart' : (p a : ℕ) → slice_get path' p ≡ Some a → ¬ IsDone done a
  apart' p a at left =
      ⊎_elim (λ e. so.apart p a e left)
      (λ e. let was = so.done a left in elsewhere a was.0 was.1 (sym e.1)) (at-push path b p a at)

  reach' : (p q a c : ℕ) → p < q → slice_get path' p ≡ Some a → slice_get path' q ≡ Some c → LeadsTo graph a c
  reach' p q a c before first second =
      ⊎_elim
      (λ e. let inside : q < length path = slice_get_within path q c e in
      so.reach p q a c before (at-below path (b ∷ []) p a (omega arith) first) e)
      (λ e. let end : q ≡ length path = e.0 in
      subst (λ x. LeadsTo graph a x) e.1
      (all_lead graph opened path pending groups done b so busy p a
      (at-below path (b ∷ []) p a (omega arith) first)))
      (at-push path b q c second)

  first' : (g : Group) → slice_get groups' 0 ≡ Some g → g.start ≡ 0
  first' g at =
      ⊎_elim (λ e. so.first g e)
      (λ e. ap (λ (x : Group). x.start) (sym e.1) ∙ ap length (so.none (empty groups e.0))) (at-push groups own 0 g at)
    where
      empty : (gs : List Group) → 0 ≡ length gs → gs ≡ []
      empty [] e = refl
      empty (g ∷ gs) e = absurd (omega (arith, e))

  inside' : (i : ℕ) (g : Group) → slice_get groups' i ≡ Some g →
      (g.start < length path') × (g.pending ≤ length pending')
  inside' i g at =
      let more : length pending' ≡ length pending + length row = length-append pending row in
      let further : length path' ≡ suc (length path) = longer in
      ⊎_elim
      (λ e. let start : g.start < length path = (so.inside i g e).0 in
      let low : g.pending ≤ length pending = busy i g e in
      (omega arith, omega arith))
      (λ e. subst (λ (x : Group). (x.start < length path') × (x.pending ≤ length pending')) e.1
      (omega arith, omega arith))
      (at-push groups own i g at)

  rising' : (i j : ℕ) (g h : Group) → i < j → slice_get groups' i ≡ Some g → slice_get groups' j ≡ Some h →
      (g.start < h.start) × (g.pending ≤ h.pending)
  rising' i j g h before first second =
      ⊎_elim
      (λ e. let inside : j < length groups = slice_get_within groups j h e in
      so.rising i j g h before (at-below groups (own ∷ []) i g (omega arith) first) e)
      (λ e. let end : j ≡ length groups = e.0 in
      let old : slice_get groups i ≡ Some g = at-below groups (own ∷ []) i g (omega arith) first in
      subst (λ (x : Group). (g.start < x.start) × (g.pending ≤ x.pending)) e.1
      ((so.inside i g old).0, busy i g old))
      (at-push groups own j h second)

  -- a position of the new group is the last one
  at_last : (p a : ℕ) → length path ≤ p → slice_get path' p ≡ Some a → (p ≡ length path) × (b ≡ a)
  at_last p a low at =
      ⊎_elim (λ e. let inside : p < length path = slice_get_within path p a e in absurd (omega arith)) (λ e. e)
      (at-push path b p a at)

  back' : (i p a c : ℕ) (g : Group) → slice_get groups' i ≡ Some g → g.start ≤ p → IsBefore groups' i p →
      slice_get path' p ≡ Some a → slice_get path' g.start ≡ Some c →
      (g.loops ≡ true → LeadsTo graph a c) × (g.loops ≡ false → p ≡ g.start)
  back' i p a c g at low before here first =
      ⊎_elim (λ e. old e) (λ e. fresh e.1) (at-push groups own i g at)
    where
      old : slice_get groups i ≡ Some g → (g.loops ≡ true → LeadsTo graph a c) × (g.loops ≡ false → p ≡ g.start)
      old e =
          let inside : i < length groups = slice_get_within groups i g e in
          let start : g.start < length path = (so.inside i g e).0 in
          let short : p < length path = before (length groups) own inside (at-end groups own) in
          so.back i p a c g e low (λ j h further is. before j h further (at-left groups (own ∷ []) j h is))
          (at-below path (b ∷ []) p a short here) (at-below path (b ∷ []) g.start c start first)

      fresh : own ≡ g → (g.loops ≡ true → LeadsTo graph a c) × (g.loops ≡ false → p ≡ g.start)
      fresh same =
          let begins : length path ≡ g.start = ap (λ (x : Group). x.start) same in (
            λ holds. absurd (true≢false (sym holds ∙ ap (λ (x : Group). x.loops) (sym same))),
            λ _. (at_last p a (omega arith) here).0 ∙ begins,
          )

  -- an edge of the new node is to be followed
  to_follow : (g : Group) → g.pending ≤ length pending → (a c : ℕ) → b ≡ a → HasEdge graph a c →
      IsMet path' pending' done g c
  to_follow g low a c same edge =
      let one : edge.edges ≡ row =
      same_Some edge.edges row (sym edge.of_node ∙ ap (slice_get graph) (sym same) ∙ row_is) in
      let k = contained-at edge.edges c edge.leads in
      inr (inr (
        length pending + k.0,
        omega (arith, low),
        at-right pending row k.0 c (ap (λ xs. slice_get xs k.0) (sym one) ∙ k.1),
      ))

  edges' : (i p a c : ℕ) (g : Group) → slice_get groups' i ≡ Some g → g.start ≤ p → slice_get path' p ≡ Some a →
      HasEdge graph a c → IsMet path' pending' done g c
  edges' i p a c g at low here edge = ⊎_elim (λ e. old e) (λ e. fresh e.1) (at-push groups own i g at)
    where
      lifted : slice_get groups i ≡ Some g → IsMet path (pending ++ b ∷ []) done g c → IsMet path' pending' done g c
      lifted e (inl d) = inl d
      lifted e (inr (inl q)) = inr (inl (q.0, q.1, q.2, at-left path (b ∷ []) q.0 c q.3))
      lifted e (inr (inr k)) =
          let start : g.start < length path = (so.inside i g e).0 in
          ⊎_elim (λ f. inr (inr (k.0, k.1, at-left pending row k.0 c f)))
          (λ f. inr (inl (
            length path,
            omega arith,
            (λ _. start),
            at-end path b ∙ ap (λ x. Some x) f.1,
          )))
          (at-push pending b k.0 c k.2)

      old : slice_get groups i ≡ Some g → IsMet path' pending' done g c
      old e =
          ⊎_elim (λ f. lifted e (so.edges i p a c g e low f edge)) (λ f. to_follow g (busy i g e) a c f.1 edge)
          (at-push path b p a here)

      fresh : own ≡ g → IsMet path' pending' done g c
      fresh same =
          let begins : length path ≡ g.start = ap (λ (x : Group). x.start) same in
          let waits : length pending ≡ g.pending = ap (λ (x : Group). x.pending) same in
          to_follow g (omega arith) a c (at_last p a (omega arith) here).1 edge

  source' : (i k c : ℕ) (g : Group) → slice_get groups' i ≡ Some g → g.pending ≤ k → slice_get pending' k ≡ Some c →
      (p : ℕ) × (a : ℕ) × AreInStep groups' k p × (slice_get path' p ≡ Some a) × HasEdge graph a c
  source' i k c g at low here =
      ⊎_elim (λ e. before e) (λ e. fresh e.0 e.1 e.2) (at-split pending row k c here)
    where
      before : slice_get pending k ≡ Some c →
          (p : ℕ) × (a : ℕ) × AreInStep groups' k p × (slice_get path' p ≡ Some a) × HasEdge graph a c
      before e =
          let short : k < length pending = slice_get_within pending k c e in
          let old : slice_get groups i ≡ Some g =
          ⊎_elim (λ f. f)
          (λ f. let waits : length pending ≡ g.pending = ap (λ (x : Group). x.pending) f.1 in absurd (omega arith))
          (at-push groups own i g at) in
          let found = so.source i k c g old low (at-left pending (b ∷ []) k c e) in
          let inside : found.0 < length path = slice_get_within path found.0 found.1 found.3 in (
            found.0,
            found.1,
            (λ j h is. ⊎_elim (λ f. found.2 j h f)
                (λ f. subst (λ (x : Group).
                (x.pending ≤ k → x.start ≤ found.0) × (k < x.pending → found.0 < x.start)) f.1
                ((λ far. absurd (omega (arith, far, short))), (λ _. inside)))
                (at-push groups own j h is)),
            at-left path (b ∷ []) found.0 found.1 found.3,
            found.4,
          )

      fresh : (j : ℕ) → k ≡ length pending + j → slice_get row j ≡ Some c →
          (p : ℕ) × (a : ℕ) × AreInStep groups' k p × (slice_get path' p ≡ Some a) × HasEdge graph a c
      fresh j place e = (
        length path,
        b,
        (λ n h is. ⊎_elim
            (λ f. let start : h.start < length path = (so.inside n h f).0 in
            let waits : h.pending ≤ length pending = busy n h f in
            ((λ _. omega arith), (λ far. absurd (omega (arith, far, place, waits)))))
            (λ f. subst (λ (x : Group).
            (x.pending ≤ k → x.start ≤ length path) × (k < x.pending → length path < x.start))
            f.1
            ((λ _. omega arith), (λ far. absurd (omega (arith, far, place)))))
            (at-push groups own n h is)),
        at-end path b,
        record { edges = row; of_node = row_is; leads = at-contained row j c e },
      )

  pub walking-opened : IsWalking graph opened' path' pending' groups' done
  walking-opened = record {
    sized = length-set opened b (Some (length path)) ∙ so.sized;
    counted =
        let fewer : suc (unopened opened') ≡ unopened opened = unopened-set opened b (length path) new in
        let further : length path' ≡ suc (length path) = longer in
        let all = so.counted in
        omega arith;
    met = met';
    known = known';
    on_path = on_path';
    seen = seen';
    done = λ a left. let was = so.done a left in (was.0, still_open a was.0 was.1);
    apart = apart';
    reach = reach';
    none = λ e. absurd (pushed-some groups own e);
    first = first';
    inside = inside';
    rising = rising';
    back = back';
    edges = edges';
    source = source';
    closed = so.closed;
    loops = so.loops;
    behind = so.behind;
  }
