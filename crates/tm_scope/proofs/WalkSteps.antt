-- The steps of a walk over a graph: an edge to a node that was left, one to a node on the path, one to a new node.
use Rattle.std.proofs.Common.{◌≡◌, ◌⊎◌, inl, inr, ⊎_elim, ℕ, zero, suc, ◌+◌, ◌<◌, ◌≤◌, Bool, true, false, true≢false, Option, None, Some, List, [], ◌∷◌, ◌++◌, length, length-take, take, set, slice_get, refl, sym, ap, ◌∙◌, subst, arith}
use Rattle.std.proofs.lemmas.Option.{none-some, same_Some, slice_get_within}
use Rattle.tm_scope.specs.declared.graph.Walked.{Walked}
use Rattle.tm_scope.specs.declared.graph.groups.Group.{Group}
use Rattle.tm_scope.specs.Graph.{HasEdge, LeadsTo, along, onward}
use Rattle.tm_scope.specs.Inner.Walks.{IsDone, IsMet, IsBefore, AreInStep, unopened, left_over, IsWalking, AreJoined}
use Rattle.tm_scope.proofs.Entries.{same_or_not, below_or_not, at-left, at-end, at-push, at-there, take-at, at-take}

-- ---- reaching

module _ (graph : List (List ℕ)) where
  pub leads-on : {a b c : ℕ} → LeadsTo graph a b → LeadsTo graph b c → LeadsTo graph a c
  leads-on (along e) rest = onward e rest
  leads-on (onward e more) rest = onward e (leads-on more rest)

  -- a node reaches another one, or is it
  abbrev pub LeadsOrIs : ℕ → ℕ → Type 0
  LeadsOrIs a b = (a ≡ b) ⊎ LeadsTo graph a b

  pub leads_by : {a v b : ℕ} → LeadsOrIs a v → HasEdge graph v b → LeadsTo graph a b
  leads_by {b = b} (inl e) edge = subst (λ x. LeadsTo graph x b) (sym e) (along edge)
  leads_by (inr more) edge = leads-on more (along edge)

  pub leads_then : {a b c : ℕ} → LeadsTo graph a b → LeadsOrIs b c → LeadsTo graph a c
  leads_then {a = a} first (inl e) = subst (λ x. LeadsTo graph a x) e first
  leads_then first (inr more) = leads-on first more

-- a list with an element at its end is not empty
pub pushed-some : {X : Type 0} (xs : List X) (x : X) → (xs ++ x ∷ []) ≡ [] → ⊥
pushed-some xs x e = none-some x (sym (ap (λ ys. slice_get ys (length xs)) e) ∙ at-end xs x)

-- two positions of one node
pub one_place : {X : Type 0} (o : Option X) (a b : X) → o ≡ Some a → o ≡ Some b → a ≡ b
one_place o a b first second = same_Some a b (sym first ∙ second)

-- ---- what was opened

pub unopened-set : (os : List (Option ℕ)) (a p : ℕ) → slice_get os a ≡ Some None →
    suc (unopened (set os a (Some p))) ≡ unopened os
unopened-set [] a p at = absurd (none-some None at)
unopened-set (None ∷ os) zero p at = refl
unopened-set (Some q ∷ os) zero p at = absurd (none-some q (sym (same_Some (Some q) None at)))
unopened-set (None ∷ os) (suc a) p at = ap suc (unopened-set os a p at)
unopened-set (Some q ∷ os) (suc a) p at = unopened-set os a p at

pub left_over-set : (graph : List (List ℕ)) (os : List (Option ℕ)) (a p : ℕ) (row : List ℕ) →
    slice_get graph a ≡ Some row → slice_get os a ≡ Some None →
    left_over graph (set os a (Some p)) + suc (length row) ≡ left_over graph os
left_over-set [] os a p row of at = absurd (none-some row of)
left_over-set (r ∷ graph) [] a p row of at = absurd (none-some None at)
left_over-set (r ∷ graph) (None ∷ os) zero p row of at =
    let same : length r ≡ length row = ap length (same_Some r row of) in omega arith
left_over-set (r ∷ graph) (Some q ∷ os) zero p row of at = absurd (none-some q (sym (same_Some (Some q) None at)))
left_over-set (r ∷ graph) (None ∷ os) (suc a) p row of at =
    let rest : left_over graph (set os a (Some p)) + suc (length row) ≡ left_over graph os =
    left_over-set graph os a p row of at in
    omega arith
left_over-set (r ∷ graph) (Some q ∷ os) (suc a) p row of at = left_over-set graph os a p row of at

-- ---- an edge that is followed

module _ (graph : List (List ℕ)) (opened : List (Option ℕ)) (path pending : List ℕ) (groups : List Group)
    (done : List Walked) (b : ℕ) (so : IsWalking graph opened path (pending ++ b ∷ []) groups done)
    (busy : (i : ℕ) (g : Group) → slice_get groups i ≡ Some g → g.pending ≤ length pending) where
  abbrev Met : Group → ℕ → Type 0
  Met g c = IsMet path pending done g c

  -- what was met before is met without that edge, if its node is
  shed : (g : Group) (c : ℕ) → Met g b → IsMet path (pending ++ b ∷ []) done g c → Met g c
  shed g c here (inl d) = inl d
  shed g c here (inr (inl q)) = inr (inl q)
  shed g c here (inr (inr k)) =
      ⊎_elim (λ e. inr (inr (k.0, k.1, e))) (λ e. subst (Met g) e.1 here) (at-push pending b k.0 c k.2)

  is_known : (k a : ℕ) → slice_get pending k ≡ Some a → a < length graph
  is_known k a at = so.known k a (at-left pending (b ∷ []) k a at)

  met_still : (p : ℕ) → slice_get opened b ≡ Some (Some p) → (a : ℕ) → a < length graph →
      ((p : ℕ) × (slice_get opened a ≡ Some (Some p))) ⊎ ((k : ℕ) × (slice_get pending k ≡ Some a))
  met_still p put a within =
      ⊎_elim (λ o. inl o)
      (λ k. ⊎_elim (λ e. inr (k.0, e))
      (λ e. inl (p, subst (λ x. slice_get opened x ≡ Some (Some p)) e.1 put)) (at-push pending b k.0 a k.1))
      (so.met a within)

  source_still : (i k c : ℕ) (g : Group) → slice_get groups i ≡ Some g → g.pending ≤ k →
      slice_get pending k ≡ Some c →
      (p : ℕ) × (a : ℕ) × AreInStep groups k p × (slice_get path p ≡ Some a) × HasEdge graph a c
  source_still i k c g at low here = so.source i k c g at low (at-left pending (b ∷ []) k c here)

  -- the node was left
  pub walking-done : IsDone done b → IsWalking graph opened path pending groups done
  walking-done left = record {
    sized = so.sized;
    counted = so.counted;
    met = met_still (so.done b left).0 (so.done b left).1;
    known = is_known;
    on_path = so.on_path;
    seen = so.seen;
    done = so.done;
    apart = so.apart;
    reach = so.reach;
    none = so.none;
    first = so.first;
    inside = λ i g at. ((so.inside i g at).0, busy i g at);
    rising = so.rising;
    back = so.back;
    edges = λ i p a c g at low here edge. shed g c (inl left) (so.edges i p a c g at low here edge);
    source = source_still;
    closed = so.closed;
    loops = so.loops;
    behind = so.behind;
  }

  -- seen from the last group: each node of the path reaches the one to which the edge leads
  module _ (p a : ℕ) (here : slice_get path p ≡ Some a) (l : ℕ) (g : Group) (at : slice_get groups l ≡ Some g)
      (last : (j : ℕ) (h : Group) → l < j → slice_get groups j ≡ Some h → ⊥) where
    edge : (p : ℕ) × (a : ℕ) × AreInStep groups (length pending) p × (slice_get path p ≡ Some a) × HasEdge graph a b
    edge = so.source l (length pending) b g at (busy l g at) (at-end pending b)

    low : g.start ≤ edge.0
    low = (edge.2 l g at).0 (busy l g at)

    start_leads : (y : ℕ) → slice_get path g.start ≡ Some y → LeadsOrIs graph y edge.1
    start_leads y first =
        ⊎_elim
        (λ same. inl (one_place (slice_get path g.start) y edge.1 first (ap (slice_get path) same ∙ edge.3)))
        (λ other. let below : g.start ≤ edge.0 = low in
        let before : g.start < edge.0 = omega arith in
        inr (so.reach g.start edge.0 y edge.1 before first edge.3))
        (same_or_not g.start edge.0)

    by_loops : edge.0 < p → (y : ℕ) → slice_get path g.start ≡ Some y →
        (g.loops ≡ true → LeadsTo graph a y) × (g.loops ≡ false → p ≡ g.start) →
        (loops : Bool) → g.loops ≡ loops → LeadsOrIs graph a edge.1
    by_loops beyond y first led true is = inr (leads_then graph (led.0 is) (start_leads y first))
    by_loops beyond y first led false is =
        let below : g.start ≤ edge.0 = low in
        let same : p ≡ g.start = led.1 is in
        absurd (omega arith)

    later : edge.0 < p → LeadsOrIs graph a edge.1
    later beyond =
        let below : g.start ≤ edge.0 = low in
        let y = at-there path g.start (so.inside l g at).0 in
        by_loops beyond y.0 y.1
        (so.back l p a y.0 g at (omega arith) (λ j h further there. absurd (last j h further there)) here y.1) g.loops
        refl

    leads : LeadsTo graph a b
    leads =
        leads_by graph
        (⊎_elim
        (λ same. inl (one_place (slice_get path p) a edge.1 here (ap (slice_get path) same ∙ edge.3)))
        (λ other. ⊎_elim (λ less. inr (so.reach p edge.0 a edge.1 less here edge.3))
        (λ more. later (let far : edge.0 ≤ p = more in omega arith)) (below_or_not p edge.0))
        (same_or_not p edge.0))
        edge.4

  -- each node of the path reaches the one to which the edge leads
  pub all_lead : (p a : ℕ) → slice_get path p ≡ Some a → LeadsTo graph a b
  all_lead p a here = from groups refl
    where
      from : (gs : List Group) → gs ≡ groups → LeadsTo graph a b
      from [] none = absurd (none-some a (sym (ap (λ xs. slice_get xs p) (so.none (sym none))) ∙ here))
      from (g ∷ gs) some =
          let n = length gs in
          let there = at-there groups n (subst (λ xs. n < length xs) some (omega arith)) in
          leads p a here n there.0 there.1
          (λ j h further at.
          let within : j < length groups = slice_get_within groups j h at in
          let long : length groups ≡ suc n = ap length (sym some) in
          omega arith)

  -- the node is on the path: the groups behind it are one
  module _ (at : ℕ) (new : List Group) (here : slice_get path at ≡ Some b) (joined : AreJoined groups at new) where
    abbrev g' : Group
    g' = record { start = joined.group.start; pending = joined.group.pending; loops = true }

    long : length (take joined.place groups) ≡ joined.place
    long =
        let within : joined.place < length groups = slice_get_within groups joined.place joined.group joined.is in
        let cut = length-take joined.place groups in
        omega arith

    -- a group now is an earlier one, or the one that was joined
    now : (i : ℕ) (g : Group) → slice_get new i ≡ Some g →
        ((i < joined.place) × (slice_get groups i ≡ Some g)) ⊎ ((i ≡ joined.place) × (g' ≡ g))
    now i g is =
        ⊎_elim (λ e. inl (take-at joined.place groups i g e)) (λ e. inr (e.0 ∙ long, e.1))
        (at-push (take joined.place groups) g' i g (ap (λ xs. slice_get xs i) (sym joined.shape) ∙ is))

    kept : (i : ℕ) (g : Group) → i < joined.place → slice_get groups i ≡ Some g → slice_get new i ≡ Some g
    kept i g below is =
        ap (λ xs. slice_get xs i) joined.shape
        ∙ at-left (take joined.place groups) (g' ∷ []) i g (at-take joined.place groups i g below is)

    last_now : slice_get new joined.place ≡ Some g'
    last_now =
        ap (λ xs. slice_get xs joined.place) joined.shape
        ∙ ap (slice_get (take joined.place groups ++ g' ∷ [])) (sym long) ∙ at-end (take joined.place groups) g'

    -- what stands before the groups now stood before all
    before_all : (i p : ℕ) → i < joined.place → IsBefore new i p → IsBefore groups i p
    before_all i p below before j h further is =
        ⊎_elim (λ less. before j h further (kept j h less is))
        (λ more. beyond (same_or_not j joined.place) more)
        (below_or_not j joined.place)
      where
        beyond : (j ≡ joined.place) ⊎ (j ≡ joined.place → ⊥) → joined.place ≤ j → p < h.start
        beyond (inl same) more =
            let one : h ≡ joined.group =
            one_place (slice_get groups j) h joined.group is (ap (slice_get groups) same ∙ joined.is) in
            let start : h.start ≡ joined.group.start = ap (λ (x : Group). x.start) one in
            let less : p < joined.group.start = before joined.place g' below last_now in
            omega arith
        beyond (inr other) more =
            let less : p < joined.group.start = before joined.place g' below last_now in
            let rise : joined.group.start < h.start =
            (so.rising joined.place j joined.group h (omega arith) joined.is is).0 in
            omega arith

    -- the node of the edge reaches the first one of its group
    to_start : (s : ℕ) → slice_get path joined.group.start ≡ Some s → LeadsOrIs graph b s
    to_start s first = by joined.group.loops refl
      where
        led : (joined.group.loops ≡ true → LeadsTo graph b s) × (joined.group.loops ≡ false → at ≡ joined.group.start)
        led = so.back joined.place at b s joined.group joined.is joined.holds joined.before here first

        by : (loops : Bool) → joined.group.loops ≡ loops → LeadsOrIs graph b s
        by true is = inr (led.0 is)
        by false is =
            inl (one_place (slice_get path at) b s here (ap (slice_get path) (led.1 is) ∙ first))

    back_now : (i p a c : ℕ) (g : Group) → slice_get new i ≡ Some g → g.start ≤ p → IsBefore new i p →
        slice_get path p ≡ Some a → slice_get path g.start ≡ Some c →
        (g.loops ≡ true → LeadsTo graph a c) × (g.loops ≡ false → p ≡ g.start)
    back_now i p a c g is low before there first =
        ⊎_elim (λ e. so.back i p a c g e.1 low (before_all i p e.0 before) there first) (λ e. joins e.1) (now i g is)
      where
        joins : g' ≡ g → (g.loops ≡ true → LeadsTo graph a c) × (g.loops ≡ false → p ≡ g.start)
        joins same = (
          λ _. leads_then graph (all_lead p a there)
              (to_start c (ap (λ (x : Group). slice_get path x.start) same ∙ first)),
          λ fails. absurd (true≢false (ap (λ (x : Group). x.loops) same ∙ fails)),
        )

    met_now : (g : Group) → g.start ≤ at → (g.loops ≡ false → g.start < at) → Met g b
    met_now g low strict = inr (inl (at, low, strict, here))

    widened : (c : ℕ) → IsMet path (pending ++ b ∷ []) done joined.group c → IsMet path (pending ++ b ∷ []) done g' c
    widened c (inl d) = inl d
    widened c (inr (inl q)) = inr (inl (q.0, q.1, (λ fails. absurd (true≢false fails)), q.3))
    widened c (inr (inr k)) = inr (inr k)

    edges_now : (i p a c : ℕ) (g : Group) → slice_get new i ≡ Some g → g.start ≤ p → slice_get path p ≡ Some a →
        HasEdge graph a c → Met g c
    edges_now i p a c g is low there edge =
        ⊎_elim (λ e. early e.0 e.1) (λ e. joins e.1) (now i g is)
      where
        early : i < joined.place → slice_get groups i ≡ Some g → Met g c
        early below old =
            let rise : g.start < joined.group.start =
            (so.rising i joined.place g joined.group below old joined.is).0 in
            let holds : joined.group.start ≤ at = joined.holds in
            shed g c (met_now g (omega arith) (λ _. omega arith)) (so.edges i p a c g old low there edge)

        joins : g' ≡ g → Met g c
        joins same =
            subst (λ x. Met x c) same
            (shed g' c (met_now g' joined.holds (λ fails. absurd (true≢false fails)))
            (widened c (so.edges joined.place p a c joined.group joined.is
            (subst (λ (x : Group). x.start ≤ p) (sym same) low) there edge)))

    in_step : (k p : ℕ) → AreInStep groups k p → AreInStep new k p
    in_step k p all j h is =
        ⊎_elim (λ e. all j h e.1)
        (λ e. subst (λ (x : Group). (x.pending ≤ k → x.start ≤ p) × (k < x.pending → p < x.start)) e.1
        (all joined.place joined.group joined.is))
        (now j h is)

    source_now : (i k c : ℕ) (g : Group) → slice_get new i ≡ Some g → g.pending ≤ k → slice_get pending k ≡ Some c →
        (p : ℕ) × (a : ℕ) × AreInStep new k p × (slice_get path p ≡ Some a) × HasEdge graph a c
    source_now i k c g is low there =
        let found = ⊎_elim (λ e. source_still i k c g e.1 low there)
        (λ e. source_still joined.place k c joined.group joined.is
        (subst (λ (x : Group). x.pending ≤ k) (sym e.1) low) there) (now i g is) in
        (found.0, found.1, in_step k found.0 found.2, found.3, found.4)

    rising_now : (i j : ℕ) (g h : Group) → i < j → slice_get new i ≡ Some g → slice_get new j ≡ Some h →
        (g.start < h.start) × (g.pending ≤ h.pending)
    rising_now i j g h below first second =
        ⊎_elim (λ e. ⊎_elim (λ f. so.rising i j g h below e.1 f.1)
        (λ f. subst (λ (x : Group). (g.start < x.start) × (g.pending ≤ x.pending)) f.1
        (so.rising i joined.place g joined.group e.0 e.1 joined.is)) (now j h second))
        (λ e. ⊎_elim
        (λ f. let less : j < joined.place = f.0 in let same : i ≡ joined.place = e.0 in absurd (omega arith))
        (λ f. let same : i ≡ joined.place = e.0 in let also : j ≡ joined.place = f.0 in absurd (omega arith))
        (now j h second))
        (now i g first)

    inside_now : (i : ℕ) (g : Group) → slice_get new i ≡ Some g →
        (g.start < length path) × (g.pending ≤ length pending)
    inside_now i g is =
        ⊎_elim (λ e. ((so.inside i g e.1).0, busy i g e.1))
        (λ e. subst (λ (x : Group). (x.start < length path) × (x.pending ≤ length pending)) e.1
        ((so.inside joined.place joined.group joined.is).0, busy joined.place joined.group joined.is))
        (now i g is)

    first_now : (g : Group) → slice_get new 0 ≡ Some g → g.start ≡ 0
    first_now g is =
        ⊎_elim (λ e. so.first g e.1)
        (λ e. ap (λ (x : Group). x.start) (sym e.1)
        ∙ so.first joined.group (ap (slice_get groups) e.0 ∙ joined.is)) (now 0 g is)

    pub walking-joined : IsWalking graph opened path pending new done
    walking-joined = record {
      sized = so.sized;
      counted = so.counted;
      met = met_still at (so.on_path at b here);
      known = is_known;
      on_path = so.on_path;
      seen = so.seen;
      done = so.done;
      apart = so.apart;
      reach = so.reach;
      none = λ e. absurd (pushed-some (take joined.place groups) g' (sym joined.shape ∙ e));
      first = first_now;
      inside = inside_now;
      rising = rising_now;
      back = back_now;
      edges = edges_now;
      source = source_now;
      closed = so.closed;
      loops = so.loops;
      behind = so.behind;
    }
