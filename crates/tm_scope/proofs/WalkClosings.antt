-- A walk over a graph that leaves the last group of its path, and one that ends.
use Rattle.std.proofs.Common.{◌≡◌, ◌⊎◌, inl, inr, ⊎_elim, ℕ, zero, suc, ◌+◌, ◌-◌, ◌<◌, ◌≤◌, true, false, Option, None, Some, List, [], ◌∷◌, ◌++◌, length, length-append, length-drop, length-take, replicate, take, drop, slice_get, refl, sym, ap, ◌∙◌, subst, arith}
use Rattle.std.proofs.lemmas.List.{length-map, length-replicate}
use Rattle.std.proofs.lemmas.Option.{none-some, same_Some, slice_get_within}
use Rattle.tm_scope.specs.declared.graph.Walked.{Walked}
use Rattle.tm_scope.specs.declared.graph.groups.Group.{Group}
use Rattle.tm_scope.specs.Graph.{HasEdge, LeadsTo, along, onward, StandsAt, IsWalk}
use Rattle.tm_scope.specs.Inner.Walks.{IsDone, IsMet, IsBefore, AreInStep, StandsBehind, unopened, IsWalking, walked_nodes}
use Rattle.tm_scope.proofs.Entries.{below_or_not, at-left, at-right, at-end, at-split, at-push, at-below, at-there, take-at, at-take, drop-at, map-at, at-map}
use Rattle.tm_scope.proofs.WalkSteps.{LeadsOrIs, leads_then, one_place}

-- a node stands where it stood, in an order that has grown
pub stands-left : (order more : List Walked) (k a : ℕ) → StandsAt order k a → StandsAt (order ++ more) k a
stands-left order more k a s = record { walked = s.walked; at = at-left order more k s.walked s.at; node = s.node }

pub stands-below : (order more : List Walked) (k a : ℕ) → k < length order → StandsAt (order ++ more) k a →
    StandsAt order k a
stands-below order more k a below s =
    record { walked = s.walked; at = at-below order more k s.walked below s.at; node = s.node }

module _ (graph : List (List ℕ)) (opened : List (Option ℕ)) (path pending : List ℕ) (front : List Group) (g : Group)
    (done : List Walked) (so : IsWalking graph opened path pending (front ++ g ∷ []) done)
    (followed : length pending ≤ g.pending) where
  abbrev path' : List ℕ
  path' = take g.start path

  abbrev group : List ℕ
  group = drop g.start path

  abbrev more : List Walked
  more = walked_nodes g.loops group

  abbrev done' : List Walked
  done' = done ++ more

  abbrev groups : List Group
  groups = front ++ g ∷ []

  here : slice_get groups (length front) ≡ Some g
  here = at-end front g

  last : (j : ℕ) (h : Group) → length front < j → slice_get groups j ≡ Some h → ⊥
  last j h further is =
      let within : j < length groups = slice_get_within groups j h is in
      let long : length groups ≡ length front + 1 = length-append front (g ∷ []) in
      omega arith

  starts : g.start < length path
  starts = (so.inside (length front) g here).0

  -- a node that was left before, or now
  done-old : (a : ℕ) → IsDone done a → IsDone done' a
  done-old a d = (d.0, stands-left done more d.0 a d.1)

  done-new : (q a : ℕ) → g.start ≤ q → slice_get path q ≡ Some a → IsDone done' a
  done-new q a low at =
      let place : q ≡ g.start + (q - g.start) = omega arith in
      let in_group : slice_get group (q - g.start) ≡ Some a =
      drop-at g.start path (q - g.start) ∙ ap (slice_get path) (sym place) ∙ at in (
        length done + (q - g.start),
        record {
          walked = record { node = a; loops = g.loops };
          at = at-right done more (q - g.start) (record { node = a; loops = g.loops })
              (at-map (λ n. record { node = n; loops = g.loops }) group (q - g.start) a in_group);
          node = refl;
        },
      )

  -- a node that was left now: where it stands in the order and on the path
  pub record IsNew (k : ℕ) (w : Walked) : Type 0 where
    pub place : ℕ
    pub far : k ≡ length done + place
    pub node : slice_get path (g.start + place) ≡ Some w.node
    pub loops : g.loops ≡ w.loops

  old_or_new : (k : ℕ) (w : Walked) → slice_get done' k ≡ Some w → (slice_get done k ≡ Some w) ⊎ IsNew k w
  old_or_new k w at = ⊎_elim (λ e. inl e) (λ e. inr (fresh e.0 e.1 e.2)) (at-split done more k w at)
    where
      fresh : (j : ℕ) → k ≡ length done + j → slice_get more j ≡ Some w → IsNew k w
      fresh j far is =
          let from = map-at (λ n. record { node = n; loops = g.loops }) group j w is in
          record {
            place = j;
            far = far;
            node = sym (drop-at g.start path j) ∙ from.1 ∙ ap (λ (x : Walked). Some x.node) from.2;
            loops = ap (λ (x : Walked). x.loops) from.2;
          }

  done-cases : (a : ℕ) → IsDone done' a → IsDone done a ⊎ ((q : ℕ) × (g.start ≤ q) × (slice_get path q ≡ Some a))
  done-cases a d =
      ⊎_elim (λ e. inl (d.0, record { walked = d.1.walked; at = e; node = d.1.node }))
      (λ e. inr (g.start + e.place, omega arith, e.node ∙ ap (λ x. Some x) d.1.node))
      (old_or_new d.0 d.1.walked d.1.at)

  -- nothing is left to be followed
  none_waits : (k a : ℕ) → g.pending ≤ k → slice_get pending k ≡ Some a → ⊥
  none_waits k a low at = let within : k < length pending = slice_get_within pending k a at in omega arith

  met_done : (q a b : ℕ) → g.start ≤ q → slice_get path q ≡ Some a → HasEdge graph a b → IsDone done' b
  met_done q a b low at edge = by (so.edges (length front) q a b g here low at edge)
    where
      by : IsMet path pending done g b → IsDone done' b
      by (inl d) = done-old b d
      by (inr (inl p)) = done-new p.0 b p.1 p.3
      by (inr (inr k)) = absurd (none_waits k.0 b k.1 k.2)

  -- the nodes of the group lead back to its first one
  led : (q a s : ℕ) → g.start ≤ q → slice_get path q ≡ Some a → slice_get path g.start ≡ Some s →
      (g.loops ≡ true → LeadsTo graph a s) × (g.loops ≡ false → q ≡ g.start)
  led q a s low at first =
      so.back (length front) q a s g here low (λ j h further is. absurd (last j h further is)) at first

  loops' : (k : ℕ) (w : Walked) → slice_get done' k ≡ Some w → w.loops ≡ true → LeadsTo graph w.node w.node
  loops' k w at holds = ⊎_elim (λ e. so.loops k w e holds) (λ e. fresh e) (old_or_new k w at)
    where
      fresh : IsNew k w → LeadsTo graph w.node w.node
      fresh e =
          let s = at-there path g.start starts in
          leads_then graph ((led (g.start + e.place) w.node s.0 (omega arith) e.node s.1).0 (e.loops ∙ holds))
          (onto e.place s.0 s.1 e.node)
        where
          onto : (j s : ℕ) → slice_get path g.start ≡ Some s → slice_get path (g.start + j) ≡ Some w.node →
              LeadsOrIs graph s w.node
          onto zero s first is =
              let same : g.start + 0 ≡ g.start = omega arith in
              inl (one_place (slice_get path g.start) s w.node first (ap (slice_get path) (sym same) ∙ is))
          onto (suc j) s first is =
              inr (so.reach g.start (g.start + suc j) s w.node (omega arith) first is)

  behind' : (k : ℕ) (w : Walked) → slice_get done' k ≡ Some w → w.loops ≡ false → StandsBehind graph done' k w.node
  behind' k w at fails = ⊎_elim (λ e. old e) (λ e. fresh e) (old_or_new k w at)
    where
      old : slice_get done k ≡ Some w → StandsBehind graph done' k w.node
      old e =
          let b = so.behind k w e fails in
          let inside : k < length done = slice_get_within done k w e in
          record {
            closed = λ j x y below stands edge.
                let at = b.closed j x y below (stands-below done more j x (omega (arith, below, inside)) stands) edge in
                (at.0, at.1, stands-left done more at.0 y at.2);
            edges = λ y edge. let at = b.edges y edge in (at.0, at.1, stands-left done more at.0 y at.2);
            fresh = λ j below stands.
                b.fresh j below (stands-below done more j w.node (omega (arith, below, inside)) stands);
          }

      fresh : IsNew k w → StandsBehind graph done' k w.node
      fresh e = record {
        closed = λ j x y below stands edge.
            settled y (so.closed x y (j, stands-below done more j x (omega (arith, below, end)) stands) edge);
        edges = λ y edge. settled y (met_old y (so.edges (length front) (g.start + e.place) w.node y g here
            (omega arith) e.node edge));
        fresh = λ j below stands.
            so.apart (g.start + e.place) w.node e.node
            (j, stands-below done more j w.node (omega (arith, below, end)) stands);
      }
        where
          s : (s : ℕ) × (slice_get path g.start ≡ Some s)
          s = at-there path g.start starts

          only : g.loops ≡ false
          only = e.loops ∙ fails

          first : g.start + e.place ≡ g.start
          first = (led (g.start + e.place) w.node s.0 (omega arith) e.node s.1).1 only

          end : k ≡ length done
          end = let far : k ≡ length done + e.place = e.far in let same = first in omega arith

          settled : (y : ℕ) → IsDone done y → (i : ℕ) × (i < k) × StandsAt done' i y
          settled y d =
              let inside : d.0 < length done = slice_get_within done d.0 d.1.walked d.1.at in
              let same = end in
              (d.0, omega arith, stands-left done more d.0 y d.1)

          met_old : (y : ℕ) → IsMet path pending done g y → IsDone done y
          met_old y (inl d) = d
          met_old y (inr (inl p)) =
              let beyond : g.start < p.0 = p.2 only in
              let same : p.0 ≡ g.start = (led p.0 y s.0 p.1 p.3 s.1).1 only in
              absurd (omega arith)
          met_old y (inr (inr k)) = absurd (none_waits k.0 y k.1 k.2)

  cut : length path' ≡ g.start
  cut = let short : g.start < length path = starts in length-take g.start path ∙ (omega arith)

  before_all : (i p : ℕ) → p < g.start → IsBefore front i p → IsBefore groups i p
  before_all i p below before j h further is =
      ⊎_elim (λ e. before j h further e) (λ e. subst (λ (x : Group). p < x.start) e.1 below) (at-push front g j h is)

  in_front : (i : ℕ) (f : Group) → slice_get front i ≡ Some f → slice_get groups i ≡ Some f
  in_front i f is = at-left front (g ∷ []) i f is

  seen' : (a p : ℕ) → slice_get opened a ≡ Some (Some p) → (slice_get path' p ≡ Some a) ⊎ IsDone done' a
  seen' a p put =
      ⊎_elim
      (λ e. ⊎_elim (λ below. inl (at-take g.start path p a below e)) (λ low. inr (done-new p a low e))
      (below_or_not p g.start))
      (λ d. inr (done-old a d)) (so.seen a p put)

  apart' : (p a : ℕ) → slice_get path' p ≡ Some a → ¬ IsDone done' a
  apart' p a at left =
      let old = take-at g.start path p a at in
      ⊎_elim (λ d. so.apart p a old.1 d)
      (λ q. let one : p ≡ q.0 =
      same_Some p q.0 (same_Some (Some p) (Some q.0) (sym (so.on_path p a old.1) ∙ so.on_path q.0 a q.2)) in
      let below : p < g.start = old.0 in
      let low : g.start ≤ q.0 = q.1 in
      absurd (omega arith))
      (done-cases a left)

  met' : (f : Group) (c : ℕ) → IsMet path pending done f c → IsMet path' pending done' f c
  met' f c (inl d) = inl (done-old c d)
  met' f c (inr (inl q)) =
      ⊎_elim (λ below. inr (inl (q.0, q.1, q.2, at-take g.start path q.0 c below q.3)))
      (λ low. inl (done-new q.0 c low q.3)) (below_or_not q.0 g.start)
  met' f c (inr (inr k)) = inr (inr k)

  source' : (i k c : ℕ) (f : Group) → slice_get front i ≡ Some f → f.pending ≤ k → slice_get pending k ≡ Some c →
      (p : ℕ) × (a : ℕ) × AreInStep front k p × (slice_get path' p ≡ Some a) × HasEdge graph a c
  source' i k c f is low at =
      let found = so.source i k c f (in_front i f is) low at in
      let inside : k < length pending = slice_get_within pending k c at in
      let below : found.0 < g.start = (found.2 (length front) g here).1 (omega arith) in (
        found.0,
        found.1,
        (λ j h there. found.2 j h (in_front j h there)),
        at-take g.start path found.0 found.1 below found.3,
        found.4,
      )

  none' : front ≡ [] → path' ≡ []
  none' empty =
      ap (λ n. take n path)
      (so.first g (ap (λ xs. slice_get (xs ++ g ∷ []) 0) empty))

  pub walking-closed : IsWalking graph opened path' pending front done'
  walking-closed = record {
    sized = so.sized;
    counted =
        let all = so.counted in
        let short : g.start < length path = starts in
        let first : length path' ≡ g.start = cut in
        let rest : length group ≡ length path - g.start = length-drop g.start path in
        let same : length more ≡ length group = length-map group (λ n. record { node = n; loops = g.loops }) in
        let both : length done' ≡ length done + length more = length-append done more in
        omega arith;
    met = so.met;
    known = so.known;
    on_path = λ p a at. so.on_path p a (take-at g.start path p a at).1;
    seen = seen';
    done = λ a d. ⊎_elim (λ e. so.done a e) (λ q. (q.0, so.on_path q.0 a q.2)) (done-cases a d);
    apart = apart';
    reach = λ p q a c before first second.
        so.reach p q a c before (take-at g.start path p a first).1 (take-at g.start path q c second).1;
    none = none';
    first = λ f is. so.first f (in_front 0 f is);
    inside = λ i f is.
        let low : i < length front = slice_get_within front i f is in
        let rise : f.start < g.start = (so.rising i (length front) f g low (in_front i f is) here).0 in
        let all : length path' ≡ g.start = cut in
        (omega arith, (so.inside i f (in_front i f is)).1);
    rising = λ i j f h before first second. so.rising i j f h before (in_front i f first) (in_front j h second);
    back = λ i p a c f is low before at first.
        let old = take-at g.start path p a at in
        so.back i p a c f (in_front i f is) low (before_all i p old.0 before) old.1
        (take-at g.start path f.start c first).1;
    edges = λ i p a c f is low at edge.
        met' f c (so.edges i p a c f (in_front i f is) low (take-at g.start path p a at).1 edge);
    source = source';
    closed = λ a b d edge.
        ⊎_elim (λ e. done-old b (so.closed a b e edge)) (λ q. met_done q.0 a b q.1 q.2 edge) (done-cases a d);
    loops = loops';
    behind = behind';
  }

-- ---- the end

module _ (graph : List (List ℕ)) (opened : List (Option ℕ)) (path pending : List ℕ) (groups : List Group)
    (done : List Walked) (so : IsWalking graph opened path pending groups done) (empty : pending ≡ [])
    (busy : (i : ℕ) (g : Group) → slice_get groups i ≡ Some g → g.pending < length pending) where
  no_groups : (gs : List Group) → groups ≡ gs → groups ≡ []
  no_groups [] is = is
  no_groups (g ∷ gs) is =
      let waits : g.pending < length pending = busy 0 g (ap (λ xs. slice_get xs 0) is) in
      let none : length pending ≡ 0 = ap length empty in
      absurd (omega arith)

  no_path : path ≡ []
  no_path = so.none (no_groups groups refl)

  complete : (a : ℕ) → a < length graph → IsDone done a
  complete a within =
      ⊎_elim
      (λ o. ⊎_elim (λ e. absurd (none-some a (sym (ap (λ xs. slice_get xs o.0) no_path) ∙ e))) (λ d. d)
      (so.seen a o.0 o.1))
      (λ k. absurd (none-some a (sym (ap (λ xs. slice_get xs k.0) empty) ∙ k.1)))
      (so.met a within)

  module _ (k : ℕ) (w : Walked) (behind : StandsBehind graph done k w.node) where
    confined : {b c : ℕ} → LeadsTo graph b c → (j : ℕ) → j < k → StandsAt done j b →
        (i : ℕ) × (i < k) × StandsAt done i c
    confined {b} {c} (along edge) j below stands = behind.closed j b c below stands edge
    confined {b} (onward {b = next} edge rest) j below stands =
        let at = behind.closed j b next below stands edge in
        confined rest at.0 at.1 at.2

    no_return : LeadsTo graph w.node w.node → ⊥
    no_return (along edge) = let at = behind.edges w.node edge in behind.fresh at.0 at.1 at.2
    no_return (onward {b = next} edge rest) =
        let at = behind.edges next edge in
        let end = confined rest at.0 at.1 at.2 in
        behind.fresh end.0 end.1 end.2

  pub walk_ended : IsWalk graph done
  walk_ended = record {
    complete = complete;
    within = λ k a stands.
        let was = so.done a (k, stands) in
        let inside : a < length opened = slice_get_within opened a (Some was.0) was.1 in
        let same : length opened ≡ length graph = so.sized in
        omega arith;
    short = let all = so.counted in omega arith;
    loops = so.loops;
    straight = λ k w at fails. no_return k w (so.behind k w at fails);
    behind = λ k b w at fails edge. (so.behind k w at fails).edges b edge;
  }

-- ---- the beginning

unopened-none : (n : ℕ) → unopened (replicate n None) ≡ n
unopened-none zero = refl
unopened-none (suc n) = ap suc (unopened-none n)

not_opened : (n a p : ℕ) → slice_get (replicate n None) a ≡ Some (Some p) → ⊥
not_opened zero a p at = none-some (Some p) at
not_opened (suc n) zero p at = none-some p (same_Some None (Some p) at)
not_opened (suc n) (suc a) p at = not_opened n a p at

pub walk_begun : (graph : List (List ℕ)) (n : ℕ) (all : List ℕ) → n ≡ length graph →
    ((k : ℕ) → k < n → slice_get all k ≡ Some k) → length all ≡ n →
    IsWalking graph (replicate n None) [] all [] []
walk_begun graph n all same each long = record {
  sized = length-replicate n None ∙ same;
  counted = let none : unopened (replicate n None) ≡ n = unopened-none n in omega arith;
  met = λ a within. inr (a, each a (omega (arith, within, same)));
  known = λ k a at.
      let inside : k < length all = slice_get_within all k a at in
      let one : k ≡ a = same_Some k a (sym (each k (omega arith)) ∙ at) in
      omega arith;
  on_path = λ p a at. absurd (none-some a at);
  seen = λ a p at. absurd (not_opened n a p at);
  done = λ a d. absurd (none-some d.1.walked d.1.at);
  apart = λ p a at. absurd (none-some a at);
  reach = λ p q a b before at. absurd (none-some a at);
  none = λ _. refl;
  first = λ g at. absurd (none-some g at);
  inside = λ i g at. absurd (none-some g at);
  rising = λ i j g h before at. absurd (none-some g at);
  back = λ i p a b g at. absurd (none-some g at);
  edges = λ i p a b g at. absurd (none-some g at);
  source = λ i k b g at. absurd (none-some g at);
  closed = λ a b d. absurd (none-some d.1.walked d.1.at);
  loops = λ k w at. absurd (none-some w at);
  behind = λ k w at. absurd (none-some w at);
}
