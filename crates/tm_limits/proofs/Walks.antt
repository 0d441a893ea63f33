-- What a walk over a graph tells: which nodes reach themselves, and an order of all where none does.
use Rattle.std.proofs.Common.{◌≡◌, ℕ, zero, suc, ◌+◌, ◌<◌, Bool, true, false, Some, List, [], ◌∷◌, length, map, get_or, set, slice_get, refl, sym, ap, ◌∙◌, subst, arith, true≢false, inl, inr}
use Rattle.std.specs.Prelude.{◌⊎◌, ◌↔◌}
use Rattle.std.proofs.Math.ListN.{length-set}
use Rattle.std.proofs.lemmas.List.{get_or-set_same, get_or-set_other}
use Rattle.std.proofs.lemmas.Option.{same_Some, slice_get_within}
use Rattle.tm_scope.specs.declared.graph.Walked.{Walked}
use Rattle.tm_scope.specs.Graph.{HasEdge, IsWalk, LeadsTo, along, onward}
use Rattle.tm_scope.proofs.Entries.{at-map, map-at, same_or_not}
use Rattle.tm_limits.specs.Inner.Cycles.{IsMarked}
use Rattle.tm_limits.specs.Orders.{IsOrder}

-- what leads somewhere is a node of the graph
pub leads_within : (graph : List (List ℕ)) (a b : ℕ) → LeadsTo graph a b → a < length graph
leads_within graph a b (along e) = slice_get_within graph a e.edges e.of_node
leads_within graph a b (onward e rest) = slice_get_within graph a e.edges e.of_node

-- the first nodes of a walk over a graph are marked as the walk says
pub record AreMarked (graph : List (List ℕ)) (walk : List Walked) (i : ℕ) (marks : List Bool) : Type 0 where
  pub long : length marks ≡ length graph
  pub told : (k : ℕ) (w : Walked) → k < i → slice_get walk k ≡ Some w → get_or marks w.node false ≡ w.loops

pub none_marked : (graph : List (List ℕ)) (walk : List Walked) (marks : List Bool) →
    length marks ≡ length graph → AreMarked graph walk 0 marks
none_marked graph walk marks long = record { long = long; told = λ k w below. absurd (omega arith) }

-- a mark stands in the table
marked_within : (marks : List Bool) (a : ℕ) → IsMarked marks a → a < length marks
marked_within [] a e = absurd (true≢false (sym e))
marked_within (m ∷ marks) zero e = omega arith
marked_within (m ∷ marks) (suc a) e = let below = marked_within marks a e in omega (arith, below)

module _ (graph : List (List ℕ)) (walk : List Walked) (is : IsWalk graph walk) where
  -- whether a node reaches itself is one answer, wherever it stands
  one_answer : (k i : ℕ) (w v : Walked) → slice_get walk k ≡ Some w → slice_get walk i ≡ Some v →
      w.node ≡ v.node → w.loops ≡ v.loops
  one_answer k i w v at there same = by w.loops v.loops refl refl
    where
      by : (a b : Bool) → w.loops ≡ a → v.loops ≡ b → a ≡ b
      by true true e f = refl
      by true false e f =
          absurd (is.straight i v there f (subst (λ n. LeadsTo graph n n) same (is.loops k w at e)))
      by false true e f =
          absurd (is.straight k w at e (subst (λ n. LeadsTo graph n n) (sym same) (is.loops i v there f)))
      by false false e f = refl

  pub node_within : (k : ℕ) (w : Walked) → slice_get walk k ≡ Some w → w.node < length graph
  node_within k w at = is.within k w.node (record { walked = w; at = at; node = refl })

  pub marked_more : (i : ℕ) (v : Walked) (marks : List Bool) → slice_get walk i ≡ Some v →
      AreMarked graph walk i marks →
      AreMarked graph walk (i + 1) (set marks v.node v.loops)
  marked_more i v marks there so = record { long = length-set marks v.node v.loops ∙ so.long; told = told }
    where
      room : v.node < length marks
      room = let within = node_within i v there in let long = so.long in omega (arith, within, long)

      earlier : (k : ℕ) (w : Walked) → k < i + 1 → slice_get walk k ≡ Some w → (w.node ≡ v.node → ⊥) →
          (k ≡ i) ⊎ (k ≡ i → ⊥) → get_or (set marks v.node v.loops) w.node false ≡ w.loops
      earlier k w below at other (inl same) =
          absurd (other (ap (λ (u : Walked). u.node) (same_Some w v (sym at ∙ ap (slice_get walk) same ∙ there))))
      earlier k w below at other (inr apart) =
          let less : k < i = omega (arith, apart) in
          get_or-set_other marks v.node w.node v.loops false other ∙ so.told k w less at

      by : (k : ℕ) (w : Walked) → k < i + 1 → slice_get walk k ≡ Some w →
          (w.node ≡ v.node) ⊎ (w.node ≡ v.node → ⊥) → get_or (set marks v.node v.loops) w.node false ≡ w.loops
      by k w below at (inl same) =
          ap (λ n. get_or (set marks v.node v.loops) n false) same
          ∙ get_or-set_same marks v.node v.loops false room ∙ one_answer i k v w there at (sym same)
      by k w below at (inr other) = earlier k w below at other (same_or_not k i)

      told : (k : ℕ) (w : Walked) → k < i + 1 → slice_get walk k ≡ Some w →
          get_or (set marks v.node v.loops) w.node false ≡ w.loops
      told k w below at = by k w below at (same_or_not w.node v.node)

  -- in the end they are those that reach themselves
  pub marks_tell : (marks : List Bool) → AreMarked graph walk (length walk) marks → (a : ℕ) →
      IsMarked marks a ↔ LeadsTo graph a a
  marks_tell marks so a = (λ e. leads e, λ leads. marked leads)
    where
      told_at : a < length graph → (w : Walked) × (w.node ≡ a) × (get_or marks a false ≡ w.loops)
          × ((k : ℕ) × (slice_get walk k ≡ Some w))
      told_at within =
          let found = is.complete a within in
          let stands = found.1 in
          let w = stands.walked in (
            w,
            stands.node,
            ap (λ n. get_or marks n false) (sym stands.node)
                ∙ so.told found.0 w (slice_get_within walk found.0 w stands.at) stands.at,
            (found.0, stands.at),
          )

      leads : IsMarked marks a → LeadsTo graph a a
      leads e =
          let within : a < length graph =
          let long = so.long in let inside = marked_within marks a e in omega (arith, long, inside) in
          let w = told_at within in
          subst (λ n. LeadsTo graph n n) w.1 (is.loops w.3.0 w.0 w.3.1 (sym w.2 ∙ e))

      marked : LeadsTo graph a a → IsMarked marks a
      marked leads =
          let w = told_at (leads_within graph a a leads) in
          w.2 ∙ loops_of w.0 w.1 w.3.0 w.3.1
        where
          loops_of : (w : Walked) → w.node ≡ a → (k : ℕ) → slice_get walk k ≡ Some w → w.loops ≡ true
          loops_of w node k at = by w.loops refl
            where
              by : (b : Bool) → w.loops ≡ b → b ≡ true
              by true e = refl
              by false e = absurd (is.straight k w at e (subst (λ n. LeadsTo graph n n) (sym node) leads))

  module _ (acyclic : (a : ℕ) → ¬ LeadsTo graph a a) where
    straight : (k : ℕ) (w : Walked) → slice_get walk k ≡ Some w → w.loops ≡ false
    straight k w at = by w.loops refl
      where
        by : (b : Bool) → w.loops ≡ b → b ≡ false
        by true e = absurd (acyclic w.node (is.loops k w at e))
        by false e = refl

    -- where no node reaches itself, each stands behind all to which it leads
    pub walk_order : IsOrder graph (map (λ (w : Walked). w.node) walk)
    walk_order = record { behind = behind; below = below }
      where
        behind : (k a b : ℕ) → slice_get (map (λ (w : Walked). w.node) walk) k ≡ Some a → HasEdge graph a b →
            (j : ℕ) × (j < k) × (slice_get (map (λ (w : Walked). w.node) walk) j ≡ Some b)
        behind k a b at edge =
            let from = map-at (λ (w : Walked). w.node) walk k a at in
            let found = is.behind k b from.0 from.1 (straight k from.0 from.1)
            (subst (λ n. HasEdge graph n b) (sym from.2) edge) in (
              found.0,
              found.1,
              at-map (λ (w : Walked). w.node) walk found.0 found.2.walked found.2.at
                  ∙ ap Some found.2.node,
            )

        below : (k a : ℕ) → slice_get (map (λ (w : Walked). w.node) walk) k ≡ Some a → a < length graph
        below k a at =
            let from = map-at (λ (w : Walked). w.node) walk k a at in
            subst (λ n. n < length graph) from.2 (node_within k from.0 from.1)

  -- the order has all nodes
  pub walk_covers : (a : ℕ) → a < length graph →
      (k : ℕ) × (slice_get (map (λ (w : Walked). w.node) walk) k ≡ Some a)
  walk_covers a within =
      let found = is.complete a within in
      (found.0, at-map (λ (w : Walked). w.node) walk found.0 found.1.walked found.1.at ∙ ap Some found.1.node)
