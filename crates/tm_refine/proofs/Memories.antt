-- Parts of sets that are remembered, after a call and after one more part.
use Rattle.std.proofs.Common.{◌≡◌, Bool, ℕ, List, Some, refl, sym, ap, ◌∙◌, subst}
use Rattle.std.proofs.Math.Logic.{∥∥₁_elim}
use Rattle.std.proofs.Props.{props}
use Rattle.std.specs.HashMap.{IsEmpty, IsUnchanged, Updates}
use Rattle.std.specs.Map.{lookup}
use Rattle.std.proofs.lemmas.Option.{none-some, same_Some}
use Rattle.tm_abs.proofs.Kept.{cells_kept}
use Rattle.tm_abs.specs.Cells.{AreCells}
use Rattle.tm_abs.specs.declared.cells.Cells.{Cells}
use Rattle.tm_dd.specs.declared.node.NodeId.{NodeId}
use Rattle.tm_ddops.specs.Inner.Found.{found_at, id_eq}
use Rattle.tm_ddops.proofs.FoundLemmas.{found_insert, found_unchanged}
use Rattle.tm_game.specs.Game.{GameData}
use Rattle.tm_refine.specs.declared.memory.Memory.{Memory}
use Rattle.tm_refine.specs.Memory.{AreParts, ArePartsOver, IsOver, IsPart, Remembers}
use Rattle.tm_refine.specs.Pooled.{Keeps, pool_ids, tests_of}
use Rattle.tm_refine.specs.Sided.{side_part}
use Rattle.tm_solve.specs.Game.{Game}
use Rattle.tm_solve.specs.Ids.{Is}
use Rattle.tm_solve.specs.Sets.{StateSet}
use Rattle.tm_solve.proofs.Following.{is_kept}
use Rattle.tm_solve_exact.specs.Exact.{IsStateSet, exact_game, set_of}
use Rattle.tm_solve_exact.proofs.Truncated.{set_prop}

-- what an id means is a fact
pub is_prop : (g h : GameData) (set : StateSet) (id : NodeId) → IsProp (Is (exact_game g).states (pool_ids h) id set)
is_prop g h set id = hlevel (set_prop, props)

-- ---- after a call
module _ (g h : GameData) (kept : Keeps g h) where
  -- an id that the call has made for a part of a set is that of its part
  part_made : (ks : List ℕ) (upper : Bool) (set part : NodeId) → IsStateSet g set →
      Is (exact_game g).states (pool_ids h) part
      (side_part upper (exact_game g).states (tests_of g ks) (set_of g set)) → IsPart h ks upper set part
  part_made ks upper set part known is = record {
    known = kept.follows.extends.known set known;
    is = subst (λ (x : StateSet). Is (exact_game h).states (pool_ids h) part
        (side_part upper (exact_game h).states (tests_of h ks) x)) (sym (kept.follows.extends.same set known))
        (subst (λ ts. Is (exact_game h).states (pool_ids h) part (side_part upper (exact_game h).states (ts ks)
        (set_of g set))) (sym kept.tests)
        (subst (λ (q : Game). Is q.states (pool_ids h) part (side_part upper q.states (tests_of g ks)
        (set_of g set))) (sym kept.follows.game) is));
  }

  parts_kept : (m : Memory) → AreParts g m → AreParts h m
  parts_kept m are c is =
      let were = are c is in (
        cells_kept g h kept.grows c were.0,
        λ set part at.
            let was = were.1 set part at in
            part_made c.tracked.items m.upper set part was.known (is_kept kept.follows.extends was.is),
      )

  pub memory_kept : (m : Memory) → Remembers g m → Remembers h m
  memory_kept m before = ∥∥₁_elim before (squash₁) (λ are. ∣ parts_kept m are ∣₁)

  -- a part that is found after the call is one of the game before
  pub part_before : (k : GameData) (ks : List ℕ) (upper : Bool) (set part : NodeId) → IsStateSet g set →
      Is (exact_game h).states (pool_ids k) part
      (side_part upper (exact_game h).states (tests_of h ks) (set_of h set)) →
      Is (exact_game g).states (pool_ids k) part
      (side_part upper (exact_game g).states (tests_of g ks) (set_of g set))
  part_before k ks upper set part known is =
      subst (λ (x : StateSet). Is (exact_game g).states (pool_ids k) part
      (side_part upper (exact_game g).states (tests_of g ks) x)) (kept.follows.extends.same set known)
      (subst (λ ts. Is (exact_game g).states (pool_ids k) part (side_part upper (exact_game g).states (ts ks)
      (set_of h set))) kept.tests
      (subst (λ (q : Game). Is q.states (pool_ids k) part (side_part upper q.states (tests_of h ks)
      (set_of h set))) kept.follows.game is))

  -- none is noted
  pub memory_unchanged : (m n : Memory) → n.cells ≡ m.cells → n.upper ≡ m.upper → IsUnchanged m.parts n.parts →
      Remembers g m → Remembers h n
  memory_unchanged m n same_cells same_side unchanged before =
      ∥∥₁_elim before (squash₁)
      (λ are.
      ∣ (λ c is.
      let were = parts_kept m are c (sym same_cells ∙ is) in (
        were.0,
        subst (λ (u : Bool). ArePartsOver h c.tracked.items u n.parts) (sym same_side)
            (found_unchanged (λ s r. IsPart h c.tracked.items m.upper s r) m.parts n.parts were.1 unchanged),
      )) ∣₁)

  -- a part is noted that the call has made
  module _ (m n : Memory) (same_cells : n.cells ≡ m.cells) (same_side : n.upper ≡ m.upper) (set part : NodeId)
      (known : IsStateSet g set)
      (made : (ks : List ℕ) (upper : Bool) → IsOver g m ks upper →
      Is (exact_game g).states (pool_ids h) part
      (side_part upper (exact_game g).states (tests_of g ks) (set_of g set)))
      (updates : Updates id_eq m.parts n.parts set (Some part)) where
    noted : AreParts g m → AreParts h n
    noted are c is =
        let there = sym same_cells ∙ is in
        let were = parts_kept m are c there in
        let ks = c.tracked.items in (
          were.0,
          subst (λ (u : Bool). ArePartsOver h ks u n.parts) (sym same_side)
              (found_insert (λ s r. IsPart h ks m.upper s r) m.parts n.parts were.1 set part updates
              (part_made ks m.upper set part known (made ks m.upper (c, there, refl, refl)))),
        )

    pub noted_kept : Remembers g m → Remembers h n
    noted_kept before = ∥∥₁_elim before (squash₁) (λ are. ∣ noted are ∣₁)

-- ---- over the cells that a memory has
module _ (g h : GameData) (m : Memory) (a : StateSet) (part : NodeId) where
  -- a part over these is one over the predicates whose cells they are
  over_part : (ks : List ℕ) (upper : Bool) (over : IsOver g m ks upper) →
      Is (exact_game g).states (pool_ids h) part
      (side_part m.upper (exact_game g).states (tests_of g over.0.tracked.items) a) →
      Is (exact_game g).states (pool_ids h) part (side_part upper (exact_game g).states (tests_of g ks) a)
  over_part ks upper over is =
      subst (λ (u : Bool). Is (exact_game g).states (pool_ids h) part
      (side_part u (exact_game g).states (tests_of g ks) a)) over.3
      (subst (λ (ts : List StateSet). Is (exact_game g).states (pool_ids h) part
      (side_part m.upper (exact_game g).states ts a)) over.2 is)

  pub part_over_cells : (c : Cells) → m.cells ≡ Some c →
      Is (exact_game g).states (pool_ids h) part
      (side_part m.upper (exact_game g).states (tests_of g c.tracked.items) a) → (ks : List ℕ) (upper : Bool) →
      IsOver g m ks upper →
      Is (exact_game g).states (pool_ids h) part (side_part upper (exact_game g).states (tests_of g ks) a)
  part_over_cells c there is ks upper over =
      over_part ks upper over
      (subst (λ (x : Cells). Is (exact_game g).states (pool_ids h) part
      (side_part m.upper (exact_game g).states (tests_of g x.tracked.items) a))
      (same_Some c over.0 (sym there ∙ over.1)) is)

-- what is recalled is a part
pub recalled : (g : GameData) (m : Memory) (ks : List ℕ) (upper : Bool) (set part : NodeId) →
    found_at m.parts set ≡ Some part → IsOver g m ks upper → AreParts g m →
    Is (exact_game g).states (pool_ids g) part
    (side_part upper (exact_game g).states (tests_of g ks) (set_of g set))
recalled g m ks upper set part at over are =
    over_part g g m (set_of g set) part ks upper over ((are over.0 over.1).1 set part at).is

-- a memory of cells, before any part is noted
pub none_noted : (g : GameData) (m : Memory) (cells : Cells) → m.cells ≡ Some cells → AreCells g cells →
    IsEmpty m.parts → AreParts g m
none_noted g m cells there are empty c is = (
  subst (AreCells g) (same_Some cells c (sym there ∙ is)) are,
  λ set part at. absurd (none-some part (sym (ap (lookup (id_eq set)) empty) ∙ at)),
)
