-- What the calls of a side leave.
use Rattle.std.proofs.Common.{◌≡◌, ℕ, Bool, true, false, ◌||◌, ◌&&◌, not, List, refl, sym, ap, ◌∙◌, subst}
use Rattle.tm_dd.specs.declared.node.NodeId.{NodeId}
use Rattle.tm_sem.specs.State.{StateData}
use Rattle.tm_solve.specs.Sets.{StateSet, IsSame, IsWithin, everywhere}
use Rattle.tm_solve.specs.Game.{Game}
use Rattle.tm_solve.specs.Ids.{Ids, Is, IsExact, Follows, Side}
use Rattle.tm_refine.specs.Parts.{IsUnionOf}
use Rattle.tm_refine.specs.Sided.{side_part, side_game, side_ids}
use Rattle.tm_refine.specs.PartLaws.{lower_union, upper_union, lower_rises, upper_rises}
use Rattle.tm_solve.proofs.Sets.{both_same, same_within, same_back, same_then}

-- unions of cells
pub same_union : (n : List StateData) (ps : List StateSet) (a b : StateSet) → IsSame n a b → IsUnionOf n ps b →
    IsUnionOf n ps a
same_union n ps a b e u = record {
  same = λ s t in_s in_t like. e.same s in_s ∙ u.same s t in_s in_t like ∙ sym (e.same t in_t);
}

pub whole_union : (n : List StateData) (ps : List StateSet) → IsUnionOf n ps everywhere
whole_union n ps = record { same = λ s t in_s in_t like. refl }

pub either_union : (n : List StateData) (ps : List StateSet) (a b : StateSet) → IsUnionOf n ps a → IsUnionOf n ps b →
    IsUnionOf n ps (λ s. a s || b s)
either_union n ps a b u v = record {
  same = λ s t in_s in_t like. ap (λ (x : Bool). x || b s) (u.same s t in_s in_t like)
      ∙ ap (λ (x : Bool). a t || x) (v.same s t in_s in_t like);
}

pub both_union : (n : List StateData) (ps : List StateSet) (a b : StateSet) → IsUnionOf n ps a → IsUnionOf n ps b →
    IsUnionOf n ps (λ s. a s && b s)
both_union n ps a b u v = record {
  same = λ s t in_s in_t like. ap (λ (x : Bool). x && b s) (u.same s t in_s in_t like)
      ∙ ap (λ (x : Bool). a t && x) (v.same s t in_s in_t like);
}

pub rest_union : (n : List StateData) (ps : List StateSet) (a b : StateSet) → IsUnionOf n ps a → IsUnionOf n ps b →
    IsUnionOf n ps (λ s. a s && not (b s))
rest_union n ps a b u v = record {
  same = λ s t in_s in_t like. ap (λ (x : Bool). x && not (b s)) (u.same s t in_s in_t like)
      ∙ ap (λ (x : Bool). a t && not x) (v.same s t in_s in_t like);
}

pub side_union : (upper : Bool) (n : List StateData) (ps : List StateSet) (a : StateSet) →
    IsUnionOf n ps (side_part upper n ps a)
side_union true n ps a = upper_union n ps a
side_union false n ps a = lower_union n ps a

-- an id of a set that is a union is known to the side
pub is_sided : (upper : Bool) (ks : List ℕ) (T T' : List ℕ → List StateSet) (g g' : Game) (b : Ids)
    (id : NodeId) (a : StateSet) →
    T' ≡ T → g' ≡ g → Is g.states b id a → IsUnionOf g.states (T ks) a →
    Is g.states (side_ids upper ks (T' ks) g' b) id a
is_sided upper ks T T' g g' b id a tests game is union = record {
  known = (
    is.known,
    subst (λ (h : Game). IsUnionOf h.states (T' ks) (b.means id)) (sym game)
        (subst (λ (t : List ℕ → List StateSet). IsUnionOf g.states (t ks) (b.means id)) (sym tests)
        (same_union g.states (T ks) (b.means id) a is.means union)),
  );
  means = is.means;
}

-- what follows for the game follows for the side
pub sided_follows : (upper : Bool) (ks : List ℕ) (T T' : List ℕ → List StateSet) (g g' : Game) (a b : Ids) → T' ≡ T →
    Follows g a g' b →
    Follows (side_game upper (T ks) g) (side_ids upper ks (T ks) g a) (side_game upper (T' ks) g')
    (side_ids upper ks (T' ks) g' b)
sided_follows upper ks T T' g g' a b tests f = record {
  game = ap (λ (t : List ℕ → List StateSet). side_game upper (t ks) g') tests
      ∙ ap (λ (h : Game). side_game upper (T ks) h) f.game;
  extends = record {
    known = λ id known. (
      f.extends.known id known.0,
      subst (λ (h : Game). IsUnionOf h.states (T' ks) (b.means id)) (sym f.game)
          (subst (λ (t : List ℕ → List StateSet). IsUnionOf g.states (t ks) (b.means id)) (sym tests)
          (subst (λ (m : StateSet). IsUnionOf g.states (T ks) m) (sym (f.extends.same id known.0)) known.1)),
    );
    same = λ id known. f.extends.same id known.0;
    kept = λ id known. (f.extends.known id known, f.extends.same id known);
    of = f.extends.of;
    side = ap (λ (h : Game). let x : Side = record { tracked = ks; upper = upper; game = h } in x) f.game;
  };
  exact = record { equal = λ x y in_x in_y same. f.exact.equal x y in_x.0 in_y.0 same };
}

pub sided_exact : (upper : Bool) (ks : List ℕ) (ps : List StateSet) (g : Game) (b : Ids) → IsExact g.states b →
    IsExact (side_game upper ps g).states (side_ids upper ks ps g b)
sided_exact upper ks ps g b e = record { equal = λ x y in_x in_y same. e.equal x y in_x.0 in_y.0 same }

-- parts of one set
part_within : (upper : Bool) (n : List StateData) (ps : List StateSet) (a b : StateSet) → IsWithin n a b →
    IsWithin n (side_part upper n ps a) (side_part upper n ps b)
part_within true n ps a b w = upper_rises n ps a b w
part_within false n ps a b w = lower_rises n ps a b w

pub side_same : (upper : Bool) (n : List StateData) (ps : List StateSet) (a b : StateSet) → IsSame n a b →
    IsSame n (side_part upper n ps a) (side_part upper n ps b)
side_same upper n ps a b e =
    both_same (part_within upper n ps a b (same_within e)) (part_within upper n ps b a (same_within (same_back e)))

pub part_sided : (upper : Bool) (ks rs : List ℕ) (T0 T1 T2 : List ℕ → List StateSet) (g0 g1 g2 : Game) (b1 b2 : Ids)
    (e id : NodeId) (c : StateSet) → T1 ≡ T0 → T2 ≡ T1 → g1 ≡ g0 → g2 ≡ g1 → rs ≡ ks → Is g0.states b1 e c →
    Is g1.states b2 id (side_part upper g1.states (T1 rs) (b1.means e)) →
    Is g0.states (side_ids upper ks (T2 ks) g2 b2) id (side_part upper g0.states (T0 ks) c)
part_sided upper ks rs T0 T1 T2 g0 g1 g2 b1 b2 e id c tests tests' game game' same is made =
    is_sided upper ks T0 T2 g0 g2 b2 id (side_part upper g0.states (T0 ks) c) (tests' ∙ tests) (game' ∙ game)
    (record {
      known = at.known;
      means = same_then at.means (side_same upper g0.states (T0 ks) (b1.means e) c is.means);
    })
    (side_union upper g0.states (T0 ks) c)
  where
    at : Is g0.states b2 id (side_part upper g0.states (T0 ks) (b1.means e))
    at = subst (λ (h : Game). Is h.states b2 id (side_part upper h.states (T0 ks) (b1.means e))) game
        (subst (λ (t : List ℕ → List StateSet).
        Is g1.states b2 id (side_part upper g1.states (t ks) (b1.means e))) tests
        (subst (λ (l : List ℕ). Is g1.states b2 id (side_part upper g1.states (T1 l) (b1.means e))) same made))
