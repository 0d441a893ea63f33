-- What holds of a game along calls that make terms and diagrams.
use Rattle.std.proofs.Common.{ℕ, ◌+◌, ◌^◌, ◌<◌, ◌≤◌, ◌&&◌, ◌||◌, ◌≡◌, Bool, List, Some, length, get_or, map, sym, ap}
use Rattle.std.proofs.Common.{◌∙◌, subst}
use Rattle.std.specs.Prelude.{All, Contains, slice_get, if◌then◌else◌}
use Rattle.std.proofs.lemmas.Option.{get_or_from_slice_get}
use Rattle.tm_check.specs.declared.terms.Reading.{Reading}
use Rattle.tm_check.specs.Reading.{CanRead}
use Rattle.tm_check.specs.Reads.{IsSized, Reads}
use Rattle.tm_dd.specs.declared.node.NodeId.{NodeId}
use Rattle.tm_dd.specs.Reduced.{Extends}
use Rattle.tm_dd.specs.Table.{Knows, Table, means}
use Rattle.tm_dd.proofs.CallerLaws.{Extends-trans}
use Rattle.tm_ddops.specs.Manager.{IsFunction}
use Rattle.tm_ddops.specs.Operation.{substituted}
use Rattle.tm_ddops.proofs.Results.{substituted-Extends}
use Rattle.tm_game.specs.Game.{GameData, Grows}
use Rattle.tm_game.proofs.Growing.{of_kept, order_kept}
use Rattle.tm_syntax.specs.Design.{DesignTree}

-- values of levels where parts stand in their places
pub substituted_kept : (s t : Table) → Extends s t → (parts : List (ℕ × NodeId)) →
    ((f : NodeId) → Contains (map (λ p. p.1) parts) f → Knows s f) → (v : ℕ → Bool) →
    substituted t parts v ≡ substituted s parts v
substituted_kept s t e parts known v = λ i level. substituted-Extends s t e parts known v level i

-- ---- expressions can still be read
pub sized_kept : (g h : GameData) → Grows g h → IsSized g → IsSized h
sized_kept g h grows is = record {
  order = order_kept g h grows is.order;
  inputs = subst (λ (ws : List ℕ). length ws < 2 ^ 32) (sym grows.terms.inputs) is.inputs;
  wide = subst (λ (ws : List ℕ). All (λ w. w ≤ 64) ws) (sym grows.terms.inputs) is.wide;
  levels = subst (λ (o : List ℕ). length o + 128 < 2 ^ 32) (sym grows.order) is.levels;
}

pub reads_kept : (d : DesignTree) (g h : GameData) (r : Reading) → Grows g h → Reads d g r → Reads d h r
reads_kept d g h r grows is = record {
  of = of_kept g h grows d is.of;
  sized = sized_kept g h grows is.sized;
  vars = is.vars;
  processes = is.processes;
}

pub can_read : (g h : GameData) (r : Reading) → Grows g h → CanRead g.terms.inputs r → CanRead h.terms.inputs r
can_read g h r grows can = subst (λ (ws : List ℕ). CanRead ws r) (sym grows.terms.inputs) can

-- ---- operations on what was there before
module _ (s t : Table) (e : Extends s t) (f g id : NodeId) (knows_f : Knows s f) (knows_g : Knows s g) where
  pub and_before : IsFunction t id (λ v. means t f v && means t g v) →
      IsFunction t id (λ v. means s f v && means s g v)
  and_before is = record {
    known = is.known;
    meaning = λ v. is.meaning v ∙ (λ i. e.same_meaning f knows_f v i && e.same_meaning g knows_g v i);
  }

  pub or_before : IsFunction t id (λ v. means t f v || means t g v) →
      IsFunction t id (λ v. means s f v || means s g v)
  or_before is = record {
    known = is.known;
    meaning = λ v. is.meaning v ∙ (λ i. e.same_meaning f knows_f v i || e.same_meaning g knows_g v i);
  }

  pub ite_before : (test : NodeId) → Knows s test →
      IsFunction t id (λ v. if means t test v then means t f v else means t g v) →
      IsFunction t id (λ v. if means s test v then means s f v else means s g v)
  ite_before test known is = record {
    known = is.known;
    meaning = λ v.
        is.meaning v
        ∙ (λ i. if e.same_meaning test known v i then e.same_meaning f knows_f v i
        else e.same_meaning g knows_g v i);
  }

pub compose_before : (s t : Table) → Extends s t → (f id : NodeId) (parts : List (ℕ × NodeId)) → Knows s f →
    ((x : NodeId) → Contains (map (λ p. p.1) parts) x → Knows s x) →
    IsFunction t id (λ v. means t f (substituted t parts v)) → IsFunction t id (λ v. means s f (substituted s parts v))
compose_before s t e f id parts knows_f known is = record {
  known = is.known;
  meaning = λ v.
      is.meaning v
      ∙ e.same_meaning f knows_f (substituted t parts v)
      ∙ ap (means s f) (substituted_kept s t e parts known v);
}

-- a choice between two of some ids, whose places are given
pub test_before : (s t : Table) → Extends s t → (ids : List NodeId) (j k : ℕ) (d e test id one other : NodeId) →
    Knows s test → All (Knows s) ids → j < length ids → k < length ids → slice_get ids j ≡ Some one →
    slice_get ids k ≡ Some other →
    IsFunction t id (λ v. if means t test v then means t (get_or ids j d) v else means t (get_or ids k e) v) →
    IsFunction t id (λ v. if means s test v then means s one v else means s other v)
test_before s t ext ids j k d e test id one other known all first second one_is other_is is =
    subst (λ (y : NodeId). IsFunction t id (λ v. if means s test v then means s one v else means s y v))
    (get_or_from_slice_get ids k other e other_is)
    (subst (λ (x : NodeId).
    IsFunction t id (λ v. if means s test v then means s x v else means s (get_or ids k e) v))
    (get_or_from_slice_get ids j one d one_is)
    (ite_before s t ext (get_or ids j d) (get_or ids k e) id (all j d first) (all k e second) test known is))

-- the move of a place among some, with its arguments, where these fit
pub move_before : (s t u : Table) → Extends s t → Extends t u → (moves : List NodeId) (k : ℕ)
    (d move fits given id : NodeId) (own parts : List (ℕ × NodeId)) → own ≡ parts → All (Knows s) moves →
    k < length moves → Knows s fits → ((x : NodeId) → Contains (map (λ p. p.1) parts) x → Knows s x) →
    slice_get moves k ≡ Some move → IsFunction t given (λ v. means t (get_or moves k d) (substituted t own v)) →
    IsFunction u id (λ v. means u given v && means u fits v) →
    IsFunction u id (λ v. means s move (substituted s parts v) && means s fits v)
move_before s t u e f moves k d move fits given id own parts same all below fits_known known there given_is is =
    let before = compose_before s t e (get_or moves k d) given parts (all k d below) known
    (subst (λ (ps : List (ℕ × NodeId)). IsFunction t given (λ v. means t (get_or moves k d) (substituted t ps v))) same
    given_is) in
    subst (λ (x : NodeId). IsFunction u id (λ v. means s x (substituted s parts v) && means s fits v))
    (get_or_from_slice_get moves k move d there)
    (record {
      known = is.known;
      meaning = λ v.
          is.meaning v
          ∙ (λ i. (f.same_meaning given before.known v ∙ before.meaning v) i
          && (Extends-trans s t u e f).same_meaning fits fits_known v i);
    })
