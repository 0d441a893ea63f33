-- The steps of a walk of locations.
use Rattle.std.proofs.Common.{◌≡◌, ℕ, suc, Bool, List, [], ◌∷◌, ◌++◌, length, map, refl, sym, ap, ◌∙◌, subst}
use Rattle.std.proofs.lemmas.List.{map-append}
use Rattle.tm_base.specs.declared.place.Place.{Place}
use Rattle.tm_syntax.specs.Tree.{StmtTree, row_of, stmts_of}
use Rattle.tm_syntax.specs.Design.{DesignTree}
use Rattle.tm_syntax.specs.Design.Locations.{Location}
use Rattle.tm_syntax.specs.Design.Scope.{Scope}
use Rattle.tm_syntax.specs.Design.Work.{WorkItem, perform, performs}
use Rattle.indexmap.specs.IndexSet.{insert_key}
use Rattle.std.specs.List.{position_or_len}
use Rattle.tm_scope.proofs.Entries.{at-end}
use Rattle.tm_scope.specs.Cells.{scope_of}
use Rattle.tm_locations.specs.Locations.{IsTrail, IsRest, same_node, work_before, work_stmts}
use Rattle.tm_locations.specs.Inner.Walks.{WalkTables, IsGrown, IsWalking, IsWork, Settles, part_locations}
use Rattle.tm_locations.specs.declared.table.RestNode.{RestNode}
use Rattle.tm_locations.specs.declared.table.TrailNode.{TrailNode}
use Rattle.tm_locations.specs.declared.walk.Frame.{Frame}
use Rattle.tm_locations.specs.declared.walk.Row.{Row}
use Rattle.tm_locations.specs.declared.walk.Todo.{Todo}
use Rattle.tm_locations.proofs.Trails.{trail-added, trail-kept}
use Rattle.tm_locations.proofs.WalkTables.{append-nil, rest-kept, rest-kept-trails, walking-grows, walking-leave, walking-note}

pub stmts-row : (ss : List StmtTree) → stmts_of (row_of ss) ≡ ss
stmts-row [] = refl
stmts-row (s ∷ ss) = ap (λ ts. s ∷ ts) (stmts-row ss)

pub performs-row : (scope : Scope) (trail : List Place) (ss : List StmtTree) →
    map (perform scope trail) ss ≡ performs scope trail (row_of ss)
performs-row scope trail ss = ap (map (perform scope trail)) (sym (stmts-row ss))

-- the items of a body are those of its locals, and behind them those of its statements
pub items-body : (scope : Scope) (locals stmts : List StmtTree) →
    map (perform scope []) locals ++ (map (perform scope []) stmts ++ []) ≡ map (perform scope []) (locals ++ stmts)
items-body scope locals stmts =
    ap (λ items. map (perform scope []) locals ++ items) (append-nil (map (perform scope []) stmts))
    ∙ sym (map-append (perform scope []) locals stmts)

-- one more node of what is left
module _ (w v : WalkTables) (n : RestNode) (is : v ≡ record w { rests = w.rests ++ n ∷ [] }) where
  pub grown-rest : IsGrown w v
  grown-rest = subst (λ v. IsGrown w v) (sym is) (record {
    rows = refl;
    todo = refl;
    trails = λ k trail t. t;
    rests = λ k items r. rest-kept w.trails w.rests n r;
  })

  pub rest-pushed : (number : ℕ) → number ≡ suc (length w.rests) → (trail : List Place) (items : List WorkItem) →
      IsTrail w.trails n.trail trail → IsRest w.trails w.rests n.then items →
      IsRest v.trails v.rests number (map (perform (scope_of n.scope) trail) (work_stmts n.work) ++ items)
  rest-pushed number count trail items is_trail is_rest =
      subst (λ v. IsRest v.trails v.rests number
      (map (perform (scope_of n.scope) trail) (work_stmts n.work) ++ items)) (sym is)
      (subst (λ k. IsRest w.trails (w.rests ++ n ∷ []) k
      (map (perform (scope_of n.scope) trail) (work_stmts n.work) ++ items)) (sym count)
      (work_before (at-end w.rests n) is_trail (rest-kept w.trails w.rests n is_rest)))

-- one more call
module _ (w v : WalkTables) (n : TrailNode) (is : v ≡ record w { trails = insert_key same_node w.trails n }) where
  pub grown-trail : IsGrown w v
  grown-trail = subst (λ v. IsGrown w v) (sym is) (record {
    rows = refl;
    todo = refl;
    trails = λ k trail t. trail-kept w.trails n t;
    rests = λ k items r. rest-kept-trails w.trails (insert_key same_node w.trails n) w.rests
        (λ k trail t. trail-kept w.trails n t) r;
  })

  pub trail-pushed : (number : ℕ) → number ≡ suc (position_or_len (same_node n) w.trails) → (before : List Place) →
      IsTrail w.trails n.then before → IsTrail v.trails number (n.at ∷ before)
  trail-pushed number count before is_trail =
      subst (λ v. IsTrail v.trails number (n.at ∷ before)) (sym is)
      (subst (λ k. IsTrail (insert_key same_node w.trails n) k (n.at ∷ before)) (sym count)
      (trail-added w.trails n before is_trail))

-- tables that have not changed
pub grown-same : (w v : WalkTables) → v ≡ w → IsGrown w v
grown-same w v is = subst (λ v. IsGrown w v) (sym is) (record {
  rows = refl;
  todo = refl;
  trails = λ k trail t. t;
  rests = λ k items r. r;
})

module _ (d : DesignTree) where
  -- tables that differ in what is to be walked alone
  trail-left : (w v : WalkTables) (t : Todo) → v ≡ record w { todo = w.todo ++ t ∷ [] } → {k : ℕ} {trail : List Place} →
      IsTrail w.trails k trail → IsTrail v.trails k trail
  trail-left w v t is {k} {trail} it = subst (λ (v : WalkTables). IsTrail v.trails k trail) (sym is) it

  rest-left : (w v : WalkTables) (t : Todo) → v ≡ record w { todo = w.todo ++ t ∷ [] } → {k : ℕ}
      {items : List WorkItem} → IsRest w.trails w.rests k items → IsRest v.trails v.rests k items
  rest-left w v t is {k} {items} it = subst (λ (v : WalkTables). IsRest v.trails v.rests k items) (sym is) it

  -- a part without locations
  pub settles-none : (w v : WalkTables) (frame : Frame) (after : ℕ)
      (locations : List Place → List WorkItem → List Location) →
      v ≡ w → ((trail : List Place) (items : List WorkItem) → locations trail items ≡ []) →
      Settles d w v frame after locations
  settles-none w v frame after locations same none = λ trail items all it ir deep walking.
      subst (λ v. IsWalking d v [] all) (sym same)
      (subst (λ next. IsWalking d w next all) (none trail items) walking)

  -- a part that is left for later
  pub settles-left : (w v : WalkTables) (frame : Frame) (row : Row) (after : ℕ) →
      v ≡ record w { todo = w.todo ++ record { frame = frame; row = row; after = after } ∷ [] } →
      Settles d w v frame after (part_locations d frame row)
  settles-left w v frame row after is = λ trail items all it ir deep walking.
      walking-leave d w v (record { frame = frame; row = row; after = after }) []
      (part_locations d frame row trail items) all is
      (record { trail = trail; items = items; is_trail = it; is_rest = ir; deep = deep; are = refl }) walking

  -- one part before another one, which was left for later first
  pub settles-two : (w u v : WalkTables) (frame : Frame) (row : Row) (after : ℕ)
      (first : List Place → List WorkItem → List Location) →
      u ≡ record w { todo = w.todo ++ record { frame = frame; row = row; after = after } ∷ [] } →
      Settles d u v frame after first →
      Settles d w v frame after (λ trail items. first trail items ++ part_locations d frame row trail items)
  settles-two w u v frame row after first is inner = λ trail items all it ir deep walking.
      let t : Todo = record { frame = frame; row = row; after = after } in
      inner trail items all (trail-left w u t is it) (rest-left w u t is ir) deep
      (walking-leave d w u t (first trail items) (part_locations d frame row trail items) all is
      (record { trail = trail; items = items; is_trail = it; is_rest = ir; deep = deep; are = refl }) walking)

  -- a part behind which other work is left first
  pub settles-behind : (w u v : WalkTables) (frame : Frame) (after number : ℕ)
      (work : List Place → List WorkItem → List WorkItem) (locations : List Place → List WorkItem → List Location) →
      IsGrown w u → IsWork w u frame after number work → Settles d u v frame number locations →
      Settles d w v frame after (λ trail items. locations trail (work trail items))
  settles-behind w u v frame after number work locations grown is_work inner = λ trail items all it ir deep walking.
      inner trail (work trail items) all (grown.trails frame.trail trail it) (is_work trail items it ir) deep
      (walking-grows d w u grown (locations trail (work trail items)) all walking)

  -- a location
  pub settles-note : (w v : WalkTables) (frame : Frame) (after : ℕ) (at : Place) (is_magic : Bool) →
      v ≡ record w {
        rows = w.rows ++ record { at = at; trail = frame.trail; is_magic = is_magic; rest = after } ∷ [];
      } →
      Settles d w v frame after
      (λ trail items. record { at = at; trail = trail; is_magic = is_magic; rest = items } ∷ [])
  settles-note w v frame after at is_magic is = λ trail items all it ir deep walking.
      walking-note d w v (record { at = at; trail = frame.trail; is_magic = is_magic; rest = after })
      (record { at = at; trail = trail; is_magic = is_magic; rest = items }) [] all is
      (record { at = refl; is_magic = refl; trail = it; rest = ir }) walking
