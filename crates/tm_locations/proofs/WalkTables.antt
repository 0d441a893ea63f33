-- What the tables of a walk mean stays as they grow, and what is owed is found from its end.
use Rattle.std.proofs.Common.{◌≡◌, ℕ, List, [], ◌∷◌, ◌++◌, refl, sym, ap, ◌∙◌, subst}
use Rattle.std.specs.List.{AllZip}
use Rattle.tm_base.specs.declared.place.Place.{Place}
use Rattle.tm_syntax.specs.Design.{DesignTree}
use Rattle.tm_syntax.specs.Design.Locations.{Location}
use Rattle.tm_syntax.specs.Design.Work.{WorkItem}
use Rattle.tm_scope.proofs.Entries.{at-left}
use Rattle.tm_locations.specs.Locations.{IsTrail, IsRest, nothing_left, work_before, IsRow}
use Rattle.tm_locations.specs.Inner.Walks.{WalkTables, IsGrown, IsTodo, IsWalking, Owed}
use Rattle.tm_locations.specs.declared.table.LocationRow.{LocationRow}
use Rattle.tm_locations.specs.declared.table.RestNode.{RestNode}
use Rattle.tm_locations.specs.declared.table.TrailNode.{TrailNode}
use Rattle.tm_locations.specs.declared.walk.Todo.{Todo}

-- what is left by a number stays as nodes are added
pub rest-kept-trails : (ts us : List TrailNode) (rs : List RestNode) →
    ((k : ℕ) (trail : List Place) → IsTrail ts k trail → IsTrail us k trail) → {k : ℕ} {items : List WorkItem} →
    IsRest ts rs k items → IsRest us rs k items
rest-kept-trails ts us rs kept nothing_left = nothing_left
rest-kept-trails ts us rs kept (work_before {n = n} {trail = trail} at is behind) =
    work_before at (kept n.trail trail is) (rest-kept-trails ts us rs kept behind)

pub rest-kept : (ts : List TrailNode) (rs : List RestNode) (n : RestNode) {k : ℕ} {items : List WorkItem} →
    IsRest ts rs k items → IsRest ts (rs ++ n ∷ []) k items
rest-kept ts rs n nothing_left = nothing_left
rest-kept ts rs n (work_before {k = k} {n = m} at is behind) =
    work_before (at-left rs (n ∷ []) k m at) is (rest-kept ts rs n behind)

rows-grow : {X Y : Type 0} (R S : X → Y → Type 0) → ((x : X) (y : Y) → R x y → S x y) → (xs : List X) (ys : List Y) →
    AllZip R xs ys → AllZip S xs ys
rows-grow R S so [] [] all = all
rows-grow R S so [] (y ∷ ys) all = all
rows-grow R S so (x ∷ xs) [] all = all
rows-grow R S so (x ∷ xs) (y ∷ ys) all = (so x y all.0, rows-grow R S so xs ys all.1)

pub rows-push : {X Y : Type 0} (R : X → Y → Type 0) (xs : List X) (ys : List Y) (x : X) (y : Y) → AllZip R xs ys →
    R x y → AllZip R (xs ++ x ∷ []) (ys ++ y ∷ [])
rows-push R [] [] x y all here = (here, all)
rows-push R [] (w ∷ ys) x y all here = absurd all
rows-push R (z ∷ xs) [] x y all here = absurd all
rows-push R (z ∷ xs) (w ∷ ys) x y all here = (all.0, rows-push R xs ys x y all.1 here)

pub append-nil : {X : Type 0} (xs : List X) → xs ++ [] ≡ xs
append-nil [] = refl
append-nil (x ∷ xs) = ap (λ ys. x ∷ ys) (append-nil xs)

pub append-assoc : {X : Type 0} (xs ys zs : List X) → (xs ++ ys) ++ zs ≡ xs ++ (ys ++ zs)
append-assoc [] ys zs = refl
append-assoc (x ∷ xs) ys zs = ap (λ ws. x ∷ ws) (append-assoc xs ys zs)

-- rows stand for the same locations in tables that have grown
module _ (w v : WalkTables) (grown : IsGrown w v) where
  row-grows : (row : LocationRow) (l : Location) → IsRow w.trails w.rests row l → IsRow v.trails v.rests row l
  row-grows row l is = record {
    at = is.at;
    is_magic = is.is_magic;
    trail = grown.trails row.trail l.trail is.trail;
    rest = grown.rests row.rest l.rest is.rest;
  }

  pub rows-stay : (ls : List Location) → AllZip (IsRow w.trails w.rests) w.rows ls →
      AllZip (IsRow v.trails v.rests) v.rows ls
  rows-stay ls all =
      subst (λ rows. AllZip (IsRow v.trails v.rests) rows ls) (sym grown.rows)
      (rows-grow (IsRow w.trails w.rests) (IsRow v.trails v.rests) row-grows w.rows ls all)

module _ (d : DesignTree) where
  -- what is owed by a table is owed by one that has grown
  module _ (w v : WalkTables) (grown : IsGrown w v) where
    todo-grows : (t : Todo) (l : List Location) → IsTodo d w.trails w.rests t l → IsTodo d v.trails v.rests t l
    todo-grows t l is = record {
      trail = is.trail;
      items = is.items;
      is_trail = grown.trails t.frame.trail is.trail is.is_trail;
      is_rest = grown.rests t.after is.items is.is_rest;
      deep = is.deep;
      are = is.are;
    }

    owed-grows : (ts : List Todo) (left : List Location) → Owed d w.trails w.rests ts left →
        Owed d v.trails v.rests ts left
    owed-grows [] left owed = owed
    owed-grows (t ∷ ts) left owed =
        (owed.0, owed.1, owed.2, todo-grows t owed.1 owed.3, owed-grows ts owed.0 owed.4)

    pub walking-grows : (next all : List Location) → IsWalking d w next all → IsWalking d v next all
    walking-grows next all is = record {
      found = is.found;
      left = is.left;
      are = is.are;
      rows = rows-stay w v grown is.found is.rows;
      owed = subst (λ ts. Owed d v.trails v.rests ts is.left) (sym grown.todo) (owed-grows w.todo is.left is.owed);
    }

  module _ (trails : List TrailNode) (rests : List RestNode) (t : Todo) where
    -- one more part is owed
    owed-push : (l : List Location) → IsTodo d trails rests t l → (ts : List Todo) (left : List Location) →
        Owed d trails rests ts left → Owed d trails rests (ts ++ t ∷ []) (l ++ left)
    owed-push l is [] left owed = ([], l, ap (λ ls. l ++ ls) owed ∙ append-nil l, is, refl)
    owed-push l is (u ∷ us) left owed = (
      l ++ owed.0,
      owed.1,
      ap (λ ls. l ++ ls) owed.2 ∙ sym (append-assoc l owed.0 owed.1),
      owed.3,
      owed-push l is us owed.0 owed.4,
    )

    -- the last part that is owed comes first
    owed-pop : (ts : List Todo) (all : List Location) → Owed d trails rests (ts ++ t ∷ []) all →
        (l : List Location) × (left : List Location) × (all ≡ l ++ left) × IsTodo d trails rests t l
        × Owed d trails rests ts left
    owed-pop [] all owed =
        (owed.1, [], owed.2 ∙ ap (λ ls. ls ++ owed.1) owed.4 ∙ sym (append-nil owed.1), owed.3, refl)
    owed-pop (u ∷ us) all owed = by (owed-pop us owed.0 owed.4)
      where
        by : ((l : List Location) × (left : List Location) × (owed.0 ≡ l ++ left) × IsTodo d trails rests t l
            × Owed d trails rests us left) →
            (l : List Location) × (left : List Location) × (all ≡ l ++ left) × IsTodo d trails rests t l
            × Owed d trails rests (u ∷ us) left
        by p = (
          p.0,
          p.1 ++ owed.1,
          owed.2 ∙ ap (λ ls. ls ++ owed.1) p.2 ∙ append-assoc p.0 p.1 owed.1,
          p.3,
          (p.1, owed.1, refl, owed.3, p.4),
        )

  -- a part is left for later
  pub walking-leave : (w v : WalkTables) (t : Todo) (next l all : List Location) →
      v ≡ record w { todo = w.todo ++ t ∷ [] } → IsTodo d w.trails w.rests t l → IsWalking d w (next ++ l) all →
      IsWalking d v next all
  walking-leave w v t next l all is todo walking = subst (λ v. IsWalking d v next all) (sym is) (record {
    found = walking.found;
    left = l ++ walking.left;
    are = walking.are ∙ ap (λ ls. walking.found ++ ls) (append-assoc next l walking.left);
    rows = walking.rows;
    owed = owed-push w.trails w.rests t l todo w.todo walking.left walking.owed;
  })

  -- a location is found
  pub walking-note : (w v : WalkTables) (row : LocationRow) (l : Location) (next all : List Location) →
      v ≡ record w { rows = w.rows ++ row ∷ [] } → IsRow w.trails w.rests row l → IsWalking d w (l ∷ next) all →
      IsWalking d v next all
  walking-note w v row l next all is here walking = subst (λ v. IsWalking d v next all) (sym is) (record {
    found = walking.found ++ l ∷ [];
    left = walking.left;
    are = walking.are ∙ sym (append-assoc walking.found (l ∷ []) (next ++ walking.left));
    rows = rows-push (IsRow w.trails w.rests) w.rows walking.found row l walking.rows here;
    owed = walking.owed;
  })

  -- the last part that is owed is taken
  pub walking-take : (w v : WalkTables) (t : Todo) (all : List Location) →
      w ≡ record v { todo = v.todo ++ t ∷ [] } → IsWalking d w [] all →
      (l : List Location) × IsTodo d v.trails v.rests t l × IsWalking d v l all
  walking-take w v t all is walking = by (subst (λ w. IsWalking d w [] all) is walking)
    where
      by : IsWalking d (record v { todo = v.todo ++ t ∷ [] }) [] all →
          (l : List Location) × IsTodo d v.trails v.rests t l × IsWalking d v l all
      by walking =
          let taken = owed-pop v.trails v.rests t v.todo walking.left walking.owed in (
            taken.0,
            taken.3,
            record {
              found = walking.found;
              left = taken.1;
              are = walking.are ∙ ap (λ ls. walking.found ++ ls) taken.2;
              rows = walking.rows;
              owed = taken.4;
            },
          )
