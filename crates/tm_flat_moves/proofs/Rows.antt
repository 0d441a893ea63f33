-- Statements of a body as work items, in front of others.
use Rattle.std.proofs.Common.{◌≡◌, ℕ, ◌||◌, ◌≤◌, Bool, true, false, Option, None, Some, List, [], ◌∷◌, ◌++◌, map, refl, sym, ap, ◌∙◌}
use Rattle.std.specs.Prelude.{MatchOption}
use Rattle.std.specs.List.{AllByRecursion}
use Rattle.std.specs.Option.{option_and_then, option_map_or}
use Rattle.tm_base.specs.declared.place.Place.{Place}
use Rattle.tm_syntax.specs.Tree.{StmtTree, row_of}
use Rattle.tm_syntax.specs.Scopes.Pauses.{call_depth}
use Rattle.tm_syntax.specs.Design.{DesignTree}
use Rattle.tm_syntax.specs.Design.Scope.{Scope}
use Rattle.tm_syntax.specs.Design.Work.{WorkItem, perform}
use Rattle.tm_scope.specs.Cells.{CellTables, scope_of}
use Rattle.tm_scope.specs.declared.cells.site_body.SiteBody.{SiteBody}
use Rattle.tm_sem.specs.Run.{Ending, stopped, finished, failed, blocked}
use Rattle.tm_sem.specs.Value.{Memory}
use Rattle.tm_flat.specs.BitRun.{behind, followed_by, item_ending, items_ending, reader, row_ending, stmt_ending, unless_overrun}
use Rattle.tm_flat.specs.Fitting.{BodyFits, ItemsFit, RowFits}
use Rattle.tm_flat.specs.Positions.{body_after, item_after, row_after, stmt_after}
use Rattle.tm_flat.specs.Writes.{body_writes, items_write, row_writes, stmt_writes}
use Rattle.tm_flat_bodies.specs.Asked.{RowIsTyped}
use Rattle.tm_flat_moves.specs.Items.{ItemsAreTyped, StmtStands, items_after}

module _ (d : DesignTree) (scope : Scope) (trail : List Place) (others : List WorkItem) where
  -- the items of statements, in front of the others
  abbrev pub items : List StmtTree → List WorkItem
  items ss = map (perform scope trail) ss ++ others

  abbrev pub row_behind : List StmtTree → ℕ → Option ℕ
  row_behind ss k = row_after (body_after (call_depth d.spec) d) d scope (row_of ss) k

  pub rows_end : (bits : ℕ → Bool) (ss : List StmtTree) (k : ℕ) (m : Memory) →
      followed_by (row_ending (reader d bits) scope trail (row_of ss) k m)
      (behind (row_behind ss k) (λ i. items_ending d bits others i))
      ≡ items_ending d bits (items ss) k m
  rows_end bits [] k m = refl
  rows_end bits (s ∷ ss) k m =
      by (item_after d (perform scope trail s) k) (item_ending d bits (perform scope trail s) k m)
      (λ i n. rows_end bits ss i n)
    where
      by : (o : Option ℕ) (e : Ending) →
          ((i : ℕ) (n : Memory) → followed_by (row_ending (reader d bits) scope trail (row_of ss) i n)
          (behind (row_behind ss i) (λ i. items_ending d bits others i)) ≡ items_ending d bits (items ss) i n) →
          followed_by (followed_by e (behind o (λ i. row_ending (reader d bits) scope trail (row_of ss) i)))
          (behind (option_and_then (λ i. row_behind ss i) o) (λ i. items_ending d bits others i))
          ≡ followed_by e (behind o (λ i. items_ending d bits (items ss) i))
      by None (finished n) later = refl
      by (Some i) (finished n) later = later i n
      by o (stopped at trail n) later = refl
      by o failed later = refl
      by o blocked later = refl

  pub rows_after : (ss : List StmtTree) (k : ℕ) →
      option_and_then (λ i. items_after d others i) (row_behind ss k) ≡ items_after d (items ss) k
  rows_after [] k = refl
  rows_after (s ∷ ss) k = by (item_after d (perform scope trail s) k) (λ i. rows_after ss i)
    where
      by : (o : Option ℕ) →
          ((i : ℕ) → option_and_then (λ i. items_after d others i) (row_behind ss i) ≡ items_after d (items ss) i) →
          option_and_then (λ i. items_after d others i) (option_and_then (λ i. row_behind ss i) o)
          ≡ option_and_then (λ i. items_after d (items ss) i) o
      by None later = refl
      by (Some i) later = later i

  abbrev pub row_writing : ℕ → List StmtTree → ℕ → Bool
  row_writing v ss k =
      row_writes (body_after (call_depth d.spec) d) (body_writes (call_depth d.spec) d v) d scope v (row_of ss) k

  or_all : (a b c : Bool) → (a || (b || c)) ≡ ((a || b) || c)
  or_all true b c = refl
  or_all false b c = refl

  pub rows_write : (v : ℕ) (ss : List StmtTree) (k : ℕ) →
      items_write d v (items ss) k
      ≡ (row_writing v ss k || option_map_or (λ i. items_write d v others i) (row_behind ss k) false)
  rows_write v [] k = refl
  rows_write v (s ∷ ss) k =
      by (stmt_writes (body_after (call_depth d.spec) d) (body_writes (call_depth d.spec) d v) d scope v s k)
      (item_after d (perform scope trail s) k) (λ i. rows_write v ss i)
    where
      by : (a : Bool) (o : Option ℕ) →
          ((i : ℕ) → items_write d v (items ss) i
          ≡ (row_writing v ss i || option_map_or (λ i. items_write d v others i) (row_behind ss i) false)) →
          (a || option_map_or (λ i. items_write d v (items ss) i) o false)
          ≡ ((a || option_map_or (λ i. row_writing v ss i) o false)
          || option_map_or (λ i. items_write d v others i) (option_and_then (λ i. row_behind ss i) o) false)
      by true None later = refl
      by false None later = refl
      by a (Some i) later =
          ap (λ b. a || b) (later i)
          ∙ or_all a (row_writing v ss i) (option_map_or (λ i. items_write d v others i) (row_behind ss i) false)

  module _ (room : ℕ) where
    items_low : (is : List WorkItem) (k : ℕ) → ItemsFit room d is k → k ≤ room
    items_low [] k fits = fits
    items_low (first ∷ more) k fits = fits.0

    pub rows_fit : (ss : List StmtTree) (k : ℕ) → ItemsFit room d (items ss) k →
        RowFits room (body_after (call_depth d.spec) d) (BodyFits room (call_depth d.spec) d) d scope (row_of ss) k
        × MatchOption (row_behind ss k) (Unit {0}) (λ i. ItemsFit room d others i)
    rows_fit [] k fits = (items_low others k fits, fits)
    rows_fit (s ∷ ss) k fits =
        let rest = by (item_after d (perform scope trail s) k) (λ i. rows_fit ss i) fits.2 in
        ((fits.0, fits.1, rest.0), rest.1)
      where
        by : (o : Option ℕ) →
            ((i : ℕ) → ItemsFit room d (items ss) i →
            RowFits room (body_after (call_depth d.spec) d) (BodyFits room (call_depth d.spec) d) d scope (row_of ss) i
            × MatchOption (row_behind ss i) (Unit {0}) (λ i. ItemsFit room d others i)) →
            MatchOption o (Unit {0}) (λ i. ItemsFit room d (items ss) i) →
            MatchOption o (Unit {0}) (λ i.
            RowFits room (body_after (call_depth d.spec) d) (BodyFits room (call_depth d.spec) d) d scope (row_of ss) i)
            × MatchOption (option_and_then (λ i. row_behind ss i) o) (Unit {0}) (λ i. ItemsFit room d others i)
        by None later h = (tt, tt)
        by (Some i) later h = later i h

-- items of a body have types where its statements do
pub front_typed : (x : CellTables) (at : SiteBody) (trail : List Place) (ss : List StmtTree) (others : List WorkItem) →
    ItemsAreTyped x (map (perform (scope_of at) trail) ss ++ others) → AllByRecursion (StmtStands x at) ss
front_typed x at trail [] others typed = tt
front_typed x at trail (s ∷ ss) others typed = (typed.0 at refl, front_typed x at trail ss others typed.1)

pub back_typed : (x : CellTables) (scope : Scope) (trail : List Place) (ss : List StmtTree) (others : List WorkItem) →
    ItemsAreTyped x (map (perform scope trail) ss ++ others) → ItemsAreTyped x others
back_typed x scope trail [] others typed = typed
back_typed x scope trail (s ∷ ss) others typed = back_typed x scope trail ss others typed.1

-- statements that stand in a body are a row that has types
pub stands_typed : (x : CellTables) (at : SiteBody) (ss : List StmtTree) → AllByRecursion (StmtStands x at) ss →
    RowIsTyped (record { tables = x; at = at }) (row_of ss)
stands_typed x at [] stand = tt
stands_typed x at (s ∷ ss) stand = (stand.0.typed, stands_typed x at ss stand.1)
