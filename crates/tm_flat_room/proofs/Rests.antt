-- What is left after each location fits into the room, where the paths of the text do.
use Rattle.std.proofs.Common.{◌≡◌, ℕ, ◌+◌, ◌≤◌, Option, None, Some, List, [], ◌∷◌, ◌++◌, refl, subst, arith}
use Rattle.std.specs.Prelude.{MatchOption}
use Rattle.std.specs.List.{AllByRecursion}
use Rattle.tm_base.specs.declared.place.Place.{Place}
use Rattle.tm_syntax.specs.declared.tree.Ident.{Ident}
use Rattle.tm_syntax.specs.Tree.{StmtTree, assign, invoke, branch, repeat, forever, choose, assert, assume, pause, wait, magic, StmtRow, nothing, then, BlockRow, nowhere, or_else}
use Rattle.tm_syntax.specs.Scopes.Context.{Context}
use Rattle.tm_syntax.specs.Scopes.Parts.{inner_stmts, row_stmts, block_stmts}
use Rattle.tm_syntax.specs.Scopes.Pauses.{call_depth}
use Rattle.tm_syntax.specs.Counts.Choices.{Paths, in_row, joined, row_paths, block_paths, stmt_paths}
use Rattle.tm_syntax.specs.Design.{DesignTree}
use Rattle.tm_syntax.specs.Design.Locations.{Location, stmt_locations, row_locations, block_locations}
use Rattle.tm_syntax.specs.Design.Scope.{Scope}
use Rattle.tm_syntax.specs.Design.Work.{WorkItem, perform, performs}
use Rattle.tm_flat.specs.Inputs.{room}
use Rattle.tm_flat.specs.Positions.{body_after, stmt_after}
use Rattle.tm_flat.specs.Fitting.{BodyFits, ItemsFit}
use Rattle.tm_typing.proofs.Fitting.{all_of_both}
use Rattle.tm_typing.proofs.Listed.{In, all_join, first_of, later_of, in_behind, in_front}
use Rattle.tm_flat_room.proofs.Fits as fits
use Rattle.tm_flat_room.proofs.Sums.{Comes, Stays, Within, in_joined, leads_inward, starts_within, stays_before, stays_behind}

module _ (d : DesignTree) (scope : Scope) (c : Context) (within : List Ident → Paths)
    (locate : List Ident → List WorkItem → List Location) (trail : List Place) where
  -- what is left after each location fits
  abbrev pub LeftFits : List Location → Type 0
  LeftFits ls = AllByRecursion (λ (l : Location). ItemsFit room d l.rest 0) ls

  -- items fit behind each path out of a part
  abbrev pub FitsBehind : List ℕ → List WorkItem → Type 0
  FitsBehind outward left = (m : ℕ) → In m outward → ItemsFit room d left m

  -- the locations of a call are as the paths of its text say
  pub record IsLocated (path : List Ident) : Type 0 where
    pub rests : (left : List WorkItem) → Within 0 (within path).between → FitsBehind (within path).outward left →
        LeftFits (locate path left)

  -- what is asked of the calls among statements
  abbrev pub HasLocated : StmtTree → Type 0
  HasLocated (invoke path _) = IsLocated path
  HasLocated _ = Unit {0}

  abbrev IsFine : StmtTree → Type 0
  IsFine s = fits.IsFine d scope c (body_after (call_depth d.spec) d) (BodyFits room (call_depth d.spec) d) within s

  abbrev AreFine : List StmtTree → Type 0
  AreFine ss = AllByRecursion IsFine ss

  abbrev AreLocated : List StmtTree → Type 0
  AreLocated ss = AllByRecursion HasLocated ss

  abbrev paths_of : StmtTree → Paths
  paths_of s = stmt_paths within c s

  abbrev paths_in : StmtRow → Paths
  paths_in row = row_paths within c row

  abbrev paths_among : BlockRow → Paths
  paths_among blocks = block_paths within c blocks

  items_within : (items : List WorkItem) (k : ℕ) → ItemsFit room d items k → k ≤ room
  items_within [] k fit = fit
  items_within (x ∷ xs) k fit = fit.0

  stmt_comes : (s : StmtTree) → AreFine (s ∷ inner_stmts s) → (k : ℕ) →
      Comes k (paths_of s).across (stmt_after (body_after (call_depth d.spec) d) d scope s k)
  stmt_comes =
      fits.stmt_comes d scope c (body_after (call_depth d.spec) d) (BodyFits room (call_depth d.spec) d) within

  -- items fit behind each path across a part that begins at a position
  abbrev Continues : ℕ → List ℕ → List WorkItem → Type 0
  Continues k across left = (m : ℕ) → In m across → ItemsFit room d left (k + m)

  -- what stands behind a statement of a row, from where that comes to
  behind_fits : (first : StmtTree) (others : StmtRow) (left : List WorkItem) (k : ℕ) →
      Stays k (in_row (paths_of first) (paths_in others)) →
      Continues k (joined (paths_of first).across (paths_in others).across) left →
      ((j : ℕ) → Stays j (paths_in others) → Continues j (paths_in others).across left →
      ItemsFit room d (performs scope trail others ++ left) j) → (o : Option ℕ) → Comes k (paths_of first).across o →
      MatchOption o (Unit {0}) (λ i. ItemsFit room d (performs scope trail others ++ left) i)
  behind_fits first others left k stays on rest None from = tt
  behind_fits first others left k stays on rest (Some j) from =
      rest j (stays_behind k j (paths_of first) (paths_in others) stays from)
      (λ n i. subst (ItemsFit room d left) (further n)
      (on (from.0 + n) (in_joined (paths_of first).across (paths_in others).across from.0 n from.1 i)))
    where
      further : (n : ℕ) → k + (from.0 + n) ≡ j + n
      further n = let at = from.2 in omega (arith, at)

  -- a row and the items behind it fit, where its paths stay within the room and the items fit behind each
  pub row_then : (row : StmtRow) → AreFine (row_stmts row) → (left : List WorkItem) (k : ℕ) → Stays k (paths_in row) →
      Continues k (paths_in row).across left → ItemsFit room d (performs scope trail row ++ left) k
  row_then nothing fine left k stays on = subst (ItemsFit room d left) here (on 0 first_of)
    where
      here : k + 0 ≡ k
      here = omega arith
  row_then (then first others) fine left k stays on =
      let parts = all_of_both IsFine (first ∷ inner_stmts first) (row_stmts others) fine in
      let leads = fits.row_leads d scope c (body_after (call_depth d.spec) d) (BodyFits room (call_depth d.spec) d)
      within others parts.1 in (
        starts_within k (paths_in (then first others)) stays
            (fits.row_leads d scope c (body_after (call_depth d.spec) d) (BodyFits room (call_depth d.spec) d) within
            (then first others) fine),
        fits.stmt_fits d scope c (body_after (call_depth d.spec) d) (BodyFits room (call_depth d.spec) d) within first
            parts.0 k (stays_before k (paths_of first) (paths_in others) stays leads),
        behind_fits first others left k stays on (λ j. row_then others parts.1 left j)
            (stmt_after (body_after (call_depth d.spec) d) d scope first k) (stmt_comes first parts.0 k),
      )

  -- from a location in the body of a loop the loop itself stays within the room
  round_stays : (body : StmtRow) → AreFine (row_stmts body) →
      Within 0 (joined (paths_in body).outward (paths_in body).inward) → (m : ℕ) → In m (paths_in body).outward →
      (n : ℕ) → In n (paths_in body).inward → m + n ≤ room
  round_stays body fine between m i n j =
      let far = between (m + n) (in_joined (paths_in body).outward (paths_in body).inward m n i j) in
      omega (arith, far)

  mutual
    pub stmt_rests : (s : StmtTree) → AreFine (s ∷ inner_stmts s) → AreLocated (s ∷ inner_stmts s) →
        (left : List WorkItem) → Within 0 (paths_of s).between → FitsBehind (paths_of s).outward left →
        LeftFits (stmt_locations locate scope trail s left)
    stmt_rests (assign _ _ _) fine at left between behind = tt
    stmt_rests (invoke path _) fine at left between behind = at.0.rests left between behind
    stmt_rests (branch _ a b) fine at left between behind =
        let parts = all_of_both IsFine (row_stmts a) (row_stmts b) fine.1 in
        let calls = all_of_both HasLocated (row_stmts a) (row_stmts b) at.1 in
        let p = paths_in a in
        let q = paths_in b in
        all_join (λ (l : Location). ItemsFit room d l.rest 0) (row_locations locate scope trail a left)
        (row_locations locate scope trail b left)
        (row_rests a parts.0 calls.0 left (λ m i. between m (in_front p.between q.between i))
        (λ m i. behind m (in_front p.outward q.outward i)))
        (row_rests b parts.1 calls.1 left (λ m i. between m (in_behind p.between q.between i))
        (λ m i. behind m (in_behind p.outward q.outward i)))
    stmt_rests (repeat place e body) fine at left between behind =
        let p = paths_in body in
        let round = round_stays body fine.1
        (λ m i. between m (in_behind p.between (joined p.outward p.inward) i)) in
        row_rests body fine.1 at.1 (perform scope trail (repeat place e body) ∷ left)
        (λ m i. between m (in_front p.between (joined p.outward p.inward) i))
        (λ m i. (
          items_within left m (behind m i),
          fits.stmt_fits d scope c (body_after (call_depth d.spec) d) (BodyFits room (call_depth d.spec) d) within
              (repeat place e body) fine m (record {
                across = λ n j. by m n (items_within left m (behind m i)) (is_first n j);
                inward = λ n j. round m i n j;
              }),
          behind m i,
        ))
      where
        is_first : (n : ℕ) → In n (0 ∷ []) → n ≡ 0
        is_first n first_of = refl
        is_first n (later_of i) = elim i [ ]

        by : (m n : ℕ) → m ≤ room → n ≡ 0 → m + n ≤ room
        by m n here zero = omega (arith, here, zero)
    stmt_rests (forever place body) fine at left between behind =
        let p = paths_in body in
        let round = round_stays body fine.1
        (λ m i. between m (in_behind p.between (joined p.outward p.inward) i)) in
        let inward = leads_inward p
        (fits.none_across d scope c (body_after (call_depth d.spec) d) (BodyFits room (call_depth d.spec) d) within body
        fine.1 fine.0)
        (fits.row_leads d scope c (body_after (call_depth d.spec) d) (BodyFits room (call_depth d.spec) d) within body
        fine.1) in
        row_rests body fine.1 at.1 (perform scope trail (forever place body) ∷ left)
        (λ m i. between m (in_front p.between (joined p.outward p.inward) i))
        (λ m i. (
          by m inward.0 (round m i inward.0 inward.1),
          fits.stmt_fits d scope c (body_after (call_depth d.spec) d) (BodyFits room (call_depth d.spec) d) within
              (forever place body) fine m (record {
                across = λ n j. elim j [ ];
                inward = λ n j. round m i n j;
              }),
          tt,
        ))
      where
        by : (m n : ℕ) → m + n ≤ room → m ≤ room
        by m n far = omega (arith, far)
    stmt_rests (choose _ blocks) fine at left between behind =
        let q = paths_among blocks in
        block_rests blocks fine.1 at.1 left (λ m i. between m (in_front q.between [] i))
        (λ m i. behind m (in_front q.outward [] i))
    stmt_rests (assert _ _) fine at left between behind = tt
    stmt_rests (assume _ _) fine at left between behind = tt
    stmt_rests (pause _) fine at left between behind = (behind 0 first_of, tt)
    stmt_rests (wait place e) fine at left between behind = (
      (omega arith, tt, behind 0 first_of),
      tt,
    )
    stmt_rests (magic _) fine at left between behind = (behind 0 first_of, tt)

    pub row_rests : (row : StmtRow) → AreFine (row_stmts row) → AreLocated (row_stmts row) → (left : List WorkItem) →
        Within 0 (paths_in row).between → FitsBehind (paths_in row).outward left →
        LeftFits (row_locations locate scope trail row left)
    row_rests nothing fine at left between behind = tt
    row_rests (then first others) fine at left between behind =
        let parts = all_of_both IsFine (first ∷ inner_stmts first) (row_stmts others) fine in
        let calls = all_of_both HasLocated (first ∷ inner_stmts first) (row_stmts others) at in
        let p = paths_of first in
        let q = paths_in others in
        all_join (λ (l : Location). ItemsFit room d l.rest 0)
        (stmt_locations locate scope trail first (performs scope trail others ++ left))
        (row_locations locate scope trail others left)
        (stmt_rests first parts.0 calls.0 (performs scope trail others ++ left)
        (λ m i. between m (in_front (p.between ++ q.between) (joined p.outward q.inward)
        (in_front p.between q.between i)))
        (λ m i.
        row_then others parts.1 left m
        (record {
          across = λ n j. items_within left (m + n)
              (behind (m + n) (in_behind q.outward (joined p.outward q.across)
              (in_joined p.outward q.across m n i j)));
          inward = λ n j. by m n (between (m + n) (in_behind (p.between ++ q.between) (joined p.outward q.inward)
              (in_joined p.outward q.inward m n i j)));
        })
        (λ n j. behind (m + n) (in_behind q.outward (joined p.outward q.across)
        (in_joined p.outward q.across m n i j)))))
        (row_rests others parts.1 calls.1 left
        (λ m i. between m (in_front (p.between ++ q.between) (joined p.outward q.inward)
        (in_behind p.between q.between i)))
        (λ m i. behind m (in_front q.outward (joined p.outward q.across) i)))
      where
        by : (m n : ℕ) → 0 + (m + n) ≤ room → m + n ≤ room
        by m n far = omega (arith, far)

    block_rests : (blocks : BlockRow) → AreFine (block_stmts blocks) → AreLocated (block_stmts blocks) →
        (left : List WorkItem) → Within 0 (paths_among blocks).between → FitsBehind (paths_among blocks).outward left →
        LeftFits (block_locations locate scope trail blocks left)
    block_rests nowhere fine at left between behind = tt
    block_rests (or_else first others) fine at left between behind =
        let parts = all_of_both IsFine (row_stmts first) (block_stmts others) fine in
        let calls = all_of_both HasLocated (row_stmts first) (block_stmts others) at in
        let p = paths_in first in
        let q = paths_among others in
        all_join (λ (l : Location). ItemsFit room d l.rest 0) (row_locations locate scope trail first left)
        (block_locations locate scope trail others left)
        (row_rests first parts.0 calls.0 left (λ m i. between m (in_front p.between q.between i))
        (λ m i. behind m (in_front p.outward q.outward i)))
        (block_rests others parts.1 calls.1 left (λ m i. between m (in_behind p.between q.between i))
        (λ m i. behind m (in_behind p.outward q.outward i)))
