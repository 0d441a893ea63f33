-- Statements in a row, led through one after the other.
use Rattle.std.proofs.Common.{◌≡◌, ℕ, ◌≤◌, ◌||◌, Bool, true, false, Option, None, Some, List, [], ◌∷◌, ◌++◌, refl, sym, ap, ◌∙◌, subst}
use Rattle.std.specs.Prelude.{MatchOption}
use Rattle.std.specs.Option.{option_and_then, option_map_or}
use Rattle.tm_base.specs.declared.place.Place.{Place}
use Rattle.tm_syntax.specs.Tree.{StmtTree, StmtRow, nothing, then, row_of}
use Rattle.tm_syntax.specs.Design.{DesignTree}
use Rattle.tm_syntax.specs.Design.Cells.{Called}
use Rattle.tm_syntax.specs.Design.Locations.{location_number}
use Rattle.tm_syntax.specs.Design.Scope.{Scope}
use Rattle.tm_scope.specs.Cells.{scope_of}
use Rattle.tm_sem.specs.Run.{Ending, stopped, finished, failed, blocked}
use Rattle.tm_sem.specs.Value.{Memory}
use Rattle.tm_flat.specs.BitRun.{Reader, behind, followed_by, row_ending, stmt_ending, unless_overrun}
use Rattle.tm_flat.specs.Fitting.{BodyFits, RowFits}
use Rattle.tm_flat.specs.Inputs.{room}
use Rattle.tm_flat.specs.Positions.{body_after, row_after, stmt_after}
use Rattle.tm_flat.specs.Writes.{row_writes, stmt_writes}
use Rattle.tm_flat_stmts.specs.Flows.{FlowTerms}
use Rattle.tm_flat_stmts.specs.Statements.{Readers, reads, stmt_piece}
use Rattle.tm_flat_stmts.proofs.Leading.{continues_nowhere, continues_so, continues_then}
use Rattle.tm_flat_stmts.proofs.Leaving.{leaves_memory, leaves_then, or_left, or_right}
use Rattle.tm_flat_bodies.specs.declared.course.Course.{Course}
use Rattle.tm_flat_bodies.specs.declared.stand.Stand.{Stand}
use Rattle.tm_flat_bodies.specs.Walks.{AreWalkable, IsStanding, RowLeads, RowWalks, StmtLeads, StmtWalks, WalkTables, readers_at}
use Rattle.tm_flat_bodies.proofs.Standing.{goes_nowhere, stands_on}

-- a row that fits begins within the room
row_low : (size : ℕ) (after : Called → ℕ → Option ℕ) (Fits : Called → ℕ → Type 0) (d : DesignTree) (scope : Scope)
    (row : StmtRow) (k : ℕ) → RowFits size after Fits d scope row k → k ≤ size
row_low size after Fits d scope nothing k fits = fits
row_low size after Fits d scope (then first others) k fits = fits.0

-- what may be behind a statement is within the room, where the others fit there
behind_low : (size : ℕ) (P : ℕ → Type 0) → ((i : ℕ) → P i → i ≤ size) → (o : Option ℕ) → MatchOption o (Unit {0}) P →
    MatchOption o (Unit {0}) (λ i. i ≤ size)
behind_low size P low None h = tt
behind_low size P low (Some i) h = low i h

module _ (w : WalkTables) (f : Stand) where
  -- a row without statements leads nowhere
  pub row_nothing : (now : Course) (here : FlowTerms) → IsStanding w now here →
      RowLeads w f nothing now now here (Some here)
  row_nothing now here standing d p has are trail is = record {
    goes =
        goes_nowhere w.tables (λ at calls. Some (location_number d p at calls)) now.terms here now.ends standing.sound
        standing.stands standing.ended;
    leaves = λ i none. leaves_memory i here here now.ends now.ends refl refl;
  }

  module _ (s : StmtTree) (others : StmtRow) where
    -- where a row does not write a state variable, neither does its first statement, nor do the others
    first_unwritten : (r : Readers) (scope : Scope) (i k : ℕ) →
        row_writes r.after (r.writes i) r.design scope i (then s others) k ≡ false →
        stmt_writes r.after (r.writes i) r.design scope i s k ≡ false
    first_unwritten r scope i k none =
        or_left (stmt_writes r.after (r.writes i) r.design scope i s k)
        (option_map_or (λ j. row_writes r.after (r.writes i) r.design scope i others j)
        (stmt_after r.after r.design scope s k) false) none

    rest_unwritten : (r : Readers) (scope : Scope) (i k j : ℕ) → Some j ≡ stmt_after r.after r.design scope s k →
        row_writes r.after (r.writes i) r.design scope i (then s others) k ≡ false →
        row_writes r.after (r.writes i) r.design scope i others j ≡ false
    rest_unwritten r scope i k j at none =
        ap (λ o. option_map_or (λ j. row_writes r.after (r.writes i) r.design scope i others j) o false) at
        ∙ or_right (stmt_writes r.after (r.writes i) r.design scope i s k)
        (option_map_or (λ j. row_writes r.after (r.writes i) r.design scope i others j)
        (stmt_after r.after r.design scope s k) false) none

    -- a statement, and the others behind it
    pub row_then : (now mid end : Course) (here there : FlowTerms) (g : Option FlowTerms) →
        StmtLeads w f s now mid here (Some there) → RowLeads w f others mid end there g →
        RowLeads w f (then s others) now end here g
    row_then now mid end here there g one two d p has are trail is =
        let r : Readers = readers_at f.depth w.first d in
        let scope : Scope = scope_of f.reader.at in
        let a = one d p has are trail is in
        let b = two d p has are trail is in
        let at : Some there.position ≡ stmt_after r.after r.design scope s here.position = a.goes.position in
        record {
          goes =
              continues_so w.tables (λ at calls. Some (location_number d p at calls))
              (λ v m. followed_by (stmt_piece r scope trail s here.position v m)
              (row_ending (reads r v) scope trail others there.position))
              (λ v m. row_ending (reads r v) scope trail (then s others) here.position m)
              (row_after r.after r.design scope others there.position)
              (row_after r.after r.design scope (then s others) here.position) now.terms end.terms (Some here) g
              now.ends
              end.ends
              (λ v m i. followed_by (stmt_piece r scope trail s here.position v m)
              (behind (at i) (λ j. row_ending (reads r v) scope trail others j)))
              (λ i. option_and_then (λ j. row_after r.after r.design scope others j) (at i))
              (continues_then w.tables (λ at calls. Some (location_number d p at calls))
              (stmt_piece r scope trail s here.position)
              (λ v. row_ending (reads r v) scope trail others there.position)
              (stmt_after r.after r.design scope s here.position)
              (row_after r.after r.design scope others there.position) now.terms mid.terms end.terms (Some here)
              (Some there) g now.ends mid.ends end.ends a.goes b.goes);
          leaves = λ i none.
              leaves_then i (Some here) (Some there) g now.ends mid.ends end.ends
              (a.leaves i (first_unwritten r scope i here.position none))
              (b.leaves i (rest_unwritten r scope i here.position there.position at none));
        }

    -- a statement behind which no run comes
    pub row_stop : (now mid : Course) (here : FlowTerms) → StmtLeads w f s now mid here None →
        RowLeads w f (then s others) now mid here None
    row_stop now mid here one d p has are trail is =
        let r : Readers = readers_at f.depth w.first d in
        let scope : Scope = scope_of f.reader.at in
        let a = one d p has are trail is in
        let at : None ≡ stmt_after r.after r.design scope s here.position = a.goes.position in
        record {
          goes =
              continues_so w.tables (λ at calls. Some (location_number d p at calls))
              (λ v m. followed_by (stmt_piece r scope trail s here.position v m) (λ _. blocked))
              (λ v m. row_ending (reads r v) scope trail (then s others) here.position m)
              None (row_after r.after r.design scope (then s others) here.position) now.terms mid.terms (Some here) None
              now.ends mid.ends
              (λ v m i. followed_by (stmt_piece r scope trail s here.position v m)
              (behind (at i) (λ j. row_ending (reads r v) scope trail others j)))
              (λ i. option_and_then (λ j. row_after r.after r.design scope others j) (at i))
              (continues_nowhere w.tables (λ at calls. Some (location_number d p at calls))
              (stmt_piece r scope trail s here.position) (λ v _. blocked)
              (stmt_after r.after r.design scope s here.position) now.terms mid.terms (Some here) now.ends mid.ends
              a.goes);
          leaves = λ i none. a.leaves i (first_unwritten r scope i here.position none);
        }

    module _ (now : Course) (here : FlowTerms) (walks : RowWalks w f (then s others) now here) where
      -- the first statement may be walked
      pub head_walks : StmtWalks w f s now here
      head_walks = record {
        stand = walks.stand;
        typed = walks.typed.0;
        fits = λ d p has are. (walks.fits d p has are).1;
        within = λ d p has are.
            behind_low room
            (λ i. RowFits room (body_after f.depth d) (BodyFits room f.depth d) d (scope_of f.reader.at) others i)
            (λ i. row_low room (body_after f.depth d) (BodyFits room f.depth d) d (scope_of f.reader.at) others i)
            (stmt_after (body_after f.depth d) d (scope_of f.reader.at) s here.position)
            (walks.fits d p has are).2;
        standing = walks.standing;
      }

      -- and the others behind it
      pub tail_walks : AreWalkable w → (mid : Course) (there : FlowTerms) →
          StmtLeads w f s now mid here (Some there) → RowWalks w f others mid there
      tail_walks walkable mid there one = record {
        stand = walks.stand;
        typed = walks.typed.1;
        fits = λ d p has are.
            let a = one d p has are walks.stand.calls walks.stand.trail in
            subst (λ o. MatchOption o (Unit {0}) (λ i.
            RowFits room (body_after f.depth d) (BodyFits room f.depth d) d (scope_of f.reader.at) others i))
            (sym a.goes.position) (walks.fits d p has are).2;
        standing = stands_on w now mid here there
            (one walkable.design walkable.process walkable.cells walkable.are walks.stand.calls walks.stand.trail).goes
            walks.standing;
      }

  -- ---- a loop over the statements of a row
  -- where what is left leads, the whole leads
  pub record RowSoFar (all left : StmtRow) (start : Course) (flow : FlowTerms) (now : Course) (here : FlowTerms) :
      Type 0 where
    pub leads : (end : Course) (g : Option FlowTerms) → RowLeads w f left now end here g →
        RowLeads w f all start end flow g
    pub walks : RowWalks w f left now here

  pub row_begins : (all left : StmtRow) (start : Course) (flow : FlowTerms) → left ≡ all →
      RowWalks w f all start flow → RowSoFar all left start flow start flow
  row_begins all left start flow is walks = record {
    leads = λ end g h. subst (λ row. RowLeads w f row start end flow g) is h;
    walks = subst (λ row. RowWalks w f row start flow) (sym is) walks;
  }

  module _ (all left : StmtRow) (s : StmtTree) (others : StmtRow) (start : Course) (flow : FlowTerms) (now : Course)
      (here : FlowTerms) (is : left ≡ then s others) (far : RowSoFar all left start flow now here) where
    so : RowSoFar all (then s others) start flow now here
    so = subst (λ row. RowSoFar all row start flow now here) is far

    pub row_next : StmtWalks w f s now here
    row_next = head_walks s others now here so.walks

    pub row_step : AreWalkable w → (mid : Course) (there : FlowTerms) → StmtLeads w f s now mid here (Some there) →
        RowSoFar all others start flow mid there
    row_step walkable mid there one = record {
      leads = λ end g h. so.leads end g (row_then s others now mid end here there g one h);
      walks = tail_walks s others now here so.walks walkable mid there one;
    }

    pub row_halts : (mid : Course) → StmtLeads w f s now mid here None → RowLeads w f all start mid flow None
    row_halts mid one = so.leads mid None (row_stop s others now mid here one)

  pub row_through : (all left : StmtRow) (start : Course) (flow : FlowTerms) (now : Course) (here : FlowTerms) →
      left ≡ nothing → RowSoFar all left start flow now here → RowLeads w f all start now flow (Some here)
  row_through all left start flow now here is far =
      let so : RowSoFar all nothing start flow now here = subst (λ row. RowSoFar all row start flow now here) is far in
      so.leads now (Some here) (row_nothing now here so.walks.standing)

-- ---- a row behind another one
module _ (r : Reader) (scope : Scope) (trail : List Place) where
  pub both_ending : (xs ys : List StmtTree) (k : ℕ) (m : Memory) →
      followed_by (row_ending r scope trail (row_of xs) k m)
      (behind (row_after r.after r.design scope (row_of xs) k) (λ i. row_ending r scope trail (row_of ys) i))
      ≡ row_ending r scope trail (row_of (xs ++ ys)) k m
  both_ending [] ys k m = refl
  both_ending (x ∷ xs) ys k m =
      by (stmt_after r.after r.design scope x k) (unless_overrun r.design scope m x (stmt_ending r scope trail x k m))
      (λ i n. both_ending xs ys i n)
    where
      by : (o : Option ℕ) (e : Ending) →
          ((i : ℕ) (n : Memory) → followed_by (row_ending r scope trail (row_of xs) i n)
          (behind (row_after r.after r.design scope (row_of xs) i) (λ i. row_ending r scope trail (row_of ys) i))
          ≡ row_ending r scope trail (row_of (xs ++ ys)) i n) →
          followed_by (followed_by e (behind o (λ i. row_ending r scope trail (row_of xs) i)))
          (behind (option_and_then (λ i. row_after r.after r.design scope (row_of xs) i) o)
          (λ i. row_ending r scope trail (row_of ys) i))
          ≡ followed_by e (behind o (λ i. row_ending r scope trail (row_of (xs ++ ys)) i))
      by None (finished n) later = refl
      by (Some i) (finished n) later = later i n
      by o (stopped at trail n) later = refl
      by o failed later = refl
      by o blocked later = refl

pub after_both : (after : Called → ℕ → Option ℕ) (d : DesignTree) (scope : Scope) (xs ys : List StmtTree) (k : ℕ) →
    option_and_then (λ i. row_after after d scope (row_of ys) i) (row_after after d scope (row_of xs) k)
    ≡ row_after after d scope (row_of (xs ++ ys)) k
after_both after d scope [] ys k = refl
after_both after d scope (x ∷ xs) ys k = by (stmt_after after d scope x k) (λ i. after_both after d scope xs ys i)
  where
    by : (o : Option ℕ) →
        ((i : ℕ) →
        option_and_then (λ i. row_after after d scope (row_of ys) i) (row_after after d scope (row_of xs) i)
        ≡ row_after after d scope (row_of (xs ++ ys)) i) →
        option_and_then (λ i. row_after after d scope (row_of ys) i)
        (option_and_then (λ i. row_after after d scope (row_of xs) i) o)
        ≡ option_and_then (λ i. row_after after d scope (row_of (xs ++ ys)) i) o
    by None later = refl
    by (Some i) later = later i

pub fits_both : (size : ℕ) (after : Called → ℕ → Option ℕ) (Fits : Called → ℕ → Type 0) (d : DesignTree) (scope : Scope)
    (xs ys : List StmtTree) (k : ℕ) → RowFits size after Fits d scope (row_of (xs ++ ys)) k →
    RowFits size after Fits d scope (row_of xs) k
    × MatchOption (row_after after d scope (row_of xs) k) (Unit {0})
    (λ i. RowFits size after Fits d scope (row_of ys) i)
fits_both size after Fits d scope [] ys k fits = (row_low size after Fits d scope (row_of ys) k fits, fits)
fits_both size after Fits d scope (x ∷ xs) ys k fits =
    let rest = by (stmt_after after d scope x k) (λ i. fits_both size after Fits d scope xs ys i) fits.2 in
    ((fits.0, fits.1, rest.0), rest.1)
  where
    by : (o : Option ℕ) →
        ((i : ℕ) → RowFits size after Fits d scope (row_of (xs ++ ys)) i →
        RowFits size after Fits d scope (row_of xs) i
        × MatchOption (row_after after d scope (row_of xs) i) (Unit {0})
        (λ i. RowFits size after Fits d scope (row_of ys) i)) →
        MatchOption o (Unit {0}) (λ i. RowFits size after Fits d scope (row_of (xs ++ ys)) i) →
        MatchOption o (Unit {0}) (λ i. RowFits size after Fits d scope (row_of xs) i)
        × MatchOption (option_and_then (λ i. row_after after d scope (row_of xs) i) o) (Unit {0})
        (λ i. RowFits size after Fits d scope (row_of ys) i)
    by None later h = (tt, tt)
    by (Some i) later h = later i h

-- a row behind another one writes what either does
or_all : (a b c : Bool) → (a || (b || c)) ≡ ((a || b) || c)
or_all true b c = refl
or_all false b c = refl

pub both_write : (after : Called → ℕ → Option ℕ) (body : Called → ℕ → Bool) (d : DesignTree) (scope : Scope) (v : ℕ)
    (xs ys : List StmtTree) (k : ℕ) →
    row_writes after body d scope v (row_of (xs ++ ys)) k
    ≡ (row_writes after body d scope v (row_of xs) k
    || option_map_or (λ i. row_writes after body d scope v (row_of ys) i) (row_after after d scope (row_of xs) k) false)
both_write after body d scope v [] ys k = refl
both_write after body d scope v (x ∷ xs) ys k =
    by (stmt_writes after body d scope v x k) (stmt_after after d scope x k)
    (λ i. both_write after body d scope v xs ys i)
  where
    by : (a : Bool) (o : Option ℕ) →
        ((i : ℕ) → row_writes after body d scope v (row_of (xs ++ ys)) i
        ≡ (row_writes after body d scope v (row_of xs) i
        || option_map_or (λ i. row_writes after body d scope v (row_of ys) i) (row_after after d scope (row_of xs) i)
        false)) →
        (a || option_map_or (λ i. row_writes after body d scope v (row_of (xs ++ ys)) i) o false)
        ≡ ((a || option_map_or (λ i. row_writes after body d scope v (row_of xs) i) o false)
        || option_map_or (λ i. row_writes after body d scope v (row_of ys) i)
        (option_and_then (λ i. row_after after d scope (row_of xs) i) o) false)
    by true None later = refl
    by false None later = refl
    by a (Some i) later =
        ap (λ b. a || b) (later i)
        ∙ or_all a (row_writes after body d scope v (row_of xs) i)
        (option_map_or (λ i. row_writes after body d scope v (row_of ys) i) (row_after after d scope (row_of xs) i)
        false)
