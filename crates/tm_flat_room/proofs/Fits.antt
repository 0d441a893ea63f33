-- Statements fit into the room, where the paths of their text do.
use Rattle.std.proofs.Common.{◌≡◌, inl, inr, ℕ, ◌+◌, ◌≤◌, Option, None, Some, List, [], ◌∷◌, length, refl, subst, arith}
use Rattle.std.specs.Prelude.{MatchOption}
use Rattle.std.specs.List.{AllByRecursion}
use Rattle.tm_syntax.specs.declared.tree.Ident.{Ident}
use Rattle.tm_syntax.specs.Tree.{star, result, plain, StmtTree, assign, invoke, branch, repeat, forever, choose, assert, assume, pause, wait, magic, StmtRow, nothing, then, BlockRow, nowhere, or_else, blocks_of}
use Rattle.tm_syntax.specs.Scopes.Context.{Context}
use Rattle.tm_syntax.specs.Scopes.Parts.{inner_stmts, row_stmts, block_stmts}
use Rattle.tm_syntax.specs.Counts.Choices.{Paths, choosing, in_row, star_bits, stmt_paths, row_paths, block_paths}
use Rattle.tm_syntax.specs.Design.{DesignTree}
use Rattle.tm_syntax.specs.Design.Scope.{Scope}
use Rattle.tm_syntax.specs.Design.Cells.{Called}
use Rattle.tm_flat.specs.Inputs.{room}
use Rattle.tm_flat.specs.Positions.{target_bits, choice_bits, call_after, stmt_after, row_after, blocks_after}
use Rattle.tm_flat.specs.Fitting.{TargetFits, ChoiceFits, CallFits, StmtFits, RowFits, BlocksFit}
use Rattle.tm_typing.proofs.Fitting.{all_of_both}
use Rattle.tm_typing.proofs.Listed.{In, first_of}
use Rattle.tm_flat_room.proofs.Sums.{Comes, LeadsOn, Stays, comes_either, comes_then, leads_first, leads_inward, leads_then, starts_within, stays_before, stays_behind, stays_first, stays_second}

module _ (d : DesignTree) (scope : Scope) (c : Context) (after : Called → ℕ → Option ℕ) (Fits : Called → ℕ → Type 0)
    (within : List Ident → Paths) where
  -- a call that is as the paths of its text say
  pub record IsFineCall (path : List Ident) : Type 0 where
    pub comes : (k : ℕ) → Comes k (within path).across (call_after after d scope path k)
    pub leads : LeadsOn (within path)
    pub fits : (k : ℕ) → Stays k (within path) → CallFits Fits d scope path k

  -- what is asked of a statement itself: a `*` of the bits that the text says, calls that are fine, loops that never
  -- fall through, and choices with an alternative and bits for all of them
  abbrev pub IsFine : StmtTree → Type 0
  IsFine (assign target _ (star _)) = (target_bits d scope target ≡ star_bits c target) × TargetFits d scope target
  IsFine (assign _ _ (result path _)) = IsFineCall path
  IsFine (assign _ _ (plain _)) = Unit {0}
  IsFine (invoke path _) = IsFineCall path
  IsFine (repeat _ _ body) = (k : ℕ) → row_after after d scope body k ≡ None
  IsFine (forever _ body) = (k : ℕ) → row_after after d scope body k ≡ None
  IsFine (choose _ blocks) = (1 ≤ length (blocks_of blocks)) × ChoiceFits blocks
  IsFine _ = Unit {0}

  -- what is asked of each of some statements itself
  abbrev pub AreFine : List StmtTree → Type 0
  AreFine ss = AllByRecursion IsFine ss

  abbrev pub paths_of : StmtTree → Paths
  paths_of s = stmt_paths within c s

  abbrev pub paths_in : StmtRow → Paths
  paths_in row = row_paths within c row

  abbrev pub paths_among : BlockRow → Paths
  paths_among blocks = block_paths within c blocks

  -- the position behind a statement is that of one of its paths
  mutual
    pub stmt_comes : (s : StmtTree) → AreFine (s ∷ inner_stmts s) → (k : ℕ) →
        Comes k (paths_of s).across (stmt_after after d scope s k)
    stmt_comes (assign target _ (star _)) fine k =
        let bits = fine.0.0 in (star_bits c target, first_of, omega (arith, bits))
    stmt_comes (assign _ _ (result path _)) fine k = fine.0.comes k
    stmt_comes (assign _ _ (plain _)) fine k = (0, first_of, omega arith)
    stmt_comes (invoke path _) fine k = fine.0.comes k
    stmt_comes (branch _ a b) fine k =
        let parts = all_of_both IsFine (row_stmts a) (row_stmts b) fine.1 in
        comes_either k (paths_in a).across (paths_in b).across (row_after after d scope a k)
        (row_after after d scope b k) (row_comes a parts.0 k) (row_comes b parts.1 k)
    stmt_comes (repeat _ _ _) fine k = (0, first_of, omega arith)
    stmt_comes (forever _ _) fine k = refl
    stmt_comes (choose _ blocks) fine k =
        comes_then k (choice_bits blocks ∷ []) (paths_among blocks).across (Some (k + choice_bits blocks))
        (λ i. blocks_after after d scope blocks i) (choice_bits blocks, first_of, refl)
        (λ i. blocks_come blocks fine.1 i)
    stmt_comes (assert _ _) fine k = (0, first_of, omega arith)
    stmt_comes (assume _ _) fine k = (0, first_of, omega arith)
    stmt_comes (pause _) fine k = refl
    stmt_comes (wait _ _) fine k = refl
    stmt_comes (magic _) fine k = refl

    pub row_comes : (row : StmtRow) → AreFine (row_stmts row) → (k : ℕ) →
        Comes k (paths_in row).across (row_after after d scope row k)
    row_comes nothing fine k = (0, first_of, omega arith)
    row_comes (then first others) fine k =
        let parts = all_of_both IsFine (first ∷ inner_stmts first) (row_stmts others) fine in
        comes_then k (paths_of first).across (paths_in others).across (stmt_after after d scope first k)
        (λ i. row_after after d scope others i) (stmt_comes first parts.0 k) (λ i. row_comes others parts.1 i)

    blocks_come : (blocks : BlockRow) → AreFine (block_stmts blocks) → (k : ℕ) →
        Comes k (paths_among blocks).across (blocks_after after d scope blocks k)
    blocks_come nowhere fine k = refl
    blocks_come (or_else first others) fine k =
        let parts = all_of_both IsFine (row_stmts first) (block_stmts others) fine in
        comes_either k (paths_in first).across (paths_among others).across (row_after after d scope first k)
        (blocks_after after d scope others k) (row_comes first parts.0 k) (blocks_come others parts.1 k)

  -- no path leads across the body of a loop
  pub none_across : (body : StmtRow) → AreFine (row_stmts body) → ((k : ℕ) → row_after after d scope body k ≡ None) →
      (paths_in body).across ≡ []
  none_across body fine never = subst (Comes 0 (paths_in body).across) (never 0) (row_comes body fine 0)

  -- from the start of each part a path leads on
  mutual
    pub stmt_leads : (s : StmtTree) → AreFine (s ∷ inner_stmts s) → LeadsOn (paths_of s)
    stmt_leads (assign target _ (star _)) fine = inl (star_bits c target, first_of)
    stmt_leads (assign _ _ (result path _)) fine = fine.0.leads
    stmt_leads (assign _ _ (plain _)) fine = inl (0, first_of)
    stmt_leads (invoke path _) fine = fine.0.leads
    stmt_leads (branch _ a b) fine =
        leads_first (paths_in a) (paths_in b)
        (row_leads a (all_of_both IsFine (row_stmts a) (row_stmts b) fine.1).0)
    stmt_leads (repeat _ _ _) fine = inl (0, first_of)
    stmt_leads (forever _ body) fine =
        inr (leads_inward (paths_in body) (none_across body fine.1 fine.0) (row_leads body fine.1))
    stmt_leads (choose _ blocks) fine =
        leads_then (choosing (choice_bits blocks)) (paths_among blocks) (inl (choice_bits blocks, first_of))
        (blocks_lead blocks fine.0.0 fine.1)
    stmt_leads (assert _ _) fine = inl (0, first_of)
    stmt_leads (assume _ _) fine = inl (0, first_of)
    stmt_leads (pause _) fine = inr (0, first_of)
    stmt_leads (wait _ _) fine = inr (0, first_of)
    stmt_leads (magic _) fine = inr (0, first_of)

    pub row_leads : (row : StmtRow) → AreFine (row_stmts row) → LeadsOn (paths_in row)
    row_leads nothing fine = inl (0, first_of)
    row_leads (then first others) fine =
        let parts = all_of_both IsFine (first ∷ inner_stmts first) (row_stmts others) fine in
        leads_then (paths_of first) (paths_in others) (stmt_leads first parts.0) (row_leads others parts.1)

    pub blocks_lead : (blocks : BlockRow) → 1 ≤ length (blocks_of blocks) → AreFine (block_stmts blocks) →
        LeadsOn (paths_among blocks)
    blocks_lead nowhere some fine = absurd (omega (arith, some))
    blocks_lead (or_else first others) some fine =
        leads_first (paths_in first) (paths_among others)
        (row_leads first (all_of_both IsFine (row_stmts first) (block_stmts others) fine).0)

  -- a loop's body stays within the room, since no path leads across it
  pub body_stays : (body : StmtRow) → AreFine (row_stmts body) → ((k : ℕ) → row_after after d scope body k ≡ None) →
      (k : ℕ) → ((m : ℕ) → In m (paths_in body).inward → k + m ≤ room) → Stays k (paths_in body)
  body_stays body fine never k inward = record {
    across = λ m i. absurd (nowhere (subst (λ l. In m l) (none_across body fine never) i));
    inward = inward;
  }
    where
      nowhere : {m : ℕ} → In m [] → ⊥
      nowhere i = elim i [ ]

  -- what stands behind a statement, from where that comes to
  rest_fits : (first : StmtTree) (others : StmtRow) (k : ℕ) → Stays k (in_row (paths_of first) (paths_in others)) →
      ((j : ℕ) → Stays j (paths_in others) → RowFits room after Fits d scope others j) → (o : Option ℕ) →
      Comes k (paths_of first).across o → MatchOption o (Unit {0}) (λ i. RowFits room after Fits d scope others i)
  rest_fits first others k stays fits None from = tt
  rest_fits first others k stays fits (Some j) from =
      fits j (stays_behind k j (paths_of first) (paths_in others) stays from)

  -- statements fit, where their paths stay within the room
  mutual
    pub stmt_fits : (s : StmtTree) → AreFine (s ∷ inner_stmts s) → (k : ℕ) → Stays k (paths_of s) →
        StmtFits room after Fits d scope s k
    stmt_fits (assign _ _ (star _)) fine k stays = fine.0.1
    stmt_fits (assign _ _ (result path _)) fine k stays = fine.0.fits k stays
    stmt_fits (assign _ _ (plain _)) fine k stays = tt
    stmt_fits (invoke path _) fine k stays = fine.0.fits k stays
    stmt_fits (branch _ a b) fine k stays =
        let parts = all_of_both IsFine (row_stmts a) (row_stmts b) fine.1 in (
          row_fits a parts.0 k (stays_first k (paths_in a) (paths_in b) stays),
          row_fits b parts.1 k (stays_second k (paths_in a) (paths_in b) stays),
        )
    stmt_fits (repeat _ _ body) fine k stays =
        (fine.0 k, row_fits body fine.1 k (body_stays body fine.1 fine.0 k stays.inward))
    stmt_fits (forever _ body) fine k stays =
        (fine.0 k, row_fits body fine.1 k (body_stays body fine.1 fine.0 k stays.inward))
    stmt_fits (choose _ blocks) fine k stays =
        let behind = stays_behind k (k + choice_bits blocks) (choosing (choice_bits blocks)) (paths_among blocks) stays
        (choice_bits blocks, first_of, refl) in (
          fine.0.1,
          starts_within (k + choice_bits blocks) (paths_among blocks) behind (blocks_lead blocks fine.0.0 fine.1),
          blocks_fit blocks fine.1 (k + choice_bits blocks) behind,
        )
    stmt_fits (assert _ _) fine k stays = tt
    stmt_fits (assume _ _) fine k stays = tt
    stmt_fits (pause _) fine k stays = tt
    stmt_fits (wait _ _) fine k stays = tt
    stmt_fits (magic _) fine k stays = tt

    pub row_fits : (row : StmtRow) → AreFine (row_stmts row) → (k : ℕ) → Stays k (paths_in row) →
        RowFits room after Fits d scope row k
    row_fits nothing fine k stays = let here = stays.across 0 first_of in omega (arith, here)
    row_fits (then first others) fine k stays =
        let parts = all_of_both IsFine (first ∷ inner_stmts first) (row_stmts others) fine in
        let on = row_leads others parts.1 in (
          starts_within k (paths_in (then first others)) stays (row_leads (then first others) fine),
          stmt_fits first parts.0 k (stays_before k (paths_of first) (paths_in others) stays on),
          rest_fits first others k stays (λ j behind. row_fits others parts.1 j behind)
              (stmt_after after d scope first k) (stmt_comes first parts.0 k),
        )

    blocks_fit : (blocks : BlockRow) → AreFine (block_stmts blocks) → (k : ℕ) → Stays k (paths_among blocks) →
        BlocksFit room after Fits d scope blocks k
    blocks_fit nowhere fine k stays = tt
    blocks_fit (or_else first others) fine k stays =
        let parts = all_of_both IsFine (row_stmts first) (block_stmts others) fine in (
          row_fits first parts.0 k (stays_first k (paths_in first) (paths_among others) stays),
          blocks_fit others parts.1 k (stays_second k (paths_in first) (paths_among others) stays),
        )
