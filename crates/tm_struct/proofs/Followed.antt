-- The table, one block after another.
use Rattle.std.proofs.Common.{◌≡◌, ◌≢◌, ℕ, zero, suc, ◌+◌, ◌*◌, ◌-◌, ◌^◌, ◌<◌, ◌≤◌, Bool, true, false, Option, None, Some, List, [], ◌∷◌, ◌++◌, length, replicate, slice_get, refl, sym, ap, subst, ◌∙◌, arith}
use Rattle.std.proofs.lemmas.List.{get_or-set_other, length-map}
use Rattle.std.proofs.lemmas.Grind.{replicate_next}
use Rattle.tm_cir.specs.declared.block.Block.{Block}
use Rattle.tm_cir.specs.Tree.{TruthTree, BlockTree, test, call, leave, idle}
use Rattle.tm_cir.specs.View.{block_tree, block_trees}
use Rattle.tm_struct.specs.declared.reaching.Reach.{Reach}
use Rattle.tm_struct.specs.declared.reaching.Reach.TheVariants.{Never, Once, Often}
use Rattle.tm_struct.specs.Shape.{Leads, first, second, IsReached, IsBranch}
use Rattle.tm_struct.specs.Inner.Reaching.{LeadOn, branches_of, reach_at, ifs_inside, marked, both_marked, branch_number, IsTable}
use Rattle.tm_struct.proofs.Pushed.{same_some}
use Rattle.tm_struct.proofs.Table.{IsTest, tested, number_same, none_more, one_more, reached_so, told_reached, begun}

-- one more block that is not reached
pub unreached_more : (k : ℕ) (xs ys : List Reach) → 1 ≤ k → xs ≡ Once 0 ∷ replicate (k - 1) Never →
    ys ≡ xs ++ Never ∷ [] → ys ≡ Once 0 ∷ replicate (k + 1 - 1) Never
unreached_more k xs ys some is put =
    let next : k - 1 + 1 ≡ k + 1 - 1 = omega (arith, some) in
    put ∙ ap (λ (l : List Reach). l ++ Never ∷ []) is
    ∙ ap (λ (l : List Reach). Once 0 ∷ l) (sym (replicate_next (k - 1) Never))
    ∙ ap (λ (n : ℕ). Once 0 ∷ replicate n Never) next

-- the table before any block
pub table_begins : (bs : List Block) (rs : List Reach) → LeadOn (block_trees bs) →
    rs ≡ Once 0 ∷ replicate (length bs - 1) Never → IsTable (block_trees bs) rs 0
table_begins bs rs on is =
    subst (λ (l : List Reach). IsTable (block_trees bs) l 0)
    (sym (is ∙ ap (λ (n : ℕ). Once 0 ∷ replicate (n - 1) Never) (sym (length-map bs block_tree))))
    (begun (block_trees bs) on)

-- and behind all
pub table_ends : (bs : List Block) (rs : List Reach) (at : ℕ) → at ≡ length bs →
    IsTable (block_trees bs) rs (2 * at) → IsTable (block_trees bs) rs (2 * length (block_trees bs))
table_ends bs rs at all table =
    subst (λ (n : ℕ). IsTable (block_trees bs) rs (2 * n)) (all ∙ sym (length-map bs block_tree)) table

module _ (bs : List BlockTree) (on : LeadOn bs) (rs : List Reach) (at : ℕ) (within : at < length bs)
    (table : IsTable bs rs (2 * at)) (b : BlockTree) (is : slice_get bs at ≡ Some b) where
  -- no branch of the block is reached
  none_twice : ((to : ℕ) (branch : Bool) → ¬ IsBranch bs to at branch) → IsTable bs rs (2 * (at + 1))
  none_twice none =
      let twice : 2 * at + 1 + 1 ≡ 2 * (at + 1) = omega arith in
      subst (IsTable bs rs) twice
      (none_more bs rs (2 * at + 1)
      (none_more bs rs (2 * at) table (λ to from branch leads same. of to from branch true leads same))
      (λ to from branch leads same. of to from branch false leads same))
    where
      of : (to from : ℕ) (branch side : Bool) → IsBranch bs to from branch →
          branch_number from branch ≡ branch_number at side → ⊥
      of to from branch side leads same =
          let number = number_same from at branch side same in
          none to branch (subst (λ (x : ℕ). IsBranch bs to x branch) number.0 leads)

  no_branch : branches_of b ≡ None → (to : ℕ) (branch : Bool) → ¬ IsBranch bs to at branch
  no_branch none to branch leads =
      let tests = tested bs at branch to leads.leads in
      let wrong : None ≡ Some (tests.one, tests.other) =
      sym none ∙ ap branches_of (same_some b _ (sym is ∙ tests.is)) in
      cc

  -- the block is no test
  pub followed_other : None ≡ branches_of b → IsTable bs rs (2 * (at + 1))
  followed_other none = none_twice (no_branch (sym none))

  leads_one : (b c : ℕ) (x : BlockTree) → slice_get bs at ≡ Some x → branches_of x ≡ Some (b, c) →
      (t : TruthTree) × (slice_get bs at ≡ Some (test t b c))
  leads_one f s (test t i j) there same =
      let pair : (i, j) ≡ (f, s) = same_some (i, j) (f, s) same in
      let one : i ≡ f = ap (λ (p : ℕ × ℕ). p.0) pair in
      let other : j ≡ s = ap (λ (p : ℕ × ℕ). p.1) pair in
      (t, there ∙ ap (λ (n : ℕ). Some (test t n j)) one ∙ ap (λ (n : ℕ). Some (test t f n)) other)
  leads_one f s (call task args) there same = absurd (cc)
  leads_one f s (leave p) there same = absurd (cc)
  leads_one f s idle there same = absurd (cc)

  -- both branches lead to blocks of the table
  pub both_within : (f s : ℕ) → Some (f, s) ≡ branches_of b → (f < length rs) × (s < length rs)
  both_within f s leads =
      let found = leads_one f s b is (sym leads) in
      let later = on.later at f s found.0 found.1 in
      (omega (arith, later.1, table.long), omega (arith, later.3, table.long))

  -- the block is a test
  pub followed_test : (f s : ℕ) (after : List Reach) → Some (f, s) ≡ branches_of b → f < 2 ^ 32 → s < 2 ^ 32 →
      after ≡ both_marked (ifs_inside (reach_at rs at)) rs f s → IsTable bs after (2 * (at + 1))
  followed_test f s after leads low high made = of (reach_at rs at) refl
    where
      found : (t : TruthTree) × (slice_get bs at ≡ Some (test t f s))
      found = leads_one f s b is (sym leads)

      later : (at < f) × (f < length bs) × (at < s) × (s < length bs)
      later = on.later at f s found.0 found.1

      marked_twice : (inside : ℕ) → ifs_inside (reach_at rs at) ≡ Some inside → reach_at rs at ≢ Never →
          IsTable bs after (2 * (at + 1))
      marked_twice inside told reached =
          let here : IsReached bs at = reached_so bs on rs (2 * at) table at within reached in
          let one : IsTable bs (marked rs f inside) (2 * at + 1) =
          one_more bs rs on (2 * at) table at f true (record { reached = here; leads = first found.1 }) refl inside told
          low in
          let still : ifs_inside (reach_at (marked rs f inside) at) ≡ Some inside =
          ap ifs_inside (get_or-set_other rs f at _ Never (omega (arith, later.0))) ∙ told in
          let two : IsTable bs (marked (marked rs f inside) s inside) (2 * at + 1 + 1) =
          one_more bs (marked rs f inside) on (2 * at + 1) one at s false
          (record { reached = here; leads = second found.1 }) refl inside still high in
          let twice : 2 * at + 1 + 1 ≡ 2 * (at + 1) = omega arith in
          subst (λ (l : List Reach). IsTable bs l (2 * (at + 1)))
          (sym (made ∙ ap (λ (o : Option ℕ). both_marked o rs f s) told))
          (subst (IsTable bs (marked (marked rs f inside) s inside)) twice two)

      of : (r : Reach) → reach_at rs at ≡ r → IsTable bs after (2 * (at + 1))
      of Never never =
          subst (λ (l : List Reach). IsTable bs l (2 * (at + 1)))
          (sym (made ∙ ap (λ (o : Option ℕ). both_marked o rs f s) (ap ifs_inside never)))
          (none_twice (λ to branch leads. told_reached bs on rs (2 * at) table at within (omega arith) leads.reached
          never))
      of (Once around) so =
          marked_twice _ (ap ifs_inside so) (λ never. let wrong : Once around ≡ Never = sym so ∙ never in cc)
      of Often so = marked_twice 1 (ap ifs_inside so) (λ never. let wrong : Often ≡ Never = sym so ∙ never in cc)
