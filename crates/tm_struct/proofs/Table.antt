-- The table of how blocks are reached, one branch after another.
use Rattle.std.proofs.Common.{◌≡◌, ◌≢◌, ℕ, zero, suc, ◌+◌, ◌*◌, ◌-◌, ◌^◌, ◌<◌, ◌≤◌, ◌⊎◌, inl, inr, Bool, true, false, Option, None, Some, List, [], ◌∷◌, length, replicate, slice_get, set, get_or, refl, sym, ap, subst, ◌∙◌, arith}
use Rattle.std.proofs.lemmas.List.{length-replicate, length-set, get_or-set_same, get_or-set_other}
use Rattle.tm_cir.specs.Tree.{TruthTree, BlockTree, test}
use Rattle.tm_struct.specs.declared.reaching.Reach.{Reach}
use Rattle.tm_struct.specs.declared.reaching.Reach.TheVariants.{Never, Once, Often}
use Rattle.tm_struct.specs.Shape.{Leads, first, second, IsReached, begins, goes_on, IsBranch}
use Rattle.tm_struct.specs.Inner.Reaching.{LeadOn, reach_at, ifs_inside, once_more, marked, both_marked, branch_number, IsFollowed, HasOne, HasTwo, Tells, IsTable}
use Rattle.tm_struct.proofs.Pushed.{is_one, below_next, same_or_not}

-- where a branch leads
abbrev target : Bool → ℕ → ℕ → ℕ
target true one other = one
target false one other = other

pub record IsTest (bs : List BlockTree) (from : ℕ) (branch : Bool) (at : ℕ) : Type 0 where
  pub truth : TruthTree
  pub one : ℕ
  pub other : ℕ
  pub is : slice_get bs from ≡ Some (test truth one other)
  pub to : at ≡ target branch one other

pub tested : (bs : List BlockTree) (from : ℕ) (branch : Bool) (at : ℕ) → Leads bs from branch at →
    IsTest bs from branch at
tested bs from _ at (first {t = t} {other = other} is) =
    record { truth = t; one = at; other = other; is = is; to = refl }
tested bs from _ at (second {t = t} {other = other} is) =
    record { truth = t; one = other; other = at; is = is; to = refl }

-- a branch leads to one block
pub leads_once : (bs : List BlockTree) (from : ℕ) (branch : Bool) (at next : ℕ) → Leads bs from branch at →
    Leads bs from branch next → at ≡ next
leads_once bs from branch at next one other =
    let x = tested bs from branch at one in
    let y = tested bs from branch next other in
    let same : test x.truth x.one x.other ≡ test y.truth y.one y.other =
    is_one (slice_get bs from) _ _ x.is y.is in
    let ones : x.one ≡ y.one = cc in
    let others : x.other ≡ y.other = cc in
    x.to ∙ ap (λ n. target branch n x.other) ones ∙ ap (λ n. target branch y.one n) others ∙ sym y.to

-- and to a later one that there is
pub leads_later : (bs : List BlockTree) → LeadOn bs → (from : ℕ) (branch : Bool) (at : ℕ) → Leads bs from branch at →
    (from < at) × (at < length bs)
leads_later bs on from _ at (first {t = t} {other = other} is) =
    let later = on.later from at other t is in (later.0, later.1)
leads_later bs on from _ at (second {t = t} {other = other} is) =
    let later = on.later from other at t is in (later.2, later.3)

-- branches are told by their numbers
pub number_same : (a b : ℕ) (p q : Bool) → branch_number a p ≡ branch_number b q → (a ≡ b) × (p ≡ q)
number_same a b true true same = (omega arith, refl)
number_same a b true false same = absurd (omega arith)
number_same a b false true same = absurd (omega arith)
number_same a b false false same = (omega arith, refl)

number_low : (a : ℕ) (p : Bool) → (2 * a ≤ branch_number a p) × (branch_number a p ≤ 2 * a + 1)
number_low a true = (omega arith, omega arith)
number_low a false = (omega arith, omega arith)

followed_more : {bs : List BlockTree} {n at from : ℕ} {branch : Bool} → IsFollowed bs n at from branch →
    IsFollowed bs (n + 1) at from branch
followed_more f = record { is = f.is; below = omega (arith, f.below) }

followed_cases : (bs : List BlockTree) (n at from : ℕ) (branch : Bool) → IsFollowed bs (n + 1) at from branch →
    (IsFollowed bs n at from branch) ⊎ (branch_number from branch ≡ n)
followed_cases bs n at from branch f = of (below_next (branch_number from branch) n f.below)
  where
    of : (branch_number from branch < n) ⊎ (branch_number from branch ≡ n) →
        (IsFollowed bs n at from branch) ⊎ (branch_number from branch ≡ n)
    of (inl below) = inl (record { is = f.is; below = below })
    of (inr same) = inr same

-- the two branches to a block stay
two_more : {bs : List BlockTree} {n at : ℕ} → HasTwo bs n at → HasTwo bs (n + 1) at
two_more two = record {
  one = two.one;
  one_branch = two.one_branch;
  other = two.other;
  other_branch = two.other_branch;
  is = followed_more two.is;
  also = followed_more two.also;
  differ = two.differ;
}

-- what the table tells of a block to which the next branch does not lead, where the tests that were followed are
-- reached as before
tells_still : (bs : List BlockTree) (rs ss : List Reach) (n at : ℕ) (r : Reach) →
    ((k : ℕ) → 2 * k ≤ n → reach_at ss k ≡ reach_at rs k) →
    ((from : ℕ) (branch : Bool) → IsBranch bs at from branch → branch_number from branch ≡ n → ⊥) →
    Tells bs rs n at r → Tells bs ss (n + 1) at r
tells_still bs rs ss n at Never same none tells =
    (tells.0, λ from branch f. of from branch f (followed_cases bs n at from branch f))
  where
    of : (from : ℕ) (branch : Bool) → IsFollowed bs (n + 1) at from branch →
        (IsFollowed bs n at from branch) ⊎ (branch_number from branch ≡ n) → ⊥
    of from branch f (inl before) = tells.1 from branch before
    of from branch f (inr now) = none from branch f.is now
tells_still bs rs ss n at (Once inside) same none (inl begun) = inl begun
tells_still bs rs ss n at (Once inside) same none (inr one) =
    inr
    (record {
      from = one.from;
      branch = one.branch;
      followed = followed_more one.followed;
      inside_is = ap ifs_inside
          (same one.from (omega (arith, one.followed.below, (number_low one.from one.branch).0))) ∙ one.inside_is;
      only = λ other side f. of other side f (followed_cases bs n at other side f);
    })
  where
    of : (other : ℕ) (side : Bool) → IsFollowed bs (n + 1) at other side →
        (IsFollowed bs n at other side) ⊎ (branch_number other side ≡ n) → (other ≡ one.from) × (side ≡ one.branch)
    of other side f (inl before) = one.only other side before
    of other side f (inr now) = absurd (none other side f.is now)
tells_still bs rs ss n at Often same none tells = two_more tells

-- the next branch is none that is reached
pub none_more : (bs : List BlockTree) (rs : List Reach) (n : ℕ) → IsTable bs rs n →
    ((at from : ℕ) (branch : Bool) → IsBranch bs at from branch → branch_number from branch ≡ n → ⊥) →
    IsTable bs rs (n + 1)
none_more bs rs n table none = record {
  long = table.long;
  tells = λ at within.
      tells_still bs rs rs n at (reach_at rs at) (λ k few. refl) (none at) (table.tells at within);
  small = table.small;
}

module _ (bs : List BlockTree) (rs : List Reach) (on : LeadOn bs) (n : ℕ) (table : IsTable bs rs n)
    (from goal : ℕ) (branch : Bool) (is : IsBranch bs goal from branch) (number : branch_number from branch ≡ n)
    (inside : ℕ) (inside_is : ifs_inside (reach_at rs from) ≡ Some inside) (small : goal < 2 ^ 32) where
  later : (from < goal) × (goal < length bs)
  later = leads_later bs on from branch goal is.leads

  abbrev after : List Reach
  after = marked rs goal inside

  same_before : (k : ℕ) → 2 * k ≤ n → reach_at after k ≡ reach_at rs k
  same_before k few =
      let other : k ≢ goal = omega (arith, later.0, number, (number_low from branch).1) in
      get_or-set_other rs goal k _ Never other

  here : reach_at after goal ≡ once_more (reach_at rs goal) inside
  here = get_or-set_same rs goal _ Never (omega (arith, later.1, table.long))

  followed_now : IsFollowed bs (n + 1) goal from branch
  followed_now = record { is = is; below = omega (arith, number) }

  -- another branch that was followed differs from this one
  differs : (a : ℕ) (p : Bool) → branch_number a p < n → (a ≢ from) ⊎ (p ≢ branch)
  differs a p below = of (same_or_not a from)
    where
      of : (a ≡ from) ⊎ (a ≡ from → ⊥) → (a ≢ from) ⊎ (p ≢ branch)
      of (inr not) = inl not
      of (inl same) =
          inr (λ also.
          let numbers : branch_number a p ≡ branch_number from branch =
          ap (λ x. branch_number x p) same ∙ ap (branch_number from) also in
          omega (arith, numbers, number, below))

  -- what the table tells of the block to which the branch leads
  tells_here : (r : Reach) → Tells bs rs n goal r → Tells bs after (n + 1) goal (once_more r inside)
  tells_here Never tells =
      inr
      (record {
        from = from;
        branch = branch;
        followed = followed_now;
        inside_is = ap ifs_inside (same_before from (omega (arith, number, (number_low from branch).0))) ∙ inside_is;
        only = λ other side f. of other side f (followed_cases bs n goal other side f);
      })
    where
      of : (other : ℕ) (side : Bool) → IsFollowed bs (n + 1) goal other side →
          (IsFollowed bs n goal other side) ⊎ (branch_number other side ≡ n) → (other ≡ from) × (side ≡ branch)
      of other side f (inl before) = absurd (tells.1 other side before)
      of other side f (inr now) = number_same other from side branch (now ∙ sym number)
  tells_here (Once around) (inl begun) = absurd (omega (arith, begun.0, later.0))
  tells_here (Once around) (inr one) = record {
    one = one.from;
    one_branch = one.branch;
    other = from;
    other_branch = branch;
    is = followed_more one.followed;
    also = followed_now;
    differ = differs one.from one.branch one.followed.below;
  }
  tells_here Often tells = two_more tells

  tells_of : (at : ℕ) → at < length bs → (at ≡ goal) ⊎ (at ≡ goal → ⊥) →
      Tells bs after (n + 1) at (reach_at after at)
  tells_of at within (inl same) =
      subst (λ (x : ℕ). Tells bs after (n + 1) x (reach_at after x)) (sym same)
      (subst (Tells bs after (n + 1) goal) (sym here)
      (tells_here (reach_at rs goal) (table.tells goal later.1)))
  tells_of at within (inr not) =
      subst (Tells bs after (n + 1) at) (sym (apart at not))
      (tells_still bs rs after n at (reach_at rs at) same_before
      (λ other side b now.
      let same = number_same other from side branch (now ∙ sym number) in
      not (leads_once bs from branch at goal
      (subst (λ (x : ℕ). Leads bs x branch at) same.0
      (subst (λ (x : Bool). Leads bs other x at) same.1 b.leads)) is.leads))
      (table.tells at within))
    where
      apart : (k : ℕ) → (k ≡ goal → ⊥) → reach_at after k ≡ reach_at rs k
      apart k not = get_or-set_other rs goal k _ Never not

  small_of : (at : ℕ) → (at ≡ goal) ⊎ (at ≡ goal → ⊥) → reach_at after at ≢ Never → at < 2 ^ 32
  small_of at (inl same) reached = subst (λ (x : ℕ). x < 2 ^ 32) (sym same) small
  small_of at (inr not) reached =
      table.small at (λ never. reached (get_or-set_other rs goal at _ Never not ∙ never))

  -- the next branch leads to this block
  pub one_more : IsTable bs (marked rs goal inside) (n + 1)
  one_more = record {
    long = length-set rs goal _ ∙ table.long;
    tells = λ at within. tells_of at within (same_or_not at goal);
    small = λ at reached. small_of at (same_or_not at goal) reached;
  }

never_there : (n k : ℕ) → get_or (replicate n Never) k Never ≡ Never
never_there zero k = refl
never_there (suc n) zero = refl
never_there (suc n) (suc k) = never_there n k

-- nothing was followed yet
pub begun : (bs : List BlockTree) → LeadOn bs → IsTable bs (Once 0 ∷ replicate (length bs - 1) Never) 0
begun bs on = record {
  long = let e = length-replicate (length bs - 1) Never in omega (arith, e, on.some);
  tells = λ at within. tells at;
  small = λ at reached. small at reached;
}
  where
    tells : (at : ℕ) →
        Tells bs (Once 0 ∷ replicate (length bs - 1) Never) 0 at
        (reach_at (Once 0 ∷ replicate (length bs - 1) Never) at)
    tells zero = inl (refl, refl)
    tells (suc k) =
        subst (Tells bs (Once 0 ∷ replicate (length bs - 1) Never) 0 (suc k))
        (sym (never_there (length bs - 1) k))
        ((λ zero_is. omega (arith, zero_is)), (λ from branch f. omega (arith, f.below)))

    small : (at : ℕ) → reach_at (Once 0 ∷ replicate (length bs - 1) Never) at ≢ Never → at < 2 ^ 32
    small zero reached = omega arith
    small (suc k) reached = absurd (reached (never_there (length bs - 1) k))

-- a block is reached exactly where the table tells so, once all branches of earlier tests were followed
pub reached_so : (bs : List BlockTree) → LeadOn bs → (rs : List Reach) (n : ℕ) → IsTable bs rs n → (at : ℕ) →
    at < length bs → reach_at rs at ≢ Never → IsReached bs at
reached_so bs on rs n table at within reached = of (reach_at rs at) refl (table.tells at within)
  where
    of : (r : Reach) → reach_at rs at ≡ r → Tells bs rs n at r → IsReached bs at
    of Never is tells = absurd (reached is)
    of (Once inside) is (inl start) = subst (IsReached bs) (sym start.0) begins
    of (Once inside) is (inr one) = goes_on one.followed.is.reached one.followed.is.leads
    of Often is two = goes_on two.is.is.reached two.is.is.leads

pub told_reached : (bs : List BlockTree) → LeadOn bs → (rs : List Reach) (n : ℕ) → IsTable bs rs n → (at : ℕ) →
    at < length bs → 2 * at ≤ n → IsReached bs at → reach_at rs at ≢ Never
told_reached bs on rs n table at within few reached never =
    of at reached few (subst (Tells bs rs n at) never (table.tells at within))
  where
    of : (x : ℕ) → IsReached bs x → 2 * x ≤ n → Tells bs rs n x Never → ⊥
    of _ begins some tells = tells.0 refl
    of x (goes_on {from = from} {branch = branch} before leads) some tells =
        tells.1 from branch
        (record {
          is = record { reached = before; leads = leads };
          below = omega (arith, some, (number_low from branch).1, (leads_later bs on from branch x leads).0);
        })
