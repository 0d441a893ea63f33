-- The shape of blocks has each call and each leave that is reached once.
use Rattle.std.proofs.Common.{◌≡◌, ◌≢◌, ℕ, zero, suc, ◌+◌, ◌<◌, ◌≤◌, ◌↔◌, ◌⊎◌, inl, inr, Bool, true, false, true≢false, Option, None, Some, List, [], ◌∷◌, ◌++◌, length, get_or, slice_get, sum_by, refl, sym, ap, subst, ◌∙◌, length-append, arith}
use Rattle.std.proofs.lemmas.Bool.{cases_lt}
use Rattle.std.proofs.lemmas.List.Sums.{sum_by-cons}
use Rattle.std.proofs.lemmas.Option.{slice_get_within, slice_get-get_or}
use Rattle.tm_syntax.specs.Design.{DesignTree}
use Rattle.tm_cir.specs.Tree.{NumTree, TruthTree, BlockTree, test}
use Rattle.tm_cir.specs.Tree as blocks
use Rattle.tm_cir.specs.Fit.{FitBlocks}
use Rattle.tm_struct.specs.Tree.{ActionTree, choose, call, leave, go, idle, ProgramTree}
use Rattle.tm_struct.specs.Shape.{Leads, first, second, IsReached, begins, goes_on, IsBranch, IsShared, IsFunction, IsTooDeep, BecomesFunction, IsWritten, tests, calls, leaves, idles, IsNamed, by_name, in_place, IsShape, moves_in, move_count, IsMove, IsReachedMove, HasMoves}
use Rattle.tm_struct.specs.Inner.Reaching.{LeadOn}
use Rattle.tm_struct.proofs.Listed.{In, Once, in_behind, IsBehind, in_either, once_append, only_one, either, nothing_in, from_left, from_right}
use Rattle.tm_struct.proofs.Pushed.{is_one, same_or_not}
use Rattle.tm_struct.proofs.Shaped.{lead_on}
use Rattle.tm_struct.proofs.Table.{IsTest, tested, leads_once, leads_later}

-- whether a block is that of a function
function_or_not : (order : List ℕ) (at : ℕ) → IsFunction order at ⊎ (¬ IsFunction order at)
function_or_not [] at = inr (λ there. let wrong : None ≡ Some at = there.1 in cc)
function_or_not (x ∷ order) at = of (same_or_not x at) (function_or_not order at)
  where
    of : (x ≡ at) ⊎ (x ≡ at → ⊥) → IsFunction order at ⊎ (¬ IsFunction order at) →
        IsFunction (x ∷ order) at ⊎ (¬ IsFunction (x ∷ order) at)
    of (inl same) rest = inl (0, ap Some same)
    of (inr not) (inl there) = inl (suc there.0, there.1)
    of (inr not) (inr none) = inr (λ there. nowhere there.0 there.1)
      where
        nowhere : (k : ℕ) → slice_get (x ∷ order) k ≡ Some at → ⊥
        nowhere zero is = not (let same : x ≡ at = is_one (Some x) x at refl is in same)
        nowhere (suc k) is = none (k, is)

-- the calls and leaves that are written for a block
abbrev mutual
  listed : {bs : List BlockTree} {order : List ℕ} {at : ℕ} {a : ActionTree} → IsWritten bs order at a → List ℕ
  listed (tests is one other) = listed_named one ++ listed_named other
  listed {at = at} (calls is) = at ∷ []
  listed {at = at} (leaves is) = at ∷ []
  listed (idles is) = []

  listed_named : {bs : List BlockTree} {order : List ℕ} {at : ℕ} {a : ActionTree} → IsNamed bs order at a → List ℕ
  listed_named (by_name is) = []
  listed_named (in_place not written) = listed written

mutual
  listed_long : {bs : List BlockTree} {order : List ℕ} {at : ℕ} {a : ActionTree} (w : IsWritten bs order at a) →
      length (listed w) ≡ moves_in a
  listed_long (tests is one other) =
      omega (arith, length-append (listed_named one) (listed_named other), named_long one, named_long other)
  listed_long (calls is) = refl
  listed_long (leaves is) = refl
  listed_long (idles is) = refl

  named_long : {bs : List BlockTree} {order : List ℕ} {at : ℕ} {a : ActionTree} (n : IsNamed bs order at a) →
      length (listed_named n) ≡ moves_in a
  named_long (by_name is) = refl
  named_long (in_place not written) = listed_long written

-- a block is written within the tree of another one
data Owns (bs : List BlockTree) (order : List ℕ) (root : ℕ) : ℕ → Type 0 where
  here : Owns bs order root root
  below : {x y : ℕ} {branch : Bool} → Owns bs order root y → IsBranch bs x y branch → ¬ IsFunction order x →
      Owns bs order root x

-- what is written for a part of a tree is written for the tree
record IsPart (bs : List BlockTree) (order : List ℕ) (x : ℕ) (whole : List ℕ) : Type 0 where
  action : ActionTree
  written : IsWritten bs order x action
  within : (y : ℕ) → In y (listed written) → In y whole

-- a call or a leave that is written for one of the functions
record IsFound (bs : List BlockTree) (order os : List ℕ) (x : ℕ) : Type 0 where
  number : ℕ
  root : ℕ
  is : slice_get os number ≡ Some root
  owns : Owns bs order root x
  move : IsReachedMove bs x

module _ (bs : List BlockTree) (on : LeadOn bs) (order : List ℕ)
    (chosen : (at : ℕ) → IsFunction order at ↔ BecomesFunction bs order at) where
  -- a block that is not idle
  abbrev Busy : ℕ → Type 0
  Busy x = slice_get bs x ≢ Some blocks.idle

  leader_busy : {x y : ℕ} {branch : Bool} → IsBranch bs x y branch → Busy y
  leader_busy {x} {y} {branch} b nothing =
      let tests = tested bs y branch x b.leads in
      let wrong : test tests.truth tests.one tests.other ≡ blocks.idle =
      is_one (slice_get bs y) _ _ tests.is nothing in
      cc

  -- one branch leads to a block that is written in place and not idle
  one_branch : {x a b : ℕ} {p q : Bool} → Busy x → ¬ IsFunction order x → IsBranch bs x a p → IsBranch bs x b q →
      (a ≡ b) × (p ≡ q)
  one_branch {x} {a} {b} {p} {q} busy not one other = of (same_or_not a b) p q refl refl
    where
      shared : (a ≢ b) ⊎ (p ≢ q) → ⊥
      shared differ =
          not ((chosen x).1
          (record {
            reached = goes_on one.reached one.leads;
            busy = busy;
            why = inl
                (record {
                  one = a;
                  one_branch = p;
                  other = b;
                  other_branch = q;
                  is = one;
                  also = other;
                  differ = differ;
                });
          }))

      of : (a ≡ b) ⊎ (a ≡ b → ⊥) → (v w : Bool) → p ≡ v → q ≡ w → (a ≡ b) × (p ≡ q)
      of (inr differs) v w pv qw = absurd (shared (inl differs))
      of (inl same) true true pv qw = (same, pv ∙ sym qw)
      of (inl same) false false pv qw = (same, pv ∙ sym qw)
      of (inl same) true false pv qw = absurd (shared (inr (λ e. true≢false (sym pv ∙ e ∙ qw))))
      of (inl same) false true pv qw = absurd (shared (inr (λ e. true≢false (sym qw ∙ sym e ∙ pv))))

  owns_low : {r x : ℕ} → Owns bs order r x → r ≤ x
  owns_low here = omega arith
  owns_low (below {x = x} {y = y} {branch = branch} o b not) =
      omega (arith, owns_low o, (leads_later bs on y branch x b.leads).0)

  owner_busy : {r x : ℕ} → Owns bs order r x → Busy x → Busy r
  owner_busy here busy = busy
  owner_busy (below o b not) busy = owner_busy o (leader_busy b)

  -- of two blocks in whose trees a block is written, one is written in the other's tree
  meet : {i j x : ℕ} → Busy x → Owns bs order i x → Owns bs order j x → Owns bs order i j ⊎ Owns bs order j i
  meet busy here other = inr other
  meet busy (below o b not) here = inl (below o b not)
  meet {j = j} busy (below o b not) (below p c _) =
      let same = (one_branch busy not b c).0 in
      meet (leader_busy b) o (subst (Owns bs order j) (sym same) p)

  -- the block of a function, or the first one
  abbrev IsRoot : ℕ → Type 0
  IsRoot r = IsFunction order r ⊎ (r ≡ 0)

  root_owns : {r q : ℕ} → IsRoot q → Owns bs order r q → r ≡ q
  root_owns root here = refl
  root_owns {r} root (below {x = x} {y = y} {branch = branch} o b not) = of root
    where
      of : IsRoot x → r ≡ x
      of (inl function) = absurd (not function)
      of (inr first_one) = absurd (omega (arith, first_one, (leads_later bs on y branch x b.leads).0))

  same_root : {r q x : ℕ} → Busy x → IsRoot r → IsRoot q → Owns bs order r x → Owns bs order q x → r ≡ q
  same_root {r} {q} busy root also one other = of (meet busy one other)
    where
      of : Owns bs order r q ⊎ Owns bs order q r → r ≡ q
      of (inl down) = root_owns also down
      of (inr down) = sym (root_owns root down)

  -- no block is written in the trees of both branches of a test
  apart_side : {at i j : ℕ} {p q : Bool} → (p ≢ q) → IsBranch bs i at p → IsBranch bs j at q →
      ¬ IsFunction order i → ¬ IsFunction order j → Busy i → Busy j → Owns bs order i j → ⊥
  apart_side differ left right not_i not_j busy_i busy_j here = differ (one_branch busy_i not_i left right).1
  apart_side {at} {i} {p = p} differ left right not_i not_j busy_i busy_j (below {y = y} o b _) =
      let same = (one_branch busy_j not_j b right).0 in
      omega (arith, owns_low o, same, (leads_later bs on at p i left.leads).0)

  apart : {at i j x : ℕ} {p q : Bool} → (p ≢ q) → IsBranch bs i at p → IsBranch bs j at q → ¬ IsFunction order i →
      ¬ IsFunction order j → Busy x → Owns bs order i x → Owns bs order j x → ⊥
  apart {i = i} {j = j} differ left right not_i not_j busy one other = of (meet busy one other)
    where
      busy_i : Busy i
      busy_i = owner_busy one busy

      busy_j : Busy j
      busy_j = owner_busy other busy

      of : Owns bs order i j ⊎ Owns bs order j i → ⊥
      of (inl down) = apart_side differ left right not_i not_j busy_i busy_j down
      of (inr down) = apart_side (λ e. differ (sym e)) right left not_j not_i busy_j busy_i down

  move_busy : {x : ℕ} → IsReachedMove bs x → Busy x
  move_busy {x} m nothing =
      let same : m.block ≡ blocks.idle = is_one (slice_get bs x) m.block blocks.idle m.is nothing in
      subst IsMove same m.move

  -- what is written for a block is a call or a leave in its tree
  mutual
    sound : {at : ℕ} {a : ActionTree} (r x : ℕ) (w : IsWritten bs order at a) → IsReached bs at →
        Owns bs order r at → In x (listed w) → Owns bs order r x × IsReachedMove bs x
    sound r x (tests is one other) reached owns there =
        either (in_either (listed_named one) (listed_named other) there.0 x there.1)
        (λ now.
        sound_named r x one (goes_on reached (first is))
        (λ not. below owns (record { reached = reached; leads = first is }) not) (there.0, now))
        (λ after.
        sound_named r x other (goes_on reached (second is))
        (λ not. below owns (record { reached = reached; leads = second is }) not) (after.place, after.is))
    sound {at} r x (calls {task = task} {args = args} is) reached owns there =
        let same = only_one x at there in
        subst (λ (y : ℕ). Owns bs order r y × IsReachedMove bs y) (sym same)
        (owns, record { reached = reached; block = blocks.call task args; is = is; move = tt })
    sound {at} r x (leaves {process = process} is) reached owns there =
        let same = only_one x at there in
        subst (λ (y : ℕ). Owns bs order r y × IsReachedMove bs y) (sym same)
        (owns, record { reached = reached; block = blocks.leave process; is = is; move = tt })
    sound r x (idles is) reached owns there = absurd (nothing_in x there)

    sound_named : {at : ℕ} {a : ActionTree} (r x : ℕ) (n : IsNamed bs order at a) → IsReached bs at →
        (¬ IsFunction order at → Owns bs order r at) → In x (listed_named n) →
        Owns bs order r x × IsReachedMove bs x
    sound_named r x (by_name is) reached owns there = absurd (nothing_in x there)
    sound_named r x (in_place not written) reached owns there = sound r x written reached (owns not) there

  named_so : {at x : ℕ} {a : ActionTree} (n : IsNamed bs order at a) → In x (listed_named n) → ¬ IsFunction order at
  named_so {x = x} (by_name is) there = absurd (nothing_in x there)
  named_so (in_place not written) there = not

  both_apart : {at i j : ℕ} {t : TruthTree} {a b : ActionTree} → slice_get bs at ≡ Some (test t i j) →
      (one : IsNamed bs order i a) (other : IsNamed bs order j b) → IsReached bs at → (x : ℕ) →
      In x (listed_named one) → In x (listed_named other) → ⊥
  both_apart {i = i} {j = j} is one other reached x left right =
      let l = sound_named i x one (goes_on reached (first is)) (λ not. here) left in
      let r = sound_named j x other (goes_on reached (second is)) (λ not. here) right in
      apart true≢false (record { reached = reached; leads = first is }) (record {
        reached = reached;
        leads = second is;
      })
      (named_so one left) (named_so other right) (move_busy l.1) l.0 r.0

  once_none : Once []
  once_none j k x one other = let wrong : None ≡ Some x = one in absurd (cc)

  once_one : (at : ℕ) → Once (at ∷ [])
  once_one at zero zero x one other = refl
  once_one at zero (suc k) x one other = let wrong : None ≡ Some x = other in absurd (cc)
  once_one at (suc j) k x one other = let wrong : None ≡ Some x = one in absurd (cc)

  -- each call and leave is written once
  mutual
    once_written : {at : ℕ} {a : ActionTree} (w : IsWritten bs order at a) → IsReached bs at → Once (listed w)
    once_written (tests is one other) reached =
        once_append (listed_named one) (listed_named other) (once_named one (goes_on reached (first is)))
        (once_named other (goes_on reached (second is))) (both_apart is one other reached)
    once_written {at} (calls is) reached = once_one at
    once_written {at} (leaves is) reached = once_one at
    once_written (idles is) reached = once_none

    once_named : {at : ℕ} {a : ActionTree} (n : IsNamed bs order at a) → IsReached bs at → Once (listed_named n)
    once_named (by_name is) reached = once_none
    once_named (in_place not written) reached = once_written written reached

  -- the branch of a test that is written
  part_of : {y x : ℕ} {branch : Bool} {a : ActionTree} (whole : List ℕ) (w : IsWritten bs order y a) →
      ((z : ℕ) → In z (listed w) → In z whole) → Leads bs y branch x → ¬ IsFunction order x → IsPart bs order x whole
  part_of {y} {x} {branch} whole (tests {first = i} {second = j} {t = t} is one other) within leads not =
      of branch leads
    where
      named : {at : ℕ} {b : ActionTree} (n : IsNamed bs order at b) → x ≡ at →
          ((z : ℕ) → In z (listed_named n) → In z whole) → IsPart bs order x whole
      named (by_name {k = k} there) same inside = absurd (not (k, there ∙ ap Some (sym same)))
      named (in_place {a = b} none written) same inside =
          subst (λ (at : ℕ). IsPart bs order at whole) (sym same)
          (record { action = b; written = written; within = inside })

      of : (v : Bool) → Leads bs y v x → IsPart bs order x whole
      of true to =
          named one (leads_once bs y true x i to (first is))
          (λ z there. within z (from_left (listed_named one) (listed_named other) z there))
      of false to =
          named other (leads_once bs y false x j to (second is))
          (λ z there. within z (from_right (listed_named one) (listed_named other) z there))
  part_of {y} {x} {branch} whole (calls is) within leads not =
      let tests_there = tested bs y branch x leads in
      let wrong = is_one (slice_get bs y) _ _ tests_there.is is in absurd (cc)
  part_of {y} {x} {branch} whole (leaves is) within leads not =
      let tests_there = tested bs y branch x leads in
      let wrong = is_one (slice_get bs y) _ _ tests_there.is is in absurd (cc)
  part_of {y} {x} {branch} whole (idles is) within leads not =
      let tests_there = tested bs y branch x leads in
      let wrong = is_one (slice_get bs y) _ _ tests_there.is is in absurd (cc)

  part : {r x : ℕ} {a : ActionTree} (w : IsWritten bs order r a) → Owns bs order r x → IsPart bs order x (listed w)
  part {a = a} w here = record { action = a; written = w; within = λ y there. there }
  part w (below o b not) =
      let before = part w o in part_of (listed w) before.written before.within b.leads not

  -- a call or a leave in a tree is written for it
  complete : {r x : ℕ} {a : ActionTree} (w : IsWritten bs order r a) → Owns bs order r x → IsReachedMove bs x →
      In x (listed w)
  complete {x = x} w owns move = of (part w owns)
    where
      of_written : {b : ActionTree} (v : IsWritten bs order x b) → In x (listed v)
      of_written (calls is) = (0, refl)
      of_written (leaves is) = (0, refl)
      of_written (tests is one other) =
          let same = is_one (slice_get bs x) move.block _ move.is is in absurd (subst IsMove same move.move)
      of_written (idles is) =
          let same = is_one (slice_get bs x) move.block _ move.is is in absurd (subst IsMove same move.move)

      of : IsPart bs order x (listed w) → In x (listed w)
      of found = found.within x (of_written found.written)

  -- each block that is reached is written in some tree
  owner : {x : ℕ} → IsReached bs x → (r : ℕ) × IsRoot r × Owns bs order r x
  owner begins = (0, inr refl, here)
  owner {x} (goes_on {from = from} {branch = branch} before leads) = of (function_or_not order x) (owner before)
    where
      of : IsFunction order x ⊎ (¬ IsFunction order x) → (r : ℕ) × IsRoot r × Owns bs order r from →
          (r : ℕ) × IsRoot r × Owns bs order r x
      of (inl function) found = (x, inl function, here)
      of (inr not) found =
          (found.0, found.1, below found.2 (record { reached = before; leads = leads }) not)

  -- what is written for several functions
  abbrev Each : List ActionTree → List ℕ → Type 0
  Each fs os =
      (k at : ℕ) (a : ActionTree) → slice_get os k ≡ Some at → slice_get fs k ≡ Some a → IsWritten bs order at a

  behind : (a : ActionTree) (at : ℕ) (fs : List ActionTree) (os : List ℕ) → Each (a ∷ fs) (at ∷ os) → Each fs os
  behind a at fs os each k x b there also = each (suc k) x b there also

  abbrev gather : (fs : List ActionTree) (os : List ℕ) → Each fs os → List ℕ
  gather (a ∷ fs) (at ∷ os) each =
      listed (each 0 at a refl refl) ++ gather fs os (behind a at fs os each)
  gather _ _ each = []

  gather_long : (fs : List ActionTree) (os : List ℕ) (each : Each fs os) → length fs ≡ length os →
      length (gather fs os each) ≡ sum_by moves_in fs
  gather_long [] [] each same = refl
  gather_long [] (at ∷ os) each same = absurd (omega arith)
  gather_long (a ∷ fs) [] each same = absurd (omega arith)
  gather_long (a ∷ fs) (at ∷ os) each same =
      let first_one = each 0 at a refl refl in
      omega (
        arith,
        length-append (listed first_one) (gather fs os (behind a at fs os each)),
        listed_long first_one,
        gather_long fs os (behind a at fs os each) (omega arith),
        sum_by-cons moves_in a fs,
      )

  abbrev AllReached : List ℕ → Type 0
  AllReached os = (k at : ℕ) → slice_get os k ≡ Some at → IsReached bs at

  gather_sound : (fs : List ActionTree) (os : List ℕ) (each : Each fs os) → AllReached os → (x : ℕ) →
      In x (gather fs os each) → IsFound bs order os x
  gather_sound [] os each reached x there = absurd (nothing_in x there)
  gather_sound (a ∷ fs) [] each reached x there = absurd (nothing_in x there)
  gather_sound (a ∷ fs) (at ∷ os) each reached x there =
      of (in_either (listed (each 0 at a refl refl)) (gather fs os (behind a at fs os each)) there.0 x there.1)
      (λ k is. gather_sound fs os (behind a at fs os each) (λ j y e. reached (suc j) y e) x (k, is))
    where
      of : {k : ℕ} →
          (slice_get (listed (each 0 at a refl refl)) k ≡ Some x)
          ⊎ IsBehind (listed (each 0 at a refl refl)) (gather fs os (behind a at fs os each)) k x →
          ((j : ℕ) → slice_get (gather fs os (behind a at fs os each)) j ≡ Some x → IsFound bs order os x) →
          IsFound bs order (at ∷ os) x
      of {k} (inl now) later =
          let found = sound at x (each 0 at a refl refl) (reached 0 at refl) here (k, now) in
          record { number = 0; root = at; is = refl; owns = found.0; move = found.1 }
      of (inr after) later =
          let found = later after.place after.is in
          record {
            number = suc found.number;
            root = found.root;
            is = found.is;
            owns = found.owns;
            move = found.move;
          }

  gather_complete : (fs : List ActionTree) (os : List ℕ) (each : Each fs os) → length fs ≡ length os → (k at x : ℕ) →
      slice_get os k ≡ Some at → Owns bs order at x → IsReachedMove bs x → In x (gather fs os each)
  gather_complete fs [] each same k at x is owns move = let wrong : None ≡ Some at = is in absurd (cc)
  gather_complete [] (y ∷ os) each same k at x is owns move = absurd (omega arith)
  gather_complete (a ∷ fs) (y ∷ os) each same zero at x is owns move =
      let here_is : at ≡ y = is_one (Some y) at y is refl in
      from_left (listed (each 0 y a refl refl)) (gather fs os (behind a y fs os each)) x
      (complete (each 0 y a refl refl) (subst (λ (r : ℕ). Owns bs order r x) here_is owns) move)
  gather_complete (a ∷ fs) (y ∷ os) each same (suc k) at x is owns move =
      from_right (listed (each 0 y a refl refl)) (gather fs os (behind a y fs os each)) x
      (gather_complete fs os (behind a y fs os each) (omega arith) k at x is owns move)

  gather_once : (fs : List ActionTree) (os : List ℕ) (each : Each fs os) → AllReached os → Once os →
      ((k at : ℕ) → slice_get os k ≡ Some at → IsRoot at) → Once (gather fs os each)
  gather_once [] os each reached distinct roots = once_none
  gather_once (a ∷ fs) [] each reached distinct roots = once_none
  gather_once (a ∷ fs) (at ∷ os) each reached distinct roots =
      once_append (listed (each 0 at a refl refl)) (gather fs os (behind a at fs os each))
      (once_written (each 0 at a refl refl) (reached 0 at refl))
      (gather_once fs os (behind a at fs os each) (λ j y e. reached (suc j) y e)
      (λ j k y one other. let same = distinct (suc j) (suc k) y one other in omega (arith, same))
      (λ k y e. roots (suc k) y e))
      (λ x left right.
      let one = sound at x (each 0 at a refl refl) (reached 0 at refl) here left in
      let other = gather_sound fs os (behind a at fs os each) (λ j y e. reached (suc j) y e) x right in
      let same = same_root (move_busy one.1) (roots 0 at refl) (roots (suc other.number) other.root other.is) one.0
      other.owns in
      let wrong = distinct 0 (suc other.number) at refl (other.is ∙ ap Some (sym same)) in
      omega (arith, wrong))

  -- the first block is that of no function
  not_first : (at : ℕ) → IsFunction order at → at ≡ 0 → ⊥
  not_first at function start = of ((chosen at).0 function)
    where
      of : BecomesFunction bs order at → ⊥
      of so = of_why so.why
        where
          of_why : IsShared bs at ⊎ IsTooDeep bs order at → ⊥
          of_why (inl shared) =
              omega (arith, start, (leads_later bs on shared.one shared.one_branch at shared.is.leads).0)
          of_why (inr deep) =
              omega (arith, start, (leads_later bs on deep.from deep.branch at deep.is.leads).0)

-- the driver has as many calls and leaves as are reached
pub has_moves : (d : DesignTree) (bs : List BlockTree) → FitBlocks d bs → (p : ProgramTree) → IsShape bs p →
    HasMoves bs (move_count p)
has_moves d bs fit p shape = record {
  list = gather bs on shape.order shape.chosen p.functions shape.order shape.functions
      ++ listed shape.main;
  once = once_append _ (listed shape.main)
      (gather_once bs on shape.order shape.chosen p.functions shape.order shape.functions all_reached distinct
      (λ k at is. inl (k, is)))
      (once_written bs on shape.order shape.chosen shape.main begins) apart_main;
  are = λ x. (
    λ there. of_list x there.0 (in_either _ (listed shape.main) there.0 x there.1),
    λ move. of_owner x move (owner bs on shape.order shape.chosen move.reached),
  );
  many = omega (
    arith,
    length-append (gather bs on shape.order shape.chosen p.functions shape.order shape.functions)
        (listed shape.main),
    gather_long bs on shape.order shape.chosen p.functions shape.order shape.functions shape.many,
    listed_long shape.main,
  );
}
  where
    on : LeadOn bs
    on = lead_on d bs fit

    all_reached : (k at : ℕ) → slice_get shape.order k ≡ Some at → IsReached bs at
    all_reached k at is = ((shape.chosen at).0 (k, is)).reached

    distinct : (j k at : ℕ) → slice_get shape.order j ≡ Some at → slice_get shape.order k ≡ Some at → j ≡ k
    distinct j k at one other = of (cases_lt j k) (cases_lt k j)
      where
        of : (j < k) ⊎ (k ≤ j) → (k < j) ⊎ (j ≤ k) → j ≡ k
        of (inl low) rest = absurd (omega (arith, shape.falls j k at at low one other))
        of (inr high) (inl low) = absurd (omega (arith, shape.falls k j at at low other one))
        of (inr high) (inr low) = omega (arith, high, low)

    apart_main : (x : ℕ) →
        In x (gather bs on shape.order shape.chosen p.functions shape.order shape.functions) →
        In x (listed shape.main) → ⊥
    apart_main x left right =
        let one = gather_sound bs on shape.order shape.chosen p.functions shape.order shape.functions all_reached x
        left in
        let other = sound bs on shape.order shape.chosen 0 x shape.main begins here right in
        not_first bs on shape.order shape.chosen one.root (one.number, one.is)
        (same_root bs on shape.order shape.chosen (move_busy bs on shape.order shape.chosen one.move)
        (inl (one.number, one.is)) (inr refl) one.owns other.0)

    of_list : (x k : ℕ) →
        (slice_get (gather bs on shape.order shape.chosen p.functions shape.order shape.functions) k ≡ Some x)
        ⊎ IsBehind (gather bs on shape.order shape.chosen p.functions shape.order shape.functions)
        (listed shape.main) k x → IsReachedMove bs x
    of_list x k (inl there) =
        (gather_sound bs on shape.order shape.chosen p.functions shape.order shape.functions all_reached x
        (k, there)).move
    of_list x k (inr after) =
        (sound bs on shape.order shape.chosen 0 x shape.main begins here (after.place, after.is)).1

    of_owner : (x : ℕ) → IsReachedMove bs x →
        (r : ℕ) × (IsFunction shape.order r ⊎ (r ≡ 0)) × Owns bs shape.order r x →
        In x (gather bs on shape.order shape.chosen p.functions shape.order shape.functions ++ listed shape.main)
    of_owner x move found = of found.1
      where
        of : IsFunction shape.order found.0 ⊎ (found.0 ≡ 0) →
            In x (gather bs on shape.order shape.chosen p.functions shape.order shape.functions ++ listed shape.main)
        of (inl function) =
            from_left (gather bs on shape.order shape.chosen p.functions shape.order shape.functions)
            (listed shape.main) x
            (gather_complete bs on shape.order shape.chosen p.functions shape.order shape.functions shape.many
            function.0 found.0 x function.1 found.2 move)
        of (inr start) =
            from_right (gather bs on shape.order shape.chosen p.functions shape.order shape.functions)
            (listed shape.main) x
            (complete bs on shape.order shape.chosen shape.main
            (subst (λ (r : ℕ). Owns bs shape.order r x) start found.2) move)
