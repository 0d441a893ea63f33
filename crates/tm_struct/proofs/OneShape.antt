-- Blocks that fit a design have one shape.
use Rattle.std.proofs.Common.{◌≡◌, ℕ, zero, suc, ◌<◌, ◌≤◌, ◌↔◌, ◌⊎◌, inl, inr, None, Some, List, [], ◌∷◌, length}
use Rattle.std.proofs.Common.{slice_get, refl, sym, ap, ap₂, ◌∙◌, subst, arith}
use Rattle.std.proofs.lemmas.Bool.{cases_lt}
use Rattle.tm_syntax.specs.Design.{DesignTree}
use Rattle.tm_cir.specs.Tree.{BlockTree, test}
use Rattle.tm_cir.specs.Tree as blocks
use Rattle.tm_cir.specs.Fit.{FitBlocks}
use Rattle.tm_struct.specs.Tree.{ActionTree, leave, go, ProgramTree}
use Rattle.tm_struct.specs.Shape.{IsShared, IsFunction, StandsInside, in_main, in_function, further}
use Rattle.tm_struct.specs.Shape.{IsTooDeep, BecomesFunction, IsWritten, tests, calls, leaves, idles, IsNamed}
use Rattle.tm_struct.specs.Shape.{by_name, in_place, IsShape}
use Rattle.tm_struct.specs.Inner.Reaching.{LeadOn}
use Rattle.tm_struct.proofs.Pushed.{is_one}
use Rattle.tm_struct.proofs.Shaped.{lead_on}
use Rattle.tm_struct.proofs.Table.{leads_later}

-- the blocks of the functions fall
abbrev Falls : List ℕ → Type 0
Falls order =
    (j k one other : ℕ) → j < k → slice_get order j ≡ Some one → slice_get order k ≡ Some other → other < one

-- two lists have the same blocks
abbrev AreSame : List ℕ → List ℕ → Type 0
AreSame one other = (at : ℕ) → IsFunction one at ↔ IsFunction other at

-- the blocks of a list that falls stand at one place each
one_place : (order : List ℕ) → Falls order → (j k at : ℕ) → slice_get order j ≡ Some at →
    slice_get order k ≡ Some at → j ≡ k
one_place order falls j k at one other = of (cases_lt j k) (cases_lt k j)
  where
    of : (j < k) ⊎ (k ≤ j) → (k < j) ⊎ (j ≤ k) → j ≡ k
    of (inl low) back = absurd (let wrong : at < at = falls j k at at low one other in omega (arith, wrong))
    of (inr high) (inl low) = absurd (let wrong : at < at = falls k j at at low other one in omega (arith, wrong))
    of (inr high) (inr low) = omega (arith, high, low)

-- a list that falls is told by its blocks
module _ (x y : ℕ) (xs ys : List ℕ) (x_falls : Falls (x ∷ xs)) (y_falls : Falls (y ∷ ys))
    (same : AreSame (x ∷ xs) (y ∷ ys)) where
  within : (a : ℕ) (cs : List ℕ) → Falls (a ∷ cs) → (b : ℕ) → IsFunction (a ∷ cs) b → b ≤ a
  within a cs falls b there = of there.0 there.1
    where
      of : (k : ℕ) → slice_get (a ∷ cs) k ≡ Some b → b ≤ a
      of zero is = let e : a ≡ b = is_one (Some a) a b refl is in omega (arith, e)
      of (suc k) is = let low : b < a = falls 0 (suc k) a b (omega arith) refl is in omega (arith, low)

  heads : x ≡ y
  heads =
      let low : x ≤ y = within y ys y_falls x ((same x).0 (0, refl)) in
      let high : y ≤ x = within x xs x_falls y ((same y).1 (0, refl)) in
      omega (arith, low, high)

  behind : (a b : ℕ) (cs bs : List ℕ) → a ≡ b → Falls (a ∷ cs) → (at : ℕ) →
      (IsFunction (a ∷ cs) at → IsFunction (b ∷ bs) at) → IsFunction cs at → IsFunction bs at
  behind a b cs bs e falls at goes there = of (goes (suc there.0, there.1)).0 (goes (suc there.0, there.1)).1
    where
      of : (k : ℕ) → slice_get (b ∷ bs) k ≡ Some at → IsFunction bs at
      of zero is =
          let first : b ≡ at = is_one (Some b) b at refl is in
          let low : at < a = falls 0 (suc there.0) a at (omega arith) refl there.1 in
          absurd (omega (arith, e, first, low))
      of (suc k) is = (k, is)

  tails : AreSame xs ys
  tails at = (
    behind x y xs ys heads x_falls at (same at).0,
    behind y x ys xs (sym heads) y_falls at (same at).1,
  )

falls_on : (x : ℕ) (xs : List ℕ) → Falls (x ∷ xs) → Falls xs
falls_on x xs falls j k one other low is also = falls (suc j) (suc k) one other (omega (arith, low)) is also

one_order : (xs ys : List ℕ) → Falls xs → Falls ys → AreSame xs ys → xs ≡ ys
one_order [] [] x_falls y_falls same = refl
one_order [] (y ∷ ys) x_falls y_falls same =
    absurd (let wrong : None ≡ Some y = ((same y).1 (0, refl)).1 in cc)
one_order (x ∷ xs) [] x_falls y_falls same =
    absurd (let wrong : None ≡ Some x = ((same x).0 (0, refl)).1 in cc)
one_order (x ∷ xs) (y ∷ ys) x_falls y_falls same =
    ap₂ (λ (a : ℕ) (cs : List ℕ). a ∷ cs) (heads x y xs ys x_falls y_falls same)
    (one_order xs ys (falls_on x xs x_falls) (falls_on y ys y_falls) (tails x y xs ys x_falls y_falls same))

module _ (bs : List BlockTree) (on : LeadOn bs) where
  -- of the blocks below a number the same are functions
  abbrev SameBelow : List ℕ → List ℕ → ℕ → Type 0
  SameBelow one other n = (at : ℕ) → at < n → IsFunction one at ↔ IsFunction other at

  stands_so : (one other : List ℕ) (n : ℕ) → SameBelow one other n → {at inside : ℕ} → at < n →
      StandsInside bs one at inside → StandsInside bs other at inside
  stands_so one other n same low in_main = in_main
  stands_so one other n same {at} low (in_function is) = in_function ((same at low).0 is)
  stands_so one other n same {at} low (further {from = from} {branch = branch} is not stands) =
      let later = leads_later bs on from branch at is.leads in
      further is (λ f. not ((same at low).1 f)) (stands_so one other n same (omega (arith, later.0, low)) stands)

  becomes_so : (one other : List ℕ) (n : ℕ) → SameBelow one other n → BecomesFunction bs one n →
      BecomesFunction bs other n
  becomes_so one other n same becomes =
      record { reached = becomes.reached; busy = becomes.busy; why = of becomes.why }
    where
      of : IsShared bs n ⊎ IsTooDeep bs one n → IsShared bs n ⊎ IsTooDeep bs other n
      of (inl shared) = inl shared
      of (inr deep) =
          inr
          (record {
            truth = deep.truth;
            one = deep.one;
            other = deep.other;
            is_test = deep.is_test;
            from = deep.from;
            branch = deep.branch;
            inside = deep.inside;
            is = deep.is;
            stands = stands_so one other n same (leads_later bs on deep.from deep.branch n deep.is.leads).0
                deep.stands;
            deep = deep.deep;
          })

  module _ (p q : ProgramTree) (one : IsShape bs p) (other : IsShape bs q) where
    back : (n : ℕ) → SameBelow one.order other.order n → SameBelow other.order one.order n
    back n same at low = ((same at low).1, (same at low).0)

    next_below : (n : ℕ) → SameBelow one.order other.order n → SameBelow one.order other.order (suc n)
    next_below n same at low = of (cases_lt at n)
      where
        here : IsFunction one.order n ↔ IsFunction other.order n
        here = (
          λ f. (other.chosen n).1 (becomes_so one.order other.order n same ((one.chosen n).0 f)),
          λ f. (one.chosen n).1 (becomes_so other.order one.order n (back n same) ((other.chosen n).0 f)),
        )

        of : (at < n) ⊎ (n ≤ at) → IsFunction one.order at ↔ IsFunction other.order at
        of (inl below) = same at below
        of (inr above) =
            let e : n ≡ at = omega (arith, low, above) in
            subst (λ (k : ℕ). IsFunction one.order k ↔ IsFunction other.order k) e here

    same_below : (n : ℕ) → SameBelow one.order other.order n
    same_below zero at low = absurd (omega (arith, low))
    same_below (suc n) at low = next_below n (same_below n) at low

    orders : other.order ≡ one.order
    orders =
        sym (one_order one.order other.order one.falls other.falls (λ at. same_below (suc at) at (omega arith)))

-- a block is written in one way
module _ (bs : List BlockTree) (order : List ℕ) (falls : Falls order) where
  mutual
    one_written : {at : ℕ} {a b : ActionTree} → IsWritten bs order at a → IsWritten bs order at b → a ≡ b
    one_written {at} (tests {first = i} {second = j} {t = t} {a = a} {b = b} is one other)
        (tests {first = k} {second = l} {t = u} {a = c} {b = d} also first second) =
        let whole : test t i j ≡ test u k l = is_one (slice_get bs at) (test t i j) (test u k l) is also in
        let truth : t ≡ u = cc in
        let left : i ≡ k = cc in
        let right : j ≡ l = cc in
        let branch : a ≡ c = one_named one (subst (λ (n : ℕ). IsNamed bs order n c) (sym left) first) in
        let branch_too : b ≡ d = one_named other (subst (λ (n : ℕ). IsNamed bs order n d) (sym right) second) in
        cc
    one_written {at} (tests {first = i} {second = j} {t = t} is one other) (calls {task = k} {args = args} also) =
        absurd (let e = is_one (slice_get bs at) (test t i j) (blocks.call k args) is also in cc (e))
    one_written {at} (tests {first = i} {second = j} {t = t} is one other) (leaves {process = p} also) =
        absurd (let e = is_one (slice_get bs at) (test t i j) (blocks.leave p) is also in cc (e))
    one_written {at} (tests {first = i} {second = j} {t = t} is one other) (idles also) =
        absurd (let e = is_one (slice_get bs at) (test t i j) blocks.idle is also in cc (e))
    one_written {at} (calls {task = k} {args = args} is) (tests {first = i} {second = j} {t = t} also one other) =
        absurd (let e = is_one (slice_get bs at) (blocks.call k args) (test t i j) is also in cc (e))
    one_written {at} (calls {task = k} {args = args} is) (calls {task = l} {args = more} also) =
        let whole : blocks.call k args ≡ blocks.call l more =
        is_one (slice_get bs at) (blocks.call k args) (blocks.call l more) is also in
        let number : k ≡ l = cc in
        let all : args ≡ more = cc in
        cc
    one_written {at} (calls {task = k} {args = args} is) (leaves {process = p} also) =
        absurd (let e = is_one (slice_get bs at) (blocks.call k args) (blocks.leave p) is also in cc (e))
    one_written {at} (calls {task = k} {args = args} is) (idles also) =
        absurd (let e = is_one (slice_get bs at) (blocks.call k args) blocks.idle is also in cc (e))
    one_written {at} (leaves {process = p} is) (tests {first = i} {second = j} {t = t} also one other) =
        absurd (let e = is_one (slice_get bs at) (blocks.leave p) (test t i j) is also in cc (e))
    one_written {at} (leaves {process = p} is) (calls {task = k} {args = args} also) =
        absurd (let e = is_one (slice_get bs at) (blocks.leave p) (blocks.call k args) is also in cc (e))
    one_written {at} (leaves {process = p} is) (leaves {process = q} also) =
        let whole : blocks.leave p ≡ blocks.leave q =
        is_one (slice_get bs at) (blocks.leave p) (blocks.leave q) is also in
        let number : p ≡ q = cc in
        ap leave number
    one_written {at} (leaves {process = p} is) (idles also) =
        absurd (let e = is_one (slice_get bs at) (blocks.leave p) blocks.idle is also in cc (e))
    one_written {at} (idles is) (tests {first = i} {second = j} {t = t} also one other) =
        absurd (let e = is_one (slice_get bs at) blocks.idle (test t i j) is also in cc (e))
    one_written {at} (idles is) (calls {task = k} {args = args} also) =
        absurd (let e = is_one (slice_get bs at) blocks.idle (blocks.call k args) is also in cc (e))
    one_written {at} (idles is) (leaves {process = p} also) =
        absurd (let e = is_one (slice_get bs at) blocks.idle (blocks.leave p) is also in cc (e))
    one_written (idles is) (idles also) = refl

    one_named : {at : ℕ} {a b : ActionTree} → IsNamed bs order at a → IsNamed bs order at b → a ≡ b
    one_named {at} (by_name {k = j} is) (by_name {k = k} also) = ap go (one_place order falls j k at is also)
    one_named (by_name {k = j} is) (in_place not written) = absurd (not (j, is))
    one_named (in_place not written) (by_name {k = k} is) = absurd (not (k, is))
    one_named (in_place not written) (in_place never also) = one_written written also

  -- each function is the block of the same place
  abbrev AreWritten : List ℕ → List ActionTree → Type 0
  AreWritten list functions =
      (k at : ℕ) (a : ActionTree) → slice_get list k ≡ Some at → slice_get functions k ≡ Some a →
      IsWritten bs order at a

  one_list : (list : List ℕ) (xs ys : List ActionTree) → length xs ≡ length list → length ys ≡ length list →
      AreWritten list xs → AreWritten list ys → xs ≡ ys
  one_list [] [] [] x_long y_long one other = refl
  one_list [] (a ∷ xs) ys x_long y_long one other = absurd (omega (arith, x_long))
  one_list [] [] (b ∷ ys) x_long y_long one other = absurd (omega (arith, y_long))
  one_list (at ∷ list) [] ys x_long y_long one other = absurd (omega (arith, x_long))
  one_list (at ∷ list) (a ∷ xs) [] x_long y_long one other = absurd (omega (arith, y_long))
  one_list (at ∷ list) (a ∷ xs) (b ∷ ys) x_long y_long one other =
      ap₂ (λ (f : ActionTree) (fs : List ActionTree). f ∷ fs)
      (one_written (one 0 at a refl refl) (other 0 at b refl refl))
      (one_list list xs ys (omega (arith, x_long)) (omega (arith, y_long))
      (λ k n f is there. one (suc k) n f is there) (λ k n f is there. other (suc k) n f is there))

pub one_shape : (d : DesignTree) (bs : List BlockTree) → FitBlocks d bs → (p q : ProgramTree) → IsShape bs p →
    IsShape bs q → p ≡ q
one_shape d bs fit p q one other =
    let order = orders bs (lead_on d bs fit) p q one other in
    let functions : p.functions ≡ q.functions =
    one_list bs one.order one.falls one.order p.functions q.functions one.many (other.many ∙ ap length order)
    one.functions
    (λ k at a is there.
    subst (λ (l : List ℕ). IsWritten bs l at a) order
    (other.functions k at a (ap (λ (l : List ℕ). slice_get l k) order ∙ is) there)) in
    let main : p.main ≡ q.main =
    one_written bs one.order one.falls one.main
    (subst (λ (l : List ℕ). IsWritten bs l 0 q.main) order other.main) in
    ap (λ (fs : List ActionTree). record { functions = fs; main = p.main }) functions
    ∙ ap (λ (a : ActionTree). record { functions = q.functions; main = a }) main
