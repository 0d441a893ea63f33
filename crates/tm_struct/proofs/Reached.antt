-- The blocks that the table makes functions are those of the shape.
use Rattle.std.proofs.Common.{◌≡◌, ◌≢◌, ℕ, zero, suc, ◌+◌, ◌*◌, ◌^◌, ◌<◌, ◌≤◌, ◌↔◌, ◌⊎◌, inl, inr, Bool, true, false, cond, ◌||◌, ltb, leb, Option, None, Some, List, length, slice_get, refl, sym, ap, subst, ◌∙◌, true≢false, get_or, ltb-true, ltb-false, le-ltb, le-leb, leb-true, arith}
use Rattle.std.specs.Option.{option_map_or}
use Rattle.std.proofs.lemmas.Option.{slice_get_within, slice_get-get_or}
use Rattle.tm_cir.specs.Tree.{NumTree, TruthTree, BlockTree, test, call, leave, idle}
use Rattle.tm_struct.specs.declared.reaching.Reach.{Reach}
use Rattle.tm_struct.specs.declared.reaching.Reach.TheVariants.{Never, Once, Often}
use Rattle.tm_struct.specs.Fit.{most_ifs}
use Rattle.tm_struct.specs.Shape.{Leads, IsReached, begins, goes_on, IsBranch, IsShared, IsFunction, StandsInside, in_main, in_function, further, IsTooDeep, BecomesFunction}
use Rattle.tm_struct.specs.Inner.Reaching.{LeadOn, reach_at, ifs_inside, is_often, is_too_deep, becomes_function, branch_number, IsFollowed, HasOne, HasTwo, Tells, IsTable, AreReaches}
use Rattle.tm_struct.specs.Inner.Naming.{is_function, AreNamedFrom, AreNamed}
use Rattle.tm_struct.proofs.Pushed.{is_one, same_some}
use Rattle.tm_struct.proofs.Table.{IsTest, tested, leads_later, reached_so, told_reached}

-- where a test stands whose branches lead into so many `if`
record Stand (bs : List BlockTree) (order : List ℕ) (at inside : ℕ) : Type 0 where
  pub around : ℕ
  pub stands : StandsInside bs order at around
  pub one_more : inside ≡ around + 1

module _ (bs : List BlockTree) (on : LeadOn bs) (rs : List Reach) (table : AreReaches bs rs) (order : List ℕ)
    (named : (at : ℕ) → IsFunction order at ↔ (is_function bs rs at ≡ true)) where
  is_function_of : (at : ℕ) (b : BlockTree) → slice_get bs at ≡ Some b →
      is_function bs rs at ≡ becomes_function b (reach_at rs at)
  is_function_of at b is =
      ap (λ o. option_map_or (λ x. becomes_function x (reach_at rs at)) o false) is

  -- a branch that is reached was followed
  all_followed : {at from : ℕ} {branch : Bool} → IsBranch bs at from branch →
      IsFollowed bs (2 * length bs) at from branch
  all_followed {at} {from} {branch} is = record {
    is = is;
    below = of branch (leads_later bs on from branch at is.leads);
  }
    where
      of : (p : Bool) → (from < at) × (at < length bs) → branch_number from p < 2 * length bs
      of true later = omega (arith, later.0, later.1)
      of false later = omega (arith, later.0, later.1)

  -- a test that is reached in one way is not too deep, where it is no function
  shallow : (around : ℕ) → leb most_ifs around ≡ false → ltb around most_ifs ≡ true
  shallow around high = of (ltb around most_ifs) refl
    where
      of : (v : Bool) → ltb around most_ifs ≡ v → ltb around most_ifs ≡ true
      of true is = is
      of false is =
          absurd (true≢false (sym (le-leb most_ifs around (ltb-false around most_ifs is)) ∙ high))

  -- a block that is reached is one that there is
  reached_within : {at : ℕ} → IsReached bs at → at < length bs
  reached_within begins = on.some
  reached_within {at} (goes_on {from = from} {branch = branch} before leads) =
      (leads_later bs on from branch at leads).1

  -- what tests before a block stand in
  abbrev Before : ℕ → Type 0
  Before at =
      (from : ℕ) → from < at → (t : TruthTree) (i j : ℕ) → slice_get bs from ≡ Some (test t i j) → (inside : ℕ) →
      ifs_inside (reach_at rs from) ≡ Some inside → Stand bs order from inside

  module _ (at : ℕ) (before : Before at) (within : at < length bs) (t : TruthTree) (i j : ℕ)
      (is : slice_get bs at ≡ Some (test t i j)) (inside : ℕ) where
    as_function : is_function bs rs at ≡ true → inside ≡ 1 → Stand bs order at inside
    as_function so one = record {
      around = 0;
      stands = in_function ((named at).1 so);
      one_more = one;
    }

    in_its_place : (around : ℕ) → reach_at rs at ≡ Once around → leb most_ifs around ≡ false → inside ≡ around + 1 →
        Tells bs rs (2 * length bs) at (Once around) → Stand bs order at inside
    in_its_place around so flat more (inl start) = record {
      around = 0;
      stands = subst (λ (x : ℕ). StandsInside bs order x 0) (sym start.0) in_main;
      one_more = omega (arith, more, start.1);
    }
    in_its_place around so flat more (inr one) =
        let none : is_function bs rs at ≡ false =
        is_function_of at (test t i j) is ∙ ap (becomes_function (test t i j)) so ∙ flat in
        let tests = tested bs one.from one.branch at one.followed.is.leads in
        let later = leads_later bs on one.from one.branch at one.followed.is.leads in
        let first = before one.from later.0 tests.truth tests.one tests.other tests.is around one.inside_is in
        record {
          around = first.around + 1;
          stands = further one.followed.is (λ function. true≢false (sym ((named at).0 function) ∙ none)) first.stands;
          one_more = omega (arith, more, first.one_more);
        }

    by_depth : (around : ℕ) → reach_at rs at ≡ Once around →
        Some (cond (ltb around most_ifs) (around + 1) 1) ≡ Some inside → (v : Bool) → leb most_ifs around ≡ v →
        Stand bs order at inside
    by_depth around so value false flat =
        let low = shallow around flat in
        let more : around + 1 ≡ inside =
        same_some (around + 1) inside (ap (λ (v : Bool). Some (cond v (around + 1) 1)) (sym low) ∙ value) in
        in_its_place around so flat (sym more) (subst (Tells bs rs (2 * length bs) at) so (table.tells at within))
    by_depth around so value true deep =
        let high : ltb around most_ifs ≡ false = le-ltb around most_ifs (leb-true most_ifs around deep) in
        as_function
        (is_function_of at (test t i j) is ∙ ap (becomes_function (test t i j)) so ∙ deep)
        (sym
        (same_some 1 inside (ap (λ (v : Bool). Some (cond v (around + 1) 1)) (sym high) ∙ value)))

    by_reach : ifs_inside (reach_at rs at) ≡ Some inside → (r : Reach) → reach_at rs at ≡ r → Stand bs order at inside
    by_reach told Never so = let wrong : None ≡ Some inside = ap ifs_inside (sym so) ∙ told in absurd (cc)
    by_reach told Often so =
        as_function
        (is_function_of at (test t i j) is ∙ ap (becomes_function (test t i j)) so)
        (sym (same_some 1 inside (ap ifs_inside (sym so) ∙ told)))
    by_reach told (Once around) so =
        by_depth around so (ap ifs_inside (sym so) ∙ told) (leb most_ifs around) refl

  -- what a test stands in, by the table
  stand_of : (n at : ℕ) → at ≤ n → at < length bs → (t : TruthTree) (i j : ℕ) →
      slice_get bs at ≡ Some (test t i j) → (inside : ℕ) → ifs_inside (reach_at rs at) ≡ Some inside →
      Stand bs order at inside
  stand_of zero at few within t i j is inside told =
      by_reach at (λ from low. absurd (omega (arith, few, low))) within t i j is inside told (reach_at rs at) refl
  stand_of (suc n) at few within t i j is inside told =
      by_reach at
      (λ from low.
      stand_of n from (omega (arith, few, low)) (omega (arith, low, within))) within t i j is inside told
      (reach_at rs at) refl

  -- one branch leads to a test that is no function
  one_branch : (at : ℕ) (t : TruthTree) (i j : ℕ) → slice_get bs at ≡ Some (test t i j) → ¬ IsFunction order at →
      (a b : ℕ) (p q : Bool) → IsBranch bs at a p → IsBranch bs at b q → a ≡ b
  one_branch at t i j is not a b p q one other =
      of (reach_at rs at) refl (table.tells at (slice_get_within bs at _ is))
    where
      of : (r : Reach) → reach_at rs at ≡ r → Tells bs rs (2 * length bs) at r → a ≡ b
      of Never so tells = absurd (tells.1 a p (all_followed one))
      of (Once around) so (inl start) =
          absurd (omega (arith, start.0, (leads_later bs on a p at one.leads).0))
      of (Once around) so (inr found) =
          (found.only a p (all_followed one)).0 ∙ sym ((found.only b q (all_followed other)).0)
      of Often so tells =
          absurd (not ((named at).1
          (is_function_of at (test t i j) is ∙ ap (becomes_function (test t i j)) so)))

  -- a test stands inside one number of `if`
  stands_once : {at m n : ℕ} (t : TruthTree) (i j : ℕ) → slice_get bs at ≡ Some (test t i j) →
      StandsInside bs order at m → StandsInside bs order at n → m ≡ n
  stands_once t i j is in_main in_main = refl
  stands_once t i j is in_main (in_function function) = refl
  stands_once t i j is in_main (further {from = from} {branch = branch} b not stands) =
      absurd (omega (arith, (leads_later bs on from branch 0 b.leads).0))
  stands_once t i j is (in_function function) in_main = refl
  stands_once t i j is (in_function function) (in_function also) = refl
  stands_once t i j is (in_function function) (further b not stands) = absurd (not function)
  stands_once t i j is (further {from = from} {branch = branch} b not stands) in_main =
      absurd (omega (arith, (leads_later bs on from branch 0 b.leads).0))
  stands_once t i j is (further b not stands) (in_function function) = absurd (not function)
  stands_once t i j is (further {at = at} {from = from} {inside = inside} {branch = branch} b not stands)
      (further {from = other} {inside = around} {branch = side} c _ also) =
      let tests = tested bs from branch at b.leads in
      let same : from ≡ other = one_branch at t i j is not from other branch side b c in
      ap (λ (k : ℕ). k + 1)
      (stands_once tests.truth tests.one tests.other tests.is stands
      (subst (λ (x : ℕ). StandsInside bs order x around) (sym same) also))

  -- a block that the table makes a function is one of the shape
  becomes : (at : ℕ) (b : BlockTree) → slice_get bs at ≡ Some b → becomes_function b (reach_at rs at) ≡ true →
      BecomesFunction bs order at
  becomes at b is so = record {
    reached = reached_so bs on rs (2 * length bs) table at (slice_get_within bs at b is)
        (λ never. true≢false (sym so ∙ ap (becomes_function b) never ∙ unreached b));
    busy = λ nothing.
        true≢false (sym so ∙ ap (λ x. becomes_function x (reach_at rs at))
        (is_one (slice_get bs at) b idle is nothing));
    why = of b is so (reach_at rs at) refl (table.tells at (slice_get_within bs at b is));
  }
    where
      unreached : (x : BlockTree) → becomes_function x Never ≡ false
      unreached (test t i j) = refl
      unreached (call task args) = refl
      unreached (leave p) = refl
      unreached idle = refl

      shared : HasTwo bs (2 * length bs) at → IsShared bs at
      shared two = record {
        one = two.one;
        one_branch = two.one_branch;
        other = two.other;
        other_branch = two.other_branch;
        is = two.is.is;
        also = two.also.is;
        differ = two.differ;
      }

      deep : (t : TruthTree) (i j around : ℕ) → slice_get bs at ≡ Some (test t i j) → most_ifs ≤ around →
          ((at ≡ 0) × (around ≡ 0)) ⊎ HasOne bs rs (2 * length bs) at around → IsTooDeep bs order at
      deep t i j around there many (inl start) = absurd (omega (arith, many, start.1))
      deep t i j around there many (inr one) =
          let tests = tested bs one.from one.branch at one.followed.is.leads in
          let later = leads_later bs on one.from one.branch at one.followed.is.leads in
          let stand = stand_of one.from one.from (omega arith) (omega (arith, later.0, later.1)) tests.truth tests.one
          tests.other tests.is around one.inside_is in
          record {
            truth = t;
            one = i;
            other = j;
            is_test = there;
            from = one.from;
            branch = one.branch;
            inside = stand.around;
            is = one.followed.is;
            stands = stand.stands;
            deep = omega (arith, many, stand.one_more);
          }

      of : (x : BlockTree) → slice_get bs at ≡ Some x → becomes_function x (reach_at rs at) ≡ true → (r : Reach) →
          reach_at rs at ≡ r → Tells bs rs (2 * length bs) at r → IsShared bs at ⊎ IsTooDeep bs order at
      of x there makes Never told tells =
          absurd (true≢false (sym makes ∙ ap (becomes_function x) told ∙ unreached x))
      of x there makes Often told tells = inl (shared tells)
      of (test t i j) there makes (Once around) told tells =
          inr (deep t i j around there
          (leb-true most_ifs around (sym (ap (becomes_function (test t i j)) told) ∙ makes)) tells)
      of (call task args) there makes (Once around) told tells =
          absurd (true≢false (sym makes ∙ ap (becomes_function (call task args)) told))
      of (leave p) there makes (Once around) told tells =
          absurd (true≢false (sym makes ∙ ap (becomes_function (leave p)) told))
      of idle there makes (Once around) told tells = absurd (true≢false (sym makes))

  -- a function of the shape is one by the table
  is_told : (at : ℕ) (b : BlockTree) → slice_get bs at ≡ Some b → BecomesFunction bs order at →
      becomes_function b (reach_at rs at) ≡ true
  is_told at b is so = of (reach_at rs at) refl (table.tells at within)
    where
      within : at < length bs
      within = slice_get_within bs at b is

      often : (x : BlockTree) → slice_get bs at ≡ Some x → becomes_function x Often ≡ true
      often (test t i j) there = refl
      often (call task args) there = refl
      often (leave p) there = refl
      often idle there = absurd (so.busy there)

      of_one : (around : ℕ) → HasOne bs rs (2 * length bs) at around → IsShared bs at ⊎ IsTooDeep bs order at →
          becomes_function b (Once around) ≡ true
      of_one around one (inl shared) =
          let left = one.only shared.one shared.one_branch (all_followed shared.is) in
          let right = one.only shared.other shared.other_branch (all_followed shared.also) in
          absurd (apart (left.0 ∙ sym right.0) (left.1 ∙ sym right.1) shared.differ)
        where
          apart : shared.one ≡ shared.other → shared.one_branch ≡ shared.other_branch →
              (shared.one ≢ shared.other) ⊎ (shared.one_branch ≢ shared.other_branch) → ⊥
          apart same also (inl differs) = differs same
          apart same also (inr differs) = differs also
      of_one around one (inr deep) =
          let tests = tested bs one.from one.branch at one.followed.is.leads in
          let later = leads_later bs on one.from one.branch at one.followed.is.leads in
          let stand = stand_of one.from one.from (omega arith) (omega (arith, later.0, later.1)) tests.truth tests.one
          tests.other tests.is around one.inside_is in
          let same : deep.from ≡ one.from = (one.only deep.from deep.branch (all_followed deep.is)).0 in
          let inside : stand.around ≡ deep.inside =
          stands_once tests.truth tests.one tests.other tests.is stand.stands
          (subst (λ (x : ℕ). StandsInside bs order x deep.inside) same deep.stands) in
          let block : b ≡ test deep.truth deep.one deep.other =
          is_one (slice_get bs at) b (test deep.truth deep.one deep.other) is deep.is_test in
          ap (λ x. becomes_function x (Once around)) block
          ∙ le-leb most_ifs around (omega (arith, deep.deep, inside, stand.one_more))

      first_block : at ≡ 0 → IsShared bs at ⊎ IsTooDeep bs order at → ⊥
      first_block start (inl shared) =
          omega (arith, start, (leads_later bs on shared.one shared.one_branch at shared.is.leads).0)
      first_block start (inr deep) =
          omega (arith, start, (leads_later bs on deep.from deep.branch at deep.is.leads).0)

      of : (r : Reach) → reach_at rs at ≡ r → Tells bs rs (2 * length bs) at r →
          becomes_function b (reach_at rs at) ≡ true
      of Never told tells =
          absurd (told_reached bs on rs (2 * length bs) table at within (omega (arith, within)) so.reached told)
      of Often told tells = ap (becomes_function b) told ∙ often b is
      of (Once around) told (inl start) = absurd (first_block start.0 so.why)
      of (Once around) told (inr one) = ap (becomes_function b) told ∙ of_one around one so.why

  -- the blocks of the functions are those that become functions
  pub chosen : (at : ℕ) → IsFunction order at ↔ BecomesFunction bs order at
  chosen at = (λ function. of_table (slice_get bs at) refl ((named at).0 function), of_shape)
    where
      of_table : (o : Option BlockTree) → slice_get bs at ≡ o → is_function bs rs at ≡ true →
          BecomesFunction bs order at
      of_table None is so =
          absurd (true≢false
          (sym so ∙ ap (λ o. option_map_or (λ x. becomes_function x (reach_at rs at)) o false) is))
      of_table (Some b) is so = becomes at b is (sym (is_function_of at b is) ∙ so)

      block_there : (o : Option BlockTree) → slice_get bs at ≡ o → BecomesFunction bs order at → IsFunction order at
      block_there None is so =
          absurd (past (reached_within so.reached))
        where
          past : at < length bs → ⊥
          past within = let there = slice_get-get_or bs at idle within in
              let wrong : None ≡ Some (get_or bs at idle) = sym is ∙ there in cc
      block_there (Some b) is so = (named at).1 (is_function_of at b is ∙ is_told at b is so)

      of_shape : BecomesFunction bs order at → IsFunction order at
      of_shape so = block_there (slice_get bs at) refl so
