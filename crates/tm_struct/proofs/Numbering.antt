-- How functions are numbered, one block after another from the last to the first.
use Rattle.std.proofs.Common.{◌≡◌, ◌≢◌, ℕ, zero, suc, ◌+◌, ◌^◌, ◌<◌, ◌≤◌, ◌⊎◌, inl, inr, Bool, true, false, Option, None, Some, List, [], ◌∷◌, ◌++◌, length, replicate, slice_get, set, get_or, refl, sym, ap, subst, ◌∙◌, true≢false, length-append, arith}
use Rattle.std.specs.Option.{option_map_or}
use Rattle.std.proofs.lemmas.List.{length-map, length-replicate, length-set, get_or-set_same, get_or-set_other}
use Rattle.std.proofs.lemmas.Option.{slice_get_within, slice_get_past, slice_get-get_or}
use Rattle.tm_cir.specs.declared.block.Block.{Block}
use Rattle.tm_cir.specs.Tree.{BlockTree, test, call, leave, idle}
use Rattle.tm_cir.specs.View.{block_tree, block_trees}
use Rattle.tm_struct.specs.declared.reaching.Reach.{Reach}
use Rattle.tm_struct.specs.declared.reaching.Reach.TheVariants.{Never}
use Rattle.tm_struct.specs.Shape.{IsFunction}
use Rattle.tm_struct.specs.Inner.Reaching.{reach_at, becomes_function, AreReaches}
use Rattle.tm_struct.specs.Inner.Naming.{is_function, number_at, AreNumbers, AreNamedFrom}
use Rattle.tm_struct.proofs.Pushed.{is_one, in_front, last_one, pushed, same_or_not}

abbrev no_number : Option ℕ
no_number = None

none_there : (n k : ℕ) → get_or (replicate n no_number) k no_number ≡ no_number
none_there zero k = refl
none_there (suc n) zero = refl
none_there (suc n) (suc k) = none_there n k

-- no block is numbered yet
pub none_named : (bs : List BlockTree) (rs : List Reach) (count : ℕ) → count ≡ length bs →
    AreNamedFrom bs rs count [] (replicate count None)
none_named bs rs count all = record {
  long = length-replicate count None ∙ all;
  numbered = record {
    to = λ at k is. let wrong : None ≡ Some k = sym (none_there count at) ∙ is in absurd (cc);
    from = λ at k is. absurd (cc);
  };
  falls = λ j k one other below first second. absurd (cc);
  are = λ k at is. absurd (cc);
  all = λ at past is.
      let none : is_function bs rs at ≡ false =
      ap (λ o. option_map_or (λ b. becomes_function b (reach_at rs at)) o false)
      (slice_get_past bs at (omega (arith, all, past))) in
      absurd (true≢false (sym is ∙ none));
}

module _ (bs : List BlockTree) (rs : List Reach) (at : ℕ) (order : List ℕ) (numbers : List (Option ℕ))
    (before : AreNamedFrom bs rs (at + 1) order numbers) where
  -- the block becomes no function
  pub named_less : is_function bs rs at ≡ false → AreNamedFrom bs rs at order numbers
  named_less not = record {
    long = before.long;
    numbered = before.numbered;
    falls = before.falls;
    are = λ k x is. let found = before.are k x is in (omega (arith, found.0), found.1, found.2);
    all = λ x within is. of x within is (same_or_not x at);
  }
    where
      of : (x : ℕ) → at ≤ x → is_function bs rs x ≡ true → (x ≡ at) ⊎ (x ≡ at → ⊥) → IsFunction order x
      of x within is (inl same) =
          absurd (true≢false (sym is ∙ ap (is_function bs rs) same ∙ not))
      of x within is (inr differs) = before.all x (omega (arith, within, differs)) is

  module _ (is : is_function bs rs at ≡ true) (within : at < length bs) (small : at < 2 ^ 32) where
    abbrev after : List (Option ℕ)
    after = set numbers at (Some (length order))

    abbrev long_order : List ℕ
    long_order = order ++ at ∷ []

    elsewhere : (x : ℕ) → (x ≡ at → ⊥) → number_at after x ≡ number_at numbers x
    elsewhere x not = get_or-set_other numbers at x _ None not

    here : number_at after at ≡ Some (length order)
    here = get_or-set_same numbers at _ None (omega (arith, within, before.long))

    -- a function that was numbered is another block
    later_one : (k x : ℕ) → slice_get order k ≡ Some x → x ≡ at → ⊥
    later_one k x there same = omega (arith, (before.are k x there).0, same)

    -- there are numbers for all functions
    pub few : length order + at < 2 ^ 32
    few = of order refl
      where
        of : (xs : List ℕ) → order ≡ xs → length order + at < 2 ^ 32
        of [] none = let e : length order ≡ 0 = ap length none in omega (arith, e, small)
        of (y ∷ ys) some =
            let long : length order ≡ suc (length ys) = ap length some in
            let last : slice_get order (length ys) ≡ Some (get_or order (length ys) 0) =
            slice_get-get_or order (length ys) 0 (omega (arith, long)) in
            let found = before.are (length ys) (get_or order (length ys) 0) last in
            omega (arith, found.0, found.2, long)

    to_of : (x k : ℕ) → (x ≡ at) ⊎ (x ≡ at → ⊥) → number_at after x ≡ Some k → slice_get long_order k ≡ Some x
    to_of x k (inl same) told =
        let number_is : length order ≡ k =
        is_one (number_at after at) (length order) k here (sym (ap (number_at after) same) ∙ told) in
        ap (slice_get (order ++ at ∷ [])) (sym number_is) ∙ last_one order at ∙ ap Some (sym same)
    to_of x k (inr not) told =
        in_front order (at ∷ []) k x (before.numbered.to x k (sym (elsewhere x not) ∙ told))

    from_of : (x k : ℕ) → (slice_get order k ≡ Some x) ⊎ ((k ≡ length order) × (x ≡ at)) → number_at after x ≡ Some k
    from_of x k (inl there) = elsewhere x (later_one k x there) ∙ before.numbered.from x k there
    from_of x k (inr last) = ap (number_at after) last.1 ∙ here ∙ ap Some (sym last.0)

    falls_of : (j k one other : ℕ) → j < k → (slice_get order j ≡ Some one) ⊎ ((j ≡ length order) × (one ≡ at)) →
        (slice_get order k ≡ Some other) ⊎ ((k ≡ length order) × (other ≡ at)) → other < one
    falls_of j k one other below (inl first) (inl second) = before.falls j k one other below first second
    falls_of j k one other below (inl first) (inr last) =
        omega (arith, (before.are j one first).0, last.1)
    falls_of j k one other below (inr last) (inl second) =
        absurd (omega (arith, last.0, below, slice_get_within order k other second))
    falls_of j k one other below (inr last) (inr also) = absurd (omega (arith, last.0, also.0, below))

    are_of : (k x : ℕ) → (slice_get order k ≡ Some x) ⊎ ((k ≡ length order) × (x ≡ at)) →
        (at ≤ x) × (is_function bs rs x ≡ true) × (k + x < 2 ^ 32)
    are_of k x (inl there) =
        let found = before.are k x there in (omega (arith, found.0), found.1, found.2)
    are_of k x (inr last) =
        (omega (arith, last.1), ap (is_function bs rs) last.1 ∙ is, omega (arith, few, last.0, last.1))

    all_of : (x : ℕ) → at ≤ x → is_function bs rs x ≡ true → (x ≡ at) ⊎ (x ≡ at → ⊥) → IsFunction long_order x
    all_of x past so (inl same) = (length order, last_one order at ∙ ap Some (sym same))
    all_of x past so (inr differs) =
        let found = before.all x (omega (arith, past, differs)) so in
        (found.0, in_front order (at ∷ []) found.0 x found.1)

    -- the block becomes the next function
    pub named_more : AreNamedFrom bs rs at (order ++ at ∷ []) (set numbers at (Some (length order)))
    named_more = record {
      long = length-set numbers at _ ∙ before.long;
      numbered = record {
        to = λ x k told. to_of x k (same_or_not x at) told;
        from = λ x k there. from_of x k (pushed order at k x there);
      };
      falls = λ j k one other below first second.
          falls_of j k one other below (pushed order at j one first) (pushed order at k other second);
      are = λ k x there. are_of k x (pushed order at k x there);
      all = λ x past so. all_of x past so (same_or_not x at);
    }

-- no block of a list in memory is numbered yet
pub begins_named : (bs : List Block) (rs : List Reach) (order : List ℕ) (numbers : List (Option ℕ)) → order ≡ [] →
    numbers ≡ replicate (length bs) None → AreNamedFrom (block_trees bs) rs (length bs) order numbers
begins_named bs rs order numbers none unnumbered =
    subst (λ (l : List ℕ). AreNamedFrom (block_trees bs) rs (length bs) l numbers) (sym none)
    (subst (AreNamedFrom (block_trees bs) rs (length bs) []) (sym unnumbered)
    (none_named (block_trees bs) rs (length bs) (sym (length-map bs block_tree))))

-- a block that the table makes a function has a number of 32 bits
pub small_function : (bs : List BlockTree) (rs : List Reach) → AreReaches bs rs → (at : ℕ) →
    is_function bs rs at ≡ true → at < 2 ^ 32
small_function bs rs table at is = table.small at (λ never. of (slice_get bs at) refl never)
  where
    unreached : (b : BlockTree) → becomes_function b Never ≡ false
    unreached (test t i j) = refl
    unreached (call task args) = refl
    unreached (leave p) = refl
    unreached idle = refl

    of : (o : Option BlockTree) → slice_get bs at ≡ o → reach_at rs at ≡ Never → ⊥
    of None there never =
        true≢false
        (sym is ∙ ap (λ o. option_map_or (λ b. becomes_function b (reach_at rs at)) o false) there)
    of (Some b) there never =
        true≢false
        (sym is ∙ ap (λ o. option_map_or (λ x. becomes_function x (reach_at rs at)) o false) there
        ∙ ap (becomes_function b) never ∙ unreached b)

-- a block that becomes a function is given the next number
pub function_named : (bs : List BlockTree) (rs : List Reach) (at : ℕ) (order more : List ℕ)
    (numbers : List (Option ℕ)) (n : ℕ) → AreReaches bs rs → AreNamedFrom bs rs (at + 1) order numbers →
    at < length bs → is_function bs rs at ≡ true → n ≡ length order → more ≡ order ++ at ∷ [] →
    AreNamedFrom bs rs at more (set numbers at (Some n))
function_named bs rs at order more numbers n table before within is number put =
    subst (λ (l : List ℕ). AreNamedFrom bs rs at l (set numbers at (Some n))) (sym put)
    (subst (λ (k : ℕ). AreNamedFrom bs rs at (order ++ at ∷ []) (set numbers at (Some k))) (sym number)
    (named_more bs rs at order numbers before is within (small_function bs rs table at is)))
