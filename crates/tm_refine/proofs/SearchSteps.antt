-- The steps of a search.
use Rattle.std.proofs.Common.{◌≡◌, ℕ, suc, ◌+◌, ◌<◌, ◌≤◌, Bool, true, false, List, [], ◌∷◌, ◌++◌, length, refl, sym, ap, ◌∙◌, subst, arith}
use Rattle.std.specs.List.{range_with_len}
use Rattle.tm_refine.specs.declared.trace.Added.{Added}
use Rattle.tm_syntax.specs.Design.{DesignTree}
use Rattle.tm_sem.specs.State.{StateData}
use Rattle.tm_flat_pool.specs.Predicates.{Predicate, pool}
use Rattle.tm_flat_pool.specs.Cells.{SameCell}
use Rattle.tm_solve.specs.Sets.{StateSet}
use Rattle.tm_solve.specs.Game.{Game}
use Rattle.tm_solve.specs.Ids.{Ids, Extends, Follows, Stay}
use Rattle.tm_refine.specs.Numbers.{is_in, left_below}
use Rattle.tm_game_pool.specs.Separating.{Separates, predicates_at}
use Rattle.tm_refine.specs.Reasons.{TellsFirst}
use Rattle.tm_abs.specs.Split.{IsCut}
use Rattle.tm_refine.specs.Searching.{ArePairs, HasOwn, IsOneMore, IsPair, IsParted, IsSearching, IsWon, NoneOf}
use Rattle.tm_solve.proofs.Items.{get_below}
use Rattle.tm_refine.proofs.Tracing.{is_new}
use Rattle.tm_refine.proofs.DecideSteps.{not_in, room_more, room_less, step_tracked}
use Rattle.tm_solve.specs.declared.iterates.Iterates.{Iterates}
use Rattle.tm_solve.specs.Iterates.{KnowsAll, driver_sets, levels_of}
use Rattle.tm_refine.specs.Solved.{IsLowerOf, IsOut, IsUpperOf}
use Rattle.tm_refine.proofs.RoundSides.{driver_turn, environment_turn}
use Rattle.tm_refine.proofs.OneSide.{none_no_more}
use Rattle.tm_refine.proofs.HandDown.{pairs_more}

-- ---- what stays
pub stay_then : {a b c : Ids} → Stay a b → Stay b c → Stay a c
stay_then d e = record {
  known = λ id known. e.known id (d.known id known);
  same = λ id known. e.same id (d.known id known) ∙ d.same id known;
  of = λ design is. e.of design (d.of design is);
}

pub stay_of : {g h : Game} {a b : Ids} → Follows g a h b → Stay a b
stay_of f = record { known = f.extends.known; same = f.extends.same; of = f.extends.of }

-- ---- two states of one cell
module _ (d : DesignTree) (ps : List Predicate) (tracked : List ℕ) (left right : StateData)
    (parted : IsParted d (predicates_at ps tracked) left right) where
  pair : (k : ℕ) → TellsFirst d ps left right k →
      IsPair d ps tracked (record { predicate = k; left = left; right = right })
  pair k tells = record {
    left = parted.one;
    right = parted.other;
    one_cell = parted.one_cell;
    first = tells;
  }

  new_number : (k : ℕ) → TellsFirst d ps left right k → is_in k tracked ≡ false
  new_number k tells = not_in k tracked (is_new d left right ps tracked k parted.one_cell tells)

  below_all : (k : ℕ) → TellsFirst d ps left right k → k < length ps
  below_all k tells = get_below ps k tells.predicate tells.at

  pub told_apart : Separates d ps → ¬ SameCell d ps left right
  told_apart separates cell = parted.two (separates left right parted.one parted.other cell)

true_false : (b : Bool) → b ≡ true → b ≡ false → ⊥
true_false true e f = cc
true_false false e f = cc

-- two states of a cell that a set cuts are apart
pub parted_of_cut : (d : DesignTree) (predicates : List Predicate) (a : StateSet) (s t : StateData) →
    IsCut d predicates a s t → IsParted d predicates s t
parted_of_cut d predicates a s t cut = record {
  one = cut.inside_valid;
  other = cut.out_valid;
  one_cell = cut.cell;
  two = λ e. true_false (a t) (subst (λ (x : StateData). a x ≡ true) e cut.inside_it) cut.out_of_it;
}

-- two states of a cell are apart where the tracked numbers were copied, too
module _ (d : DesignTree) (ks js : List ℕ) (same : ks ≡ js) where
  pub cut_parted : (a : StateSet) (s t : StateData) → IsCut d (predicates_at (pool d) ks) a s t →
      IsParted d (predicates_at (pool d) js) s t
  cut_parted a s t cut =
      subst (λ (l : List ℕ). IsParted d (predicates_at (pool d) l) s t) same
      (parted_of_cut d (predicates_at (pool d) ks) a s t cut)

  pub apart_parted : (s t : StateData) → IsParted d (predicates_at (pool d) ks) s t →
      IsParted d (predicates_at (pool d) js) s t
  apart_parted s t parted = subst (λ (l : List ℕ). IsParted d (predicates_at (pool d) l) s t) same parted

  -- where cells are points a side with a certificate does not fail
  pub points_end : (upper : Bool) → Separates d (predicates_at (pool d) ks) →
      NoneOf d (predicates_at (pool d) js) upper → HasOwn d upper → ⊥
  points_end upper points none own =
      none_no_more d (predicates_at (pool d) js)
      (subst (λ (l : List ℕ). Separates d (predicates_at (pool d) l)) same points) upper none own

-- ---- one predicate more
module _ (of : DesignTree → Type 0) (left right : StateData) (ks js : List ℕ) (xs ys : List Added)
    (more : IsOneMore of left right ks js xs ys) (d : DesignTree) (here : of d)
    (parted : IsParted d (predicates_at (pool d) ks) left right) where
  pub searching_more : (first : ℕ) → IsSearching d first ks xs → IsSearching d first js ys
  searching_more first s = record {
    numbers = step_tracked (range_with_len 0 first) ks js xs ys more.predicate left right s.numbers more.numbers
        more.items;
    room = room_more (length (pool d)) ks js more.predicate s.room more.numbers
        (below_all d (pool d) ks left right parted more.predicate (more.tells d here))
        (new_number d (pool d) ks left right parted more.predicate (more.tells d here));
    pairs = subst (λ (l : List Added). ArePairs d (pool d) (range_with_len 0 first) l) (sym more.items)
        (pairs_more d (pool d) (range_with_len 0 first) xs
        (record { predicate = more.predicate; left = left; right = right }) s.pairs
        (subst (λ (l : List ℕ).
        IsPair d (pool d) l (record { predicate = more.predicate; left = left; right = right })) s.numbers
        (pair d (pool d) ks left right parted more.predicate (more.tells d here))));
  }

  pub number_shrinks : (n : ℕ) → length (pool d) ≡ n → left_below n js < left_below n ks
  number_shrinks n size =
      room_less n ks js more.predicate more.numbers
      (let below = below_all d (pool d) ks left right parted more.predicate (more.tells d here) in omega arith)
      (new_number d (pool d) ks left right parted more.predicate (more.tells d here))

-- ---- lists that grow
length_both : (xs ys : List Added) → length (xs ++ ys) ≡ length xs + length ys
length_both [] ys = omega arith
length_both (x ∷ xs) ys = let e = length_both xs ys in omega arith

append_both : (xs ys zs : List Added) → (xs ++ ys) ++ zs ≡ xs ++ (ys ++ zs)
append_both [] ys zs = refl
append_both (x ∷ xs) ys zs = ap (λ r. x ∷ r) (append_both xs ys zs)

append_nothing : (xs : List Added) → xs ++ [] ≡ xs
append_nothing [] = refl
append_nothing (x ∷ xs) = ap (λ r. x ∷ r) (append_nothing xs)

pub longer_self : (xs : List Added) → (more : List Added) × (xs ≡ xs ++ more)
longer_self xs = ([], sym (append_nothing xs))

pub longer_then : (xs ys zs more : List Added) → ((m : List Added) × (ys ≡ xs ++ m)) → zs ≡ ys ++ more →
    (m : List Added) × (zs ≡ xs ++ m)
longer_then xs ys zs more one grown =
    (one.0 ++ more, grown ∙ ap (λ (l : List Added). l ++ more) one.1 ∙ append_both xs one.0 more)

pub longer_length : (xs ys : List Added) → ((m : List Added) × (ys ≡ xs ++ m)) → length xs ≤ length ys
longer_length xs ys one =
    let e : length ys ≡ length xs + length one.0 = ap (λ (l : List Added). length l) one.1 ∙ length_both xs one.0 in
    omega arith

pub grown_length : (xs ys : List Added) (a : Added) → ys ≡ xs ++ a ∷ [] → length ys ≡ suc (length xs)
grown_length xs ys a grown =
    let e : length ys ≡ length xs + length (a ∷ []) =
    ap (λ (l : List Added). length l) grown ∙ length_both xs (a ∷ []) in
    omega arith

pub not_grown : (xs ys zs : List Added) (a : Added) → ((m : List Added) × (ys ≡ xs ++ m)) → zs ≡ ys ++ a ∷ [] →
    zs ≡ xs → ⊥
not_grown xs ys zs a one grown same =
    let e = longer_length xs ys one in
    let f = grown_length ys zs a grown in
    let h : length zs ≡ length xs = ap (λ (l : List Added). length l) same in
    omega arith

-- a longer list of one length is the list
pub same_length : (xs ys : List Added) → ((m : List Added) × (ys ≡ xs ++ m)) → length ys ≤ length xs → ys ≡ xs
same_length xs ys one less = by one.0 one.1
  where
    by : (m : List Added) → ys ≡ xs ++ m → ys ≡ xs
    by [] e = e ∙ append_nothing xs
    by (x ∷ m) e =
        let f : length ys ≡ length xs + length (x ∷ m) = ap (λ (l : List Added). length l) e ∙ length_both xs (x ∷ m) in
        absurd (omega arith)

-- ---- a side that wins
module _ (d : DesignTree) (predicates : List Predicate) (a b : Ids) (it : Iterates) (e : Extends a b)
    (k : KnowsAll a it) (upper : Bool) where
  pub won_upper : upper ≡ true → IsUpperOf d predicates (a.means it.region) (levels_of a it) →
      IsOut d (a.means it.region) true → IsWon d predicates upper b it
  won_upper is up out =
      subst (λ (v : Bool). IsWon d predicates v b it) (sym is)
      (let t = environment_turn d predicates a b it e k up out in record { meets = t.0; unions = t.1 })

  pub won_lower : upper ≡ false → IsLowerOf d predicates (driver_sets a it) → IsOut d (a.means it.region) false →
      IsWon d predicates upper b it
  won_lower is low all =
      subst (λ (v : Bool). IsWon d predicates v b it) (sym is)
      (let t = driver_turn d predicates a b it e k low all in record { meets = t.0; unions = t.1 })

-- ---- two sets, one after the other
module _ (xs ys zs : List Added) (one : (m : List Added) × (ys ≡ xs ++ m)) (two : (m : List Added) × (zs ≡ ys ++ m))
  where
    pub longer_twice : (m : List Added) × (zs ≡ xs ++ m)
    longer_twice = longer_then xs ys zs two.0 one two.1

    pub first_same : zs ≡ xs → ys ≡ xs
    first_same same =
        let a = longer_length ys zs two in
        let h : length zs ≡ length xs = ap (λ (l : List Added). length l) same in
        same_length xs ys one (omega arith)

pub grown_other : (xs ys : List Added) → length xs < length ys → ys ≡ xs → ⊥
grown_other xs ys less same =
    let h : length ys ≡ length xs = ap (λ (l : List Added). length l) same in
    omega arith
