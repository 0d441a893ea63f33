-- The arguments of a call, one after the other, and in the places of their levels.
use Rattle.std.proofs.Common.{◌≡◌, ℕ, zero, suc, ◌+◌, ◌^◌, ◌<◌, ◌≤◌, ◌⊎◌, inl, inr, Bool, true, false, cond, eqb}
use Rattle.std.proofs.Common.{List, [], ◌∷◌, ◌++◌, Option, Vec, None, Some, length, get_or, map, drop, refl, sym, ap, ◌∙◌}
use Rattle.std.proofs.Common.{subst, arith, eqb-true, eq-eqb}
use Rattle.std.specs.Prelude.{◌==◌, ◌&&◌, All, Contains, IsSomeAnd, MatchOption, min, nat_eq, nat_lt, slice_get, slice_index_or, sum}
use Rattle.std.specs.List.{list_all, range_with_len, zip}
use Rattle.std.specs.Map.{lookup}
use Rattle.std.specs.declared.alloc.Global.{Global}
use Rattle.std.specs.Option.{option_map, option_map_or}
use Rattle.std.proofs.lemmas.Bool.{cases_lt}
use Rattle.std.proofs.lemmas.List.{append-nil, append_assoc, drop_all, drop_more, get_or-map, get_or_past}
use Rattle.std.proofs.lemmas.List.{length-append, length-map, map-append}
use Rattle.std.proofs.lemmas.List.Elements.{All-append}
use Rattle.std.proofs.lemmas.List.FromFn.{get_or-map-range_with_len, get_or-range_with_len, length-map-range_with_len, length-range_with_len}
use Rattle.std.proofs.lemmas.List.Sums.{sum_by-cons}
use Rattle.std.proofs.lemmas.Option.{get_or_from_slice_get, slice_get-get_or, slice_get-map, slice_get_within}
use Rattle.std.proofs.lemmas.Slice.Zip.{AllZip-long, AllZip-right}
use Rattle.tm_check.specs.declared.terms.Reading.{Reading}
use Rattle.tm_check.specs.Arguments.{AreArguments, IsArgument, placed, values_at}
use Rattle.tm_check.specs.Reads.{Reads}
use Rattle.tm_check.specs.Replies.{IsMove, move_of}
use Rattle.tm_check.proofs.Valued.{order_read, values_along}
use Rattle.tm_game_bits.specs.AssignedStates.{numbers_from, state_of}
use Rattle.tm_game_bits.specs.Inputs.{arguments_at}
use Rattle.tm_game_bits.proofs.Coded.{is_coding}
use Rattle.tm_game_bits.proofs.Numbers.{Fits, numbers_agree}
use Rattle.tm_game_bits.proofs.Tasks.{has_tasks}
use Rattle.tm_blast.specs.Bits as blasted
use Rattle.tm_base.specs.Arithmetic.{bit}
use Rattle.tm_base.specs.Bits.{bits_of}
use Rattle.tm_cir.specs.Meaning.{num_value}
use Rattle.tm_cir.specs.Tree.{NumTree, call}
use Rattle.tm_dd.specs.declared.node.NodeId.{NodeId}
use Rattle.tm_dd.specs.declared.node.TheConstants.{FALSE, TRUE}
use Rattle.tm_dd.specs.Reduced.{Extends}
use Rattle.tm_dd.specs.Table.{Knows, Table, assignment, means}
use Rattle.tm_dd.proofs.CallerLaws.{means-FALSE, means-TRUE}
use Rattle.tm_ddops.specs.Operation.{substituted}
use Rattle.tm_flat.specs.declared.flat.Flat.{Flat}
use Rattle.tm_flat.specs.Flat.{FlatTerms, flat_terms}
use Rattle.tm_flat.specs.BitRun.{number_at}
use Rattle.tm_flat.specs.Inputs.{arguments_from, arguments_in, bits_in, parameter_widths, room}
use Rattle.tm_flat.specs.IsFlat.{AreWidths}
use Rattle.tm_flat.specs.Steps.{IsTaskStep}
use Rattle.tm_game_bits.proofs.Extended.{Knows-Extends}
use Rattle.tm_game.specs.declared.moves.MoveShape.{MoveShape}
use Rattle.tm_game.specs.declared.moves.MoveShape.TheVariants as shapes
use Rattle.tm_game.specs.Game.{GameData, IsOf}
use Rattle.tm_game.specs.Inner.Called.{have_widths}
use Rattle.tm_game.specs.Moves.{move_at}
use Rattle.tm_game.proofs.Calling.{call_given, callable}
use Rattle.tm_game.proofs.Writing.{each_fits}
use Rattle.tm_sem.specs.declared.state.Move.{Move}
use Rattle.tm_sem.specs.declared.state.Move.TheVariants as moves
use Rattle.tm_sem.specs.State.{StateData}
use Rattle.tm_sem.specs.StateBits.{bits_of_numbers}
use Rattle.tm_sem.specs.Run.{asked_by}
use Rattle.tm_sem.specs.Step.{IsAllowed, task_of}
use Rattle.tm_syntax.specs.Design.{DesignTree, IsDesign}
use Rattle.tm_syntax.specs.Design.Cells.{Called, Cell}
use Rattle.tm_syntax.specs.Design.Sizes.{type_bits}

-- whether a number has a width, where they stand side by side
abbrev pub has_its_width : ℕ × ℕ → Bool
has_its_width p = nat_lt p.1 (2 ^ p.0)

-- ---- one after the other
-- those before an index are read: with those behind it they are all
pub record AreRead (d : DesignTree) (order : List ℕ) (s : Table) (goal : ℕ) (widths : List ℕ) (nums : List NumTree)
    (index : ℕ) (fit : NodeId) (bits : List NodeId) : Type 0 where
  pub fit_known : Knows s fit
  pub bits_known : All (Knows s) bits
  pub fits : (v : ℕ → Bool) →
      (means s fit v && list_all has_its_width (zip (drop index widths) (drop index (values_at d order goal nums v))))
      ≡ list_all has_its_width (zip widths (values_at d order goal nums v))
  pub are : (v : ℕ → Bool) →
      blasted.values_in s bits v ++ bits_of_numbers (drop index widths) (drop index (values_at d order goal nums v))
      ≡ bits_of_numbers widths (values_at d order goal nums v)

pub read_none : (d : DesignTree) (order : List ℕ) (s : Table) (goal : ℕ) (widths : List ℕ) (nums : List NumTree) →
    AreRead d order s goal widths nums 0 TRUE []
read_none d order s goal widths nums = record {
  fit_known = omega arith;
  bits_known = λ k x below. absurd (omega arith);
  fits = λ v. ap (λ b. b && list_all has_its_width (zip widths (values_at d order goal nums v))) (means-TRUE s v);
  are = λ v. refl;
}

regrouped : (a b c : Bool) → ((a && b) && c) ≡ (a && (b && c))
regrouped true b c = refl
regrouped false b c = refl

pub read_more : (d : DesignTree) (order : List ℕ) (s t : Table) (goal : ℕ) (widths : List ℕ) (nums : List NumTree)
    (index : ℕ) (width : ℕ) (num : NumTree) (fit id : NodeId) (olds news : List NodeId) → Extends s t →
    AreRead d order s goal widths nums index fit olds → index < length widths → index < length nums →
    width ≡ get_or widths index 0 → num ≡ get_or nums index num →
    IsArgument d order s t goal num width fit id olds news →
    AreRead d order t goal widths nums (index + 1) id news
read_more d order s t goal widths nums index width num fit id olds news e so_far in_widths in_nums this_width
    this_num is =
    record {
      fit_known = is.fits.known;
      bits_known = λ k x below.
          subst (λ (xs : List NodeId). Knows t (get_or xs k x)) (sym is.behind)
          (both_known k x (subst (λ (xs : List NodeId). k < length xs) is.behind below));
      fits = λ v.
          ap (λ b. b && list_all has_its_width (zip (drop (index + 1) widths) (drop (index + 1) (worth v))))
          (is.fits.meaning v)
          ∙ regrouped (means s fit v) (nat_lt (num_value (state_of d order v) goal num) (2 ^ width))
          (list_all has_its_width (zip (drop (index + 1) widths) (drop (index + 1) (worth v))))
          ∙ ap (λ ps. means s fit v && list_all has_its_width ps) (sym (cut v))
          ∙ so_far.fits v;
      are = λ v.
          ap (λ xs. blasted.values_in t xs v
          ++ bits_of_numbers (drop (index + 1) widths) (drop (index + 1) (worth v))) is.behind
          ∙ ap (λ bs. bs ++ bits_of_numbers (drop (index + 1) widths) (drop (index + 1) (worth v)))
          (map-append (λ (x : NodeId). means t x v) olds is.bits
          ∙ (λ i. values_along s t e olds so_far.bits_known v i ++ is.are v i))
          ∙ append_assoc (blasted.values_in s olds v) (bits_of width (num_value (state_of d order v) goal num))
          (bits_of_numbers (drop (index + 1) widths) (drop (index + 1) (worth v)))
          ∙ ap (λ bs. blasted.values_in s olds v ++ bs) (sym (bits_cut v))
          ∙ so_far.are v;
    }
  where
    worth : (ℕ → Bool) → List ℕ
    worth v = values_at d order goal nums v

    first_width : drop index widths ≡ width ∷ drop (index + 1) widths
    first_width = drop_more widths index 0 in_widths ∙ ap (λ w. w ∷ drop (index + 1) widths) (sym this_width)

    first_value : (v : ℕ → Bool) → drop index (values_at d order goal nums v)
        ≡ num_value (state_of d order v) goal num ∷ drop (index + 1) (values_at d order goal nums v)
    first_value v =
        drop_more (values_at d order goal nums v) index 0
        (omega (arith, length-map nums (num_value (state_of d order v) goal)))
        ∙ ap (λ n. n ∷ drop (index + 1) (values_at d order goal nums v))
        (get_or-map (num_value (state_of d order v) goal) nums index num 0 in_nums
        ∙ ap (num_value (state_of d order v) goal) (sym this_num))

    cut : (v : ℕ → Bool) → zip (drop index widths) (drop index (values_at d order goal nums v))
        ≡ (width, num_value (state_of d order v) goal num)
        ∷ zip (drop (index + 1) widths) (drop (index + 1) (values_at d order goal nums v))
    cut v = λ i. zip (first_width i) (first_value v i)

    bits_cut : (v : ℕ → Bool) → bits_of_numbers (drop index widths) (drop index (values_at d order goal nums v))
        ≡ bits_of width (num_value (state_of d order v) goal num)
        ++ bits_of_numbers (drop (index + 1) widths) (drop (index + 1) (values_at d order goal nums v))
    bits_cut v = λ i. bits_of_numbers (first_width i) (first_value v i)

    both_known : (k : ℕ) (x : NodeId) → k < length (olds ++ is.bits) → Knows t (get_or (olds ++ is.bits) k x)
    both_known = All-append (Knows t) olds is.bits
        (λ k x below. Knows-Extends s t e (get_or olds k x) (so_far.bits_known k x below)) is.known

pub read_all : (d : DesignTree) (order : List ℕ) (s : Table) (goal : ℕ) (widths : List ℕ) (nums : List NumTree)
    (index : ℕ) (fit : NodeId) (bits : List NodeId) → length widths ≡ length nums → length nums ≤ index →
    AreRead d order s goal widths nums index fit bits → AreArguments d order s goal widths nums fit bits
read_all d order s goal widths nums index fit bits long past so_far = record {
  fits = record {
    known = so_far.fit_known;
    meaning = λ v.
        sym (and_true (means s fit v))
        ∙ ap (λ ps. means s fit v && list_all has_its_width ps) (sym (none v))
        ∙ so_far.fits v
        ∙ ap (λ b. b && list_all has_its_width (zip widths (values_at d order goal nums v))) (sym (same_count v));
  };
  known = so_far.bits_known;
  are = λ v fit_there.
      sym (append-nil (blasted.values_in s bits v))
      ∙ ap (λ ps. blasted.values_in s bits v ++ ps) (sym (no_bits v))
      ∙ so_far.are v;
}
  where
    no_widths : drop index widths ≡ []
    no_widths = drop_all index widths (omega arith)

    no_values : (v : ℕ → Bool) → drop index (values_at d order goal nums v) ≡ []
    no_values v =
        drop_all index (values_at d order goal nums v)
        (omega (arith, length-map nums (num_value (state_of d order v) goal)))

    none : (v : ℕ → Bool) → zip (drop index widths) (drop index (values_at d order goal nums v)) ≡ []
    none v = λ i. zip (no_widths i) (no_values v i)

    no_bits : (v : ℕ → Bool) → bits_of_numbers (drop index widths) (drop index (values_at d order goal nums v)) ≡ []
    no_bits v = λ i. bits_of_numbers (no_widths i) (no_values v i)

    same_count : (v : ℕ → Bool) → nat_eq (length widths) (length (values_at d order goal nums v)) ≡ true
    same_count v =
        eq-eqb (length widths) (length (values_at d order goal nums v))
        (long ∙ sym (length-map nums (num_value (state_of d order v) goal)))

    and_true : (b : Bool) → (b && true) ≡ b
    and_true true = refl
    and_true false = refl

-- arguments of another number fit nowhere
pub read_never : (d : DesignTree) (order : List ℕ) (s : Table) (goal : ℕ) (widths : List ℕ) (nums : List NumTree) →
    (length widths ≡ length nums → ⊥) → AreArguments d order s goal widths nums FALSE []
read_never d order s goal widths nums other = record {
  fits = record { known = omega arith; meaning = λ v. means-FALSE s v ∙ sym (never v) };
  known = λ k x below. absurd (omega arith);
  are = λ v fit. absurd (let no = means-FALSE s v in cc);
}
  where
    never : (v : ℕ → Bool) → have_widths widths (values_at d order goal nums v) ≡ false
    never v = by (nat_eq (length widths) (length (values_at d order goal nums v))) refl
      where
        by : (b : Bool) → nat_eq (length widths) (length (values_at d order goal nums v)) ≡ b →
            (b && list_all has_its_width (zip widths (values_at d order goal nums v))) ≡ false
        by false is = refl
        by true is =
            absurd (other
            (eqb-true (length widths) (length (values_at d order goal nums v)) is
            ∙ length-map nums (num_value (state_of d order v) goal)))

-- ---- in their places
module _ (s : Table) (first : ℕ) (bits : List NodeId) where
  -- the parts of some levels
  abbrev parts_from : ℕ → ℕ → List (ℕ × NodeId)
  parts_from a n = map (placed first bits) (range_with_len a n)

  found : (a n j : ℕ) → a ≤ j → j < a + n →
      lookup (λ l. eqb l (first + j)) (parts_from a n) ≡ Some (slice_index_or bits j FALSE)
  found a zero j after before = absurd (omega arith)
  found a (suc n) j after before =
      by (λ later below. found (a + 1) n j later below) (eqb (first + a) (first + j)) refl
    where
      by : (a + 1 ≤ j → j < a + 1 + n →
          lookup (λ l. eqb l (first + j)) (parts_from (a + 1) n) ≡ Some (slice_index_or bits j FALSE)) → (b : Bool) →
          eqb (first + a) (first + j) ≡ b → cond b (Some (slice_index_or bits a FALSE)) (lookup (λ l. eqb l (first +
          j)) (parts_from (a + 1) n))
          ≡ Some (slice_index_or bits j FALSE)
      by rest true is =
          let same : a ≡ j = omega (arith, eqb-true (first + a) (first + j) is) in
          ap (λ k. Some (slice_index_or bits k FALSE)) same
      by rest false is =
          let other : a ≡ j → ⊥ = λ same. let hit = eq-eqb (first + a) (first + j) (ap (λ k. first + k) same) in cc in
          rest (omega (arith, other)) (omega arith)

  -- a level before the first one has no part
  missed : (a n level : ℕ) → level < first → lookup (λ l. eqb l level) (parts_from a n) ≡ None
  missed a zero level before = refl
  missed a (suc n) level before = by (missed (a + 1) n level before) (eqb (first + a) level) refl
    where
      by : lookup (λ l. eqb l level) (parts_from (a + 1) n) ≡ None → (b : Bool) → eqb (first + a) level ≡ b →
          cond b (Some (slice_index_or bits a FALSE)) (lookup (λ l. eqb l level) (parts_from (a + 1) n)) ≡ None
      by rest true is = absurd (omega (arith, eqb-true (first + a) level is))
      by rest false is = rest

  pub part_there : (v : ℕ → Bool) (n j : ℕ) → j < n →
      substituted s (parts_from 0 n) v (first + j) ≡ assignment (blasted.values_in s bits v) j
  part_there v n j below =
      ap (λ o. option_map_or (λ part. means s part v) o (v (first + j))) (found 0 n j (omega arith) (omega arith))
      ∙ by (cases_lt j (length bits))
    where
      by : (j < length bits) ⊎ (length bits ≤ j) → means s (slice_index_or bits j FALSE) v ≡ assignment
          (blasted.values_in s bits v) j
      by (inl inside) = sym (get_or-map (λ (x : NodeId). means s x v) bits j FALSE false inside)
      by (inr past) =
          ap (λ (x : NodeId). means s x v) (get_or_past bits j FALSE past)
          ∙ means-FALSE s v
          ∙ sym (get_or_past (blasted.values_in s bits v) j false
          (omega (arith, length-map bits (λ (x : NodeId). means s x v))))

  pub none_before : (v : ℕ → Bool) (n level : ℕ) → level < first → substituted s (parts_from 0 n) v level ≡ v level
  none_before v n level before =
      ap (λ o. option_map_or (λ part. means s part v) o (v level)) (missed 0 n level before)

  pub parts_known : (n : ℕ) → All (Knows s) bits → (f : NodeId) → Contains (map (λ p. p.1) (parts_from 0 n)) f →
      Knows s f
  parts_known n known f (k, below, is) =
      subst (Knows s)
      (sym (get_or-map (λ (p : ℕ × NodeId). p.1) (parts_from 0 n) k (0, f) f inside
      ∙ ap (λ (p : ℕ × NodeId). p.1)
      (get_or-map-range_with_len (placed first bits) 0 n k k (0, f) (omega (arith, inside, long)) (omega arith)))
      ∙ is)
      (here (cases_lt k (length bits)))
    where
      long : length (parts_from 0 n) ≡ n
      long = length-map-range_with_len (placed first bits) 0 n

      inside : k < length (parts_from 0 n)
      inside = omega (arith, below, length-map (parts_from 0 n) (λ (p : ℕ × NodeId). p.1))

      here : (k < length bits) ⊎ (length bits ≤ k) → Knows s (slice_index_or bits k FALSE)
      here (inl there) = known k FALSE there
      here (inr past) = subst (Knows s) (sym (get_or_past bits k FALSE past)) (omega arith)

-- ---- arguments and their bits
-- arguments are numbers of the widths of their parameters
arguments_are : (d : DesignTree) (params : List Cell) (bits : ℕ → Bool) (k : ℕ) →
    arguments_from d params bits k ≡ numbers_from (parameter_widths d params) bits k
arguments_are d [] bits k = refl
arguments_are d (c ∷ cs) bits k =
    ap (λ ns. number_at bits k (type_bits d.spec (asked_by d (Some c))) ∷ ns)
    (arguments_are d cs bits (k + type_bits d.spec (asked_by d (Some c))))

-- numbers have as many bits as they are wide
length-bits_of : (w n : ℕ) → length (bits_of w n) ≡ w
length-bits_of zero n = refl
length-bits_of (suc w) n = ap suc (length-bits_of w n)

bits_long : (ws ns : List ℕ) → length ws ≡ length ns → length (bits_of_numbers ws ns) ≡ sum ws
bits_long [] [] long = refl
bits_long [] (n ∷ ns) long = absurd (omega arith)
bits_long (w ∷ ws) [] long = absurd (omega arith)
bits_long (w ∷ ws) (n ∷ ns) long =
    length-append (bits_of w n) (bits_of_numbers ws ns)
    ∙ ap (λ k. k + length (bits_of_numbers ws ns)) (length-bits_of w n)
    ∙ ap (λ k. w + k) (bits_long ws ns (omega arith))
    ∙ sym (sum_by-cons (λ x. x) w ws)

module _ (d : DesignTree) (order : List ℕ) (n : ℕ) (widths : List ℕ) (design : IsDesign d) (there : n < length d.tasks)
    (are : AreWidths d n widths) (u w : ℕ → Bool)
    (same : (j : ℕ) → j < 64 → j < sum widths → u (length order + j) ≡ w (length order + j)) where
  callee : (c : Called) × (task_of d n ≡ Some c)
  callee = has_tasks d design n there

  -- one bit of arguments
  bit_same : (q : ℕ) → q < sum widths → bits_in (arguments_at order u) q ≡ bits_in (arguments_at order w) q
  unfolding room
  bit_same q below = by (cases_lt q 64)
    where
      by : (q < 64) ⊎ (64 ≤ q) → bits_in (arguments_at order u) q ≡ bits_in (arguments_at order w) q
      by (inl small) =
          ap (λ k. k == 1)
          (get_or-map-range_with_len (λ k. bit (u k)) (length order) 64 q (length order + q) 0 small refl
          ∙ ap bit (same q small below)
          ∙ sym (get_or-map-range_with_len (λ k. bit (w k)) (length order) 64 q (length order + q) 0 small refl))
      by (inr past) =
          ap (λ k. k == 1)
          (get_or_past (arguments_at order u) q 0
          (omega (arith, length-map-range_with_len (λ k. bit (u k)) (length order) 64))
          ∙ sym (get_or_past (arguments_at order w) q 0
          (omega (arith, length-map-range_with_len (λ k. bit (w k)) (length order) 64))))

  -- a call is told by the bits of its arguments alone
  pub call_same : move_at d order (shapes.Call n) u ≡ move_at d order (shapes.Call n) w
  call_same =
      ap
      (λ o. option_map_or (λ (c : Called). moves.Call n (arguments_in d c.params (arguments_at order u))) o moves.Idle)
      callee.1
      ∙ ap (moves.Call n)
      (arguments_are d callee.0.params (bits_in (arguments_at order u)) 0
      ∙ numbers_agree (parameter_widths d callee.0.params) (bits_in (arguments_at order u))
      (bits_in (arguments_at order w)) 0
      (λ q above below. bit_same q (omega (arith, below, ap sum (are callee.0 callee.1))))
      ∙ sym (arguments_are d callee.0.params (bits_in (arguments_at order w)) 0))
      ∙ sym (ap
      (λ o. option_map_or (λ (c : Called). moves.Call n (arguments_in d c.params (arguments_at order w))) o moves.Idle)
      callee.1)

-- ---- a call
-- each task has its row of widths, which are few
pub rows_there : (d : DesignTree) (g : GameData) → IsOf d g → length g.flat.parameters ≡ length g.flat.tasks
rows_there d g of =
    AllZip-long (AreWidths d) (range_with_len 0 (length d.tasks)) g.flat.parameters of.flat.parameters
    ∙ sym (AllZip-long (IsTaskStep g.terms d) (range_with_len 0 (length d.tasks)) g.flat.tasks of.flat.tasks)

pub row_is : (f : Flat) (flat : FlatTerms) (task : ℕ) (row : Vec ℕ Global) (widths : List ℕ) → flat_terms f ≡ flat →
    task < length f.parameters.items → row ≡ get_or f.parameters.items task row → widths ≡ row.items →
    slice_get flat.parameters task ≡ Some widths
row_is f flat task row widths same below is items =
    ap (λ (x : FlatTerms). slice_get x.parameters task) (sym same)
    ∙ slice_get-map (λ (r : Vec ℕ Global). r.items) f.parameters.items task
    ∙ ap (option_map (λ (r : Vec ℕ Global). r.items))
    (slice_get-get_or f.parameters.items task row below ∙ ap (λ (r : Vec ℕ Global). Some r) (sym is))
    ∙ ap (λ (ws : List ℕ). Some ws) (sym items)

pub widths_narrow : (d : DesignTree) (g : GameData) → IsOf d g → (task : ℕ) (widths : List ℕ) →
    slice_get g.flat.parameters task ≡ Some widths → All (λ w. w ≤ 64) widths
unfolding room
widths_narrow d g of task widths there =
    subst (All (λ w. w ≤ 64)) (get_or_from_slice_get g.flat.parameters task widths [] there)
    (of.flat.narrow task [] (slice_get_within g.flat.parameters task widths there))

-- a row of widths is that of its task
widths_told : (d : DesignTree) (g : GameData) → IsOf d g → (task : ℕ) (widths : List ℕ) →
    slice_get g.flat.parameters task ≡ Some widths → AreWidths d task widths
widths_told d g of task widths there =
    let found : IsSomeAnd (slice_get (range_with_len 0 (length d.tasks)) task) (λ n. AreWidths d n widths) =
    subst (λ (o : Option (List ℕ)). MatchOption o (Unit {0})
    (λ ws. IsSomeAnd (slice_get (range_with_len 0 (length d.tasks)) task) (λ n. AreWidths d n ws))) there
    (AllZip-right (AreWidths d) (range_with_len 0 (length d.tasks)) g.flat.parameters of.flat.parameters task) in
    let below : task < length d.tasks = omega (
      arith,
      slice_get_within g.flat.parameters task widths there,
      AllZip-long (AreWidths d) (range_with_len 0 (length d.tasks)) g.flat.parameters of.flat.parameters,
      length-range_with_len 0 (length d.tasks),
    ) in
    let same : 0 + task ≡ task = omega arith in
    let here : slice_get (range_with_len 0 (length d.tasks)) task ≡ Some task =
    slice_get-get_or (range_with_len 0 (length d.tasks)) task 0
    (omega (arith, below, length-range_with_len 0 (length d.tasks)))
    ∙ ap (λ (n : ℕ). Some n) (get_or-range_with_len 0 (length d.tasks) task 0 below ∙ same) in
    subst (λ (o : Option ℕ). IsSomeAnd o (λ n. AreWidths d n widths)) here found

pub call_is : (d : DesignTree) (g : GameData) (r : Reading) → Reads d g r → (s : Table) (task : ℕ) (widths : List ℕ)
    (nums : List NumTree) (fit : NodeId) (bits : List NodeId) (parts : List (ℕ × NodeId)) →
    task < length g.flat.tasks → slice_get g.flat.parameters task ≡ Some widths →
    AreArguments d g.order s r.goal widths nums fit bits →
    parts ≡ map (placed (length g.order) bits) (range_with_len 0 (min (length bits) 64)) →
    IsMove d g.order s (move_of r.goal (call task nums)) (shapes.Call task) fit parts
call_is d g r is s task widths nums fit bits parts there row are placed_so = record {
  fits_known = are.fits.known;
  parts_known = subst (λ (ps : List (ℕ × NodeId)). (f : NodeId) → Contains (map (λ p. p.1) ps) f → Knows s f)
      (sym placed_so) (parts_known s (length g.order) bits (min (length bits) 64) are.known);
  told = told;
  forbidden = forbidden;
  one_state = λ v.
      (is_coding d g.order is.of.small (order_read d g r is)).same (substituted s parts v) v
      (λ k below.
      ap (λ ps. substituted s ps v k) placed_so
      ∙ none_before s (length g.order) bits v (min (length bits) 64) k below);
}
  where
    worth : (ℕ → Bool) → List ℕ
    worth v = values_at d g.order r.goal nums v

    -- a part for each of the 64 levels of arguments
    all_parts : List (ℕ × NodeId)
    all_parts = map (placed (length g.order) bits) (range_with_len 0 64)

    in_design : task < length d.tasks
    in_design = omega (
      arith,
      there,
      AllZip-long (IsTaskStep g.terms d) (range_with_len 0 (length d.tasks)) g.flat.tasks
          is.of.flat.tasks,
      length-range_with_len 0 (length d.tasks),
    )

    told : (v : ℕ → Bool) → means s fit v ≡ true →
        move_at d g.order (shapes.Call task) (substituted s parts v) ≡ moves.Call task (worth v)
    told v fits =
        call_same d g.order task widths is.of.design in_design (widths_told d g is.of task widths row)
        (substituted s parts v) (substituted s all_parts v) same
        ∙ call_given g.terms d g.flat is.of.flat is.of.room task (worth v) is.of.design g.order
        (substituted s all_parts v)
        (record { there = there; widths = widths; are = row; fit = fit_there })
        (λ j small. part_there s (length g.order) bits v 64 j small ∙ ap (λ bs. assignment bs j) (are.are v fits))
      where
        fit_there : have_widths widths (worth v) ≡ true
        fit_there = sym (are.fits.meaning v) ∙ fits

        long : length bits ≡ sum widths
        long =
            sym (length-map bits (λ (x : NodeId). means s x v))
            ∙ ap (λ (bs : List Bool). length bs) (are.are v fits)
            ∙ bits_long widths (worth v)
            (sym (AllZip-long Fits widths (worth v) (each_fits widths (worth v) fit_there)))

        same : (j : ℕ) → j < 64 → j < sum widths →
            substituted s parts v (length g.order + j) ≡ substituted s all_parts v (length g.order + j)
        same j small below =
            ap (λ ps. substituted s ps v (length g.order + j)) placed_so
            ∙ part_there s (length g.order) bits v (min (length bits) 64) j (omega (arith, long))
            ∙ sym (part_there s (length g.order) bits v 64 j small)

    forbidden : (v : ℕ → Bool) → means s fit v ≡ false →
        ¬ IsAllowed d (state_of d g.order v) (moves.Call task (values_at d g.order r.goal nums v))
    forbidden v fails allowed =
        let can = callable g.terms d g.flat is.of.flat is.of.room task (values_at d g.order r.goal nums v)
        (state_of d g.order v) allowed in
        let one : Some can.widths ≡ Some widths = sym can.are ∙ row in
        let same : can.widths ≡ widths = cc in
        let fits : have_widths widths (values_at d g.order r.goal nums v) ≡ true =
        subst (λ (ws : List ℕ). have_widths ws (values_at d g.order r.goal nums v) ≡ true) same can.fit in
        let never = are.fits.meaning v in
        absurd (cc)

-- ---- a move without arguments
pub plain_move : (d : DesignTree) (order : List ℕ) (s : Table) (move : StateData → Move) (shape : MoveShape) →
    ((v : ℕ → Bool) → move_at d order shape v ≡ move (state_of d order v)) → IsMove d order s move shape TRUE []
plain_move d order s move shape same = record {
  fits_known = omega arith;
  parts_known = λ f in_none. absurd (omega (arith, in_none.1));
  told = λ v fits. same v;
  forbidden = λ v fails. let holds = means-TRUE s v in absurd (cc);
  one_state = λ v. refl;
}
