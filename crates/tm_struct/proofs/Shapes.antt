-- The shape of blocks that fit a design is well made over it, and answers as the blocks do.
use Rattle.std.proofs.Common.{◌≡◌, ℕ, ◌+◌, ◌<◌, ◌≤◌, ◌↔◌, ◌⊎◌, inl, inr, true, false, Bool, Option, None, Some, List, All, map, length, get_or, slice_get, refl, sym, ap, subst, ◌∙◌, arith}
use Rattle.std.proofs.lemmas.Bool.{cases_lt}
use Rattle.std.proofs.lemmas.Option.{slice_get_within, slice_get-get_or}
use Rattle.tm_syntax.specs.Design.{DesignTree}
use Rattle.tm_sem.specs.State.{StateData}
use Rattle.tm_sem.specs.declared.state.Move.{Move}
use Rattle.tm_cir.specs.Tree.{NumTree, TruthTree, BlockTree, test}
use Rattle.tm_cir.specs.Tree as blocks
use Rattle.tm_cir.specs.Fit.{FitBlocks}
use Rattle.tm_cir.specs.Answer.{Answers}
use Rattle.tm_cir.proofs.Following.{same_answer}
use Rattle.tm_struct.specs.Tree.{ActionTree, choose, call, leave, go, idle, ProgramTree}
use Rattle.tm_struct.specs.Fit.{FitsAction, MayNest, most_ifs, FitsProgram}
use Rattle.tm_struct.specs.Answer.{LeadsTo, AnswersSo}
use Rattle.tm_struct.specs.Shape.{Leads, first, second, IsReached, begins, goes_on, IsBranch, IsFunction, StandsInside, in_main, in_function, further, IsTooDeep, BecomesFunction, IsWritten, tests, calls, leaves, idles, IsNamed, by_name, in_place, IsShape}
use Rattle.tm_struct.specs.Inner.Laying.{Does}
use Rattle.tm_struct.specs.Inner.Laying as doing
use Rattle.tm_struct.proofs.Pushed.{is_one}
use Rattle.tm_struct.proofs.Leading.{some_move}
use Rattle.tm_struct.proofs.Doing.{block_answers}

mutual
  -- an action that is written for a block does what the block does
  pub written_does : {bs : List BlockTree} {order : List ℕ} {at : ℕ} {a : ActionTree} → IsWritten bs order at a →
      Does bs order at a
  written_does (tests is one other) = doing.tests is (named_does one) (named_does other)
  written_does (calls is) = doing.calls is
  written_does (leaves is) = doing.leaves is
  written_does (idles is) = doing.idles is

  named_does : {bs : List BlockTree} {order : List ℕ} {at : ℕ} {a : ActionTree} → IsNamed bs order at a →
      Does bs order at a
  named_does (by_name is) = doing.goes is
  named_does (in_place not written) = written_does written

module _ (d : DesignTree) (bs : List BlockTree) (fit : FitBlocks d bs) (p : ProgramTree) (shape : IsShape bs p) where
  -- the functions that an action may name are those of later blocks
  mutual
    fits_written : (below : ℕ) {at : ℕ} {a : ActionTree} → IsWritten bs shape.order at a →
        ((k next : ℕ) → at < next → slice_get shape.order k ≡ Some next → k < below) → FitsAction d below a
    fits_written below {at} (tests {first = i} {second = j} {t = t} is one other) may =
        let fits = fit.each at (test t i j) is in (
          fits.0,
          fits_named below one
              (λ k next later there. may k next (omega (arith, later, fits.1.0)) there)
              (λ k there. may k i fits.1.0 there),
          fits_named below other
              (λ k next later there. may k next (omega (arith, later, fits.2.0)) there)
              (λ k there. may k j fits.2.0 there),
        )
    fits_written below {at} (calls {task = task} {args = args} is) may = fit.each at (blocks.call task args) is
    fits_written below {at} (leaves {process = process} is) may = fit.each at (blocks.leave process) is
    fits_written below (idles is) may = tt

    fits_named : (below : ℕ) {at : ℕ} {a : ActionTree} → IsNamed bs shape.order at a →
        ((k next : ℕ) → at < next → slice_get shape.order k ≡ Some next → k < below) →
        ((k : ℕ) → slice_get shape.order k ≡ Some at → k < below) → FitsAction d below a
    fits_named below (by_name {k = k} is) may here = here k is
    fits_named below (in_place not written) may here = fits_written below written may

  -- a test that would stand too deep is a function
  room : (at around : ℕ) (t : TruthTree) (i j : ℕ) → slice_get bs at ≡ Some (test t i j) → IsReached bs at →
      StandsInside bs shape.order at around → around < most_ifs
  room _ _ t i j is reached in_main = omega arith
  room at _ t i j is reached (in_function function) = omega arith
  room at _ t i j is reached (further {from = from} {inside = inside} {branch = branch} b not stands) =
      of (cases_lt (inside + 1) most_ifs)
    where
      of : (inside + 1 < most_ifs) ⊎ (most_ifs ≤ inside + 1) → inside + 1 < most_ifs
      of (inl low) = low
      of (inr deep) =
          absurd (not ((shape.chosen at).1
          (record {
            reached = reached;
            busy = λ nothing. let wrong = is_one (slice_get bs at) (test t i j) blocks.idle is nothing in cc;
            why = inr
                (record {
                  truth = t;
                  one = i;
                  other = j;
                  is_test = is;
                  from = from;
                  branch = branch;
                  inside = inside;
                  is = b;
                  stands = stands;
                  deep = deep;
                });
          })))

  -- a block that is written in place has room for its `if`
  mutual
    nests_written : (around : ℕ) {at : ℕ} {a : ActionTree} → IsWritten bs shape.order at a → IsReached bs at →
        StandsInside bs shape.order at around → MayNest around a
    nests_written around {at} (tests {first = i} {second = j} {t = t} is one other) reached stands = (
      room at around t i j is reached stands,
      nests_named (around + 1) one (goes_on reached (first is))
          (λ not. further (record { reached = reached; leads = first is }) not stands),
      nests_named (around + 1) other (goes_on reached (second is))
          (λ not. further (record { reached = reached; leads = second is }) not stands),
    )
    nests_written around (calls is) reached stands = tt
    nests_written around (leaves is) reached stands = tt
    nests_written around (idles is) reached stands = tt

    nests_named : (around : ℕ) {at : ℕ} {a : ActionTree} → IsNamed bs shape.order at a → IsReached bs at →
        (¬ IsFunction shape.order at → StandsInside bs shape.order at around) → MayNest around a
    nests_named around (by_name is) reached stands = tt
    nests_named around (in_place not written) reached stands = nests_written around written reached (stands not)

  -- the block of a function
  block_of : (k : ℕ) (a : ActionTree) → slice_get p.functions k ≡ Some a →
      slice_get shape.order k ≡ Some (get_or shape.order k 0)
  block_of k a is =
      slice_get-get_or shape.order k 0
      (omega (arith, slice_get_within p.functions k a is, shape.many))

  function_written : (k : ℕ) (a : ActionTree) → slice_get p.functions k ≡ Some a →
      IsWritten bs shape.order (get_or shape.order k 0) a
  function_written k a is = shape.functions k (get_or shape.order k 0) a (block_of k a is) is

  -- a function of a later block has a lower number
  lower : (j : ℕ) (a : ActionTree) → slice_get p.functions j ≡ Some a → (k next : ℕ) → get_or shape.order j 0 < next →
      slice_get shape.order k ≡ Some next → k < j
  lower j a is k next later there = of (cases_lt k j)
    where
      of : (k < j) ⊎ (j ≤ k) → k < j
      of (inl low) = low
      of (inr high) = of_two (cases_lt j k)
        where
          of_two : (j < k) ⊎ (k ≤ j) → k < j
          of_two (inl above) =
              absurd (omega (
                arith,
                later,
                shape.falls j k (get_or shape.order j 0) next above (block_of j a is) there,
              ))
          of_two (inr below) =
              let same : j ≡ k = omega (arith, high, below) in
              let block : get_or shape.order j 0 ≡ next =
              is_one (slice_get shape.order k) (get_or shape.order j 0) next
              (subst (λ (x : ℕ). slice_get shape.order x ≡ Some (get_or shape.order j 0)) same (block_of j a is))
              there in
              absurd (omega (arith, later, block))

  fits_function : (k : ℕ) (a : ActionTree) → slice_get p.functions k ≡ Some a → FitsAction d k a
  fits_function k a is = fits_written k (function_written k a is) (lower k a is)

  nests_function : (k : ℕ) (a : ActionTree) → slice_get p.functions k ≡ Some a → MayNest 0 a
  nests_function k a is =
      let there : IsFunction shape.order (get_or shape.order k 0) = (k, block_of k a is) in
      nests_written 0 (function_written k a is) ((shape.chosen (get_or shape.order k 0)).0 there).reached
      (in_function there)

  -- the shape is well made
  pub shape_fits : FitsProgram d p
  shape_fits = record {
    main = fits_written (length p.functions) shape.main
        (λ k next later there. omega (arith, slice_get_within shape.order k next there, shape.many));
    functions = fits_function;
    main_nests = nests_written 0 shape.main begins in_main;
    functions_nest = λ k a within.
        nests_function k (get_or p.functions k a) (slice_get-get_or p.functions k a within);
  }

  -- and answers as the blocks do
  pub shape_answers : (s : StateData) (g : ℕ) (m : Move) → AnswersSo p s g m ↔ Answers bs s g m
  shape_answers s g m = (to m, from)
    where
      to : (n : Move) → AnswersSo p s g n → Answers bs s g n
      to n answers =
          block_answers bs shape.order p.functions s g
          (λ k at a there is. written_does (shape.functions k at a there is))
          (λ k a is. (get_or shape.order k 0, block_of k a is)) (written_does shape.main) answers

      from : Answers bs s g m → AnswersSo p s g m
      from answers =
          let found = some_move d p shape_fits s g in
          subst (AnswersSo p s g) (same_answer bs s g (to found.0 found.1) answers) found.1
