-- The driver that is made of blocks is their shape.
use Rattle.std.proofs.Common.{◌≡◌, ℕ, ◌+◌, ◌*◌, ◌<◌, ◌≤◌, ◌↔◌, ◌⊎◌, inl, inr, true, false, Option, None, Some, List, length, slice_get, refl, sym, ap, subst, ◌∙◌, true≢false, arith}
use Rattle.std.specs.Option.{option_map_or}
use Rattle.std.proofs.lemmas.Bool.{cases_lt}
use Rattle.std.proofs.lemmas.Option.{slice_get_past}
use Rattle.tm_syntax.specs.Design.{DesignTree}
use Rattle.std.proofs.lemmas.List.{length-map}
use Rattle.tm_cir.specs.declared.block.Block.{Block}
use Rattle.tm_cir.specs.Tree.{TruthTree, BlockTree, test}
use Rattle.tm_cir.specs.View.{block_tree, block_trees}
use Rattle.tm_cir.specs.Fit.{FitBlocks}
use Rattle.tm_struct.specs.declared.reaching.Reach.{Reach}
use Rattle.tm_struct.specs.Tree.{ActionTree, choose, ProgramTree}
use Rattle.tm_struct.specs.Shape.{IsFunction, IsWritten, tests, IsNamed, IsShape}
use Rattle.tm_struct.specs.Inner.Reaching.{LeadOn, reach_at, becomes_function, AreReaches}
use Rattle.tm_struct.specs.Inner.Naming.{is_function, number_at, AreNumbers, AreNamedFrom, AreNamed, AreFunctions}
use Rattle.tm_struct.proofs.Reached.{chosen}

pub lead_on : (d : DesignTree) (bs : List BlockTree) → FitBlocks d bs → LeadOn bs
lead_on d bs fit = record {
  some = fit.some;
  later = λ at i j t is.
      let fits = fit.each at (test t i j) is in (fits.1.0, fits.1.1, fits.2.0, fits.2.1);
}

pub named_so : (bs : List BlockTree) (rs : List Reach) (order : List ℕ) (numbers : List (Option ℕ)) →
    AreNamed bs rs order numbers → (at : ℕ) → IsFunction order at ↔ (is_function bs rs at ≡ true)
named_so bs rs order numbers named at =
    (λ function. (named.are function.0 at function.1).1, λ so. named.all at (omega arith) so)

-- the functions are blocks that there are
pub named_within : (bs : List BlockTree) (rs : List Reach) (order : List ℕ) (numbers : List (Option ℕ)) →
    AreNamed bs rs order numbers → (k at : ℕ) → slice_get order k ≡ Some at → at < length bs
named_within bs rs order numbers named k at is = of (cases_lt at (length bs))
  where
    of : (at < length bs) ⊎ (length bs ≤ at) → at < length bs
    of (inl within) = within
    of (inr past) =
        absurd (true≢false
        (sym (named.are k at is).1
        ∙ ap (λ o. option_map_or (λ b. becomes_function b (reach_at rs at)) o false) (slice_get_past bs at past)))

pub shape_made : (bs : List BlockTree) → LeadOn bs → (rs : List Reach) → AreReaches bs rs → (order : List ℕ)
    (numbers : List (Option ℕ)) → AreNamed bs rs order numbers → (functions : List ActionTree) (main : ActionTree) →
    AreFunctions bs order functions → IsWritten bs order 0 main →
    IsShape bs (record { functions = functions; main = main })
shape_made bs on rs table order numbers named functions main written first = record {
  order = order;
  falls = named.falls;
  chosen = chosen bs on rs table order (named_so bs rs order numbers named);
  many = written.many;
  functions = λ k at a is also. written.each k at a is also;
  main = first;
}

-- of blocks in memory: the functions are blocks that there are
pub listed_within : (list : List Block) (rs : List Reach) (order : List ℕ) (numbers : List (Option ℕ)) →
    AreNamed (block_trees list) rs order numbers → (k at : ℕ) → slice_get order k ≡ Some at → at < length list
listed_within list rs order numbers named k at is =
    omega (arith, named_within (block_trees list) rs order numbers named k at is, length-map list block_tree)

-- each has a place for its number
pub listed_long : (list : List Block) (rs : List Reach) (order : List ℕ) (numbers : List (Option ℕ)) →
    AreNamed (block_trees list) rs order numbers → length numbers ≡ length list
listed_long list rs order numbers named = named.long ∙ length-map list block_tree

-- and the shape of the blocks that were listed
pub shape_listed : (bs : List BlockTree) (list : List Block) → block_trees list ≡ bs → LeadOn (block_trees list) →
    (rs : List Reach) → AreReaches (block_trees list) rs → (order : List ℕ) (numbers : List (Option ℕ)) →
    AreNamed (block_trees list) rs order numbers → (functions : List ActionTree) (main : ActionTree) →
    AreFunctions (block_trees list) order functions →
    ((order : List ℕ) → AreNumbers order numbers → IsWritten (block_trees list) order 0 main) →
    IsShape bs (record { functions = functions; main = main })
shape_listed bs list same on rs table order numbers named functions main written first =
    subst (λ (l : List BlockTree). IsShape l (record { functions = functions; main = main })) same
    (shape_made (block_trees list) on rs table order numbers named functions main written
    (first order named.numbered))

-- a block without a number is that of no function
pub no_function : (order : List ℕ) (numbers : List (Option ℕ)) (at : ℕ) → AreNumbers order numbers →
    number_at numbers at ≡ None → ¬ IsFunction order at
no_function order numbers at are none function =
    let wrong : None ≡ Some function.0 = sym none ∙ are.from at function.0 function.1 in cc

-- the targets of a test lie behind it, and one turn less is left for each
pub targets_later : (list : List Block) (at i j : ℕ) (t : TruthTree) → LeadOn (block_trees list) →
    slice_get (block_trees list) at ≡ Some (test t i j) →
    (at < i) × (i < length list) × (at < j) × (j < length list)
targets_later list at i j t on is =
    let later = on.later at i j t is in
    let long = length-map list block_tree in (
      later.0,
      omega (arith, later.1, long),
      later.2,
      omega (arith, later.3, long),
    )

-- what is written for a test, by what is written for its branches
pub test_written : (bs : List BlockTree) (order : List ℕ) (at i j : ℕ) (t copy : TruthTree) (a b whole : ActionTree) →
    slice_get bs at ≡ Some (test t i j) → copy ≡ t → whole ≡ choose copy a b → IsNamed bs order i a →
    IsNamed bs order j b → IsWritten bs order at whole
test_written bs order at i j t copy a b whole is same made one other =
    subst (IsWritten bs order at) (sym (made ∙ ap (λ (u : TruthTree). choose u a b) same)) (tests is one other)
