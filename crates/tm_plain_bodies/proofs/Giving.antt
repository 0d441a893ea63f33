-- What arguments are worth, and what is kept where parameters have got them.
use Rattle.std.proofs.Common.{◌≡◌, ℕ, zero, suc, ◌+◌, ◌<◌, ◌≤◌, Bool, true, false, Some, Result, Ok, Err, List, [], ◌∷◌, ◌++◌, length, map, take, get_or, slice_get, refl, sym, ap, ◌∙◌, subst, arith}
use Rattle.std.specs.Prelude.{IfErr, IsErrAnd, ◌||◌, unwrap_or}
use Rattle.std.specs.List.{AllZip, list_any, zip, fold}
use Rattle.std.specs.Option.{option_map}
use Rattle.std.proofs.lemmas.Option.{slice_get-get_or, slice_get-map}
use Rattle.std.proofs.lemmas.List.{take_all, take_more}
use Rattle.std.proofs.lemmas.Slice.Zip.{all_zipped_more}
use Rattle.tm_syntax.specs.declared.design.Ty.TheVariants as types
use Rattle.tm_syntax.specs.declared.tree.Param.{Param}
use Rattle.tm_syntax.specs.declared.tree.Expr.{Expr}
use Rattle.tm_syntax.specs.Tree.{ExprTree}
use Rattle.tm_syntax.specs.Tree.View.{expr_tree, expr_trees}
use Rattle.tm_syntax.specs.Scopes.Names.{type_of}
use Rattle.tm_syntax.specs.Design.Cells.{Cell, cell_type}
use Rattle.tm_scope.specs.Cells.{ScopedCells, scope_of}
use Rattle.tm_sem.specs.Value.{Memory, overruns, put, value}
use Rattle.tm_sem.specs.Run.{asked_by, with_arguments}
use Rattle.tm_design.specs.Typed.{HasTypeAt}
use Rattle.tm_plain_bodies.specs.declared.course.Course.{Course}
use Rattle.tm_plain_bodies.specs.declared.halt.Halt.{Halt}
use Rattle.tm_plain_bodies.specs.declared.halt.Halt.TheVariants as halt
use Rattle.tm_plain_bodies.specs.Arguments.{AreValued, HaltsAtSome}
use Rattle.tm_plain_bodies.specs.Frames.{AreArguments}
use Rattle.tm_plain_bodies.specs.Runs.{HaltsAt, IsSame}
use Rattle.tm_plain_exprs.specs.Kept.{Kept, put_all}
use Rattle.tm_plain_exprs.specs.Valued.{IsValued, Told}
use Rattle.tm_design.proofs.Zipped.{get_at, zip_get, zip_length}
use Rattle.tm_plain_bodies.proofs.Doing.{halts_earlier, same_then}

module _ (s : ScopedCells) (k : Kept) where
  abbrev pub Valued : Param × ExprTree → ℕ → Type 0
  Valued p n = IsValued s k (type_of p.0.ty) p.1 n

  -- one more argument is valued
  pub more_valued : (params : List Param) (args : List ExprTree) (i : ℕ) (old new : List ℕ) (p : Param) (e : ExprTree)
      (n : ℕ) → slice_get params i ≡ Some p → slice_get args i ≡ Some e → IsValued s k (type_of p.ty) e n →
      new ≡ old ++ n ∷ [] → AllZip Valued (take i (zip params args)) old →
      AllZip Valued (take (i + 1) (zip params args)) new
  more_valued params args i old new p e n here there valued pushed before =
      let both = get_at (zip params args) i (p, e) (zip_get params args i p e here there) in
      subst (AllZip Valued (take (i + 1) (zip params args))) (sym pushed)
      (subst (λ qs. AllZip Valued qs (old ++ n ∷ []))
      (sym (take_more (zip params args) i (p, e) both.0 ∙ ap (λ q. take i (zip params args) ++ q ∷ []) both.1))
      (all_zipped_more Valued (take i (zip params args)) old (p, e) n before valued))

  -- all are
  pub all_valued : (params : List Param) (args : List ExprTree) (i : ℕ) (values : List ℕ) → length args ≤ i →
      AllZip Valued (take i (zip params args)) values → AreValued s k params args values
  all_valued params args i values end all =
      subst (λ qs. AllZip Valued qs values)
      (take_all i (zip params args) (let short = zip_length params args in omega (arith, short))) all

  -- none of them overruns
  pub none_overruns : (params : List Param) (args : List ExprTree) (values : List ℕ) → AreArguments s params args →
      AreValued s k params args values → (of : Told s k) →
      list_any (overruns of.design (scope_of s.at) of.memory) args ≡ false
  none_overruns [] [] values typed valued of = refl
  none_overruns [] (e ∷ es) values typed valued of = absurd typed
  none_overruns (p ∷ ps) [] values typed valued of = refl
  none_overruns (p ∷ ps) (e ∷ es) [] typed valued of = absurd valued
  none_overruns (p ∷ ps) (e ∷ es) (n ∷ ns) typed valued of =
      ap (λ b. b || list_any (overruns of.design (scope_of s.at) of.memory) es) (valued.0.within of)
      ∙ none_overruns ps es ns typed.1 valued.1 of

  -- the parameters get what the arguments are worth
  module _ (of : Told s k) where
    abbrev given : Memory → Cell × ExprTree → Memory
    given so_far p =
        put so_far p.0 (value of.design (scope_of s.at) of.memory (asked_by of.design (Some p.0)) p.1)

    abbrev kept : Memory → Cell × ℕ → Memory
    kept so_far p = put so_far p.0 p.1

    gives : (params : List Param) (args : List ExprTree) (values : List ℕ) (cells : List Cell) (m : Memory) →
        AreArguments s params args → AreValued s k params args values →
        map (cell_type of.design) cells ≡ map (λ (p : Param). Some (type_of p.ty)) params →
        fold given m (zip cells args) ≡ fold kept m (zip cells values)
    gives [] [] [] [] m typed valued are = refl
    gives [] [] [] (c ∷ cs) m typed valued are = absurd (cc)
    gives [] [] (n ∷ ns) cells m typed valued are = absurd valued
    gives [] (e ∷ es) values cells m typed valued are = absurd typed
    gives (p ∷ ps) [] values cells m typed valued are = absurd typed
    gives (p ∷ ps) (e ∷ es) [] cells m typed valued are = absurd valued
    gives (p ∷ ps) (e ∷ es) (n ∷ ns) [] m typed valued are = absurd (cc)
    gives (p ∷ ps) (e ∷ es) (n ∷ ns) (c ∷ cs) m typed valued are =
        let first : cell_type of.design c ≡ Some (type_of p.ty) = cc in
        let rest : map (cell_type of.design) cs ≡ map (λ (p : Param). Some (type_of p.ty)) ps = cc in
        ap (λ v. fold given (put m c v) (zip cs es))
        (ap (λ o. value of.design (scope_of s.at) of.memory (unwrap_or o types.Bool) e) first ∙ valued.0.value of)
        ∙ gives ps es ns cs (put m c n) typed.1 valued.1 rest

    pub given_is : (params : List Param) (args : List ExprTree) (values : List ℕ) (cells : List Cell) →
        AreArguments s params args → AreValued s k params args values →
        map (cell_type of.design) cells ≡ map (λ (p : Param). Some (type_of p.ty)) params →
        with_arguments of.design (scope_of s.at) of.memory cells args ≡ put_all of.memory cells values
    given_is params args values cells typed valued are = gives params args values cells of.memory typed valued are

-- lists of arguments and parameters of one length
pub as_many : (s : ScopedCells) (params : List Param) (args : List ExprTree) → AreArguments s params args →
    length params ≡ length args
as_many s [] [] h = refl
as_many s [] (e ∷ es) h = absurd h
as_many s (p ∷ ps) [] h = absurd h
as_many s (p ∷ ps) (e ∷ es) h = ap suc (as_many s ps es h.1)

-- the argument of an index has the type of its parameter
pub typed_at : (s : ScopedCells) (params : List Param) (args : List ExprTree) → AreArguments s params args → (i : ℕ)
    (p : Param) (e : ExprTree) → slice_get params i ≡ Some p → slice_get args i ≡ Some e → HasTypeAt s (type_of p.ty) e
typed_at s [] args h i p e here there = absurd (cc)
typed_at s (q ∷ ps) [] h i p e here there = absurd (cc)
typed_at s (q ∷ ps) (f ∷ es) h zero p e here there =
    let one : q ≡ p = cc in
    let two : f ≡ e = cc in
    subst (λ (x : Param). HasTypeAt s (type_of x.ty) e) one (subst (HasTypeAt s (type_of q.ty)) two h.0)
typed_at s (q ∷ ps) (f ∷ es) h (suc i) p e here there = typed_at s ps es h.1 i p e here there

-- where one item is such, some are
any_at : {A : Type 0} (f : A → Bool) (xs : List A) (i : ℕ) (x : A) → slice_get xs i ≡ Some x → f x ≡ true →
    list_any f xs ≡ true
any_at f [] i x there is = absurd (cc)
any_at f (y ∷ xs) zero x there is =
    let same : y ≡ x = cc in ap (λ b. b || list_any f xs) (ap f same ∙ is)
any_at f (y ∷ xs) (suc i) x there is = or_true (f y) (any_at f xs i x there is)
  where
    or_true : (a : Bool) → list_any f xs ≡ true → (a || list_any f xs) ≡ true
    or_true true h = refl
    or_true false h = h

-- so many arguments are valued, and nothing else has changed
pub record ValuedSoFar (s : ScopedCells) (params : List Param) (args : List ExprTree) (from : Course) (i : ℕ)
    (now : Course) (values : List ℕ) : Type 0 where
  pub same : IsSame from now
  pub valued : AllZip (Valued s from.store) (take i (zip params args)) values

pub valued_begins : (s : ScopedCells) (params : List Param) (args : List ExprTree) (from : Course) (values : List ℕ) →
    values ≡ [] → ValuedSoFar s params args from 0 from values
valued_begins s params args from values is = record {
  same = record { store = refl; trail = refl; choices = refl };
  valued = subst (AllZip (Valued s from.store) []) (sym is) tt;
}

module _ (s : ScopedCells) (params : List Param) (args : List ExprTree) (from : Course) (i : ℕ) (now : Course)
    (values : List ℕ) (far : ValuedSoFar s params args from i now values) where
  pub valued_more : (next : Course) → IsSame now next → (new : List ℕ) (p : Param) (e : ExprTree) (n : ℕ) →
      slice_get params i ≡ Some p → slice_get args i ≡ Some e → IsValued s now.store (type_of p.ty) e n →
      new ≡ values ++ n ∷ [] → ValuedSoFar s params args from (i + 1) next new
  valued_more next same new p e n here there valued pushed = record {
    same = same_then from now next far.same same;
    valued = more_valued s from.store params args i values new p e n here there
        (subst (λ k. IsValued s k (type_of p.ty) e n) far.same.store valued) pushed far.valued;
  }

  pub valued_halts : (e : ExprTree) → slice_get args i ≡ Some e → (h : Halt) → HaltsAt s now e h →
      HaltsAtSome s from args h
  valued_halts e there h halts = by h (halts_earlier s from now far.same e h halts)
    where
      by : (h : Halt) → HaltsAt s from e h → HaltsAtSome s from args h
      by (halt.Stopped at) k =
          (λ of. any_at (overruns of.design (scope_of s.at) of.memory) args i e there (k.0.is of), k.1)
      by halt.Failed k =
          (λ of. any_at (overruns of.design (scope_of s.at) of.memory) args i e there (k.0.is of), k.1)
      by halt.Blocked k =
          (λ of. any_at (overruns of.design (scope_of s.at) of.memory) args i e there (k.0.is of), k.1)
      by halt.Memory k = tt

  pub all_are_valued : length args ≤ i → AreValued s from.store params args values
  all_are_valued end = all_valued s from.store params args i values end far.valued

-- as many trees as expressions
pub trees_long : (es : List Expr) → length (expr_trees es) ≡ length es
trees_long [] = refl
trees_long (e ∷ es) = ap suc (trees_long es)

-- the argument of an index, and the parameter
pub tree_here : (es : List Expr) (i : ℕ) (e : Expr) → i < length es → e ≡ get_or es i e →
    slice_get (expr_trees es) i ≡ Some (expr_tree e)
tree_here es i e inside is =
    slice_get-map expr_tree es i ∙ ap (option_map expr_tree) (slice_get-get_or es i e inside ∙ ap Some (sym is))

pub param_here : (ps : List Param) (i : ℕ) (p : Param) → i < length ps → p ≡ get_or ps i p → slice_get ps i ≡ Some p
param_here ps i p inside is = slice_get-get_or ps i p inside ∙ ap Some (sym is)

-- a halt that a `?` hands on
pub handed_some : {A : Type 0} (s : ScopedCells) (from : Course) (args : List ExprTree) (r : Result A Halt) (h : Halt) →
    IsErrAnd r (λ y. y ≡ h) → HaltsAtSome s from args h → IfErr r (HaltsAtSome s from args)
handed_some s from args (Ok x) h is k = tt
handed_some s from args (Err y) h is k = subst (HaltsAtSome s from args) (sym is) k
