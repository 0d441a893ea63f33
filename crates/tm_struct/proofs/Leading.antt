-- The tests of functions lead to one move, and what is met on the way fits the state.
use Rattle.std.proofs.Common.{◌≡◌, ℕ, zero, suc, ◌<◌, ◌≤◌, ◌⊎◌, inl, inr, Bool, true, false, List, Option, None, Some, map, length, get_or, slice_get, All, refl, sym, ap, subst, ◌∙◌, arith}
use Rattle.std.proofs.lemmas.Option.{slice_get-get_or, slice_get_cases}
use Rattle.std.specs.Option.{option_map_or}
use Rattle.tm_syntax.specs.Design.{DesignTree}
use Rattle.tm_sem.specs.State.{StateData}
use Rattle.tm_sem.specs.declared.state.Move.{Move}
use Rattle.tm_sem.specs.declared.state.Move.TheVariants as moves
use Rattle.tm_cir.specs.Fit.{CoversDesign}
use Rattle.tm_cir.specs.Tree.{TruthTree}
use Rattle.tm_cir.specs.Meaning.{num_value, holds}
use Rattle.tm_struct.specs.Tree.{ActionTree, choose, call, leave, go, idle, ProgramTree}
use Rattle.tm_struct.specs.Fit.{FitsAction, FitsProgram, AreOfOneDesign}
use Rattle.tm_struct.specs.Answer.{LeadsTo, goes_first, goes_second, calls, leaves, goes_on, idles, AnswersSo}
use Rattle.tm_struct.specs.Inner.Answering.{FitsAt, body_of}

-- what leads to a move, by the action
abbrev pub IsReadAs : List ActionTree → StateData → ℕ → Move → ActionTree → Type 0
IsReadAs fs s g m (choose t a b) =
    (holds s g t ≡ true → LeadsTo fs s g a m) × (holds s g t ≡ false → LeadsTo fs s g b m)
IsReadAs fs s g m (call task args) = m ≡ moves.Call task (map (num_value s g) args)
IsReadAs fs s g m (leave process) = m ≡ moves.Leave process
IsReadAs fs s g m (go k) = (a : ActionTree) × (slice_get fs k ≡ Some a) × LeadsTo fs s g a m
IsReadAs fs s g m idle = m ≡ moves.Idle

pub read : (fs : List ActionTree) (s : StateData) (g : ℕ) {a : ActionTree} {m : Move} → LeadsTo fs s g a m →
    IsReadAs fs s g m a
read fs s g (goes_first so rest) = ((λ _. rest), (λ no. cc))
read fs s g (goes_second so rest) = ((λ yes. cc), (λ _. rest))
read fs s g calls = refl
read fs s g leaves = refl
read fs s g (goes_on is rest) = (_, is, rest)
read fs s g idles = refl

some_is : {A : Type 0} (x y : A) (o : Option A) → o ≡ Some x → o ≡ Some y → x ≡ y
some_is x y o one other = let e : Some x ≡ Some y = sym one ∙ other in cc

-- an action leads to one move at most
pub same_move : (fs : List ActionTree) (s : StateData) (g : ℕ) {a : ActionTree} {m n : Move} → LeadsTo fs s g a m →
    LeadsTo fs s g a n → m ≡ n
same_move fs s g (goes_first so rest) other = same_move fs s g rest ((read fs s g other).0 so)
same_move fs s g (goes_second so rest) other = same_move fs s g rest ((read fs s g other).1 so)
same_move fs s g calls other = sym (read fs s g other)
same_move fs s g leaves other = sym (read fs s g other)
same_move fs s g {n = n} (goes_on {k = k} {a = a} is rest) other =
    let found = read fs s g other in
    same_move fs s g rest
    (subst (λ x. LeadsTo fs s g x n) (some_is found.0 a (slice_get fs k) found.1 is) found.2)
same_move fs s g idles other = sym (read fs s g other)

-- an action that fits a design has what evaluation needs at a state of it
pub fits_there : (d : DesignTree) (s : StateData) (below : ℕ) (a : ActionTree) → CoversDesign d s →
    FitsAction d below a → FitsAt s below a
fits_there d s below (choose t a b) covers fits = (
  rw (covers.values, covers.places) fits.0,
  fits_there d s below a covers fits.1,
  fits_there d s below b covers fits.2,
)
fits_there d s below (call task args) covers fits = (fits.1, rw (covers.values, covers.places) fits.2)
fits_there d s below (leave p) covers fits = tt
fits_there d s below (go k) covers fits = fits
fits_there d s below idle covers fits = tt

-- each action of a well made driver leads to a move
module _ (d : DesignTree) (p : ProgramTree) (fits : FitsProgram d p) (s : StateData) (g : ℕ) where
  -- the move to which an action leads
  abbrev Led : ActionTree → Type 0
  Led a = (m : Move) × LeadsTo p.functions s g a m

  -- a test leads to the move of one of its branches
  led_test : (t : TruthTree) (a b : ActionTree) → Led a → Led b → Led (choose t a b)
  led_test t a b one other = of (holds s g t) refl
    where
      of : (v : Bool) → holds s g t ≡ v → Led (choose t a b)
      of true so = (one.0, goes_first so one.1)
      of false so = (other.0, goes_second so other.1)

  -- an action leads to a move where the functions do that it may name
  led : (below : ℕ) → ((k : ℕ) → k < below → Led (go k)) → (a : ActionTree) → FitsAction d below a → Led a
  led below names (choose t a b) fit = led_test t a b (led below names a fit.1) (led below names b fit.2)
  led below names (call task args) fit = (_, calls)
  led below names (leave process) fit = (_, leaves)
  led below names (go k) fit = names k fit
  led below names idle fit = (_, idles)

  -- the functions do, one after another
  led_names : (n k : ℕ) → k < n → n ≤ length p.functions → Led (go k)
  led_names zero k low within = absurd (omega arith)
  led_names (suc n) k low within =
      let is : slice_get p.functions k ≡ Some (get_or p.functions k idle) =
      slice_get-get_or p.functions k idle (omega (arith, low, within)) in
      let found = led k
      (λ j before. led_names n j (omega (arith, before, low)) (omega (arith, within)))
      (get_or p.functions k idle) (fits.functions k (get_or p.functions k idle) is) in
      (found.0, goes_on is found.1)

  -- the driver has an answer at each state
  pub some_move : (m : Move) × AnswersSo p s g m
  some_move =
      led (length p.functions) (λ k low. led_names (length p.functions) k low (omega arith)) p.main fits.main

-- what a driver's functions need at the state
pub fits_body : (p : ProgramTree) (s : StateData) → AreOfOneDesign p s → (at : ℕ) → at ≤ length p.functions →
    FitsAt s at (body_of p at)
fits_body p s one at within = of (slice_get p.functions at) refl
  where
    of : (o : Option ActionTree) → slice_get p.functions at ≡ o → FitsAt s at (option_map_or (λ a. a) o p.main)
    of None is = subst (λ (n : ℕ). FitsAt s n p.main) whole (fits_there one.design s (length p.functions) p.main
        one.state one.program.main)
      where
        whole : length p.functions ≡ at
        whole = past (slice_get_cases p.functions at).1
          where
            past : ((x : ActionTree) × (at < length p.functions) × (slice_get p.functions at ≡ Some x)
                × (get_or p.functions at x ≡ x)) ⊎ ((length p.functions ≤ at) × (slice_get p.functions at ≡ None)) →
                length p.functions ≡ at
            past (inl found) = let wrong : None ≡ Some found.0 = sym is ∙ found.2 in absurd (cc)
            past (inr end) = omega (arith, within, end.0)
    of (Some a) is = fits_there one.design s at a one.state (one.program.functions at a is)

-- a function that is named leads to the same move
pub goes_there : (p : ProgramTree) (s : StateData) (g k : ℕ) (m : Move) → k < length p.functions →
    LeadsTo p.functions s g (body_of p k) m → LeadsTo p.functions s g (go k) m
goes_there p s g k m within leads =
    let is : slice_get p.functions k ≡ Some (get_or p.functions k idle) = slice_get-get_or p.functions k idle within in
    goes_on is
    (subst (λ (o : Option ActionTree). LeadsTo p.functions s g (option_map_or (λ a. a) o p.main) m) is leads)
