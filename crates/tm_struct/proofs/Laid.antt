-- Blocks that are laid for actions from the last one to the first, and turned over.
use Rattle.std.proofs.Common.{◌≡◌, ℕ, zero, suc, ◌+◌, ◌-◌, ◌<◌, ◌≤◌, ◌⊎◌, inl, inr, true, false, Option, None, Some, option_map, List, [], ◌∷◌, ◌++◌, All, map, length, take, reverse, get_or, slice_get, refl, sym, ap, subst, ◌∙◌, append_assoc, length-append, arith}
use Rattle.std.proofs.lemmas.List.{append-nil, map-append, length-map, length-take, length-reverse, get_or-reverse, take_more, take_all}
use Rattle.std.proofs.lemmas.Option.{slice_get_within, slice_get-get_or, slice_get-map, get_or_from_slice_get}
use Rattle.tm_syntax.specs.Design.{DesignTree}
use Rattle.tm_sem.specs.State.{StateData}
use Rattle.tm_sem.specs.declared.state.Move.{Move}
use Rattle.tm_cir.specs.Tree.{NumTree, TruthTree, BlockTree, test}
use Rattle.tm_cir.specs.Tree as blocks
use Rattle.tm_cir.specs.Fit.{FitsTruth, FitsBlock, FitBlocks}
use Rattle.tm_cir.specs.Answer.{AnswersFrom, goes_first, goes_second, calls, leaves, idles, Answers}
use Rattle.tm_struct.specs.declared.program.Tree.{Tree}
use Rattle.tm_struct.specs.View.{action_tree, action_trees}
use Rattle.tm_struct.specs.Tree.{ActionTree, choose, call, leave, go, idle, ProgramTree}
use Rattle.tm_struct.specs.Fit.{FitsAction}
use Rattle.tm_struct.specs.Inner.Laying.{NamesBelow, Does, Grows, IsPut, LeadBack, LeadsUpTo, FitsLaid, FitAllLaid, AreStarts, IsLaid, AreLaid, turned, turned_over}
use Rattle.tm_struct.specs.Inner.Laying as doing
use Rattle.tm_struct.proofs.Pushed.{is_one, in_front, last_one, pushed}

-- what an action does stays so as blocks and functions are put behind
does_more : {bs : List BlockTree} {starts : List ℕ} {at : ℕ} {a : ActionTree} (more : List BlockTree)
    (others : List ℕ) → Does bs starts at a → Does (bs ++ more) (starts ++ others) at a
does_more {bs} {starts} more others (doing.tests {at = at} is one other) =
    doing.tests (in_front bs more at _ is) (does_more more others one) (does_more more others other)
does_more {bs} {starts} more others (doing.calls {at = at} is) = doing.calls (in_front bs more at _ is)
does_more {bs} {starts} more others (doing.leaves {at = at} is) = doing.leaves (in_front bs more at _ is)
does_more {bs} {starts} more others (doing.goes {at = at} {k = k} is) = doing.goes (in_front starts others k at is)
does_more {bs} {starts} more others (doing.idles {at = at} is) = doing.idles (in_front bs more at _ is)

pub does_then : {before after : List BlockTree} {starts : List ℕ} {at : ℕ} {a : ActionTree} → Grows before after →
    Does before starts at a → Does after starts at a
does_then {before} {after} {starts} {at} {a} grows does =
    subst (λ (bs : List BlockTree). Does bs starts at a) (sym grows.are)
    (subst (λ (ss : List ℕ). Does (before ++ grows.more) ss at a) (append-nil starts) (does_more grows.more [] does))

grows_then : {a b c : List BlockTree} → Grows a b → Grows b c → Grows a c
grows_then {a} {b} {c} one other = record {
  more = one.more ++ other.more;
  are = other.are ∙ ap (λ (x : List BlockTree). x ++ other.more) one.are ∙ append_assoc a one.more other.more;
}

grown_long : {a b : List BlockTree} → Grows a b → length a ≤ length b
grown_long {a} {b} grows = omega (arith, ap length grows.are, length-append a grows.more)

-- a block is put behind others: it leads back, and fits
back_then : (bs : List BlockTree) (b : BlockTree) → LeadBack bs →
    ((t : TruthTree) (i j : ℕ) → b ≡ test t i j → (i < length bs) × (j < length bs)) → LeadBack (bs ++ b ∷ [])
back_then bs b back leads = record {
  earlier = λ at i j t is. of at i j t (pushed bs b at (test t i j) is);
}
  where
    of : (at i j : ℕ) (t : TruthTree) → (slice_get bs at ≡ Some (test t i j)) ⊎ ((at ≡ length bs) × (test t i j ≡ b)) →
        (i < at) × (j < at)
    of at i j t (inl there) = back.earlier at i j t there
    of at i j t (inr last) =
        let low = leads t i j (sym last.1) in (omega (arith, last.0, low.0), omega (arith, last.0, low.1))

fit_then : (d : DesignTree) (bs : List BlockTree) (b : BlockTree) → FitAllLaid d bs → FitsLaid d b →
    FitAllLaid d (bs ++ b ∷ [])
fit_then d bs b fit fits = record { each = λ at x is. of at x (pushed bs b at x is) }
  where
    of : (at : ℕ) (x : BlockTree) → (slice_get bs at ≡ Some x) ⊎ ((at ≡ length bs) × (x ≡ b)) → FitsLaid d x
    of at x (inl there) = fit.each at x there
    of at x (inr last) = subst (FitsLaid d) (sym last.1) fits

put_grows : (before after : List BlockTree) (number : ℕ) (b : BlockTree) → IsPut before after number b →
    Grows before after
put_grows before after number b put = record { more = b ∷ []; are = put.are }

put_there : (before after : List BlockTree) (number : ℕ) (b : BlockTree) → IsPut before after number b →
    slice_get after number ≡ Some b
put_there before after number b put =
    ap (slice_get after) put.number_is ∙ ap (λ (bs : List BlockTree). slice_get bs (length before)) put.are
    ∙ last_one before b

-- an action that is one block
pub put_laid : (before after : List BlockTree) (starts : List ℕ) (number : ℕ) (a : ActionTree) (b : BlockTree) →
    IsPut before after number b → Does after starts number a →
    ((t : TruthTree) (i j : ℕ) → b ≡ test t i j → (i < length before) × (j < length before)) →
    ((d : DesignTree) → FitsAction d (length starts) a → FitsLaid d b) → IsLaid before after starts number a
put_laid before after starts number a b put does leads fits = record {
  grows = put_grows before after number b put;
  does = does;
  within = slice_get_within after number b (put_there before after number b put);
  back = λ back. subst LeadBack (sym put.are) (back_then before b back leads);
  fit = λ d fits_action fit.
      subst (FitAllLaid d) (sym put.are) (fit_then d before b fit (fits d fits_action));
}

pub call_laid : (before after : List BlockTree) (starts : List ℕ) (number task : ℕ) (args : List NumTree) →
    IsPut before after number (blocks.call task args) → IsLaid before after starts number (call task args)
call_laid before after starts number task args put =
    put_laid before after starts number (call task args) (blocks.call task args) put
    (doing.calls (put_there before after number (blocks.call task args) put)) (λ t i j is. absurd (cc)) (λ d fits. fits)

pub leave_laid : (before after : List BlockTree) (starts : List ℕ) (number process : ℕ) →
    IsPut before after number (blocks.leave process) → IsLaid before after starts number (leave process)
leave_laid before after starts number process put =
    put_laid before after starts number (leave process) (blocks.leave process) put
    (doing.leaves (put_there before after number (blocks.leave process) put)) (λ t i j is. absurd (cc)) (λ d fits. fits)

pub idle_laid : (before after : List BlockTree) (starts : List ℕ) (number : ℕ) →
    IsPut before after number blocks.idle → IsLaid before after starts number idle
idle_laid before after starts number put =
    put_laid before after starts number idle blocks.idle put
    (doing.idles (put_there before after number blocks.idle put)) (λ t i j is. absurd (cc)) (λ d fits. tt)

-- an action that is another function lays nothing
pub go_laid : (before : List BlockTree) (starts : List ℕ) (k start : ℕ) → All (λ s. s < length before) starts →
    slice_get starts k ≡ Some start → IsLaid before before starts start (go k)
go_laid before starts k start within is = record {
  grows = record { more = []; are = sym (append-nil before) };
  does = doing.goes is;
  within =
      subst (λ (x : ℕ). x < length before) (get_or_from_slice_get starts k start 0 is)
      (within k 0 (slice_get_within starts k start is));
  back = λ back. back;
  fit = λ d fits fit. fit;
}

-- a test behind its branches
pub test_laid : (before one two after : List BlockTree) (starts : List ℕ) (i j number : ℕ) (t : TruthTree)
    (a b : ActionTree) → IsLaid before one starts j b → IsLaid one two starts i a →
    IsPut two after number (test t i j) → IsLaid before after starts number (choose t a b)
test_laid before one two after starts i j number t a b second first put =
    let grown = put_grows two after number (test t i j) put in
    record {
      grows = grows_then second.grows (grows_then first.grows grown);
      does = doing.tests (put_there two after number (test t i j) put) (does_then grown first.does)
          (does_then (grows_then first.grows grown) second.does);
      within = slice_get_within after number (test t i j) (put_there two after number (test t i j) put);
      back = λ back.
          subst LeadBack (sym put.are)
          (back_then two (test t i j) (first.back (second.back back))
          (λ u x y is.
          let same_i : i ≡ x = cc in
          let same_j : j ≡ y = cc in (
            omega (arith, first.within, same_i),
            omega (arith, second.within, grown_long first.grows, same_j),
          )));
      fit = λ d fits fit.
          subst (FitAllLaid d) (sym put.are)
          (fit_then d two (test t i j) (first.fit d fits.1 (second.fit d fits.2 fit)) fits.0);
    }

-- a test behind its branches, with actions as the code has them
pub test_there : (before one two after : List BlockTree) (starts : List ℕ) (i j number : ℕ) (t copy : TruthTree)
    (a b x y whole : ActionTree) → IsLaid before one starts j y → y ≡ b → IsLaid one two starts i x → x ≡ a → copy ≡ t →
    IsPut two after number (test copy i j) → whole ≡ choose t a b → IsLaid before after starts number whole
test_there before one two after starts i j number t copy a b x y whole second second_is first first_is same put is =
    subst (IsLaid before after starts number) (sym is)
    (test_laid before one two after starts i j number t a b (subst (IsLaid before one starts j) second_is second)
    (subst (IsLaid one two starts i) first_is first)
    (subst (λ (u : TruthTree). IsPut two after number (test u i j)) same put))

pub call_there : (before after : List BlockTree) (starts : List ℕ) (number task : ℕ) (args copy : List NumTree)
    (whole : ActionTree) → copy ≡ args → IsPut before after number (blocks.call task copy) → whole ≡ call task args →
    IsLaid before after starts number whole
call_there before after starts number task args copy whole same put is =
    subst (IsLaid before after starts number) (sym is)
    (call_laid before after starts number task args
    (subst (λ (l : List NumTree). IsPut before after number (blocks.call task l)) same put))

pub leave_there : (before after : List BlockTree) (starts : List ℕ) (number process : ℕ) (whole : ActionTree) →
    IsPut before after number (blocks.leave process) → whole ≡ leave process → IsLaid before after starts number whole
leave_there before after starts number process whole put is =
    subst (IsLaid before after starts number) (sym is) (leave_laid before after starts number process put)

pub idle_there : (before after : List BlockTree) (starts : List ℕ) (number : ℕ) (whole : ActionTree) →
    IsPut before after number blocks.idle → whole ≡ idle → IsLaid before after starts number whole
idle_there before after starts number whole put is =
    subst (IsLaid before after starts number) (sym is) (idle_laid before after starts number put)

pub go_there : (before : List BlockTree) (starts : List ℕ) (k : ℕ) (whole : ActionTree) →
    All (λ s. s < length before) starts → NamesBelow (length starts) whole → whole ≡ go k →
    IsLaid before before starts (get_or starts k 0) whole
go_there before starts k whole within names is =
    subst (IsLaid before before starts (get_or starts k 0)) (sym is)
    (go_laid before starts k (get_or starts k 0) within
    (slice_get-get_or starts k 0 (subst (NamesBelow (length starts)) is names)))

-- starts stay within as blocks are put behind
pub starts_within : (before after : List BlockTree) (starts : List ℕ) → Grows before after →
    All (λ s. s < length before) starts → All (λ s. s < length after) starts
starts_within before after starts grows all = λ k x within.
    omega (arith, all k x within, grown_long grows)

-- nothing is laid yet
pub none_laid : (bs : List BlockTree) → bs ≡ [] → AreLaid bs [] []
none_laid bs none = record {
  begins = record { many = refl; each = λ k at a is also. absurd (cc) };
  within = λ k x within. absurd (omega arith);
  back = record {
    earlier = λ at i j t is.
        let wrong : None ≡ Some (test t i j) = sym (ap (λ (l : List BlockTree). slice_get l at) none) ∙ is in
        absurd (cc);
  };
  fit = λ d fits. record {
    each = λ at b is.
        let wrong : None ≡ Some b = sym (ap (λ (l : List BlockTree). slice_get l at) none) ∙ is in absurd (cc);
  };
}

-- one function more
pub one_laid : (before after : List BlockTree) (starts : List ℕ) (functions : List ActionTree) (start : ℕ)
    (a : ActionTree) → AreLaid before starts functions → IsLaid before after starts start a →
    AreLaid after (starts ++ start ∷ []) (functions ++ a ∷ [])
one_laid before after starts functions start a laid next = record {
  begins = record {
    many = omega
        (arith, length-append starts (start ∷ []), length-append functions (a ∷ []), laid.begins.many);
    each = λ k at x is also. each k at x (pushed starts start k at is) (pushed functions a k x also);
  };
  within = λ k x within. below k x within;
  back = next.back laid.back;
  fit = λ d fits.
      next.fit d
      (subst (λ (n : ℕ). FitsAction d n a) (sym laid.begins.many) (fits (length functions) a (last_one functions a)))
      (laid.fit d (λ k x is. fits k x (in_front functions (a ∷ []) k x is)));
}
  where
    kept : {at : ℕ} {x : ActionTree} → Does before starts at x → Does after (starts ++ start ∷ []) at x
    kept {at} {x} does =
        subst (λ (bs : List BlockTree). Does bs (starts ++ start ∷ []) at x) (sym next.grows.are)
        (does_more next.grows.more (start ∷ []) does)

    new : Does after (starts ++ start ∷ []) start a
    new =
        subst (λ (bs : List BlockTree). Does bs (starts ++ start ∷ []) start a) (append-nil after)
        (does_more [] (start ∷ []) next.does)

    each : (k at : ℕ) (x : ActionTree) → (slice_get starts k ≡ Some at) ⊎ ((k ≡ length starts) × (at ≡ start)) →
        (slice_get functions k ≡ Some x) ⊎ ((k ≡ length functions) × (x ≡ a)) →
        Does after (starts ++ start ∷ []) at x
    each k at x (inl one) (inl other) = kept (laid.begins.each k at x one other)
    each k at x (inl one) (inr last) =
        absurd (omega (arith, slice_get_within starts k at one, last.0, laid.begins.many))
    each k at x (inr last) (inl other) =
        absurd (omega (arith, slice_get_within functions k x other, last.0, laid.begins.many))
    each k at x (inr last) (inr also) =
        subst (λ (n : ℕ). Does after (starts ++ start ∷ []) n x) (sym last.1)
        (subst (Does after (starts ++ start ∷ []) start) (sym also.1) new)

    below : (k x : ℕ) → k < length (starts ++ start ∷ []) → get_or (starts ++ start ∷ []) k x < length after
    below k x within = of (get_or (starts ++ start ∷ []) k x) (slice_get-get_or (starts ++ start ∷ []) k x within)
      where
        of : (y : ℕ) → slice_get (starts ++ start ∷ []) k ≡ Some y → y < length after
        of y is = of_part (pushed starts start k y is)
          where
            of_part : (slice_get starts k ≡ Some y) ⊎ ((k ≡ length starts) × (y ≡ start)) → y < length after
            of_part (inl there) =
                omega (
                  arith,
                  grown_long next.grows,
                  subst (λ (z : ℕ). z < length before) (get_or_from_slice_get starts k y x there)
                      (laid.within k x (slice_get_within starts k y there)),
                )
            of_part (inr last) = omega (arith, next.within, last.1)

-- functions of a list in memory, up to one of them
pub functions_begin : (before : List BlockTree) (starts : List ℕ) (fs : List Tree) → before ≡ [] → starts ≡ [] →
    AreLaid before starts (action_trees (take 0 fs))
functions_begin before starts fs none nothing =
    subst (λ (l : List ℕ). AreLaid before l (action_trees (take 0 fs))) (sym nothing) (none_laid before none)

taken_trees : (fs : List Tree) (i : ℕ) (f : Tree) → i < length fs → f ≡ get_or fs i f →
    action_trees (take (i + 1) fs) ≡ action_trees (take i fs) ++ action_tree f ∷ []
taken_trees fs i f within is =
    ap action_trees
    (take_more fs i f within ∙ ap (λ (y : Tree). take i fs ++ y ∷ []) (sym is))
    ∙ map-append action_tree (take i fs) (f ∷ [])

pub next_names : (bs : List BlockTree) (starts : List ℕ) (fs : List Tree) (i : ℕ) (f : Tree) →
    ((k : ℕ) (a : ActionTree) → slice_get (action_trees fs) k ≡ Some a → NamesBelow k a) →
    AreLaid bs starts (action_trees (take i fs)) → i < length fs → f ≡ get_or fs i f →
    NamesBelow (length starts) (action_tree f)
next_names bs starts fs i f names laid within is =
    let there : slice_get (action_trees fs) i ≡ Some (action_tree f) =
    slice_get-map action_tree fs i
    ∙ ap (option_map action_tree) (slice_get-get_or fs i f within ∙ ap Some (sym is)) in
    let long : length starts ≡ i =
    omega (arith, laid.begins.many, length-map (take i fs) action_tree, length-take i fs, within) in
    subst (λ (n : ℕ). NamesBelow n (action_tree f)) (sym long) (names i (action_tree f) there)

pub functions_more : (before after : List BlockTree) (starts more : List ℕ) (fs : List Tree) (i start : ℕ) (f : Tree) →
    AreLaid before starts (action_trees (take i fs)) → IsLaid before after starts start (action_tree f) →
    more ≡ starts ++ start ∷ [] → i < length fs → f ≡ get_or fs i f →
    AreLaid after more (action_trees (take (i + 1) fs))
functions_more before after starts more fs i start f laid next put within is =
    subst (λ (l : List ℕ). AreLaid after l (action_trees (take (i + 1) fs))) (sym put)
    (subst (AreLaid after (starts ++ start ∷ [])) (sym (taken_trees fs i f within is))
    (one_laid before after starts (action_trees (take i fs)) start (action_tree f) laid next))

pub functions_end : (bs : List BlockTree) (starts : List ℕ) (fs : List Tree) (i : ℕ) → length fs ≤ i →
    AreLaid bs starts (action_trees (take i fs)) → AreLaid bs starts (action_trees fs)
functions_end bs starts fs i all laid =
    subst (λ (l : List Tree). AreLaid bs starts (action_trees l)) (take_all i fs all) laid

-- what a list holds up to one of its numbers
taken_there : {A : Type 0} (xs : List A) (n k : ℕ) (x : A) → slice_get xs k ≡ Some x → k < n →
    slice_get (take n xs) k ≡ Some x
taken_there [] n k x is low = absurd (cc)
taken_there (y ∷ ys) zero k x is low = absurd (omega arith)
taken_there (y ∷ ys) (suc n) zero x is low = is
taken_there (y ∷ ys) (suc n) (suc k) x is low = taken_there ys n k x is (omega (arith, low))

pub from_taken : {A : Type 0} (xs : List A) (n k : ℕ) (x : A) → slice_get (take n xs) k ≡ Some x →
    slice_get xs k ≡ Some x
from_taken [] zero k x is = absurd (cc)
from_taken [] (suc n) k x is = absurd (cc)
from_taken (y ∷ ys) zero k x is = absurd (cc)
from_taken (y ∷ ys) (suc n) zero x is = is
from_taken (y ∷ ys) (suc n) (suc k) x is = from_taken ys n k x is

-- a block of the other end
record IsTurned (bs : List BlockTree) (last at : ℕ) (b : BlockTree) : Type 0 where
  pub place : ℕ
  pub block : BlockTree
  pub is : slice_get bs place ≡ Some block
  pub low : place ≤ last
  pub at_is : at ≡ last - place
  pub same : b ≡ turned last block

module _ (bs : List BlockTree) (last : ℕ) (within : last < length bs) where
  long : length (map (turned last) (take (last + 1) bs)) ≡ last + 1
  long = length-map (take (last + 1) bs) (turned last) ∙ length-take_all
    where
      length-take_all : length (take (last + 1) bs) ≡ last + 1
      length-take_all = omega (arith, length-take (last + 1) bs)

  pub turned_long : length (turned_over last bs) ≡ last + 1
  turned_long = length-reverse (map (turned last) (take (last + 1) bs)) ∙ long

  at_other_end : (k : ℕ) → k ≤ last → (d : BlockTree) →
      slice_get (turned_over last bs) k ≡ Some (get_or (map (turned last) (take (last + 1) bs)) (last - k) d)
  at_other_end k low d =
      let place : length (map (turned last) (take (last + 1) bs)) - 1 - k ≡ last - k = omega (arith, long, low) in
      slice_get-get_or (turned_over last bs) k d (omega (arith, low, turned_long))
      ∙ ap Some
      (get_or-reverse (map (turned last) (take (last + 1) bs)) k d (omega (arith, low, long))
      ∙ ap (λ (n : ℕ). get_or (map (turned last) (take (last + 1) bs)) n d) place)

  -- the block of a number, at its number from the other end
  turned_there : (at : ℕ) (b : BlockTree) → at ≤ last → slice_get bs at ≡ Some b →
      slice_get (turned_over last bs) (last - at) ≡ Some (turned last b)
  turned_there at b low is =
      let there : slice_get (map (turned last) (take (last + 1) bs)) at ≡ Some (turned last b) =
      slice_get-map (turned last) (take (last + 1) bs) at
      ∙ ap (option_map (turned last)) (taken_there bs (last + 1) at b is (omega (arith, low))) in
      let back : last - (last - at) ≡ at = omega (arith, low) in
      at_other_end (last - at) (omega arith) (turned last b)
      ∙ ap Some
      (ap (λ (n : ℕ). get_or (map (turned last) (take (last + 1) bs)) n (turned last b)) back
      ∙ get_or_from_slice_get (map (turned last) (take (last + 1) bs)) at (turned last b) (turned last b) there)

  -- from the other end the answers are the same
  answers_turned : LeadBack bs → (s : StateData) (g : ℕ) {at : ℕ} {m : Move} → at ≤ last → AnswersFrom bs s g at m →
      AnswersFrom (turned_over last bs) s g (last - at) m
  answers_turned back s g low (goes_first {at = at} {first = i} {second = j} {t = t} is so rest) =
      let earlier = back.earlier at i j t is in
      goes_first (turned_there at (test t i j) low is) so
      (answers_turned back s g (omega (arith, low, earlier.0)) rest)
  answers_turned back s g low (goes_second {at = at} {first = i} {second = j} {t = t} is so rest) =
      let earlier = back.earlier at i j t is in
      goes_second (turned_there at (test t i j) low is) so
      (answers_turned back s g (omega (arith, low, earlier.1)) rest)
  answers_turned back s g low (calls {at = at} {task = task} {args = args} is) =
      calls (turned_there at (blocks.call task args) low is)
  answers_turned back s g low (leaves {at = at} {process = process} is) =
      leaves (turned_there at (blocks.leave process) low is)
  answers_turned back s g low (idles {at = at} is) = idles (turned_there at blocks.idle low is)

  pub answers_from_first : LeadBack bs → (s : StateData) (g : ℕ) (m : Move) → AnswersFrom bs s g last m →
      Answers (turned_over last bs) s g m
  answers_from_first back s g m answers =
      let none_left : last - last ≡ 0 = omega arith in
      subst (λ (n : ℕ). AnswersFrom (turned_over last bs) s g n m) none_left
      (answers_turned back s g (omega arith) answers)

  turned_from : (at : ℕ) (b : BlockTree) → slice_get (turned_over last bs) at ≡ Some b → IsTurned bs last at b
  turned_from at b is =
      let inside : at ≤ last = omega (arith, slice_get_within (turned_over last bs) at b is, turned_long) in
      let there : slice_get bs (last - at) ≡ Some (get_or bs (last - at) blocks.idle) =
      slice_get-get_or bs (last - at) blocks.idle (omega (arith, within)) in
      let back : at ≡ last - (last - at) = omega (arith, inside) in
      record {
        place = last - at;
        block = get_or bs (last - at) blocks.idle;
        is = there;
        low = omega arith;
        at_is = back;
        same =
            is_one (slice_get (turned_over last bs) at) b (turned last (get_or bs (last - at) blocks.idle)) is
            (ap (slice_get (turned_over last bs)) back
            ∙ turned_there (last - at) (get_or bs (last - at) blocks.idle) (omega arith) there);
      }

  fits_turned : (d : DesignTree) → LeadBack bs → (at place : ℕ) (b : BlockTree) → slice_get bs place ≡ Some b →
      place ≤ last → at ≡ last - place → FitsLaid d b → FitsBlock d (last + 1) at (turned last b)
  fits_turned d back at place (test t i j) is low at_is fits =
      let earlier = back.earlier place i j t is in (
        fits,
        (omega (arith, low, at_is, earlier.0), omega arith),
        (omega (arith, low, at_is, earlier.1), omega arith),
      )
  fits_turned d back at place (blocks.call task args) is low at_is fits = fits
  fits_turned d back at place (blocks.leave process) is low at_is fits = fits
  fits_turned d back at place blocks.idle is low at_is fits = tt

  pub fit_turned : (d : DesignTree) → LeadBack bs → FitAllLaid d bs → FitBlocks d (turned_over last bs)
  fit_turned d back fit = record {
    some = omega (arith, turned_long);
    each = λ at b is.
        let found = turned_from at b is in
        subst (FitsBlock d (length (turned_over last bs)) at) (sym found.same)
        (subst (λ (n : ℕ). FitsBlock d n at (turned last found.block)) (sym turned_long)
        (fits_turned d back at found.place found.block found.is found.low found.at_is
        (fit.each found.place found.block found.is)));
  }
