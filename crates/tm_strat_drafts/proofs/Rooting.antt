-- One goal after another: roots stay good for their goals.
use Rattle.std.proofs.Common.{◌≡◌, ◌⊎◌, inl, inr, ℕ, ◌+◌, ◌<◌, ◌==◌, Bool, true, false, List, [], ◌∷◌, ◌++◌, length}
use Rattle.std.proofs.Common.{nat_lt, slice_get, Some, if◌then◌else◌, sym, ap, ◌∙◌, subst, arith, true≢false}
use Rattle.std.proofs.lemmas.Bool.Decides.{nat_tests}
use Rattle.tm_sem.specs.Certificates.{nowhere}
use Rattle.tm_sem.specs.State.{StateData}
use Rattle.tm_solve.specs.Ids.{Ids}
use Rattle.tm_solve.specs.Sets.{StateSet}
use Rattle.tm_strat_drafts.specs.Blocks.{AreGood}
use Rattle.tm_strat_drafts.specs.Drafts.{AreDrafts, AreEarlier, blocks_of, FitsEarlier, HasRoots, IsMade, Makes, Stay}
use Rattle.tm_strat_drafts.specs.Moves.{all_tests, Game, IsCount, passes, region_now, turned}
use Rattle.tm_strat_drafts.specs.Sets.{chosen}
use Rattle.tm_strat_drafts.specs.declared.drafts.Draft.{Draft}
use Rattle.tm_strat_drafts.specs.declared.drafts.DraftBlock.{DraftBlock}
use Rattle.tm_strat_drafts.specs.declared.drafts.DraftBlock.TheVariants.{Test}
use Rattle.tm_strat_drafts.proofs.Items.{below_more, get_last, length_mapped}
use Rattle.tm_strat_drafts.proofs.Making.{good_stays, good_within, made_stays, stay_then, test_good}

-- any block ends well at no state
none_good : (g : Game) (bs : List DraftBlock) (at : ℕ) → AreGood g bs at nowhere
none_good g bs at = record { ends = λ s among held. absurd (true≢false (sym held)) }

none_made : (g : Game) (ds : List Draft) (at : ℕ) → at < length ds → IsMade g ds at nowhere
none_made g ds at below = record { below = below; good = none_good g (blocks_of ds) at }

-- drafts with a test are drafts
pub test_drafts : {g : Game} {later : Ids} {ds es : List Draft} {at : ℕ} (test first second : ℕ) (block : DraftBlock) →
    block ≡ Test test first second → FitsEarlier (all_tests g) (length ds) block →
    ((a b : StateSet) → IsMade g ds first a → IsMade g ds second b →
    Makes g later ds es at (chosen (passes g test) a b)) →
    AreDrafts g later es
test_drafts {g = g} {ds = ds} test first second block is fits makes =
    let there = subst (λ (b : DraftBlock). FitsEarlier (all_tests g) (length ds) b) is fits in
    (makes nowhere nowhere (none_made g ds first there.1) (none_made g ds second there.2)).drafts

-- while a goal is pending its test passes, and that of no other goal
pub own_passes : (g : Game) (goal test : ℕ) (s : StateData) → test ≡ g.tests + goal →
    passes (turned g goal) test s ≡ true
own_passes g goal test s is =
    let behind : nat_lt test g.tests ≡ false = grind (arith, nat_tests, is) in
    let own : (test == g.tests + goal) ≡ true = grind (arith, nat_tests, is) in
    ap (λ (b : Bool). if b then g.holds test s else test == g.tests + goal) behind ∙ own

pub other_passes : (g : Game) (i goal test : ℕ) (s : StateData) → test ≡ g.tests + goal → i < goal →
    passes (turned g i) test s ≡ false
other_passes g i goal test s is below =
    let behind : nat_lt test g.tests ≡ false = grind (arith, nat_tests, is) in
    let other : (test == g.tests + i) ≡ false = grind (arith, nat_tests, is, below) in
    ap (λ (b : Bool). if b then g.holds test s else test == g.tests + i) behind ∙ other

-- the first goal's root
pub roots_one : (g : Game) (ids : Ids) (ds es : List Draft) (at : ℕ) → Makes (turned g 0) ids ds es at (g.region 0) →
    HasRoots g es at 1
roots_one g ids ds es at makes = record {
  earlier = makes.drafts.earlier;
  below = makes.made.below;
  each = λ i below.
      let first : 0 ≡ i = omega (arith, below) in
      subst (λ (k : ℕ). AreGood (turned g k) (blocks_of es) at (g.region k)) first makes.made.good;
}

pub below_stays : (g : Game) (ds es : List Draft) (at : ℕ) → Stay (blocks_of ds) (blocks_of es) → at < length ds →
    at < length es
below_stays g ds es at stay below = (made_stays {g = g} {ds = ds} {es = es} stay (none_made g ds at below)).below

-- the root of the goals before serves one more goal
pub roots_same : (g : Game) (ids : Ids) (ds es : List Draft) (goal own root : ℕ) → own ≡ root →
    HasRoots g ds root goal →
    Makes (turned g goal) ids ds es own (g.region goal) → HasRoots g es root (goal + 1)
roots_same g ids ds es goal own root same roots first = record {
  earlier = first.drafts.earlier;
  below = below_stays g ds es root first.stay roots.below;
  each = λ i inside. each i (below_more i goal inside);
}
  where
    each : (i : ℕ) → (i < goal) ⊎ (i ≡ goal) → AreGood (turned g i) (blocks_of es) root (g.region i)
    each i (inl l) = good_stays first.stay (roots.each i l)
    each i (inr e) =
        subst (λ (k : ℕ). AreGood (turned g k) (blocks_of es) root (g.region k)) (sym e)
        (subst (λ (at : ℕ). AreGood (turned g goal) (blocks_of es) at (g.region goal)) same first.made.good)

-- one more goal's root, below a test whether that goal is pending
core : (g : Game) (ids later : Ids) (ds es fs : List Draft) (goal test own root at : ℕ) →
    test ≡ g.tests + goal → HasRoots g ds root goal →
    Makes (turned g goal) ids ds es own (g.region goal) →
    ((a b : StateSet) → IsMade (turned g goal) es own a → IsMade (turned g goal) es root b →
    Makes (turned g goal) later es fs at (chosen (passes (turned g goal) test) a b)) →
    at ≡ length es → blocks_of fs ≡ blocks_of es ++ Test test own root ∷ [] → HasRoots g fs at (goal + 1)
core g ids later ds es fs goal test own root at is roots first joins end blocks =
    let low = below_stays g ds es root first.stay roots.below in
    let made = joins nowhere nowhere (none_made (turned g goal) es own first.made.below)
    (none_made (turned g goal) es root low) in
    record {
      earlier = made.drafts.earlier;
      below = made.made.below;
      each = λ i inside. each i (below_more i goal inside) made.stay;
    }
  where
    here : slice_get (blocks_of fs) at ≡ Some (Test test own root)
    here =
        subst (λ (bs : List DraftBlock). slice_get bs at ≡ Some (Test test own root)) (sym blocks)
        (subst (λ (n : ℕ). slice_get (blocks_of es ++ Test test own root ∷ []) n ≡ Some (Test test own root))
        (length_mapped (λ (d : Draft). d.block) es ∙ sym end) (get_last (blocks_of es) (Test test own root)))

    chosen_other : (b : Bool) (x : Bool) → b ≡ false → x ≡ true → (if b then false else x) ≡ true
    chosen_other true x wrong held = absurd (true≢false wrong)
    chosen_other false x wrong held = held

    chosen_own : (b : Bool) (x : Bool) → b ≡ true → x ≡ true → (if b then x else false) ≡ true
    chosen_own true x right held = held
    chosen_own false x right held = absurd (true≢false (sym right))

    each : (i : ℕ) → (i < goal) ⊎ (i ≡ goal) → Stay (blocks_of es) (blocks_of fs) →
        AreGood (turned g i) (blocks_of fs) at (g.region i)
    each i (inl l) stay =
        good_within {g = turned g i}
        (record {
          within = λ s among held.
              chosen_other (passes (turned g i) test s) (g.region i s) (other_passes g i goal test s is l) held;
        })
        (test_good (turned g i) (blocks_of fs) at test own root nowhere (g.region i) here
        (none_good (turned g i) (blocks_of fs) own)
        (good_stays stay (good_stays first.stay (roots.each i l))))
    each i (inr e) stay =
        subst (λ (k : ℕ). AreGood (turned g k) (blocks_of fs) at (g.region k)) (sym e)
        (good_within {g = turned g goal}
        (record {
          within = λ s among held.
              chosen_own (passes (turned g goal) test s) (g.region goal s) (own_passes g goal test s is) held;
        })
        (test_good (turned g goal) (blocks_of fs) at test own root (g.region goal) nowhere here
        (good_stays stay first.made.good) (none_good (turned g goal) (blocks_of fs) root)))

pub roots_more : (g h : Game) (ids later : Ids) (ds es fs : List Draft) (goal test own root at : ℕ) →
    h ≡ turned g goal → test ≡ g.tests + goal → HasRoots g ds root goal →
    Makes (turned g goal) ids ds es own (g.region goal) →
    ((a b : StateSet) → IsMade h es own a → IsMade h es root b → Makes h later es fs at (chosen (passes h test) a b)) →
    at ≡ length es → blocks_of fs ≡ blocks_of es ++ Test test own root ∷ [] → HasRoots g fs at (goal + 1)
roots_more g h ids later ds es fs goal test own root at same is roots first joins end blocks =
    core g ids later ds es fs goal test own root at is roots first
    (subst
    (λ (q : Game). (a b : StateSet) → IsMade q es own a → IsMade q es root b →
    Makes q later es fs at (chosen (passes q test) a b)) same joins) end blocks

-- roots at a game while another goal is pending are roots at the game
pub roots_at : (g h : Game) (j : ℕ) (ds : List Draft) (root n : ℕ) → h ≡ turned g j → HasRoots h ds root n →
    HasRoots g ds root n
roots_at g h j ds root n same roots =
    let there = subst (λ (q : Game). HasRoots q ds root n) same roots in
    record { earlier = there.earlier; below = there.below; each = there.each }

pub roots_to : (g h : Game) (j : ℕ) (ds : List Draft) (root n : ℕ) → h ≡ turned g j → HasRoots g ds root n →
    HasRoots h ds root n
roots_to g h j ds root n same roots =
    subst (λ (q : Game). HasRoots q ds root n) (sym same)
    (record { earlier = roots.earlier; below = roots.below; each = roots.each })

-- which tests there are does not hang on the goal
pub earlier_at : (g : Game) {h : Game} (j : ℕ) (xs ds : List Draft) → h ≡ turned g j → xs ≡ ds →
    AreEarlier (all_tests g) ds →
    AreEarlier (all_tests h) xs
earlier_at g j xs ds game same earlier =
    subst (λ (q : Game). AreEarlier (all_tests q) xs) (sym game)
    (subst (λ (l : List Draft). AreEarlier (all_tests g) l) (sym same) earlier)

pub count_to : {g h : Game} {tests : ℕ} (j : ℕ) → h ≡ turned g j → IsCount g tests → IsCount h tests
count_to {tests = tests} j game count =
    subst (λ (q : Game). IsCount q tests) (sym game) (record { count = count.count; some = count.some })

-- a root of the pending goal, over drafts that were made anew
pub own_made : (g : Game) {h : Game} {ids : Ids} (goal : ℕ) (xs ds es fs : List Draft) (at : ℕ) →
    h ≡ turned g goal → xs ≡ ds →
    Stay (blocks_of xs) (blocks_of es) → Makes h ids es fs at (region_now h) →
    Makes (turned g goal) ids ds fs at (g.region goal)
own_made g {ids = ids} goal xs ds es fs at game same stay makes =
    let here = subst (λ (q : Game). Makes q ids es fs at (region_now q)) game makes in
    record {
      drafts = here.drafts;
      stay = stay_then (subst (λ (l : List Draft). Stay (blocks_of l) (blocks_of es)) same stay) here.stay;
      made = here.made;
    }

-- the test whether a goal is pending is one of all
pub goal_test : (g h : Game) (goal test : ℕ) → h ≡ turned g goal → test ≡ g.tests + goal → goal < g.goals →
    test < all_tests h
goal_test g h goal test game is below =
    subst (λ (q : Game). test < all_tests q) (sym game) (omega (arith, is, below))

-- ---- numbers of tests and goals
pub all_counted : (g : Game) (states goals : ℕ) → states ≡ g.tests → goals ≡ g.goals → 0 < goals →
    IsCount g (states + goals)
all_counted g states goals tests all some = record {
  count = ap (λ (n : ℕ). n + goals) tests ∙ ap (λ (n : ℕ). g.tests + n) all;
  some = omega (arith, some);
}

pub goal_below : (g : Game) {h : Game} {pending goal goals : ℕ} → h ≡ turned g pending → goals ≡ g.goals →
    goal < goals →
    goal < h.goals
goal_below g {goal = goal} game all below =
    subst (λ (q : Game). goal < q.goals) (sym game) (omega (arith, all, below))

pub own_test : (g : Game) {h : Game} {pending states : ℕ} (goal : ℕ) → h ≡ turned g pending → states ≡ g.tests →
    states + goal ≡ h.tests + goal
own_test g {states = states} goal game tests =
    ap (λ (n : ℕ). n + goal) (tests ∙ sym (ap (λ (q : Game). q.tests) game))
