-- What it means that a part of a set is empty, or is not.
use Rattle.std.proofs.Common.{◌≡◌, ◌≢◌, ◌⊎◌, inl, inr, ℕ, ◌+◌, ◌<◌, ◌&&◌, not, is_some, IsTrue, Bool, true, false, List}
use Rattle.std.proofs.Common.{Option, None, Some, if◌then◌else◌, refl, sym, ap, ◌∙◌, subst, arith, true≢false}
use Rattle.std.specs.Cmp.Derive.{both_true as and_true}
use Rattle.tm_dd.specs.declared.node.NodeId.{NodeId}
use Rattle.tm_game_bits.proofs.Sets.{both_true}
use Rattle.tm_sem.specs.State.{StateData}
use Rattle.tm_solve.specs.Sets.{StateSet, IsAmong, IsWithin, IsSame, count}
use Rattle.tm_solve.proofs.Following.{other_gains, told_same}
use Rattle.tm_strat_drafts.specs.Sets.{chosen, HasState}
use Rattle.tm_sem.specs.Certificates.{nowhere}
use Rattle.tm_strat_drafts.specs.Moves.{all_tests, Game, IsCare, IsCount, passes, region_now}
use Rattle.tm_solve.specs.Ids.{Ids, Is, IsExact, Extends}
use Rattle.tm_strat_drafts.specs.Splits.{passing, failing, IsSplit, IsUniform, AreUniform, SplitBy, SplitOrNot}
use Rattle.tm_strat_drafts.specs.declared.splitting.Split.{Split}
use Rattle.tm_strat_drafts.proofs.Items.{below_more}
use Rattle.tm_strat_drafts.proofs.Making.{within_here}
use Rattle.tm_strat_drafts.proofs.Sets.{count_lt, same_within, within_then}

-- of known ids, one that is not the empty set's has a state
pub other_has : {n : List StateData} {ids : Ids} (a nothing : NodeId) → IsExact n ids → ids.knows a →
    Is n ids nothing nowhere → a ≢ nothing → HasState n (ids.means a)
other_has {n = n} {ids = ids} a nothing exact known empty differ =
    let gains = other_gains nothing a exact empty.known known (λ e. differ (sym e)) (record {
      within = λ s among held. absurd (true≢false (sym held ∙ empty.means.same s among));
    }) in
    record { state = gains.state; listed = gains.listed; without_it = refl; with_it = gains.with_it }

-- where no state of a set passes a test, or none fails it, the test is the same at all of them
pub none_passes : {g : Game} (a : StateSet) (k : ℕ) → IsSame g.states (passing g k a) nowhere → IsUniform g a k
none_passes {g = g} a k e =
    record { same = λ s t in_s in_t at_s at_t. fails s in_s at_s ∙ sym (fails t in_t at_t) }
  where
    at : (x : Bool) → (x ≡ true → ⊥) → x ≡ false
    at true f = absurd (f refl)
    at false f = refl

    clash : (x : Bool) → x ≡ true → x ≡ false → ⊥
    clash true p q = cc
    clash false p q = cc

    fails : (s : StateData) → IsAmong s g.states → a s ≡ true → passes g k s ≡ false
    fails s among held = at (passes g k s) (λ so. clash _ (and_true held so) (e.same s among))

pub none_fails : {g : Game} (a : StateSet) (k : ℕ) → IsSame g.states (failing g k a) nowhere → IsUniform g a k
none_fails {g = g} a k e =
    record { same = λ s t in_s in_t at_s at_t. holds s in_s at_s ∙ sym (holds t in_t at_t) }
  where
    at : (x : Bool) → (not x ≡ true → ⊥) → x ≡ true
    at true f = refl
    at false f = absurd (f refl)

    clash : (x : Bool) → x ≡ true → x ≡ false → ⊥
    clash true p q = cc
    clash false p q = cc

    holds : (s : StateData) → IsAmong s g.states → a s ≡ true → passes g k s ≡ true
    holds s among held = at (passes g k s) (λ so. clash _ (and_true held so) (e.same s among))

-- an id of a part, whose test is an id, too
pub part_passes : {g h : Game} {ids middle later : Ids} (a : NodeId) (k : ℕ) (holds id : NodeId) → h ≡ g →
    Extends ids middle → ids.knows a →
    Is g.states middle holds (passes g k) → Is h.states later id (λ s. middle.means a s && middle.means holds s) →
    Is g.states later id (passing g k (ids.means a))
part_passes {g = g} {ids = ids} {middle = middle} {later = later} a k holds id game extends known test is =
    let here = subst (λ (q : Game). Is q.states later id (λ s. middle.means a s && middle.means holds s)) game is in
    record {
      known = here.known;
      means = record {
        same = λ s among. here.means.same s among
            ∙ ap (λ (x : Bool). middle.means a s && x) (test.means.same s among)
            ∙ ap (λ (m : StateSet). m s && passes g k s) (extends.same a known);
      };
    }

pub part_fails : {g h : Game} {ids middle later : Ids} (a : NodeId) (k : ℕ) (holds id : NodeId) → h ≡ g →
    Extends ids middle → ids.knows a →
    Is g.states middle holds (passes g k) → Is h.states later id (λ s. middle.means a s && not (middle.means holds s)) →
    Is g.states later id (failing g k (ids.means a))
part_fails {g = g} {ids = ids} {middle = middle} {later = later} a k holds id game extends known test is =
    let here = subst (λ (q : Game). Is q.states later id (λ s. middle.means a s && not (middle.means holds s))) game
    is in
    record {
      known = here.known;
      means = record {
        same = λ s among. here.means.same s among
            ∙ ap (λ (x : Bool). middle.means a s && not x) (test.means.same s among)
            ∙ ap (λ (m : StateSet). m s && not (passes g k s)) (extends.same a known);
      };
    }

-- a part has a state where its id is not that of the empty set
pub part_has : {g h : Game} {ids : Ids} (a nothing : NodeId) → h ≡ g → IsExact h.states ids → ids.knows a →
    Is h.states ids nothing nowhere → a ≢ nothing → HasState g.states (ids.means a)
part_has {ids = ids} a nothing game exact known empty differ =
    subst (λ (q : Game). HasState q.states (ids.means a)) game (other_has a nothing exact known empty differ)

pub uniform_at : {g h : Game} {m n : StateSet} {k : ℕ} → h ≡ g → m ≡ n → IsUniform h m k → IsUniform g n k
uniform_at {h = h} {m = m} {n = n} {k = k} game same u =
    subst (λ (q : Game). IsUniform q n k) game (subst (λ (x : StateSet). IsUniform h x k) same u)

pub by_none : {g : Game} {a : StateSet} {k : ℕ} (ids : Ids) (found : Option Split) → is_some found ≡ false →
    SplitBy g ids a k found → IsUniform g a k
by_none ids None e u = u
by_none ids (Some p) e u = cc

pub uniform_more : {g : Game} {a : StateSet} (n : ℕ) → AreUniform g a n → IsUniform g a n → AreUniform g a (n + 1)
uniform_more {g = g} {a = a} n all one = record { each = λ k below. at k (below_more k n below) }
  where
    at : (k : ℕ) → (k < n) ⊎ (k ≡ n) → IsUniform g a k
    at k (inl l) = all.each k l
    at k (inr e) = subst (λ (j : ℕ). IsUniform g a j) (sym e) one

-- both parts lie in the whole
first_inside : {g : Game} {ids : Ids} {a : StateSet} {p : Split} → IsSplit g ids a p →
    IsWithin g.states (ids.means p.first) a
first_inside split =
    record { within = λ s among held. (both_true _ _ (sym (split.first.means.same s among) ∙ held)).0 }

second_inside : {g : Game} {ids : Ids} {a : StateSet} {p : Split} → IsSplit g ids a p →
    IsWithin g.states (ids.means p.second) a
second_inside split =
    record { within = λ s among held. (both_true _ _ (sym (split.second.means.same s among) ∙ held)).0 }

-- each has fewer states, since it misses one of the other
fewer_pass : {g : Game} {ids : Ids} {a : StateSet} {p : Split} → IsSplit g ids a p →
    count g.states (ids.means p.first) < count g.states a
fewer_pass {g = g} {ids = ids} {a = a} {p = p} split =
    let other = split.some_second in
    let held = sym (split.second.means.same _ other.listed) ∙ other.with_it in
    count_lt g.states (ids.means p.first) a (first_inside split) other.state other.listed
    (split.first.means.same _ other.listed ∙ apart _ _ held) (both_true _ _ held).0
  where
    apart : (x y : Bool) → (x && not y) ≡ true → (x && y) ≡ false
    apart true true e = sym e
    apart true false e = refl
    apart false y e = refl

fewer_fail : {g : Game} {ids : Ids} {a : StateSet} {p : Split} → IsSplit g ids a p →
    count g.states (ids.means p.second) < count g.states a
fewer_fail {g = g} {ids = ids} {a = a} {p = p} split =
    let other = split.some_first in
    let held = sym (split.first.means.same _ other.listed) ∙ other.with_it in
    count_lt g.states (ids.means p.second) a (second_inside split) other.state other.listed
    (split.second.means.same _ other.listed ∙ apart _ _ held) (both_true _ _ held).0
  where
    apart : (x y : Bool) → (x && y) ≡ true → (x && not y) ≡ false
    apart true true e = refl
    apart true false e = sym e
    apart false y e = refl

-- each state of a set is in the part that its test chooses
pub parts_cover : {g : Game} {ids : Ids} {a : StateSet} {p : Split} → IsSplit g ids a p →
    IsWithin g.states a (chosen (passes g p.test) (ids.means p.first) (ids.means p.second))
parts_cover {g = g} {ids = ids} {a = a} {p = p} split =
    record { within = λ s among held. at s among held (passes g p.test s) refl }
  where
    at : (s : StateData) → IsAmong s g.states → a s ≡ true → (x : Bool) → passes g p.test s ≡ x →
        (if x then ids.means p.first s else ids.means p.second s) ≡ true
    at s among held true so = split.first.means.same s among ∙ and_true held so
    at s among held false so = split.second.means.same s among ∙ and_true held (ap not so)

-- a split as the game has it that stays
pub split_at : {g h : Game} {ids : Ids} {a b : StateSet} {p : Split} → h ≡ g → a ≡ b → IsSplit h ids a p →
    IsSplit g ids b p
split_at {h = h} {ids = ids} {a = a} {b = b} {p = p} game same split =
    subst (λ (q : Game). IsSplit q ids b p) game (subst (λ (x : StateSet). IsSplit h ids x p) same split)

-- a part is a set to build for, at a game and ids that went on
pub part_care : {g h : Game} {ids later : Ids} {a : StateSet} (id : NodeId) → h ≡ g → ids.knows id → Extends ids later →
    IsWithin g.states (ids.means id) a → IsWithin g.states a (region_now g) → HasState g.states (ids.means id) →
    IsCare h later id
part_care {g = g} {ids = ids} {later = later} id game known extends inside within some =
    subst (λ (q : Game). IsCare q later id) (sym game) (record {
      known = extends.known id known;
      within = subst (λ (m : StateSet). IsWithin g.states m (region_now g)) (sym (extends.same id known))
          (within_then inside within);
      some = subst (λ (m : StateSet). HasState g.states m) (sym (extends.same id known)) some;
    })

part_fewer : {g h : Game} {ids later : Ids} {n : ℕ} (id : NodeId) → h ≡ g → ids.knows id → Extends ids later →
    count g.states (ids.means id) < n → count h.states (later.means id) < n
part_fewer {g = g} {ids = ids} {later = later} {n = n} id game known extends fewer =
    subst (λ (q : Game). count q.states (later.means id) < n) (sym game)
    (subst (λ (m : StateSet). count g.states m < n) (sym (extends.same id known)) fewer)

-- ---- the region
-- a region that is not empty is a set to build for
pub region_care : {g : Game} {ids : Ids} (care nothing : NodeId) → IsExact g.states ids →
    Is g.states ids care (region_now g) → Is g.states ids nothing nowhere → care ≢ nothing → IsCare g ids care
region_care care nothing exact is empty differ = record {
  known = is.known;
  within = same_within is.means;
  some = other_has care nothing exact is.known empty differ;
}

pub region_within : (g : Game) {ids : Ids} {care : NodeId} → Is g.states ids care (region_now g) →
    IsWithin g.states (region_now g) (ids.means care)
region_within g is = record { within = λ s among held. is.means.same s among ∙ held }

-- one that is empty lies in every set
pub region_none : (g : Game) {ids : Ids} (care nothing : NodeId) (set : StateSet) →
    Is g.states ids care (region_now g) →
    Is g.states ids nothing nowhere → care ≡ nothing → IsWithin g.states (region_now g) set
region_none g {ids = ids} care nothing set is empty same = record {
  within = λ s among held.
      absurd (true≢false (sym held ∙ sym (is.means.same s among) ∙ ap (λ (id : NodeId). ids.means id s) same
      ∙ empty.means.same s among));
}

-- ---- parts that are empty
pub empty_part : {g h : Game} {ids : Ids} {part : StateSet} (id nothing : NodeId) → h ≡ g → Is g.states ids id part →
    Is h.states ids nothing nowhere → id ≡ nothing → IsSame g.states part nowhere
empty_part {g = g} {h = h} {ids = ids} id nothing game is empty same =
    let here = subst (λ (q : Game). Is q.states ids nothing nowhere) game empty in
    record {
      same = λ s among. sym (is.means.same s among) ∙ ap (λ (k : NodeId). ids.means k s) same
          ∙ here.means.same s among;
    }

-- where nothing of a set is left outside another one, it lies in that
pub nothing_left : {g h : Game} (ids : Ids) {later : Ids} (a b rest nothing : NodeId) → h ≡ g →
    Is g.states later rest (λ s. ids.means a s && not (ids.means b s)) → Is h.states later nothing nowhere →
    rest ≡ nothing → IsWithin g.states (ids.means a) (ids.means b)
nothing_left {g = g} ids a b rest nothing game is empty same =
    let none = empty_part rest nothing game is empty same in
    record { within = λ s among held. at s held (none.same s among) (ids.means b s) refl }
  where
    at : (s : StateData) → ids.means a s ≡ true → (ids.means a s && not (ids.means b s)) ≡ false → (x : Bool) →
        ids.means b s ≡ x → ids.means b s ≡ true
    at s held none true so = so
    at s held none false so = absurd (true≢false (sym (and_true held (ap not so)) ∙ none))

-- what the comparison of two ids says where it holds
pub told_at : {a b : NodeId} (r : Bool) → r ≡ true → (IsTrue r → a ≡ b) × (a ≡ b → IsTrue r) → a ≡ b
told_at {a = a} {b = b} r is h =
    told_same (subst (λ (x : Bool). (IsTrue x → a ≡ b) × (a ≡ b → IsTrue x)) is h)

-- ---- what was found
pub none_uniform : (g : Game) (a : StateSet) → AreUniform g a 0
none_uniform g a = record { each = λ k below. absurd (omega (arith, below)) }

pub all_uniform : (g : Game) (a : StateSet) (n : ℕ) → n ≡ all_tests g → AreUniform g a n → AreUniform g a (all_tests g)
all_uniform g a n is all = subst (λ (k : ℕ). AreUniform g a k) is all

pub by_some : {g h : Game} (ids : Ids) {a b : StateSet} (k : ℕ) (found : Option Split) → is_some found ≡ true → h ≡ g →
    a ≡ b → SplitBy h ids a k found → SplitOrNot g ids b found
by_some ids k None e game same s = absurd (true≢false (sym e))
by_some ids k (Some p) e game same s = split_at game same s

pub split_some : {g h : Game} {ids : Ids} {a b : StateSet} (k : ℕ) (found : Option Split) (p : Split) → found ≡ Some p →
    h ≡ g → a ≡ b → SplitBy h ids a k found → IsSplit g ids b p
split_some {h = h} {ids = ids} {a = a} k found p is game same s =
    split_at game same (subst (λ (o : Option Split). SplitBy h ids a k o) is s)

pub split_or_not_at : {g h : Game} (ids : Ids) {a b : StateSet} (found : Option Split) → h ≡ g → a ≡ b →
    SplitOrNot h ids a found → SplitOrNot g ids b found
split_or_not_at {h = h} ids {b = b} found game same s =
    subst (λ (q : Game). SplitOrNot q ids b found) game
    (subst (λ (x : StateSet). SplitOrNot h ids x found) same s)

pub split_found : {g : Game} {ids : Ids} {a : StateSet} (found : Option Split) (p : Split) → found ≡ Some p →
    SplitOrNot g ids a found → IsSplit g ids a p
split_found {g = g} {ids = ids} {a = a} found p is s = subst (λ (o : Option Split). SplitOrNot g ids a o) is s

pub split_missing : {g : Game} (ids : Ids) {a : StateSet} (found : Option Split) → found ≡ None →
    SplitOrNot g ids a found → AreUniform g a (all_tests g)
split_missing {g = g} ids {a = a} found is s = subst (λ (o : Option Split). SplitOrNot g ids a o) is s

-- ---- calls that follow
pub count_at : {g h : Game} {tests : ℕ} → h ≡ g → IsCount g tests → IsCount h tests
count_at {tests = tests} game count = subst (λ (q : Game). IsCount q tests) (sym game) count

-- a set to build for is one still
pub care_on : {g h : Game} {ids later : Ids} {care : NodeId} → h ≡ g → Extends ids later → IsCare g ids care →
    IsCare h later care
care_on {g = g} {ids = ids} {care = care} game extends is =
    part_care care game is.known extends (within_here g.states (ids.means care)) is.within is.some

pub uniform_on : {g h : Game} {a b : StateSet} → h ≡ g → b ≡ a → AreUniform g a (all_tests g) →
    AreUniform h b (all_tests h)
uniform_on {g = g} {b = b} game same u =
    subst (λ (q : Game). AreUniform q b (all_tests q)) (sym game)
    (subst (λ (x : StateSet). AreUniform g x (all_tests g)) (sym same) u)

pub test_at : {g h : Game} {k : ℕ} → h ≡ g → k < all_tests g → k < all_tests h
test_at {k = k} game below = subst (λ (q : Game). k < all_tests q) (sym game) below

-- each part of a split is a set to build for, and has fewer states than the whole
pub first_part : {g h : Game} {ids later : Ids} {a : StateSet} {p : Split} → h ≡ g → Extends ids later →
    IsWithin g.states a (region_now g) → IsSplit g ids a p →
    (count h.states (later.means p.first) < count g.states a) × IsCare h later p.first
first_part {p = p} game extends within split = (
  part_fewer p.first game split.first.known extends (fewer_pass split),
  part_care p.first game split.first.known extends (first_inside split) within split.some_first,
)

pub second_part : {g h : Game} {ids later : Ids} {a : StateSet} {p : Split} → h ≡ g → Extends ids later →
    IsWithin g.states a (region_now g) → IsSplit g ids a p →
    (count h.states (later.means p.second) < count g.states a) × IsCare h later p.second
second_part {p = p} game extends within split = (
  part_fewer p.second game split.second.known extends (fewer_fail split),
  part_care p.second game split.second.known extends (second_inside split) within split.some_second,
)
