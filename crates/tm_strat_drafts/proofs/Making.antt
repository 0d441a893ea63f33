-- Drafts grow at their end, and end well at the states of their sets.
use Rattle.std.proofs.Common.{◌≡◌, ◌⊎◌, inl, inr, ℕ, ◌+◌, ◌<◌, ◌≤◌, ◌&&◌, ◌==◌, Bool, nat_lt, true, false, List, []}
use Rattle.std.proofs.Common.{◌∷◌, ◌++◌, length, slice_get, Option, None, Some, if◌then◌else◌, refl, sym, ap, ◌∙◌}
use Rattle.std.proofs.Common.{subst, arith}
use Rattle.std.proofs.lemmas.Bool.Decides.{nat_tests}
use Rattle.tm_dd.specs.declared.node.NodeId.{NodeId}
use Rattle.tm_game_bits.proofs.Sets.{both_true}
use Rattle.tm_sem.specs.State.{StateData}
use Rattle.tm_solve.specs.Sets.{StateSet, IsAmong, IsWithin}
use Rattle.tm_strat_drafts.specs.Sets.{chosen, HasState}
use Rattle.tm_strat_drafts.specs.Moves.{all_tests, Game, good_now, IsTold, passes}
use Rattle.tm_solve.specs.Ids.{Ids, Is, Extends}
use Rattle.tm_strat_drafts.specs.Blocks.{Leads, goes_first, goes_second, moves, EndsWell, AreGood}
use Rattle.tm_strat_drafts.specs.Drafts.{AreDrafts, blocks_of, drafted, FitsEarlier, FoundOrNot, IsMade, Makes}
use Rattle.tm_strat_drafts.specs.Drafts.{MakesOrNot, Stay}
use Rattle.tm_strat_drafts.specs.Splits.{AreUniform}
use Rattle.tm_strat_drafts.specs.declared.drafts.DraftBlock.{DraftBlock}
use Rattle.tm_strat_drafts.specs.declared.drafts.DraftBlock.TheVariants.{Test, Move}
use Rattle.tm_strat_drafts.specs.declared.drafts.Draft.{Draft}
use Rattle.tm_strat_drafts.specs.declared.drafts.MoveChoice.{MoveChoice}
use Rattle.tm_strat_drafts.proofs.Items.{map_more, get_more, get_stays, get_last, get_below, get_some, length_more}
use Rattle.tm_strat_drafts.proofs.Items.{length_mapped}
use Rattle.tm_strat_drafts.proofs.Sets.{same_within}

-- where blocks stay, their tests lead where they led
pub leads_stay : {g : Game} {bs cs : List DraftBlock} {s : StateData} {at : ℕ} {m : MoveChoice} → Stay bs cs →
    Leads g bs s at m →
    Leads g cs s at m
leads_stay stay (goes_first is so rest) = goes_first (stay.stay _ _ is) so (leads_stay stay rest)
leads_stay stay (goes_second is so rest) = goes_second (stay.stay _ _ is) so (leads_stay stay rest)
leads_stay stay (moves is) = moves (stay.stay _ _ is)

pub good_stays : {g : Game} {bs cs : List DraftBlock} {at : ℕ} {set : StateSet} → Stay bs cs → AreGood g bs at set →
    AreGood g cs at set
good_stays stay good = record {
  ends = λ s among held. let e = good.ends s among held in
      record { move = e.move; leads = leads_stay stay e.leads; good = e.good };
}

pub good_within : {g : Game} {bs : List DraftBlock} {at : ℕ} {a b : StateSet} → IsWithin g.states a b →
    AreGood g bs at b →
    AreGood g bs at a
good_within w good = record { ends = λ s among held. good.ends s among (w.within s among held) }

pub within_here : (n : List StateData) (a : StateSet) → IsWithin n a a
within_here n a = record { within = λ s among here. here }

pub within_made : {g : Game} {later : Ids} {ds es : List Draft} {at : ℕ} {a b : StateSet} → IsWithin g.states b a →
    Makes g later ds es at a → Makes g later ds es at b
within_made within makes = record {
  drafts = makes.drafts;
  stay = makes.stay;
  made = record { below = makes.made.below; good = good_within within makes.made.good };
}

pub stay_here : (bs : List DraftBlock) → Stay bs bs
stay_here bs = record { stay = λ at b is. is }

pub stay_then : {bs cs ds : List DraftBlock} → Stay bs cs → Stay cs ds → Stay bs ds
stay_then v w = record { stay = λ at b is. w.stay at b (v.stay at b is) }

pub stay_more : (ds : List Draft) (d : Draft) → Stay (blocks_of ds) (blocks_of (ds ++ d ∷ []))
stay_more ds d = record {
  stay = λ at b is. subst (λ (bs : List DraftBlock). slice_get bs at ≡ Some b)
      (sym (map_more (λ (e : Draft). e.block) ds d)) (get_stays (blocks_of ds) d.block at b is);
}

pub block_last : (ds : List Draft) (d : Draft) → slice_get (blocks_of (ds ++ d ∷ [])) (length ds) ≡ Some d.block
block_last ds d =
    subst (λ (bs : List DraftBlock). slice_get bs (length ds) ≡ Some d.block)
    (sym (map_more (λ (e : Draft). e.block) ds d))
    (subst (λ (n : ℕ). slice_get (blocks_of ds ++ d.block ∷ []) n ≡ Some d.block)
    (length_mapped (λ (e : Draft). e.block) ds) (get_last (blocks_of ds) d.block))

-- a move ends well where it is good
pub move_good : (g : Game) (bs : List DraftBlock) (at : ℕ) (m : MoveChoice) → slice_get bs at ≡ Some (Move m) →
    AreGood g bs at (good_now g m)
move_good g bs at m is = record { ends = λ s among held. record { move = m; leads = moves is; good = held } }

-- a test ends well where the block does to which it leads
pub test_good : (g : Game) (bs : List DraftBlock) (at test first second : ℕ) (a b : StateSet) →
    slice_get bs at ≡ Some (Test test first second) → AreGood g bs first a → AreGood g bs second b →
    AreGood g bs at (chosen (passes g test) a b)
test_good g bs at test first second a b is one other =
    record { ends = λ s among held. here s among (passes g test s) refl held }
  where
    here : (s : StateData) → IsAmong s g.states → (x : Bool) → passes g test s ≡ x → (if x then a s else b s) ≡ true →
        EndsWell g bs at s
    here s among true so held = let e = one.ends s among held in
        record { move = e.move; leads = goes_first is so e.leads; good = e.good }
    here s among false so held = let e = other.ends s among held in
        record { move = e.move; leads = goes_second is so e.leads; good = e.good }

-- drafts with one more, over ids that went on
pub drafts_more : {g : Game} {ids later : Ids} (ds : List Draft) (d : Draft) → AreDrafts g ids ds → Extends ids later →
    length (ds ++ d ∷ []) ≤ 4294967295 → FitsEarlier (all_tests g) (length ds) d.block → later.knows d.good →
    AreGood g (blocks_of (ds ++ d ∷ [])) (length ds) (later.means d.good) → AreDrafts g later (ds ++ d ∷ [])
drafts_more {g = g} {ids = ids} {later = later} ds d drafts extends few fits known good = record {
  few = few;
  earlier = record { each = λ at e is. fits_at at e (get_more ds d at e is) };
  known = λ at e is. known_at at e (get_more ds d at e is);
  good = λ at e is. good_at at e (get_more ds d at e is);
}
  where
    fits_at : (at : ℕ) (e : Draft) → (slice_get ds at ≡ Some e) ⊎ ((at ≡ length ds) × (d ≡ e)) →
        FitsEarlier (all_tests g) at e.block
    fits_at at e (inl h) = drafts.earlier.each at e h
    fits_at at e (inr h) = subst (λ (n : ℕ). FitsEarlier (all_tests g) n e.block) (sym h.0)
        (subst (λ (x : Draft). FitsEarlier (all_tests g) (length ds) x.block) h.1 fits)

    known_at : (at : ℕ) (e : Draft) → (slice_get ds at ≡ Some e) ⊎ ((at ≡ length ds) × (d ≡ e)) → later.knows e.good
    known_at at e (inl h) = extends.known e.good (drafts.known at e h)
    known_at at e (inr h) = subst (λ (x : Draft). later.knows x.good) h.1 known

    good_at : (at : ℕ) (e : Draft) → (slice_get ds at ≡ Some e) ⊎ ((at ≡ length ds) × (d ≡ e)) →
        AreGood g (blocks_of (ds ++ d ∷ [])) at (later.means e.good)
    good_at at e (inl h) =
        good_stays (stay_more ds d)
        (subst (λ (m : StateSet). AreGood g (blocks_of ds) at m)
        (sym (extends.same e.good (drafts.known at e h))) (drafts.good at e h))
    good_at at e (inr h) = subst (λ (n : ℕ). AreGood g (blocks_of (ds ++ d ∷ [])) n (later.means e.good)) (sym h.0)
        (subst (λ (x : Draft). AreGood g (blocks_of (ds ++ d ∷ [])) (length ds) (later.means x.good)) h.1 good)

-- drafts over ids that went on
pub drafts_kept : {g : Game} {ids later : Ids} {ds : List Draft} → Extends ids later → AreDrafts g ids ds →
    AreDrafts g later ds
drafts_kept {g = g} {ds = ds} extends drafts = record {
  few = drafts.few;
  earlier = drafts.earlier;
  known = λ at e is. extends.known e.good (drafts.known at e is);
  good = λ at e is. subst (λ (m : StateSet). AreGood g (blocks_of ds) at m)
      (sym (extends.same e.good (drafts.known at e is))) (drafts.good at e is);
}

last_below : (ds : List Draft) (d : Draft) → length ds < length (ds ++ d ∷ [])
last_below ds d = let e = length_more ds d in omega arith

-- a move that is good at all of a set
pub move_made : {g : Game} {ids later : Ids} (ds es : List Draft) (m : MoveChoice) (good : NodeId) (set : StateSet) →
    AreDrafts g ids ds →
    Extends ids later → length es ≤ 4294967295 → Is g.states later good (good_now g m) →
    IsWithin g.states set (good_now g m) → es ≡ ds ++ drafted (Move m) good ∷ [] → Makes g later ds es (length ds) set
move_made {g = g} {later = later} ds es m good set drafts extends few is within items =
    subst (λ (xs : List Draft). Makes g later ds xs (length ds) set) (sym items) (record {
      drafts = drafts_more ds (drafted (Move m) good) drafts extends
          (subst (λ (xs : List Draft). length xs ≤ 4294967295) items few) tt is.known
          (good_within (same_within is.means) (move_good g _ (length ds) m (block_last ds (drafted (Move m) good))));
      stay = stay_more ds (drafted (Move m) good);
      made = record {
        below = last_below ds (drafted (Move m) good);
        good = good_within within (move_good g _ (length ds) m (block_last ds (drafted (Move m) good)));
      };
    })

-- a test between two drafts
pub test_made : {g : Game} {ids middle later : Ids} (ds es : List Draft) (test first second : ℕ)
    (holds one other good : NodeId) →
    AreDrafts g ids ds → Extends ids middle → Extends middle later → length es ≤ 4294967295 → test < all_tests g →
    ((d : Draft) → slice_get ds first ≡ Some d → d.good ≡ one) →
    ((d : Draft) → slice_get ds second ≡ Some d → d.good ≡ other) →
    Is g.states middle holds (passes g test) →
    Is g.states later good (λ s. if middle.means holds s then middle.means one s else middle.means other s) →
    es ≡ ds ++ drafted (Test test first second) good ∷ [] → (a b : StateSet) → IsMade g ds first a →
    IsMade g ds second b → Makes g later ds es (length ds) (chosen (passes g test) a b)
test_made {g = g} {ids = ids} {middle = middle} {later = later} ds es test first second holds one other good drafts to
    on
    few below one_is other_is held is items a b made_one made_other =
    let d : Draft = drafted (Test test first second) good in
    let more = stay_more ds d in
    let here = block_last ds d in
    let own : AreGood g (blocks_of (ds ++ d ∷ [])) (length ds) (later.means good) =
    good_within (same_within is.means) (good_within turned
    (test_good g _ (length ds) test first second (middle.means one) (middle.means other) here
    (good_stays more (good_of first one one_is (get_some ds first made_one.below)))
    (good_stays more (good_of second other other_is (get_some ds second made_other.below))))) in
    subst (λ (xs : List Draft). Makes g later ds xs (length ds) (chosen (passes g test) a b)) (sym items) (record {
      drafts = drafts_more ds d (drafts_kept to drafts) on (subst (λ (xs : List Draft). length xs ≤ 4294967295) items
          few)
          (below, made_one.below, made_other.below) is.known own;
      stay = more;
      made = record {
        below = last_below ds d;
        good = test_good g _ (length ds) test first second a b here (good_stays more made_one.good)
            (good_stays more made_other.good);
      };
    })
  where
    good_of : (at : ℕ) (id : NodeId) → ((d : Draft) → slice_get ds at ≡ Some d → d.good ≡ id) →
        (d : Draft) × (slice_get ds at ≡ Some d) → AreGood g (blocks_of ds) at (middle.means id)
    good_of at id is there =
        subst (λ (k : NodeId). AreGood g (blocks_of ds) at (middle.means k)) (is there.0 there.1)
        ((drafts_kept to drafts).good at there.0 there.1)

    turned : IsWithin g.states (λ s. if middle.means holds s then middle.means one s else middle.means other s)
        (chosen (passes g test) (middle.means one) (middle.means other))
    turned = record {
      within = λ s among so. subst (λ (x : Bool). (if x then middle.means one s else middle.means other s) ≡ true)
          (held.means.same s among) so;
    }

-- where a test of states passes is where it holds
pub state_passes : (g : Game) (k : ℕ) (s : StateData) → k < g.tests → passes g k s ≡ g.holds k s
state_passes g k s below =
    let is : nat_lt k g.tests ≡ true = grind (arith, nat_tests, below) in
    ap (λ (b : Bool). if b then g.holds k s else k == g.tests + g.pending) is

-- a set of one state lies where a move is good that is good at a state of it
pub one_state : {g : Game} (set : StateSet) (m : MoveChoice) → IsTold g → AreUniform g set (all_tests g) →
    HasState g.states (λ s. set s && good_now g m s) → IsWithin g.states set (good_now g m)
one_state {g = g} set m told uniform some = record {
  within = λ s among held. subst (λ (t : StateData). good_now g m t ≡ true)
      (told.told some.state s some.listed among (λ k below. alike s among held k below))
      (both_true (set some.state) _ some.with_it).1;
}
  where
    alike : (s : StateData) → IsAmong s g.states → set s ≡ true → (k : ℕ) → k < g.tests →
        g.holds k some.state ≡ g.holds k s
    alike s among held k below =
        sym (state_passes g k some.state below)
        ∙ (uniform.each k (omega (arith, below))).same some.state s some.listed among
        (both_true _ _ some.with_it).0 held
        ∙ state_passes g k s below

-- a set that lies in an id's lies in what the id means
pub lies_good : {g h : Game} {ids later : Ids} {care id : NodeId} {set : StateSet} → h ≡ g → Extends ids later →
    ids.knows care →
    IsWithin h.states (later.means care) (later.means id) → Is g.states later id set →
    IsWithin g.states (ids.means care) set
lies_good {g = g} {ids = ids} {later = later} {care = care} {id = id} game extends known within is =
    let here = subst (λ (q : Game). IsWithin q.states (later.means care) (later.means id)) game within in
    record {
      within = λ s among held. sym (is.means.same s among)
          ∙ here.within s among (ap (λ (m : StateSet). m s) (extends.same care known) ∙ held);
    }

pub good_at : {g h : Game} {ids : Ids} {id : NodeId} {m : MoveChoice} → h ≡ g → Is h.states ids id (good_now h m) →
    Is g.states ids id (good_now g m)
good_at {ids = ids} {id = id} {m = m} game is = subst (λ (q : Game). Is q.states ids id (good_now q m)) game is

-- what is read of the same drafts
pub goods : {xs ds : List Draft} {id : NodeId} (at : ℕ) → xs ≡ ds → ((d : Draft) → slice_get xs at ≡ Some d →
    d.good ≡ id) →
    (d : Draft) → slice_get ds at ≡ Some d → d.good ≡ id
goods at same read d is = read d (subst (λ (l : List Draft). slice_get l at ≡ Some d) (sym same) is)

pub known_there : {g : Game} {ids : Ids} {ds : List Draft} (at : ℕ) (id : NodeId) → AreDrafts g ids ds →
    at < length ds →
    ((d : Draft) → slice_get ds at ≡ Some d → d.good ≡ id) → ids.knows id
known_there {ids = ids} {ds = ds} at id drafts below read =
    let there = get_some ds at below in
    subst (λ (k : NodeId). ids.knows k) (read there.0 there.1) (drafts.known at there.0 there.1)

-- a draft whose set holds another one
pub found_made : {g h : Game} {ids later : Ids} {ds : List Draft} (at : ℕ) (id care : NodeId) → AreDrafts g ids ds →
    h ≡ g →
    Extends ids later → ids.knows care → at < length ds → ((d : Draft) → slice_get ds at ≡ Some d → d.good ≡ id) →
    IsWithin h.states (later.means care) (later.means id) → IsMade g ds at (ids.means care)
found_made {g = g} {ids = ids} {later = later} {ds = ds} at id care drafts game extends known below read within =
    let there = get_some ds at below in
    let here = subst (λ (q : Game). IsWithin q.states (later.means care) (later.means id)) game within in
    record {
      below = below;
      good = good_within (record {
        within = λ s among held. ap (λ (m : StateSet). m s) (sym
            (extends.same there.0.good (drafts.known at there.0 there.1)))
            ∙ ap (λ (k : NodeId). later.means k s) (read there.0 there.1)
            ∙ here.within s among (ap (λ (m : StateSet). m s) (extends.same care known) ∙ held);
      }) (drafts.good at there.0 there.1);
    }

-- a draft that was there is there still
pub made_stays : {g : Game} {ds es : List Draft} {at : ℕ} {set : StateSet} → Stay (blocks_of ds) (blocks_of es) →
    IsMade g ds at set → IsMade g es at set
made_stays {g = g} {ds = ds} {es = es} {at = at} stay made =
    let seen = length_mapped (λ (e : Draft). e.block) ds in
    let seen_later = length_mapped (λ (e : Draft). e.block) es in
    let there = get_some (blocks_of ds) at (subst (λ (n : ℕ). at < n) (sym seen) made.below) in
    record {
      below = subst (λ (n : ℕ). at < n) seen_later (get_below (blocks_of es) at there.0 (stay.stay at there.0 there.1));
      good = good_stays stay made.good;
    }

-- a draft that was found serves as one that is made
pub makes_found : {g : Game} {ids later : Ids} {ds : List Draft} {at : ℕ} {set : StateSet} → Extends ids later →
    AreDrafts g ids ds → IsMade g ds at set → Makes g later ds ds at set
makes_found {ds = ds} extends drafts made =
    record { drafts = drafts_kept extends drafts; stay = stay_here (blocks_of ds); made = made }

-- at the game that stays
pub drafts_at : {g h : Game} {ids : Ids} {ds : List Draft} → h ≡ g → AreDrafts g ids ds → AreDrafts h ids ds
drafts_at {ids = ids} {ds = ds} game drafts = subst (λ (q : Game). AreDrafts q ids ds) (sym game) drafts

pub makes_at : {g h : Game} {ids : Ids} {ds es : List Draft} {at : ℕ} {set : StateSet} → h ≡ g →
    Makes h ids ds es at set →
    Makes g ids ds es at set
makes_at {ids = ids} {ds = ds} {es = es} {at = at} {set = set} game m =
    subst (λ (q : Game). Makes q ids ds es at set) game m

pub makes_of : {g : Game} {ids : Ids} {ds es : List Draft} {at : ℕ} {a b : StateSet} → a ≡ b → Makes g ids ds es at a →
    Makes g ids ds es at b
makes_of {g = g} {ids = ids} {ds = ds} {es = es} {at = at} same m =
    subst (λ (x : StateSet). Makes g ids ds es at x) same m

-- a move at the game that stays
pub plain_at : {g h : Game} {ids : Ids} {ds es : List Draft} {at : ℕ} {m : MoveChoice} → h ≡ g →
    Makes h ids ds es at (good_now h m) → Makes g ids ds es at (good_now g m)
plain_at {ids = ids} {ds = ds} {es = es} {at = at} {m = m} game makes =
    subst (λ (q : Game). Makes q ids ds es at (good_now q m)) game makes

-- the blocks of drafts with one more
pub block_more : (ds es : List Draft) (d : Draft) → es ≡ ds ++ d ∷ [] → blocks_of es ≡ blocks_of ds ++ d.block ∷ []
block_more ds es d is = ap (λ (l : List Draft). blocks_of l) is ∙ map_more (λ (e : Draft). e.block) ds d

-- ---- what was found
pub makes_some : {g : Game} {ids : Ids} {ds es : List Draft} {set : StateSet} (r : Option ℕ) (at : ℕ) → r ≡ Some at →
    MakesOrNot g ids ds es set r → Makes g ids ds es at set
makes_some {g = g} {ids = ids} {ds = ds} {es = es} {set = set} r at is makes =
    subst (λ (o : Option ℕ). MakesOrNot g ids ds es set o) is makes

pub makes_none : (g : Game) (ids : Ids) {ds es : List Draft} (set : StateSet) (r : Option ℕ) → r ≡ None →
    MakesOrNot g ids ds es set r → es ≡ ds
makes_none g ids {ds = ds} {es = es} set r is makes =
    subst (λ (o : Option ℕ). MakesOrNot g ids ds es set o) is makes

pub found_some : {g : Game} {ds : List Draft} {set : StateSet} (xs : List Draft) (r : Option ℕ) (at : ℕ) → xs ≡ ds →
    r ≡ Some at → FoundOrNot g xs set r → IsMade g ds at set
found_some {g = g} {ds = ds} {set = set} xs r at same is found =
    subst (λ (l : List Draft). IsMade g l at set) same (subst (λ (o : Option ℕ). FoundOrNot g xs set o) is found)

pub makes_or_not_at : {g h : Game} (ids : Ids) (ds es : List Draft) {a b : StateSet} (r : Option ℕ) → h ≡ g → a ≡ b →
    MakesOrNot h ids ds es a r → MakesOrNot g ids ds es b r
makes_or_not_at {h = h} ids ds es {b = b} r game same makes =
    subst (λ (q : Game). MakesOrNot q ids ds es b r) game
    (subst (λ (x : StateSet). MakesOrNot h ids ds es x r) same makes)

-- drafts that stay, at a game and ids that went on
pub drafts_on : {g h : Game} {ids later : Ids} {ds es : List Draft} → h ≡ g → Extends ids later → es ≡ ds →
    AreDrafts g ids ds → AreDrafts h later es
drafts_on {h = h} {later = later} game extends same drafts =
    subst (λ (l : List Draft). AreDrafts h later l) (sym same) (drafts_at game (drafts_kept extends drafts))
