-- Levels of a solution over the exact operator are an environment's certificate.
use Rattle.std.proofs.Common.{◌≡◌, ◌⊎◌, inl, inr, ℕ, zero, suc, ◌+◌, ◌<◌, Bool, true, false, not, ◌||◌, ◌&&◌, List, [], ◌∷◌, length, slice_get, Some, cond, refl, sym, ap, ◌∙◌, subst, arith}
use Rattle.std.specs.List.{list_any, position_or_len}
use Rattle.std.specs.Option.{option_map_or}
use Rattle.tm_syntax.specs.Design.{DesignTree}
use Rattle.tm_sem.specs.State.{StateData}
use Rattle.tm_sem.specs.Step.{IsState}
use Rattle.tm_sem.specs.Fairness.{conditions, IsFair}
use Rattle.tm_sem.specs.Forcing.{Forced}
use Rattle.tm_sem.specs.Certificates.{Level, IsIn, IsNew, nowhere, level_before, last_level, either, set_before, E1, MeetsEnvironment}
use Rattle.tm_solve.specs.Sets.{StateSet, outside, common, IsAmong, IsWithin}
use Rattle.tm_solve.specs.Game.{Game}
use Rattle.tm_solve.specs.Narrowed.{narrowed}
use Rattle.tm_solve.specs.Levels.{AreLinks, last_link, ChainFits, IsLevel, AreLevels, last_of_levels, LevelsFit}
use Rattle.tm_solve.specs.Operator.{Operator}
use Rattle.tm_solve.specs.Exact.{IsGameOf, MeetsLevels, LeavesOut}
use Rattle.tm_solve.proofs.Items.{get_below, get_some, some_same}
use Rattle.tm_solve.proofs.Joins.{and_both}
use Rattle.tm_solve.proofs.Sets.{within_here, within_then, not_true}
use Rattle.tm_solve.proofs.Operators.{forced_more, Fails, part_fails}

-- the level before one of a list that begins behind this one
before_level : StateSet → List Level → ℕ → StateSet
before_level start levels zero = start
before_level start levels (suc k) = option_map_or (λ (l : Level). l.set) (slice_get levels k) nowhere

level_at : (g : Game) (start : StateSet) (levels : List Level) → AreLevels g start levels → (k : ℕ) (l : Level) →
    slice_get levels k ≡ Some l → IsLevel g (before_level start levels k) l
unfolding before_level
level_at g start [] are k l got = cc
level_at g start (m ∷ ms) are zero l got = subst (λ (p : Level). IsLevel g start p) (some_same got) are.0
level_at g start (m ∷ ms) are (suc zero) l got = level_at g m.set ms are.1 zero l got
level_at g start (m ∷ ms) are (suc (suc k)) l got = level_at g m.set ms are.1 (suc k) l got

level_before_is : (levels : List Level) (k : ℕ) → before_level nowhere levels k ≡ level_before levels k
unfolding before_level
level_before_is levels zero = refl
level_before_is levels (suc k) = refl

last_level_is : (start : StateSet) (levels : List Level) → before_level start levels (length levels) ≡ last_of_levels
    start levels
unfolding before_level
last_level_is start [] = refl
last_level_is start (m ∷ []) = refl
last_level_is start (m ∷ (k ∷ ks)) = last_level_is m.set (k ∷ ks)

-- the set before one of a chain that begins behind this one
before_link : StateSet → List StateSet → ℕ → StateSet
before_link start chain zero = start
before_link start chain (suc x) = option_map_or (λ set. set) (slice_get chain x) nowhere

set_before_is : (chain : List StateSet) (x : ℕ) → before_link nowhere chain x ≡ set_before chain x
unfolding before_link
set_before_is chain zero = refl
set_before_is chain (suc x) = refl

-- a set of a chain, over the one before it
record LinkAt (g : Game) (z y : StateSet) (j i : ℕ) (before set : StateSet) : Type 0 where
  grows : IsWithin g.states before set
  leads : IsWithin g.states (g.part z y (common (outside before) z) j i) (outside set)

link_at : (g : Game) (z y : StateSet) (j i : ℕ) (start : StateSet) (chain : List StateSet) →
    AreLinks g z y j i start chain →
    (x : ℕ) (set : StateSet) → slice_get chain x ≡ Some set → LinkAt g z y j i (before_link start chain x) set
unfolding before_link
link_at g z y j i start [] links x set got = cc
link_at g z y j i start (c ∷ cs) links zero set got =
    subst (λ (p : StateSet). LinkAt g z y j i start p) (some_same got)
    (record { grows = links.0.0; leads = links.0.1 })
link_at g z y j i start (c ∷ cs) links (suc zero) set got = link_at g z y j i c cs links.1 zero set got
link_at g z y j i start (c ∷ cs) links (suc (suc x)) set got = link_at g z y j i c cs links.1 (suc x) set got

start_within : (g : Game) (z y : StateSet) (j i : ℕ) (start : StateSet) (chain : List StateSet) →
    AreLinks g z y j i start chain → IsWithin g.states start (last_link start chain)
start_within g z y j i start [] links = within_here _ _
start_within g z y j i start (c ∷ cs) links = within_then links.0.0 (start_within g z y j i c cs links.1)

set_within : (g : Game) (z y : StateSet) (j i : ℕ) (start : StateSet) (chain : List StateSet) →
    AreLinks g z y j i start chain → (x : ℕ) (set : StateSet) → slice_get chain x ≡ Some set →
    IsWithin g.states set (last_link start chain)
set_within g z y j i start [] links x set got = cc
set_within g z y j i start (c ∷ cs) links zero set got =
    subst (λ (p : StateSet). IsWithin g.states p (last_link c cs)) (some_same got) (start_within g z y j i c cs links.1)
set_within g z y j i start (c ∷ cs) links (suc x) set got = set_within g z y j i c cs links.1 x set got

-- the place of a state in a chain
abbrev place : List StateSet → StateData → ℕ
place chain s = position_or_len (λ set. set s) chain

place_here : (c : StateSet) (cs : List StateSet) (s : StateData) → c s ≡ true → place (c ∷ cs) s ≡ 0
place_here c cs s here = at (c s) here
  where
    at : (b : Bool) → b ≡ true → cond (not b) (1 + place cs s) 0 ≡ 0
    at true e = refl
    at false e = cc

place_later : (c : StateSet) (cs : List StateSet) (s : StateData) → c s ≡ false → place (c ∷ cs) s ≡ suc (place cs s)
place_later c cs s out = at (c s) out
  where
    at : (b : Bool) → b ≡ false → cond (not b) (1 + place cs s) 0 ≡ suc (place cs s)
    at true e = cc
    at false e = omega arith

-- the set of a state, which is not in the set before
record PlaceOf (start : StateSet) (chain : List StateSet) (s : StateData) : Type 0 where
  set : StateSet
  found : slice_get chain (place chain s) ≡ Some set
  inside : set s ≡ true
  out : before_link start chain (place chain s) s ≡ false
  any : list_any (λ a. a s) chain ≡ true

place_of : (start : StateSet) (chain : List StateSet) (s : StateData) → start s ≡ false →
    last_link start chain s ≡ true →
    PlaceOf start chain s
unfolding before_link
place_of start [] s out last = absurd (cc)
place_of start (c ∷ cs) s out last = by (c s) refl (λ gone. place_of c cs s gone last)
  where
    Found : ℕ → Type 0
    Found x = (set : StateSet) × (slice_get (c ∷ cs) x ≡ Some set) × (set s ≡ true)
        × (before_link start (c ∷ cs) x s ≡ false)

    or_true : (a b : Bool) → b ≡ true → (a || b) ≡ true
    or_true true b e = refl
    or_true false b e = e

    or_here : (a b : Bool) → a ≡ true → (a || b) ≡ true
    or_here true b e = refl
    or_here false b e = cc

    by : (b : Bool) → c s ≡ b → (c s ≡ false → PlaceOf c cs s) → PlaceOf start (c ∷ cs) s
    by true here further =
        let e : place (c ∷ cs) s ≡ 0 = place_here c cs s here in
        record {
          set = c;
          found = subst (λ (x : ℕ). slice_get (c ∷ cs) x ≡ Some c) (sym e) refl;
          inside = here;
          out = subst (λ (x : ℕ). before_link start (c ∷ cs) x s ≡ false) (sym e) out;
          any = or_here (c s) (list_any (λ a. a s) cs) here;
        }
    by false gone further =
        let rest : PlaceOf c cs s = further gone in
        let e : place (c ∷ cs) s ≡ suc (place cs s) = place_later c cs s gone in
        record {
          set = rest.set;
          found = subst (λ (x : ℕ). slice_get (c ∷ cs) x ≡ Some rest.set) (sym e) rest.found;
          inside = rest.inside;
          out = subst (λ (x : ℕ). before_link start (c ∷ cs) x s ≡ false) (sym e) (shift (place cs s) rest.out);
          any = or_true (c s) (list_any (λ a. a s) cs) rest.any;
        }
      where
        shift : (x : ℕ) → before_link c cs x s ≡ false → before_link start (c ∷ cs) (suc x) s ≡ false
        shift zero h = h
        shift (suc x) h = h

-- what is not outside both of two sets is in one of them
in_either : (a b : Bool) → not (not a && not b) ≡ true → (a || b) ≡ true
in_either true b out = refl
in_either false true out = refl
in_either false false out = out

not_true_false : (a b : Bool) → (a ≡ true → not b ≡ true) → b ≡ true → a ≡ false
not_true_false true b f e = let h : not b ≡ true = f refl in cc
not_true_false false b f e = refl

module _ {d : DesignTree} {op : Operator} {g : Game} (region : StateSet) (levels : List Level) (exact : IsGameOf d op g)
    (fit : LevelsFit g region levels) where
  is_level : (k : ℕ) (l : Level) → slice_get levels k ≡ Some l → IsLevel g (level_before levels k) l
  is_level k l got =
      subst (λ (a : StateSet). IsLevel g a l) (level_before_is levels k) (level_at g nowhere levels fit.levels k l got)

  -- at a new state the operator fails, from the set of a chain before the one that holds it
  record FailsAt (k i : ℕ) (l : Level) (chain : List StateSet) (s : StateData) : Type 0 where
    fails : Fails d (level_before levels k) l.set
        (either (set_before chain (place chain s)) (level_before levels k)) l.goal i s
    any : list_any (λ a. a s) chain ≡ true

  fails_at : (k i : ℕ) (l : Level) (chain : List StateSet) (s : StateData) → slice_get levels k ≡ Some l →
      slice_get l.chains i ≡ Some chain → IsNew d levels k l s → FailsAt k i l chain s
  fails_at k i l chain s got got_chain new =
      let is = is_level k l got in
      let c : ChainFits g (level_before levels k) l i chain = is.chains i chain got_chain in
      let listed : IsAmong s g.states = exact.all s new.0.0 in
      let of : PlaceOf nowhere chain s = place_of nowhere chain s refl (c.ends s listed new.1 new.0.1) in
      let link = link_at (narrowed g (outside (level_before levels k))) (outside (level_before levels k))
      (outside l.set) l.goal i nowhere chain c.links (place chain s) of.set of.found in
      let less = get_below l.chains i chain got_chain in
      let many = is.count in
      let below : i < g.fairs = omega arith in
      let no : g.part (outside (level_before levels k)) (outside l.set)
      (common (outside (before_link nowhere chain (place chain s))) (outside (level_before levels k))) l.goal i s
      ≡ false =
      not_true_false _ (of.set s) (λ made. link.leads.within s listed (and_both _ (not (level_before levels k s)) made
      (not_true (level_before levels k s) new.1))) of.inside in
      record {
        fails = subst (λ (a : StateSet).
            Fails d (level_before levels k) l.set (either a (level_before levels k)) l.goal i s)
            (set_before_is chain (place chain s))
            (part_fails exact (level_before levels k) l.set
            (common (outside (before_link nowhere chain (place chain s))) (outside (level_before levels k)))
            (either (before_link nowhere chain (place chain s)) (level_before levels k))
            (λ t out. in_either (before_link nowhere chain (place chain s) t) (level_before levels k t) out) l.goal i s
            new.0.0 below no);
        any = of.any;
      }

  -- each level has a chain for the first condition
  record FirstChain (l : Level) : Type 0 where
    chain : List StateSet
    got : slice_get l.chains 0 ≡ Some chain

  first_chain : (k : ℕ) (l : Level) → slice_get levels k ≡ Some l → FirstChain l
  first_chain k l got =
      let is = is_level k l got in
      let many = is.count in
      let fairs = exact.fairs in
      let some : 0 < length (conditions d) = omega arith in
      let r = get_some l.chains 0 (omega arith) in
      record { chain = r.0; got = r.1 }

  pub meets_levels : MeetsLevels d levels
  meets_levels = record {
    goals = λ k l got. subst (λ (n : ℕ). l.goal < n) exact.goals (is_level k l got).goal;
    chains = λ k l got. (is_level k l got).count ∙ exact.fairs;
    e0 = λ k l got.
        let is = is_level k l got in (
          λ s here. (here.0, is.grows.within s (exact.all s here.0) here.1),
          (is.gains.state, ((exact.listed is.gains.state is.gains.listed, is.gains.with_it), is.gains.without_it)),
          λ i chain got_chain.
              let c : ChainFits g (level_before levels k) l i chain = is.chains i chain got_chain in (
                c.some,
                λ x set got_set.
                    let link = link_at (narrowed g (outside (level_before levels k))) (outside (level_before levels k))
                    (outside l.set) l.goal i nowhere chain c.links x set got_set in
                    let w : IsWithin g.states set l.set =
                    within_then (set_within (narrowed g (outside (level_before levels k)))
                    (outside (level_before levels k)) (outside l.set) l.goal i nowhere chain c.links x set got_set)
                    c.inside in
                    let grows : IsWithin g.states (set_before chain x) set =
                    subst (λ (a : StateSet). IsWithin g.states a set)
                    (set_before_is chain x) link.grows in (
                      λ s here. (here.0, grows.within s (exact.all s here.0) here.1),
                      λ s here. (here.0, w.within s (exact.all s here.0) here.1),
                    ),
              ),
        );
    e2 = λ k l s got new holds.
        let first = first_chain k l got in (fails_at k 0 l first.chain s got first.got new).fails.goal holds;
    e3 = λ k i l chain s got got_chain new. (fails_at k i l chain s got got_chain new).any;
    e4 = λ k l s got new. let first = first_chain k l got in
        (fails_at k 0 l first.chain s got first.got new).fails.step;
    e5 = λ k i l chain s got got_chain new. (fails_at k i l chain s got got_chain new).fails.wait;
  }

  last_is : (s : StateData) → IsState d s → last_level levels s ≡ outside region s
  last_is s valid =
      ap (λ (a : StateSet). a s) (sym (level_before_is levels (length levels)) ∙ last_level_is nowhere levels)
      ∙ fit.last.same s (exact.all s valid)

  pub first_lost : LeavesOut d region → E1 d levels
  first_lost out = (out.0, out.1, (out.2.0, last_is out.0 out.2.0 ∙ out.2.1))

  pub lost_first : E1 d levels → LeavesOut d region
  lost_first e1 = (e1.0, e1.1, (e1.2.0, sym (last_is e1.0 e1.2.0) ∙ e1.2.1))

  pub meets_environment : LeavesOut d region → MeetsEnvironment d levels
  meets_environment out = let m = meets_levels in record {
    goals = m.goals;
    chains = m.chains;
    e0 = m.e0;
    e1 = first_lost out;
    e2 = m.e2;
    e3 = m.e3;
    e4 = m.e4;
    e5 = m.e5;
  }
