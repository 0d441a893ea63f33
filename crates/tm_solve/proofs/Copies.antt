-- A copy has the levels that it was made of.
use Rattle.std.proofs.Common.{◌≡◌, true, List, [], ◌∷◌, map, refl, sym, ap, ◌∙◌, subst}
use Rattle.tm_dd.specs.declared.node.NodeId.{NodeId}
use Rattle.tm_sem.specs.Certificates.{Level}
use Rattle.tm_solve.specs.declared.iterates.Iterates.{Iterates}
use Rattle.tm_solve.specs.declared.iterates.LevelSet.{LevelSet}
use Rattle.tm_solve.specs.declared.iterates.Chain.{Chain}
use Rattle.tm_solve.specs.declared.iterates.Ranking.{Ranking}
use Rattle.tm_solve.specs.Sets.{StateSet}
use Rattle.tm_solve.specs.Ids.{Ids}
use Rattle.tm_solve.specs.Iterates.{Each, KnowsAll, KnowsChain, KnowsLevel, KnowsRanks, chain_sets, level_of, levels_of}
use Rattle.tm_solve.specs.Game.{Game}
use Rattle.tm_solve.specs.Levels.{LevelsFit}
use Rattle.tm_solve.specs.Begun.{IsBegun, IsCopy, PlainLevel, ids_of, plain_level}

-- a level of plain ids as sets, and that its ids are known
abbrev named : Ids → PlainLevel → Level
named ids p = record { goal = p.goal; set = ids.means p.set; chains = map (map ids.means) p.chains }

abbrev KnowsPlain : Ids → PlainLevel → Type 0
KnowsPlain ids p = ids.knows p.set × Each (Each ids.knows) p.chains

map_twice : {A B C : Type 0} (f : B → C) (h : A → B) (xs : List A) → map f (map h xs) ≡ map (λ x. f (h x)) xs
map_twice f h [] = refl
map_twice f h (x ∷ xs) = ap (λ l. f (h x) ∷ l) (map_twice f h xs)

map_each : {A B : Type 0} (f h : A → B) → ((x : A) → f x ≡ h x) → (xs : List A) → map f xs ≡ map h xs
map_each f h same [] = refl
map_each f h same (x ∷ xs) = ap (λ y. y ∷ map f xs) (same x) ∙ ap (λ l. h x ∷ l) (map_each f h same xs)

each_seen : {A B : Type 0} (P : A → Type 0) (Q : B → Type 0) (f : A → B) → ((x : A) → P x → Q (f x)) → (xs : List A) →
    Each P xs → Each Q (map f xs)
each_seen P Q f step [] e = tt
each_seen P Q f step (x ∷ xs) e = (step x e.0, each_seen P Q f step xs e.1)

each_back : {A B : Type 0} (P : A → Type 0) (Q : B → Type 0) (f : A → B) → ((x : A) → Q (f x) → P x) → (xs : List A) →
    Each Q (map f xs) → Each P xs
each_back P Q f step [] e = tt
each_back P Q f step (x ∷ xs) e = (step x e.0, each_back P Q f step xs e.1)

module _ (ids : Ids) where
  level_named : (l : LevelSet) → level_of ids l ≡ named ids (plain_level l)
  level_named l =
      ap (λ (m : List (List StateSet)). let x : Level = record { goal = l.goal; set = ids.means l.set; chains = m } in
      x) (sym (map_twice (map ids.means) ids_of l.chains.items))

  levels_named : (ls : List LevelSet) → map (level_of ids) ls ≡ map (named ids) (map plain_level ls)
  levels_named ls =
      map_each (level_of ids) (λ l. named ids (plain_level l)) level_named ls
      ∙ sym (map_twice (named ids) plain_level ls)

  plain_known : (l : LevelSet) → KnowsLevel ids l → KnowsPlain ids (plain_level l)
  plain_known l k =
      (k.0, each_seen (KnowsChain ids) (Each ids.knows) ids_of (λ (c : Chain) h. h) l.chains.items k.1)

  known_plain : (l : LevelSet) → KnowsPlain ids (plain_level l) → KnowsLevel ids l
  known_plain l k =
      (k.0, each_back (KnowsChain ids) (Each ids.knows) ids_of (λ (c : Chain) h. h) l.chains.items k.1)

  module _ (it copy : Iterates) (is : IsCopy it copy) where
    pub copy_levels : levels_of ids copy ≡ levels_of ids it
    copy_levels =
        levels_named copy.levels.items ∙ ap (map (named ids)) is.levels ∙ sym (levels_named it.levels.items)

    pub copy_known : KnowsAll ids it → KnowsAll ids copy
    copy_known k = record {
      region = subst ids.knows (sym is.region) k.region;
      ranks = subst (λ (l : List Ranking). Each (λ (r : Ranking). KnowsRanks ids r.sets.items) l) (sym is.ranks) tt;
      levels = each_back (KnowsLevel ids) (KnowsPlain ids) plain_level known_plain copy.levels.items
          (subst (λ (l : List PlainLevel). Each (KnowsPlain ids) l) (sym is.levels)
          (each_seen (KnowsLevel ids) (KnowsPlain ids) plain_level plain_known it.levels.items k.levels));
    }

    -- from a copy a solution may go on wherever it may from what was copied
    pub copy_begun : (g : Game) → IsBegun g ids it → IsBegun g ids copy
    copy_begun g begun = record {
      known = copy_known begun.known;
      above = λ s among here. subst (λ (id : NodeId). ids.means id s ≡ true) (sym is.region) (begun.above s among here);
      levels = subst (λ (ls : List Level). LevelsFit g (ids.means copy.region) ls) (sym copy_levels)
          (subst (λ (id : NodeId). LevelsFit g (ids.means id) (levels_of ids it)) (sym is.region) begun.levels);
    }
