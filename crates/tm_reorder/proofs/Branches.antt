-- Entries that are put behind others, and the parts of sets where a level is raised.
use Rattle.std.proofs.Common.{◌≡◌, ◌⊎◌, inl, inr, ℕ, zero, suc, ◌+◌, ◌<◌, Bool, true, false, if◌then◌else◌, eqb, List, [], ◌∷◌, ◌++◌, length, fold, get_or, slice_get, Some, refl, sym, ap, ◌∙◌, subst, arith}
use Rattle.std.specs.List.{list_any}
use Rattle.std.specs.Prelude.{All}
use Rattle.std.proofs.lemmas.Bool.{and_parts, eqb-true}
use Rattle.std.proofs.lemmas.List.{get_or_append_left, get_or_at, length_push, length-take-le}
use Rattle.std.proofs.lemmas.List.Sums.{fold_push}
use Rattle.std.proofs.lemmas.Option.{get_or_from_slice_get, none-some, same_Some, slice_get-get_or, slice_get_within}
use Rattle.indexmap.specs.IndexSet.{insert_key}
use Rattle.tm_cert.specs.declared.cert.Entry.{Entry}
use Rattle.tm_cert.specs.Nodes.{ids_of, same_entry}
use Rattle.tm_numbering.proofs.Items.{get_more, get_some}
use Rattle.tm_reorder.specs.Inner.Raised.{AreBranches, AreBranchesOf, ArePart, AreParts, AreRaised, IsBranch, IsBranchOf, Keeps}
use Rattle.tm_reorder.specs.Inner.Told.{IsTold}
use Rattle.tm_verdict.specs.Fitting.{AreNodes}
use Rattle.tm_verdict.specs.Sets.{entry_value, id_holds, values_of}
use Rattle.tm_verdict.proofs.Values.{always_holds, entry_holds, never_holds}

-- ---- the values of one more entry
-- there is a value for each id
length_from : (v : ℕ → Bool) (es : List Entry) (first : List Bool) →
    length (fold (λ earlier e. earlier ++ entry_value v earlier e ∷ []) first es) ≡ length first + length es
length_from v [] first = omega arith
length_from v (e ∷ es) first =
    let x = entry_value v first e in
    let rest = length_from v es (first ++ x ∷ []) in
    omega (arith, rest, length_push first x)

length_values : (nodes : List Entry) (v : ℕ → Bool) → length (values_of nodes v) ≡ ids_of nodes
unfolding values_of
length_values nodes v = let all = length_from v nodes (false ∷ true ∷ []) in omega (arith, all)

values_more : (nodes : List Entry) (e : Entry) (v : ℕ → Bool) →
    values_of (nodes ++ e ∷ []) v ≡ values_of nodes v ++ entry_value v (values_of nodes v) e ∷ []
unfolding values_of
values_more nodes e v =
    fold_push (λ earlier x. earlier ++ entry_value v earlier x ∷ []) (false ∷ true ∷ []) nodes e

-- the child that the bit of a level chooses
picked : (b : Bool) (values : List Bool) (lo hi : ℕ) →
    get_or values (if b then hi else lo) false ≡ (if b then get_or values hi false else get_or values lo false)
picked true values lo hi = refl
picked false values lo hi = refl

holds_kept : (nodes : List Entry) (e : Entry) (id : ℕ) (v : ℕ → Bool) → id < ids_of nodes →
    id_holds (nodes ++ e ∷ []) id v ≡ id_holds nodes id v
unfolding id_holds
holds_kept nodes e id v below =
    ap (λ values. get_or values id false) (values_more nodes e v)
    ∙ get_or_append_left (values_of nodes v) (entry_value v (values_of nodes v) e ∷ []) false id
    (omega (arith, length_values nodes v, below))

holds_last : (nodes : List Entry) (e : Entry) (v : ℕ → Bool) →
    id_holds (nodes ++ e ∷ []) (length nodes + 2) v
    ≡ (if v e.level then id_holds nodes e.hi v else id_holds nodes e.lo v)
unfolding id_holds
holds_last nodes e v =
    ap (λ values. get_or values (length nodes + 2) false) (values_more nodes e v)
    ∙ get_or_at (values_of nodes v) (entry_value v (values_of nodes v) e) [] false (length nodes + 2)
    (length_values nodes v)
    ∙ picked (v e.level) (values_of nodes v) e.lo e.hi

-- ---- entries keep what their ids hold
pub keeps_all : (nodes : List Entry) → Keeps nodes nodes
keeps_all nodes = record { rises = omega arith; same = λ id below v. refl }

pub keeps_then : (one two three : List Entry) → Keeps one two → Keeps two three → Keeps one three
keeps_then one two three first then_second = record {
  rises = omega (arith, first.rises, then_second.rises);
  same = λ id below v.
      then_second.same id (omega (arith, below, first.rises)) v ∙ first.same id below v;
}

-- branches with equal values have one value under each test
same_branch : (b : Bool) {x y z w : Bool} → x ≡ z → y ≡ w → (if b then x else y) ≡ (if b then z else w)
same_branch true one other = one
same_branch false one other = other

one_value : (b x : Bool) → x ≡ (if b then x else x)
one_value true x = refl
one_value false x = refl

-- equal entries are one
same_entry_is : (one other : Entry) → same_entry one other ≡ true → one ≡ other
same_entry_is one other same =
    let first = and_parts (eqb one.level other.level) _ same in
    let rest = and_parts (eqb one.lo other.lo) (eqb one.hi other.hi) first.1 in
    let level = eqb-true one.level other.level first.0 in
    let lo = eqb-true one.lo other.lo rest.0 in
    let hi = eqb-true one.hi other.hi rest.1 in
    (λ i. record { level = level i; lo = lo i; hi = hi i })

-- an entry is put behind others
module _ (nodes : List Entry) (e : Entry) (lo : e.lo < ids_of nodes) (hi : e.hi < ids_of nodes) where
  abbrev more : List Entry
  more = nodes ++ e ∷ []

  pub keeps_more : Keeps nodes more
  keeps_more = record {
    rises = omega (arith, length_push nodes e);
    same = λ id below v. holds_kept nodes e id v below;
  }

  pub branches_more : AreBranches nodes → AreBranches more
  branches_more are k x at = each (get_more nodes e k x at)
    where
      each : (slice_get nodes k ≡ Some x) ⊎ ((k ≡ length nodes) × (e ≡ x)) → IsBranch more k x
      each (inl p) =
          let is = are k x p in
          let within = slice_get_within nodes k x p in
          record {
            lo_before = is.lo_before;
            hi_before = is.hi_before;
            holds = λ v.
                holds_kept nodes e (k + 2) v (omega (arith, within))
                ∙ is.holds v
                ∙ same_branch (v x.level) (sym (holds_kept nodes e x.hi v (omega (arith, within, is.hi_before))))
                (sym (holds_kept nodes e x.lo v (omega (arith, within, is.lo_before))));
          }
      each (inr p) =
          subst (IsBranch more k) p.1 (subst (λ (n : ℕ). IsBranch more n e) (sym p.0) (record {
            lo_before = lo;
            hi_before = hi;
            holds = λ v.
                holds_last nodes e v
                ∙ same_branch (v e.level) (sym (holds_kept nodes e e.hi v hi)) (sym (holds_kept nodes e e.lo v lo));
          }))

  -- the set of entries takes it, where it is not there
  abbrev taken : List Entry
  taken = insert_key same_entry nodes e

  pub keeps_taken : Keeps nodes taken
  keeps_taken = elim (list_any (same_entry e) nodes) as (λ b. Keeps nodes (if b then nodes else more)) [
    | true ↦ keeps_all nodes
    | false ↦ keeps_more
  ]

  pub branches_taken : AreBranches nodes → AreBranches taken
  branches_taken are = elim (list_any (same_entry e) nodes) as (λ b. AreBranches (if b then nodes else more)) [
    | true ↦ are
    | false ↦ branches_more are
  ]

  -- the id of the entry that the set has for it
  pub branch_taken : (after : List Entry) (position : ℕ) (x : Entry) → AreBranches after → Keeps nodes after →
      slice_get after position ≡ Some x → same_entry e x ≡ true →
      IsBranchOf nodes after e.level e.lo e.hi (position + 2)
  branch_taken after position x are keeps at same =
      let here = subst (λ (y : Entry). slice_get after position ≡ Some y) (sym (same_entry_is e x same)) at in
      record {
        within = let low = slice_get_within after position e here in omega (arith, low);
        holds = λ v.
            (are position e here).holds v ∙ same_branch (v e.level) (keeps.same e.hi hi v) (keeps.same e.lo lo v);
      }

-- the entries of a certificate
pub nodes_are_branches : (count : ℕ) (nodes : List Entry) → AreNodes count nodes → AreBranches nodes
nodes_are_branches count nodes are k e at =
    let node = are k e at in
    let within = slice_get_within nodes k e at in
    let long = length-take-le k nodes (omega (arith, within)) in
    record {
      lo_before = omega (arith, node.lo_before, long);
      hi_before = omega (arith, node.hi_before, long);
      holds = λ v. entry_holds count k nodes e v are at;
    }

-- ---- parts
pub told_kept : (old one two : List Entry) (k n : ℕ) → Keeps one two → IsTold (λ v. v) old one k n →
    IsTold (λ v. v) old two k n
told_kept old one two k n keeps told = record {
  within = omega (arith, told.within, keeps.rises);
  same = λ v. keeps.same n told.within v ∙ told.same v;
}

pub part_kept : (old one two : List Entry) (level id : ℕ) (part : ℕ × ℕ) → Keeps one two →
    ArePart old one level id part → ArePart old two level id part
part_kept old one two level id part keeps is = record {
  off_within = omega (arith, is.off_within, keeps.rises);
  on_within = omega (arith, is.on_within, keeps.rises);
  holds = λ v.
      is.holds v
      ∙ same_branch (v level) (sym (keeps.same part.1 is.on_within v)) (sym (keeps.same part.0 is.off_within v));
}

pub parts_kept : (old one two : List Entry) (level done : ℕ) (parts : List (ℕ × ℕ)) → Keeps one two →
    AreParts old one level done parts → AreParts old two level done parts
parts_kept old one two level done parts keeps are = record {
  count = are.count;
  each = λ id part at. part_kept old one two level id part keeps (are.each id part at);
}

-- an id that holds where an old one does is both parts of it
whole_part : (old new : List Entry) (level id whole : ℕ) → IsTold (λ v. v) old new id whole →
    ArePart old new level id (whole, whole)
whole_part old new level id whole told = record {
  off_within = told.within;
  on_within = told.within;
  holds = λ v. sym (told.same v) ∙ one_value (v level) (id_holds new whole v);
}

-- those of the constants
constant_told : (old new : List Entry) (n : ℕ) → n < 2 → IsTold (λ v. v) old new n n
constant_told old new zero below = record {
  within = omega arith;
  same = λ v. never_holds new v ∙ sym (never_holds old v);
}
constant_told old new (suc zero) below = record {
  within = omega arith;
  same = λ v. always_holds new v ∙ sym (always_holds old v);
}
constant_told old new (suc (suc n)) below = absurd (omega (arith, below))

pub parts_begun : (old new : List Entry) (level : ℕ) (parts : List (ℕ × ℕ)) → parts ≡ (0, 0) ∷ (1, 1) ∷ [] →
    AreParts old new level 0 parts
parts_begun old new level parts items =
    subst (AreParts old new level 0) (sym items) (record { count = refl; each = each })
  where
    each : (id : ℕ) (part : ℕ × ℕ) → slice_get ((0, 0) ∷ (1, 1) ∷ []) id ≡ Some part → ArePart old new level id part
    each zero part at =
        subst (ArePart old new level 0) (same_Some (0, 0) part at)
        (whole_part old new level 0 0 (constant_told old new 0 (omega arith)))
    each (suc zero) part at =
        subst (ArePart old new level 1) (same_Some (1, 1) part at)
        (whole_part old new level 1 1 (constant_told old new 1 (omega arith)))
    each (suc (suc id)) part at = absurd (none-some part at)

-- one more is made
pub parts_more : (old new : List Entry) (level done : ℕ) (parts later : List (ℕ × ℕ)) (part : ℕ × ℕ) →
    later ≡ parts ++ part ∷ [] → AreParts old new level done parts → ArePart old new level (done + 2) part →
    AreParts old new level (done + 1) later
parts_more old new level done parts later part items are last =
    subst (AreParts old new level (done + 1)) (sym items) (record {
      count = omega (arith, length_push parts part, are.count);
      each = λ id x at. each id x (get_more parts part id x at);
    })
  where
    each : (id : ℕ) (x : ℕ × ℕ) → (slice_get parts id ≡ Some x) ⊎ ((id ≡ length parts) × (part ≡ x)) →
        ArePart old new level id x
    each id x (inl p) = are.each id x p
    each id x (inr p) =
        let place : done + 2 ≡ id = omega (arith, are.count, p.0) in
        subst (λ (n : ℕ). ArePart old new level n x) place
        (subst (λ (y : ℕ × ℕ). ArePart old new level (done + 2) y) p.1 last)

-- the parts that are read at a number
pub part_at : (old new : List Entry) (level done : ℕ) (parts : List (ℕ × ℕ)) → AreParts old new level done parts →
    (id : ℕ) → id < length parts → ArePart old new level id (get_or parts id (0, 0))
part_at old new level done parts are id below =
    are.each id (get_or parts id (0, 0)) (slice_get-get_or parts id (0, 0) below)

-- a set from its parts
pub joined_told : (old one two : List Entry) (level id whole : ℕ) (part : ℕ × ℕ) → ArePart old one level id part →
    IsBranchOf one two level part.0 part.1 whole → IsTold (λ v. v) old two id whole
joined_told old one two level id whole part are made = record {
  within = made.within;
  same = λ v. made.holds v ∙ sym (are.holds v);
}

-- what the bit of one level chooses, and then that of another
own_value : (b : Bool) {h l : Bool} (h1 h0 l1 l0 : Bool) → h ≡ (if b then h1 else h0) → l ≡ (if b then l1 else l0) →
    (if b then h else l) ≡ (if b then h1 else l0)
own_value true h1 h0 l1 l0 hi lo = hi
own_value false h1 h0 l1 l0 hi lo = lo

other_value : (b c : Bool) {h l : Bool} (h1 h0 l1 l0 : Bool) → h ≡ (if b then h1 else h0) →
    l ≡ (if b then l1 else l0) → (if c then h else l) ≡ (if b then (if c then h1 else l1) else (if c then h0 else l0))
other_value true true h1 h0 l1 l0 hi lo = hi
other_value true false h1 h0 l1 l0 hi lo = lo
other_value false true h1 h0 l1 l0 hi lo = hi
other_value false false h1 h0 l1 l0 hi lo = lo

-- the parts of an entry from those of its children
module _ (old : List Entry) (level k : ℕ) (e : Entry) (branch : IsBranch old k e) where
  -- of the level itself the child that its bit chooses
  pub own_parts : (new : List Entry) (lo hi : ℕ × ℕ) → e.level ≡ level → ArePart old new level e.lo lo →
      ArePart old new level e.hi hi → ArePart old new level (k + 2) (lo.0, hi.1)
  own_parts new lo hi same lo_is hi_is = record {
    off_within = lo_is.off_within;
    on_within = hi_is.on_within;
    holds = λ v.
        branch.holds v
        ∙ ap (λ (n : ℕ). if v n then id_holds old e.hi v else id_holds old e.lo v) same
        ∙ own_value (v level) (id_holds new hi.1 v) (id_holds new hi.0 v) (id_holds new lo.1 v) (id_holds new lo.0 v)
        (hi_is.holds v) (lo_is.holds v);
  }

  -- of another level the branches over one part of each child
  pub other_parts : (one two : List Entry) (lo hi part : ℕ × ℕ) → ArePart old one level e.lo lo →
      ArePart old one level e.hi hi → AreBranchesOf one two e.level lo hi part → ArePart old two level (k + 2) part
  other_parts one two lo hi part lo_is hi_is made = record {
    off_within = made.off.within;
    on_within = made.on.within;
    holds = λ v.
        branch.holds v
        ∙ other_value (v level) (v e.level) (id_holds one hi.1 v) (id_holds one hi.0 v) (id_holds one lo.1 v)
        (id_holds one lo.0 v) (hi_is.holds v) (lo_is.holds v)
        ∙ same_branch (v level) (sym (made.on.holds v)) (sym (made.off.holds v));
  }

  -- the entry over its whole children
  whole_told : (one two : List Entry) (lo hi whole : ℕ) → IsTold (λ v. v) old one e.lo lo →
      IsTold (λ v. v) old one e.hi hi → IsBranchOf one two e.level lo hi whole →
      IsTold (λ v. v) old two (k + 2) whole
  whole_told one two lo hi whole lo_is hi_is made = record {
    within = made.within;
    same = λ v.
        made.holds v ∙ same_branch (v e.level) (hi_is.same v) (lo_is.same v) ∙ sym (branch.holds v);
  }

  pub kept_parts : (zeroth one two three : List Entry) (lo hi : ℕ × ℕ) (whole_lo whole_hi whole : ℕ) →
      ArePart old zeroth level e.lo lo → ArePart old zeroth level e.hi hi → Keeps zeroth one → Keeps one two →
      IsBranchOf zeroth one level lo.0 lo.1 whole_lo → IsBranchOf one two level hi.0 hi.1 whole_hi →
      IsBranchOf two three e.level whole_lo whole_hi whole → ArePart old three level (k + 2) (whole, whole)
  kept_parts zeroth one two three lo hi whole_lo whole_hi whole lo_is hi_is first next lo_made hi_made made =
      whole_part old three level (k + 2) whole
      (whole_told two three whole_lo whole_hi whole
      (told_kept old one two e.lo whole_lo next (joined_told old zeroth one level e.lo whole_lo lo lo_is lo_made))
      (joined_told old one two level e.hi whole_hi hi (part_kept old zeroth one level e.hi hi first hi_is) hi_made)
      made)

-- ---- sets that are raised
pub raised_then : (one two three : List Entry) (firsts seconds thirds : List ℕ) → AreRaised one firsts two seconds →
    AreRaised two seconds three thirds → AreRaised one firsts three thirds
raised_then one two three firsts seconds thirds first next = record {
  branches = next.branches;
  told = record {
    count = next.told.count ∙ first.told.count;
    each = λ i k n here there.
        let within = slice_get_within firsts i k here in
        let middle = get_some seconds i (omega (arith, first.told.count, within)) in
        let a = first.told.each i k middle.0 here middle.1 in
        let b = next.told.each i middle.0 n middle.1 there in
        record { within = b.within; same = λ v. b.same v ∙ a.same v };
  };
}

-- their ids are below the number of ids
pub raised_below : (old new : List Entry) (olds news : List ℕ) → AreRaised old olds new news →
    All (λ id. id < ids_of new) news
raised_below old new olds news are i d below =
    let old_id = get_some olds i (omega (arith, are.told.count, below)) in
    let new_id = get_some news i below in
    let told = are.told.each i old_id.0 new_id.0 old_id.1 new_id.1 in
    omega (arith, told.within, get_or_from_slice_get news i new_id.0 d new_id.1)
