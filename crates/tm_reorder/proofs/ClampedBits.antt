-- The bits of a number, clamped one behind the other, and those of numbers one behind the other.
use Rattle.std.proofs.Common.{◌≡◌, ◌⊎◌, inl, inr, ℕ, zero, suc, ◌+◌, ◌-◌, ◌/◌, ◌%◌, ◌^◌, ◌<◌, ◌≤◌, Bool, true, false, if◌then◌else◌, List, [], ◌∷◌, ◌++◌, length, map, drop, get_or, slice_get, Some, refl, sym, ap, ◌∙◌, subst, true≢false, arith}
use Rattle.std.specs.Prelude.{◌==◌, ⊤, All, sum_by}
use Rattle.std.specs.List.{range_with_len}
use Rattle.std.proofs.lemmas.List.{drop_more, length_push}
use Rattle.std.proofs.lemmas.List.FromFn.{length-map-range_with_len}
use Rattle.std.proofs.lemmas.List.Sums.{sum_by-cons}
use Rattle.std.proofs.lemmas.Option.{get_or_from_slice_get, none-some, slice_get_within}
use Rattle.tm_base.specs.Bits.{bits_of, number_of}
use Rattle.tm_base.proofs.NumberBits.{number_is_its_bits}
use Rattle.tm_dd.specs.declared.node.NodeId.{NodeId}
use Rattle.tm_dd.specs.declared.node.TheConstants.{FALSE, TRUE}
use Rattle.tm_dd.specs.Reduced.{Extends}
use Rattle.tm_dd.specs.Table.{Table, Knows, means}
use Rattle.tm_dd.proofs.CallerLaws.{Extends-refl, Extends-trans, means-FALSE, means-TRUE}
use Rattle.tm_ddops.specs.Manager.{IsFunction}
use Rattle.tm_game_bits.proofs.Numbers.{number_below}
use Rattle.tm_numbering.proofs.Items.{get_more}
use Rattle.tm_reorder.specs.declared.fields.Field.{Field}
use Rattle.tm_reorder.specs.Inner.Clamped.{AreBits, AreClamped, ArePushed, AreRight, AreWithin, HavePlaces, IsOneMore, IsWithin, by_place}

length-bits_of : (w n : ℕ) → length (bits_of w n) ≡ w
length-bits_of zero n = refl
length-bits_of (suc w) n = omega (arith, length-bits_of w n)

-- ---- one bit
-- a number that is at most another: where the other has a 0 first, so has it; and if it has each 1 that the other has,
-- what is left of it is at most what is left of the other
same_power : (bs ls : List Bool) → length bs ≡ length ls → 2 ^ length bs ≡ 2 ^ length ls
same_power bs ls long = ap (λ (k : ℕ). 2 ^ k) long

first_bits : (one b : Bool) (bs ls : List Bool) → length bs ≡ length ls → number_of (b ∷ bs) ≤ number_of (one ∷ ls) →
    (one ≡ false → b ≡ false) × ((one ≡ true → b ≡ true) → number_of bs ≤ number_of ls)
first_bits true true bs ls long most =
    (λ is. is, λ both. let power = same_power bs ls long in omega (arith, power, most))
first_bits true false bs ls long most = (λ is. refl, λ both. absurd (true≢false (sym (both refl))))
first_bits false true bs ls long most =
    absurd (let power = same_power bs ls long in omega (arith, power, most, number_below ls))
first_bits false false bs ls long most = (λ is. refl, λ both. omega (arith, most))

-- the clamped bit is the bit
bit_right : (one m b : Bool) → (m ≡ true → one ≡ false → b ≡ false) →
    (if one then b else (if m then false else b)) ≡ b
bit_right true m b none = refl
bit_right false true b none = sym (none refl refl)
bit_right false false b none = refl

still_tight : (one m b : Bool) → (if one then (if m then b else false) else m) ≡ true →
    (m ≡ true) × (one ≡ true → b ≡ true)
still_tight true true b is = (refl, λ one. is)
still_tight true false b is = absurd (true≢false (sym is))
still_tight false m b is = (is, λ one. absurd (true≢false (sym one)))

-- ---- diagrams of bits
-- the level that is read for a place is one
pub level_below : (levels : List ℕ) (count many k : ℕ) → All (λ l. l < count) levels → many ≡ count →
    k < length levels → get_or levels k 0 < many
level_below levels count many k below same within =
    let low = below k 0 within in
    omega (arith, low, same)

either_bit : (b : Bool) → (if b then true else false) ≡ b
either_bit true = refl
either_bit false = refl

pub bit_is : (t : Table) (level : ℕ) (id : NodeId) →
    IsFunction t id (λ v. if v level then means t TRUE v else means t FALSE v) → IsFunction t id (λ v. v level)
bit_is t level id is = record {
  known = is.known;
  meaning = λ v.
      is.meaning v ∙ (λ i. if v level then means-TRUE t v i else means-FALSE t v i) ∙ either_bit (v level);
}

module _ (s t : Table) (one : Bool) (tight bit id : NodeId) (grows : Extends s t) (tight_known : Knows s tight)
    (bit_known : Knows s bit) where
  pub clamped_is : one ≡ false →
      IsFunction t id (λ v. if means t tight v then means t FALSE v else means t bit v) →
      IsFunction t id (λ v. if one then means s bit v else (if means s tight v then false else means s bit v))
  clamped_is unset is = record {
    known = is.known;
    meaning = λ v.
        is.meaning v
        ∙ (λ i. if grows.same_meaning tight tight_known v i then means-FALSE t v i
        else grows.same_meaning bit bit_known v i)
        ∙ ap (λ (b : Bool). if b then means s bit v else (if means s tight v then false else means s bit v))
        (sym unset);
  }

  pub tightened_is : one ≡ true →
      IsFunction t id (λ v. if means t tight v then means t bit v else means t FALSE v) →
      IsFunction t id (λ v. if one then (if means s tight v then means s bit v else false) else means s tight v)
  tightened_is set is = record {
    known = is.known;
    meaning = λ v.
        is.meaning v
        ∙ (λ i. if grows.same_meaning tight tight_known v i then grows.same_meaning bit bit_known v i
        else means-FALSE t v i)
        ∙ ap (λ (b : Bool). if b then (if means s tight v then means s bit v else false) else means s tight v)
        (sym set);
  }

-- a bit that was made, clamped and put behind others
pub one_clamped : (s t u w : Table) (level : ℕ) (one : Bool) (tight bit next here : NodeId)
    (before after : List NodeId) → Extends s t → Extends t u → Extends u w → Knows s tight →
    IsFunction t bit (λ v. v level) →
    IsFunction u next (λ v. if one then (if means t tight v then means t bit v else false) else means t tight v) →
    IsFunction w here (λ v. if one then means u bit v else (if means u tight v then false else means u bit v)) →
    after ≡ before ++ here ∷ [] → IsOneMore s w level one tight before after next
one_clamped s t u w level one tight bit next here before after first second third known bit_is next_is here_is items =
    record {
      id = here;
      items = items;
      here = record {
        known = here_is.known;
        meaning = λ v.
            here_is.meaning v
            ∙ (λ i. if one then bit_later v i else (if tight_later v i then false else bit_later v i));
      };
      further = record {
        known = omega (arith, third.rises, next_is.known);
        meaning = λ v.
            third.same_meaning next next_is.known v
            ∙ next_is.meaning v
            ∙ (λ i. if one then (if first.same_meaning tight known v i then bit_is.meaning v i else false)
            else first.same_meaning tight known v i);
      };
    }
  where
    bit_later : (v : ℕ → Bool) → means u bit v ≡ v level
    bit_later v = second.same_meaning bit bit_is.known v ∙ bit_is.meaning v

    tight_later : (v : ℕ → Bool) → means u tight v ≡ means s tight v
    tight_later v =
        second.same_meaning tight (omega (arith, first.rises, known)) v ∙ first.same_meaning tight known v

-- ---- the bits of a number
-- what is left of a number is at most what is left of the last value
abbrev IsLeft : Field → (ℕ → Bool) → ℕ → ℕ → Type 0
IsLeft f values place left = number_of (map values (range_with_len place left)) ≤ number_of (bits_of left f.last)

-- so many bits of a number are put behind others, and right where the number is within its field; `tight` is where they
-- are 1 as those of the last value are, and there what is left is at most what is left of this
pub record AreSoFar (s t : Table) (levels : List ℕ) (f : Field) (before now : List NodeId) (done : ℕ) (tight : NodeId) :
    Type 0 where
  pub extends : Extends s t
  pub count : length now ≡ length before + done
  pub known : AreBits t now
  pub tight_known : Knows t tight
  pub right : (v : ℕ → Bool) → AreRight s levels before v → IsWithin f (by_place levels v) (length before) →
      AreRight t levels now v
  pub left : (v : ℕ → Bool) → IsWithin f (by_place levels v) (length before) → means t tight v ≡ true →
      number_of (map (by_place levels v) (range_with_len (length now) (f.width - done)))
      ≤ number_of (bits_of (f.width - done) f.last)

-- what is known and right stays so where nodes are added
stay_known : (s t : Table) (bits : List NodeId) → Extends s t → AreBits s bits → AreBits t bits
stay_known s t bits grows known place id is = omega (arith, grows.rises, known place id is)

stay_right : (s t : Table) (levels : List ℕ) (bits : List NodeId) (v : ℕ → Bool) → Extends s t → AreBits s bits →
    AreRight s levels bits v → AreRight t levels bits v
stay_right s t levels bits v grows known right place id is =
    grows.same_meaning id (known place id is) v ∙ right place id is

-- one more bit is known, and right
more_known : (t : Table) (now later : List NodeId) (x : NodeId) → later ≡ now ++ x ∷ [] → AreBits t now → Knows t x →
    AreBits t later
more_known t now later x items known here place id is =
    by (get_more now x place id (ap (λ (ids : List NodeId). slice_get ids place) (sym items) ∙ is))
  where
    by : (slice_get now place ≡ Some id) ⊎ ((place ≡ length now) × (x ≡ id)) → Knows t id
    by (inl p) = known place id p
    by (inr p) = subst (Knows t) p.1 here

more_right : (t : Table) (levels : List ℕ) (now later : List NodeId) (x : NodeId) (v : ℕ → Bool) →
    later ≡ now ++ x ∷ [] → AreRight t levels now v → means t x v ≡ by_place levels v (length now) →
    AreRight t levels later v
more_right t levels now later x v items right here place id is =
    by (get_more now x place id (ap (λ (ids : List NodeId). slice_get ids place) (sym items) ∙ is))
  where
    by : (slice_get now place ≡ Some id) ⊎ ((place ≡ length now) × (x ≡ id)) → means t id v ≡ by_place levels v place
    by (inl p) = right place id p
    by (inr p) =
        subst (λ (y : NodeId). means t y v ≡ by_place levels v place) p.1 (here ∙ ap (by_place levels v) (sym p.0))

module _ (s : Table) (levels : List ℕ) (f : Field) (before : List NodeId) where
  -- no bit yet
  pub begun : (fit : f.last < 2 ^ f.width) → AreBits s before → AreSoFar s s levels f before before 0 TRUE
  begun fit known = record {
    extends = Extends-refl s;
    count = omega arith;
    known = known;
    tight_known = omega arith;
    right = λ v right within. right;
    left = λ v within tight. left v within;
  }
    where
      left : (v : ℕ → Bool) → IsWithin f (by_place levels v) (length before) →
          IsLeft f (by_place levels v) (length before) (f.width - 0)
      left v within =
          let all : f.width ≡ f.width - 0 = omega arith in
          subst (IsLeft f (by_place levels v) (length before)) all
          (let last = number_is_its_bits f.width f.last fit in omega (arith, within, last))

  module _ (t : Table) (now : List NodeId) (done : ℕ) (tight : NodeId)
      (are : AreSoFar s t levels f before now done tight) (below : done < f.width) where
    abbrev weight : ℕ
    weight = f.width - 1 - done

    -- what the bits that are left say of the first of them
    first_left : (v : ℕ → Bool) → IsWithin f (by_place levels v) (length before) → means t tight v ≡ true →
        (one : Bool) → one ≡ (f.last / 2 ^ weight % 2 == 1) → (later : ℕ) → later ≡ length now + 1 →
        (one ≡ false → by_place levels v (length now) ≡ false)
        × ((one ≡ true → by_place levels v (length now) ≡ true) →
        IsLeft f (by_place levels v) later (f.width - (done + 1)))
    first_left v within is one one_is later later_is =
        let values = by_place levels v in
        let more : f.width - done ≡ suc weight = omega (arith, below) in
        let less : weight ≡ f.width - (done + 1) = omega (arith, below) in
        let all : number_of (values (length now) ∷ map values (range_with_len (length now + 1) weight))
        ≤ number_of ((f.last / 2 ^ weight % 2 == 1) ∷ bits_of weight f.last) =
        subst (λ (n : ℕ). number_of (map (by_place levels v) (range_with_len (length now) n))
        ≤ number_of (bits_of n f.last)) more (are.left v within is) in
        let long : length (map values (range_with_len (length now + 1) weight)) ≡ length (bits_of weight f.last) =
        length-map-range_with_len values (length now + 1) weight ∙ sym (length-bits_of weight f.last) in
        let parts = first_bits one (values (length now)) (map values (range_with_len (length now + 1) weight))
        (bits_of weight f.last) long
        (subst (λ (x : Bool). number_of (values (length now) ∷ map values (range_with_len (length now + 1) weight))
        ≤ number_of (x ∷ bits_of weight f.last)) (sym one_is) all) in (
          parts.0,
          λ both.
              subst (λ (p : ℕ). IsLeft f values p (f.width - (done + 1))) (sym later_is)
              (subst (IsLeft f values (length now + 1)) less (parts.1 both)),
        )

    -- one more bit
    pub one_more : (u : Table) (level : ℕ) (one : Bool) (later : List NodeId) (next : NodeId) → Extends t u →
        level ≡ get_or levels (length now) 0 → one ≡ (f.last / 2 ^ weight % 2 == 1) →
        IsOneMore t u level one tight now later next → AreSoFar s u levels f before later (done + 1) next
    one_more u level one later next grows level_is one_is more = record {
      extends = Extends-trans s t u are.extends grows;
      count = omega (arith, long, are.count);
      known = more_known u now later more.id more.items (stay_known t u now grows are.known) more.here.known;
      tight_known = more.further.known;
      right = λ v right within.
          more_right u levels now later more.id v more.items
          (stay_right t u levels now v grows are.known (are.right v right within))
          (more.here.meaning v
          ∙ bit_right one (means t tight v) (v level)
          (λ is unset. value v ∙ (first_left v within is one one_is (length now + 1) refl).0 unset)
          ∙ value v);
      left = λ v within is.
          let still = still_tight one (means t tight v) (v level) (sym (more.further.meaning v) ∙ is) in
          (first_left v within still.0 one one_is (length later) long).1 (λ set. sym (value v) ∙ still.1 set);
    }
      where
        long : length later ≡ length now + 1
        long = ap (λ (ids : List NodeId). length ids) more.items ∙ length_push now more.id

        value : (v : ℕ → Bool) → v level ≡ by_place levels v (length now)
        value v = ap v level_is

  -- all bits
  pub pushed : (t : Table) (now : List NodeId) (done : ℕ) (tight : NodeId) → done ≡ f.width →
      AreSoFar s t levels f before now done tight →
      ArePushed s t levels f.width (λ v. IsWithin f (by_place levels v) (length before)) before now
  pushed t now done tight all are = record {
    count = omega (arith, are.count, all);
    known = are.known;
    right = are.right;
  }

-- ---- bits that are the values of their levels
module _ (s : Table) (levels : List ℕ) (before : List NodeId) where
  pub none_pushed : AreBits s before → ArePushed s s levels 0 (λ v. ⊤) before before
  none_pushed known = record { count = omega arith; known = known; right = λ v right such. right }

  pub one_pushed : (t u : Table) (now later : List NodeId) (done level : ℕ) (id : NodeId) → Extends t u →
      ArePushed s t levels done (λ v. ⊤) before now → level ≡ get_or levels (length now) 0 →
      IsFunction u id (λ v. v level) → later ≡ now ++ id ∷ [] →
      ArePushed s u levels (done + 1) (λ v. ⊤) before later
  one_pushed t u now later done level id grows are level_is is items = record {
    count =
        let long = length_push now id in
        omega (arith, ap (λ (ids : List NodeId). length ids) items, long, are.count);
    known = more_known u now later id items (stay_known t u now grows are.known) is.known;
    right = λ v right such.
        more_right u levels now later id v items
        (stay_right t u levels now v grows are.known (are.right v right such)) (is.meaning v ∙ ap v level_is);
  }

-- such bits are right whatever is asked of the values
pub pushed_such : (s t : Table) (levels : List ℕ) (count many : ℕ) (IsSuch : (ℕ → Bool) → Type 0)
    (before after : List NodeId) → many ≡ count → ArePushed s t levels many (λ v. ⊤) before after →
    ArePushed s t levels count IsSuch before after
pushed_such s t levels count many IsSuch before after same are = record {
  count = omega (arith, are.count, same);
  known = are.known;
  right = λ v right such. are.right v right tt;
}

-- ---- numbers one behind the other
-- the bits of the first so many numbers
pub record AreFirst (s t : Table) (levels : List ℕ) (fields : List Field) (done : ℕ) (bits : List NodeId) :
    Type 0 where
  pub extends : Extends s t
  pub known : AreBits t bits
  pub room : length bits + sum_by (λ (f : Field). f.width) (drop done fields) ≤ length levels
  pub right : (v : ℕ → Bool) → AreWithin fields (by_place levels v) 0 → AreRight t levels bits v
  pub left : (v : ℕ → Bool) → AreWithin fields (by_place levels v) 0 →
      AreWithin (drop done fields) (by_place levels v) (length bits)

module _ (s : Table) (levels : List ℕ) (fields : List Field) (have : HavePlaces (length levels) fields) where
  pub none_first : AreFirst s s levels fields 0 []
  none_first = record {
    extends = Extends-refl s;
    known = λ place id is. absurd (none-some id is);
    room = omega (arith, have.room);
    right = λ v within place id is. absurd (none-some id is);
    left = λ v within. within;
  }

  module _ (t : Table) (done : ℕ) (bits : List NodeId) (f : Field) (are : AreFirst s t levels fields done bits)
      (at : slice_get fields done ≡ Some f) where
    there : drop done fields ≡ f ∷ drop (done + 1) fields
    there =
        let within = slice_get_within fields done f at in
        drop_more fields done f within
        ∙ ap (λ (x : Field). x ∷ drop (done + 1) fields) (get_or_from_slice_get fields done f f at)

    pub room_here : length bits + f.width ≤ length levels
    room_here =
        let all = sum_by-cons (λ (x : Field). x.width) f (drop (done + 1) fields) in
        let same = ap (sum_by (λ (x : Field). x.width)) there in
        omega (arith, are.room, all, same)

    pub one_first : (u : Table) (later : List NodeId) → Extends t u →
        ArePushed t u levels f.width (λ v. IsWithin f (by_place levels v) (length bits)) bits later →
        AreFirst s u levels fields (done + 1) later
    one_first u later grows more = record {
      extends = Extends-trans s t u are.extends grows;
      known = more.known;
      room =
          let all = sum_by-cons (λ (x : Field). x.width) f (drop (done + 1) fields) in
          let same = ap (sum_by (λ (x : Field). x.width)) there in
          omega (arith, are.room, all, same, more.count);
      right = λ v within. more.right v (are.right v within) (parts v within).0;
      left = λ v within.
          subst (AreWithin (drop (done + 1) fields) (by_place levels v)) (sym more.count) (parts v within).1;
    }
      where
        parts : (v : ℕ → Bool) → AreWithin fields (by_place levels v) 0 →
            AreWithin (f ∷ drop (done + 1) fields) (by_place levels v) (length bits)
        parts v within =
            subst (λ (fs : List Field). AreWithin fs (by_place levels v) (length bits)) there (are.left v within)

  -- those of all places
  pub all_clamped : (t u : Table) (done rest : ℕ) (bits later : List NodeId) → Extends t u →
      AreFirst s t levels fields done bits → rest ≡ length levels - length bits →
      ArePushed t u levels rest (λ v. ⊤) bits later → AreClamped u levels fields later
  all_clamped t u done rest bits later grows are rest_is more = record {
    count = omega (arith, more.count, rest_is, are.room);
    known = more.known;
    right = λ v within. more.right v (are.right v within) tt;
  }
