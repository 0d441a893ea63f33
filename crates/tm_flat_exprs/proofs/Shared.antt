-- Lists in parts that copies share.
use Rattle.std.proofs.Common.{◌≡◌, ℕ, zero, suc, ◌+◌, ◌-◌, ◌*◌, ◌/◌, ◌%◌, ◌<◌, ◌≤◌, true, Option, Some, List, [], ◌∷◌, ◌++◌, All, length, take, refl, sym, ap, ◌∙◌, subst, arith, append_assoc, get_or, rules}
use Rattle.std.specs.Prelude.{slice_get}
use Rattle.std.specs.Cmp.Lexicographic.{pointwise}
use Rattle.std.specs.List.{AllZip, flat_map}
use Rattle.std.specs.declared.alloc.Global.{Global}
use Rattle.std.specs.declared.vec.Vec.{Vec}
use Rattle.std.proofs.lemmas.List.{length-append}
use Rattle.std.proofs.lemmas.List.Elements.{All-cons, All-head, All-tail}
use Rattle.std.proofs.lemmas.Option.{none-some, same_Some, slice_get-get_or, slice_get_within}
use Rattle.tm_flat_exprs.specs.contracts.memory.versions.VersionPartialEq.TheImpl.{eq-value}
use Rattle.tm_flat_exprs.specs.declared.memory.versions.Version.{Version}
use Rattle.tm_design.proofs.StepCells.{both_true}
use Rattle.tm_flat_exprs.specs.Inner.Shared.{HaveSame, IsFull, Part, all_versions, versions_in}

equal_version : (v w : Version) → eq-value.it v w ≡ true → v ≡ w
equal_version v w h = search rules

equal_versions : (xs ys : List Version) → pointwise eq-value.it xs ys ≡ true → xs ≡ ys
equal_versions [] [] h = refl
equal_versions [] (y ∷ ys) h = absurd (cc)
equal_versions (x ∷ xs) [] h = absurd (cc)
equal_versions (x ∷ xs) (y ∷ ys) h =
    let parts = both_true (eq-value.it x y) (pointwise eq-value.it xs ys) h in
    (λ i. equal_version x y parts.0 i ∷ equal_versions xs ys parts.1 i)

get_left : {X : Type 0} (xs ys : List X) (i : ℕ) → i < length xs → slice_get (xs ++ ys) i ≡ slice_get xs i
get_left [] ys i below = absurd (omega arith)
get_left (x ∷ xs) ys zero below = refl
get_left (x ∷ xs) ys (suc i) below = get_left xs ys i (omega (arith, below))

get_right : {X : Type 0} (xs ys : List X) (i k : ℕ) → i ≡ length xs + k → slice_get (xs ++ ys) i ≡ slice_get ys k
get_right [] ys i k is = let same : i ≡ k = omega (arith, is) in ap (slice_get ys) same
get_right (x ∷ xs) ys zero k is = absurd (omega (arith, is))
get_right (x ∷ xs) ys (suc i) k is = get_right xs ys i k (omega (arith, is))

part_at : (parts : List Part) (place : ℕ) (part : Part) → place < length parts → part ≡ get_or parts place part →
    slice_get parts place ≡ Some part
part_at parts place part below here = slice_get-get_or parts place part below ∙ ap Some (sym here)

-- what stands in a part
in_part : (parts : List Part) (last : List Version) (place index rest : ℕ) (part : Part) → All IsFull parts →
    slice_get parts place ≡ Some part → index ≡ place * 64 + rest → rest < 64 →
    slice_get (all_versions parts last) index ≡ slice_get (versions_in part) rest
in_part [] last place index rest part full at is below = absurd (none-some part at)
in_part (p ∷ ps) last zero index rest part full at is below =
    let same : p ≡ part = same_Some p part at in
    let long : length (versions_in p) ≡ 64 = All-head IsFull p ps full in
    let here : index ≡ rest = omega (arith, is) in
    get_left (versions_in p ++ flat_map versions_in ps) last index
    (omega (arith, long, below, here, length-append (versions_in p) (flat_map versions_in ps)))
    ∙ get_left (versions_in p) (flat_map versions_in ps) index (omega (arith, long, below, here))
    ∙ ap (slice_get (versions_in p)) here
    ∙ ap (λ (q : Part). slice_get (versions_in q) rest) same
in_part (p ∷ ps) last (suc place) index rest part full at is below =
    let long : length (versions_in p) ≡ 64 = All-head IsFull p ps full in
    ap (λ xs. slice_get xs index) (append_assoc (versions_in p) (flat_map versions_in ps) last)
    ∙ get_right (versions_in p) (all_versions ps last) index (place * 64 + rest) (omega (arith, long, is))
    ∙ in_part ps last place (place * 64 + rest) rest part (All-tail IsFull p ps full) at refl below

-- what stands behind the parts
behind_parts : (parts : List Part) (last : List Version) (index rest : ℕ) → All IsFull parts →
    index ≡ length parts * 64 + rest → slice_get (all_versions parts last) index ≡ slice_get last rest
behind_parts [] last index rest full is =
    let same : index ≡ rest = omega (arith, is) in ap (slice_get last) same
behind_parts (p ∷ ps) last index rest full is =
    let long : length (versions_in p) ≡ 64 = All-head IsFull p ps full in
    ap (λ xs. slice_get xs index) (append_assoc (versions_in p) (flat_map versions_in ps) last)
    ∙ get_right (versions_in p) (all_versions ps last) index (length ps * 64 + rest) (omega (arith, long, is))
    ∙ behind_parts ps last (length ps * 64 + rest) rest (All-tail IsFull p ps full) refl

-- what is found in a list in parts
module _ (parts : List Part) (last all : List Version) (index : ℕ) (items : List Version) (found : Option Version)
    (full : All IsFull parts) (is : all_versions parts last ≡ all) where
  pub gets_part : (part : Part) → index / 64 < length parts → part ≡ get_or parts (index / 64) part →
      items ≡ versions_in part → found ≡ slice_get items (index % 64) → found ≡ slice_get all index
  gets_part part below here has finds =
      finds
      ∙ ap (λ ws. slice_get ws (index % 64)) has
      ∙ sym (in_part parts last (index / 64) index (index % 64) part full (part_at parts (index / 64) part below here)
      (omega arith) (omega arith))
      ∙ ap (λ ws. slice_get ws index) is

  pub gets_behind : (count : ℕ) → count ≡ length parts → count ≤ index / 64 → items ≡ last →
      found ≡ slice_get items (index - count * 64) → found ≡ slice_get all index
  gets_behind count long past has finds =
      finds
      ∙ ap (λ ws. slice_get ws (index - count * 64)) has
      ∙ sym (behind_parts parts last index (index - count * 64) full (omega (arith, long, past)))
      ∙ ap (λ ws. slice_get ws index) is

-- one more part
pub more_parts : (parts : List Part) (part : Part) (last : List Version) →
    all_versions (parts ++ part ∷ []) last ≡ all_versions parts (versions_in part ++ last)
more_parts [] part last =
    append_assoc (versions_in part) [] last
more_parts (p ∷ ps) part last =
    append_assoc (versions_in p) (flat_map versions_in (ps ++ part ∷ [])) last
    ∙ ap (λ xs. versions_in p ++ xs) (more_parts ps part last)
    ∙ sym (append_assoc (versions_in p) (flat_map versions_in ps) (versions_in part ++ last))

-- a part and its copy have the same versions
abbrev pub IsCopy : Part → Part → Type 0
IsCopy part copy = copy.value ≡ part.value

-- copies of parts have their versions
pub copied_parts : (parts copies : List Part) → AllZip IsCopy parts copies →
    flat_map versions_in copies ≡ flat_map versions_in parts
copied_parts [] [] same = refl
copied_parts [] (q ∷ qs) same = absurd same
copied_parts (p ∷ ps) [] same = absurd same
copied_parts (p ∷ ps) (q ∷ qs) same = (λ i. (same.0 i).items ++ copied_parts ps qs same.1 i)

pub copied_full : (parts copies : List Part) → AllZip IsCopy parts copies → All IsFull parts → All IsFull copies
copied_full [] [] same full = full
copied_full [] (q ∷ qs) same full = absurd same
copied_full (p ∷ ps) [] same full = absurd same
copied_full (p ∷ ps) (q ∷ qs) same full =
    All-cons IsFull q qs (ap (λ (items : Vec Version Global). length items.items) same.0 ∙ All-head IsFull p ps full)
    (copied_full ps qs same.1 (All-tail IsFull p ps full))

-- copies of lists in parts
module _ (parts from copies : List Part) (last behind rest : List Version) (is : from ≡ parts)
    (same : AllZip IsCopy from copies) (here : behind ≡ last) (copied : rest ≡ behind) where
  copies_same : AllZip IsCopy parts copies
  copies_same = subst (λ (ps : List Part). AllZip IsCopy ps copies) is same

  pub copied_versions : all_versions copies rest ≡ all_versions parts last
  copied_versions = (λ i. copied_parts parts copies copies_same i ++ (copied ∙ here) i)

  pub copied_holds : (count : ℕ) → (count ≡ length (all_versions parts last)) × All IsFull parts →
      (count ≡ length (all_versions copies rest)) × All IsFull copies
  copied_holds count holds =
      (holds.0 ∙ ap length (sym copied_versions), copied_full parts copies copies_same holds.1)

-- there are as many versions as the parts have, and those behind them
pub long_parts : (parts : List Part) (last : List Version) → All IsFull parts →
    length (all_versions parts last) ≡ length parts * 64 + length last
long_parts [] last full = omega arith
long_parts (p ∷ ps) last full =
    let long : length (versions_in p) ≡ 64 = All-head IsFull p ps full in
    omega (
      arith,
      long,
      ap length (append_assoc (versions_in p) (flat_map versions_in ps) last),
      length-append (versions_in p) (all_versions ps last),
      long_parts ps last (All-tail IsFull p ps full),
    )

-- ---- what two lists have in common
-- two lists have a part in common
module _ (parts others : List Part) (last behind all more : List Version) (full : All IsFull parts)
    (fuller : All IsFull others) (is : all_versions parts last ≡ all) (are : all_versions others behind ≡ more) where
  same_part : (place : ℕ) (part other : Part) → slice_get parts place ≡ Some part →
      slice_get others place ≡ Some other → versions_in part ≡ versions_in other →
      HaveSame (place * 64 + 64) (place * 64) (all_versions parts last) (all_versions others behind)
  same_part place part other at there same = record {
    within = omega (arith, long_parts parts last full, slice_get_within parts place part at);
    within_other = omega (arith, long_parts others behind fuller, slice_get_within others place other there);
    same = λ i above below.
        let rest : i ≡ place * 64 + (i - place * 64) = omega (arith, above) in
        let near : i - place * 64 < 64 = omega (arith, above, below) in
        in_part parts last place i (i - place * 64) part full at rest near
        ∙ ap (λ ws. slice_get ws (i - place * 64)) same
        ∙ sym (in_part others behind place i (i - place * 64) other fuller there rest near);
  }

  pub have_part : (place : ℕ) (part other : Part) (items things : List Version) → place < length parts →
      place < length others → part ≡ get_or parts place part → other ≡ get_or others place other →
      items ≡ versions_in part → things ≡ versions_in other → pointwise eq-value.it items things ≡ true →
      HaveSame (place * 64 + 64) (place * 64) all more
  have_part place part other items things below near here there has have equal =
      subst (λ ws. HaveSame (place * 64 + 64) (place * 64) ws more) is
      (subst (HaveSame (place * 64 + 64) (place * 64) (all_versions parts last)) are
      (same_part place part other (part_at parts place part below here) (part_at others place other near there)
      (sym has ∙ equal_versions items things equal ∙ have)))

-- lists that have the same versions up to an index begin alike
pub begin_alike : (n : ℕ) (first second : List Version) → HaveSame n 0 first second → take n first ≡ take n second
begin_alike zero first second same = refl
begin_alike (suc n) [] second same = absurd (omega (arith, same.within))
begin_alike (suc n) (x ∷ xs) [] same = absurd (omega (arith, same.within_other))
begin_alike (suc n) (x ∷ xs) (y ∷ ys) same =
    let first : x ≡ y = same_Some x y (same.same 0 (omega arith) (omega arith)) in
    let rest = begin_alike n xs ys (record {
      within = omega (arith, same.within);
      within_other = omega (arith, same.within_other);
      same = λ i low below. same.same (suc i) (omega arith) (omega (arith, below));
    }) in
    (λ j. first j ∷ rest j)
