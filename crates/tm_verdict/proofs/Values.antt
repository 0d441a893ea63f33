-- The values of the ids of a list of entries, one behind the other.
use Rattle.std.proofs.Common.{◌≡◌, ℕ, zero, suc, ◌+◌, ◌<◌, Bool, true, false, List, [], ◌∷◌, ◌++◌, length, fold, get_or, cond, if◌then◌else◌, Some, refl, sym, ap, ◌∙◌, arith}
use Rattle.std.specs.Prelude.{slice_get}
use Rattle.std.proofs.lemmas.List.{get_or_append_left, get_or_at, length_push, length-take-le}
use Rattle.std.proofs.lemmas.Option.{get_or_from_slice_get, slice_get_within}
use Rattle.tm_cert.specs.declared.cert.Entry.{Entry}
use Rattle.tm_verdict.specs.Fitting.{AreNodes}
use Rattle.tm_verdict.specs.Sets.{entry_value, id_holds, values_of}

-- the values, where those of the first ids are given
abbrev values_from : (ℕ → Bool) → List Bool → List Entry → List Bool
values_from bits first es = fold (λ earlier e. earlier ++ entry_value bits earlier e ∷ []) first es

-- the child that the bit of a level chooses
picked : (b : Bool) (values : List Bool) (lo hi : ℕ) →
    get_or values (if b then hi else lo) false ≡ (if b then get_or values hi false else get_or values lo false)
picked true values lo hi = refl
picked false values lo hi = refl

module _ (bits : ℕ → Bool) where
  -- the given values stay
  given : (es : List Entry) (first : List Bool) (p : ℕ) → p < length first →
      get_or (values_from bits first es) p false ≡ get_or first p false
  given [] first p h = refl
  given (e ∷ es) first p h =
      let x = entry_value bits first e in
      given es (first ++ x ∷ []) p (omega (arith, length_push first x)) ∙ get_or_append_left first (x ∷ []) false p h

  -- so does the value of an entry over them
  entry-given : (es : List Entry) (first : List Bool) (e : Entry) → e.lo < length first → e.hi < length first →
      entry_value bits (values_from bits first es) e ≡ entry_value bits first e
  entry-given es first e lo hi =
      picked (bits e.level) (values_from bits first es) e.lo e.hi
      ∙ (λ i. cond (bits e.level) (given es first e.hi hi i) (given es first e.lo lo i))
      ∙ sym (picked (bits e.level) first e.lo e.hi)

  -- an entry whose children stand before it has the value that they give it
  at_entry : (es : List Entry) (first : List Bool) (j p : ℕ) (d : Entry) → p ≡ length first + j → j < length es →
      (get_or es j d).lo < p → (get_or es j d).hi < p →
      get_or (values_from bits first es) p false ≡ entry_value bits (values_from bits first es) (get_or es j d)
  at_entry [] first j p d at within lo hi = absurd (omega arith)
  at_entry (e ∷ es) first zero p d at within lo hi =
      let x = entry_value bits first e in
      let here : length first ≡ p = omega (arith, at) in
      given es (first ++ x ∷ []) p (omega (arith, length_push first x))
      ∙ get_or_at first x [] false p here
      ∙ sym (entry-given (e ∷ es) first e (omega (arith, here, lo)) (omega (arith, here, hi)))
  at_entry (e ∷ es) first (suc j) p d at within lo hi =
      let x = entry_value bits first e in
      at_entry es (first ++ x ∷ []) j p d (omega (arith, at, length_push first x)) (omega (arith, within)) lo hi

pub never_holds : (nodes : List Entry) (bits : ℕ → Bool) → id_holds nodes 0 bits ≡ false
unfolding id_holds values_of
never_holds nodes bits = given bits nodes (false ∷ true ∷ []) 0 (omega arith)

pub always_holds : (nodes : List Entry) (bits : ℕ → Bool) → id_holds nodes 1 bits ≡ true
unfolding id_holds values_of
always_holds nodes bits = given bits nodes (false ∷ true ∷ []) 1 (omega arith)

by_position : (nodes : List Entry) (k : ℕ) (e : Entry) (bits : ℕ → Bool) → k < length nodes → e.lo < k + 2 →
    e.hi < k + 2 → get_or nodes k e ≡ e →
    id_holds nodes (k + 2) bits ≡ (if bits e.level then id_holds nodes e.hi bits else id_holds nodes e.lo bits)
unfolding id_holds values_of
by_position nodes k e bits within lo hi is =
    let at = at_entry bits nodes (false ∷ true ∷ []) k (k + 2) e (omega arith) within
    (omega (arith, ap (λ (x : Entry). x.lo) is, lo))
    (omega (arith, ap (λ (x : Entry). x.hi) is, hi)) in
    at ∙ ap (entry_value bits (values_from bits (false ∷ true ∷ []) nodes)) is
    ∙ picked (bits e.level) (values_from bits (false ∷ true ∷ []) nodes) e.lo e.hi

-- an entry is as one of its children
pub entry_holds : (levels k : ℕ) (nodes : List Entry) (e : Entry) (bits : ℕ → Bool) → AreNodes levels nodes →
    slice_get nodes k ≡ Some e →
    id_holds nodes (k + 2) bits ≡ (if bits e.level then id_holds nodes e.hi bits else id_holds nodes e.lo bits)
entry_holds levels k nodes e bits are is =
    let within = slice_get_within nodes k e is in
    let node = are k e is in
    let long = length-take-le k nodes (omega arith) in
    by_position nodes k e bits within (omega (arith, node.lo_before, long)) (omega (arith, node.hi_before, long))
    (get_or_from_slice_get nodes k e e is)

-- entries over some levels read their bits alone
same_from : (levels : ℕ) (one other : ℕ → Bool) → ((k : ℕ) → k < levels → one k ≡ other k) → (es : List Entry)
    (first : List Bool) → ((k : ℕ) (e : Entry) → slice_get es k ≡ Some e → e.level < levels) →
    values_from one first es ≡ values_from other first es
same_from levels one other same [] first below = refl
same_from levels one other same (e ∷ es) first below =
    let here = same e.level (below 0 e refl) in
    ap (λ b. values_from one (first ++ get_or first (if b then e.hi else e.lo) false ∷ []) es) here
    ∙ same_from levels one other same es (first ++ entry_value other first e ∷ []) (λ k. below (suc k))

pub reads_levels : (levels id : ℕ) (nodes : List Entry) (one other : ℕ → Bool) → AreNodes levels nodes →
    ((k : ℕ) → k < levels → one k ≡ other k) → id_holds nodes id one ≡ id_holds nodes id other
unfolding id_holds values_of
reads_levels levels id nodes one other are same =
    ap (λ values. get_or values id false)
    (same_from levels one other same nodes (false ∷ true ∷ []) (λ k e is. (are k e is).level_below))
