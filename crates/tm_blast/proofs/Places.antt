-- Bits that are placed one by one, as far as a loop has come.
use Rattle.std.proofs.Common.{◌≡◌, ℕ, zero, suc, ◌+◌, ◌-◌, ◌/◌, ◌%◌, ◌<◌, ◌≤◌, Bool, true, false, List, [], ◌∷◌, ◌++◌, length, map, take, get_or, refl, sym, ap, ◌∙◌, subst, ⊎_elim, append_assoc, arith}
use Rattle.std.specs.Prelude.{All, ◌==◌, reverse, if◌then◌else◌}
use Rattle.std.proofs.lemmas.Bool.{cases_lt}
use Rattle.std.proofs.Math.Seq.{take-length}
use Rattle.std.proofs.lemmas.List.{map-append, append-nil, get_or-reverse, length-reverse, take_more}
use Rattle.std.proofs.lemmas.List.Elements.{All-nil, All-push, All-head, All-tail}
use Rattle.tm_dd.specs.declared.node.NodeId.{NodeId}
use Rattle.tm_dd.specs.declared.node.TheConstants.{FALSE, TRUE}
use Rattle.tm_dd.specs.Table.{Table, Knows, means}
use Rattle.tm_dd.specs.Reduced.{Extends}
use Rattle.tm_dd.proofs.CallerLaws.{Extends-trans, means-FALSE, means-TRUE}
use Rattle.tm_ddops.specs.Manager.{IsFunction}
use Rattle.tm_blast.specs.Bits.{values_in}
use Rattle.tm_blast.specs.Cell.{bits_of, constant_of, placed, MeanBits}
use Rattle.tm_blast.proofs.Extended.{All-Knows-extended, values_in-extended}
use Rattle.tm_blast.proofs.Rows.{values_in-append}

-- ---- constants
pub Knows-constant_of : (s : Table) (b : Bool) → Knows s (constant_of b)
Knows-constant_of s true = omega arith
Knows-constant_of s false = omega arith

pub means-constant_of : (s : Table) (b : Bool) (v : ℕ → Bool) → means s (constant_of b) v ≡ b
means-constant_of s true v = means-TRUE s v
means-constant_of s false v = means-FALSE s v

-- the bits that are left stand behind those that were made
pub record IsConstant (width number left : ℕ) (ids : List NodeId) (i : ℕ) (s : Table) : Type 0 where
  pub known : All (Knows s) ids
  pub rest : (v : ℕ → Bool) → values_in s ids v ++ bits_of (width - i) left ≡ bits_of width number

pub constant-first : (width number : ℕ) (s : Table) → IsConstant width number number [] 0 s
constant-first width number s = record {
  known = All-nil (Knows s);
  rest = λ v. let e : width - 0 ≡ width = omega arith in rw e refl;
}

pub constant_more : (width number left : ℕ) (ids : List NodeId) (i : ℕ) (s : Table) → i < width
    → IsConstant width number left ids i s → (items : List NodeId)
    → items ≡ ids ++ constant_of (left % 2 == 1) ∷ [] → IsConstant width number (left / 2) items (i + 1) s
constant_more width number left ids i s within so_far items pushes =
    subst (λ zs. IsConstant width number (left / 2) zs (i + 1) s) (sym pushes) record {
      known =
          All-push (Knows s) ids (constant_of (left % 2 == 1)) so_far.known (Knows-constant_of s (left % 2 == 1));
      rest = λ v.
          let b = left % 2 == 1 in
          let rest = bits_of (width - (i + 1)) (left / 2) in
          let one_more : width - i ≡ suc (width - (i + 1)) = omega arith in
          ap (λ front. front ++ rest) (values_in-append s ids (constant_of b) v)
          ∙ append_assoc (values_in s ids v) (means s (constant_of b) v ∷ []) rest
          ∙ ap (λ x. values_in s ids v ++ (x ∷ rest)) (means-constant_of s b v)
          ∙ ap (λ k. values_in s ids v ++ bits_of k left) (sym one_more)
          ∙ so_far.rest v;
    }

pub constant_all : (width number left : ℕ) (ids : List NodeId) (i : ℕ) (s : Table) → width ≤ i
    → IsConstant width number left ids i s → MeanBits s ids (λ v. bits_of width number)
constant_all width number left ids i s end done = record {
  known = done.known;
  meaning = λ v.
      let none : width - i ≡ 0 = omega arith in
      sym (append-nil (values_in s ids v))
      ∙ ap (λ k. values_in s ids v ++ bits_of k left) (sym none)
      ∙ done.rest v;
}

-- ---- an input
-- the bits that were made are the levels' values from the last one on
pub record IsInput (s u : Table) (levels : List ℕ) (ids : List NodeId) (i : ℕ) : Type 0 where
  pub extends : Extends s u
  pub known : All (Knows u) ids
  pub meaning : (v : ℕ → Bool) → values_in u ids v ≡ map v (take i (reverse levels))

-- a level of a node that is true where the level's value is
pub means_level : (w : Table) (id : NodeId) (level : ℕ) →
    IsFunction w id (λ v. if v level then means w TRUE v else means w FALSE v) → (v : ℕ → Bool) → means w id v ≡ v level
means_level w id level is v = is.meaning v ∙ either (v level) where
  either : (b : Bool) → (if b then means w TRUE v else means w FALSE v) ≡ b
  either true = means-TRUE w v
  either false = means-FALSE w v

pub input_more : (s u w : Table) (levels : List ℕ) (ids : List NodeId) (i level : ℕ) (id : NodeId) → i < length levels
    → IsInput s u levels ids i → level ≡ get_or levels (length levels - 1 - i) 0 → Extends u w
    → IsFunction w id (λ v. if v level then means w TRUE v else means w FALSE v) → (items : List NodeId)
    → items ≡ ids ++ id ∷ [] → IsInput s w levels items (i + 1)
input_more s u w levels ids i level id within so_far is_level extends is items pushes =
    subst (λ zs. IsInput s w levels zs (i + 1)) (sym pushes) record {
      extends = Extends-trans s u w so_far.extends extends;
      known = All-push (Knows w) ids id (All-Knows-extended u w extends ids so_far.known) is.known;
      meaning = λ v.
          let within' : i < length (reverse levels) = omega (arith, length-reverse levels) in
          let next = is_level ∙ sym (get_or-reverse levels i 0 within) in
          values_in-append w ids id v
          ∙ ap (λ front. front ++ means w id v ∷ [])
          (values_in-extended u w extends ids so_far.known v ∙ so_far.meaning v)
          ∙ ap (λ b. map v (take i (reverse levels)) ++ b ∷ []) (means_level w id level is v ∙ ap v next)
          ∙ sym (map-append v (take i (reverse levels)) (get_or (reverse levels) i 0 ∷ []))
          ∙ ap (map v) (sym (take_more (reverse levels) i 0 within'));
    }

-- ---- placed bits
pub length-placed : (low width : ℕ) (bits : List Bool) → length (placed low width bits) ≡ width
length-placed low zero bits = refl
length-placed zero (suc width) [] = ap suc (length-placed zero width [])
length-placed zero (suc width) (b ∷ bits) = ap suc (length-placed zero width bits)
length-placed (suc low) (suc width) bits = ap suc (length-placed low width bits)

placed_below : (low width : ℕ) (bits : List Bool) (i : ℕ) → i < low → get_or (placed low width bits) i false ≡ false
placed_below low zero bits i h = refl
placed_below zero (suc width) bits i h = absurd (omega arith)
placed_below (suc low) (suc width) bits zero h = refl
placed_below (suc low) (suc width) bits (suc i) h = placed_below low width bits i (omega arith)

placed_there : (low width : ℕ) (bits : List Bool) (i : ℕ) → i < width → low ≤ i →
    get_or (placed low width bits) i false ≡ get_or bits (i - low) false
placed_there low zero bits i h k = absurd (omega arith)
placed_there zero (suc width) [] zero h k = refl
placed_there zero (suc width) [] (suc i) h k = let e : i - 0 ≡ i = omega arith in
    let f : suc i - 0 ≡ suc i = omega arith in placed_there zero width [] i (omega arith) (omega arith)
placed_there zero (suc width) (b ∷ bits) zero h k = refl
placed_there zero (suc width) (b ∷ bits) (suc i) h k =
    let e : suc i - 0 ≡ suc (i - 0) = omega arith in
    rw e (placed_there zero width bits i (omega arith) (omega arith))
placed_there (suc low) (suc width) bits zero h k = absurd (omega arith)
placed_there (suc low) (suc width) bits (suc i) h k =
    let e : suc i - suc low ≡ i - low = omega arith in
    rw e (placed_there low width bits i (omega arith) (omega arith))

-- the bits that were placed are the first of those that are asked for
pub record ArePlaced (low width : ℕ) (a ids : List NodeId) (i : ℕ) (s : Table) : Type 0 where
  pub known : All (Knows s) ids
  pub meaning : (v : ℕ → Bool) → values_in s ids v ≡ take i (placed low width (values_in s a v))

-- what a bit is that is placed at a weight
pub record IsPlaced (low : ℕ) (a : List NodeId) (i : ℕ) (id : NodeId) : Type 0 where
  pub below : i < low → id ≡ FALSE
  pub there : low ≤ i → id ≡ get_or a (i - low) FALSE

Knows-or-FALSE : (s : Table) (a : List NodeId) (k : ℕ) → All (Knows s) a → Knows s (get_or a k FALSE)
Knows-or-FALSE s [] k known = omega arith
Knows-or-FALSE s (x ∷ xs) zero known = All-head (Knows s) x xs known
Knows-or-FALSE s (x ∷ xs) (suc k) known = Knows-or-FALSE s xs k (All-tail (Knows s) x xs known)

means-or-FALSE : (s : Table) (a : List NodeId) (k : ℕ) (v : ℕ → Bool) →
    means s (get_or a k FALSE) v ≡ get_or (values_in s a v) k false
means-or-FALSE s [] k v = means-FALSE s v
means-or-FALSE s (x ∷ xs) zero v = refl
means-or-FALSE s (x ∷ xs) (suc k) v = means-or-FALSE s xs k v

placed_known : (low : ℕ) (a : List NodeId) (i : ℕ) (id : NodeId) (s : Table) → IsPlaced low a i id → All (Knows s) a →
    Knows s id
placed_known low a i id s is known =
    ⊎_elim (λ h. subst (Knows s) (sym (is.below h)) (Knows-constant_of s false))
    (λ h. subst (Knows s) (sym (is.there h)) (Knows-or-FALSE s a (i - low) known)) (cases_lt i low)

placed_means : (low width : ℕ) (a : List NodeId) (i : ℕ) (id : NodeId) (s : Table) (v : ℕ → Bool) → i < width →
    IsPlaced low a i id → means s id v ≡ get_or (placed low width (values_in s a v)) i false
placed_means low width a i id s v within is =
    ⊎_elim
    (λ h. ap (λ x. means s x v) (is.below h) ∙ means-FALSE s v
    ∙ sym (placed_below low width (values_in s a v) i h))
    (λ h. ap (λ x. means s x v) (is.there h) ∙ means-or-FALSE s a (i - low) v
    ∙ sym (placed_there low width (values_in s a v) i within h)) (cases_lt i low)

pub placed_more : (low width : ℕ) (a ids : List NodeId) (i : ℕ) (id : NodeId) (s : Table) → i < width
    → All (Knows s) a → ArePlaced low width a ids i s → IsPlaced low a i id → (items : List NodeId)
    → items ≡ ids ++ id ∷ [] → ArePlaced low width a items (i + 1) s
placed_more low width a ids i id s within known so_far is items pushes =
    subst (λ zs. ArePlaced low width a zs (i + 1) s) (sym pushes) record {
      known = All-push (Knows s) ids id so_far.known (placed_known low a i id s is known);
      meaning = λ v.
          let all = placed low width (values_in s a v) in
          let within' : i < length all = omega (arith, length-placed low width (values_in s a v)) in
          values_in-append s ids id v
          ∙ (λ k. so_far.meaning v k ++ placed_means low width a i id s v within is k ∷ [])
          ∙ sym (take_more all i false within');
    }

pub placed_all : (low width : ℕ) (a ids : List NodeId) (s : Table) → ArePlaced low width a ids width s →
    MeanBits s ids (λ v. placed low width (values_in s a v))
placed_all low width a ids s done = record {
  known = done.known;
  meaning = λ v.
      let all = placed low width (values_in s a v) in
      done.meaning v
      ∙ ap (λ k. take k all) (sym (length-placed low width (values_in s a v)))
      ∙ take-length all;
}
