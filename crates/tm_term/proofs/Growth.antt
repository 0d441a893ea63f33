-- A sound table keeps what its ids have when a term is added.
use Rattle.std.proofs.Common.{◌≡◌, ℕ, zero, suc, ◌<◌, ◌≤◌, List, [], ◌∷◌, ◌++◌, length, Option, Some, None, refl, sym, ap, ◌∙◌, subst, ◌⊎◌, inl, inr, ⊎_elim, arith, length-append}
use Rattle.std.specs.Prelude.{slice_get, slice_index}
use Rattle.std.proofs.lemmas.Option.{slice_get_within, some_pair_parts, same_Some}
use Rattle.tm_term.specs.declared.term.Term.{Term}
use Rattle.tm_term.specs.declared.term.Term.TheVariants.{Const, Input, Not, And, Or, Xor, Add, Sub, Shl, Shr, Eq, Less, Ite, Resize}
use Rattle.tm_term.specs.declared.term.TermId.{TermId}
use Rattle.tm_term.specs.Table.{Table, term_in, width_in, count_of, IsKnown, term_of, width_of, AreAlike, FitsBelow, Fits, term_width, IsEntry, IsSound}
use Rattle.tm_base.specs.Arithmetic.{IsWidth}

-- ids are equal where their places are
pub TermId-ext : (a b : TermId) → a.0 ≡ b.0 → a ≡ b
TermId-ext a b e = let make : ℕ → TermId = λ n. record { 0 = n } in ap make e

-- ---- lists
slice_get-append_left : {X : Type 0} (xs ys : List X) (k : ℕ) → k < length xs → slice_get (xs ++ ys) k ≡ slice_get xs k
slice_get-append_left [] ys k h = absurd (omega arith)
slice_get-append_left (x ∷ xs) ys zero h = refl
slice_get-append_left (x ∷ xs) ys (suc k) h = slice_get-append_left xs ys k (omega arith)

slice_get-append_last : {X : Type 0} (xs : List X) (y : X) → slice_get (xs ++ y ∷ []) (length xs) ≡ Some y
slice_get-append_last [] y = refl
slice_get-append_last (x ∷ xs) y = slice_get-append_last xs y

pub element_at : {X : Type 0} (xs : List X) (k : ℕ) → k < length xs → (x : X) × (slice_get xs k ≡ Some x)
element_at [] k h = absurd (omega arith)
element_at (x ∷ xs) zero h = (x, refl)
element_at (x ∷ xs) (suc k) h = element_at xs k (omega arith)

-- ---- an entry of a sound table
-- what a known id has
pub record Has (t : Table) (id : TermId) (term : Term) : Type 0 where
  pub is : term_of t id ≡ Some term
  pub entry : IsEntry t id.0 term (width_of t id)

has_from : (t : Table) (id : TermId) (term : Term) (width : ℕ) → IsSound t →
    slice_get t.kept id.0 ≡ Some (term, width) → Has t id term
has_from t id term width sound at =
    record {
      is = ap term_in at;
      entry = subst (IsEntry t id.0 term) (sym (ap width_in at)) (sound.entries id.0 term width at);
    }

pub has_known : (t : Table) (id : TermId) → IsSound t → IsKnown t id → (term : Term) × Has t id term
has_known t id sound known =
    let e = element_at t.kept id.0 known in
    (e.0.0, has_from t id e.0.0 e.0.1 sound e.1)

-- an id with a term is known
pub known_term : (t : Table) (id : TermId) (term : Term) → term_of t id ≡ Some term → IsKnown t id
known_term t id term is = by (slice_get t.kept id.0) refl
  where
    by : (o : Option (Term × ℕ)) → slice_get t.kept id.0 ≡ o → IsKnown t id
    by None e = cc (sym (ap term_in e) ∙ is)
    by (Some x) e = slice_get_within t.kept id.0 x e

pub has_term : (t : Table) (id : TermId) (term : Term) → IsSound t → term_of t id ≡ Some term → Has t id term
has_term t id term sound is =
    let h = has_known t id sound (known_term t id term is) in
    subst (Has t id) (same_Some h.0 term (sym h.1.is ∙ is)) h.1

pub IsWidth-width_of : (t : Table) (id : TermId) → IsSound t → IsKnown t id → IsWidth (width_of t id)
IsWidth-width_of t id sound known = (has_known t id sound known).1.entry.in_range

-- ---- more ids
-- ---- a second table that agrees with the first below n
pub record Agrees (t u : Table) (n : ℕ) : Type 0 where
  pub inputs : u.inputs ≡ t.inputs
  pub widths : (id : TermId) → id.0 < n → width_of u id ≡ width_of t id

AreAlike-along : (t u : Table) (n : ℕ) (a b : TermId) → Agrees t u n → AreAlike t n a b → AreAlike u n a b
AreAlike-along t u n a b agrees h = (h.0, h.1, agrees.widths a h.0 ∙ h.2 ∙ sym (agrees.widths b h.1))

pub FitsBelow-along : (t u : Table) (n : ℕ) (term : Term) → Agrees t u n → FitsBelow t n term → FitsBelow u n term
FitsBelow-along t u n (Const width number) agrees h = h
FitsBelow-along t u n (Input i) agrees h = subst (λ xs. i < length xs) (sym agrees.inputs) h
FitsBelow-along t u n (Not a) agrees h = h
FitsBelow-along t u n (And a b) agrees h = AreAlike-along t u n a b agrees h
FitsBelow-along t u n (Or a b) agrees h = AreAlike-along t u n a b agrees h
FitsBelow-along t u n (Xor a b) agrees h = AreAlike-along t u n a b agrees h
FitsBelow-along t u n (Add a b) agrees h = AreAlike-along t u n a b agrees h
FitsBelow-along t u n (Sub a b) agrees h = AreAlike-along t u n a b agrees h
FitsBelow-along t u n (Shl a by) agrees h = (h.0, subst (λ w. by < w) (sym (agrees.widths a h.0)) h.1)
FitsBelow-along t u n (Shr a by) agrees h = (h.0, subst (λ w. by < w) (sym (agrees.widths a h.0)) h.1)
FitsBelow-along t u n (Eq a b) agrees h = AreAlike-along t u n a b agrees h
FitsBelow-along t u n (Less a b) agrees h = AreAlike-along t u n a b agrees h
FitsBelow-along t u n (Ite c a b) agrees h = (h.0, agrees.widths c h.0 ∙ h.1, AreAlike-along t u n a b agrees h.2)
FitsBelow-along t u n (Resize width a) agrees h = h

pub term_width-along : (t u : Table) (n : ℕ) (term : Term) → Agrees t u n → FitsBelow t n term →
    term_width u term ≡ term_width t term
term_width-along t u n (Const width number) agrees h = refl
term_width-along t u n (Input i) agrees h = ap (λ xs. slice_index xs i) agrees.inputs
term_width-along t u n (Not a) agrees h = agrees.widths a h
term_width-along t u n (And a b) agrees h = agrees.widths a h.0
term_width-along t u n (Or a b) agrees h = agrees.widths a h.0
term_width-along t u n (Xor a b) agrees h = agrees.widths a h.0
term_width-along t u n (Add a b) agrees h = agrees.widths a h.0
term_width-along t u n (Sub a b) agrees h = agrees.widths a h.0
term_width-along t u n (Shl a by) agrees h = agrees.widths a h.0
term_width-along t u n (Shr a by) agrees h = agrees.widths a h.0
term_width-along t u n (Eq a b) agrees h = refl
term_width-along t u n (Less a b) agrees h = refl
term_width-along t u n (Ite c a b) agrees h = agrees.widths a h.2.0
term_width-along t u n (Resize width a) agrees h = refl

-- ---- the width of a term that fits
pub IsWidth-term_width : (t : Table) (term : Term) → IsSound t → Fits t term → IsWidth (term_width t term)
IsWidth-term_width t (Const width number) sound h = h.0
IsWidth-term_width t (Input i) sound h = sound.inputs i h
IsWidth-term_width t (Not a) sound h = IsWidth-width_of t a sound h
IsWidth-term_width t (And a b) sound h = IsWidth-width_of t a sound h.0
IsWidth-term_width t (Or a b) sound h = IsWidth-width_of t a sound h.0
IsWidth-term_width t (Xor a b) sound h = IsWidth-width_of t a sound h.0
IsWidth-term_width t (Add a b) sound h = IsWidth-width_of t a sound h.0
IsWidth-term_width t (Sub a b) sound h = IsWidth-width_of t a sound h.0
IsWidth-term_width t (Shl a by) sound h = IsWidth-width_of t a sound h.0
IsWidth-term_width t (Shr a by) sound h = IsWidth-width_of t a sound h.0
IsWidth-term_width t (Eq a b) sound h = omega arith
IsWidth-term_width t (Less a b) sound h = omega arith
IsWidth-term_width t (Ite c a b) sound h = IsWidth-width_of t a sound h.2.0
IsWidth-term_width t (Resize width a) sound h = h.0

-- ---- one more term
-- the table with the term at its end
abbrev pub added : Table → Term → Table
added t term = record { inputs = t.inputs; kept = t.kept ++ (term, term_width t term) ∷ [] }

module _ (t : Table) (term : Term) where
  entry-added_old : (k : ℕ) → k < count_of t → slice_get (added t term).kept k ≡ slice_get t.kept k
  entry-added_old k known = slice_get-append_left t.kept ((term, term_width t term) ∷ []) k known

  entry-added_new : slice_get (added t term).kept (count_of t) ≡ Some (term, term_width t term)
  entry-added_new = slice_get-append_last t.kept (term, term_width t term)

  pub known-added : (id : TermId) → IsKnown t id → IsKnown (added t term) id
  known-added id known = omega (arith, known, length-append t.kept ((term, term_width t term) ∷ []))

  pub term_of-added_old : (id : TermId) → IsKnown t id → term_of (added t term) id ≡ term_of t id
  term_of-added_old id known = ap term_in (entry-added_old id.0 known)

  pub width_of-added_old : (id : TermId) → IsKnown t id → width_of (added t term) id ≡ width_of t id
  width_of-added_old id known = ap width_in (entry-added_old id.0 known)

  pub term_of-added_new : (id : TermId) → id.0 ≡ count_of t → term_of (added t term) id ≡ Some term
  term_of-added_new id e = ap (λ k. term_in (slice_get (added t term).kept k)) e ∙ ap term_in entry-added_new

  pub width_of-added_new : (id : TermId) → id.0 ≡ count_of t → width_of (added t term) id ≡ term_width t term
  width_of-added_new id e = ap (λ k. width_in (slice_get (added t term).kept k)) e ∙ ap width_in entry-added_new

  pub agrees-added : (n : ℕ) → n ≤ count_of t → Agrees t (added t term) n
  agrees-added n le = record { inputs = refl; widths = λ id h. width_of-added_old id (omega arith) }

  old_or_new : (k : ℕ) → k < count_of (added t term) → (k < count_of t) ⊎ (k ≡ count_of t)
  old_or_new k h =
      let len = length-append t.kept ((term, term_width t term) ∷ []) in
      ⊎_elim (λ l. inl l) (λ g. inr (omega (arith, g, len, h))) (Rattle.std.proofs.lemmas.Bool.cases_lt k (count_of t))

  entries-added : IsSound t → Fits t term → (k : ℕ) (some : Term) (width : ℕ) →
      slice_get (added t term).kept k ≡ Some (some, width) → IsEntry (added t term) k some width
  entries-added sound fits k some width at =
      ⊎_elim old new (old_or_new k (slice_get_within (added t term).kept k (some, width) at))
    where
      old : k < count_of t → IsEntry (added t term) k some width
      old known =
          let entry = sound.entries k some width (sym (entry-added_old k known) ∙ at) in
          let agrees = agrees-added k (omega arith) in
          record {
            fits = FitsBelow-along t (added t term) k some agrees entry.fits;
            sized = entry.sized ∙ sym (term_width-along t (added t term) k some agrees entry.fits);
            in_range = entry.in_range;
          }

      new : k ≡ count_of t → IsEntry (added t term) k some width
      new e =
          let same = some_pair_parts term some (term_width t term) width
          (sym entry-added_new ∙ ap (slice_get (added t term).kept) (sym e) ∙ at) in
          let agrees = agrees-added (count_of t) (omega arith) in
          let fits' = FitsBelow-along t (added t term) (count_of t) term agrees fits in
          let sized' = term_width-along t (added t term) (count_of t) term agrees fits in
          record {
            fits = subst (λ n. FitsBelow (added t term) n some) (sym e)
                (subst (FitsBelow (added t term) (count_of t)) same.0 fits');
            sized = sym same.1 ∙ sym sized' ∙ ap (term_width (added t term)) same.0;
            in_range = subst IsWidth same.1 (IsWidth-term_width t term sound fits);
          }

  distinct-added : IsSound t → ((id : TermId) → term_of t id ≡ Some term → ⊥) → (a b : TermId) (some : Term) →
      term_of (added t term) a ≡ Some some → term_of (added t term) b ≡ Some some → a ≡ b
  distinct-added sound absent a b some ha hb =
      ⊎_elim first_old first_new (old_or_new a.0 (known_term (added t term) a some ha))
    where
      -- the new term is no old one
      apart : (old new : TermId) → IsKnown t old → new.0 ≡ count_of t → term_of (added t term) old ≡ Some some →
          term_of (added t term) new ≡ Some some → ⊥
      apart old new known e ho hn =
          let same = same_Some some term (sym hn ∙ term_of-added_new new e) in
          absent old (sym (term_of-added_old old known) ∙ ho ∙ ap Some same)

      second : a.0 < count_of t → (b.0 < count_of t) ⊎ (b.0 ≡ count_of t) → a ≡ b
      second known = ⊎_elim (λ kb.
          sound.distinct a b some (sym (term_of-added_old a known) ∙ ha) (sym (term_of-added_old b kb) ∙ hb))
          (λ e. absurd (apart a b known e ha hb))

      first_old : a.0 < count_of t → a ≡ b
      first_old known = second known (old_or_new b.0 (known_term (added t term) b some hb))

      first_new : a.0 ≡ count_of t → a ≡ b
      first_new e = ⊎_elim (λ kb. absurd (apart b a kb e hb ha)) (λ eb. TermId-ext a b (e ∙ sym eb))
          (old_or_new b.0 (known_term (added t term) b some hb))

  pub sound-added : IsSound t → Fits t term → ((id : TermId) → term_of t id ≡ Some term → ⊥) → IsSound (added t term)
  sound-added sound fits absent =
      record { inputs = sound.inputs; entries = entries-added sound fits; distinct = distinct-added sound absent }
