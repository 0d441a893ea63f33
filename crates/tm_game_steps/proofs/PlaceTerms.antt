-- Places of rows, listed one by one.
use Rattle.std.proofs.Common.{◌≡◌, ⊎_elim, ℕ, ◌+◌, ◌<◌, ◌≤◌, Bool, List, [], ◌∷◌, ◌++◌, Option, None, Some, Vec, length, get_or, inl, inr, sym, ap, ◌∙◌, subst, arith, length-append}
use Rattle.std.specs.Prelude.{Any, slice_get}
use Rattle.std.specs.Option.{option_and_then, option_map}
use Rattle.std.specs.declared.alloc.Global.{Global}
use Rattle.std.proofs.lemmas.Bool.{cases_lt}
use Rattle.std.proofs.lemmas.List.{get_or_append_left}
use Rattle.std.proofs.lemmas.List.Elements.{All-nil, All-push, All-weaker}
use Rattle.std.proofs.lemmas.List.Quantifiers.{Any-push}
use Rattle.std.proofs.lemmas.Option.{slice_get-get_or, slice_get-map, slice_get_past}
use Rattle.tm_game_steps.specs.declared.places.Place.{Place}
use Rattle.tm_game_steps.specs.Inner.Below.{ArePlacesBelow, IsBefore}
use Rattle.tm_game_steps.specs.Places.{ArePlaces, IsAt, IsPlace, IsTest, flag_at, flags_of}
use Rattle.tm_term.specs.declared.term.TermId.{TermId}
use Rattle.tm_term.specs.Table.{Table}
use Rattle.tm_term.specs.Value.{Extends}

pub IsTest-Extends : (t u : Table) (input value : ℕ) (id : TermId) → Extends t u → IsTest t input value id →
    IsTest u input value id
IsTest-Extends t u input value id e is = record {
  known = e.known id is.known;
  width = e.widths id is.known ∙ is.width;
  is = λ values. e.values values id is.known ∙ is.is values;
}

-- ---- tables
-- a place of a row
pub flag_there : (rows : List (Vec Bool Global)) (p k : ℕ) (row : Vec Bool Global) (d : Bool) → p < length rows →
    row ≡ get_or rows p row → k < length row.items → flag_at (flags_of rows) p k ≡ Some (get_or row.items k d)
flag_there rows p k row d inside is within =
    ap (λ (o : Option (List Bool)). option_and_then (λ r. slice_get r k) o)
    (slice_get-map (λ (r : Vec Bool Global). r.items) rows p
    ∙ ap (option_map (λ (r : Vec Bool Global). r.items)) (slice_get-get_or rows p row inside ∙ ap Some (sym is)))
    ∙ slice_get-get_or row.items k d within

-- past the end of a row there is no place
pub none_past : (rows : List (Vec Bool Global)) (p k : ℕ) (row : Vec Bool Global) → p < length rows →
    row ≡ get_or rows p row → length row.items ≤ k → flag_at (flags_of rows) p k ≡ None
none_past rows p k row inside is past =
    ap (λ (o : Option (List Bool)). option_and_then (λ r. slice_get r k) o)
    (slice_get-map (λ (r : Vec Bool Global). r.items) rows p
    ∙ ap (option_map (λ (r : Vec Bool Global). r.items)) (slice_get-get_or rows p row inside ∙ ap Some (sym is)))
    ∙ slice_get_past row.items k past

-- past the last row there is none
none_behind : (rows : List (List Bool)) (p k : ℕ) → length rows ≤ p → flag_at rows p k ≡ None
none_behind rows p k past =
    ap (λ (o : Option (List Bool)). option_and_then (λ r. slice_get r k) o) (slice_get_past rows p past)

-- ---- lists of places
some_earlier : {X : Type 0} (P : X → Type 0) (xs : List X) (y : X) → Any P xs → Any P (xs ++ y ∷ [])
some_earlier P xs y found = (
  found.0,
  found.1,
  omega (arith, found.2, length-append xs (y ∷ [])),
  get_or_append_left xs (y ∷ []) found.1 found.0 found.2 ∙ found.3,
  found.4,
)

pub places_none : (t : Table) (rows : List (List Bool)) (first : ℕ) → ArePlacesBelow t rows first 0 0 []
places_none t rows first = record {
  each = All-nil (IsPlace t rows first);
  all = λ p k magic there before. ⊎_elim (λ earlier. absurd (omega arith)) (λ here. absurd (omega (arith, here.1)))
      before;
}

pub places_kept : (t u : Table) (rows : List (List Bool)) (first row end : ℕ) (places : List Place) → Extends t u →
    ArePlacesBelow t rows first row end places → ArePlacesBelow u rows first row end places
places_kept t u rows first row end places e are = record {
  each = All-weaker (IsPlace t rows first) (IsPlace u rows first)
      (λ (x : Place) is. record {
        there = is.there;
        stands = IsTest-Extends t u (first + x.process) x.location x.stands e is.stands;
      }) places are.each;
  all = are.all;
}

-- one more place of a row
pub places_more : (t u : Table) (rows : List (List Bool)) (first row end : ℕ) (places new : List Place) (x : Place) →
    Extends t u → ArePlacesBelow t rows first row end places → IsTest u (first + row) end x.stands →
    flag_at rows row end ≡ Some x.magic → x.process ≡ row → x.location ≡ end → new ≡ places ++ x ∷ [] →
    ArePlacesBelow u rows first row (end + 1) new
places_more t u rows first row end places new x e are tests there process location pushed =
    let kept = places_kept t u rows first row end places e are in
    let is : IsPlace u rows first x = record {
      there = (λ i. flag_at rows (process i) (location i)) ∙ there;
      stands = subst (λ (p : ℕ). IsTest u (first + p) x.location x.stands) (sym process)
          (subst (λ (k : ℕ). IsTest u (first + row) k x.stands) (sym location) tests);
    } in
    subst (ArePlacesBelow u rows first row (end + 1)) (sym pushed) (record {
      each = All-push (IsPlace u rows first) places x kept.each is;
      all = all kept;
    })
  where
    here : (p k : ℕ) (magic : Bool) → flag_at rows p k ≡ Some magic → p ≡ row → k ≡ end → IsAt p k magic x
    here p k magic at same_row same_end =
        let same : Some x.magic ≡ Some magic =
        sym there ∙ (λ i. flag_at rows (sym same_row i) (sym same_end i)) ∙ at in
        record { process = process ∙ sym same_row; location = location ∙ sym same_end; block = cc }

    all : ArePlacesBelow u rows first row end places → (p k : ℕ) (magic : Bool) → flag_at rows p k ≡ Some magic →
        IsBefore row (end + 1) p k → Any (IsAt p k magic) (places ++ x ∷ [])
    all kept p k magic at (inl earlier) =
        some_earlier (IsAt p k magic) places x (kept.all p k magic at (inl earlier))
    all kept p k magic at (inr in_row) =
        elim (cases_lt k end) as (λ _. Any (IsAt p k magic) (places ++ x ∷ [])) [
          | inl before ↦
              some_earlier (IsAt p k magic) places x (kept.all p k magic at (inr (in_row.0, before)))
          | inr behind ↦
              let last : k ≡ end = omega (arith, in_row.1) in
              Any-push (IsAt p k magic) places x (here p k magic at in_row.0 last)
        ]

-- the end of a row
pub places_row : (t : Table) (rows : List (Vec Bool Global)) (first p end : ℕ) (row : Vec Bool Global)
    (places : List Place) → p < length rows → row ≡ get_or rows p row → length row.items ≤ end →
    ArePlacesBelow t (flags_of rows) first p end places → ArePlacesBelow t (flags_of rows) first (p + 1) 0 places
places_row t rows first p end row places inside is past are = record { each = are.each; all = all }
  where
    all : (q k : ℕ) (magic : Bool) → flag_at (flags_of rows) q k ≡ Some magic → IsBefore (p + 1) 0 q k →
        Any (IsAt q k magic) places
    all q k magic at (inr none) = absurd (omega (arith, none.1))
    all q k magic at (inl earlier) =
        elim (cases_lt q p) as (λ _. Any (IsAt q k magic) places) [
          | inl before ↦ are.all q k magic at (inl before)
          | inr here ↦
              let same : q ≡ p = omega arith in
              elim (cases_lt k end) as (λ _. Any (IsAt q k magic) places) [
                | inl within ↦ are.all q k magic at (inr (same, within))
                | inr behind ↦
                    let none = none_past rows p k row inside is (omega arith) in
                    let two : None ≡ Some magic =
                    sym none ∙ ap (λ r. flag_at (flags_of rows) r k) (sym same) ∙ at in
                    absurd (cc)
              ]
        ]

-- the end of all rows
pub places_all : (t : Table) (rows : List (Vec Bool Global)) (first p : ℕ) (places : List Place) → length rows ≤ p →
    ArePlacesBelow t (flags_of rows) first p 0 places → ArePlaces t (flags_of rows) first places
places_all t rows first p places past are = record { each = are.each; all = all }
  where
    all : (q k : ℕ) (magic : Bool) → flag_at (flags_of rows) q k ≡ Some magic → Any (IsAt q k magic) places
    all q k magic at =
        elim (cases_lt q p) as (λ _. Any (IsAt q k magic) places) [
          | inl before ↦ are.all q k magic at (inl before)
          | inr behind ↦
              let long = Rattle.std.proofs.lemmas.List.length-map rows (λ (r : Vec Bool Global). r.items) in
              let two : None ≡ Some magic = sym (none_behind (flags_of rows) q k (omega (arith, long))) ∙ at in
              absurd (cc)
        ]
