-- Where no name is declared twice in a scope, each part of the scope declares each name once.
use Rattle.std.proofs.Common.{◌≡◌, Bool, true, List, [], ◌∷◌, ◌++◌, ◌⊎◌, inl, inr, sym, ◌∙◌, subst, map}
use Rattle.std.specs.List.{filter}
use Rattle.tm_syntax.specs.declared.tree.Ident.{Ident}
use Rattle.tm_syntax.specs.Scopes.Names.{is_spelled}
use Rattle.tm_syntax.specs.Scopes.Declared.{Sort, Declared, declared}
use Rattle.tm_syntax.specs.Faults.Marks.{Mark, named}
use Rattle.tm_syntax.specs.Faults.Names.{repeats, later_name}
use Rattle.tm_typing.proofs.Fitting.{both_empty}
use Rattle.tm_typing.proofs.Listed.{In, is_first_or_later, in_front, in_behind, in_map, in_filter}
use Rattle.tm_typing.proofs.Declaring.{alike_back}

-- the later of two declarations, as a fault
abbrev repeated : Declared → Declared → Mark
repeated d e = named (later_name d.name e.name)

abbrev has_name_of : Declared → Declared → Bool
has_name_of d e = is_spelled d.name.text e.name

-- no later declaration has the name of the first one
first_once : {X : Type 0} (d x : Declared) (ds : List Declared) → repeats (d ∷ ds) ≡ [] → In x ds →
    is_spelled d.name.text x.name ≡ true → X
first_once {X} d x ds once i e =
    nowhere (subst (In (repeated d x)) (both_empty (map (repeated d) (filter (has_name_of d) ds)) (repeats ds) once).0
    (in_map (repeated d) (filter (has_name_of d) ds) (in_filter (has_name_of d) ds i e)))
  where
    nowhere : In (repeated d x) [] → X
    nowhere i = elim i [ ]

others_once : (d : Declared) (ds : List Declared) → repeats (d ∷ ds) ≡ [] → repeats ds ≡ []
others_once d ds once = (both_empty (map (repeated d) (filter (has_name_of d) ds)) (repeats ds) once).1

-- what stands behind others is declared once
pub behind_once : (front behind : List Declared) → repeats (front ++ behind) ≡ [] → repeats behind ≡ []
behind_once [] behind once = once
behind_once (d ∷ front) behind once = behind_once front behind (others_once d (front ++ behind) once)

-- what stands in front and what stands behind have different names
pub apart : {X : Type 0} (x y : Declared) (front behind : List Declared) → repeats (front ++ behind) ≡ [] →
    In x front → In y behind → is_spelled x.name.text y.name ≡ true → X
apart x y [] behind once i j e = elim i [ ]
apart {X} x y (d ∷ front) behind once i j e =
    by (is_first_or_later front i) (apart x y front behind (others_once d (front ++ behind) once))
  where
    by : (d ≡ x) ⊎ In x front → (In x front → In y behind → is_spelled x.name.text y.name ≡ true → X) → X
    by (inl is) deeper =
        first_once d y (front ++ behind) once (in_behind front behind j)
        (subst (λ (z : Declared). is_spelled z.name.text y.name ≡ true) (sym is) e)
    by (inr k) deeper = deeper k j e

-- a thing, declared by its name
abbrev declare : {X : Type 0} → (X → Ident) → (X → Sort) → X → Declared
declare name sort x = declared (sort x) (name x)

-- of things that are declared in a row, two of one name are one
pub one_of_name : {X : Type 0} (name : X → Ident) (sort : X → Sort) (xs : List X) (behind : List Declared) (x y : X) →
    repeats (map (λ z. declared (sort z) (name z)) xs ++ behind) ≡ [] → In x xs → In y xs →
    is_spelled (name x).text (name y) ≡ true → x ≡ y
one_of_name name sort [] behind x y once i j e = elim i [ ]
one_of_name {X} name sort (z ∷ xs) behind x y once i j e =
    by (is_first_or_later xs i) (is_first_or_later xs j)
    (one_of_name name sort xs behind x y
    (others_once (declare name sort z) (map (declare name sort) xs ++ behind) once))
  where
    of_first : (w : X) → In w xs → is_spelled (name z).text (name w) ≡ true → x ≡ y
    of_first w i e =
        first_once (declare name sort z) (declare name sort w) (map (declare name sort) xs ++ behind) once
        (in_front (map (declare name sort) xs) behind (in_map (declare name sort) xs i)) e

    by : (z ≡ x) ⊎ In x xs → (z ≡ y) ⊎ In y xs →
        (In x xs → In y xs → is_spelled (name x).text (name y) ≡ true → x ≡ y) → x ≡ y
    by (inl is) (inl same) deeper = sym is ∙ same
    by (inl is) (inr j) deeper = of_first y j (subst (λ (w : X). is_spelled (name w).text (name y) ≡ true) (sym is) e)
    by (inr i) (inl same) deeper =
        of_first x i
        (alike_back (name x) (name z) (subst (λ (w : X). is_spelled (name x).text (name w) ≡ true) (sym same) e))
    by (inr i) (inr j) deeper = deeper i j e
