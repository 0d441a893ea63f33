-- Memories in which all values are of their types, and what is put into them.
use Rattle.std.proofs.Common.{◌≡◌, ℕ, zero, suc, ◌<◌, Bool, true, false, cond, Option, None, Some, List, [], ◌∷◌, ◌++◌, refl, sym, ap, ◌∙◌, subst, rules, find, position}
use Rattle.std.specs.Prelude.{⊤, ◌&&◌, nat_eq, slice_get, slice_index, slice_set, unwrap_or}
use Rattle.std.specs.Cmp.Lexicographic.{pointwise}
use Rattle.std.specs.List.{AllByRecursion, AllZip}
use Rattle.std.specs.Option.{option_map, option_map_or, option_and_then, option_to_list}
use Rattle.tm_syntax.specs.declared.design.Ty.{Ty}
use Rattle.tm_syntax.specs.declared.design.Ty.TheVariants as types
use Rattle.tm_syntax.specs.declared.design.Var.{Var}
use Rattle.tm_syntax.specs.declared.tree.Ident.{Ident}
use Rattle.tm_syntax.specs.Tree.{SpecTree}
use Rattle.tm_syntax.specs.Scopes.Names.{last_name}
use Rattle.tm_syntax.specs.Scopes.Context.{BodyName, Frame, Slot, frame_of, outside, process_body, slot_named, task_body}
use Rattle.tm_syntax.specs.Design.{DesignTree, member_path}
use Rattle.tm_syntax.specs.Design.Cells.{Cell, cell, cell_type, in_state, in_step, member_cell, own_cell, slot_cell, variable_at, variable_path}
use Rattle.tm_syntax.specs.Design.Scope.{Scope, Site, same_body, same_scope, site, site_along}
use Rattle.tm_syntax.specs.Design.Sizes.{type_size}
use Rattle.tm_sem.specs.Run.{asked_by, put_in}
use Rattle.tm_sem.specs.Value.{Memory, Passing, put, read}
use Rattle.tm_typing.proofs.Fitting.{both_true}
use Rattle.tm_typing.proofs.Listed.{holds_in, no_thing, of_find, one_thing}
use Rattle.tm_states.specs.States.{HoldsValues}
use Rattle.tm_design.proofs.Found.{and_then_is, map_is}

-- texts that agree byte by byte are one
pub same_bytes : (m n : List ℕ) → pointwise nat_eq m n ≡ true → m ≡ n
same_bytes m n test = search rules

same_number : (m n : ℕ) → nat_eq m n ≡ true → m ≡ n
same_number m n test = search rules

same_bodies : (a b : BodyName) → same_body a b ≡ true → a ≡ b
same_bodies (process_body j) (process_body k) test = ap process_body (same_number j k test)
same_bodies (process_body j) (task_body k) test = absurd (cc)
same_bodies (process_body j) outside test = absurd (cc)
same_bodies (task_body j) (process_body k) test = absurd (cc)
same_bodies (task_body j) (task_body k) test = ap task_body (same_number j k test)
same_bodies (task_body j) outside test = absurd (cc)
same_bodies outside (process_body k) test = absurd (cc)
same_bodies outside (task_body k) test = absurd (cc)
same_bodies outside outside test = refl

same_scopes : (a b : Scope) → same_scope a b ≡ true → a ≡ b
same_scopes a b test =
    let parts = both_true (nat_eq a.instance b.instance) (same_body a.body b.body) test in
    let numbers = same_number a.instance b.instance parts.0 in
    let bodies = same_bodies a.body b.body parts.1 in
    (λ i. record { instance = numbers i; body = bodies i })

-- a value that is put at an index is one of the type there
set_fits : (spec : SpecTree) (vars : List Var) (values : List ℕ) (k n : ℕ) →
    AllZip (λ (v : Var) m. m < type_size spec v.ty) vars values →
    n < type_size spec (unwrap_or (option_map (λ (v : Var). v.ty) (slice_get vars k)) types.Bool) →
    AllZip (λ (v : Var) m. m < type_size spec v.ty) vars (slice_set values k n)
set_fits spec [] [] k n all less = tt
set_fits spec [] (m ∷ ms) k n all less = elim all [ ]
set_fits spec (v ∷ vs) [] k n all less = elim all [ ]
set_fits spec (v ∷ vs) (m ∷ ms) zero n all less = (less, all.1)
set_fits spec (v ∷ vs) (m ∷ ms) (suc k) n all less = (all.0, set_fits spec vs ms k n all.1 less)

-- a state variable holds a value of its type
variable_holds : (spec : SpecTree) (vars : List Var) (values : List ℕ) (k : ℕ) (ty : Ty) →
    AllZip (λ (v : Var) n. n < type_size spec v.ty) vars values →
    option_map (λ (v : Var). v.ty) (slice_get vars k) ≡ Some ty → slice_index values k < type_size spec ty
variable_holds spec [] values k ty zip is = no_thing is
variable_holds spec (v ∷ vs) [] k ty zip is = elim zip [ ]
variable_holds spec (v ∷ vs) (n ∷ ns) zero ty zip is =
    let same : v.ty ≡ ty = one_thing refl is in subst (λ t. n < type_size spec t) same zip.0
variable_holds spec (v ∷ vs) (n ∷ ns) (suc k) ty zip is = variable_holds spec vs ns k ty zip.1 is

module _ (d : DesignTree) where
  -- the parameter or local that a name means in a body
  abbrev pub slot_at : Scope → List ℕ → Option Slot
  slot_at scope name =
      option_and_then (λ (at : Site). option_and_then (λ (f : Frame). slot_named f name)
      (frame_of d.spec at.template scope.body)) (site d scope.instance)

  -- what lives for a step is a value of the type of the parameter or local that has its name
  abbrev pub FitsSlot : Passing → Type 0
  FitsSlot p = (s : Slot) → slot_at p.scope p.name ≡ Some s → p.value < type_size d.spec s.ty

  -- each state variable, and each that lives for a step, has a value of its type
  pub record HoldsTyped (m : Memory) : Type 0 where
    pub values : AllZip (λ (v : Var) n. n < type_size d.spec v.ty) d.vars m.values
    pub passing : AllByRecursion FitsSlot m.passing

  -- a cell that lives for a step is of the type of the parameter or local that has its name
  abbrev pub IsOwn : Cell → Type 0
  IsOwn (in_state k) = ⊤
  IsOwn (in_step scope name ty) = (s : Slot) → slot_at scope name ≡ Some s → s.ty ≡ ty

  pub put_typed : (m : Memory) (c : Cell) (n : ℕ) → HoldsTyped m → IsOwn c →
      n < type_size d.spec (asked_by d (Some c)) → HoldsTyped (put m c n)
  put_typed m (in_state k) n typed own less = record {
    values = set_fits d.spec d.vars m.values k n typed.values less;
    passing = typed.passing;
  }
  put_typed m (in_step scope name ty) n typed own less = record {
    values = typed.values;
    passing = (λ s is. subst (λ t. n < type_size d.spec t) (sym (own s is)) less, typed.passing);
  }

  pub put_in_typed : (m : Memory) (target : Option Cell) (n : ℕ) → HoldsTyped m →
      ((c : Cell) → target ≡ Some c → IsOwn c × (n < type_size d.spec (asked_by d (Some c)))) →
      HoldsTyped (put_in m target n)
  put_in_typed m None n typed fits = typed
  put_in_typed m (Some c) n typed fits = let both = fits c refl in put_typed m c n typed both.0 both.1

  -- a state variable does not live for a step
  variable_stays : {X : Type 0} (path : List ℕ) (scope : Scope) (name : List ℕ) (ty : Ty) →
      variable_at d path ≡ Some (in_step scope name ty) → X
  variable_stays path scope name ty is =
      let found = map_is in_state (position (λ (v : Var). pointwise nat_eq path v.path) d.vars)
      (in_step scope name ty) is in
      absurd (cc)

  member_stays : {X : Type 0} (at : Site) (names : List Ident) (index : Option ℕ) (scope : Scope) (name : List ℕ)
      (ty : Ty) → member_cell d at names index ≡ Some (in_step scope name ty) → X
  member_stays at names index scope name ty is =
      let found = and_then_is (λ (s : Site). variable_at d (variable_path s.node (last_name names) index))
      (site_along d at names) (in_step scope name ty) is in
      variable_stays (variable_path found.0.node (last_name names) index) scope name ty found.2

  -- a cell that lives for a step is that of a parameter or local
  slot_is : (scope own : Scope) (at : Site) (f : Frame) (s : Slot) (name : List ℕ) (ty : Ty) (kept : Bool) →
      cond kept (variable_at d (member_path at.node.path f.name ++ 46 ∷ s.name)) (Some (in_step scope s.name s.ty))
      ≡ Some (in_step own name ty) → (scope ≡ own) × (s.name ≡ name) × (s.ty ≡ ty)
  slot_is scope own at f s name ty true is =
      variable_stays (member_path at.node.path f.name ++ 46 ∷ s.name) own name ty is
  slot_is scope own at f s name ty false is =
      let same : in_step scope s.name s.ty ≡ in_step own name ty = one_thing refl is in
      let scopes : scope ≡ own = cc in
      let names : s.name ≡ name = cc in
      let tys : s.ty ≡ ty = cc in
      (scopes, names, tys)

  -- what a path means that lives for a step has its name and type
  pub record IsSlot (scope : Scope) (name : List ℕ) (ty : Ty) : Type 0 where
    pub slot : Slot
    pub is : slot_at scope name ≡ Some slot
    pub typed : slot.ty ≡ ty

  own_slot : (scope own : Scope) (at : Site) → site d scope.instance ≡ Some at → (names : List Ident)
      (name : List ℕ) (ty : Ty) → own_cell d scope at names ≡ Some (in_step own name ty) → IsSlot own name ty
  own_slot scope own at there [] name ty is = no_thing is
  own_slot scope own at there (first ∷ next ∷ names) name ty is = no_thing is
  own_slot scope own at there (first ∷ []) name ty is =
      let f = and_then_is (λ (f : Frame). option_and_then (slot_cell d scope at f) (slot_named f first.text))
      (frame_of d.spec at.template scope.body) (in_step own name ty) is in
      let s = and_then_is (slot_cell d scope at f.0) (slot_named f.0 first.text) (in_step own name ty) f.2 in
      let same = slot_is scope own at f.0 s.0 name ty f.0.kept s.2 in
      let spelled = of_find (λ (t : Slot). pointwise nat_eq first.text t.name) f.0.slots s.1 in
      let text : first.text ≡ name = same_bytes first.text s.0.name spelled.1 ∙ same.1 in
      record {
        slot = s.0;
        is = subst (λ (b : Scope). slot_at b name ≡ Some s.0) same.0
            (ap (option_and_then (λ (at : Site). option_and_then (λ (f : Frame). slot_named f name)
            (frame_of d.spec at.template scope.body))) there
            ∙ ap (option_and_then (λ (f : Frame). slot_named f name)) f.1
            ∙ ap (slot_named f.0) (sym text) ∙ s.1);
        typed = same.2;
      }

  pub cell_slot : (scope own : Scope) (names : List Ident) (index : Option ℕ) (name : List ℕ) (ty : Ty) →
      cell d scope names index ≡ Some (in_step own name ty) → IsSlot own name ty
  cell_slot scope own names index name ty is =
      let at = and_then_is (λ (at : Site). slice_get (option_to_list (own_cell d scope at names)
      ++ option_to_list (member_cell d at names index)) 0) (site d scope.instance) (in_step own name ty) is in
      by at.0 at.1 (own_cell d scope at.0 names) refl (member_cell d at.0 names index) refl at.2
    where
      by : (at : Site) → site d scope.instance ≡ Some at → (a : Option Cell) → own_cell d scope at names ≡ a →
          (b : Option Cell) → member_cell d at names index ≡ b →
          slice_get (option_to_list a ++ option_to_list b) 0 ≡ Some (in_step own name ty) → IsSlot own name ty
      by at there (Some c) first b second found = own_slot scope own at there names name ty (first ∙ found)
      by at there None first (Some c) second found = member_stays at names index own name ty (second ∙ found)
      by at there None first None second found = no_thing found

  -- so it is its own
  pub cell_own : (scope : Scope) (names : List Ident) (index : Option ℕ) (c : Cell) →
      cell d scope names index ≡ Some c → IsOwn c
  cell_own scope names index (in_state k) is = tt
  cell_own scope names index (in_step own name ty) is =
      let found = cell_slot scope own names index name ty is in
      λ s there. ap (λ (t : Slot). t.ty) (one_thing there found.is) ∙ found.typed

  -- what lives for a step is read as a value of its type
  passing_holds : (scope : Scope) (name : List ℕ) (slot : Slot) → slot_at scope name ≡ Some slot →
      0 < type_size d.spec slot.ty → (ps : List Passing) → AllByRecursion FitsSlot ps →
      option_map_or (λ (p : Passing). p.value)
      (find (λ (p : Passing). same_scope scope p.scope && pointwise nat_eq name p.name) ps) 0 < type_size d.spec slot.ty
  passing_holds scope name slot is filled ps all =
      by (find (λ (p : Passing). same_scope scope p.scope && pointwise nat_eq name p.name) ps) refl
    where
      by : (o : Option Passing) →
          find (λ (p : Passing). same_scope scope p.scope && pointwise nat_eq name p.name) ps ≡ o →
          option_map_or (λ (p : Passing). p.value) o 0 < type_size d.spec slot.ty
      by None none = filled
      by (Some p) found =
          let there = of_find (λ (p : Passing). same_scope scope p.scope && pointwise nat_eq name p.name) ps found in
          let both = both_true (same_scope scope p.scope) (pointwise nat_eq name p.name) there.1 in
          let scopes = same_scopes scope p.scope both.0 in
          let names = same_bytes name p.name both.1 in
          holds_in FitsSlot {x = p} ps all there.0 slot (ap (λ b. slot_at b p.name) (sym scopes)
          ∙ ap (slot_at scope) (sym names) ∙ is)

  -- each cell that a path means holds a value of its type
  pub typed_holds : (m : Memory) → HoldsTyped m → HoldsValues d m
  typed_holds m typed = record {
    cells = λ scope names index c ty found is filled. by scope names index c ty found is filled;
  }
    where
      by : (scope : Scope) (names : List Ident) (index : Option ℕ) (c : Cell) (ty : Ty) →
          cell d scope names index ≡ Some c → cell_type d c ≡ Some ty → 0 < type_size d.spec ty →
          read m c < type_size d.spec ty
      by scope names index (in_state k) ty found is filled =
          variable_holds d.spec d.vars m.values k ty typed.values is
      by scope names index (in_step own name own_ty) ty found is filled =
          let slot = cell_slot scope own names index name own_ty found in
          let same : slot.slot.ty ≡ ty = slot.typed ∙ one_thing refl is in
          subst (λ t. read m (in_step own name own_ty) < type_size d.spec t) same
          (passing_holds own name slot.slot slot.is (subst (λ t. 0 < type_size d.spec t) (sym same) filled) m.passing
          typed.passing)
