-- What a path means in a body: a parameter or local before a member, and in which variable it is kept.
use Rattle.std.proofs.Common.{◌≡◌, ◌<◌, ℕ, zero, suc, length, position, arith, subst, Bool, true, false, Option, None, Some, List, [], ◌∷◌, ◌++◌, find, nat_eq, slice_get, if◌then◌else◌, refl, sym, ap, ◌∙◌, true≢false, cond}
use Rattle.std.specs.Prelude.{◌&&◌, IfSome}
use Rattle.std.proofs.lemmas.Bool.{eqb-true}
use Rattle.std.proofs.lemmas.Option.{none-some, same_Some}
use Rattle.std.specs.Cmp.Lexicographic.{pointwise}
use Rattle.std.specs.Option.{option_map, option_and_then, option_map_or, option_or, option_to_list}
use Rattle.tm_syntax.specs.declared.tree.Ident.{Ident}
use Rattle.tm_syntax.specs.Scopes.Context.{Context, Frame, Slot, frame_of, local_slot, param_slot, slot_named, slot_of}
use Rattle.tm_syntax.specs.Scopes.Names.{is_spelled, last_name}
use Rattle.tm_syntax.specs.Tree.View.{local_tree}
use Rattle.tm_syntax.specs.Design.{DesignTree, member_path}
use Rattle.tm_syntax.specs.Design.Cells.{Cell, in_step, variable_at, variable_path, slot_cell, own_cell, member_cell}
use Rattle.tm_syntax.specs.Design.Scope.{Scope, Site, site_along}
use Rattle.tm_scope.specs.Cells.{scope_of}
use Rattle.tm_scope.specs.Context.{body_name}
use Rattle.tm_scope.specs.Inner.Slots.{slot_number}
use Rattle.tm_scope.specs.Inner.Tables.{BodySlots}
use Rattle.tm_scope.specs.Members.{numbered_slot}
use Rattle.tm_scope.specs.declared.cells.site_body.SiteBody.{SiteBody}
use Rattle.tm_scope.specs.declared.members.SlotNumber.{SlotNumber}
use Rattle.tm_scope.specs.declared.members.SlotNumber.TheVariants.{Param, Local}
use Rattle.tm_scope.proofs.Positions.{position-below}

both : (a b : Bool) → (a && b) ≡ true → (a ≡ true) × (b ≡ true)
both true b e = (refl, e)
both false b e = absurd (true≢false (sym e))

-- texts that are pointwise equal are one
pub same_text : (a b : List ℕ) → pointwise nat_eq a b ≡ true → a ≡ b
same_text [] [] e = refl
same_text [] (y ∷ ys) e = absurd (true≢false (sym e))
same_text (x ∷ xs) [] e = absurd (true≢false (sym e))
same_text (x ∷ xs) (y ∷ ys) e =
    let split : (nat_eq x y ≡ true) × (pointwise nat_eq xs ys ≡ true) = both (nat_eq x y) (pointwise nat_eq xs ys) e in
    λ i. eqb-true x y split.0 i ∷ same_text xs ys split.1 i

-- what a list finds passes
find-passes : {X : Type 0} (p : X → Bool) (xs : List X) (x : X) → find p xs ≡ Some x → p x ≡ true
find-passes p [] x e = absurd (none-some x e)
find-passes {X} p (y ∷ ys) x e = by (p y) refl (find-passes p ys x) e
  where
    by : (here : Bool) → p y ≡ here → (find p ys ≡ Some x → p x ≡ true) →
        cond here (Some y) (find p ys) ≡ Some x → p x ≡ true
    by true passes later found = ap p (sym (same_Some y x found)) ∙ passes
    by false fails later found = later found

-- an index within a list has an element
element_at : {X : Type 0} (xs : List X) (k : ℕ) → k < length xs → (x : X) × (slice_get xs k ≡ Some x)
element_at [] k within = absurd (omega arith)
element_at (x ∷ xs) zero within = (x, refl)
element_at (x ∷ xs) (suc k) within = element_at xs k (omega arith)

none-then : {X Y : Type 0} (o : Option X) → None ≡ option_and_then {T = X} {U = Y} (λ _. None) o
none-then None = refl
none-then (Some x) = refl

-- the parameter or local of a body that a path of one name means
abbrev pub in_frame : Frame → List Ident → Option Slot
in_frame frame (name ∷ []) = slot_named frame name.text
in_frame frame _ = None

pub slot_of-frame : (c : Context) (path : List Ident) →
    slot_of c path ≡ option_and_then (λ f. in_frame f path) (frame_of c.spec c.template c.body)
slot_of-frame c [] = none-then (frame_of c.spec c.template c.body)
slot_of-frame c (name ∷ []) = refl
slot_of-frame c (name ∷ next ∷ names) = none-then (frame_of c.spec c.template c.body)

own_cell-frame : (d : DesignTree) (scope : Scope) (s : Site) (path : List Ident) →
    own_cell d scope s path
    ≡ option_and_then (λ f. option_and_then (slot_cell d scope s f) (in_frame f path))
    (frame_of d.spec s.template scope.body)
own_cell-frame d scope s [] = none-then (frame_of d.spec s.template scope.body)
own_cell-frame d scope s (name ∷ []) = refl
own_cell-frame d scope s (name ∷ next ∷ names) = none-then (frame_of d.spec s.template scope.body)

named-last : (f : Frame) (path : List Ident) (slot : Slot) → in_frame f path ≡ Some slot → slot.name ≡ last_name path
named-last f [] slot e = absurd (none-some slot e)
named-last f (name ∷ []) slot e =
    sym (same_text name.text slot.name (find-passes (λ (s : Slot). pointwise nat_eq name.text s.name) f.slots slot e))
named-last f (name ∷ next ∷ names) slot e = absurd (none-some slot e)

module _ (d : DesignTree) (at : SiteBody) (path : List Ident) where
  -- the body, the parameter or local, and its cell, where a site is known
  abbrev pub frames : Option Site → Option Frame
  frames o = option_and_then (λ s. frame_of d.spec s.template (body_name at.body)) o

  abbrev pub slots : Option Site → Option Slot
  slots o =
      option_and_then (λ c. slot_of c path)
      (option_map (λ (s : Site). record { spec = d.spec; template = s.template; body = body_name at.body }) o)

  abbrev pub owns : Option Site → Option Cell
  owns o = option_and_then (λ s. own_cell d (scope_of at) s path) o

  abbrev stepped : Slot → Cell
  stepped slot = in_step (scope_of at) slot.name slot.ty

  module _ (s : Site) where
    abbrev cells_of : Option Frame → Option Cell
    cells_of o = option_and_then (λ f. option_and_then (slot_cell d (scope_of at) s f) (in_frame f path)) o

    no_slot : (o : Option Frame) → option_and_then (λ f. in_frame f path) o ≡ None → cells_of o ≡ None
    no_slot None e = refl
    no_slot (Some f) e = ap (option_and_then (slot_cell d (scope_of at) s f)) e

    in_passing : (f : Frame) (o : Option Slot) → f.kept ≡ false →
        option_and_then (slot_cell d (scope_of at) s f) o ≡ option_map stepped o
    in_passing f None k = refl
    in_passing f (Some slot) k =
        ap (λ b. if b then variable_at d (member_path s.node.path f.name ++ 46 ∷ slot.name)
        else Some (stepped slot)) k

    step_slot : (o : Option Frame) → option_map_or (λ (f : Frame). f.kept) o false ≡ false →
        cells_of o ≡ option_map stepped (option_and_then (λ f. in_frame f path) o)
    step_slot None k = refl
    step_slot (Some f) k = in_passing f (in_frame f path) k

    kept_slot : (o : Option Frame) → option_map_or (λ (f : Frame). f.kept) o false ≡ true → (slot : Slot) →
        option_and_then (λ f. in_frame f path) o ≡ Some slot →
        cells_of o ≡ variable_at d
        (member_path s.node.path (option_map_or (λ (f : Frame). f.name) o []) ++ 46 ∷ last_name path)
    kept_slot None k slot e = absurd (none-some slot e)
    kept_slot (Some f) k slot e =
        ap (option_and_then (slot_cell d (scope_of at) s f)) e
        ∙ ap (λ b. if b then variable_at d (member_path s.node.path f.name ++ 46 ∷ slot.name)
        else Some (stepped slot)) k
        ∙ ap (λ n. variable_at d (member_path s.node.path f.name ++ 46 ∷ n)) (named-last f path slot e)

    frame_slot : slots (Some s) ≡ option_and_then (λ f. in_frame f path) (frames (Some s))
    frame_slot = slot_of-frame (record { spec = d.spec; template = s.template; body = body_name at.body }) path

  pub own-nowhere : (o : Option Site) → slots o ≡ None → owns o ≡ None
  own-nowhere None e = refl
  own-nowhere (Some s) e =
      own_cell-frame d (scope_of at) s path ∙ no_slot s (frames (Some s)) (sym (frame_slot s) ∙ e)

  pub own-stepped : (o : Option Site) → option_map_or (λ (f : Frame). f.kept) (frames o) false ≡ false →
      owns o ≡ option_map (λ (slot : Slot). in_step (scope_of at) slot.name slot.ty) (slots o)
  own-stepped None k = refl
  own-stepped (Some s) k =
      own_cell-frame d (scope_of at) s path ∙ step_slot s (frames (Some s)) k
      ∙ ap (option_map stepped) (sym (frame_slot s))

  pub own-kept : (o : Option Site) → option_map_or (λ (f : Frame). f.kept) (frames o) false ≡ true → (slot : Slot) →
      slots o ≡ Some slot →
      owns o ≡ option_and_then (λ s. variable_at d
      (member_path s.node.path (option_map_or (λ (f : Frame). f.name) (frames o) []) ++ 46 ∷ last_name path)) o
  own-kept None k slot e = absurd (none-some slot e)
  own-kept (Some s) k slot e =
      own_cell-frame d (scope_of at) s path
      ∙ kept_slot s (frames (Some s)) k slot (sym (frame_slot s) ∙ e)

  module _ (index : Option ℕ) where
    abbrev pub members : Option Site → Option Cell
    members o = option_and_then (λ s. member_cell d s path index) o

    abbrev pub cells : Option Site → Option Cell
    cells o =
        option_and_then (λ s. slice_get (option_to_list (own_cell d (scope_of at) s path)
        ++ option_to_list (member_cell d s path index)) 0) o

    first_cell : (a b : Option Cell) → slice_get (option_to_list a ++ option_to_list b) 0 ≡ option_or a b
    first_cell None None = refl
    first_cell None (Some c) = refl
    first_cell (Some c) b = refl

    pub cell-own : (o : Option Site) (c : Cell) → owns o ≡ Some c → cells o ≡ Some c
    cell-own None c e = absurd (none-some c e)
    cell-own (Some s) c e =
        first_cell (own_cell d (scope_of at) s path) (member_cell d s path index)
        ∙ ap (λ a. option_or a (member_cell d s path index)) e

    pub cell-member : (o : Option Site) → owns o ≡ None → cells o ≡ members o
    cell-member None e = refl
    cell-member (Some s) e =
        first_cell (own_cell d (scope_of at) s path) (member_cell d s path index)
        ∙ ap (λ a. option_or a (member_cell d s path index)) e

-- a variable that a path means is one of the instance in which the path ends
pub member-node : (d : DesignTree) (path : List Ident) (index : Option ℕ) (o : Option Site) →
    option_and_then (λ s. member_cell d s path index) o
    ≡ option_and_then (λ n. variable_at d (variable_path n (last_name path) index))
    (option_map (λ (s : Site). s.node) (option_and_then (λ s. site_along d s path) o))
member-node d path index None = refl
member-node d path index (Some s) = by (site_along d s path)
  where
    by : (o : Option Site) →
        option_and_then (λ (s : Site). variable_at d (variable_path s.node (last_name path) index)) o
        ≡ option_and_then (λ n. variable_at d (variable_path n (last_name path) index))
        (option_map (λ (s : Site). s.node) o)
    by None = refl
    by (Some t) = refl

-- a slot that the tables find is there
module _ (body : BodySlots) (name : List ℕ) where
  abbrev IsThere : SlotNumber → Type 0
  IsThere n = (s : Slot) × (numbered_slot body n ≡ Some s)

  by_index : (i j : Option ℕ) → position (λ p. is_spelled name p.name) body.params ≡ i →
      position (λ l. is_spelled name l.name) body.locals ≡ j →
      IfSome (option_or (option_map (λ k. Param k) i) (option_map (λ k. Local k) j)) IsThere
  by_index (Some k) j is also =
      let there : (p : _) × (slice_get body.params k ≡ Some p) =
      element_at body.params k (position-below (λ p. is_spelled name p.name) body.params k is) in
      (param_slot there.0, ap (option_map param_slot) there.1)
  by_index None (Some k) is also =
      let there : (l : _) × (slice_get body.locals k ≡ Some l) =
      element_at body.locals k (position-below (λ l. is_spelled name l.name) body.locals k also) in
      (local_slot (local_tree there.0), ap (option_map (λ l. local_slot (local_tree l))) there.1)
  by_index None None is also = tt

pub numbered-there : (o : Option BodySlots) (name : List ℕ) (r : Option SlotNumber) →
    r ≡ option_and_then (λ body. slot_number body name) o →
    IfSome r (λ n. (s : Slot) × (option_and_then (λ body. numbered_slot body n) o ≡ Some s))
numbered-there None name r is =
    subst (λ r. IfSome r (λ n. (s : Slot) × (option_and_then (λ body. numbered_slot body n) None ≡ Some s))) (sym is) tt
numbered-there (Some body) name r is =
    subst (λ r. IfSome r (λ n. (s : Slot) × (numbered_slot body n ≡ Some s))) (sym is)
    (by_index body name (position (λ p. is_spelled name p.name) body.params)
    (position (λ l. is_spelled name l.name) body.locals) refl refl)
