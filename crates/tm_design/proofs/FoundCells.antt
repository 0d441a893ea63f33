-- The cells that paths of a body mean, in a design whose paths lead by the text.
use Rattle.std.proofs.Common.{◌≡◌, ℕ, Bool, true, false, cond, Option, None, Some, List, [], ◌∷◌, ◌++◌, refl, sym, ap, ◌∙◌, subst, rules}
use Rattle.std.specs.Prelude.{slice_get, position, find, nat_eq}
use Rattle.std.specs.Cmp.Lexicographic.{pointwise}
use Rattle.std.specs.Option.{option_map, option_and_then, option_to_list}
use Rattle.tm_syntax.specs.declared.tree.Ident.{Ident}
use Rattle.tm_syntax.specs.declared.design.Ty.{Ty}
use Rattle.tm_syntax.specs.declared.design.Var.{Var}
use Rattle.tm_syntax.specs.Tree.{VarTree, TemplateTree}
use Rattle.tm_syntax.specs.Scopes.Names.{is_spelled, last_name, template_along}
use Rattle.tm_syntax.specs.Scopes.Context.{Slot, Frame, frame_of, slot_named, slot_of, variable_of}
use Rattle.tm_syntax.specs.Design.{DesignTree, InstanceNode, member_path, neighbor}
use Rattle.tm_syntax.specs.Design.Scope.{Scope, Site, site, site_along}
use Rattle.tm_syntax.specs.Design.Cells.{Cell, in_state, in_step, variable_at, variable_path, slot_cell, own_cell, member_cell, cell, cell_type}
use Rattle.tm_locations.specs.Locations.{LeadsByText}
use Rattle.tm_scope.proofs.Entries.{at-there}
use Rattle.tm_scope.proofs.Positions.{find-position, position-below}
use Rattle.tm_typing.proofs.Declaring.{spelled, same_spelling}
use Rattle.tm_typing.proofs.Listed.{In, of_find, found_in, one_thing, no_thing}
use Rattle.tm_typing.proofs.Slots.{here}
use Rattle.tm_design.proofs.Frames.{IsFrame, is_frame}
use Rattle.tm_design.proofs.Holders.{IsThere, vars_of_all, slot_there}
use Rattle.tm_design.proofs.PathTypes.{IsNumbered, slot_type}
use Rattle.tm_design.proofs.Sites.{IsSite}

-- texts that agree byte by byte are one
same_bytes : (m n : List ℕ) → pointwise nat_eq m n ≡ true → m ≡ n
same_bytes m n e = search rules

module _ (d : DesignTree) where
  -- an instance of the design, with its template
  abbrev pub IsSiteOf : Site → Type 0
  IsSiteOf s = IsSite d.spec d.instances s.number s.node s.template

  pub is_site : (k : ℕ) (s : Site) → site d k ≡ Some s → IsSiteOf s
  is_site k s e = by (slice_get d.instances k) refl e
    where
      of_template : (node : InstanceNode) → slice_get d.instances k ≡ Some node → (o : Option TemplateTree) →
          slice_get d.spec.templates node.template ≡ o →
          option_map (λ (t : TemplateTree). record { number = k; node = node; template = t }) o ≡ Some s → IsSiteOf s
      of_template node at None is same = no_thing same
      of_template node at (Some t) is same =
          subst IsSiteOf (one_thing refl same) (record { node = at; template = is })

      by : (o : Option InstanceNode) → slice_get d.instances k ≡ o →
          option_and_then (λ (node : InstanceNode). option_map
          (λ (t : TemplateTree). record { number = k; node = node; template = t })
          (slice_get d.spec.templates node.template)) o ≡ Some s → IsSiteOf s
      by None at same = no_thing same
      by (Some node) at same = of_template node at (slice_get d.spec.templates node.template) refl same

  -- a path from an instance ends in one
  pub along_site : (s : Site) → IsSiteOf s → (names : List Ident) (u : Site) → site_along d s names ≡ Some u →
      IsSiteOf u
  along_site s of [] u e = subst IsSiteOf (one_thing refl e) of
  along_site s of (name ∷ []) u e = subst IsSiteOf (one_thing refl e) of
  along_site s of (name ∷ next ∷ names) u e =
      by (neighbor s.node s.template name.text) e (λ t at. along_site t at (next ∷ names) u)
    where
      of_site : (k : ℕ) (o : Option Site) → site d k ≡ o →
          option_and_then (λ t. site_along d t (next ∷ names)) o ≡ Some u →
          ((t : Site) → IsSiteOf t → site_along d t (next ∷ names) ≡ Some u → IsSiteOf u) → IsSiteOf u
      of_site k None is rest deeper = no_thing rest
      of_site k (Some t) is rest deeper = deeper t (is_site k t is) rest

      by : (o : Option ℕ) →
          option_and_then (λ k. option_and_then (λ t. site_along d t (next ∷ names)) (site d k)) o ≡ Some u →
          ((t : Site) → IsSiteOf t → site_along d t (next ∷ names) ≡ Some u → IsSiteOf u) → IsSiteOf u
      by None rest deeper = no_thing rest
      by (Some k) rest deeper = of_site k (site d k) refl rest deeper

  module _ (vars : d.vars ≡ vars_of_all d.spec d.instances) where
    -- whether a variable has a path
    abbrev has_path : List ℕ → Var → Bool
    has_path path v = pointwise nat_eq path v.path

    -- the variable of a path has the type that all variables of the path have
    pub found_type : (path : List ℕ) (ty : Ty) → ((v : Var) → In v (vars_of_all d.spec d.instances) →
        v.path ≡ path → v.ty ≡ ty) → (c : Cell) → variable_at d path ≡ Some c → cell_type d c ≡ Some ty
    found_type path ty each c found = by (position (has_path path) d.vars) refl found
      where
        by : (o : Option ℕ) → position (has_path path) d.vars ≡ o → option_map in_state o ≡ Some c →
            cell_type d c ≡ Some ty
        by None at e = no_thing e
        by (Some k) at e =
            let v = at-there d.vars k (position-below (has_path path) d.vars k at) in
            let passes = of_find (has_path path) d.vars
            (find-position (has_path path) d.vars ∙ ap (option_and_then (slice_get d.vars)) at ∙ v.1) in
            subst (λ c. cell_type d c ≡ Some ty) (one_thing refl e)
            (ap (option_map (λ (v : Var). v.ty)) v.1
            ∙ ap Some (each v.0 (subst (In v.0) vars passes.0) (sym (same_bytes path v.0.path passes.1))))

    -- where there is a variable of a path, it is found
    pub found_there : (path : List ℕ) → IsThere d.spec d.instances path → (c : Cell) × (variable_at d path ≡ Some c)
    found_there path v = by (position (has_path path) d.vars) refl
      where
        there : (x : Var) × (find (has_path path) d.vars ≡ Some x)
        there =
            found_in (has_path path) d.vars (subst (In v.0) (sym vars) v.1)
            (subst (λ p. pointwise nat_eq path p ≡ true) (sym v.2) (same_spelling path))

        by : (o : Option ℕ) → position (has_path path) d.vars ≡ o → (c : Cell) × (variable_at d path ≡ Some c)
        by None at =
            no_thing (sym (find-position (has_path path) d.vars ∙ ap (option_and_then (slice_get d.vars)) at) ∙ there.1)
        by (Some k) at = (in_state k, ap (option_map in_state) at)

    -- where there is none, none is
    pub none_there : (path : List ℕ) → ((v : Var) → In v (vars_of_all d.spec d.instances) → v.path ≡ path → ⊥) →
        variable_at d path ≡ None
    none_there path none = by (position (has_path path) d.vars) refl
      where
        by : (o : Option ℕ) → position (has_path path) d.vars ≡ o → variable_at d path ≡ None
        by None at = ap (option_map in_state) at
        by (Some k) at =
            let v = at-there d.vars k (position-below (has_path path) d.vars k at) in
            let passes = of_find (has_path path) d.vars
            (find-position (has_path path) d.vars ∙ ap (option_and_then (slice_get d.vars)) at ∙ v.1) in
            absurd (none v.0 (subst (In v.0) vars passes.0) (sym (same_bytes path v.0.path passes.1)))

    module _ (known : IsNumbered d.spec d.instances) (scope : Scope) (at : Site)
        (stands : site d scope.instance ≡ Some at) where
      -- a parameter or local has a cell of its type
      pub own_there : (names : List Ident) (s : Slot) → slot_of (here d.spec at.template scope.body) names ≡ Some s →
          (c : Cell) × (own_cell d scope at names ≡ Some c) × (cell_type d c ≡ Some s.ty)
      own_there [] s e = no_thing e
      own_there (name ∷ next ∷ names) s e = no_thing e
      own_there (name ∷ []) s e = by (frame_of d.spec at.template scope.body) refl e
        where
          of_slot : (f : Frame) → IsFrame d.spec at.template f scope.body → In s f.slots → (kept : Bool) →
              f.kept ≡ kept → (c : Cell)
              × (cond kept (variable_at d (member_path at.node.path f.name ++ 46 ∷ s.name))
              (Some (in_step scope s.name s.ty)) ≡ Some c) × (cell_type d c ≡ Some s.ty)
          of_slot f frame among false is = (in_step scope s.name s.ty, refl, refl)
          of_slot f frame among true is =
              let of = is_site scope.instance at stands in
              let path = member_path at.node.path f.name ++ 46 ∷ s.name in
              let c = found_there path
              (slot_there d.spec d.instances at.number at.node at.template of scope.body f s frame is among) in (
                c.0,
                c.1,
                found_type path s.ty
                    (slot_type d.spec d.instances known at.number at.node at.template of scope.body f s frame among)
                    c.0 c.1,
              )

          by : (o : Option Frame) → frame_of d.spec at.template scope.body ≡ o →
              option_and_then (λ (frame : Frame). slot_named frame name.text) o ≡ Some s →
              (c : Cell) × (own_cell d scope at (name ∷ []) ≡ Some c) × (cell_type d c ≡ Some s.ty)
          by None is rest = no_thing rest
          by (Some f) is rest =
              let among = (of_find (λ (s : Slot). pointwise nat_eq name.text s.name) f.slots rest).0 in
              let c = of_slot f (is_frame d.spec at.template scope.body f is) among f.kept refl in (
                c.0,
                ap (option_and_then (λ frame. option_and_then (slot_cell d scope at frame)
                    (slot_named frame name.text))) is
                    ∙ ap (option_and_then (slot_cell d scope at f)) rest ∙ c.1,
                c.2,
              )

      -- what is none of them has no cell of its own
      pub no_own : (names : List Ident) → slot_of (here d.spec at.template scope.body) names ≡ None →
          own_cell d scope at names ≡ None
      no_own [] e = refl
      no_own (name ∷ next ∷ names) e = refl
      no_own (name ∷ []) e = by (frame_of d.spec at.template scope.body) refl e
        where
          by : (o : Option Frame) → frame_of d.spec at.template scope.body ≡ o →
              option_and_then (λ (frame : Frame). slot_named frame name.text) o ≡ None →
              own_cell d scope at (name ∷ []) ≡ None
          by None is rest =
              ap (option_and_then (λ frame. option_and_then (slot_cell d scope at frame)
              (slot_named frame name.text))) is
          by (Some f) is rest =
              ap (option_and_then (λ frame. option_and_then (slot_cell d scope at frame)
              (slot_named frame name.text))) is
              ∙ ap (option_and_then (slot_cell d scope at f)) rest

      cell_is : (names : List Ident) (index : Option ℕ) →
          cell d scope names index
          ≡ slice_get (option_to_list (own_cell d scope at names) ++ option_to_list (member_cell d at names index)) 0
      cell_is names index =
          ap (option_and_then (λ at. slice_get (option_to_list (own_cell d scope at names)
          ++ option_to_list (member_cell d at names index)) 0)) stands

      -- a cell of its own comes before a member's
      pub cell_own : (names : List Ident) (index : Option ℕ) (c : Cell) → own_cell d scope at names ≡ Some c →
          cell d scope names index ≡ Some c
      cell_own names index c is =
          cell_is names index
          ∙ ap (λ o. slice_get (option_to_list o ++ option_to_list (member_cell d at names index)) 0) is

      pub cell_member : (names : List Ident) (index : Option ℕ) → own_cell d scope at names ≡ None →
          cell d scope names index ≡ member_cell d at names index
      cell_member names index none =
          cell_is names index
          ∙ ap (λ o. slice_get (option_to_list o ++ option_to_list (member_cell d at names index)) 0) none
          ∙ by (member_cell d at names index)
        where
          by : (o : Option Cell) → slice_get (option_to_list o) 0 ≡ o
          by None = refl
          by (Some c) = refl

      -- where a path leads to a variable of the text, it leads to an instance whose template has it
      pub record IsMember (names : List Ident) (w : VarTree) : Type 0 where
        pub site : Site
        pub along : site_along d at names ≡ Some site
        pub is : IsSiteOf site
        pub of : template_along d.spec at.template names ≡ Some site.template
        pub among : In w site.template.vars
        pub spelled : is_spelled (last_name names) w.name ≡ true

      pub member_there : LeadsByText d → (names : List Ident) (w : VarTree) →
          variable_of (here d.spec at.template scope.body) names ≡ Some w → IsMember names w
      member_there leads names w e = by (template_along d.spec at.template names) refl e
        where
          of_site : (t : TemplateTree) → template_along d.spec at.template names ≡ Some t →
              In w t.vars × (is_spelled (last_name names) w.name ≡ true) → (o : Option Site) →
              site_along d at names ≡ o → option_map (λ (s : Site). s.template) o ≡ Some t → IsMember names w
          of_site t of there None along same = no_thing same
          of_site t of there (Some s) along same =
              let templates : s.template ≡ t = one_thing refl same in
              record {
                site = s;
                along = along;
                is = along_site at (is_site scope.instance at stands) names s along;
                of = of ∙ ap Some (sym templates);
                among = subst (λ (t : TemplateTree). In w t.vars) (sym templates) there.0;
                spelled = there.1;
              }

          by : (o : Option TemplateTree) → template_along d.spec at.template names ≡ o →
              option_and_then (λ (t : TemplateTree). find (λ v. is_spelled (last_name names) v.name) t.vars) o
              ≡ Some w → IsMember names w
          by None is found = no_thing found
          by (Some t) is found =
              of_site t is (of_find (λ (v : VarTree). is_spelled (last_name names) v.name) t.vars found)
              (site_along d at names) refl
              (ap (option_map (λ (s : Site). s.template)) refl ∙ leads scope.instance at names stands ∙ is)

      -- its cell is that of the path of the instance's variable
      pub member_is : (names : List Ident) (index : Option ℕ) (w : VarTree) (m : IsMember names w) →
          member_cell d at names index ≡ variable_at d (variable_path m.site.node w.name.text index)
      member_is names index w m =
          ap (option_and_then (λ s. variable_at d (variable_path s.node (last_name names) index))) m.along
          ∙ ap (λ name. variable_at d (variable_path m.site.node name index))
          (spelled (last_name names) w.name m.spelled)
