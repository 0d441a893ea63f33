-- The variables of a path in a design: all are of the type of the declaration that gives the path.
use Rattle.std.proofs.Common.{◌≡◌, ℕ, ◌<◌, None, Some, List, [], ◌∷◌, ◌++◌, sym, ap, ◌∙◌, subst}
use Rattle.std.specs.Fmt.{decimal}
use Rattle.std.specs.List.{AllByRecursion}
use Rattle.tm_syntax.specs.declared.design.Var.{Var}
use Rattle.tm_syntax.specs.declared.tree.Num.{Num}
use Rattle.tm_syntax.specs.Tokens.{IsWordLike}
use Rattle.tm_syntax.specs.Tree.{VarTree, TemplateTree, SpecTree}
use Rattle.tm_syntax.specs.Scopes.Context.{BodyName, Slot, Frame}
use Rattle.tm_syntax.specs.Scopes.Declared.{members}
use Rattle.tm_syntax.specs.Scopes.Names.{number_of, type_of}
use Rattle.tm_syntax.specs.Design.{InstanceNode, member_path, AreInstances}
use Rattle.tm_syntax.specs.Faults.Names.{repeats, names_twice}
use Rattle.tm_typing.proofs.Listed.{In, holds_in}
use Rattle.tm_typing.proofs.Words.{VarWords, TemplateWords}
use Rattle.tm_design.proofs.Dots.{word_has_no_dot, number_has_no_dot, number_is_no_word, last_part, behind_dot}
use Rattle.tm_design.proofs.Frames.{IsFrame, same_frames, same_slots, instance_or_frame, body_once, frame_word, slot_word}
use Rattle.tm_design.proofs.Holders.{Holder, a_variable, an_element, a_slot, IsHeldVar, vars_of_all, held_var}
use Rattle.tm_design.proofs.Parts.{same_vars}
use Rattle.tm_design.proofs.Sites.{IsSite, site_in, same_template, child_there}

-- what is known of the text of a design and of its instances
pub record IsNumbered (spec : SpecTree) (ns : List InstanceNode) : Type 0 where
  pub roots : AreInstances spec ns
  pub twice : names_twice spec ≡ []
  pub once : (t : TemplateTree) → In t spec.templates → repeats (members t) ≡ []
  pub words : AllByRecursion TemplateWords spec.templates

module _ (spec : SpecTree) (ns : List InstanceNode) (known : IsNumbered spec ns) (k : ℕ) (n : InstanceNode)
    (t : TemplateTree) (site : IsSite spec ns k n t) where
  here : In t spec.templates
  here = site_in spec ns known.roots known.once known.words k n t site

  template_words : (u : TemplateTree) → In u spec.templates → TemplateWords u
  template_words u i = holds_in TemplateWords spec.templates known.words i

  var_word : (u : TemplateTree) → In u spec.templates → (w : VarTree) → In w u.vars → IsWordLike w.name.text
  var_word u i w j = (holds_in VarWords u.vars (template_words u i).vars j).name

  -- an instance of the path of a body of this one is none
  no_instance_of_body : {X : Type 0} (j : ℕ) (m : InstanceNode) (u : TemplateTree) (body : BodyName) (f : Frame) →
      (l : ℕ) (o : InstanceNode) (x : TemplateTree) → IsSite spec ns j m u → IsSite spec ns l o x →
      IsFrame spec u f body → o.path ≡ member_path m.path f.name → X
  no_instance_of_body j m u body f l o x at there is path =
      let inside = site_in spec ns known.roots known.once known.words j m u at in
      let child = child_there spec ns known.roots known.once known.words j l m o u x f.name at there
      (frame_word spec u body f (template_words u inside) is) path in
      instance_or_frame spec u (known.once u inside) child.0 body f child.1 is child.2

  -- a variable of a template, without elements
  pub record IsPlain (name : List ℕ) (v : Var) : Type 0 where
    pub var : VarTree
    pub is : In var t.vars
    pub size : var.size ≡ None
    pub spelled : var.name.text ≡ name
    pub ty : v.ty ≡ type_of var.ty

  -- what has the path of a name that is a word is a variable of that name
  pub plain_path : (name : List ℕ) → IsWordLike name → (v : Var) → In v (vars_of_all spec ns) →
      v.path ≡ member_path n.path name → IsPlain name v
  plain_path name word v i path = by (held_var spec ns v i)
    where
      by : IsHeldVar spec ns v → IsPlain name v
      by h = of_holder h.holder
        where
          inside : In h.template spec.templates
          inside = site_in spec ns known.roots known.once known.words h.at h.node h.template h.site

          of_holder : Holder spec ns h.node h.template v → IsPlain name v
          of_holder (a_variable w among none is ty) =
              let parts = last_part h.node.path n.path w.name.text name
              (word_has_no_dot w.name.text (var_word h.template inside w among)) (word_has_no_dot name word)
              (sym is ∙ path) in
              let same = same_template spec ns known.roots known.once known.words h.at k h.node n h.template t h.site
              site parts.0 in
              record {
                var = w;
                is = subst (λ (u : TemplateTree). In w u.vars) same among;
                size = none;
                spelled = parts.1;
                ty = ty;
              }
          of_holder (an_element w among size is_size index below is ty) =
              let parts = last_part (member_path h.node.path w.name.text) n.path (decimal index) name
              (number_has_no_dot index) (word_has_no_dot name word)
              (sym (behind_dot h.node.path w.name.text (decimal index) (var_word h.template inside w among))
              ∙ sym is ∙ path) in
              number_is_no_word index name word parts.1
          of_holder (a_slot body f frame s among is ty) =
              let words = template_words h.template inside in
              let parts = last_part (member_path h.node.path f.name) n.path s.name name
              (word_has_no_dot s.name (slot_word spec h.template body f s words frame among))
              (word_has_no_dot name word)
              (sym (behind_dot h.node.path f.name s.name (frame_word spec h.template body f words frame))
              ∙ sym is ∙ path) in
              no_instance_of_body h.at h.node h.template body f k n t h.site site frame (sym parts.0)

  -- so the variable of a declaration has its type
  pub variable_type : (w : VarTree) → In w t.vars → (v : Var) → In v (vars_of_all spec ns) →
      v.path ≡ member_path n.path w.name.text → v.ty ≡ type_of w.ty
  variable_type w among v i path =
      let found = plain_path w.name.text (var_word t here w among) v i path in
      found.ty ∙ ap (λ (x : VarTree). type_of x.ty) (same_vars t (known.once t here) found.var w found.is among
      found.spelled)

  -- an element of an array
  pub record IsElement (w : VarTree) (index : ℕ) (v : Var) : Type 0 where
    pub size : Num
    pub is : w.size ≡ Some size
    pub at : ℕ
    pub below : at < number_of size
    pub same : decimal index ≡ decimal at
    pub ty : v.ty ≡ type_of w.ty

  -- what has the path of an element of an array is one
  pub element_path : (w : VarTree) → In w t.vars → (index : ℕ) (v : Var) → In v (vars_of_all spec ns) →
      v.path ≡ member_path n.path w.name.text ++ 46 ∷ decimal index → IsElement w index v
  element_path w among index v i path = by (held_var spec ns v i)
    where
      word : IsWordLike w.name.text
      word = var_word t here w among

      whole : v.path ≡ member_path (member_path n.path w.name.text) (decimal index)
      whole = path ∙ behind_dot n.path w.name.text (decimal index) word

      by : IsHeldVar spec ns v → IsElement w index v
      by h = of_holder h.holder
        where
          inside : In h.template spec.templates
          inside = site_in spec ns known.roots known.once known.words h.at h.node h.template h.site

          of_holder : Holder spec ns h.node h.template v → IsElement w index v
          of_holder (a_variable x there none is ty) =
              let part = var_word h.template inside x there in
              let parts = last_part h.node.path (member_path n.path w.name.text) x.name.text (decimal index)
              (word_has_no_dot x.name.text part) (number_has_no_dot index) (sym is ∙ whole) in
              number_is_no_word index x.name.text part (sym parts.1)
          of_holder (an_element x there size is_size at below is ty) =
              let part = var_word h.template inside x there in
              let parts = last_part (member_path h.node.path x.name.text) (member_path n.path w.name.text) (decimal at)
              (decimal index) (number_has_no_dot at) (number_has_no_dot index)
              (sym (behind_dot h.node.path x.name.text (decimal at) part) ∙ sym is ∙ whole) in
              let front = last_part h.node.path n.path x.name.text w.name.text (word_has_no_dot x.name.text part)
              (word_has_no_dot w.name.text word) parts.0 in
              let same = same_template spec ns known.roots known.once known.words h.at k h.node n h.template t h.site
              site front.0 in
              let one = same_vars t (known.once t here) x w (subst (λ (u : TemplateTree). In x u.vars) same there)
              among front.1 in
              record {
                size = size;
                is = ap (λ (y : VarTree). y.size) (sym one) ∙ is_size;
                at = at;
                below = below;
                same = sym parts.1;
                ty = ty ∙ ap (λ (y : VarTree). type_of y.ty) one;
              }
          of_holder (a_slot body f frame s there is ty) =
              let words = template_words h.template inside in
              let part = slot_word spec h.template body f s words frame there in
              let parts = last_part (member_path h.node.path f.name) (member_path n.path w.name.text) s.name
              (decimal index) (word_has_no_dot s.name part) (number_has_no_dot index)
              (sym (behind_dot h.node.path f.name s.name (frame_word spec h.template body f words frame))
              ∙ sym is ∙ whole) in
              number_is_no_word index s.name part (sym parts.1)

  -- the variable in which a parameter or local is kept has its type
  pub slot_type : (body : BodyName) (f : Frame) (s : Slot) → IsFrame spec t f body → In s f.slots → (v : Var) →
      In v (vars_of_all spec ns) → v.path ≡ member_path n.path f.name ++ 46 ∷ s.name → v.ty ≡ s.ty
  slot_type body f s frame among v i path = by (held_var spec ns v i)
    where
      name_word : IsWordLike f.name
      name_word = frame_word spec t body f (template_words t here) frame

      word : IsWordLike s.name
      word = slot_word spec t body f s (template_words t here) frame among

      whole : v.path ≡ member_path (member_path n.path f.name) s.name
      whole = path ∙ behind_dot n.path f.name s.name name_word

      by : IsHeldVar spec ns v → v.ty ≡ s.ty
      by h = of_holder h.holder
        where
          inside : In h.template spec.templates
          inside = site_in spec ns known.roots known.once known.words h.at h.node h.template h.site

          of_holder : Holder spec ns h.node h.template v → v.ty ≡ s.ty
          of_holder (a_variable x there none is ty) =
              let parts = last_part h.node.path (member_path n.path f.name) x.name.text s.name
              (word_has_no_dot x.name.text (var_word h.template inside x there)) (word_has_no_dot s.name word)
              (sym is ∙ whole) in
              no_instance_of_body k n t body f h.at h.node h.template site h.site frame parts.0
          of_holder (an_element x there size is_size at below is ty) =
              let parts = last_part (member_path h.node.path x.name.text) (member_path n.path f.name) (decimal at)
              s.name (number_has_no_dot at) (word_has_no_dot s.name word)
              (sym (behind_dot h.node.path x.name.text (decimal at) (var_word h.template inside x there))
              ∙ sym is ∙ whole) in
              number_is_no_word at s.name word parts.1
          of_holder (a_slot other g is_frame r there is ty) =
              let words = template_words h.template inside in
              let g_word = frame_word spec h.template other g words is_frame in
              let parts = last_part (member_path h.node.path g.name) (member_path n.path f.name) r.name s.name
              (word_has_no_dot r.name (slot_word spec h.template other g r words is_frame there))
              (word_has_no_dot s.name word)
              (sym (behind_dot h.node.path g.name r.name g_word) ∙ sym is ∙ whole) in
              let front = last_part h.node.path n.path g.name f.name (word_has_no_dot g.name g_word)
              (word_has_no_dot f.name name_word) parts.0 in
              let same = same_template spec ns known.roots known.once known.words h.at k h.node n h.template t h.site
              site front.0 in
              let one = same_frames spec t (known.once t here) other body g f
              (subst (λ (u : TemplateTree). IsFrame spec u g other) same is_frame) frame front.1 in
              let slot = same_slots spec t body f r s (body_once spec t body f known.twice here frame) frame
              (subst (λ (x : Frame). In r x.slots) one there) among parts.1 in
              ty ∙ ap (λ (x : Slot). x.ty) slot
