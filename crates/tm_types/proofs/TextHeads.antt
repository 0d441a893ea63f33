-- The heads of the templates of a text.
use Rattle.std.proofs.Common.{◌≡◌, ℕ, ◌+◌, ◌<◌, ◌≤◌, List, [], ◌∷◌, ◌++◌, length, take, map, get_or, sym, ap, ◌∙◌, arith}
use Rattle.std.specs.List.{All, flat_map}
use Rattle.std.proofs.lemmas.List.{get_or-map, length-map, map_more, map_push, take_all}
use Rattle.std.proofs.lemmas.List.Folds.{flat_map-map}
use Rattle.tm_syntax.specs.declared.tree.Spec.{Spec}
use Rattle.tm_syntax.specs.declared.tree.Template.{Template}
use Rattle.tm_syntax.specs.Tree.{SpecTree, TemplateTree}
use Rattle.tm_syntax.specs.Tree.View.{spec_tree, template_tree}
use Rattle.tm_types.specs.Inner.TextParts.{AreTextHeads, IsOwnHead, PlacedTemplate, head_at, head_in, in_head}
use Rattle.tm_types.specs.declared.parts.TextHead.{TextHead}

module _ (s : Spec) (ts : List Template) where
  -- heads are those of the templates before a number
  abbrev pub HeadsBefore : List TextHead → ℕ → Type 0
  HeadsBefore heads i = map head_at heads ≡ map (head_in s) (take i ts)

  -- one more head
  pub head_pushed : (old new : List TextHead) (h : TextHead) (i : ℕ) (t : Template) → i < length ts →
      t ≡ get_or ts i t → new ≡ old ++ h ∷ [] → head_at h ≡ head_in s t → HeadsBefore old i → HeadsBefore new (i + 1)
  head_pushed old new h i t within at grown is before =
      ap (map head_at) grown
      ∙ map_push head_at old h
      ∙ (λ j. before j ++ is j ∷ [])
      ∙ ap (λ u. map (head_in s) (take i ts) ++ head_in s u ∷ []) at
      ∙ sym (map_more (head_in s) ts i t within)

-- the heads of all templates
pub heads_pushed : (s : Spec) (ts : List Template) (heads : List TextHead) (i : ℕ) → length ts ≤ i →
    ts ≡ s.templates.items → HeadsBefore s ts heads i → AreTextHeads s heads
heads_pushed s ts heads i past same before = before ∙ ap (map (head_in s)) (take_all i ts past ∙ same)

-- each head of a text stands in its own template
pub heads_own : (s : Spec) (heads : List TextHead) → AreTextHeads s heads → All IsOwnHead heads
heads_own s heads are k d within =
    let ts = s.templates.items in
    let h = get_or heads k d in
    let there : k < length ts =
    omega (arith, within, ap length are, length-map heads head_at, length-map ts (head_in s)) in
    let is : head_at h ≡ head_in s (get_or ts k d.template.now) =
    sym (get_or-map head_at heads k d (head_at d) within)
    ∙ ap (λ hs. get_or hs k (head_at d)) are
    ∙ get_or-map (head_in s) ts k d.template.now (head_at d) there in
    ap (λ (p : PlacedTemplate). p.place.template) is ∙ sym (ap (λ (p : PlacedTemplate). p.template) is)

-- what is found in the heads of a text
pub in_heads : {X : Type 0} (found : SpecTree → TemplateTree → List X) (s : Spec) (heads : List TextHead) →
    AreTextHeads s heads →
    flat_map (in_head found) heads ≡ flat_map (found (spec_tree s)) (spec_tree s).templates
in_heads found s heads are =
    let placed = λ (p : PlacedTemplate). found (spec_tree p.place.spec) (template_tree p.template) in
    sym (flat_map-map placed head_at heads)
    ∙ ap (flat_map placed) are
    ∙ flat_map-map placed (head_in s) s.templates.items
    ∙ sym (flat_map-map (found (spec_tree s)) template_tree s.templates.items)
