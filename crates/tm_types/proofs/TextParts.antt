-- The parts of a text, one by one.
use Rattle.std.proofs.Common.{◌≡◌, ℕ, ◌+◌, ◌<◌, ◌≤◌, None, Some, List, [], ◌∷◌, ◌++◌, length, take, map, get_or, append-nil, sym, ap, ◌∙◌}
use Rattle.std.specs.Borrow.{Bor}
use Rattle.std.specs.List.{flat_map}
use Rattle.std.specs.Option.{option_map, option_to_list}
use Rattle.std.proofs.lemmas.List.{map-append, take_all}
use Rattle.std.proofs.lemmas.List.Concat.{flat_map-append}
use Rattle.std.proofs.lemmas.List.Folds.{flat_map-map}
use mathlib.Core.List.{map-map}
use Rattle.tm_syntax.specs.declared.tree.Body.{Body}
use Rattle.tm_syntax.specs.declared.tree.Spec.{Spec}
use Rattle.tm_syntax.specs.declared.tree.Template.{Template}
use Rattle.tm_syntax.specs.Tree.{NamedTree, TemplateTree}
use Rattle.tm_syntax.specs.Tree.View.{body_tree, spec_tree, template_tree}
use Rattle.tm_syntax.specs.Scopes.Context.{Context}
use Rattle.tm_syntax.specs.Scopes.Parts as text
use Rattle.tm_syntax.specs.Scopes.Parts.{BodyAt, ExprAt, condition, template_bodies, template_exprs}
use Rattle.tm_scope.specs.Context.{BodyPlace, context_of}
use Rattle.tm_names.specs.Asked.{all_asked, asked_of}
use Rattle.tm_names.specs.Bodies.{all_bodies, body_at}
use Rattle.tm_names.specs.declared.parts.asked.Asked.{Asked}
use Rattle.tm_names.specs.declared.parts.bodies.BodyPart.{BodyPart}
use Rattle.tm_names.proofs.FirstFaults.{flat_map-take}
use Rattle.tm_names.proofs.ListSteps.{two_more}
use Rattle.tm_types.specs.Inner.TextParts.{AreTextParts, Hold, HoldMore, bodies_of, conditions_of, expr_at, exprs_of, exprs_of_body, placed}
use Rattle.tm_types.specs.declared.parts.TextPart.{TextPart}

-- what a part that is a body holds
pub of_body : {X : Type 0} (f : BodyAt → List X) (p : TextPart) (b : Bor Body) → p.body ≡ Some b →
    f (record { context = context_of p.site; body = body_tree b.now }) ≡ flat_map f (bodies_of p)
of_body f p b is =
    sym (append-nil (f (record { context = context_of p.site; body = body_tree b.now })))
    ∙ ap (λ o. flat_map f (option_to_list (option_map
    (λ (c : Bor Body). record { context = context_of p.site; body = body_tree c.now }) o))) (sym is)

-- a part that is none holds nothing
pub of_no_body : {X : Type 0} (f : BodyAt → List X) (p : TextPart) → p.body ≡ None → [] ≡ flat_map f (bodies_of p)
of_no_body f p is =
    ap (λ o. flat_map f (option_to_list (option_map
    (λ (c : Bor Body). record { context = context_of p.site; body = body_tree c.now }) o))) (sym is)

-- the expressions of a site, given what they are as plain data
pub exprs_at : (at : BodyPlace) (c : Context) (es : List Asked) (plain : List text.Asked) → context_of at ≡ c →
    all_asked es ≡ plain → map (expr_at at) es ≡ map (placed c) plain
exprs_at at c es plain stands are =
    sym (map-map (placed (context_of at)) asked_of es) ∙ (λ i. map (placed (stands i)) (are i))

-- goals and fairness conditions, where they stand
pub conditions_at : (c : Context) (ns : List NamedTree) →
    map (placed c) (conditions_of ns) ≡ map (λ (n : NamedTree). placed c (condition n.expr)) ns
conditions_at c ns = map-map (placed c) (λ (n : NamedTree). condition n.expr) ns

-- what parts hold with one more
held_more : {X : Type 0} (held : TextPart → List X) (old new : List TextPart) (p : TextPart) (xs : List X) →
    new ≡ old ++ p ∷ [] → held p ≡ xs → flat_map held new ≡ flat_map held old ++ xs
held_more held old new p xs grown is =
    ap (flat_map held) grown
    ∙ flat_map-append held old (p ∷ [])
    ∙ ap (λ ys. flat_map held old ++ ys) (append-nil (held p) ∙ is)

-- one more part
pub part_pushed : (old new : List TextPart) (p : TextPart) (bs : List BodyAt) (es : List ExprAt) →
    new ≡ old ++ p ∷ [] → bodies_of p ≡ bs → exprs_of p ≡ es → HoldMore old new bs es
part_pushed old new p bs es grown bodies exprs = record {
  bodies = held_more bodies_of old new p bs grown bodies;
  exprs = held_more exprs_of old new p es grown exprs;
}

-- no more parts
pub none_pushed : (old : List TextPart) → HoldMore old old [] []
none_pushed old = record {
  bodies = sym (append-nil (flat_map bodies_of old));
  exprs = sym (append-nil (flat_map exprs_of old));
}

-- the bodies of a list so far, and one more
pub body_pushed : (old mid new : List TextPart) (ps : List BodyPart) (p : BodyPart) →
    HoldMore old mid (all_bodies ps) (flat_map exprs_of_body (all_bodies ps)) →
    HoldMore mid new (body_at p ∷ []) (exprs_of_body (body_at p)) →
    HoldMore old new (all_bodies (ps ++ p ∷ [])) (flat_map exprs_of_body (all_bodies (ps ++ p ∷ [])))
body_pushed old mid new ps p first second =
    let bs : List BodyAt = all_bodies ps in
    let joined : all_bodies (ps ++ p ∷ []) ≡ bs ++ body_at p ∷ [] = map-append body_at ps (p ∷ []) in
    record {
      bodies =
          two_more (flat_map bodies_of old) bs (body_at p ∷ []) (flat_map bodies_of mid) (flat_map bodies_of new)
          first.bodies second.bodies
          ∙ ap (λ xs. flat_map bodies_of old ++ xs) (sym joined);
      exprs =
          two_more (flat_map exprs_of old) (flat_map exprs_of_body bs) (exprs_of_body (body_at p))
          (flat_map exprs_of mid) (flat_map exprs_of new) first.exprs second.exprs
          ∙ ap (λ es. flat_map exprs_of old ++ (flat_map exprs_of_body bs ++ es))
          (sym (append-nil (exprs_of_body (body_at p))))
          ∙ ap (λ es. flat_map exprs_of old ++ es) (sym (flat_map-append exprs_of_body bs (body_at p ∷ [])))
          ∙ ap (λ xs. flat_map exprs_of old ++ flat_map exprs_of_body xs) (sym joined);
    }

-- bodies, and behind them expressions that stand outside of bodies
pub outside_pushed : (old mid new : List TextPart) (bs : List BodyAt) (es os : List ExprAt) → HoldMore old mid bs es →
    HoldMore mid new [] os → HoldMore old new bs (es ++ os)
outside_pushed old mid new bs es os first second = record {
  bodies = second.bodies ∙ append-nil (flat_map bodies_of mid) ∙ first.bodies;
  exprs =
      two_more (flat_map exprs_of old) es os (flat_map exprs_of mid) (flat_map exprs_of new) first.exprs second.exprs;
}

module _ (bodies : Template → List BodyAt) (exprs : Template → List ExprAt) (ts : List Template) where
  -- parts hold what the templates before a number do
  abbrev pub HoldBefore : List TextPart → ℕ → Type 0
  HoldBefore parts i = Hold parts (flat_map bodies (take i ts)) (flat_map exprs (take i ts))

  -- one more template
  pub template_pushed : (old new : List TextPart) (i : ℕ) (t : Template) → i < length ts → t ≡ get_or ts i t →
      HoldBefore old i → HoldMore old new (bodies t) (exprs t) → HoldBefore new (i + 1)
  template_pushed old new i t within is held more = record {
    bodies =
        more.bodies ∙ ap (λ bs. bs ++ bodies t) held.bodies ∙ sym (flat_map-take bodies ts i t within is);
    exprs = more.exprs ∙ ap (λ es. es ++ exprs t) held.exprs ∙ sym (flat_map-take exprs ts i t within is);
  }

-- what the templates of a text hold, one by one
templates_whole : {X : Type 0} (f : TemplateTree → List X) (s : Spec) (ts : List Template) (i : ℕ) → length ts ≤ i →
    ts ≡ s.templates.items →
    flat_map (λ (t : Template). f (template_tree t)) (take i ts) ≡ flat_map f (spec_tree s).templates
templates_whole f s ts i past same =
    ap (flat_map (λ (t : Template). f (template_tree t))) (take_all i ts past ∙ same)
    ∙ sym (flat_map-map f template_tree s.templates.items)

-- the parts of all templates are those of the text
pub all_pushed : (s : Spec) (ts : List Template) (i : ℕ) (parts : List TextPart) → length ts ≤ i →
    ts ≡ s.templates.items →
    HoldBefore (λ t. template_bodies (spec_tree s) (template_tree t))
    (λ t. template_exprs (spec_tree s) (template_tree t)) ts parts i →
    AreTextParts (spec_tree s) parts
all_pushed s ts i parts past same held = record {
  bodies = held.bodies ∙ templates_whole (template_bodies (spec_tree s)) s ts i past same;
  exprs = held.exprs ∙ templates_whole (template_exprs (spec_tree s)) s ts i past same;
}
