-- The graph of templates tells which templates reach which.
use Rattle.std.proofs.Common.{◌≡◌, ℕ, suc, ◌+◌, ◌<◌, Option, None, Some, List, [], ◌∷◌, ◌++◌, length, map, take, get_or, slice_get, refl, sym, ap, ◌∙◌, arith}
use Rattle.std.specs.Prelude.{unwrap_or}
use Rattle.std.specs.Option.{option_map, option_to_list}
use Rattle.std.specs.List.{filter_map, enumerate_from, cons_option}
use Rattle.std.proofs.lemmas.List.{take_more}
use Rattle.std.proofs.lemmas.Option.{slice_get-map}
use Rattle.tm_syntax.specs.declared.tree.Template.{Template}
use Rattle.tm_syntax.specs.Tree.{InstanceTree, TemplateTree, SpecTree}
use Rattle.tm_syntax.specs.Tree.View.{template_tree}
use Rattle.tm_syntax.specs.Scopes.Names.{is_spelled, template_number}
use Rattle.tm_syntax.specs.Scopes.Calls.{Holds, ReachesTemplate, directly, further}
use Rattle.tm_syntax.specs.Faults.Cycles.{TemplateMark}
use Rattle.tm_syntax.specs.Faults.Marks.{named}
use Rattle.tm_scope.specs.Graph.{HasEdge, HasEdgesWithin, LeadsTo, along, onward}
use Rattle.tm_scope.proofs.Entries.{at-contained, at-map, contained-at, map-at}
use Rattle.tm_scope.proofs.Filtered.{filter-at, filtered-at}
use Rattle.tm_scope.proofs.Positions.{position-below}
use Rattle.tm_limits.specs.Orders.{targets}
use Rattle.tm_limits.specs.Templates.{held_numbers, holdings}

-- ---- lists

pub filter_map-push : {X Y : Type 0} (f : X → Option Y) (xs : List X) (x : X) →
    filter_map f (xs ++ x ∷ []) ≡ filter_map f xs ++ option_to_list (f x)
filter_map-push {Y = Y} f [] x = by (f x)
  where
    by : (o : Option Y) → cons_option o [] ≡ option_to_list o
    by None = refl
    by (Some y) = refl
filter_map-push {Y = Y} f (z ∷ xs) x = by (f z) (filter_map-push f xs x)
  where
    by : (o : Option Y) → filter_map f (xs ++ x ∷ []) ≡ filter_map f xs ++ option_to_list (f x) →
        cons_option o (filter_map f (xs ++ x ∷ [])) ≡ cons_option o (filter_map f xs) ++ option_to_list (f x)
    by None e = e
    by (Some y) e = ap (λ ys. y ∷ ys) e

mapped-push : {X Y : Type 0} (f : X → Y) (xs : List X) (x : X) → map f (xs ++ x ∷ []) ≡ map f xs ++ f x ∷ []
mapped-push f [] x = refl
mapped-push f (y ∷ xs) x = ap (λ ys. f y ∷ ys) (mapped-push f xs x)

pub length-mapped : {X Y : Type 0} (f : X → Y) (xs : List X) → length (map f xs) ≡ length xs
length-mapped f [] = refl
length-mapped f (x ∷ xs) = ap suc (length-mapped f xs)

-- ---- templates

module _ (spec : SpecTree) where
  held : InstanceTree → Option ℕ
  held i = template_number spec i.template.text

  pub targets_held : (a : ℕ) → targets (holdings spec) a
      ≡ unwrap_or (option_map (held_numbers spec) (slice_get spec.templates a)) []
  targets_held a = ap (λ o. unwrap_or o []) (slice_get-map (held_numbers spec) spec.templates a)

  edge_where_held : (a b : ℕ) → Holds spec a b → HasEdge (holdings spec) a b
  unfolding held
  edge_where_held a b h =
      let among = contained-at h.template.instances h.instance h.holds in
      let k = filter-at held h.template.instances among.0 h.instance b among.1 h.leads in
      record {
        edges = held_numbers spec h.template;
        of_node = at-map (held_numbers spec) spec.templates a h.template h.is;
        leads = at-contained (held_numbers spec h.template) k.0 b k.1;
      }

  held_where_edge : (a b : ℕ) → HasEdge (holdings spec) a b → Holds spec a b
  unfolding held
  held_where_edge a b e =
      let from = map-at (held_numbers spec) spec.templates a e.edges e.of_node in
      let k = contained-at e.edges b e.leads in
      let found = filtered-at held from.0.instances k.0 b (ap (λ xs. slice_get xs k.0) from.2 ∙ k.1) in
      record {
        template = from.0;
        instance = found.1;
        is = from.1;
        holds = at-contained from.0.instances found.0 found.1 found.2;
        leads = found.3;
      }

  -- templates reach each other as their numbers do
  pub leads_where_held : (a b : ℕ) → ReachesTemplate spec a b → LeadsTo (holdings spec) a b
  leads_where_held a b (directly h) = along (edge_where_held a b h)
  leads_where_held a b (further {b = c} h rest) = onward (edge_where_held a c h) (leads_where_held c b rest)

  pub held_where_leads : (a b : ℕ) → LeadsTo (holdings spec) a b → ReachesTemplate spec a b
  held_where_leads a b (along e) = directly (held_where_edge a b e)
  held_where_leads a b (onward {b = c} e rest) = further (held_where_edge a c e) (held_where_leads c b rest)

  -- each template leads to templates of the text alone
  pub holdings_within : HasEdgesWithin (holdings spec)
  holdings_within a b e =
      let h = held_where_edge a b e in
      let below = position-below (λ t. is_spelled h.instance.template.text t.name) spec.templates b h.leads in
      let same = length-mapped (held_numbers spec) spec.templates in
      omega (arith, below, same)

-- the templates of the code have the marks of the text's
pub marks_agree : (k : ℕ) (ts : List Template) →
    map {B = TemplateMark} (λ (t : ℕ × Template). record { number = t.0; mark = named t.1.name }) (enumerate_from k ts)
    ≡ map {B = TemplateMark} (λ (t : ℕ × TemplateTree). record { number = t.0; mark = named t.1.name })
    (enumerate_from k (map template_tree ts))
marks_agree k [] = refl
marks_agree k (t ∷ ts) =
    let first : TemplateMark = record { number = k; mark = named t.name } in
    ap (λ ms. first ∷ ms) (marks_agree (k + 1) ts)

-- what is gathered from the elements so far, and the next one
pub given_more : {W X : Type 0} (f : X → Option ℕ) (v : W → X) (ws : List W) (i : ℕ) (w : W) (old new : List ℕ) →
    i < length ws → w ≡ get_or ws i w → new ≡ old ++ option_to_list (f (v w)) →
    old ≡ filter_map f (map v (take i ws)) → new ≡ filter_map f (map v (take (i + 1) ws))
given_more f v ws i w old new within is pushed before =
    pushed
    ∙ ap (λ ns. ns ++ option_to_list (f (v w))) before
    ∙ sym (filter_map-push f (map v (take i ws)) (v w))
    ∙ ap (λ y. filter_map f (map v (take i ws) ++ v y ∷ [])) is
    ∙ ap (filter_map f) (sym (mapped-push v (take i ws) (get_or ws i w)))
    ∙ ap (λ ys. filter_map f (map v ys)) (sym (take_more ws i w within))

-- what is made of the elements so far, and of the next one
pub made_more : {V W X : Type 0} (f : X → List ℕ) (v : W → X) (g : V → List ℕ) (ws : List W) (i : ℕ) (w : W)
    (old new : List V) (made : V) → i < length ws → w ≡ get_or ws i w → new ≡ old ++ made ∷ [] → g made ≡ f (v w) →
    map g old ≡ map f (map v (take i ws)) → map g new ≡ map f (map v (take (i + 1) ws))
made_more f v g ws i w old new made within is pushed so before =
    ap (map g) pushed
    ∙ mapped-push g old made
    ∙ (λ j. before j ++ so j ∷ [])
    ∙ ap (λ y. map f (map v (take i ws)) ++ f (v y) ∷ []) is
    ∙ sym (mapped-push f (map v (take i ws)) (v (get_or ws i w)))
    ∙ ap (map f) (sym (mapped-push v (take i ws) (get_or ws i w)))
    ∙ ap (λ ys. map f (map v ys)) (sym (take_more ws i w within))
