-- The declarations of a template, one behind another, and the template that they make.
use Rattle.std.proofs.Common.{◌≡◌, ℕ, Option, Some, None, List, [], ◌∷◌, ◌++◌, refl, sym, ap, ◌∙◌, subst, append_assoc}
use Rattle.std.specs.List.{filter_map}
use Rattle.std.proofs.lemmas.List.{append-nil}
use Rattle.std.proofs.lemmas.List.Elements.{filter_map-append}
use Rattle.tm_base.specs.declared.place.Place.{Place}
use Rattle.tm_syntax.specs.declared.token.Token.{Token}
use Rattle.tm_syntax.specs.declared.token.TokenKind.TheVariants as token
use Rattle.tm_syntax.specs.declared.token.Word.TheVariants as word
use Rattle.tm_syntax.specs.declared.token.Sign.TheVariants as sign
use Rattle.tm_syntax.specs.declared.tree.Ident.{Ident}
use Rattle.tm_syntax.specs.declared.tree.Port.{Port}
use Rattle.tm_syntax.specs.Tree.{InstanceTree, VarTree, NamedTree, ProcessTree, TaskTree, TemplateTree}
use Rattle.tm_syntax.specs.Grammar.Parts.{Has, IsMark, IsName, AreEach, each_none, enclosed_none}
use Rattle.tm_syntax.specs.Grammar.Specification.{DeclTree, instance_of, variable_of, goal_of, fairness_of, process_of, task_of, IsPort, template}
use Rattle.tm_parse.specs.declared.specification.DeclSort.{DeclSort}
use Rattle.tm_parse.specs.declared.stop.Stop.{Stop}
use Rattle.tm_parse.specs.Reading.{Reach, first_of, first_kind, IsRefused, Takes, AnyOf, Nothing, TheMark}
use Rattle.tm_parse.specs.Commands.{GoesAt}
use Rattle.tm_parse.specs.Items.{InParentheses, ADeclOf, ADecl, decl_sort, GoesDecls, with_decls, IsExtended, extends, bare, IsHead, head, ATemplate}
use Rattle.tm_parse.proofs.Arguments.{other_kind}
use Rattle.tm_parse.proofs.DeclSorts.{decl_opens, sorted_is, decls_apart, plain_decls, sorted_decls}
use Rattle.tm_parse.proofs.Names.{name_word}
use Rattle.tm_parse.proofs.Rows.{Each, none_here, one_here, each_view, EndsBy, RowSoFar, row_start, row_more, row_all, row_blocked, each_grows}
use Rattle.tm_parse.proofs.Taking.{Both, Same, AnyWord, same_kind, takes_both, takes_then, takes_so, at_first, at_second, blocked_first, blocked_second, blocked_so, both_word, refused_in}
use Rattle.tm_parse.proofs.Terminals.{has_kind, mark_word, without_place}

-- declarations, one behind another
abbrev Decls : List ℕ → Reach → List DeclTree → List Token → List Token → Type 0
Decls text reach ds a b = AreEach (ADecl text reach) ds a b

-- a template was extended so far
pub record Extending (text : List ℕ) (t u : TemplateTree) (tokens rest : List Token) : Type 0 where
  pub decls : List DeclTree
  pub tree : u ≡ with_decls t decls
  pub row : RowSoFar (Decls text) (ADecl text) (EndsBy GoesDecls) decls tokens rest

-- of no declarations, and of one more behind others
with_none : (t : TemplateTree) → t ≡ with_decls t []
with_none t = λ j. record {
  name = t.name;
  ports = t.ports;
  instances = sym (append-nil t.instances) j;
  vars = sym (append-nil t.vars) j;
  goals = sym (append-nil t.goals) j;
  fairs = sym (append-nil t.fairs) j;
  processes = sym (append-nil t.processes) j;
  tasks = sym (append-nil t.tasks) j;
}

kept : {X : Type 0} (of : DeclTree → Option X) (xs : List X) (ds es : List DeclTree) →
    (xs ++ filter_map of ds) ++ filter_map of es ≡ xs ++ filter_map of (ds ++ es)
kept of xs ds es =
    append_assoc xs (filter_map of ds) (filter_map of es) ∙ ap (λ l. xs ++ l) (sym (filter_map-append of ds es))

with_more : (t : TemplateTree) (ds es : List DeclTree) → with_decls (with_decls t ds) es ≡ with_decls t (ds ++ es)
with_more t ds es = λ j. record {
  name = t.name;
  ports = t.ports;
  instances = kept instance_of t.instances ds es j;
  vars = kept variable_of t.vars ds es j;
  goals = kept goal_of t.goals ds es j;
  fairs = kept fairness_of t.fairs ds es j;
  processes = kept process_of t.processes ds es j;
  tasks = kept task_of t.tasks ds es j;
}

pub extending_none : {text : List ℕ} (t : TemplateTree) {a : List Token} → Extending text t t a a
extending_none t = record {
  decls = [];
  tree = with_none t;
  row = row_start (λ reach b. each_none) (λ reach ds b c are. are);
}

pub extending_more : {text : List ℕ} {t u v : TemplateTree} {k : DeclSort} {d : DeclTree} {a b c : List Token} →
    Extending text t u a b → decl_sort (first_kind b) ≡ Some k → Takes (ADeclOf text k) Nothing d b c →
    v ≡ with_decls u (d ∷ []) → Extending text t v a c
extending_more {text} {t} {d} {b} h begins r more = record {
  decls = h.decls ++ d ∷ [];
  tree = more ∙ ap (λ w. with_decls w (d ∷ [])) h.tree ∙ with_more t h.decls (d ∷ []);
  row = row_more each_grows (decls_apart text) h.row (takes_so (sorted_is b begins) r);
}

-- the declarations that were read, as the template that they extend
extended_is : {text : List ℕ} (t : TemplateTree) (a : List Token) →
    Same (Decls text) (IsExtended text t) GoesDecls (with_decls t) a
extended_is {text} t a = record {
  to = λ reach ds b c are. extends are;
  from = λ reach u b c same stop h. from reach u b c h;
}
  where
    from : (reach : Reach) (u : TemplateTree) (b c : List Token) → IsExtended text t reach u b c →
        (ds : List DeclTree) × Decls text reach ds b c × (u ≡ with_decls t ds)
    from reach u b c (extends are) = (_, are, refl)

pub taken_extended : {text : List ℕ} {t u : TemplateTree} {a b : List Token} → decl_sort (first_kind b) ≡ None →
    Extending text t u a b → Takes (IsExtended text t) GoesDecls u a b
taken_extended {text} {t} {a} {b} none h =
    subst (λ (v : TemplateTree). Takes (IsExtended text t) GoesDecls v a b) (sym h.tree)
    (takes_so (extended_is t a) (row_all ended h.row))
  where
    ended : (reach : Reach) (d : DeclTree) (c e : List Token) → first_of c ≡ first_of b → ¬ ADecl text reach d c e
    ended reach d c e same is =
        let found : Some is.sort ≡ None =
        sym (decl_opens is.is) ∙ ap decl_sort (same_kind c b same) ∙ none in
        cc

pub no_extended : {text : List ℕ} {t u : TemplateTree} {k : DeclSort} {a b : List Token} → Extending text t u a b →
    decl_sort (first_kind b) ≡ Some k → (e : Stop) → IsRefused (AnyOf (ADeclOf text k)) Nothing b e →
    IsRefused (AnyOf (IsExtended text t)) GoesDecls a e
no_extended {text} {t} {k} {a} {b} so_far begins e h =
    refused_in (extended_is t a) (λ deep here blocked.
    row_blocked each_grows (decls_apart text) (k, begins) so_far.row (blocked_so (sorted_is b begins) blocked)) e h

-- a head, declarations and "endtemplate"
abbrev EndParts : List ℕ → TemplateTree → Reach → TemplateTree × Unit {0} → List Token → List Token → Type 0
EndParts text t = Both (IsExtended text t) (λ _. TheMark (token.Word word.EndTemplate))

abbrev TemplateParts : List ℕ → Reach → TemplateTree × (TemplateTree × Unit {0}) → List Token → List Token → Type 0
TemplateParts text = Both (IsHead text) (λ t. EndParts text t)

template_to : {text : List ℕ} {reach : Reach} {t u : TemplateTree} {a b c d : List Token} → IsHead text reach t a b →
    IsExtended text t reach u b c → Has (token.Word word.EndTemplate) c d → ATemplate text reach u a d
template_to (head m n r) (extends are) o = template m n r (plain_decls are) o

template_is : {text : List ℕ} (a : List Token) →
    Same (TemplateParts text) (ATemplate text) Nothing (λ t. t.1.0) a
template_is {text} a = record {
  to = λ reach t b c h. template_to h.first h.second.first h.second.second;
  from = λ reach u b c same stop h. from reach u b c h;
}
  where
    from : (reach : Reach) (u : TemplateTree) (b c : List Token) → ATemplate text reach u b c →
        (t : TemplateTree × (TemplateTree × Unit {0})) × TemplateParts text reach t b c × (u ≡ t.1.0)
    from reach u b c (template m n r are o) = (
      (_, (_, tt)),
      record {
        between = _;
        first = head m n r;
        second = record { between = _; first = extends (sorted_decls are); second = o };
      },
      refl,
    )

-- what stands behind a head goes on with no list in parentheses
row_opens : {text : List ℕ} {reach : Reach} {ds : List DeclTree} {a b c : List Token} → Each (ADecl text reach) ds a b →
    Has (token.Word word.EndTemplate) b c → ¬ GoesAt (token.Sign sign.OpenParenthesis) (first_kind a)
row_opens none_here o at = let kinds = other_kind (has_kind o) at in cc
row_opens (one_here is others) o at =
    let found : Some is.sort ≡ None = sym (decl_opens is.is) ∙ ap decl_sort at in
    cc

extended_opens : {text : List ℕ} {t u : TemplateTree} {reach : Reach} {a b c : List Token} →
    IsExtended text t reach u a b → Has (token.Word word.EndTemplate) b c →
    ¬ GoesAt (token.Sign sign.OpenParenthesis) (first_kind a)
extended_opens (extends are) o = row_opens (each_view are) o

head_parts : {text : List ℕ} (reach : Reach) (x : TemplateTree) (y : TemplateTree × Unit {0}) (a b : List Token) →
    EndParts text x reach y a b → ¬ Nothing (first_kind b) →
    ¬ GoesAt (token.Sign sign.OpenParenthesis) (first_kind a)
head_parts reach x y a b h stop = extended_opens h.first h.second

decls_parts : (reach : Reach) (x : TemplateTree) (y : Unit {0}) (a b : List Token) →
    TheMark (token.Word word.EndTemplate) reach y a b → ¬ Nothing (first_kind b) → ¬ GoesDecls (first_kind a)
decls_parts reach x y a b m stop goes =
    let found : None ≡ Some goes.0 = sym (ap decl_sort (has_kind m)) ∙ goes.1 in
    cc

end_word : (text : List ℕ) → AnyWord (λ (t : TemplateTree). EndParts text t)
end_word text = record {
  word = (mark_word {X = Unit {0}} (token.Word word.EndTemplate)).word;
  spells = λ t size behind fits.
      let m = (mark_word {X = Unit {0}} (token.Word word.EndTemplate)).spells tt size behind fits in
      ((with_decls t [], tt), record { between = _; first = extends each_none; second = m.1 });
}

pub taken_template : {text : List ℕ} {t u : TemplateTree} {p : Place} {a b c d : List Token} →
    Takes (IsHead text) (GoesAt (token.Sign sign.OpenParenthesis)) t a b → Takes (IsExtended text t) GoesDecls u b c →
    Takes (λ _. IsMark (token.Word word.EndTemplate)) Nothing p c d → Takes (ATemplate text) Nothing u a d
taken_template r s m =
    takes_so (template_is _) (takes_both r head_parts (takes_both s decls_parts (without_place m)))

pub no_template_head : (text : List ℕ) (a : List Token) (e : Stop) →
    IsRefused (AnyOf (IsHead text)) (GoesAt (token.Sign sign.OpenParenthesis)) a e →
    IsRefused (AnyOf (ATemplate text)) Nothing a e
no_template_head text a e h =
    refused_in (template_is a) (λ deep here blocked. blocked_first blocked (end_word text) head_parts) e h

pub no_template_decls : {text : List ℕ} {t : TemplateTree} {a b : List Token} →
    Takes (IsHead text) (GoesAt (token.Sign sign.OpenParenthesis)) t a b → (e : Stop) →
    IsRefused (AnyOf (IsExtended text t)) GoesDecls b e → IsRefused (AnyOf (ATemplate text)) Nothing a e
no_template_decls r e h =
    refused_in (template_is _) (λ deep here blocked. blocked_second r head_parts
    (blocked_first blocked (mark_word (token.Word word.EndTemplate)) decls_parts)) e h

pub no_template_end : {text : List ℕ} {t u : TemplateTree} {a b c : List Token} →
    Takes (IsHead text) (GoesAt (token.Sign sign.OpenParenthesis)) t a b → Takes (IsExtended text t) GoesDecls u b c →
    (e : Stop) → IsRefused (AnyOf (TheMark (token.Word word.EndTemplate))) Nothing c e →
    IsRefused (AnyOf (ATemplate text)) Nothing a e
no_template_end r s e h =
    refused_in (template_is _) (λ deep here blocked. blocked_second r head_parts
    (blocked_second s decls_parts blocked)) e h

-- "template", a name and ports
abbrev HeadParts : List ℕ → Reach → Unit {0} × (Ident × List Port) → List Token → List Token → Type 0
HeadParts text = Both (TheMark (token.Word word.Template))
    (λ _. Both (λ _. IsName text) (λ _. InParentheses 0 (λ _. IsPort text)))

head_is : {text : List ℕ} (a : List Token) →
    Same (HeadParts text) (IsHead text) (GoesAt (token.Sign sign.OpenParenthesis)) (λ t. bare t.1.0 t.1.1) a
head_is {text} a = record {
  to = λ reach t b c h. head h.first h.second.first h.second.second;
  from = λ reach u b c same stop h. from reach u b c h;
}
  where
    from : (reach : Reach) (u : TemplateTree) (b c : List Token) → IsHead text reach u b c →
        (t : Unit {0} × (Ident × List Port)) × HeadParts text reach t b c × (u ≡ bare t.1.0 t.1.1)
    from reach u b c (head m n r) = (
      (tt, (_, _)),
      record { between = _; first = m; second = record { between = _; first = n; second = r } },
      refl,
    )

no_ports_word : {X : Type 0} (text : List ℕ) → AnyWord {X = X} (λ x. InParentheses 0 (λ _. IsPort text))
no_ports_word text = record { word = []; spells = λ x size behind fits. ([], enclosed_none) }

pub taken_head : {text : List ℕ} {name : Ident} {xs : List Port} {p : Place} {a b c d : List Token} →
    Takes (λ _. IsMark (token.Word word.Template)) Nothing p a b → Takes (λ _. IsName text) Nothing name b c →
    Takes (InParentheses 0 (λ _. IsPort text)) (GoesAt (token.Sign sign.OpenParenthesis)) xs c d →
    Takes (IsHead text) (GoesAt (token.Sign sign.OpenParenthesis)) (bare name xs) a d
taken_head m n r = takes_so (head_is _) (takes_then (without_place m) (takes_then n r))

pub no_head_word : (text : List ℕ) (a : List Token) (e : Stop) →
    IsRefused (AnyOf (TheMark (token.Word word.Template))) Nothing a e →
    IsRefused (AnyOf (IsHead text)) (GoesAt (token.Sign sign.OpenParenthesis)) a e
no_head_word text a e h =
    refused_in (head_is a) (λ deep here blocked. at_first blocked
    (both_word (name_word text) (no_ports_word text))) e h

pub no_head_name : (text : List ℕ) {p : Place} {a b : List Token} →
    Takes (λ _. IsMark (token.Word word.Template)) Nothing p a b → (e : Stop) →
    IsRefused (AnyOf (λ _. IsName text)) Nothing b e →
    IsRefused (AnyOf (IsHead text)) (GoesAt (token.Sign sign.OpenParenthesis)) a e
no_head_name text m e h =
    refused_in (head_is _) (λ deep here blocked. at_second (without_place m)
    (at_first blocked (no_ports_word text))) e h

pub no_head_ports : {text : List ℕ} {name : Ident} {p : Place} {a b c : List Token} →
    Takes (λ _. IsMark (token.Word word.Template)) Nothing p a b → Takes (λ _. IsName text) Nothing name b c →
    (e : Stop) →
    IsRefused (AnyOf (InParentheses 0 (λ _. IsPort text))) (GoesAt (token.Sign sign.OpenParenthesis)) c e →
    IsRefused (AnyOf (IsHead text)) (GoesAt (token.Sign sign.OpenParenthesis)) a e
no_head_ports m n e h =
    refused_in (head_is _) (λ deep here blocked. at_second (without_place m) (at_second n blocked)) e h

-- a template that declares nothing yet
pub taken_bare : {text : List ℕ} {name : Ident} {ports : List Port} {is : List InstanceTree} {vs : List VarTree}
    {gs fs : List NamedTree} {ps : List ProcessTree} {ts : List TaskTree} {a b : List Token} → is ≡ [] → vs ≡ [] →
    gs ≡ [] → fs ≡ [] → ps ≡ [] → ts ≡ [] →
    Takes (IsHead text) (GoesAt (token.Sign sign.OpenParenthesis)) (bare name ports) a b →
    Takes (IsHead text) (GoesAt (token.Sign sign.OpenParenthesis))
    (record {
      name = name;
      ports = ports;
      instances = is;
      vars = vs;
      goals = gs;
      fairs = fs;
      processes = ps;
      tasks = ts;
    }) a b
taken_bare {text} {name} {ports} {a} {b} ei ev eg ef ep et r =
    subst (λ (t : TemplateTree). Takes (IsHead text) (GoesAt (token.Sign sign.OpenParenthesis)) t a b)
    (λ j. record {
      name = name;
      ports = ports;
      instances = sym ei j;
      vars = sym ev j;
      goals = sym eg j;
      fairs = sym ef j;
      processes = sym ep j;
      tasks = sym et j;
    }) r
