-- Where the names of members and of the text lead, in a text whose names are declared once and known.
use Rattle.std.proofs.Common.{◌≡◌, ℕ, Bool, true, false, Some, List, [], ◌∷◌, ◌++◌, ◌⊎◌, inl, inr, refl, sym, ap, ◌∙◌, subst, map}
use Rattle.std.specs.Prelude.{slice_get, is_some, if◌then◌else◌}
use Rattle.std.specs.Bool.{then_some}
use Rattle.std.specs.List.{filter_map, flat_map}
use Rattle.tm_syntax.specs.declared.tree.Ident.{Ident}
use Rattle.tm_syntax.specs.declared.tree.Port.{Port}
use Rattle.tm_syntax.specs.Tree.{VarTree, NamedTree, ProcessTree, TaskTree, InstanceTree, EnumTree, TemplateTree, SpecTree}
use Rattle.tm_syntax.specs.Scopes.Names.{is_spelled, template_named}
use Rattle.tm_syntax.specs.Scopes.Declared.{Sort, a_neighbor, a_variable, an_array, a_task, a_part, a_constant, an_enum, a_template, Declared, declared, var_sort, members, text_names, text_sort}
use Rattle.tm_syntax.specs.Faults.Names.{repeats}
use Rattle.tm_typing.proofs.Fitting.{contrary}
use Rattle.tm_typing.proofs.Listed.{In, is_first_or_later, in_front, in_behind, in_either, in_map, of_map, of_flat, in_filter_map, of_filter_map, in_get, has_first, found_in, of_find, one_thing, no_thing}
use Rattle.tm_typing.proofs.Declaring.{alike, declared_once, IsDeclared, declared_as}

-- what a member of a template is
pub data MemberOf (t : TemplateTree) (d : Declared) : Type 0 where
  is_port : (p : Port) → In p t.ports → declared (a_neighbor p.template) p.name ≡ d → MemberOf t d
  is_instance : (i : InstanceTree) → In i t.instances → declared (a_neighbor i.template) i.name ≡ d → MemberOf t d
  is_var : (v : VarTree) → In v t.vars → declared (var_sort v) v.name ≡ d → MemberOf t d
  is_part : d.sort ≡ a_part → MemberOf t d
  is_task : (k : TaskTree) → In k t.tasks → declared a_task k.name ≡ d → MemberOf t d

ports_of : TemplateTree → List Declared
ports_of t = map (λ (p : Port). declared (a_neighbor p.template) p.name) t.ports

instances_of : TemplateTree → List Declared
instances_of t = map (λ (i : InstanceTree). declared (a_neighbor i.template) i.name) t.instances

vars_of : TemplateTree → List Declared
vars_of t = map (λ (v : VarTree). declared (var_sort v) v.name) t.vars

goals_of : TemplateTree → List Declared
goals_of t = map (λ (g : NamedTree). declared a_part g.name) t.goals

fairs_of : TemplateTree → List Declared
fairs_of t = map (λ (f : NamedTree). declared a_part f.name) t.fairs

processes_of : TemplateTree → List Declared
processes_of t = map (λ (p : ProcessTree). declared a_part p.name) t.processes

tasks_of : TemplateTree → List Declared
tasks_of t = map (λ (k : TaskTree). declared a_task k.name) t.tasks

-- members sort by sort
members_are : (t : TemplateTree) → members t ≡
    ports_of t ++ instances_of t ++ vars_of t ++ goals_of t ++ fairs_of t ++ processes_of t ++ tasks_of t
unfolding ports_of instances_of vars_of goals_of fairs_of processes_of tasks_of
members_are t = refl

part_of : {A : Type 0} (f : A → Ident) {d : Declared} (xs : List A) → In d (map (λ x. declared a_part (f x)) xs) →
    d.sort ≡ a_part
part_of f xs i = let found = of_map (λ x. declared a_part (f x)) xs i in ap (λ (e : Declared). e.sort) (sym found.2)

pub member_of : (t : TemplateTree) (d : Declared) → In d (members t) → MemberOf t d
unfolding ports_of instances_of vars_of goals_of fairs_of processes_of tasks_of
member_of t d i =
    to_tasks (in_either (ports_of t ++ instances_of t ++ vars_of t ++ goals_of t ++ fairs_of t ++ processes_of t)
    (tasks_of t) (subst (In d) (members_are t) i))
  where
    to_instances : In d (ports_of t) ⊎ In d (instances_of t) → MemberOf t d
    to_instances (inl i) =
        let found = of_map (λ (p : Port). declared (a_neighbor p.template) p.name) t.ports i in
        is_port found.0 found.1 found.2
    to_instances (inr i) =
        let found = of_map (λ (i : InstanceTree). declared (a_neighbor i.template) i.name) t.instances i in
        is_instance found.0 found.1 found.2

    to_vars : In d (ports_of t ++ instances_of t) ⊎ In d (vars_of t) → MemberOf t d
    to_vars (inl i) = to_instances (in_either (ports_of t) (instances_of t) i)
    to_vars (inr i) =
        let found = of_map (λ (v : VarTree). declared (var_sort v) v.name) t.vars i in is_var found.0 found.1 found.2

    to_goals : In d (ports_of t ++ instances_of t ++ vars_of t) ⊎ In d (goals_of t) → MemberOf t d
    to_goals (inl i) = to_vars (in_either (ports_of t ++ instances_of t) (vars_of t) i)
    to_goals (inr i) = is_part (part_of (λ (g : NamedTree). g.name) t.goals i)

    to_fairs : In d (ports_of t ++ instances_of t ++ vars_of t ++ goals_of t) ⊎ In d (fairs_of t) → MemberOf t d
    to_fairs (inl i) = to_goals (in_either (ports_of t ++ instances_of t ++ vars_of t) (goals_of t) i)
    to_fairs (inr i) = is_part (part_of (λ (g : NamedTree). g.name) t.fairs i)

    to_processes : In d (ports_of t ++ instances_of t ++ vars_of t ++ goals_of t ++ fairs_of t)
        ⊎ In d (processes_of t) → MemberOf t d
    to_processes (inl i) =
        to_fairs (in_either (ports_of t ++ instances_of t ++ vars_of t ++ goals_of t) (fairs_of t) i)
    to_processes (inr i) = is_part (part_of (λ (p : ProcessTree). p.name) t.processes i)

    to_tasks : In d (ports_of t ++ instances_of t ++ vars_of t ++ goals_of t ++ fairs_of t ++ processes_of t)
        ⊎ In d (tasks_of t) → MemberOf t d
    to_tasks (inl i) =
        to_processes (in_either (ports_of t ++ instances_of t ++ vars_of t ++ goals_of t ++ fairs_of t)
        (processes_of t) i)
    to_tasks (inr i) =
        let found = of_map (λ (k : TaskTree). declared a_task k.name) t.tasks i in is_task found.0 found.1 found.2

-- ports, instances and variables come first among the members
early_member : (t : TemplateTree) (d : Declared) → In d (ports_of t ++ instances_of t ++ vars_of t) →
    In d (members t)
early_member t d i =
    subst (In d) (sym (members_are t))
    (in_front (ports_of t ++ instances_of t ++ vars_of t ++ goals_of t ++ fairs_of t ++ processes_of t) (tasks_of t)
    (in_front (ports_of t ++ instances_of t ++ vars_of t ++ goals_of t ++ fairs_of t) (processes_of t)
    (in_front (ports_of t ++ instances_of t ++ vars_of t ++ goals_of t) (fairs_of t)
    (in_front (ports_of t ++ instances_of t ++ vars_of t) (goals_of t) i))))

pub port_in : (t : TemplateTree) (p : Port) → In p t.ports → In (declared (a_neighbor p.template) p.name) (members t)
unfolding ports_of
port_in t p i =
    early_member t (declared (a_neighbor p.template) p.name)
    (in_front (ports_of t ++ instances_of t) (vars_of t)
    (in_front (ports_of t) (instances_of t)
    (in_map (λ (p : Port). declared (a_neighbor p.template) p.name) t.ports i)))

pub instance_in : (t : TemplateTree) (i : InstanceTree) → In i t.instances →
    In (declared (a_neighbor i.template) i.name) (members t)
unfolding instances_of
instance_in t i at =
    early_member t (declared (a_neighbor i.template) i.name)
    (in_front (ports_of t ++ instances_of t) (vars_of t)
    (in_behind (ports_of t) (instances_of t)
    (in_map (λ (i : InstanceTree). declared (a_neighbor i.template) i.name) t.instances at)))

pub var_in : (t : TemplateTree) (v : VarTree) → In v t.vars → In (declared (var_sort v) v.name) (members t)
unfolding vars_of
var_in t v i =
    early_member t (declared (var_sort v) v.name)
    (in_behind (ports_of t ++ instances_of t) (vars_of t)
    (in_map (λ (v : VarTree). declared (var_sort v) v.name) t.vars i))

-- the sort of a variable is one of two
pub no_var_sort : {X : Type 0} (v : VarTree) (sort : Sort) → var_sort v ≡ sort → (an_array ≡ sort → X) →
    (a_variable ≡ sort → X) → X
no_var_sort {X} v sort e of_array of_variable = by (is_some v.size) e
  where
    by : (b : Bool) → (if b then an_array else a_variable) ≡ sort → X
    by true e = of_array e
    by false e = of_variable e

-- the template that some member of a name is of
pub data Neighbor (t : TemplateTree) (d : Declared) (n : Ident) : Type 0 where
  a_port : (p : Port) → In p t.ports → declared (a_neighbor p.template) p.name ≡ d → p.template ≡ n → Neighbor t d n
  an_instance : (i : InstanceTree) → In i t.instances → declared (a_neighbor i.template) i.name ≡ d →
      i.template ≡ n → Neighbor t d n

ident_of : Sort → Ident → Ident
ident_of (a_neighbor n) m = n
ident_of _ m = m

same_neighbor : (m n : Ident) → a_neighbor m ≡ a_neighbor n → m ≡ n
unfolding ident_of
same_neighbor m n e = ap (λ s. ident_of s m) e

pub neighbor_of : (t : TemplateTree) (d : Declared) (n : Ident) → MemberOf t d → d.sort ≡ a_neighbor n →
    Neighbor t d n
neighbor_of t d n (is_port p i is) e =
    a_port p i is (same_neighbor p.template n (ap (λ (x : Declared). x.sort) is ∙ e))
neighbor_of t d n (is_instance i at is) e =
    an_instance i at is (same_neighbor i.template n (ap (λ (x : Declared). x.sort) is ∙ e))
neighbor_of t d n (is_var v i is) e =
    no_var_sort v (a_neighbor n) (ap (λ (x : Declared). x.sort) is ∙ e) (λ x. absurd cc) (λ x. absurd cc)
neighbor_of t d n (is_part is) e = let x = sym is ∙ e in absurd cc
neighbor_of t d n (is_task k i is) e = let x = ap (λ (x : Declared). x.sort) is ∙ e in absurd cc

-- what passes a test is the thing tested
then_some_is : {A : Type 0} (b : Bool) (x y : A) → then_some b x ≡ Some y → (b ≡ true) × (x ≡ y)
then_some_is true x y e = (refl, one_thing refl e)
then_some_is false x y e = no_thing e

then_some_true : {A : Type 0} (b : Bool) (x : A) → b ≡ true → then_some b x ≡ Some x
then_some_true true x e = refl
then_some_true false x e = contrary e

-- the neighbors of a name
abbrev pub known_here : TemplateTree → List ℕ → List Ident
known_here t name =
    filter_map (λ (i : InstanceTree). then_some (is_spelled name i.name) i.template) t.instances
    ++ filter_map (λ (p : Port). then_some (is_spelled name p.name) p.template) t.ports

-- each neighbor of a name is declared so
known_declared : (t : TemplateTree) (name : List ℕ) (m : Ident) → In m (known_here t name) →
    (d : Declared) × In d (members t) × (is_spelled name d.name ≡ true) × (d.sort ≡ a_neighbor m)
known_declared t name m i =
    by (in_either (filter_map (λ (i : InstanceTree). then_some (is_spelled name i.name) i.template) t.instances)
    (filter_map (λ (p : Port). then_some (is_spelled name p.name) p.template) t.ports) i)
  where
    by : In m (filter_map (λ (i : InstanceTree). then_some (is_spelled name i.name) i.template) t.instances)
        ⊎ In m (filter_map (λ (p : Port). then_some (is_spelled name p.name) p.template) t.ports) →
        (d : Declared) × In d (members t) × (is_spelled name d.name ≡ true) × (d.sort ≡ a_neighbor m)
    by (inl i) =
        let x = of_filter_map (λ (i : InstanceTree). then_some (is_spelled name i.name) i.template) t.instances i in
        let is = then_some_is (is_spelled name x.0.name) x.0.template m x.2 in
        (declared (a_neighbor x.0.template) x.0.name, instance_in t x.0 x.1, is.0, ap a_neighbor is.1)
    by (inr i) =
        let x = of_filter_map (λ (p : Port). then_some (is_spelled name p.name) p.template) t.ports i in
        let is = then_some_is (is_spelled name x.0.name) x.0.template m x.2 in
        (declared (a_neighbor x.0.template) x.0.name, port_in t x.0 x.1, is.0, ap a_neighbor is.1)

-- what is declared as a neighbor of a name is one
in_known : (t : TemplateTree) (name : List ℕ) (d : Declared) (n : Ident) → Neighbor t d n →
    is_spelled name d.name ≡ true → In n (known_here t name)
in_known t name d n (a_port p i is of) e =
    in_behind (filter_map (λ (i : InstanceTree). then_some (is_spelled name i.name) i.template) t.instances)
    (filter_map (λ (p : Port). then_some (is_spelled name p.name) p.template) t.ports)
    (in_filter_map (λ (p : Port). then_some (is_spelled name p.name) p.template) t.ports i
    (then_some_true (is_spelled name p.name) p.template
    (subst (λ (x : Declared). is_spelled name x.name ≡ true) (sym is) e) ∙ ap Some of))
in_known t name d n (an_instance j i is of) e =
    in_front (filter_map (λ (i : InstanceTree). then_some (is_spelled name i.name) i.template) t.instances)
    (filter_map (λ (p : Port). then_some (is_spelled name p.name) p.template) t.ports)
    (in_filter_map (λ (i : InstanceTree). then_some (is_spelled name i.name) i.template) t.instances i
    (then_some_true (is_spelled name j.name) j.template
    (subst (λ (x : Declared). is_spelled name x.name ≡ true) (sym is) e) ∙ ap Some of))

-- where members are declared once, a neighbor's template is that of its declaration
pub known_is : (t : TemplateTree) (name : List ℕ) (d : Declared) (n : Ident) → repeats (members t) ≡ [] →
    In d (members t) → is_spelled name d.name ≡ true → Neighbor t d n → d.sort ≡ a_neighbor n →
    slice_get (known_here t name) 0 ≡ Some n
known_is t name d n once i e of sort =
    let first = has_first (known_here t name) (in_known t name d n of e) in
    let known = known_declared t name first.0 (in_get (known_here t name) 0 first.1) in
    let same : d ≡ known.0 = declared_once (members t) d known.0 once i known.1
    (alike name d.name known.0.name e known.2)
    in
    first.1 ∙ ap Some (same_neighbor first.0 n
    (sym known.3 ∙ ap (λ (x : Declared). x.sort) (sym same) ∙ sort))

enums_of : SpecTree → List Declared
enums_of spec =
    flat_map (λ (e : EnumTree). declared an_enum e.name ∷ map (declared a_constant) e.constants) spec.enums

templates_of : SpecTree → List Declared
templates_of spec = map (λ (t : TemplateTree). declared (a_template t) t.name) spec.templates

template_of : Sort → TemplateTree → TemplateTree
template_of (a_template t) other = t
template_of _ other = other

same_template : (t u : TemplateTree) → a_template t ≡ a_template u → t ≡ u
unfolding template_of
same_template t u e = ap (λ s. template_of s t) e

-- no enum or constant is a template
no_enum : {X : Type 0} (spec : SpecTree) (t : TemplateTree) (d : Declared) → In d (enums_of spec) →
    d.sort ≡ a_template t → X
unfolding enums_of
no_enum {X} spec t d i sort =
    by found.0 (is_first_or_later (map (declared a_constant) found.0.constants) found.2)
  where
    found : (e : EnumTree) × In e spec.enums
        × In d (declared an_enum e.name ∷ map (declared a_constant) e.constants)
    found = of_flat (λ (e : EnumTree). declared an_enum e.name ∷ map (declared a_constant) e.constants) spec.enums i

    by : (e : EnumTree) → (declared an_enum e.name ≡ d) ⊎ In d (map (declared a_constant) e.constants) → X
    by e (inl is) = let x = ap (λ (y : Declared). y.sort) is ∙ sort in absurd cc
    by e (inr j) =
        let at = of_map (declared a_constant) e.constants j in
        let x = ap (λ (y : Declared). y.sort) at.2 ∙ sort in absurd cc

-- where the names of a text are declared once, a template's name leads to it
pub template_is : (spec : SpecTree) (name : List ℕ) (t : TemplateTree) → repeats (text_names spec) ≡ [] →
    text_sort spec name ≡ Some (a_template t) → (template_named spec name ≡ Some t) × In t spec.templates
unfolding enums_of templates_of
template_is spec name t once e = by (in_either (enums_of spec) (templates_of spec) d.is)
  where
    d : IsDeclared (text_names spec) name (a_template t)
    d = declared_as (text_names spec) name (a_template t) e

    by : In d.at (enums_of spec) ⊎ In d.at (templates_of spec) →
        (template_named spec name ≡ Some t) × In t spec.templates
    by (inl i) = no_enum spec t d.at i d.sort
    by (inr i) =
        let at = of_map (λ (t : TemplateTree). declared (a_template t) t.name) spec.templates i in
        let same = same_template at.0 t (ap (λ (x : Declared). x.sort) at.2 ∙ d.sort) in
        let there = subst (λ (u : TemplateTree). In u spec.templates) same at.1 in
        let spelled = subst (λ (x : Declared). is_spelled name x.name ≡ true) (sym at.2) d.spelled in
        let found = found_in (λ (u : TemplateTree). is_spelled name u.name) spec.templates at.1 spelled in
        let passes = of_find (λ (u : TemplateTree). is_spelled name u.name) spec.templates found.1 in
        let one = declared_once (text_names spec) (declared (a_template found.0) found.0.name) d.at once
        (in_behind (enums_of spec) (templates_of spec)
        (in_map (λ (t : TemplateTree). declared (a_template t) t.name) spec.templates passes.0)) d.is
        (alike name found.0.name d.at.name passes.1 d.spelled) in
        (found.1 ∙ ap Some (same_template found.0 t (ap (λ (x : Declared). x.sort) one ∙ d.sort)), there)

-- what a text declares
pub data NameOf (spec : SpecTree) (d : Declared) : Type 0 where
  is_enum : d.sort ≡ an_enum → NameOf spec d
  is_constant : (e : EnumTree) (name : Ident) → In e spec.enums → In name e.constants →
      declared a_constant name ≡ d → NameOf spec d
  is_template : (t : TemplateTree) → d.sort ≡ a_template t → NameOf spec d

pub name_of : (spec : SpecTree) (d : Declared) → In d (text_names spec) → NameOf spec d
unfolding enums_of templates_of
name_of spec d i = by (in_either (enums_of spec) (templates_of spec) i)
  where
    of_enum : (e : EnumTree) → In e spec.enums →
        (declared an_enum e.name ≡ d) ⊎ In d (map (declared a_constant) e.constants) → NameOf spec d
    of_enum e at (inl is) = is_enum (ap (λ (x : Declared). x.sort) (sym is))
    of_enum e at (inr j) =
        let found = of_map (declared a_constant) e.constants j in is_constant e found.0 at found.1 found.2

    by : In d (enums_of spec) ⊎ In d (templates_of spec) → NameOf spec d
    by (inl j) =
        let found = of_flat (λ (e : EnumTree). declared an_enum e.name ∷ map (declared a_constant) e.constants)
        spec.enums j in
        of_enum found.0 found.1 (is_first_or_later (map (declared a_constant) found.0.constants) found.2)
    by (inr j) =
        let found = of_map (λ (t : TemplateTree). declared (a_template t) t.name) spec.templates j in
        is_template found.0 (ap (λ (x : Declared). x.sort) (sym found.2))
