-- Declarations by their first tokens.
use Rattle.std.proofs.Common.{◌≡◌, ℕ, Some, List, refl, sym, ap, ◌∙◌, subst}
use Rattle.tm_base.specs.declared.place.Place.{Place}
use Rattle.tm_syntax.specs.declared.token.Token.{Token}
use Rattle.tm_syntax.specs.declared.token.TokenKind.TheVariants as token
use Rattle.tm_syntax.specs.declared.token.Word.TheVariants as word
use Rattle.tm_syntax.specs.declared.tree.TypeName.{TypeName}
use Rattle.tm_syntax.specs.Tree.{InstanceTree, VarTree, NamedTree, ProcessTree, TaskTree}
use Rattle.tm_syntax.specs.Grammar.Parts.{IsMark, AreEach, each_none, each_more}
use Rattle.tm_syntax.specs.Grammar.Statements.{IsType, type_bool, type_uint, type_name}
use Rattle.tm_syntax.specs.Grammar.Declarations as plain
use Rattle.tm_syntax.specs.Grammar.Specification.{DeclTree, an_instance, a_variable, a_goal, a_fairness, a_process, a_task, IsDecl, decl_instance, decl_variable, decl_goal, decl_fair, decl_process, decl_task}
use Rattle.tm_parse.specs.declared.specification.DeclSort.{DeclSort}
use Rattle.tm_parse.specs.declared.specification.DeclSort.TheVariants as sort
use Rattle.tm_parse.specs.declared.stop.Stop.{Stop}
use Rattle.tm_parse.specs.Reading.{Reach, IsBound, first_of, first_kind, IsRefused, Takes, AnyOf, Nothing, TheMark}
use Rattle.tm_parse.specs.Items.{ANamed, AnInstance, AProcess, controllable, uncontrollable, result_void, result_type, procedure_kind, IsControlled, controlled, IsProcedure, procedure, IsDeclared, is_instance, is_variable, is_goal, is_fairness, is_process, is_task, is_procedure, ADeclOf, ADecl, decl_sort, GoesDecls}
use Rattle.tm_parse.proofs.Instances.{named_word}
use Rattle.tm_parse.proofs.Names.{name_has}
use Rattle.tm_parse.proofs.Rows.{EndsBy, Apart}
use Rattle.tm_parse.proofs.Taking.{Both, Same, same_kind, takes_then, takes_so, at_first, at_second, refused_in}
use Rattle.tm_parse.proofs.Terminals.{mark_kind, has_kind, without_place}

-- the declaration that begins with the first token of a declaration
type_opens : {text : List ℕ} {ty : TypeName} {a b : List Token} → IsType text ty a b →
    decl_sort (first_kind a) ≡ Some sort.Variable
type_opens (type_bool m) = ap decl_sort (mark_kind m)
type_opens (type_uint m l n g) = ap decl_sort (mark_kind m)
type_opens (type_name n) = ap decl_sort (has_kind (name_has n))

variable_opens : {text : List ℕ} {d : VarTree} {a b : List Token} → plain.IsVar text d a b →
    decl_sort (first_kind a) ≡ Some sort.Variable
variable_opens (plain.variable ty n l i m) = type_opens ty

instance_opens : {text : List ℕ} {May : List Token → ℕ → Type 0} {depth : ℕ} {d : InstanceTree} {a b : List Token} →
    plain.IsInstance text May depth d a b → decl_sort (first_kind a) ≡ Some sort.Instance
instance_opens (plain.instance m k n are o) = ap decl_sort (has_kind m)

process_opens : {text : List ℕ} {May : List Token → ℕ → Type 0} {depth : ℕ} {d : ProcessTree} {a b : List Token} →
    plain.IsProcess text May depth d a b → decl_sort (first_kind a) ≡ Some sort.Process
process_opens (plain.process_fair m n is) = ap decl_sort (has_kind m)
process_opens (plain.process_lazy l m n is) = ap decl_sort (has_kind l)

task_opens : {text : List ℕ} {depth : ℕ} {reach : Reach} {d : TaskTree} {a b : List Token} →
    IsControlled text depth reach d a b → decl_sort (first_kind a) ≡ Some sort.Task
task_opens (controlled (controllable m n) h is) = ap decl_sort (has_kind m)
task_opens (controlled (uncontrollable m n) h is) = ap decl_sort (has_kind m)

procedure_opens : {text : List ℕ} {depth : ℕ} {reach : Reach} {d : TaskTree} {a b : List Token} →
    IsProcedure text depth reach d a b → decl_sort (first_kind a) ≡ Some sort.Procedure
procedure_opens (procedure (procedure_kind m r) h is) = ap decl_sort (has_kind m)

pub decl_opens : {text : List ℕ} {reach : Reach} {s : DeclSort} {d : DeclTree} {a b : List Token} →
    IsDeclared text reach s d a b → decl_sort (first_kind a) ≡ Some s
decl_opens (is_instance is) = instance_opens is
decl_opens (is_variable is) = variable_opens is
decl_opens (is_goal m is) = ap decl_sort (has_kind m)
decl_opens (is_fairness m is) = ap decl_sort (has_kind m)
decl_opens (is_process is) = process_opens is
decl_opens (is_task is) = task_opens is
decl_opens (is_procedure is) = procedure_opens is

-- the declaration that begins here is of the sort that its first token tells
pub sorted_is : {text : List ℕ} {k : DeclSort} (a : List Token) → decl_sort (first_kind a) ≡ Some k →
    Same (ADeclOf text k) (ADecl text) Nothing (λ d. d) a
sorted_is {text} {k} a begins = record {
  to = λ reach d b c is. record { sort = k; is = is };
  from = λ reach d b c same stop h. (d, from reach d b c same h, refl);
}
  where
    from : (reach : Reach) (d : DeclTree) (b c : List Token) → first_of b ≡ first_of a → ADecl text reach d b c →
        ADeclOf text k reach d b c
    from reach d b c same h =
        let found : Some h.sort ≡ Some k = sym (decl_opens h.is) ∙ ap decl_sort (same_kind b a same) ∙ begins in
        let one : h.sort ≡ k = cc in
        subst (λ (s : DeclSort). IsDeclared text reach s d b c) one h.is

-- declarations stand apart, and end where none begins
pub decls_apart : (text : List ℕ) → Apart (ADecl text) Nothing (EndsBy GoesDecls)
decls_apart text = record {
  begins = λ reach d a b is goes. goes;
  ends = λ reach d a b is ends. ends (is.sort, decl_opens is.is);
  last = λ a ends goes. goes;
}

-- a declaration of some sort is a declaration of the grammar, and the other way round
task_plain : {text : List ℕ} {depth : ℕ} {reach : Reach} {d : TaskTree} {a b : List Token} →
    IsControlled text depth reach d a b → plain.IsTask text (IsBound reach) depth d a b
task_plain (controlled (controllable m n) h is) = plain.task_controllable m n (plain.task_of h.name h.params is)
task_plain (controlled (uncontrollable m n) h is) = plain.task_uncontrollable m n (plain.task_of h.name h.params is)

procedure_plain : {text : List ℕ} {depth : ℕ} {reach : Reach} {d : TaskTree} {a b : List Token} →
    IsProcedure text depth reach d a b → plain.IsTask text (IsBound reach) depth d a b
procedure_plain (procedure (procedure_kind m (result_void n)) h is) =
    plain.procedure_void m n (plain.task_of h.name h.params is)
procedure_plain (procedure (procedure_kind m (result_type ty)) h is) =
    plain.procedure_typed m ty (plain.task_of h.name h.params is)

plain_sort : {text : List ℕ} {reach : Reach} {s : DeclSort} {d : DeclTree} {a b : List Token} →
    IsDeclared text reach s d a b → IsDecl text (IsBound reach) 0 d a b
plain_sort (is_instance is) = decl_instance is
plain_sort (is_variable is) = decl_variable is
plain_sort (is_goal m is) = decl_goal m is
plain_sort (is_fairness m is) = decl_fair m is
plain_sort (is_process is) = decl_process is
plain_sort (is_task is) = decl_task (task_plain is)
plain_sort (is_procedure is) = decl_task (procedure_plain is)

task_sorted : {text : List ℕ} {reach : Reach} {d : TaskTree} {a b : List Token} →
    plain.IsTask text (IsBound reach) 0 d a b → ADecl text reach (a_task d) a b
task_sorted (plain.task_controllable m n (plain.task_of {name} {params} k r is)) = record {
  sort = sort.Task;
  is = is_task (controlled {heading = (name, params)} (controllable m n)
      (record { between = _; name = k; params = r }) is);
}
task_sorted (plain.task_uncontrollable m n (plain.task_of {name} {params} k r is)) = record {
  sort = sort.Task;
  is = is_task (controlled {heading = (name, params)} (uncontrollable m n)
      (record { between = _; name = k; params = r }) is);
}
task_sorted (plain.procedure_typed m ty (plain.task_of {name} {params} k r is)) = record {
  sort = sort.Procedure;
  is = is_procedure (procedure {heading = (name, params)} (procedure_kind m (result_type ty))
      (record { between = _; name = k; params = r }) is);
}
task_sorted (plain.procedure_void m n (plain.task_of {name} {params} k r is)) = record {
  sort = sort.Procedure;
  is = is_procedure (procedure {heading = (name, params)} (procedure_kind m (result_void n))
      (record { between = _; name = k; params = r }) is);
}

sorted_decl : {text : List ℕ} {reach : Reach} {d : DeclTree} {a b : List Token} →
    IsDecl text (IsBound reach) 0 d a b → ADecl text reach d a b
sorted_decl (decl_instance is) = record { sort = sort.Instance; is = is_instance is }
sorted_decl (decl_variable is) = record { sort = sort.Variable; is = is_variable is }
sorted_decl (decl_goal m is) = record { sort = sort.Goal; is = is_goal m is }
sorted_decl (decl_fair m is) = record { sort = sort.Fairness; is = is_fairness m is }
sorted_decl (decl_process is) = record { sort = sort.Process; is = is_process is }
sorted_decl (decl_task is) = task_sorted is

each_map : {X : Type 0} {Is Or : X → List Token → List Token → Type 0} {xs : List X} {a b : List Token} →
    ((x : X) (c d : List Token) → Is x c d → Or x c d) → AreEach Is xs a b → AreEach Or xs a b
each_map f each_none = each_none
each_map f (each_more front last) = each_more (each_map f front) (f _ _ _ last)

pub plain_decls : {text : List ℕ} {reach : Reach} {ds : List DeclTree} {a b : List Token} →
    AreEach (ADecl text reach) ds a b → AreEach (IsDecl text (IsBound reach) 0) ds a b
plain_decls are = each_map (λ d c e h. plain_sort h.is) are

pub sorted_decls : {text : List ℕ} {reach : Reach} {ds : List DeclTree} {a b : List Token} →
    AreEach (IsDecl text (IsBound reach) 0) ds a b → AreEach (ADecl text reach) ds a b
sorted_decls are = each_map (λ d c e h. sorted_decl h) are

-- a form that is the only one of a sort
as_sort : {text : List ℕ} {k l : DeclSort} {d : DeclTree} {a b : List Token} → k ≡ l →
    Takes (ADeclOf text l) Nothing d a b → Takes (ADeclOf text k) Nothing d a b
as_sort {text} {d} {a} {b} same r =
    subst (λ (s : DeclSort). Takes (ADeclOf text s) Nothing d a b) (sym same) r

no_sort : (text : List ℕ) {k l : DeclSort} (a : List Token) → k ≡ l → (e : Stop) →
    IsRefused (AnyOf (ADeclOf text l)) Nothing a e → IsRefused (AnyOf (ADeclOf text k)) Nothing a e
no_sort text a same e h =
    subst (λ (s : DeclSort). IsRefused (AnyOf (ADeclOf text s)) Nothing a e) (sym same) h

instance_is : {text : List ℕ} (a : List Token) →
    Same (AnInstance text 0) (ADeclOf text sort.Instance) Nothing an_instance a
instance_is {text} a = record {
  to = λ reach d b c is. is_instance is;
  from = λ reach d b c same stop h. from reach d b c h;
}
  where
    from : (reach : Reach) (d : DeclTree) (b c : List Token) → ADeclOf text sort.Instance reach d b c →
        (x : InstanceTree) × AnInstance text 0 reach x b c × (d ≡ an_instance x)
    from reach d b c (is_instance is) = (_, is, refl)

pub taken_instance_decl : {text : List ℕ} {k : DeclSort} {d : InstanceTree} {a b : List Token} → k ≡ sort.Instance →
    Takes (AnInstance text 0) Nothing d a b → Takes (ADeclOf text k) Nothing (an_instance d) a b
taken_instance_decl same r = as_sort same (takes_so (instance_is _) r)

pub no_instance_decl : (text : List ℕ) {k : DeclSort} (a : List Token) → k ≡ sort.Instance → (e : Stop) →
    IsRefused (AnyOf (AnInstance text 0)) Nothing a e → IsRefused (AnyOf (ADeclOf text k)) Nothing a e
no_instance_decl text a same e h =
    no_sort text a same e (refused_in (instance_is a) (λ deep here blocked. blocked) e h)

variable_is : {text : List ℕ} (a : List Token) →
    Same (λ _. plain.IsVar text) (ADeclOf text sort.Variable) Nothing a_variable a
variable_is {text} a = record {
  to = λ reach d b c is. is_variable is;
  from = λ reach d b c same stop h. from reach d b c h;
}
  where
    from : (reach : Reach) (d : DeclTree) (b c : List Token) → ADeclOf text sort.Variable reach d b c →
        (x : VarTree) × plain.IsVar text x b c × (d ≡ a_variable x)
    from reach d b c (is_variable is) = (_, is, refl)

pub taken_variable_decl : {text : List ℕ} {k : DeclSort} {d : VarTree} {a b : List Token} → k ≡ sort.Variable →
    Takes (λ _. plain.IsVar text) Nothing d a b → Takes (ADeclOf text k) Nothing (a_variable d) a b
taken_variable_decl same r = as_sort same (takes_so (variable_is _) r)

pub no_variable_decl : (text : List ℕ) {k : DeclSort} (a : List Token) → k ≡ sort.Variable → (e : Stop) →
    IsRefused (AnyOf (λ _. plain.IsVar text)) Nothing a e → IsRefused (AnyOf (ADeclOf text k)) Nothing a e
no_variable_decl text a same e h =
    no_sort text a same e (refused_in (variable_is a) (λ deep here blocked. blocked) e h)

process_is : {text : List ℕ} (a : List Token) →
    Same (AProcess text 0) (ADeclOf text sort.Process) Nothing a_process a
process_is {text} a = record {
  to = λ reach d b c is. is_process is;
  from = λ reach d b c same stop h. from reach d b c h;
}
  where
    from : (reach : Reach) (d : DeclTree) (b c : List Token) → ADeclOf text sort.Process reach d b c →
        (x : ProcessTree) × AProcess text 0 reach x b c × (d ≡ a_process x)
    from reach d b c (is_process is) = (_, is, refl)

pub taken_process_decl : {text : List ℕ} {k : DeclSort} {d : ProcessTree} {a b : List Token} → k ≡ sort.Process →
    Takes (AProcess text 0) Nothing d a b → Takes (ADeclOf text k) Nothing (a_process d) a b
taken_process_decl same r = as_sort same (takes_so (process_is _) r)

pub no_process_decl : (text : List ℕ) {k : DeclSort} (a : List Token) → k ≡ sort.Process → (e : Stop) →
    IsRefused (AnyOf (AProcess text 0)) Nothing a e → IsRefused (AnyOf (ADeclOf text k)) Nothing a e
no_process_decl text a same e h =
    no_sort text a same e (refused_in (process_is a) (λ deep here blocked. blocked) e h)

task_is : {text : List ℕ} (a : List Token) →
    Same (IsControlled text 0) (ADeclOf text sort.Task) Nothing a_task a
task_is {text} a = record {
  to = λ reach d b c is. is_task is;
  from = λ reach d b c same stop h. from reach d b c h;
}
  where
    from : (reach : Reach) (d : DeclTree) (b c : List Token) → ADeclOf text sort.Task reach d b c →
        (x : TaskTree) × IsControlled text 0 reach x b c × (d ≡ a_task x)
    from reach d b c (is_task is) = (_, is, refl)

pub taken_task_decl : {text : List ℕ} {k : DeclSort} {d : TaskTree} {a b : List Token} → k ≡ sort.Task →
    Takes (IsControlled text 0) Nothing d a b → Takes (ADeclOf text k) Nothing (a_task d) a b
taken_task_decl same r = as_sort same (takes_so (task_is _) r)

pub no_task_decl : (text : List ℕ) {k : DeclSort} (a : List Token) → k ≡ sort.Task → (e : Stop) →
    IsRefused (AnyOf (IsControlled text 0)) Nothing a e → IsRefused (AnyOf (ADeclOf text k)) Nothing a e
no_task_decl text a same e h =
    no_sort text a same e (refused_in (task_is a) (λ deep here blocked. blocked) e h)

procedure_is : {text : List ℕ} (a : List Token) →
    Same (IsProcedure text 0) (ADeclOf text sort.Procedure) Nothing a_task a
procedure_is {text} a = record {
  to = λ reach d b c is. is_procedure is;
  from = λ reach d b c same stop h. from reach d b c h;
}
  where
    from : (reach : Reach) (d : DeclTree) (b c : List Token) → ADeclOf text sort.Procedure reach d b c →
        (x : TaskTree) × IsProcedure text 0 reach x b c × (d ≡ a_task x)
    from reach d b c (is_procedure is) = (_, is, refl)

pub taken_procedure_decl : {text : List ℕ} {k : DeclSort} {d : TaskTree} {a b : List Token} → k ≡ sort.Procedure →
    Takes (IsProcedure text 0) Nothing d a b → Takes (ADeclOf text k) Nothing (a_task d) a b
taken_procedure_decl same r = as_sort same (takes_so (procedure_is _) r)

pub no_procedure_decl : (text : List ℕ) {k : DeclSort} (a : List Token) → k ≡ sort.Procedure → (e : Stop) →
    IsRefused (AnyOf (IsProcedure text 0)) Nothing a e → IsRefused (AnyOf (ADeclOf text k)) Nothing a e
no_procedure_decl text a same e h =
    no_sort text a same e (refused_in (procedure_is a) (λ deep here blocked. blocked) e h)

abbrev GoalParts : List ℕ → Reach → Unit {0} × NamedTree → List Token → List Token → Type 0
GoalParts text = Both (TheMark (token.Word word.Goal)) (λ _. ANamed text 0)

goal_is : {text : List ℕ} (a : List Token) →
    Same (GoalParts text) (ADeclOf text sort.Goal) Nothing (λ t. a_goal t.1) a
goal_is {text} a = record {
  to = λ reach t b c h. is_goal h.first h.second;
  from = λ reach d b c same stop h. from reach d b c h;
}
  where
    from : (reach : Reach) (d : DeclTree) (b c : List Token) → ADeclOf text sort.Goal reach d b c →
        (t : Unit {0} × NamedTree) × GoalParts text reach t b c × (d ≡ a_goal t.1)
    from reach d b c (is_goal m is) = ((tt, _), record { between = _; first = m; second = is }, refl)

pub taken_goal_decl : {text : List ℕ} {k : DeclSort} {d : NamedTree} {p : Place} {a b c : List Token} →
    k ≡ sort.Goal → Takes (λ _. IsMark (token.Word word.Goal)) Nothing p a b → Takes (ANamed text 0) Nothing d b c →
    Takes (ADeclOf text k) Nothing (a_goal d) a c
taken_goal_decl same m r = as_sort same (takes_so (goal_is _) (takes_then (without_place m) r))

pub no_goal_word : (text : List ℕ) {k : DeclSort} (a : List Token) → k ≡ sort.Goal → (e : Stop) →
    IsRefused (AnyOf (TheMark (token.Word word.Goal))) Nothing a e → IsRefused (AnyOf (ADeclOf text k)) Nothing a e
no_goal_word text a same e h =
    no_sort text a same e (refused_in (goal_is a) (λ deep here blocked. at_first blocked (named_word text 0)) e h)

pub no_goal_decl : (text : List ℕ) {k : DeclSort} {p : Place} {a b : List Token} → k ≡ sort.Goal →
    Takes (λ _. IsMark (token.Word word.Goal)) Nothing p a b → (e : Stop) →
    IsRefused (AnyOf (ANamed text 0)) Nothing b e → IsRefused (AnyOf (ADeclOf text k)) Nothing a e
no_goal_decl text same m e h =
    no_sort text _ same e (refused_in (goal_is _) (λ deep here blocked. at_second (without_place m) blocked) e h)

abbrev FairnessParts : List ℕ → Reach → Unit {0} × NamedTree → List Token → List Token → Type 0
FairnessParts text = Both (TheMark (token.Word word.Fair)) (λ _. ANamed text 0)

fairness_is : {text : List ℕ} (a : List Token) →
    Same (FairnessParts text) (ADeclOf text sort.Fairness) Nothing (λ t. a_fairness t.1) a
fairness_is {text} a = record {
  to = λ reach t b c h. is_fairness h.first h.second;
  from = λ reach d b c same stop h. from reach d b c h;
}
  where
    from : (reach : Reach) (d : DeclTree) (b c : List Token) → ADeclOf text sort.Fairness reach d b c →
        (t : Unit {0} × NamedTree) × FairnessParts text reach t b c × (d ≡ a_fairness t.1)
    from reach d b c (is_fairness m is) = ((tt, _), record { between = _; first = m; second = is }, refl)

pub taken_fairness_decl : {text : List ℕ} {k : DeclSort} {d : NamedTree} {p : Place} {a b c : List Token} →
    k ≡ sort.Fairness → Takes (λ _. IsMark (token.Word word.Fair)) Nothing p a b → Takes (ANamed text 0) Nothing d b c →
    Takes (ADeclOf text k) Nothing (a_fairness d) a c
taken_fairness_decl same m r = as_sort same (takes_so (fairness_is _) (takes_then (without_place m) r))

pub no_fairness_word : (text : List ℕ) {k : DeclSort} (a : List Token) → k ≡ sort.Fairness → (e : Stop) →
    IsRefused (AnyOf (TheMark (token.Word word.Fair))) Nothing a e → IsRefused (AnyOf (ADeclOf text k)) Nothing a e
no_fairness_word text a same e h =
    no_sort text a same e (refused_in (fairness_is a) (λ deep here blocked. at_first blocked (named_word text 0)) e h)

pub no_fairness_decl : (text : List ℕ) {k : DeclSort} {p : Place} {a b : List Token} → k ≡ sort.Fairness →
    Takes (λ _. IsMark (token.Word word.Fair)) Nothing p a b → (e : Stop) →
    IsRefused (AnyOf (ANamed text 0)) Nothing b e → IsRefused (AnyOf (ADeclOf text k)) Nothing a e
no_fairness_decl text same m e h =
    no_sort text _ same e (refused_in (fairness_is _) (λ deep here blocked. at_second (without_place m) blocked) e h)
