-- Processes, tasks and procedures.
use Rattle.std.proofs.Common.{◌≡◌, ◌≢◌, ℕ, Bool, true, false, Option, Some, None, List, [], refl, sym, ◌∙◌}
use Rattle.tm_base.specs.declared.place.Place.{Place}
use Rattle.tm_syntax.specs.declared.token.Token.{Token}
use Rattle.tm_syntax.specs.declared.token.TokenKind.{TokenKind}
use Rattle.tm_syntax.specs.declared.token.TokenKind.TheVariants as token
use Rattle.tm_syntax.specs.declared.token.Word.TheVariants as word
use Rattle.tm_syntax.specs.declared.token.Sign.TheVariants as sign
use Rattle.tm_syntax.specs.declared.tree.Ident.{Ident}
use Rattle.tm_syntax.specs.declared.tree.Param.{Param}
use Rattle.tm_syntax.specs.declared.tree.TaskKind.{TaskKind}
use Rattle.tm_syntax.specs.declared.tree.TaskKind.TheVariants as kind
use Rattle.tm_syntax.specs.declared.tree.TypeName.{TypeName}
use Rattle.tm_syntax.specs.Tree.{BodyTree, ProcessTree, TaskTree}
use Rattle.tm_syntax.specs.Grammar.Parts.{Has, IsMark, IsName, each_none, optional_none}
use Rattle.tm_syntax.specs.Grammar.Statements.{IsType, type_bool, type_uint, type_name, stmts_none, body, braced, answering}
use Rattle.tm_syntax.specs.Grammar.Declarations.{process_fair, process_lazy, IsParam, param}
use Rattle.tm_parse.specs.declared.stop.Stop.{Stop}
use Rattle.tm_parse.specs.Reading.{Reach, first_of, first_kind, IsRefused, Takes, AnyOf, Nothing, TheMark}
use Rattle.tm_parse.specs.Commands.{GoesAt, InArguments, ABraced, AnAnswering}
use Rattle.tm_parse.specs.Items.{AProcess, IsLaziness, not_lazy, lazily, IsTaskKind, controllable, uncontrollable, IsResult, result_void, result_type, IsProcedureKind, procedure_kind, IsHeading, IsControlled, controlled, IsProcedure, procedure}
use Rattle.tm_parse.proofs.Arguments.{opening_word, word_so, other_kind, Listed, arguments_word}
use Rattle.tm_parse.proofs.Names.{name_has, name_word}
use Rattle.tm_parse.proofs.Primaries.{looser}
use Rattle.tm_parse.proofs.Taking.{Both, Same, AnyWord, same_kind, takes_both, takes_then, takes_so, at_first, at_second, blocked_second, blocked_so, both_word, refused_in}
use Rattle.tm_parse.proofs.Terminals.{mark_kind, mark_has, has_kind, mark_word, without_place}

-- bodies in braces, of no statement
pub braced_word : {X : Type 0} (text : List ℕ) (depth : ℕ) → AnyWord {X = X} (λ x. ABraced text depth)
braced_word text depth =
    word_so (λ w t. record { locals = []; stmts = []; answer = None })
    (λ w reach t a b h. braced (mark_has h.first.mark) h.first.within (body each_none stmts_none) h.second)
    (both_word (opening_word (token.Sign sign.OpenBrace) depth) (mark_word (token.Sign sign.CloseBrace)))

pub answering_word : {X : Type 0} (text : List ℕ) (depth : ℕ) → AnyWord {X = X} (λ x. AnAnswering text depth)
answering_word text depth =
    word_so (λ w t. record { locals = []; stmts = []; answer = None })
    (λ w reach t a b h.
    answering (mark_has h.first.mark) h.first.within (body each_none stmts_none) optional_none h.second)
    (both_word (opening_word (token.Sign sign.OpenBrace) depth) (mark_word (token.Sign sign.CloseBrace)))

-- "lazy", or nothing
lazy_is : (a : List Token) → first_kind a ≡ Some (token.Word word.Lazy) →
    Same (TheMark (token.Word word.Lazy)) (λ _. IsLaziness) (GoesAt (token.Word word.Lazy)) (λ u. true) a
lazy_is a first = record {
  to = λ reach u b c m. lazily m;
  from = λ reach x b c same stop h. from reach x b c same stop h;
}
  where
    from : (reach : Reach) (x : Bool) (b c : List Token) → first_of b ≡ first_of a →
        ¬ GoesAt (token.Word word.Lazy) (first_kind c) → IsLaziness x b c →
        (u : Unit {0}) × TheMark (token.Word word.Lazy) reach u b c × (x ≡ true)
    from reach x b c same stop not_lazy = absurd (stop (same_kind b a same ∙ first))
    from reach x b c same stop (lazily m) = (tt, m, refl)

pub taken_lazy : {p : Place} {a b : List Token} → first_kind a ≡ Some (token.Word word.Lazy) →
    Takes (λ _. IsMark (token.Word word.Lazy)) Nothing p a b →
    Takes (λ _. IsLaziness) (GoesAt (token.Word word.Lazy)) true a b
taken_lazy first m = takes_so (lazy_is _ first) (looser (without_place m))

pub taken_not_lazy : (a : List Token) → ¬ (first_kind a ≡ Some (token.Word word.Lazy)) →
    Takes (λ _. IsLaziness) (GoesAt (token.Word word.Lazy)) false a a
taken_not_lazy a none = record {
  front = [];
  whole = refl;
  is = λ reach behind. not_lazy;
  sole = λ reach x other after same stop h. go x other after same h;
}
  where
    go : (x : Bool) (other after : List Token) → first_of other ≡ first_of a → IsLaziness x other after →
        (x ≡ false) × (after ≡ other)
    go x other after same not_lazy = (refl, refl)
    go x other after same (lazily m) = absurd (none (sym (same_kind other a same) ∙ has_kind m))

-- [ "lazy" ] "process" NAME and a body
abbrev ProcessEnd : List ℕ → ℕ → Reach → Unit {0} × (Ident × BodyTree) → List Token → List Token → Type 0
ProcessEnd text depth =
    Both (TheMark (token.Word word.Process)) (λ _. Both (λ _. IsName text) (λ _. ABraced text depth))

abbrev ProcessParts : List ℕ → ℕ → Reach → Bool × (Unit {0} × (Ident × BodyTree)) → List Token → List Token → Type 0
ProcessParts text depth = Both (λ _. IsLaziness) (λ _. ProcessEnd text depth)

process_of : (reach : Reach) {text : List ℕ} {depth : ℕ} {lazy : Bool} {name : Ident} {block : BodyTree}
    {a b c d e : List Token} → IsLaziness lazy a b → Has (token.Word word.Process) b c → IsName text name c d →
    ABraced text depth reach block d e →
    AProcess text depth reach (record { lazy = lazy; name = name; body = block }) a e
process_of reach not_lazy m n is = process_fair m n is
process_of reach (lazily l) m n is = process_lazy l m n is

process_is : {text : List ℕ} {depth : ℕ} (a : List Token) →
    Same (ProcessParts text depth) (AProcess text depth) Nothing
    (λ t. record { lazy = t.0; name = t.1.1.0; body = t.1.1.1 }) a
process_is {text} {depth} a = record {
  to = λ reach t b c h. process_of reach h.first h.second.first h.second.second.first h.second.second.second;
  from = λ reach d b c same stop h. from reach d b c h;
}
  where
    from : (reach : Reach) (d : ProcessTree) (b c : List Token) → AProcess text depth reach d b c →
        (t : Bool × (Unit {0} × (Ident × BodyTree))) × ProcessParts text depth reach t b c
        × (d ≡ record { lazy = t.0; name = t.1.1.0; body = t.1.1.1 })
    from reach d b c (process_fair m n is) = (
      (false, (tt, (_, _))),
      record {
        between = _;
        first = not_lazy;
        second = record { between = _; first = m; second = record { between = _; first = n; second = is } };
      },
      refl,
    )
    from reach d b c (process_lazy l m n is) = (
      (true, (tt, (_, _))),
      record {
        between = _;
        first = lazily l;
        second = record { between = _; first = m; second = record { between = _; first = n; second = is } };
      },
      refl,
    )

lazy_parts : {text : List ℕ} {depth : ℕ} (reach : Reach) (x : Bool) (y : Unit {0} × (Ident × BodyTree))
    (a b : List Token) → ProcessEnd text depth reach y a b → ¬ Nothing (first_kind b) →
    ¬ GoesAt (token.Word word.Lazy) (first_kind a)
lazy_parts reach x y a b h stop at = let kinds = other_kind (has_kind h.first) at in cc

pub taken_process : {text : List ℕ} {depth : ℕ} {lazy : Bool} {name : Ident} {block : BodyTree} {p : Place}
    {a b c d e : List Token} → Takes (λ _. IsLaziness) (GoesAt (token.Word word.Lazy)) lazy a b →
    Takes (λ _. IsMark (token.Word word.Process)) Nothing p b c → Takes (λ _. IsName text) Nothing name c d →
    Takes (ABraced text depth) Nothing block d e →
    Takes (AProcess text depth) Nothing (record { lazy = lazy; name = name; body = block }) a e
taken_process l m n r =
    takes_so (process_is _) (takes_both l lazy_parts (takes_then (without_place m) (takes_then n r)))

pub no_process_word : (text : List ℕ) (depth : ℕ) {lazy : Bool} {a b : List Token} →
    Takes (λ _. IsLaziness) (GoesAt (token.Word word.Lazy)) lazy a b → (e : Stop) →
    IsRefused (AnyOf (TheMark (token.Word word.Process))) Nothing b e →
    IsRefused (AnyOf (AProcess text depth)) Nothing a e
no_process_word text depth l e h =
    refused_in (process_is _) (λ deep here blocked. blocked_second l lazy_parts
    (at_first blocked (both_word (name_word text) (braced_word text depth)))) e h

pub no_process_name : (text : List ℕ) (depth : ℕ) {lazy : Bool} {p : Place} {a b c : List Token} →
    Takes (λ _. IsLaziness) (GoesAt (token.Word word.Lazy)) lazy a b →
    Takes (λ _. IsMark (token.Word word.Process)) Nothing p b c → (e : Stop) →
    IsRefused (AnyOf (λ _. IsName text)) Nothing c e → IsRefused (AnyOf (AProcess text depth)) Nothing a e
no_process_name text depth l m e h =
    refused_in (process_is _) (λ deep here blocked. blocked_second l lazy_parts
    (at_second (without_place m) (at_first blocked (braced_word text depth)))) e h

pub no_process_body : {text : List ℕ} (depth : ℕ) {lazy : Bool} {name : Ident} {p : Place} {a b c d : List Token} →
    Takes (λ _. IsLaziness) (GoesAt (token.Word word.Lazy)) lazy a b →
    Takes (λ _. IsMark (token.Word word.Process)) Nothing p b c → Takes (λ _. IsName text) Nothing name c d →
    (e : Stop) → IsRefused (AnyOf (ABraced text depth)) Nothing d e →
    IsRefused (AnyOf (AProcess text depth)) Nothing a e
no_process_body depth l m n e h =
    refused_in (process_is _) (λ deep here blocked. blocked_second l lazy_parts
    (at_second (without_place m) (at_second n blocked))) e h

-- a parameter
abbrev ParamParts : List ℕ → Reach → TypeName × Ident → List Token → List Token → Type 0
ParamParts text = Both (λ _. IsType text) (λ _ _. IsName text)

param_is : {text : List ℕ} (a : List Token) →
    Same (ParamParts text) (λ _. IsParam text) Nothing (λ t. record { ty = t.0; name = t.1 }) a
param_is {text} a = record {
  to = λ reach t b c h. param h.first h.second;
  from = λ reach x b c same stop h. from reach x b c h;
}
  where
    from : (reach : Reach) (x : Param) (b c : List Token) → IsParam text x b c →
        (t : TypeName × Ident) × ParamParts text reach t b c × (x ≡ record { ty = t.0; name = t.1 })
    from reach x b c (param is n) = ((_, _), record { between = _; first = is; second = n }, refl)

pub taken_param : {text : List ℕ} {ty : TypeName} {name : Ident} {a b c : List Token} →
    Takes (λ _. IsType text) Nothing ty a b → Takes (λ _. IsName text) Nothing name b c →
    Takes (λ _. IsParam text) Nothing (record { ty = ty; name = name }) a c
taken_param r n = takes_so (param_is _) (takes_then r n)

pub no_param_type : (text : List ℕ) (a : List Token) (e : Stop) → IsRefused (AnyOf (λ _. IsType text)) Nothing a e →
    IsRefused (AnyOf (λ _. IsParam text)) Nothing a e
no_param_type text a e h =
    refused_in (param_is a) (λ deep here blocked. at_first blocked (name_word text)) e h

pub no_param_name : (text : List ℕ) {ty : TypeName} {a b : List Token} → Takes (λ _. IsType text) Nothing ty a b →
    (e : Stop) → IsRefused (AnyOf (λ _. IsName text)) Nothing b e → IsRefused (AnyOf (λ _. IsParam text)) Nothing a e
no_param_name text r e h = refused_in (param_is _) (λ deep here blocked. at_second r blocked) e h

-- no type begins with another token
type_opens : {text : List ℕ} {ty : TypeName} {a b : List Token} (k : TokenKind) → token.Word word.Bool ≢ k →
    token.Word word.Uint ≢ k → token.Name ≢ k → IsType text ty a b → ¬ (first_kind a ≡ Some k)
type_opens k no_bool no_width no_name (type_bool m) first =
    let kinds = other_kind (mark_kind m) first in no_bool (cc)
type_opens k no_bool no_width no_name (type_uint m l n g) first =
    let kinds = other_kind (mark_kind m) first in no_width (cc)
type_opens k no_bool no_width no_name (type_name n) first =
    let kinds = other_kind (has_kind (name_has n)) first in no_name (cc)

param_opens : {text : List ℕ} {x : Param} {a b : List Token} → IsParam text x a b →
    ¬ (first_kind a ≡ Some (token.Sign sign.CloseParenthesis))
param_opens (param is n) = type_opens (token.Sign sign.CloseParenthesis) (λ e. cc) (λ e. cc) (λ e. cc) is

-- parameters may stand in a list in parentheses
pub params_listed : (text : List ℕ) → Listed (λ _. IsParam text) Nothing
params_listed text = record {
  comma = λ none. none;
  close = λ none. none;
  begins = λ reach x a b is. param_opens is;
  word = word_so {Or = λ w _. IsParam text} (λ w t. record { ty = _; name = t.1 })
      (λ w reach t a b h. param (type_name h.first) h.second) (both_word (name_word text) (name_word text));
}

-- a name, and parameters in their parentheses
abbrev HeadingParts : List ℕ → ℕ → Reach → Ident × List Param → List Token → List Token → Type 0
HeadingParts text depth = Both (λ _. IsName text) (λ _. InArguments depth (λ _. IsParam text))

heading_is : {text : List ℕ} {depth : ℕ} (a : List Token) →
    Same (HeadingParts text depth) (IsHeading text depth) Nothing (λ t. t) a
heading_is a = record {
  to = λ reach t b c h. record { between = h.between; name = h.first; params = h.second };
  from = λ reach t b c same stop h. (t, record { between = h.between; first = h.name; second = h.params }, refl);
}

pub taken_heading : {text : List ℕ} {depth : ℕ} {name : Ident} {xs : List Param} {a b c : List Token} →
    Takes (λ _. IsName text) Nothing name a b → Takes (InArguments depth (λ _. IsParam text)) Nothing xs b c →
    Takes (IsHeading text depth) Nothing (name, xs) a c
taken_heading n r = takes_so (heading_is _) (takes_then n r)

pub no_heading_name : (text : List ℕ) (depth : ℕ) (a : List Token) (e : Stop) →
    IsRefused (AnyOf (λ _. IsName text)) Nothing a e → IsRefused (AnyOf (IsHeading text depth)) Nothing a e
no_heading_name text depth a e h =
    refused_in (heading_is a) (λ deep here blocked. at_first blocked (arguments_word (λ _. IsParam text) depth)) e h

pub no_heading_params : {text : List ℕ} (depth : ℕ) {name : Ident} {a b : List Token} →
    Takes (λ _. IsName text) Nothing name a b → (e : Stop) →
    IsRefused (AnyOf (InArguments depth (λ _. IsParam text))) Nothing b e →
    IsRefused (AnyOf (IsHeading text depth)) Nothing a e
no_heading_params depth n e h = refused_in (heading_is _) (λ deep here blocked. at_second n blocked) e h

heading_word : {X : Type 0} (text : List ℕ) (depth : ℕ) → AnyWord {X = X} (λ x. IsHeading text depth)
heading_word text depth =
    word_so (λ w t. t) (λ w reach t a b h. record { between = h.between; name = h.first; params = h.second })
    (both_word (name_word text) (arguments_word (λ _. IsParam text) depth))

-- who may call a task
data IsAccess : TaskKind → List Token → List Token → Type 0 where
  by_driver : {a b : List Token} → Has (token.Word word.Controllable) a b → IsAccess kind.Controllable a b
  by_environment : {a b : List Token} → Has (token.Word word.Uncontrollable) a b → IsAccess kind.Uncontrollable a b

driver_is : (a : List Token) → first_kind a ≡ Some (token.Word word.Controllable) →
    Same (TheMark (token.Word word.Controllable)) (λ _. IsAccess) Nothing (λ u. kind.Controllable) a
driver_is a first = record {
  to = λ reach u b c m. by_driver m;
  from = λ reach k b c same stop h. from reach k b c (same_kind b a same ∙ first) h;
}
  where
    from : (reach : Reach) (k : TaskKind) (b c : List Token) → first_kind b ≡ Some (token.Word word.Controllable) →
        IsAccess k b c →
        (u : Unit {0}) × TheMark (token.Word word.Controllable) reach u b c × (k ≡ kind.Controllable)
    from reach k b c first (by_driver m) = (tt, m, refl)
    from reach k b c first (by_environment m) = absurd (let kinds = other_kind (has_kind m) first in cc)

environment_is : (a : List Token) → ¬ (first_kind a ≡ Some (token.Word word.Controllable)) →
    Same (TheMark (token.Word word.Uncontrollable)) (λ _. IsAccess) Nothing (λ u. kind.Uncontrollable) a
environment_is a none = record {
  to = λ reach u b c m. by_environment m;
  from = λ reach k b c same stop h. from reach k b c same h;
}
  where
    from : (reach : Reach) (k : TaskKind) (b c : List Token) → first_of b ≡ first_of a → IsAccess k b c →
        (u : Unit {0}) × TheMark (token.Word word.Uncontrollable) reach u b c × (k ≡ kind.Uncontrollable)
    from reach k b c same (by_environment m) = (tt, m, refl)
    from reach k b c same (by_driver m) = absurd (none (sym (same_kind b a same) ∙ has_kind m))

-- "task" and who may call it
abbrev TaskKindParts : Reach → Unit {0} × TaskKind → List Token → List Token → Type 0
TaskKindParts = Both (TheMark (token.Word word.Task)) (λ _ _. IsAccess)

task_kind_of : {k : TaskKind} {a b c : List Token} → Has (token.Word word.Task) a b → IsAccess k b c → IsTaskKind k a c
task_kind_of m (by_driver n) = controllable m n
task_kind_of m (by_environment n) = uncontrollable m n

task_kind_is : (a : List Token) → Same TaskKindParts (λ _. IsTaskKind) Nothing (λ t. t.1) a
task_kind_is a = record {
  to = λ reach t b c h. task_kind_of h.first h.second;
  from = λ reach k b c same stop h. from reach k b c h;
}
  where
    from : (reach : Reach) (k : TaskKind) (b c : List Token) → IsTaskKind k b c →
        (t : Unit {0} × TaskKind) × TaskKindParts reach t b c × (k ≡ t.1)
    from reach k b c (controllable m n) = ((tt, _), record { between = _; first = m; second = by_driver n }, refl)
    from reach k b c (uncontrollable m n) =
        ((tt, _), record { between = _; first = m; second = by_environment n }, refl)

pub taken_controllable : {p q : Place} {a b c : List Token} → Takes (λ _. IsMark (token.Word word.Task)) Nothing p a b →
    first_kind b ≡ Some (token.Word word.Controllable) →
    Takes (λ _. IsMark (token.Word word.Controllable)) Nothing q b c →
    Takes (λ _. IsTaskKind) Nothing kind.Controllable a c
taken_controllable m first n =
    takes_so (task_kind_is _) (takes_then (without_place m) (takes_so (driver_is _ first) (without_place n)))

pub taken_uncontrollable : {p q : Place} {a b c : List Token} →
    Takes (λ _. IsMark (token.Word word.Task)) Nothing p a b →
    ¬ (first_kind b ≡ Some (token.Word word.Controllable)) →
    Takes (λ _. IsMark (token.Word word.Uncontrollable)) Nothing q b c →
    Takes (λ _. IsTaskKind) Nothing kind.Uncontrollable a c
taken_uncontrollable m none n =
    takes_so (task_kind_is _) (takes_then (without_place m) (takes_so (environment_is _ none) (without_place n)))

access_word : {X : Type 0} → AnyWord {X = X} (λ x _. IsAccess)
access_word =
    word_so {Or = λ w _. IsAccess} (λ w u. kind.Controllable) (λ w reach u a b m. by_driver m)
    (mark_word (token.Word word.Controllable))

pub no_task_word : (a : List Token) (e : Stop) → IsRefused (AnyOf (TheMark (token.Word word.Task))) Nothing a e →
    IsRefused (AnyOf (λ _. IsTaskKind)) Nothing a e
no_task_word a e h =
    refused_in (task_kind_is a) (λ deep here blocked. at_first blocked access_word) e h

pub no_task_kind : {p : Place} {a b : List Token} → Takes (λ _. IsMark (token.Word word.Task)) Nothing p a b →
    ¬ (first_kind b ≡ Some (token.Word word.Controllable)) → (e : Stop) →
    IsRefused (AnyOf (TheMark (token.Word word.Uncontrollable))) Nothing b e →
    IsRefused (AnyOf (λ _. IsTaskKind)) Nothing a e
no_task_kind m none e h =
    refused_in (task_kind_is _) (λ deep here blocked. at_second (without_place m)
    (blocked_so (environment_is _ none) blocked)) e h

-- "void", or a type
void_is : {text : List ℕ} (a : List Token) → first_kind a ≡ Some (token.Word word.Void) →
    Same (TheMark (token.Word word.Void)) (λ _. IsResult text) Nothing (λ u. None) a
void_is {text} a first = record {
  to = λ reach u b c m. result_void m;
  from = λ reach k b c same stop h. from reach k b c (same_kind b a same ∙ first) h;
}
  where
    from : (reach : Reach) (k : Option TypeName) (b c : List Token) → first_kind b ≡ Some (token.Word word.Void) →
        IsResult text k b c → (u : Unit {0}) × TheMark (token.Word word.Void) reach u b c × (k ≡ None)
    from reach k b c first (result_void m) = (tt, m, refl)
    from reach k b c first (result_type is) =
        absurd (type_opens (token.Word word.Void) (λ e. cc) (λ e. cc) (λ e. cc) is first)

typed_is : {text : List ℕ} (a : List Token) → ¬ (first_kind a ≡ Some (token.Word word.Void)) →
    Same (λ _. IsType text) (λ _. IsResult text) Nothing Some a
typed_is {text} a none = record {
  to = λ reach ty b c is. result_type is;
  from = λ reach k b c same stop h. from k b c same h;
}
  where
    from : (k : Option TypeName) (b c : List Token) → first_of b ≡ first_of a → IsResult text k b c →
        (ty : TypeName) × IsType text ty b c × (k ≡ Some ty)
    from k b c same (result_type is) = (_, is, refl)
    from k b c same (result_void m) = absurd (none (sym (same_kind b a same) ∙ has_kind m))

pub taken_void : {text : List ℕ} {p : Place} {a b : List Token} → first_kind a ≡ Some (token.Word word.Void) →
    Takes (λ _. IsMark (token.Word word.Void)) Nothing p a b → Takes (λ _. IsResult text) Nothing None a b
taken_void first m = takes_so (void_is _ first) (without_place m)

pub taken_result : {text : List ℕ} {ty : TypeName} (a : List Token) {b : List Token} →
    ¬ (first_kind a ≡ Some (token.Word word.Void)) → Takes (λ _. IsType text) Nothing ty a b →
    Takes (λ _. IsResult text) Nothing (Some ty) a b
taken_result a none r = takes_so (typed_is a none) r

pub no_result : (text : List ℕ) (a : List Token) → ¬ (first_kind a ≡ Some (token.Word word.Void)) → (e : Stop) →
    IsRefused (AnyOf (λ _. IsType text)) Nothing a e → IsRefused (AnyOf (λ _. IsResult text)) Nothing a e
no_result text a none e h = refused_in (typed_is a none) (λ deep here blocked. blocked) e h

result_word : {X : Type 0} (text : List ℕ) → AnyWord {X = X} (λ x _. IsResult text)
result_word text =
    word_so {Or = λ w _. IsResult text} (λ w u. None) (λ w reach u a b m. result_void m)
    (mark_word (token.Word word.Void))

-- "procedure" and the type of its result
abbrev ProcedureKindParts : List ℕ → Reach → Unit {0} × Option TypeName → List Token → List Token → Type 0
ProcedureKindParts text = Both (TheMark (token.Word word.Procedure)) (λ _ _. IsResult text)

procedure_kind_is : {text : List ℕ} (a : List Token) →
    Same (ProcedureKindParts text) (λ _. IsProcedureKind text) Nothing (λ t. kind.Procedure t.1) a
procedure_kind_is {text} a = record {
  to = λ reach t b c h. procedure_kind h.first h.second;
  from = λ reach k b c same stop h. from reach k b c h;
}
  where
    from : (reach : Reach) (k : TaskKind) (b c : List Token) → IsProcedureKind text k b c →
        (t : Unit {0} × Option TypeName) × ProcedureKindParts text reach t b c × (k ≡ kind.Procedure t.1)
    from reach k b c (procedure_kind m is) = ((tt, _), record { between = _; first = m; second = is }, refl)

pub taken_procedure_kind : {text : List ℕ} {p : Place} {ty : Option TypeName} {a b c : List Token} →
    Takes (λ _. IsMark (token.Word word.Procedure)) Nothing p a b → Takes (λ _. IsResult text) Nothing ty b c →
    Takes (λ _. IsProcedureKind text) Nothing (kind.Procedure ty) a c
taken_procedure_kind m r = takes_so (procedure_kind_is _) (takes_then (without_place m) r)

pub no_procedure_word : (text : List ℕ) (a : List Token) (e : Stop) →
    IsRefused (AnyOf (TheMark (token.Word word.Procedure))) Nothing a e →
    IsRefused (AnyOf (λ _. IsProcedureKind text)) Nothing a e
no_procedure_word text a e h =
    refused_in (procedure_kind_is a) (λ deep here blocked. at_first blocked (result_word text)) e h

pub no_procedure_result : (text : List ℕ) {p : Place} {a b : List Token} →
    Takes (λ _. IsMark (token.Word word.Procedure)) Nothing p a b → (e : Stop) →
    IsRefused (AnyOf (λ _. IsResult text)) Nothing b e → IsRefused (AnyOf (λ _. IsProcedureKind text)) Nothing a e
no_procedure_result text m e h =
    refused_in (procedure_kind_is _) (λ deep here blocked. at_second (without_place m) blocked) e h

-- a task
abbrev TaskParts : List ℕ → ℕ → Reach → TaskKind × ((Ident × List Param) × BodyTree) → List Token → List Token → Type 0
TaskParts text depth = Both (λ _. IsTaskKind) (λ _. Both (IsHeading text depth) (λ _. ABraced text depth))

task_is : {text : List ℕ} {depth : ℕ} (a : List Token) →
    Same (TaskParts text depth) (IsControlled text depth) Nothing
    (λ t. record { kind = t.0; name = t.1.0.0; params = t.1.0.1; body = t.1.1 }) a
task_is {text} {depth} a = record {
  to = λ reach t b c h. controlled h.first h.second.first h.second.second;
  from = λ reach d b c same stop h. from reach d b c h;
}
  where
    from : (reach : Reach) (d : TaskTree) (b c : List Token) → IsControlled text depth reach d b c →
        (t : TaskKind × ((Ident × List Param) × BodyTree)) × TaskParts text depth reach t b c
        × (d ≡ record { kind = t.0; name = t.1.0.0; params = t.1.0.1; body = t.1.1 })
    from reach d b c (controlled k h is) =
        ((_, (_, _)), record { between = _; first = k; second = record { between = _; first = h; second = is } }, refl)

pub taken_task : {text : List ℕ} {depth : ℕ} {k : TaskKind} {name : Ident} {xs : List Param} {block : BodyTree}
    {a b c d : List Token} → Takes (λ _. IsTaskKind) Nothing k a b →
    Takes (IsHeading text depth) Nothing (name, xs) b c → Takes (ABraced text depth) Nothing block c d →
    Takes (IsControlled text depth) Nothing (record { kind = k; name = name; params = xs; body = block }) a d
taken_task k r is = takes_so (task_is _) (takes_then k (takes_then r is))

pub no_task_begin : (text : List ℕ) (depth : ℕ) (a : List Token) (e : Stop) →
    IsRefused (AnyOf (λ _. IsTaskKind)) Nothing a e → IsRefused (AnyOf (IsControlled text depth)) Nothing a e
no_task_begin text depth a e h =
    refused_in (task_is a) (λ deep here blocked. at_first blocked
    (both_word (heading_word text depth) (braced_word text depth))) e h

pub no_task_heading : (text : List ℕ) (depth : ℕ) {k : TaskKind} {a b : List Token} →
    Takes (λ _. IsTaskKind) Nothing k a b → (e : Stop) → IsRefused (AnyOf (IsHeading text depth)) Nothing b e →
    IsRefused (AnyOf (IsControlled text depth)) Nothing a e
no_task_heading text depth k e h =
    refused_in (task_is _) (λ deep here blocked. at_second k
    (at_first blocked (braced_word text depth))) e h

pub no_task_body : {text : List ℕ} {depth : ℕ} {k : TaskKind} {name : Ident} {xs : List Param} {a b c : List Token} →
    Takes (λ _. IsTaskKind) Nothing k a b → Takes (IsHeading text depth) Nothing (name, xs) b c → (e : Stop) →
    IsRefused (AnyOf (ABraced text depth)) Nothing c e → IsRefused (AnyOf (IsControlled text depth)) Nothing a e
no_task_body k r e h =
    refused_in (task_is _) (λ deep here blocked. at_second k (at_second r blocked)) e h

-- a procedure
abbrev ProcedureParts : List ℕ → ℕ → Reach → TaskKind × ((Ident × List Param) × BodyTree) → List Token → List Token →
    Type 0
ProcedureParts text depth =
    Both (λ _. IsProcedureKind text) (λ _. Both (IsHeading text depth) (λ _. AnAnswering text depth))

procedure_is : {text : List ℕ} {depth : ℕ} (a : List Token) →
    Same (ProcedureParts text depth) (IsProcedure text depth) Nothing
    (λ t. record { kind = t.0; name = t.1.0.0; params = t.1.0.1; body = t.1.1 }) a
procedure_is {text} {depth} a = record {
  to = λ reach t b c h. procedure h.first h.second.first h.second.second;
  from = λ reach d b c same stop h. from reach d b c h;
}
  where
    from : (reach : Reach) (d : TaskTree) (b c : List Token) → IsProcedure text depth reach d b c →
        (t : TaskKind × ((Ident × List Param) × BodyTree)) × ProcedureParts text depth reach t b c
        × (d ≡ record { kind = t.0; name = t.1.0.0; params = t.1.0.1; body = t.1.1 })
    from reach d b c (procedure k h is) =
        ((_, (_, _)), record { between = _; first = k; second = record { between = _; first = h; second = is } }, refl)

pub taken_procedure : {text : List ℕ} {depth : ℕ} {k : TaskKind} {name : Ident} {xs : List Param} {block : BodyTree}
    {a b c d : List Token} → Takes (λ _. IsProcedureKind text) Nothing k a b →
    Takes (IsHeading text depth) Nothing (name, xs) b c → Takes (AnAnswering text depth) Nothing block c d →
    Takes (IsProcedure text depth) Nothing (record { kind = k; name = name; params = xs; body = block }) a d
taken_procedure k r is = takes_so (procedure_is _) (takes_then k (takes_then r is))

pub no_procedure_begin : (text : List ℕ) (depth : ℕ) (a : List Token) (e : Stop) →
    IsRefused (AnyOf (λ _. IsProcedureKind text)) Nothing a e → IsRefused (AnyOf (IsProcedure text depth)) Nothing a e
no_procedure_begin text depth a e h =
    refused_in (procedure_is a) (λ deep here blocked. at_first blocked
    (both_word (heading_word text depth) (answering_word text depth))) e h

pub no_procedure_heading : (text : List ℕ) (depth : ℕ) {k : TaskKind} {a b : List Token} →
    Takes (λ _. IsProcedureKind text) Nothing k a b → (e : Stop) →
    IsRefused (AnyOf (IsHeading text depth)) Nothing b e → IsRefused (AnyOf (IsProcedure text depth)) Nothing a e
no_procedure_heading text depth k e h =
    refused_in (procedure_is _) (λ deep here blocked. at_second k
    (at_first blocked (answering_word text depth))) e h

pub no_procedure_body : {text : List ℕ} {depth : ℕ} {k : TaskKind} {name : Ident} {xs : List Param}
    {a b c : List Token} → Takes (λ _. IsProcedureKind text) Nothing k a b →
    Takes (IsHeading text depth) Nothing (name, xs) b c → (e : Stop) →
    IsRefused (AnyOf (AnAnswering text depth)) Nothing c e → IsRefused (AnyOf (IsProcedure text depth)) Nothing a e
no_procedure_body k r e h =
    refused_in (procedure_is _) (λ deep here blocked. at_second k (at_second r blocked)) e h
