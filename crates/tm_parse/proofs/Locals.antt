-- Bodies: the declarations of locals, statements, and what a procedure returns.
use Rattle.std.proofs.Common.{◌≡◌, ℕ, inl, inr, Bool, true, false, IsTrue, Option, Some, None, List, [], ◌∷◌, ◌++◌, length, refl, sym, ap, ◌∙◌, subst, arith, append_assoc}
use Rattle.std.proofs.lemmas.List.{append-nil}
use Rattle.tm_base.specs.declared.place.Place.{Place}
use Rattle.tm_syntax.specs.declared.token.Token.{Token}
use Rattle.tm_syntax.specs.declared.token.TokenKind.{TokenKind}
use Rattle.tm_syntax.specs.declared.token.TokenKind.TheVariants as token
use Rattle.tm_syntax.specs.declared.token.Word.TheVariants as word
use Rattle.tm_syntax.specs.declared.token.Sign.TheVariants as sign
use Rattle.tm_syntax.specs.declared.tree.Ident.{Ident}
use Rattle.tm_syntax.specs.declared.tree.TypeName.{TypeName}
use Rattle.tm_syntax.specs.declared.tree.TypeName.TheVariants as written
use Rattle.tm_syntax.specs.Tree.{ValueTree, StmtTree, LocalTree}
use Rattle.tm_syntax.specs.Grammar.Parts.{Has, IsMark, IsName, AreEach, each_none, each_more, parted_one, optional_none, optional_some}
use Rattle.tm_syntax.specs.Grammar.Statements.{IsType, type_bool, type_uint, type_name, local, stmts_none, stmts_more}
use Rattle.tm_parse.specs.declared.stop.Stop.{Stop}
use Rattle.tm_parse.specs.Reading.{Reach, all_but, Binds, first_of, first_kind, IsBlocked, IsRefused, Takes, AnyOf, Nothing, TheMark}
use Rattle.tm_parse.specs.declared.statements.StmtSort.{StmtSort}
use Rattle.tm_parse.specs.declared.statements.StmtSort.TheVariants as sort
use Rattle.tm_parse.specs.Operands.{encloses}
use Rattle.tm_parse.specs.Commands.{AValue, GoesValue, stmt_sort, SomeStmts, GoesStmts, GoesBody, IsStmtFrom, from_arguments, from_place, IsSorted, is_path, is_if, is_while, is_forever, is_choice, is_assert, is_assume, is_pause, is_wait, is_magic, tests, shortly, ALocal, AreBody, is_name, begins_name, begins_type, begins_local}
use Rattle.tm_parse.proofs.Arguments.{other_kind}
use Rattle.tm_parse.proofs.Commands.{semicolon_parts, stmt_from_word}
use Rattle.tm_parse.proofs.Names.{has_name, name_word}
use Rattle.tm_parse.proofs.Rows.{Each, none_here, one_here, each_view, RowSoFar, row_start, row_more, Apart, each_grows}
use Rattle.tm_parse.proofs.Lists.{First, alone, before, first_view}
use Rattle.tm_parse.proofs.Sorts.{AStmt, sort_view, stmts_each, path_to}
use Rattle.tm_parse.proofs.Taking.{Both, Same, AnyWord, same_behind, takes_both, takes_then, takes_so, at_first, at_second, blocked_first, blocked_second, both_word, refused_in}
use Rattle.tm_parse.proofs.Terminals.{mark_kind, mark_has, has_kind, mark_word, without_place}
use Rattle.tm_parse.proofs.Values.{args_kind, value_word}

-- a type, a name, "=", a value, ";"
abbrev LocalEnd : List ℕ → ℕ → Reach → ValueTree × Unit {0} → List Token → List Token → Type 0
LocalEnd text depth = Both (AValue text depth) (λ _. TheMark (token.Sign sign.Semicolon))

abbrev LocalParts : List ℕ → ℕ → Reach → TypeName × (Ident × (Unit {0} × (ValueTree × Unit {0}))) → List Token →
    List Token → Type 0
LocalParts text depth = Both (λ _. IsType text)
    (λ _. Both (λ _. IsName text) (λ _. Both (TheMark (token.Sign sign.Assign)) (λ _. LocalEnd text depth)))

abbrev the_local : TypeName × (Ident × (Unit {0} × (ValueTree × Unit {0}))) → LocalTree
the_local t = record { ty = t.0; name = t.1.0; value = t.1.1.1.0 }

pub local_is : {text : List ℕ} {depth : ℕ} (a : List Token) →
    Same (LocalParts text depth) (ALocal text depth) Nothing the_local a
local_is {text} {depth} a = record {
  to = λ reach t b c h.
      local h.first h.second.first h.second.second.first h.second.second.second.first h.second.second.second.second;
  from = λ reach d b c same stop h. from reach d b c h;
}
  where
    from : (reach : Reach) (d : LocalTree) (b c : List Token) → ALocal text depth reach d b c →
        (t : TypeName × (Ident × (Unit {0} × (ValueTree × Unit {0})))) × LocalParts text depth reach t b c
        × (d ≡ the_local t)
    from reach d b c (local ty name m v n) = (
      (_, (_, (tt, (_, tt)))),
      record {
        between = _;
        first = ty;
        second = record {
          between = _;
          first = name;
          second = record { between = _; first = m; second = record { between = _; first = v; second = n } };
        };
      },
      refl,
    )

pub end_word : {X : Type 0} (text : List ℕ) (depth : ℕ) → AnyWord {X = X} (λ x. LocalEnd text depth)
end_word text depth = both_word (value_word text depth) (mark_word (token.Sign sign.Semicolon))

pub taken_local : {text : List ℕ} {depth : ℕ} {ty : TypeName} {name : Ident} {p q : Place} {v : ValueTree}
    {a b c d e f : List Token} → Takes (λ _. IsType text) Nothing ty a b → Takes (λ _. IsName text) Nothing name b c →
    Takes (λ _. IsMark (token.Sign sign.Assign)) Nothing p c d → Takes (AValue text depth) GoesValue v d e →
    Takes (λ _. IsMark (token.Sign sign.Semicolon)) Nothing q e f →
    Takes (ALocal text depth) Nothing (record { ty = ty; name = name; value = v }) a f
taken_local t n m v s =
    takes_so (local_is _) (takes_then t (takes_then n (takes_then (without_place m)
    (takes_both v semicolon_parts (without_place s)))))

pub no_local_type : (text : List ℕ) (depth : ℕ) (a : List Token) (e : Stop) →
    IsRefused (AnyOf (λ _. IsType text)) Nothing a e → IsRefused (AnyOf (ALocal text depth)) Nothing a e
no_local_type text depth a e h =
    refused_in (local_is a) (λ deep here blocked. at_first blocked
    (both_word (name_word text) (both_word (mark_word (token.Sign sign.Assign)) (end_word text depth)))) e h

pub no_local_name : {text : List ℕ} (depth : ℕ) {ty : TypeName} {a b : List Token} →
    Takes (λ _. IsType text) Nothing ty a b → (e : Stop) →
    IsRefused (AnyOf (λ _. IsName text)) Nothing b e → IsRefused (AnyOf (ALocal text depth)) Nothing a e
no_local_name {text} depth t e h =
    refused_in (local_is _) (λ deep here blocked. at_second t (at_first blocked
    (both_word (mark_word (token.Sign sign.Assign)) (end_word text depth)))) e h

pub no_local_assign : {text : List ℕ} (depth : ℕ) {ty : TypeName} {name : Ident} {a b c : List Token} →
    Takes (λ _. IsType text) Nothing ty a b → Takes (λ _. IsName text) Nothing name b c → (e : Stop) →
    IsRefused (AnyOf (TheMark (token.Sign sign.Assign))) Nothing c e → IsRefused (AnyOf (ALocal text depth)) Nothing a e
no_local_assign {text} depth t n e h =
    refused_in (local_is _) (λ deep here blocked. at_second t (at_second n
    (at_first blocked (end_word text depth)))) e h

pub no_local_value : {text : List ℕ} (depth : ℕ) {ty : TypeName} {name : Ident} {p : Place} {a b c d : List Token} →
    Takes (λ _. IsType text) Nothing ty a b → Takes (λ _. IsName text) Nothing name b c →
    Takes (λ _. IsMark (token.Sign sign.Assign)) Nothing p c d → (e : Stop) →
    IsRefused (AnyOf (AValue text depth)) GoesValue d e → IsRefused (AnyOf (ALocal text depth)) Nothing a e
no_local_value depth t n m e h =
    refused_in (local_is _) (λ deep here blocked. at_second t (at_second n (at_second (without_place m)
    (blocked_first blocked (mark_word (token.Sign sign.Semicolon)) semicolon_parts)))) e h

pub no_local_end : {text : List ℕ} {depth : ℕ} {ty : TypeName} {name : Ident} {p : Place} {v : ValueTree}
    {a b c d f : List Token} → Takes (λ _. IsType text) Nothing ty a b → Takes (λ _. IsName text) Nothing name b c →
    Takes (λ _. IsMark (token.Sign sign.Assign)) Nothing p c d → Takes (AValue text depth) GoesValue v d f →
    (e : Stop) →
    IsRefused (AnyOf (TheMark (token.Sign sign.Semicolon))) Nothing f e →
    IsRefused (AnyOf (ALocal text depth)) Nothing a e
no_local_end t n m v e h =
    refused_in (local_is _) (λ deep here blocked. at_second t (at_second n (at_second (without_place m)
    (blocked_second v semicolon_parts blocked)))) e h

-- a declaration of a local begins as one
local_begins : {text : List ℕ} {depth : ℕ} (reach : Reach) {d : LocalTree} {a b : List Token} →
    ALocal text depth reach d a b → begins_local a ≡ true
local_begins reach (local (type_bool {b} m) name n v s) = ap begins_local m.whole ∙ ap (λ k. begins_type k b) m.is
local_begins reach (local (type_uint {b} m l w g) name n v s) = ap begins_local m.whole ∙ ap (λ k. begins_type k b) m.is
local_begins reach (local (type_name {b} t) name n v s) =
    ap begins_local t.whole ∙ ap (λ k. begins_type k b) t.is ∙ ap begins_name name.whole ∙ ap is_name name.is

-- which tokens begin a declaration is told by the first two
same_name : (a b : List Token) → first_of a ≡ first_of b → begins_name a ≡ begins_name b
same_name [] [] e = refl
same_name (t ∷ a) [] e = absurd (cc)
same_name [] (u ∷ b) e = absurd (cc)
same_name (t ∷ a) (u ∷ b) e = let same : t ≡ u = cc in ap (λ (v : Token). is_name v.kind) same

type_behind : (k : TokenKind) (a b : List Token) → begins_name a ≡ begins_name b → begins_type k a ≡ begins_type k b
type_behind (token.Word word.Bool) a b e = refl
type_behind (token.Word word.Uint) a b e = refl
type_behind token.Name a b e = e
type_behind k a b e = refl

type_alone : (k : TokenKind) (a b : List Token) → ¬ (k ≡ token.Name) → begins_type k a ≡ begins_type k b
type_alone (token.Word word.Bool) a b e = refl
type_alone (token.Word word.Uint) a b e = refl
type_alone token.Name a b e = absurd (e refl)
type_alone k a b e = refl

same_alone : (a b : List Token) → first_of a ≡ first_of b → ¬ (first_kind b ≡ Some token.Name) →
    begins_local a ≡ begins_local b
same_alone [] [] e none = refl
same_alone (t ∷ a) [] e none = absurd (cc)
same_alone [] (u ∷ b) e none = absurd (cc)
same_alone (t ∷ a) (u ∷ b) e none =
    let same : t ≡ u = cc in
    ap (λ (v : Token). begins_type v.kind a) same ∙ type_alone u.kind a b (λ name. none (ap Some name))

two_same : (front a b : List Token) → first_of a ≡ first_of b → (front ≡ [] → ¬ (first_kind b ≡ Some token.Name)) →
    begins_local (front ++ a) ≡ begins_local (front ++ b)
two_same [] a b e none = same_alone a b e (none refl)
two_same (t ∷ front) a b e none =
    type_behind t.kind (front ++ a) (front ++ b) (same_name (front ++ a) (front ++ b) (same_behind front a b e))

-- no statement begins as a declaration
from_name : {text : List ℕ} {depth : ℕ} {reach : Reach} {names : List Ident} {s : StmtTree} {b c : List Token} →
    IsStmtFrom text depth names reach s b c → ¬ (first_kind b ≡ Some token.Name)
from_name (from_arguments es m) kind = let kinds = other_kind (args_kind _ es) kind in cc
from_name (from_place optional_none m v n) kind = let kinds = other_kind (has_kind m) kind in cc
from_name (from_place (optional_some (encloses o is c)) m v n) kind =
    let kinds = other_kind (mark_kind o.mark) kind in cc

not_name : (b : List Token) → ¬ (first_kind b ≡ Some token.Name) → begins_name b ≡ false
not_name [] none = refl
not_name (t ∷ b) none = other t.kind (λ e. none (ap Some e))
  where
    other : (k : TokenKind) → ¬ (k ≡ token.Name) → is_name k ≡ false
    other token.Name no_name = absurd (no_name refl)
    other k no_name = refl

name_local : {text : List ℕ} {n : Ident} {a b : List Token} → IsName text n a b → ¬ (first_kind b ≡ Some token.Name) →
    begins_local a ≡ false
name_local {b} n none = ap begins_local n.whole ∙ ap (λ k. begins_type k b) n.is ∙ not_name b none

path_local : {text : List ℕ} {names : List Ident} {a b : List Token} → First sign.Dot (IsName text) names a b →
    ¬ (first_kind b ≡ Some token.Name) → begins_local a ≡ false
path_local (alone n) none = name_local n none
path_local (before n m others) none = name_local n (λ kind. let kinds = other_kind (has_kind m) kind in cc)

marked_local : {k : TokenKind} {a b : List Token} → Has k a b → ((l : List Token) → begins_type k l ≡ false) →
    begins_local a ≡ false
marked_local {b} m none = ap begins_local m.whole ∙ ap (λ k. begins_type k b) m.is ∙ none b

sorted_local : {text : List ℕ} {depth : ℕ} {reach : Reach} {k : StmtSort} {s : StmtTree} {a b : List Token} →
    IsSorted text depth reach k s a b → begins_local a ≡ false
sorted_local (is_path p h) = path_local (first_view p) (from_name h)
sorted_local (is_if m h) = marked_local m (λ l. refl)
sorted_local (is_while m is inner) = marked_local (mark_has m) (λ l. refl)
sorted_local (is_forever m inner) = marked_local (mark_has m) (λ l. refl)
sorted_local (is_choice m h) = marked_local (mark_has m) (λ l. refl)
sorted_local (is_assert (tests m is n)) = marked_local (mark_has m) (λ l. refl)
sorted_local (is_assume (tests m is n)) = marked_local (mark_has m) (λ l. refl)
sorted_local (is_pause (shortly m n)) = marked_local (mark_has m) (λ l. refl)
sorted_local (is_wait (tests m is n)) = marked_local (mark_has m) (λ l. refl)
sorted_local (is_magic (shortly m n)) = marked_local (mark_has m) (λ l. refl)

-- where no declaration of a local begins
abbrev pub NoLocal : List Token → Type 0
NoLocal a = ¬ (begins_local a ≡ true)

-- declarations of locals that were read so far
abbrev pub LocalsSoFar : List ℕ → ℕ → List LocalTree → List Token → List Token → Type 0
LocalsSoFar text depth = RowSoFar (λ reach. AreEach (ALocal text depth reach)) (ALocal text depth) NoLocal

locals_apart : {text : List ℕ} {depth : ℕ} → Apart (ALocal text depth) Nothing NoLocal
locals_apart = record {
  begins = λ reach d a b is none. none;
  ends = λ reach d a b is ended. ended (local_begins reach is);
  last = λ a ended none. none;
}

pub locals_begun : {text : List ℕ} {depth : ℕ} {a : List Token} → LocalsSoFar text depth [] a a
locals_begun = row_start (λ reach a. each_none) (λ reach ds a b h. h)

pub locals_more : {text : List ℕ} {depth : ℕ} {ds : List LocalTree} {d : LocalTree} {a b c : List Token} →
    LocalsSoFar text depth ds a b → Takes (ALocal text depth) Nothing d b c → LocalsSoFar text depth (ds ++ d ∷ []) a c
locals_more p r = row_more each_grows locals_apart p r

-- behind declarations and statements no declaration begins
kind_local : (a : List Token) → begins_local a ≡ true → GoesBody (first_kind a)
kind_local [] e = absurd (let never : false ≡ true = e in cc)
kind_local (t ∷ a) e = go t.kind a e
  where
    go : (k : TokenKind) (l : List Token) → begins_type k l ≡ true → GoesBody (Some k)
    go (token.Word word.Bool) l e = inl (inl refl)
    go (token.Word word.Uint) l e = inl (inr refl)
    go token.Name l e = inr (inl (sort.Path, refl))
    go k l e = absurd (let never : false ≡ true = e in cc)

pub stmts_local : {text : List ℕ} {depth : ℕ} (reach : Reach) {ss : List StmtTree} {a b : List Token} →
    Each (AStmt text depth reach) ss a b → ¬ GoesBody (first_kind b) → NoLocal a
stmts_local reach {a} none_here stop e = stop (kind_local a e)
stmts_local reach (one_here is others) stop e =
    let v = sort_view reach is in
    let never : true ≡ false = sym e ∙ sorted_local v.is in
    cc

-- the tokens of some statement that begins with a name
word_of_stmt : (text : List ℕ) (depth : ℕ) → List Token
word_of_stmt text depth = (stmt_from_word text depth).word ++ []

behind_name : (text : List ℕ) (depth : ℕ) (t : Token) → t.kind ≡ token.Name →
    (ss : List StmtTree) × SomeStmts text depth (all_but (length (word_of_stmt text depth))) ss
    (t ∷ word_of_stmt text depth) []
unfolding word_of_stmt
behind_name text depth t is =
    let w = stmt_from_word text depth in
    let name = has_name {text = text} {a = t ∷ (w.word ++ [])} {b = w.word ++ []}
    (record { first = t; whole = refl; is = is }) in
    let from = w.spells (name.0 ∷ []) (length (w.word ++ [])) [] (omega arith) in
    ([] ++ from.0 ∷ [], stmts_more stmts_none (path_to (parted_one name.1) from.1))

-- the tokens of some declaration behind its type
abbrev TypedEnd : List ℕ → ℕ → Reach → Ident × (Unit {0} × (ValueTree × Unit {0})) → List Token → List Token → Type 0
TypedEnd text depth = Both (λ _. IsName text) (λ _. Both (TheMark (token.Sign sign.Assign)) (λ _. LocalEnd text depth))

typed_word : (text : List ℕ) (depth : ℕ) → AnyWord {X = TypeName} (λ x. TypedEnd text depth)
typed_word text depth = both_word (name_word text) (both_word (mark_word (token.Sign sign.Assign))
    (end_word text depth))

local_behind : (text : List ℕ) (depth : ℕ) (t : Token) → t.kind ≡ token.Name →
    let w = (typed_word text depth).word ++ [] in
    AnyOf (ALocal text depth) (all_but (length w)) (t ∷ w) []
local_behind text depth t is =
    let w = typed_word text depth in
    let name = has_name {text = text} {a = t ∷ (w.word ++ [])} {b = w.word ++ []}
    (record { first = t; whole = refl; is = is }) in
    let from = w.spells (written.Enum name.0) (length (w.word ++ [])) [] (omega arith) in
    let reach = all_but (length (w.word ++ [])) in (
      the_local (written.Enum name.0, from.0),
      (local_is []).to reach (written.Enum name.0, from.0) (t ∷ (w.word ++ [])) []
          (record { between = w.word ++ []; first = type_name name.1; second = from.1 }),
    )

far : (size : ℕ) (t : Token) (l : List Token) → length l ≡ size → Binds (all_but size) (t ∷ l)
far size t l same depth bound = bound (omega (arith, same))

-- a name that begins a declaration or a statement is not where it is refused
pub not_at_name : {Is : Reach → List Token → List Token → Type 0} {Goes : Option TokenKind → Type 0} {deep : Bool}
    {b here : List Token} (w : List Token) → ¬ Goes None →
    ((t : Token) → t.kind ≡ token.Name → Is (all_but (length w)) (t ∷ w) []) → (h : IsBlocked Is Goes deep b here) →
    h.front ≡ [] → ¬ (first_kind here ≡ Some token.Name)
not_at_name {here = []} w ends spells h none kind = absurd (cc)
not_at_name {Is} {here = t ∷ here} w ends spells h none kind =
    let is : t.kind ≡ token.Name = let same : Some t.kind ≡ Some token.Name = kind in cc in
    h.stuck (all_but (length w)) (t ∷ w) [] refl (λ deep. far (length w) t w refl) ends
    (subst (λ l. Is (all_but (length w)) (l ++ (t ∷ w)) []) (sym none) (spells t is))

abbrev the_body : List LocalTree → List StmtTree → List LocalTree × List StmtTree
the_body ds ss = (ds, ss)

-- declarations of locals, and statements
pub taken_body : {text : List ℕ} {depth : ℕ} {ds : List LocalTree} {ss : List StmtTree} {a b c : List Token} →
    begins_local b ≡ false → stmt_sort (first_kind c) ≡ None → LocalsSoFar text depth ds a b →
    Takes (SomeStmts text depth) GoesStmts ss b c → Takes (AreBody text depth) GoesBody (ds, ss) a c
taken_body {text} {depth} {ds} {ss} {a} {b} {c} no_local ended p s = record {
  front = p.front ++ s.front;
  whole = p.whole ∙ ap (λ l. p.front ++ l) s.whole ∙ sym (append_assoc p.front s.front c);
  is = λ reach behind. record {
    between = s.front ++ behind;
    locals = subst (λ l. AreEach (ALocal text depth reach) ds l (s.front ++ behind))
        (sym (append_assoc p.front s.front behind)) (p.is reach (s.front ++ behind));
    stmts = s.is reach behind;
  };
  sole = λ reach y other after same stop is.
      let leads = p.next reach y.0 (s.front ++ other) is.between
      (same_behind s.front other c same ∙ ap first_of (sym s.whole))
      (stmts_local reach (each_view (stmts_each reach is.stmts)) stop)
      (subst (λ l. AreEach (ALocal text depth reach) y.0 l is.between) (append_assoc p.front s.front other)
      is.locals) in
      go reach y.0 y.1 leads.others other is.between after same stop is.stmts leads.whole (each_view leads.are);
}
  where
    quiet : (other : List Token) → first_of other ≡ first_of c → begins_local (s.front ++ other) ≡ false
    quiet other same =
        two_same s.front other c same (λ none kind.
        let never : None ≡ Some sort.Path = sym ended ∙ ap stmt_sort kind in
        cc) ∙ ap begins_local (sym s.whole) ∙ no_local

    go : (reach : Reach) (es : List LocalTree) (ts : List StmtTree) (zs : List LocalTree)
        (other between after : List Token) → first_of other ≡ first_of c → ¬ GoesBody (first_kind after) →
        SomeStmts text depth reach ts between after → es ≡ ds ++ zs →
        Each (ALocal text depth reach) zs (s.front ++ other) between →
        (the_body es ts ≡ the_body ds ss) × (after ≡ other)
    go reach es ts zs other between after same stop are whole none_here =
        let one = s.sole reach ts other after same (λ goes. stop (inr goes)) are in
        let locals : es ≡ ds = whole ∙ append-nil ds in
        ((λ i. (locals i, one.0 i)), one.1)
    go reach es ts zs other between after same stop are whole (one_here is more) =
        absurd (let never : true ≡ false = sym (local_begins reach is) ∙ quiet other same in cc)

no_goes_end : ¬ GoesStmts None
no_goes_end (inl begins) = let never : None ≡ Some begins.0 = begins.1 in cc
no_goes_end (inr (inl other)) = let never : None ≡ Some (token.Word word.Else) = other in cc
no_goes_end (inr (inr other)) = let never : None ≡ Some (token.Word word.Or) = other in cc

-- a declaration is refused
pub no_body_local : {text : List ℕ} {depth : ℕ} {deep : Bool} {ds : List LocalTree} {a b here : List Token} →
    begins_local b ≡ true → LocalsSoFar text depth ds a b → IsBlocked (AnyOf (ALocal text depth)) Nothing deep b here →
    IsBlocked (AnyOf (AreBody text depth)) GoesBody deep a here
no_body_local {text} {depth} {deep} {ds} {a} {b} {here} begins p h = record {
  front = p.front ++ h.front;
  whole = p.whole ∙ ap (λ l. p.front ++ l) h.whole ∙ sym (append_assoc p.front h.front here);
  more = h.more;
  completes = λ behind.
      let one = h.completes behind in
      let reach = all_but (length (h.more ++ behind)) in (
        (ds ++ one.0 ∷ [], []),
        record {
          between = behind;
          locals = subst (λ l. AreEach (ALocal text depth reach) (ds ++ one.0 ∷ []) l behind)
              (sym (append_assoc p.front h.front (h.more ++ behind)))
              (each_more (p.is reach (h.front ++ (h.more ++ behind))) one.1);
          stmts = stmts_none;
        },
      );
  goes_on = h.goes_on;
  stuck = λ reach other rest same within stop is.
      let y = is.0 in
      let leads = p.next reach y.0 (h.front ++ other) is.1.between
      (same_behind h.front other here same ∙ ap first_of (sym h.whole))
      (stmts_local reach (each_view (stmts_each reach is.1.stmts)) stop)
      (subst (λ l. AreEach (ALocal text depth reach) y.0 l is.1.between) (append_assoc p.front h.front other)
      is.1.locals) in
      go reach leads.others other is.1.between same within
      (stmts_local reach (each_view (stmts_each reach is.1.stmts)) stop) (each_view leads.are);
}
  where
    go : (reach : Reach) (zs : List LocalTree) (other between : List Token) → first_of other ≡ first_of here →
        (IsTrue deep → Binds reach other) → NoLocal between →
        ¬ Each (ALocal text depth reach) zs (h.front ++ other) between
    go reach zs other between same within stop none_here =
        stop (two_same h.front other here same (not_at_name ((typed_word text depth).word ++ []) (λ none. none)
        (local_behind text depth) h) ∙ ap begins_local (sym h.whole) ∙ begins)
    go reach zs other between same within stop (one_here {b = middle} is more) =
        h.stuck reach other middle same within (λ none. none) (_, is)

-- a statement is refused
pub no_body_stmts : {text : List ℕ} {depth : ℕ} {deep : Bool} {ds : List LocalTree} {a b here : List Token} →
    begins_local b ≡ false → LocalsSoFar text depth ds a b →
    IsBlocked (AnyOf (SomeStmts text depth)) GoesStmts deep b here →
    IsBlocked (AnyOf (AreBody text depth)) GoesBody deep a here
no_body_stmts {text} {depth} {deep} {ds} {a} {b} {here} no_local p h = record {
  front = p.front ++ h.front;
  whole = p.whole ∙ ap (λ l. p.front ++ l) h.whole ∙ sym (append_assoc p.front h.front here);
  more = h.more;
  completes = λ behind.
      let one = h.completes behind in
      let reach = all_but (length (h.more ++ behind)) in (
        (ds, one.0),
        record {
          between = h.front ++ (h.more ++ behind);
          locals = subst (λ l. AreEach (ALocal text depth reach) ds l (h.front ++ (h.more ++ behind)))
              (sym (append_assoc p.front h.front (h.more ++ behind))) (p.is reach (h.front ++ (h.more ++ behind)));
          stmts = one.1;
        },
      );
  goes_on = h.goes_on;
  stuck = λ reach other rest same within stop is.
      let y = is.0 in
      let leads = p.next reach y.0 (h.front ++ other) is.1.between
      (same_behind h.front other here same ∙ ap first_of (sym h.whole))
      (stmts_local reach (each_view (stmts_each reach is.1.stmts)) stop)
      (subst (λ l. AreEach (ALocal text depth reach) y.0 l is.1.between) (append_assoc p.front h.front other)
      is.1.locals) in
      go reach y.1 leads.others other is.1.between rest same within stop is.1.stmts (each_view leads.are);
}
  where
    go : (reach : Reach) (ts : List StmtTree) (zs : List LocalTree) (other between rest : List Token) →
        first_of other ≡ first_of here → (IsTrue deep → Binds reach other) → ¬ GoesBody (first_kind rest) →
        SomeStmts text depth reach ts between rest → ¬ Each (ALocal text depth reach) zs (h.front ++ other) between
    go reach ts zs other between rest same within stop are none_here =
        h.stuck reach other rest same within (λ goes. stop (inr goes)) (ts, are)
    go reach ts zs other between rest same within stop are (one_here is more) =
        let quiet = two_same h.front other here same (not_at_name (word_of_stmt text depth) (no_goes_end)
        (behind_name text depth) h)
        ∙ ap begins_local (sym h.whole) ∙ no_local in
        let never : true ≡ false = sym (local_begins reach is) ∙ quiet in
        cc
