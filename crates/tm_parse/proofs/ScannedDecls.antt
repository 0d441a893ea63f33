-- The scan of declarations, items and specifications: between them nothing waits.
use Rattle.std.proofs.Common.{◌≡◌, ℕ, Option, None, List, [], ◌∷◌, refl}
use Rattle.tm_syntax.specs.declared.token.Token.{Token}
use Rattle.tm_syntax.specs.declared.token.TokenKind.{TokenKind}
use Rattle.tm_syntax.specs.declared.token.TokenKind.TheVariants as token
use Rattle.tm_syntax.specs.declared.token.Sign.TheVariants as sign
use Rattle.tm_syntax.specs.declared.tree.Ident.{Ident}
use Rattle.tm_syntax.specs.declared.tree.Num.{Num}
use Rattle.tm_syntax.specs.declared.tree.TaskKind.{TaskKind}
use Rattle.tm_syntax.specs.Tree.{ExprTree, BodyTree, InstanceTree, VarTree, NamedTree, ProcessTree, TaskTree, EnumTree, TemplateTree, SpecTree}
use Rattle.tm_syntax.specs.Grammar.Parts.{Has, IsName, AreParted, parted_one, parted_more, IsOptional, optional_none, optional_some}
use Rattle.tm_syntax.specs.Grammar.Declarations.{IsLiteral, literal_number, literal_true, literal_false, literal_name, IsLength, size_of, IsInitial, initial, IsParam, param, IsVar, variable, IsInstance, instance, IsNamed, named, IsProcess, process_fair, process_lazy, IsTaskOf, task_of, IsTask, task_controllable, task_uncontrollable, procedure_typed, procedure_void}
use Rattle.tm_syntax.specs.Grammar.Specification.{IsPort, port, DeclTree, IsDecl, decl_instance, decl_variable, decl_goal, decl_fair, decl_process, decl_task, IsTemplate, template, IsEnum, enum, ItemTree, IsItem, item_enum, item_template, IsSpec, spec}
use Rattle.tm_parse.proofs.Names.{number_has}
use Rattle.tm_parse.proofs.Scan.{opened, claiming, state, step, depth_of}
use Rattle.tm_parse.proofs.Scanned.{Here, at_first, behind_plain, Known, Rest}
use Rattle.tm_parse.proofs.ScannedExprs.{Level, level_opened, opens, scan_whole}
use Rattle.tm_parse.proofs.ScannedStmts.{rest_ends, rest_of, semicolon_rest, Scans, each_scan, may_be_scan, arguments_scan, name_rest, name_scans, type_rest, scan_braced, scan_answering}
use Rattle.tm_parse.proofs.Terminals.{mark_has}

-- a token between declarations behind which nothing waits
plain : {May : List Token → ℕ → Type 0} {tokens : List Token} {kind : TokenKind} {a b : List Token} →
    (r : Rest May tokens [] a) → Has kind a b → depth_of kind (state [] r.height) ≡ None →
    step kind (state [] r.height) ≡ state [] r.height → Rest May tokens [] b
plain r m none next = rest_of (behind_plain r.here m none next)

-- the semicolon behind a declaration
ended : {May : List Token → ℕ → Type 0} {tokens : List Token} {a b : List Token} →
    Rest May tokens [] a → Has (token.Sign sign.Semicolon) a b → Rest May tokens [] b
ended r m = rest_of (behind_plain r.here m refl refl)

literal_rest : {text : List ℕ} {May : List Token → ℕ → Type 0} {tokens : List Token} {e : ExprTree} {a b : List Token} →
    Rest May tokens [] a → IsLiteral text e a b → Rest May tokens [] b
literal_rest r (literal_number n) = rest_of (behind_plain r.here (number_has n) refl refl)
literal_rest r (literal_true m) = rest_of (behind_plain r.here (mark_has m) refl refl)
literal_rest r (literal_false m) = rest_of (behind_plain r.here (mark_has m) refl refl)
literal_rest r (literal_name n) = name_rest refl r n

length_rest : {text : List ℕ} {May : List Token → ℕ → Type 0} {tokens : List Token} {n : Option Num}
    {a b : List Token} → Rest May tokens [] a → IsOptional (IsLength text) n a b → Rest May tokens [] b
length_rest r optional_none = r
length_rest {May} {tokens} r (optional_some (size_of {b} {c} o n e)) =
    let opened_here : Here May tokens (state (opened ∷ []) r.height) b = behind_plain r.here o refl refl in
    let number_here : Here May tokens (state (opened ∷ []) 1) c = behind_plain opened_here (number_has n) refl refl in
    rest_of (behind_plain number_here e refl refl)

initial_rest : {text : List ℕ} {May : List Token → ℕ → Type 0} {tokens : List Token} {e : Option ExprTree}
    {a b : List Token} → Rest May tokens [] a → IsOptional (IsInitial text) e a b → Rest May tokens [] b
initial_rest r optional_none = r
initial_rest r (optional_some (initial m l)) = literal_rest (plain r m refl refl) l

variable_rest : {text : List ℕ} {May : List Token → ℕ → Type 0} {tokens : List Token} {d : VarTree} {a b : List Token} →
    Rest May tokens [] a → IsVar text d a b → Rest May tokens [] b
variable_rest r (variable ty n size init s) =
    ended (initial_rest (length_rest (name_rest refl (type_rest refl r ty) n) size) init) s

param_scans : {text : List ℕ} {May : List Token → ℕ → Type 0} {tokens : List Token} →
    Scans May tokens (opened ∷ []) (IsParam text) (IsParam text)
param_scans x c d r (param ty n) =
    (param ty n, rest_ends (level_opened []) (name_rest refl (type_rest refl r ty) n))

port_scans : {text : List ℕ} {May : List Token → ℕ → Type 0} {tokens : List Token} →
    Scans May tokens (opened ∷ []) (IsPort text) (IsPort text)
port_scans x c d r (port t n) =
    (port t n, rest_ends (level_opened []) (name_rest refl (name_rest refl r t) n))

scan_instance : {text : List ℕ} {May : List Token → ℕ → Type 0} {tokens : List Token} {d : InstanceTree}
    {a b : List Token} → Rest May tokens [] a → IsInstance text May 0 d a b →
    IsInstance text (Known May tokens) 0 d a b × Rest May tokens [] b
scan_instance r (instance m t n ps s) =
    let one = may_be_scan refl (name_scans []) (name_rest refl (name_rest refl (plain r m refl refl) t) n) ps in
    (instance m t n one.0 s, ended one.1 s)

-- the expression of a goal or a fairness condition
level_claiming : Level (claiming ∷ [])
level_claiming = record {
  stops = λ k h. refl;
  is_bare = refl;
  unsized = refl;
  inside = refl;
  unchanged = refl;
}

scan_named : {text : List ℕ} {May : List Token → ℕ → Type 0} {tokens : List Token} {d : NamedTree} {a b : List Token} →
    Rest May tokens (claiming ∷ []) a → IsNamed text May 0 d a b →
    IsNamed text (Known May tokens) 0 d a b × Rest May tokens [] b
scan_named r (named n m e s) =
    let there = name_rest refl r n in
    let assigned = behind_plain there.here m refl refl in
    let one = scan_whole refl level_claiming assigned e in
    (named n m one.0 s, semicolon_rest refl one.1 s)

scan_process : {text : List ℕ} {May : List Token → ℕ → Type 0} {tokens : List Token} {d : ProcessTree}
    {a b : List Token} → Rest May tokens [] a → IsProcess text May 0 d a b →
    IsProcess text (Known May tokens) 0 d a b × Rest May tokens [] b
scan_process r (process_fair m n i) =
    let one = scan_braced refl refl (name_rest refl (plain r m refl refl) n) i in (process_fair m n one.0, one.1)
scan_process r (process_lazy l m n i) =
    let one = scan_braced refl refl (name_rest refl (plain (plain r l refl refl) m refl refl) n) i in
    (process_lazy l m n one.0, one.1)

scan_task_of : {text : List ℕ} {May : List Token → ℕ → Type 0} {tokens : List Token}
    {Is Or : BodyTree → List Token → List Token → Type 0} {k : TaskKind} {d : TaskTree} {a b : List Token} →
    ((x : BodyTree) (c d : List Token) → Rest May tokens [] c → Is x c d → Or x c d × Rest May tokens [] d) →
    Rest May tokens [] a → IsTaskOf text May 0 Is k d a b →
    IsTaskOf text (Known May tokens) 0 Or k d a b × Rest May tokens [] b
scan_task_of f r (task_of n ps i) =
    let one = arguments_scan refl param_scans (name_rest refl r n) ps in
    let two = f _ _ _ one.1 i in
    (task_of n one.0 two.0, two.1)

scan_task : {text : List ℕ} {May : List Token → ℕ → Type 0} {tokens : List Token} {d : TaskTree} {a b : List Token} →
    Rest May tokens [] a → IsTask text May 0 d a b → IsTask text (Known May tokens) 0 d a b × Rest May tokens [] b
scan_task r (task_controllable m c t) =
    let one = scan_task_of (λ x c d r is. scan_braced refl refl r is) (plain (plain r m refl refl) c refl refl) t in
    (task_controllable m c one.0, one.1)
scan_task r (task_uncontrollable m c t) =
    let one = scan_task_of (λ x c d r is. scan_braced refl refl r is) (plain (plain r m refl refl) c refl refl) t in
    (task_uncontrollable m c one.0, one.1)
scan_task r (procedure_typed m ty t) =
    let one = scan_task_of (λ x c d r is. scan_answering refl refl r is) (type_rest refl (plain r m refl refl) ty) t in
    (procedure_typed m ty one.0, one.1)
scan_task r (procedure_void m v t) =
    let one = scan_task_of (λ x c d r is. scan_answering refl refl r is) (plain (plain r m refl refl) v refl refl) t in
    (procedure_void m v one.0, one.1)

scan_decl : {text : List ℕ} {May : List Token → ℕ → Type 0} {tokens : List Token} {d : DeclTree} {a b : List Token} →
    Rest May tokens [] a → IsDecl text May 0 d a b → IsDecl text (Known May tokens) 0 d a b × Rest May tokens [] b
scan_decl r (decl_instance d) = let one = scan_instance r d in (decl_instance one.0, one.1)
scan_decl r (decl_variable d) = (decl_variable d, variable_rest r d)
scan_decl r (decl_goal m d) =
    let one = scan_named (rest_of (behind_plain r.here m refl refl)) d in (decl_goal m one.0, one.1)
scan_decl r (decl_fair m d) =
    let one = scan_named (rest_of (behind_plain r.here m refl refl)) d in (decl_fair m one.0, one.1)
scan_decl r (decl_process d) = let one = scan_process r d in (decl_process one.0, one.1)
scan_decl r (decl_task d) = let one = scan_task r d in (decl_task one.0, one.1)

scan_template : {text : List ℕ} {May : List Token → ℕ → Type 0} {tokens : List Token} {t : TemplateTree}
    {a b : List Token} → Rest May tokens [] a → IsTemplate text May 0 t a b →
    IsTemplate text (Known May tokens) 0 t a b × Rest May tokens [] b
scan_template r (template m n ps ds e) =
    let one = may_be_scan refl port_scans (name_rest refl (plain r m refl refl) n) ps in
    let two = each_scan (λ x c d r is. scan_decl r is) one.1 ds in
    (template m n one.0 two.0 e, plain two.1 e refl refl)

-- the constants of an enum
names_rest : {text : List ℕ} {May : List Token → ℕ → Type 0} {tokens : List Token} {names : List Ident}
    {a b : List Token} → Rest May tokens (opened ∷ []) a → AreParted sign.Comma (IsName text) names a b →
    Rest May tokens (opened ∷ []) b
names_rest r (parted_one n) = name_rest refl r n
names_rest r (parted_more front m n) =
    name_rest refl (rest_of (behind_plain (names_rest r front).here m refl refl)) n

scan_enum : {text : List ℕ} {May : List Token → ℕ → Type 0} {tokens : List Token} {d : EnumTree} {a b : List Token} →
    Rest May tokens [] a → IsEnum text May 0 d a b → IsEnum text (Known May tokens) 0 d a b × Rest May tokens [] b
scan_enum r (enum m n o may are c name s) =
    let before = plain (plain r m refl refl) n refl refl in
    let p = opens [] refl before.here o refl may refl in
    let closed = behind_plain (names_rest (rest_of p.0) are).here c refl refl in
    (enum m n o p.1 are c name s, ended (name_rest refl (rest_of closed) name) s)

scan_item : {text : List ℕ} {May : List Token → ℕ → Type 0} {tokens : List Token} {d : ItemTree} {a b : List Token} →
    Rest May tokens [] a → IsItem text May 0 d a b → IsItem text (Known May tokens) 0 d a b × Rest May tokens [] b
scan_item r (item_enum d) = let one = scan_enum r d in (item_enum one.0, one.1)
scan_item r (item_template t) = let one = scan_template r t in (item_template one.0, one.1)

-- the scan of a specification knows what is asked of its tokens
pub scan_spec : {text : List ℕ} {May : List Token → ℕ → Type 0} {tokens : List Token} {t : SpecTree} {b : List Token} →
    IsSpec text May t tokens b → IsSpec text (Known May tokens) t tokens b × Rest May tokens [] b
scan_spec (spec are last) =
    let one = each_scan (λ x c d r is. scan_item r is) (rest_of at_first) are in
    let two = scan_item one.1 last in
    (spec one.0 two.0, two.1)
