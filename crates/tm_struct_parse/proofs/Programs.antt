-- Functions, `driver_turn` and drivers, as forms.
use Rattle.std.proofs.Common.{◌≡◌, ◌≢◌, ℕ, Some, List, [], ◌∷◌, ◌++◌, All, refl, sym, ap, ◌∙◌, subst, append_assoc}
use Rattle.std.proofs.lemmas.List.{append-nil}
use Rattle.std.proofs.lemmas.List.Elements.{All-nil, All-cons, All-head, All-tail}
use Rattle.tm_cir.specs.Text.Token.{Token, word, label, sign, void, driver_turn, open_parenthesis, close_parenthesis}
use Rattle.tm_cparse.specs.declared.spot.Spot.{Spot}
use Rattle.tm_cparse.specs.declared.spot.Stop.{Stop}
use Rattle.tm_cparse.specs.declared.spot.Stop.TheVariants.{Unexpected, Memory}
use Rattle.tm_cparse.specs.View.{tokens_of}
use Rattle.tm_cparse.specs.Inner.Reading.{first_of, IsBlocked, IsRefused, Moves, IsMissing, IsNoLabel}
use Rattle.tm_cparse.proofs.Moves.{moves_then, same_behind, blocked_here}
use Rattle.tm_struct.specs.Tree.{ActionTree}
use Rattle.tm_struct.specs.Text.Spelling.{static_word, function}
use Rattle.tm_struct.specs.Text.Grammar.{braced, action_tokens, body_tokens}
use Rattle.tm_struct.proofs.Grammar.{same_body}
use Rattle.tm_struct_parse.specs.Written.{WrittenFunction, functions_tokens, WrittenProgram, FunctionInRange}
use Rattle.tm_struct_parse.specs.Inner.Forms.{IsBlock, IsBody, IsFunction, IsTurn, IsProgram, AreFunctions}
use Rattle.tm_struct_parse.proofs.Forms.{Then, Part, Done, Ends, done_ends, then_ends, part_ends, then_moves}
use Rattle.tm_struct_parse.proofs.Forms.{then_refused, IsOnly, part_moves, part_refused, refused_behind, refused_as}
use Rattle.tm_struct_parse.proofs.Actions.{some_block, block_ends}

abbrev open_mark : Token
open_mark = sign open_parenthesis

abbrev close_mark : Token
close_mark = sign close_parenthesis

same_tail : {t u : Token} {a b : List Token} → t ∷ a ≡ u ∷ b → a ≡ b
same_tail e = cc

-- what stands behind the name of a function
abbrev body_form : ActionTree → List Token → List Token → Type 0
body_form = Then open_mark (Then (word void) (Then close_mark (IsBlock 0)))

body_text : (a : ActionTree) (rest : List Token) →
    body_tokens a ++ rest ≡ open_mark ∷ word void ∷ close_mark ∷ (braced (action_tokens a) ++ rest)
body_text a rest = refl

body_to : (a : ActionTree) (tokens rest : List Token) → IsBody a tokens rest → body_form a tokens rest
body_to a tokens rest is = record {
  behind = word void ∷ close_mark ∷ (braced (action_tokens a) ++ rest);
  are = is.are ∙ body_text a rest;
  form = record {
    behind = close_mark ∷ (braced (action_tokens a) ++ rest);
    are = refl;
    form = record {
      behind = braced (action_tokens a) ++ rest;
      are = refl;
      form = record { in_range = is.in_range; are = refl };
    };
  };
}

pub body_from : (a : ActionTree) (tokens rest : List Token) → body_form a tokens rest → IsBody a tokens rest
body_from a tokens rest f = record {
  in_range = f.form.form.form.in_range;
  are = f.are
      ∙ ap (λ (l : List Token). open_mark ∷ l)
      (f.form.are
      ∙ ap (λ (l : List Token). word void ∷ l)
      (f.form.form.are ∙ ap (λ (l : List Token). close_mark ∷ l) f.form.form.form.are))
      ∙ sym (body_text a rest);
}

to_body : (tokens : List Token) (e : Stop) → IsRefused body_form tokens e → IsRefused IsBody tokens e
to_body tokens e h = refused_as tokens (λ x b c f. body_from x b c f) (λ x b c is. body_to x b c is) e h

close_ends : Ends (close_mark ∷ some_block) (Then close_mark (IsBlock 0))
close_ends = then_ends close_mark some_block (block_ends 0)

void_ends : Ends (word void ∷ close_mark ∷ some_block) (Then (word void) (Then close_mark (IsBlock 0)))
void_ends = then_ends (word void) _ close_ends

body_ends : Ends (open_mark ∷ word void ∷ close_mark ∷ some_block) IsBody
body_ends = record {
  at = λ behind. let all = (then_ends open_mark _ void_ends).at behind in (all.0, body_from all.0 _ _ all.1);
}

pub body_no_open : (spots : List Spot) (e : Stop) → IsMissing open_mark spots e → IsRefused IsBody (tokens_of spots) e
body_no_open spots e missing = to_body (tokens_of spots) e (then_refused open_mark _ void_ends spots e missing)

pub body_no_void : (a : List Token) (spots : List Spot) (e : Stop) → a ≡ open_mark ∷ tokens_of spots →
    IsMissing (word void) spots e → IsRefused IsBody a e
body_no_void a spots e opens missing =
    to_body a e
    (refused_behind (then_moves open_mark a (tokens_of spots) opens) e
    (then_refused (word void) _ close_ends spots e missing))

pub body_no_close : (a b : List Token) (spots : List Spot) (e : Stop) → a ≡ open_mark ∷ b →
    b ≡ word void ∷ tokens_of spots → IsMissing close_mark spots e → IsRefused IsBody a e
body_no_close a b spots e opens is missing =
    to_body a e
    (refused_behind
    (moves_then (then_moves open_mark a b opens) (then_moves (word void) b (tokens_of spots) is)) e
    (then_refused close_mark _ (block_ends 0) spots e missing))

pub body_no_block : (a b c f : List Token) (e : Stop) → a ≡ open_mark ∷ b → b ≡ word void ∷ c → c ≡ close_mark ∷ f →
    IsRefused (IsBlock 0) f e → IsRefused IsBody a e
body_no_block a b c f e opens is closes h =
    to_body a e
    (refused_behind
    (moves_then (then_moves open_mark a b opens)
    (moves_then (then_moves (word void) b c is) (then_moves close_mark c f closes))) e h)

pub body_read : (x : ActionTree) (a b c f rest : List Token) → a ≡ open_mark ∷ b → b ≡ word void ∷ c →
    c ≡ close_mark ∷ f → IsBlock 0 x f rest → IsBody x a rest
body_read x a b c f rest opens is closes block =
    body_from x a rest
    (record {
      behind = b;
      are = opens;
      form = record { behind = c; are = is; form = record { behind = f; are = closes; form = block } };
    })

body_only : (x : ActionTree) (tokens rest : List Token) → IsBody x tokens rest → IsOnly IsBody x tokens rest
body_only x tokens rest is = record {
  front = body_tokens x;
  whole = is.are;
  is = λ other. record { in_range = is.in_range; are = refl };
  only = λ z other after first p. same_body z x after other (sym p.are);
}

-- `driver_turn`
abbrev turn_form : ActionTree → List Token → List Token → Type 0
turn_form = Then (word void) (Then (word driver_turn) IsBody)

turn_to : (a : ActionTree) (tokens rest : List Token) → IsTurn a tokens rest → turn_form a tokens rest
turn_to a tokens rest is = record {
  behind = word driver_turn ∷ (body_tokens a ++ rest);
  are = is.are;
  form = record { behind = body_tokens a ++ rest; are = refl; form = record { in_range = is.in_range; are = refl } };
}

turn_from : (a : ActionTree) (tokens rest : List Token) → turn_form a tokens rest → IsTurn a tokens rest
turn_from a tokens rest f = record {
  in_range = f.form.form.in_range;
  are = f.are
      ∙ ap (λ (l : List Token). word void ∷ l)
      (f.form.are ∙ ap (λ (l : List Token). word driver_turn ∷ l) f.form.form.are);
}

to_turn : (tokens : List Token) (e : Stop) → IsRefused turn_form tokens e → IsRefused IsTurn tokens e
to_turn tokens e h = refused_as tokens (λ x b c f. turn_from x b c f) (λ x b c is. turn_to x b c is) e h

turn_body_ends : Ends (word driver_turn ∷ open_mark ∷ word void ∷ close_mark ∷ some_block)
    (Then (word driver_turn) IsBody)
turn_body_ends = then_ends (word driver_turn) _ body_ends

turn_ends : Ends (word void ∷ word driver_turn ∷ open_mark ∷ word void ∷ close_mark ∷ some_block) IsTurn
turn_ends = record {
  at = λ behind.
      let all = (then_ends (word void) _ turn_body_ends).at behind in (all.0, turn_from all.0 _ _ all.1);
}

pub turn_no_void : (spots : List Spot) (e : Stop) → IsMissing (word void) spots e →
    IsRefused IsTurn (tokens_of spots) e
turn_no_void spots e missing = to_turn (tokens_of spots) e (then_refused (word void) _ turn_body_ends spots e missing)

pub turn_no_name : (a : List Token) (spots : List Spot) (e : Stop) → a ≡ word void ∷ tokens_of spots →
    IsMissing (word driver_turn) spots e → IsRefused IsTurn a e
turn_no_name a spots e is missing =
    to_turn a e
    (refused_behind (then_moves (word void) a (tokens_of spots) is) e
    (then_refused (word driver_turn) _ body_ends spots e missing))

pub turn_no_body : (a b c : List Token) (e : Stop) → a ≡ word void ∷ b → b ≡ word driver_turn ∷ c →
    IsRefused IsBody c e → IsRefused IsTurn a e
turn_no_body a b c e is name h =
    to_turn a e
    (refused_behind (moves_then (then_moves (word void) a b is) (then_moves (word driver_turn) b c name)) e h)

pub turn_read : (x : ActionTree) (a b c rest : List Token) → a ≡ word void ∷ b → b ≡ word driver_turn ∷ c →
    IsBody x c rest → IsTurn x a rest
turn_read x a b c rest is name body =
    turn_from x a rest (record { behind = b; are = is; form = record { behind = c; are = name; form = body } })

-- the name of a function, as a part
record IsName (k : ℕ) (tokens rest : List Token) : Type 0 where
  are : tokens ≡ label k ∷ rest

name_ends : Ends (label 0 ∷ []) IsName
name_ends = record { at = λ behind. (0, record { are = refl }) }

name_only : (k : ℕ) (tokens rest : List Token) → tokens ≡ label k ∷ rest → IsOnly IsName k tokens rest
name_only k tokens rest is = record {
  front = label k ∷ [];
  whole = is;
  is = λ other. record { are = refl };
  only = λ z other after first p. (same_number (sym p.are), same_tail (sym p.are));
}
  where
    same_number : {a b : ℕ} {x y : List Token} → label a ∷ x ≡ label b ∷ y → a ≡ b
    same_number e = cc

name_refused : (spots : List Spot) (e : Stop) → IsNoLabel spots e → IsRefused IsName (tokens_of spots) e
name_refused spots (Unexpected here) missing =
    subst (λ (l : List Spot). IsBlocked IsName (tokens_of spots) (tokens_of l)) (sym missing.0)
    (blocked_here (label 0 ∷ []) name_ends.at
    (λ n other rest first is. missing.1 n (sym first ∙ ap first_of is.are)))
name_refused spots Memory missing = tt

-- a function behind `static`
abbrev written : ℕ → ActionTree → WrittenFunction
written k a = record { number = k; action = a }

abbrev named_body : ℕ → WrittenFunction → List Token → List Token → Type 0
named_body k = Part IsBody (λ a. Done (written k a))

abbrev function_form : WrittenFunction → List Token → List Token → Type 0
function_form = Then (word void) (Part IsName named_body)

function_to : (f : WrittenFunction) (tokens rest : List Token) → IsFunction f tokens rest → function_form f tokens rest
function_to f tokens rest is = record {
  behind = function f.number ∷ (body_tokens f.action ++ rest);
  are = is.are;
  form = record {
    part = f.number;
    behind = body_tokens f.action ++ rest;
    is = record { are = refl };
    form = record {
      part = f.action;
      behind = rest;
      is = record { in_range = is.in_range; are = refl };
      form = record { same = refl; are = refl };
    };
  };
}

function_from : (f : WrittenFunction) (tokens rest : List Token) → function_form f tokens rest →
    IsFunction f tokens rest
function_from f tokens rest g =
    let inner = g.form in
    let body = inner.form in
    subst (λ (x : WrittenFunction). IsFunction x tokens rest) (sym body.form.same)
    (record {
      in_range = body.is.in_range;
      are = g.are
          ∙ ap (λ (l : List Token). word void ∷ l)
          (inner.is.are
          ∙ ap (λ (l : List Token). label inner.part ∷ l)
          (body.is.are ∙ ap (λ (l : List Token). body_tokens body.part ++ l) body.form.are));
    })

to_function : (tokens : List Token) (e : Stop) → IsRefused function_form tokens e → IsRefused IsFunction tokens e
to_function tokens e h = refused_as tokens (λ x b c f. function_from x b c f) (λ x b c is. function_to x b c is) e h

named_ends : (k : ℕ) → Ends ((open_mark ∷ word void ∷ close_mark ∷ some_block) ++ []) (named_body k)
named_ends k = part_ends _ [] body_ends (λ a. done_ends (written k a))

pub function_no_void : (spots : List Spot) (e : Stop) → IsMissing (word void) spots e →
    IsRefused IsFunction (tokens_of spots) e
function_no_void spots e missing =
    to_function (tokens_of spots) e
    (then_refused (word void) _ (part_ends _ _ name_ends named_ends) spots e missing)

pub function_no_name : (a : List Token) (spots : List Spot) (e : Stop) → a ≡ word void ∷ tokens_of spots →
    IsNoLabel spots e → IsRefused IsFunction a e
function_no_name a spots e is missing =
    to_function a e
    (refused_behind (then_moves (word void) a (tokens_of spots) is) e
    (part_refused IsName _ named_ends (tokens_of spots) e (name_refused spots e missing)))

pub function_no_body : (k : ℕ) (a b c : List Token) (e : Stop) → a ≡ word void ∷ b → b ≡ label k ∷ c →
    IsRefused IsBody c e → IsRefused IsFunction a e
function_no_body k a b c e is name h =
    to_function a e
    (refused_behind (moves_then (then_moves (word void) a b is) (part_moves k b c (name_only k b c name))) e
    (part_refused IsBody _ (λ x. done_ends (written k x)) c e h))

pub function_read : (f : WrittenFunction) (a b c rest : List Token) → a ≡ word void ∷ b → b ≡ label f.number ∷ c →
    IsBody f.action c rest → IsFunction f a rest
function_read f a b c rest is name body =
    function_from f a rest
    (record {
      behind = b;
      are = is;
      form = record {
        part = f.number;
        behind = c;
        is = record { are = name };
        form = record { part = f.action; behind = rest; is = body; form = record { same = refl; are = refl } };
      };
    })

-- a driver of which some functions were read, behind the `static` of the next
abbrev next_form : List WrittenFunction → WrittenProgram → List Token → List Token → Type 0
next_form fs = Part IsFunction (λ f. IsProgram (fs ++ f ∷ []))

pub functions_text : (f : WrittenFunction) (fs : List WrittenFunction) (rest : List Token) →
    functions_tokens (f ∷ fs) ++ rest
    ≡ static_word ∷ word void ∷ function f.number ∷ (body_tokens f.action ++ (functions_tokens fs ++ rest))
functions_text f fs rest =
    ap (λ (l : List Token). static_word ∷ word void ∷ function f.number ∷ l)
    (append_assoc (body_tokens f.action) (functions_tokens fs) rest)

-- what stands behind the functions of a driver
abbrev turn_text : WrittenProgram → List Token → List Token
turn_text p rest = word void ∷ word driver_turn ∷ (body_tokens p.main ++ rest)

static_to : (fs : List WrittenFunction) (p : WrittenProgram) (ts rest : List Token) →
    IsProgram fs p (static_word ∷ ts) rest → next_form fs p ts rest
static_to fs p ts rest is = of is.others is.whole is.functions_in_range is.are
  where
    of : (others : List WrittenFunction) → p.functions ≡ fs ++ others → All FunctionInRange others →
        static_word ∷ ts ≡ functions_tokens others ++ turn_text p rest → next_form fs p ts rest
    of [] whole range are = absurd (cc)
    of (f ∷ more) whole range are = record {
      part = f;
      behind = functions_tokens more ++ turn_text p rest;
      is = record {
        in_range = All-head FunctionInRange f more range;
        are = same_tail (are ∙ functions_text f more (turn_text p rest));
      };
      form = record {
        others = more;
        whole = whole ∙ sym (append_assoc fs (f ∷ []) more);
        functions_in_range = All-tail FunctionInRange f more range;
        main_in_range = is.main_in_range;
        are = refl;
      };
    }

static_from : (fs : List WrittenFunction) (p : WrittenProgram) (ts rest : List Token) → next_form fs p ts rest →
    IsProgram fs p (static_word ∷ ts) rest
static_from fs p ts rest g = record {
  others = g.part ∷ g.form.others;
  whole = g.form.whole ∙ append_assoc fs (g.part ∷ []) g.form.others;
  functions_in_range = All-cons FunctionInRange g.part g.form.others g.is.in_range g.form.functions_in_range;
  main_in_range = g.form.main_in_range;
  are = ap (λ (l : List Token). static_word ∷ l)
      (g.is.are
      ∙ ap (λ (l : List Token). word void ∷ function g.part.number ∷ (body_tokens g.part.action ++ l)) g.form.are)
      ∙ sym (functions_text g.part g.form.others (turn_text p rest));
}

pub static_moved : (fs : List WrittenFunction) (a b : List Token) → a ≡ static_word ∷ b →
    Moves (IsProgram fs) (next_form fs) a b
static_moved fs a b is = record {
  front = static_word ∷ [];
  whole = is;
  to = λ p other after first s. static_to fs p other after s;
  from = λ p other after g. static_from fs p other after g;
}

function_only : (f : WrittenFunction) (tokens rest : List Token) → IsFunction f tokens rest →
    IsOnly IsFunction f tokens rest
function_only f tokens rest is = record {
  front = word void ∷ function f.number ∷ body_tokens f.action;
  whole = is.are;
  is = λ other. record { in_range = is.in_range; are = refl };
  only = λ z other after first p. same z other after p.are;
}
  where
    same : (z : WrittenFunction) (other after : List Token) →
        word void ∷ function f.number ∷ (body_tokens f.action ++ other)
        ≡ word void ∷ function z.number ∷ (body_tokens z.action ++ after) → (z ≡ f) × (after ≡ other)
    same z other after e =
        let number : z.number ≡ f.number = cc in
        let tail : body_tokens f.action ++ other ≡ body_tokens z.action ++ after = cc in
        let inner = same_body z.action f.action after other (sym tail) in
        (ap (λ (k : ℕ). written k z.action) number ∙ ap (λ (a : ActionTree). written f.number a) inner.0, inner.1)

-- a function more was read
pub function_moved : (fs : List WrittenFunction) (f : WrittenFunction) (a b c : List Token) → a ≡ static_word ∷ b →
    IsFunction f b c → Moves (IsProgram fs) (IsProgram (fs ++ f ∷ [])) a c
function_moved fs f a b c is function_is =
    moves_then (static_moved fs a b is) (part_moves f b c (function_only f b c function_is))

-- a driver of which functions were read can end
program_ends : (fs : List WrittenFunction) →
    Ends (word void ∷ word driver_turn ∷ open_mark ∷ word void ∷ close_mark ∷ some_block) (IsProgram fs)
program_ends fs = record {
  at = λ behind.
      let turn = turn_ends.at behind in (
        record { functions = fs; main = turn.0 },
        record {
          others = [];
          whole = sym (append-nil fs);
          functions_in_range = All-nil FunctionInRange;
          main_in_range = turn.1.in_range;
          are = turn.1.are;
        },
      );
}

pub function_refused : (fs : List WrittenFunction) (a b : List Token) (e : Stop) → a ≡ static_word ∷ b →
    IsRefused IsFunction b e → IsRefused (IsProgram fs) a e
function_refused fs a b e is h =
    refused_behind (static_moved fs a b is) e (part_refused IsFunction _ (λ f. program_ends (fs ++ f ∷ [])) b e h)

-- where no function follows, `driver_turn` does
turn_of : (fs : List WrittenFunction) (p : WrittenProgram) (ts rest : List Token) → first_of ts ≢ Some static_word →
    IsProgram fs p ts rest → IsTurn p.main ts rest
turn_of fs p ts rest none is = of is.others is.are
  where
    of : (others : List WrittenFunction) → ts ≡ functions_tokens others ++ turn_text p rest → IsTurn p.main ts rest
    of [] are = record { in_range = is.main_in_range; are = are }
    of (f ∷ more) are = absurd (none (ap first_of are))

pub turn_refused : (fs : List WrittenFunction) (a : List Token) (e : Stop) → first_of a ≢ Some static_word →
    IsRefused IsTurn a e → IsRefused (IsProgram fs) a e
turn_refused fs a (Unexpected here) none h = record {
  front = h.front;
  whole = h.whole;
  more = h.more;
  completes = λ behind.
      let turn = h.completes behind in (
        record { functions = fs; main = turn.0 },
        record {
          others = [];
          whole = sym (append-nil fs);
          functions_in_range = All-nil FunctionInRange;
          main_in_range = turn.1.in_range;
          are = turn.1.are;
        },
      );
  stuck = λ p other rest first is.
      h.stuck p.main other rest first
      (turn_of fs p (h.front ++ other) rest
      (λ static. none (ap first_of h.whole ∙ sym (same_behind h.front other _ first) ∙ static)) is);
}
turn_refused fs a Memory none h = tt

-- the driver was read
pub program_read : (fs : List WrittenFunction) (p : WrittenProgram) (a b rest : List Token) → AreFunctions fs a b →
    IsTurn p.main b rest → p.functions ≡ fs → IsProgram [] p a rest
program_read fs p a b rest read turn same =
    subst (λ (l : List Token). IsProgram [] p l rest) (sym read.moves.whole)
    (read.moves.from p b rest
    (record {
      others = [];
      whole = same ∙ sym (append-nil fs);
      functions_in_range = All-nil FunctionInRange;
      main_in_range = turn.in_range;
      are = turn.are;
    }))
