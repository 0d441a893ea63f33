-- Actions between braces, calls, leaves and the end of a turn, as forms.
use Rattle.std.proofs.Common.{◌≡◌, ℕ, List, [], ◌∷◌, ◌++◌, refl, sym, ap, ◌∙◌, subst}
use Rattle.tm_cir.specs.Tree.{NumTree}
use Rattle.tm_cir.specs.Text.Token.{Token, word, label, task, constant, return_word, termite_leave}
use Rattle.tm_cir.specs.Text.Grammar.{argument_tokens}
use Rattle.tm_cparse.specs.declared.spot.Spot.{Spot}
use Rattle.tm_cparse.specs.declared.spot.Stop.{Stop}
use Rattle.tm_cparse.specs.View.{tokens_of}
use Rattle.tm_cparse.specs.Inner.Reading.{IsRefused, Moves, IsMissing, IsNoConstant}
use Rattle.tm_cparse.specs.Inner.Statements.{AreArguments}
use Rattle.tm_cparse.proofs.Moves.{moves_then}
use Rattle.tm_struct.specs.Tree.{ActionTree, choose, call, leave, go, idle}
use Rattle.tm_struct.specs.Text.Grammar.{action_tokens}
use Rattle.tm_struct.proofs.Grammar.{call_is}
use Rattle.tm_struct_parse.specs.Inner.Forms.{IsAction, IsBlock}
use Rattle.tm_struct_parse.proofs.Forms.{Then, Part, Done, Ends, done_ends, then_ends, part_ends, then_moves}
use Rattle.tm_struct_parse.proofs.Forms.{then_refused, part_moves, part_refused, refused_behind, refused_as}
use Rattle.tm_struct_parse.proofs.Actions.{open_mark, close_mark, begin_mark, end_mark, stop_mark, same_tail}
use Rattle.tm_struct_parse.proofs.Actions.{action_ends, arguments_end, block_text, action_only, arguments_only}
use Rattle.tm_struct_parse.proofs.Actions.{constant_ends, constant_only, constant_refused, IsConstant}

-- an action between braces
abbrev block_form : ℕ → ActionTree → List Token → List Token → Type 0
block_form o = Then begin_mark (Part (IsAction o []) (λ a. Then end_mark (Done a)))

block_to : (o : ℕ) (a : ActionTree) (tokens rest : List Token) → IsBlock o a tokens rest → block_form o a tokens rest
block_to o a tokens rest is = record {
  behind = action_tokens a ++ (end_mark ∷ rest);
  are = is.are ∙ block_text a rest;
  form = record {
    part = a;
    behind = end_mark ∷ rest;
    is = record { in_range = is.in_range; are = refl };
    form = record { behind = rest; are = refl; form = record { same = refl; are = refl } };
  };
}

block_from : (o : ℕ) (a : ActionTree) (tokens rest : List Token) → block_form o a tokens rest → IsBlock o a tokens rest
block_from o a tokens rest f =
    let inner = f.form in
    subst (λ (x : ActionTree). IsBlock o x tokens rest) (sym inner.form.form.same)
    (record {
      in_range = inner.is.in_range;
      are = f.are
          ∙ ap (λ (l : List Token). begin_mark ∷ l)
          (inner.is.are
          ∙ ap (λ (l : List Token). action_tokens inner.part ++ l)
          (inner.form.are ∙ ap (λ (l : List Token). end_mark ∷ l) inner.form.form.are))
          ∙ sym (block_text inner.part rest);
    })

module _ (o : ℕ) where
  to_block : (tokens : List Token) (e : Stop) → IsRefused (block_form o) tokens e → IsRefused (IsBlock o) tokens e
  to_block tokens e h = refused_as tokens (λ x b c f. block_from o x b c f) (λ x b c is. block_to o x b c is) e h

  end_ends : (a : ActionTree) → Ends (end_mark ∷ []) (Then end_mark (Done a))
  end_ends a = then_ends end_mark [] (done_ends a)

  pub block_no_begin : (spots : List Spot) (e : Stop) → IsMissing begin_mark spots e →
      IsRefused (IsBlock o) (tokens_of spots) e
  block_no_begin spots e missing =
      to_block (tokens_of spots) e
      (then_refused begin_mark _ (part_ends _ _ (action_ends o) end_ends) spots e missing)

  pub block_no_action : (a b : List Token) (e : Stop) → a ≡ begin_mark ∷ b → IsRefused (IsAction o []) b e →
      IsRefused (IsBlock o) a e
  block_no_action a b e begins h =
      to_block a e (refused_behind (then_moves begin_mark a b begins) e (part_refused (IsAction o []) _ end_ends b e h))

  pub block_no_end : (x : ActionTree) (a b : List Token) (spots : List Spot) (e : Stop) → a ≡ begin_mark ∷ b →
      IsAction o [] x b (tokens_of spots) → IsMissing end_mark spots e → IsRefused (IsBlock o) a e
  block_no_end x a b spots e begins action missing =
      to_block a e
      (refused_behind
      (moves_then (then_moves begin_mark a b begins)
      (part_moves x b (tokens_of spots) (action_only o x b (tokens_of spots) action))) e
      (then_refused end_mark _ (done_ends x) spots e missing))

  pub block_read : (x : ActionTree) (a b c rest : List Token) → a ≡ begin_mark ∷ b → IsAction o [] x b c →
      c ≡ end_mark ∷ rest → IsBlock o x a rest
  block_read x a b c rest begins action ends =
      block_from o x a rest
      (record {
        behind = b;
        are = begins;
        form = record {
          part = x;
          behind = c;
          is = action;
          form = record { behind = rest; are = ends; form = record { same = refl; are = refl } };
        };
      })

-- a call of a task behind its name
abbrev call_form : ℕ → ActionTree → List Token → List Token → Type 0
call_form k = Then open_mark (Part AreArguments (λ args. Then stop_mark (Done (call k args))))

call_to : (o k : ℕ) (x : ActionTree) (tokens rest : List Token) → IsAction o (task k ∷ []) x tokens rest →
    call_form k x tokens rest
call_to o k (call n args) tokens rest is =
    let whole : task k ∷ tokens
    ≡ task n ∷ open_mark ∷ (argument_tokens args ++ close_mark ∷ stop_mark ∷ rest) = is.are ∙ call_is n args rest in
    let number : k ≡ n = cc in
    record {
      behind = argument_tokens args ++ close_mark ∷ stop_mark ∷ rest;
      are = same_tail whole;
      form = record {
        part = args;
        behind = stop_mark ∷ rest;
        is = record { in_range = is.in_range; are = refl };
        form = record {
          behind = rest;
          are = refl;
          form = record { same = ap (λ (m : ℕ). call m args) (sym number); are = refl };
        };
      };
    }
call_to o k (choose t a b) tokens rest is = absurd (cc (is.are))
call_to o k (leave p) tokens rest is = absurd (cc (is.are))
call_to o k (go n) tokens rest is = absurd (cc (is.are))
call_to o k idle tokens rest is = absurd (cc (is.are))

call_from : (o k : ℕ) (x : ActionTree) (tokens rest : List Token) → call_form k x tokens rest →
    IsAction o (task k ∷ []) x tokens rest
call_from o k x tokens rest f =
    let inner = f.form in
    subst (λ (y : ActionTree). IsAction o (task k ∷ []) y tokens rest) (sym inner.form.form.same)
    (record {
      in_range = inner.is.in_range;
      are = ap (λ (l : List Token). task k ∷ l)
          (f.are
          ∙ ap (λ (l : List Token). open_mark ∷ l)
          (inner.is.are
          ∙ ap (λ (l : List Token). argument_tokens inner.part ++ close_mark ∷ l)
          (inner.form.are ∙ ap (λ (l : List Token). stop_mark ∷ l) inner.form.form.are)))
          ∙ sym (call_is k inner.part rest);
    })

module _ (o k : ℕ) where
  to_call : (tokens : List Token) (e : Stop) → IsRefused (call_form k) tokens e →
      IsRefused (IsAction o (task k ∷ [])) tokens e
  to_call tokens e h = refused_as tokens (λ x b c f. call_from o k x b c f) (λ x b c is. call_to o k x b c is) e h

  stop_ends : (args : List NumTree) → Ends (stop_mark ∷ []) (Then stop_mark (Done (call k args)))
  stop_ends args = then_ends stop_mark [] (done_ends (call k args))

  pub call_no_open : (spots : List Spot) (e : Stop) → IsMissing open_mark spots e →
      IsRefused (IsAction o (task k ∷ [])) (tokens_of spots) e
  call_no_open spots e missing =
      to_call (tokens_of spots) e
      (then_refused open_mark _ (part_ends _ _ arguments_end stop_ends) spots e missing)

  pub call_no_arguments : (a b : List Token) (e : Stop) → a ≡ open_mark ∷ b → IsRefused AreArguments b e →
      IsRefused (IsAction o (task k ∷ [])) a e
  call_no_arguments a b e opens h =
      to_call a e (refused_behind (then_moves open_mark a b opens) e (part_refused AreArguments _ stop_ends b e h))

  pub call_no_stop : (args : List NumTree) (a b : List Token) (spots : List Spot) (e : Stop) → a ≡ open_mark ∷ b →
      AreArguments args b (tokens_of spots) → IsMissing stop_mark spots e → IsRefused (IsAction o (task k ∷ [])) a e
  call_no_stop args a b spots e opens are missing =
      to_call a e
      (refused_behind
      (moves_then (then_moves open_mark a b opens)
      (part_moves args b (tokens_of spots) (arguments_only args b (tokens_of spots) are))) e
      (then_refused stop_mark _ (done_ends (call k args)) spots e missing))

  pub call_read : (args : List NumTree) (x : ActionTree) (a b c rest : List Token) → a ≡ open_mark ∷ b →
      AreArguments args b c → c ≡ stop_mark ∷ rest → x ≡ call k args → IsAction o (task k ∷ []) x a rest
  call_read args x a b c rest opens are stops same =
      call_from o k x a rest
      (record {
        behind = b;
        are = opens;
        form = record {
          part = args;
          behind = c;
          is = are;
          form = record { behind = rest; are = stops; form = record { same = same; are = refl } };
        };
      })

-- a leave behind its word
abbrev leave_form : ActionTree → List Token → List Token → Type 0
leave_form = Then open_mark (Part IsConstant (λ p. Then close_mark (Then stop_mark (Done (leave p)))))

leave_to : (o : ℕ) (x : ActionTree) (tokens rest : List Token) → IsAction o (word termite_leave ∷ []) x tokens rest →
    leave_form x tokens rest
leave_to o (leave p) tokens rest is = record {
  behind = constant p ∷ close_mark ∷ stop_mark ∷ rest;
  are = same_tail is.are;
  form = record {
    part = p;
    behind = close_mark ∷ stop_mark ∷ rest;
    is = record { are = refl };
    form = record {
      behind = stop_mark ∷ rest;
      are = refl;
      form = record { behind = rest; are = refl; form = record { same = refl; are = refl } };
    };
  };
}
leave_to o (choose t a b) tokens rest is = absurd (cc (is.are))
leave_to o (call k args) tokens rest is = absurd (cc (is.are))
leave_to o (go k) tokens rest is = absurd (cc (is.are))
leave_to o idle tokens rest is = absurd (cc (is.are))

leave_from : (o : ℕ) (x : ActionTree) (tokens rest : List Token) → leave_form x tokens rest →
    IsAction o (word termite_leave ∷ []) x tokens rest
leave_from o x tokens rest f =
    let inner = f.form in
    let closed = inner.form in
    subst (λ (y : ActionTree). IsAction o (word termite_leave ∷ []) y tokens rest) (sym closed.form.form.same)
    (record {
      in_range = tt;
      are = ap (λ (l : List Token). word termite_leave ∷ l)
          (f.are
          ∙ ap (λ (l : List Token). open_mark ∷ l)
          (inner.is.are
          ∙ ap (λ (l : List Token). constant inner.part ∷ l)
          (closed.are
          ∙ ap (λ (l : List Token). close_mark ∷ l)
          (closed.form.are ∙ ap (λ (l : List Token). stop_mark ∷ l) closed.form.form.are))));
    })

module _ (o : ℕ) where
  to_leave : (tokens : List Token) (e : Stop) → IsRefused leave_form tokens e →
      IsRefused (IsAction o (word termite_leave ∷ [])) tokens e
  to_leave tokens e h = refused_as tokens (λ x b c f. leave_from o x b c f) (λ x b c is. leave_to o x b c is) e h

  stop_leave : (p : ℕ) → Ends (stop_mark ∷ []) (Then stop_mark (Done (leave p)))
  stop_leave p = then_ends stop_mark [] (done_ends (leave p))

  close_leave : (p : ℕ) → Ends (close_mark ∷ stop_mark ∷ []) (Then close_mark (Then stop_mark (Done (leave p))))
  close_leave p = then_ends close_mark _ (stop_leave p)

  pub leave_no_open : (spots : List Spot) (e : Stop) → IsMissing open_mark spots e →
      IsRefused (IsAction o (word termite_leave ∷ [])) (tokens_of spots) e
  leave_no_open spots e missing =
      to_leave (tokens_of spots) e
      (then_refused open_mark _ (part_ends _ _ constant_ends close_leave) spots e missing)

  pub leave_no_process : (a : List Token) (spots : List Spot) (e : Stop) → a ≡ open_mark ∷ tokens_of spots →
      IsNoConstant spots e → IsRefused (IsAction o (word termite_leave ∷ [])) a e
  leave_no_process a spots e opens missing =
      to_leave a e
      (refused_behind (then_moves open_mark a (tokens_of spots) opens) e
      (part_refused IsConstant _ close_leave (tokens_of spots) e (constant_refused spots e missing)))

  to_process : (p : ℕ) (a b c : List Token) → a ≡ open_mark ∷ b → b ≡ constant p ∷ c →
      Moves leave_form (Then close_mark (Then stop_mark (Done (leave p)))) a c
  to_process p a b c opens is =
      moves_then (then_moves open_mark a b opens) (part_moves p b c (constant_only p b c is))

  pub leave_no_close : (p : ℕ) (a b : List Token) (spots : List Spot) (e : Stop) → a ≡ open_mark ∷ b →
      b ≡ constant p ∷ tokens_of spots → IsMissing close_mark spots e →
      IsRefused (IsAction o (word termite_leave ∷ [])) a e
  leave_no_close p a b spots e opens is missing =
      to_leave a e
      (refused_behind (to_process p a b (tokens_of spots) opens is) e
      (then_refused close_mark _ (stop_leave p) spots e missing))

  pub leave_no_stop : (p : ℕ) (a b c : List Token) (spots : List Spot) (e : Stop) → a ≡ open_mark ∷ b →
      b ≡ constant p ∷ c → c ≡ close_mark ∷ tokens_of spots → IsMissing stop_mark spots e →
      IsRefused (IsAction o (word termite_leave ∷ [])) a e
  leave_no_stop p a b c spots e opens is closes missing =
      to_leave a e
      (refused_behind (moves_then (to_process p a b c opens is) (then_moves close_mark c (tokens_of spots) closes)) e
      (then_refused stop_mark _ (done_ends (leave p)) spots e missing))

  pub leave_read : (p : ℕ) (x : ActionTree) (a b c f rest : List Token) → a ≡ open_mark ∷ b → b ≡ constant p ∷ c →
      c ≡ close_mark ∷ f → f ≡ stop_mark ∷ rest → x ≡ leave p → IsAction o (word termite_leave ∷ []) x a rest
  leave_read p x a b c f rest opens is closes stops same =
      leave_from o x a rest
      (record {
        behind = b;
        are = opens;
        form = record {
          part = p;
          behind = c;
          is = record { are = is };
          form = record {
            behind = f;
            are = closes;
            form = record { behind = rest; are = stops; form = record { same = same; are = refl } };
          };
        };
      })

-- a call of a function behind its name
abbrev go_form : ℕ → ActionTree → List Token → List Token → Type 0
go_form k = Then open_mark (Then close_mark (Then stop_mark (Done (go k))))

go_to : (o k : ℕ) (x : ActionTree) (tokens rest : List Token) → IsAction o (label k ∷ []) x tokens rest →
    go_form k x tokens rest
go_to o k (go n) tokens rest is =
    let whole : label k ∷ tokens ≡ label n ∷ open_mark ∷ close_mark ∷ stop_mark ∷ rest = is.are in
    let number : k ≡ n = cc in
    record {
      behind = close_mark ∷ stop_mark ∷ rest;
      are = same_tail whole;
      form = record {
        behind = stop_mark ∷ rest;
        are = refl;
        form = record { behind = rest; are = refl; form = record { same = ap go (sym number); are = refl } };
      };
    }
go_to o k (choose t a b) tokens rest is = absurd (cc (is.are))
go_to o k (call n args) tokens rest is = absurd (cc (is.are))
go_to o k (leave p) tokens rest is = absurd (cc (is.are))
go_to o k idle tokens rest is = absurd (cc (is.are))

go_from : (o k : ℕ) (x : ActionTree) (tokens rest : List Token) → go_form k x tokens rest →
    IsAction o (label k ∷ []) x tokens rest
go_from o k x tokens rest f =
    subst (λ (y : ActionTree). IsAction o (label k ∷ []) y tokens rest) (sym f.form.form.form.same)
    (record {
      in_range = tt;
      are = ap (λ (l : List Token). label k ∷ l)
          (f.are
          ∙ ap (λ (l : List Token). open_mark ∷ l)
          (f.form.are
          ∙ ap (λ (l : List Token). close_mark ∷ l)
          (f.form.form.are ∙ ap (λ (l : List Token). stop_mark ∷ l) f.form.form.form.are)));
    })

module _ (o k : ℕ) where
  to_go : (tokens : List Token) (e : Stop) → IsRefused (go_form k) tokens e →
      IsRefused (IsAction o (label k ∷ [])) tokens e
  to_go tokens e h = refused_as tokens (λ x b c f. go_from o k x b c f) (λ x b c is. go_to o k x b c is) e h

  stop_go : Ends (stop_mark ∷ []) (Then stop_mark (Done (go k)))
  stop_go = then_ends stop_mark [] (done_ends (go k))

  close_go : Ends (close_mark ∷ stop_mark ∷ []) (Then close_mark (Then stop_mark (Done (go k))))
  close_go = then_ends close_mark _ stop_go

  pub go_no_open : (spots : List Spot) (e : Stop) → IsMissing open_mark spots e →
      IsRefused (IsAction o (label k ∷ [])) (tokens_of spots) e
  go_no_open spots e missing = to_go (tokens_of spots) e (then_refused open_mark _ close_go spots e missing)

  pub go_no_close : (a : List Token) (spots : List Spot) (e : Stop) → a ≡ open_mark ∷ tokens_of spots →
      IsMissing close_mark spots e → IsRefused (IsAction o (label k ∷ [])) a e
  go_no_close a spots e opens missing =
      to_go a e
      (refused_behind (then_moves open_mark a (tokens_of spots) opens) e
      (then_refused close_mark _ stop_go spots e missing))

  pub go_no_stop : (a b : List Token) (spots : List Spot) (e : Stop) → a ≡ open_mark ∷ b →
      b ≡ close_mark ∷ tokens_of spots → IsMissing stop_mark spots e → IsRefused (IsAction o (label k ∷ [])) a e
  go_no_stop a b spots e opens closes missing =
      to_go a e
      (refused_behind
      (moves_then (then_moves open_mark a b opens) (then_moves close_mark b (tokens_of spots) closes)) e
      (then_refused stop_mark _ (done_ends (go k)) spots e missing))

  pub go_read : (x : ActionTree) (a b c rest : List Token) → a ≡ open_mark ∷ b → b ≡ close_mark ∷ c →
      c ≡ stop_mark ∷ rest → x ≡ go k → IsAction o (label k ∷ []) x a rest
  go_read x a b c rest opens closes stops same =
      go_from o k x a rest
      (record {
        behind = b;
        are = opens;
        form = record {
          behind = c;
          are = closes;
          form = record { behind = rest; are = stops; form = record { same = same; are = refl } };
        };
      })

-- the end of a turn
idle_to : (o : ℕ) (x : ActionTree) (tokens rest : List Token) → IsAction o (word return_word ∷ []) x tokens rest →
    Then stop_mark (Done idle) x tokens rest
idle_to o idle tokens rest is =
    record { behind = rest; are = same_tail is.are; form = record { same = refl; are = refl } }
idle_to o (choose t a b) tokens rest is = absurd (cc (is.are))
idle_to o (call k args) tokens rest is = absurd (cc (is.are))
idle_to o (leave p) tokens rest is = absurd (cc (is.are))
idle_to o (go k) tokens rest is = absurd (cc (is.are))

idle_from : (o : ℕ) (x : ActionTree) (tokens rest : List Token) → Then stop_mark (Done idle) x tokens rest →
    IsAction o (word return_word ∷ []) x tokens rest
idle_from o x tokens rest f =
    subst (λ (y : ActionTree). IsAction o (word return_word ∷ []) y tokens rest) (sym f.form.same)
    (record {
      in_range = tt;
      are = ap (λ (l : List Token). word return_word ∷ l)
          (f.are ∙ ap (λ (l : List Token). stop_mark ∷ l) f.form.are);
    })

pub idle_no_stop : (o : ℕ) (spots : List Spot) (e : Stop) → IsMissing stop_mark spots e →
    IsRefused (IsAction o (word return_word ∷ [])) (tokens_of spots) e
idle_no_stop o spots e missing =
    refused_as (tokens_of spots) (λ x b c f. idle_from o x b c f) (λ x b c is. idle_to o x b c is) e
    (then_refused stop_mark _ (done_ends idle) spots e missing)

pub idle_read : (o : ℕ) (x : ActionTree) (a rest : List Token) → a ≡ stop_mark ∷ rest → x ≡ idle →
    IsAction o (word return_word ∷ []) x a rest
idle_read o x a rest stops same =
    idle_from o x a rest (record { behind = rest; are = stops; form = record { same = same; are = refl } })
