-- Tests: a condition and two branches, as forms.
use Rattle.std.proofs.Common.{◌≡◌, ℕ, ◌+◌, ◌<◌, List, [], ◌∷◌, ◌++◌, refl, sym, ap, ◌∙◌, subst, append_assoc}
use Rattle.tm_cir.specs.Tree.{TruthTree}
use Rattle.tm_cir.specs.Text.Token.{Token, word, if_word, else_word}
use Rattle.tm_cir.specs.Text.Grammar.{truth_tokens}
use Rattle.tm_cir.proofs.Text.Expressions.{same_truth}
use Rattle.tm_cparse.specs.declared.part.Sort.TheVariants.{Truth}
use Rattle.tm_cparse.specs.declared.spot.Spot.{Spot}
use Rattle.tm_cparse.specs.declared.spot.Stop.{Stop}
use Rattle.tm_cparse.specs.View.{tokens_of}
use Rattle.tm_cparse.specs.Inner.Reading.{IsRefused, IsMissing}
use Rattle.tm_cparse.specs.Inner.Parts.{IsExpression}
use Rattle.tm_cparse.proofs.Moves.{moves_then}
use Rattle.tm_struct.specs.Tree.{ActionTree, choose, call, leave, go, idle}
use Rattle.tm_struct.specs.Fit.{most_ifs}
use Rattle.tm_struct.specs.Text.Grammar.{braced, action_tokens}
use Rattle.tm_struct_parse.specs.Inner.Forms.{IsAction, IsCondition, AreBranches, IsBlock}
use Rattle.tm_struct_parse.proofs.Actions.{open_mark, close_mark, some_block, same_tail, truth_ends, truth_only}
use Rattle.tm_struct_parse.proofs.Actions.{block_ends, block_only, choose_text}
use Rattle.tm_struct_parse.proofs.Forms.{Then, Part, Done, Ends, done_ends, then_ends, part_ends, then_moves}
use Rattle.tm_struct_parse.proofs.Forms.{then_refused, IsOnly, part_moves, part_refused, refused_behind, refused_as}

-- a condition
abbrev condition_form : TruthTree → List Token → List Token → Type 0
condition_form = Then open_mark (Part (IsExpression Truth) (λ t. Then close_mark (Done t)))

condition_to : (t : TruthTree) (tokens rest : List Token) → IsCondition t tokens rest → condition_form t tokens rest
condition_to t tokens rest is = record {
  behind = truth_tokens t ++ (close_mark ∷ rest);
  are = is.are;
  form = record {
    part = t;
    behind = close_mark ∷ rest;
    is = record { fits = (tt, is.in_range); are = refl };
    form = record { behind = rest; are = refl; form = record { same = refl; are = refl } };
  };
}

condition_from : (t : TruthTree) (tokens rest : List Token) → condition_form t tokens rest → IsCondition t tokens rest
condition_from t tokens rest f =
    let inner = f.form in
    subst (λ (u : TruthTree). IsCondition u tokens rest) (sym inner.form.form.same)
    (record {
      in_range = inner.is.fits.1;
      are = f.are
          ∙ ap (λ (l : List Token). open_mark ∷ l)
          (inner.is.are
          ∙ ap (λ (l : List Token). truth_tokens inner.part ++ l)
          (inner.form.are ∙ ap (λ (l : List Token). close_mark ∷ l) inner.form.form.are));
    })

to_condition : (tokens : List Token) (e : Stop) → IsRefused condition_form tokens e → IsRefused IsCondition tokens e
to_condition tokens e h =
    refused_as tokens (λ x b c f. condition_from x b c f) (λ x b c is. condition_to x b c is) e h

close_ends : (t : TruthTree) → Ends (close_mark ∷ []) (Then close_mark (Done t))
close_ends t = then_ends close_mark [] (done_ends t)

pub condition_no_open : (spots : List Spot) (e : Stop) → IsMissing open_mark spots e →
    IsRefused IsCondition (tokens_of spots) e
condition_no_open spots e missing =
    to_condition (tokens_of spots) e (then_refused open_mark _ (part_ends _ _ truth_ends close_ends) spots e missing)

pub condition_no_truth : (a b : List Token) (e : Stop) → a ≡ open_mark ∷ b → IsRefused (IsExpression Truth) b e →
    IsRefused IsCondition a e
condition_no_truth a b e opens h =
    to_condition a e
    (refused_behind (then_moves open_mark a b opens) e (part_refused (IsExpression Truth) _ close_ends b e h))

pub condition_no_close : (t : TruthTree) (a b : List Token) (spots : List Spot) (e : Stop) → a ≡ open_mark ∷ b →
    IsExpression Truth t b (tokens_of spots) → IsMissing close_mark spots e → IsRefused IsCondition a e
condition_no_close t a b spots e opens truth missing =
    to_condition a e
    (refused_behind
    (moves_then (then_moves open_mark a b opens)
    (part_moves t b (tokens_of spots) (truth_only t b (tokens_of spots) truth))) e
    (then_refused close_mark _ (done_ends t) spots e missing))

pub condition_read : (t : TruthTree) (a b c rest : List Token) → a ≡ open_mark ∷ b → IsExpression Truth t b c →
    c ≡ close_mark ∷ rest → IsCondition t a rest
condition_read t a b c rest opens truth closes =
    condition_from t a rest
    (record {
      behind = b;
      are = opens;
      form = record {
        part = t;
        behind = c;
        is = truth;
        form = record { behind = rest; are = closes; form = record { same = refl; are = refl } };
      };
    })

condition_text : (t : TruthTree) (rest : List Token) →
    (open_mark ∷ (truth_tokens t ++ close_mark ∷ [])) ++ rest ≡ open_mark ∷ (truth_tokens t ++ (close_mark ∷ rest))
condition_text t rest =
    ap (λ (l : List Token). open_mark ∷ l) (append_assoc (truth_tokens t) (close_mark ∷ []) rest)

condition_only : (t : TruthTree) (tokens rest : List Token) → IsCondition t tokens rest →
    IsOnly IsCondition t tokens rest
condition_only t tokens rest is = record {
  front = open_mark ∷ (truth_tokens t ++ close_mark ∷ []);
  whole = is.are ∙ sym (condition_text t rest);
  is = λ other. record { in_range = is.in_range; are = condition_text t other };
  only = λ z other after first p.
      let same = same_truth z t (close_mark ∷ after) (close_mark ∷ other)
      (same_tail (sym p.are ∙ condition_text t other)) in (same.0, same_tail same.1);
}

-- both branches
abbrev Pair : Type 0
Pair = ActionTree × ActionTree

abbrev behind_first : ℕ → ActionTree → Pair → List Token → List Token → Type 0
behind_first o a = Then (word else_word) (Part (IsBlock o) (λ b. Done (a, b)))

abbrev branches_form : ℕ → Pair → List Token → List Token → Type 0
branches_form o = Part (IsBlock o) (behind_first o)

branches_to : (o : ℕ) (x : Pair) (tokens rest : List Token) → AreBranches o x tokens rest →
    branches_form o x tokens rest
branches_to o x tokens rest is = record {
  part = x.0;
  behind = word else_word ∷ (braced (action_tokens x.1) ++ rest);
  is = record { in_range = is.first_in_range; are = is.are };
  form = record {
    behind = braced (action_tokens x.1) ++ rest;
    are = refl;
    form = record {
      part = x.1;
      behind = rest;
      is = record { in_range = is.second_in_range; are = refl };
      form = record { same = refl; are = refl };
    };
  };
}

branches_from : (o : ℕ) (x : Pair) (tokens rest : List Token) → branches_form o x tokens rest →
    AreBranches o x tokens rest
branches_from o x tokens rest f =
    let two = f.form.form in
    subst (λ (y : Pair). AreBranches o y tokens rest) (sym two.form.same)
    (record {
      first_in_range = f.is.in_range;
      second_in_range = two.is.in_range;
      are = f.is.are
          ∙ ap (λ (l : List Token). braced (action_tokens f.part) ++ l)
          (f.form.are
          ∙ ap (λ (l : List Token). word else_word ∷ l)
          (two.is.are ∙ ap (λ (l : List Token). braced (action_tokens two.part) ++ l) two.form.are));
    })

second_ends : (o : ℕ) (a : ActionTree) → Ends {X = Pair} (some_block ++ []) (Part (IsBlock o) (λ b. Done (a, b)))
second_ends o a = part_ends some_block [] (block_ends o) (λ b. done_ends {X = Pair} (a, b))

else_ends : (o : ℕ) (a : ActionTree) → Ends (word else_word ∷ (some_block ++ [])) (behind_first o a)
else_ends o a = then_ends (word else_word) (some_block ++ []) (second_ends o a)

branches_end : (o : ℕ) → Ends (some_block ++ word else_word ∷ (some_block ++ [])) (AreBranches o)
branches_end o = record {
  at = λ behind.
      let all = (part_ends some_block (word else_word ∷ (some_block ++ [])) (block_ends o) (else_ends o)).at behind in
      (all.0, branches_from o all.0 _ _ all.1);
}

module _ (o : ℕ) where
  to_branches : (tokens : List Token) (e : Stop) → IsRefused (branches_form o) tokens e →
      IsRefused (AreBranches o) tokens e
  to_branches tokens e h =
      refused_as tokens (λ x b c f. branches_from o x b c f) (λ x b c is. branches_to o x b c is) e h

  pub branches_no_first : (a : List Token) (e : Stop) → IsRefused (IsBlock o) a e → IsRefused (AreBranches o) a e
  branches_no_first a e h = to_branches a e (part_refused (IsBlock o) _ (else_ends o) a e h)

  pub branches_no_else : (x : ActionTree) (a : List Token) (spots : List Spot) (e : Stop) →
      IsBlock o x a (tokens_of spots) → IsMissing (word else_word) spots e → IsRefused (AreBranches o) a e
  branches_no_else x a spots e first missing =
      to_branches a e
      (refused_behind (part_moves x a (tokens_of spots) (block_only o x a (tokens_of spots) first)) e
      (then_refused (word else_word) _ (second_ends o x) spots e missing))

  pub branches_no_second : (x : ActionTree) (a b c : List Token) (e : Stop) → IsBlock o x a b →
      b ≡ word else_word ∷ c → IsRefused (IsBlock o) c e → IsRefused (AreBranches o) a e
  branches_no_second x a b c e first word_is h =
      to_branches a e
      (refused_behind
      (moves_then (part_moves x a b (block_only o x a b first)) (then_moves (word else_word) b c word_is)) e
      (part_refused (IsBlock o) _ (λ y. done_ends {X = Pair} (x, y)) c e h))

  pub branches_read : (x y : ActionTree) (a b c rest : List Token) → IsBlock o x a b → b ≡ word else_word ∷ c →
      IsBlock o y c rest → AreBranches o (x, y) a rest
  branches_read x y a b c rest first word_is second =
      branches_from o (x, y) a rest
      (record {
        part = x;
        behind = b;
        is = first;
        form = record {
          behind = c;
          are = word_is;
          form = record { part = y; behind = rest; is = second; form = record { same = refl; are = refl } };
        };
      })

-- a test behind its `if`
abbrev chosen : ℕ → TruthTree → ActionTree → List Token → List Token → Type 0
chosen o t = Part (AreBranches (o + 1)) (λ (p : Pair). Done (choose t p.0 p.1))

abbrev test_form : ℕ → ActionTree → List Token → List Token → Type 0
test_form o = Part IsCondition (chosen o)

test_to : (o : ℕ) (x : ActionTree) (tokens rest : List Token) → IsAction o (word if_word ∷ []) x tokens rest →
    test_form o x tokens rest
test_to o (choose t a b) tokens rest is = record {
  part = t;
  behind = braced (action_tokens a) ++ (word else_word ∷ (braced (action_tokens b) ++ rest));
  is = record { in_range = is.in_range.1; are = same_tail (is.are ∙ choose_text t a b rest) };
  form = record {
    part = (a, b);
    behind = rest;
    is = record { first_in_range = is.in_range.2; second_in_range = is.in_range.3; are = refl };
    form = record { same = refl; are = refl };
  };
}
test_to o (call k args) tokens rest is = absurd (cc (is.are))
test_to o (leave p) tokens rest is = absurd (cc (is.are))
test_to o (go k) tokens rest is = absurd (cc (is.are))
test_to o idle tokens rest is = absurd (cc (is.are))

test_from : (o : ℕ) → o < most_ifs → (x : ActionTree) (tokens rest : List Token) → test_form o x tokens rest →
    IsAction o (word if_word ∷ []) x tokens rest
test_from o low x tokens rest f =
    let two = f.form in
    subst (λ (y : ActionTree). IsAction o (word if_word ∷ []) y tokens rest) (sym two.form.same)
    (record {
      in_range = (low, f.is.in_range, two.is.first_in_range, two.is.second_in_range);
      are = ap (λ (l : List Token). word if_word ∷ l)
          (f.is.are
          ∙ ap (λ (l : List Token). open_mark ∷ (truth_tokens f.part ++ (close_mark ∷ l)))
          (two.is.are
          ∙ ap
          (λ (l : List Token).
          braced (action_tokens two.part.0) ++ (word else_word ∷ (braced (action_tokens two.part.1) ++ l)))
          two.form.are))
          ∙ sym (choose_text f.part two.part.0 two.part.1 rest);
    })

chosen_ends : (o : ℕ) (t : TruthTree) → Ends ((some_block ++ word else_word ∷ (some_block ++ [])) ++ []) (chosen o t)
chosen_ends o t =
    part_ends (some_block ++ word else_word ∷ (some_block ++ [])) [] (branches_end (o + 1))
    (λ (p : Pair). done_ends (choose t p.0 p.1))

module _ (o : ℕ) (low : o < most_ifs) where
  to_test : (tokens : List Token) (e : Stop) → IsRefused (test_form o) tokens e →
      IsRefused (IsAction o (word if_word ∷ [])) tokens e
  to_test tokens e h = refused_as tokens (λ x b c f. test_from o low x b c f) (λ x b c is. test_to o x b c is) e h

  pub test_no_condition : (a : List Token) (e : Stop) → IsRefused IsCondition a e →
      IsRefused (IsAction o (word if_word ∷ [])) a e
  test_no_condition a e h = to_test a e (part_refused IsCondition _ (chosen_ends o) a e h)

  pub test_no_branches : (t : TruthTree) (a b : List Token) (e : Stop) → IsCondition t a b →
      IsRefused (AreBranches (o + 1)) b e → IsRefused (IsAction o (word if_word ∷ [])) a e
  test_no_branches t a b e condition h =
      to_test a e
      (refused_behind (part_moves t a b (condition_only t a b condition)) e
      (part_refused (AreBranches (o + 1)) _ (λ (p : Pair). done_ends (choose t p.0 p.1)) b e h))

  pub test_read : (t : TruthTree) (x y z : ActionTree) (a b rest : List Token) → IsCondition t a b →
      AreBranches (o + 1) (x, y) b rest → z ≡ choose t x y → IsAction o (word if_word ∷ []) z a rest
  test_read t x y z a b rest condition branches same =
      test_from o low z a rest
      (record {
        part = t;
        behind = b;
        is = condition;
        form = record { part = (x, y); behind = rest; is = branches; form = record { same = same; are = refl } };
      })
