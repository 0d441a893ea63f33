-- What holds while the choices are played.
use Rattle.std.proofs.Common.{◌≡◌, ℕ, zero, suc, ◌+◌, ◌<◌, ◌≤◌, Bool, Option, None, Some, List, [], ◌∷◌, ◌++◌, length}
use Rattle.std.proofs.Common.{get_or, inr, sym, ap, subst, ◌∙◌, arith}
use Rattle.std.specs.Prelude.{IsTrue, slice_get}
use Rattle.tm_syntax.specs.Design.{DesignTree}
use Rattle.tm_sem.specs.State.{StateData}
use Rattle.tm_sem.specs.declared.state.Move.{Move}
use Rattle.tm_sem.specs.Step.{IsState}
use Rattle.tm_cir.specs.Tree.{BlockTree}
use Rattle.tm_sem.specs.First.{IsFirst}
use Rattle.tm_play.specs.Script.{TurnData, ScriptData}
use Rattle.tm_play.specs.Report.{state_line}
use Rattle.tm_play.specs.declared.ending.StopWhy.{StopWhy}
use Rattle.tm_play.specs.declared.ending.PlayEnd.TheVariants.{Played, Stopped}
use Rattle.tm_play.specs.declared.play.turn.TurnOutcome.{TurnOutcome}
use Rattle.tm_play.specs.declared.play.turn.TurnOutcome.TheVariants.{To, Stop, Stuck}
use Rattle.tm_play.specs.declared.play.turn.Position.{Position}
use Rattle.tm_play.specs.Played.{Reaches, Stops, Ends, plays, stops, part, IsStuck}
use Rattle.tm_play.specs.Inner.Advance.{Begins, Advances, IsPosition}
use Rattle.tm_play.proofs.Reaching.{reaches_first, reaches_next}

-- the play has so many steps and its lines are put
pub record Playing (d : DesignTree) (bs : List BlockTree) (c : ScriptData) (tells : Bool) (n : ℕ) (p : Position)
    (before now : List ℕ) (old_faults new_faults : ℕ) : Type 0 where
  pub text : List ℕ
  pub reaches : Reaches d bs c n p.state p.goal text
  pub valid : IsState d p.state
  pub below : p.goal < length d.goals
  pub written : IsTrue tells → now ≡ before ++ text
  pub faults : old_faults ≤ new_faults

-- the item at a place of a list
pub item_at : {A : Type 0} (xs : List A) (i : ℕ) (x : A) → i < length xs → x ≡ get_or xs i x → slice_get xs i ≡ Some x
item_at [] i x within is = absurd (omega arith)
item_at (y ∷ ys) zero x within is = ap Some (sym is)
item_at (y ∷ ys) (suc i) x within is = item_at ys i x (omega arith) is

-- choices that give no first state
pub none_begins : (d : DesignTree) (choices start : List ℕ) (p : Option Position) → Begins d choices p → p ≡ None →
    choices ≡ start → (s : StateData) → ¬ (IsFirst d start s)
none_begins d choices start (Some p) begins is same = cc
none_begins d choices start None begins is same = λ s first. begins s (subst (λ cs. IsFirst d cs s) (sym same) first)

-- a position with which a play begins
pub begun : (d : DesignTree) (bs : List BlockTree) (c : ScriptData) (choices : List ℕ) (p : Option Position)
    (begin : Position) →
    Begins d choices p → p ≡ Some begin → choices ≡ c.start →
    Reaches d bs c 0 begin.state begin.goal (state_line d 0 None begin.state begin.goal)
begun d bs c choices None begin begins is same = cc
begun d bs c choices (Some p) begin begins is same =
    let at : p ≡ begin = cc in
    let here : Begins d choices (Some begin) = subst (λ q. Begins d choices (Some q)) at begins in
    reaches_first d bs c begin.state begin.goal (subst (λ cs. IsFirst d cs begin.state) same here.0) here.1 here.2.goal

pub begun_position : (d : DesignTree) (choices : List ℕ) (p : Option Position) (begin : Position) →
    Begins d choices p → p ≡ Some begin → IsPosition d 0 begin
begun_position d choices None begin begins is = cc
begun_position d choices (Some p) begin begins is =
    let at : p ≡ begin = cc in subst (IsPosition d 0) at begins.2

-- a step that leads on
pub led_on : (d : DesignTree) (bs : List BlockTree) (c : ScriptData) (n : ℕ) (p : Position) (text : List ℕ)
    (turns : List TurnData) (t : TurnData) (o : TurnOutcome) (m : Move) (next : Position) →
    Reaches d bs c n p.state p.goal text → turns ≡ c.turns → n < length turns → t ≡ get_or turns n t →
    Advances d bs p.state p.goal t o → o ≡ To m next →
    Reaches d bs c (n + 1) next.state next.goal (text ++ state_line d (n + 1) (Some m) next.state next.goal)
    × IsPosition d p.goal next
led_on d bs c n p text turns t (Stop why) m next reaches same within is advances to = cc
led_on d bs c n p text turns t (Stuck action) m next reaches same within is advances to = cc
led_on d bs c n p text turns t (To action behind) m next reaches same within is advances to =
    let moved : action ≡ m = cc in
    let left : behind ≡ next = cc in
    let led : Advances d bs p.state p.goal t (To m next) =
    subst (λ a. Advances d bs p.state p.goal t (To a next)) moved
    (subst (λ b. Advances d bs p.state p.goal t (To action b)) left advances) in (
      reaches_next d bs c n p.state p.goal text t m next.state next.goal reaches
          (ap (λ ts. slice_get ts n) (sym same) ∙ item_at turns n t within is) led.0 led.1 led.2.goal,
      led.2,
    )

-- a step that leads to no state
pub led_nowhere : (d : DesignTree) (bs : List BlockTree) (c : ScriptData) (n : ℕ) (p : Position) (text : List ℕ)
    (turns : List TurnData) (t : TurnData) (o : TurnOutcome) (why : StopWhy) →
    Reaches d bs c n p.state p.goal text → turns ≡ c.turns → n < length turns → t ≡ get_or turns n t →
    Advances d bs p.state p.goal t o → o ≡ Stop why →
    Ends d bs c text (Stopped (n + 1) why)
led_nowhere d bs c n p text turns t (To action behind) why reaches same within is advances to = cc
led_nowhere d bs c n p text turns t (Stuck action) why reaches same within is advances to = cc
led_nowhere d bs c n p text turns t (Stop other) why reaches same within is advances to =
    let led : other ≡ why = cc in
    stops reaches (ap (λ ts. slice_get ts n) (sym same) ∙ item_at turns n t within is)
    (subst (Stops d bs p.state p.goal t) led advances)

-- an answer of the driver's at which the play is stuck
pub led_stuck : (d : DesignTree) (bs : List BlockTree) (c : ScriptData) (n : ℕ) (p : Position) (text : List ℕ)
    (turns : List TurnData) (t : TurnData) (o : TurnOutcome) (m : Move) →
    Reaches d bs c n p.state p.goal text → turns ≡ c.turns → n < length turns → t ≡ get_or turns n t →
    Advances d bs p.state p.goal t o → o ≡ Stuck m → IsState d p.state → IsStuck d bs c text (n + 1) p.state m
led_stuck d bs c n p text turns t (To action behind) m reaches same within is advances stuck valid = cc
led_stuck d bs c n p text turns t (Stop why) m reaches same within is advances stuck valid = cc
led_stuck d bs c n p text turns t (Stuck action) m reaches same within is advances stuck valid =
    let moved : action ≡ m = cc in
    let led : Advances d bs p.state p.goal t (Stuck m) =
    subst (λ a. Advances d bs p.state p.goal t (Stuck a)) moved advances in
    let at : slice_get c.turns n ≡ Some t = ap (λ ts. slice_get ts n) (sym same) ∙ item_at turns n t within is in
    record {
      state = valid;
      permitted = led.3;
      lines = part reaches;
      forbidden = λ never. stops reaches at (m, led.0, led.1, never);
      illegal = λ allowed. stops reaches at (inr (m, led.1, led.2, λ driver. allowed));
    }

-- a play of all the steps
pub played_all : (d : DesignTree) (bs : List BlockTree) (c : ScriptData) (n count : ℕ) (p : Position) (text : List ℕ) →
    Reaches d bs c n p.state p.goal text → n ≡ length c.turns → count ≡ length c.turns → Ends d bs c text (Played count)
played_all d bs c n count p text reaches all is =
    rw is (plays (subst (λ k. Reaches d bs c k p.state p.goal text) all reaches))
