-- What a run has to know of one process, whatever runs it: how it goes on by itself, and how an action leaves it.
use Rattle.std.specs.Prelude.{◌≡◌, ℕ, zero, suc, ◌+◌, Bool, true, false, Option, None, Some}
use Rattle.ink_base.specs.Actions.{Action, Take, NewFuture, GetFuture, SharedState}

-- what the next step of a process comes to
pub data Move (P V : Type 0) : Type 0 where
  -- it is made, and leaves the process so
  Goes : (q : P) → Move P V
  -- it is an action, for whose reply the process waits so
  Comes : (wish : Action V) (waiting : P) → Move P V
  -- it can't be made
  Fails : Move P V

-- processes P that send one another V
pub record Machine (P V : Type 0) : Type 0 where
  pub step : P → Move P V
  -- a process as an action that it made leaves it, by its number and what the processes shared; none where there is no
  -- reply, or it can't be put
  pub left : Action V → ℕ → SharedState V → P → Option P
  -- a process as it begins, with its number, its type and what it is given
  pub begun : ℕ → ℕ → V → P
  pub number : P → ℕ
  pub kind : P → ℕ
  -- how many steps it made since its last action
  pub ran : P → ℕ

-- whether an action may have taken something out of its process, so that the process can't come to it once more
abbrev pub is_binding : {V : Type 0} → Action V → Bool
is_binding Take = false
is_binding NewFuture = false
is_binding (GetFuture future) = false
is_binding other = true

-- two processes have one number, one type and one count of steps
pub record IsLike {P V : Type 0} (m : Machine P V) (p q : P) : Type 0 where
  pub number : m.number p ≡ m.number q
  pub kind : m.kind p ≡ m.kind q
  pub ran : m.ran p ≡ m.ran q

-- steps are counted, an action lets a process count anew, and one that waits can come to its action once more where that
-- is not binding
pub record IsCounted {P V : Type 0} (m : Machine P V) : Type 0 where
  pub goes : (p q : P) → m.step p ≡ Goes q → m.ran q ≡ m.ran p + 1
  pub leaves : (made : Action V) (process : ℕ) (shared : SharedState V) (p q : P) → m.left made process shared p ≡ Some q → m.ran q ≡ 0
  pub begins : (number kind : ℕ) (given : V) → m.ran (m.begun number kind given) ≡ 0
  pub waits : (p waiting : P) (wish : Action V) → m.step p ≡ Comes wish waiting → IsLike m waiting p
  pub stays : (p waiting : P) (wish : Action V) → m.step p ≡ Comes wish waiting → is_binding wish ≡ false → waiting ≡ p

-- the process after a step that was made
abbrev pub gone : {P V : Type 0} → Move P V → Option P
gone (Goes q) = Some q
gone (Comes wish waiting) = None
gone Fails = None

abbrev pub then_on : {P Q : Type 0} → Option P → (P → Option Q) → Option Q
then_on None rest = None
then_on (Some p) rest = rest p

-- the process after so many steps, where each of them is made
abbrev pub steps_on : {P V : Type 0} → Machine P V → ℕ → P → Option P
steps_on m zero p = Some p
steps_on m (suc steps) p = then_on (gone (m.step p)) (λ q. steps_on m steps q)

-- the action to which a process comes after finitely many steps of its own
pub record ComesTo {P V : Type 0} (m : Machine P V) (p : P) (wish : Action V) (waiting : P) : Type 0 where
  pub steps : ℕ
  pub before : P
  pub goes : steps_on m steps p ≡ Some before
  pub comes : m.step before ≡ Comes wish waiting
