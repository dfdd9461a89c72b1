-- What several steps of a process leave of it, and those up to an action.
use Rattle.std.proofs.Common.{◌≡◌, ℕ, zero, suc, ◌+◌, ◌≤◌, Option, Some, Ok, Err, List, refl, ◌∙◌, subst, arith, inl, inr, ◌⊎◌}
use Rattle.std.specs.FinMap.{empty}
use Rattle.std.proofs.lemmas.Option.{none-some, same_Some}
use Rattle.ink_base.specs.declared.ident.ObjectId.{ObjectId}
use Rattle.ink_base.specs.Actions.{Action}
use Rattle.ink_base.specs.Actions as action
use Rattle.ink_base.specs.Objects.{Objects}
use Rattle.ink_code.specs.declared.code.Code.{Code}
use Rattle.ink_code.specs.Machine.{Went, Wants, Panics, Spent, Outcome}
use Rattle.ink_code.specs.Owned.{times_there}
use Rattle.ink_code.specs.Process.{Process}
use Rattle.ink_code.specs.Slice.{steps_on, gone_on, next_on, wish_of, ComesTo}
use Rattle.ink_code.specs.Step.{free_step}
use Rattle.ink_code.specs.Trees.{Parcel}
use Rattle.ink_law_ownership.specs.Leaves.{IsNew, IsTree, KeepsNames, Gives, carried}
use Rattle.ink_law_ownership.proofs.Counts.{none_in_empty}
use Rattle.ink_law_ownership.proofs.Kept.{idle}
use Rattle.ink_law_ownership.proofs.Steps.{step-leaves}

abbrev pub NamesAt : ObjectId → Process → Process → Objects → Type 0
NamesAt id p q out =
    (times_there id q.objects + times_there id out ≤ times_there id p.objects) ⊎ (IsNew id p.number p.made q.made × (times_there id q.objects + times_there id out ≤ 1))

names_then : (id : ObjectId) (p m q : Process) (out : Objects) → m.number ≡ p.number → p.made ≤ m.made → m.made ≤ q.made → NamesAt id p m empty → NamesAt id m q out → NamesAt id p q out
names_then id p m q out number one two (inl old) (inl older) = let none = none_in_empty id in inl (omega arith)
names_then id p m q out number one two (inr (new, once)) (inl old) =
    let none = none_in_empty id in
    let low = new.made in
    inr (record { process = new.process; later = new.later; made = omega arith }, omega arith)
names_then id p m q out number one two other (inr (new, once)) =
    let late = new.later in
    inr (record { process = new.process ∙ number; later = omega arith; made = new.made }, once)

pub keeps_then : (p m q : Process) (out : Objects) → m.number ≡ p.number → KeepsNames p m empty → KeepsNames m q out → KeepsNames p q out
keeps_then p m q out number k l =
    let one = k.made in
    let two = l.made in
    record { made = omega arith; names = λ id. names_then id p m q out number one two (k.names id) (l.names id) }

-- what is shown of several steps, after which these objects went out
pub record Traces (p q : Process) (steps : ℕ) (out : Objects) : Type 0 where
  pub number : q.number ≡ p.number
  pub kind : q.kind ≡ p.kind
  pub ran : q.ran ≡ p.ran + steps
  pub names : KeepsNames p q out

abbrev GoesBy : Outcome → (Process → Option Process) → Process → Type 0
GoesBy outcome rest q = (mid : Process) × (outcome ≡ Ok (Went, mid)) × (rest mid ≡ Some q)

goes_by : (outcome : Outcome) (rest : Process → Option Process) (q : Process) → next_on (gone_on outcome) rest ≡ Some q → GoesBy outcome rest q
goes_by (Err why) rest q is = absurd (none-some q is)
goes_by (Ok (Went, mid)) rest q is = (mid, refl, is)
goes_by (Ok (Wants wish, mid)) rest q is = absurd (none-some q is)
goes_by (Ok (Panics text, mid)) rest q is = absurd (none-some q is)
goes_by (Ok (Spent steps, mid)) rest q is = absurd (none-some q is)

pub trace : (steps : ℕ) (code : Code) (limits : List ℕ) (p q : Process) → steps_on steps code limits p ≡ Some q → Traces p q steps empty
unfolding steps_on
trace zero code limits p q is =
    subst (λ (r : Process). Traces p r zero empty) (same_Some p q is) (record { number = refl; kind = refl; ran = omega arith; names = idle p })
trace (suc steps) code limits p q is =
    let by = goes_by (free_step code limits p.pending p) (λ r. steps_on steps code limits r) q is in
    let one = step-leaves code limits p by.0 Went by.1 in
    let rest = trace steps code limits by.0 q by.2 in
    let first = one.ran in
    let others = rest.ran in
    record {
      number = rest.number ∙ one.number;
      kind = rest.kind ∙ one.kind;
      ran = omega arith;
      names = keeps_then p by.0 q empty one.number one.names rest.names;
    }

abbrev Wished : Process → Action Parcel → Process → Type 0
Wished p wish q =
    (q.number ≡ p.number) × (q.kind ≡ p.kind) × KeepsNames p q (carried wish) × Gives (Wants wish) p q

abbrev one_wish : Action Parcel → Process → Option (Action Parcel × Process)
one_wish wish p = Some (wish, p)

wished_as : (p q waiting : Process) (wish made : Action Parcel) → one_wish made q ≡ one_wish wish waiting → Wished p made q → Wished p wish waiting
wished_as p q waiting wish made is w =
    let one : Action Parcel × Process = (made, q) in
    let other : Action Parcel × Process = (wish, waiting) in
    subst (λ (pair : Action Parcel × Process). Wished p pair.0 pair.1) (same_Some one other is) w

wished : (code : Code) (limits : List ℕ) (p waiting : Process) (wish : Action Parcel) (outcome : Outcome) → free_step code limits p.pending p ≡ outcome → wish_of outcome ≡ Some (wish, waiting) → Wished p wish waiting
wished code limits p waiting wish (Err why) made is = absurd (none-some (wish, waiting) is)
wished code limits p waiting wish (Ok (Went, q)) made is = absurd (none-some (wish, waiting) is)
wished code limits p waiting wish (Ok (Wants want, q)) made is =
    let l = step-leaves code limits p q (Wants want) made in
    wished_as p q waiting wish want is (l.number, l.kind, l.names, l.gives)
wished code limits p waiting wish (Ok (Panics text, q)) made is =
    let l = step-leaves code limits p q (Panics text) made in
    wished_as p q waiting wish (action.Panic text) is (l.number, l.kind, record { made = l.names.made; names = l.names.names }, l.gives)
wished code limits p waiting wish (Ok (Spent steps, q)) made is = absurd (none-some (wish, waiting) is)

-- a process that came to an action
pub came : (code : Code) (limits : List ℕ) (p waiting : Process) (wish : Action Parcel) → ComesTo code limits p wish waiting → (waiting.number ≡ p.number) × (waiting.kind ≡ p.kind) × KeepsNames p waiting (carried wish)
came code limits p waiting wish c =
    let steps = trace c.steps code limits p c.before c.goes in
    let last = wished code limits c.before waiting wish (free_step code limits c.before.pending c.before) refl c.wants in
    (last.0 ∙ steps.number, last.1 ∙ steps.kind, keeps_then p c.before waiting (carried wish) steps.number steps.names last.2)

tree_of : (kind : ℕ) (parcel : Parcel) (p q : Process) → Gives (Wants (action.Spawn kind parcel)) p q → IsTree parcel
tree_of kind parcel p q tree = tree

-- and the parcel with which it is to start another
pub came_tree : (code : Code) (limits : List ℕ) (p waiting : Process) (kind : ℕ) (parcel : Parcel) → ComesTo code limits p (action.Spawn kind parcel) waiting → IsTree parcel
came_tree code limits p waiting kind parcel c =
    let last = wished code limits c.before waiting (action.Spawn kind parcel) (free_step code limits c.before.pending c.before) refl c.wants in
    tree_of kind parcel c.before waiting last.3
