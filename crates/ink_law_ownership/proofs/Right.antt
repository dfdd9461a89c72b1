-- What holds of an outcome that is right, by the forms in which outcomes are written.
use Rattle.std.proofs.Common.{◌≡◌, Bool, true, false, if◌then◌else◌, Option, Some, None, Result, Ok, Err, refl}
use Rattle.std.specs.Prelude.{IfOk}
use Rattle.ink_code.specs.declared.wrong.Wrong.{Wrong}
use Rattle.ink_code.specs.Machine.{given, needs, when, after}

-- P holds of what a result gives, where it is right
pub record Right {B : Type 0} (P : B → Type 0) (result : Result B Wrong) : Type 0 where
  pub holds : IfOk result P

module _ {B : Type 0} (P : B → Type 0) where
  pub right : (b : B) → P b → Right P (Ok b)
  right b h = record { holds = h }

  pub wrong : (why : Wrong) → Right P (Err why)
  wrong why = record { holds = tt }

  given_at : {A : Type 0} (why : Wrong) (found : Option A) (further : A → Result B Wrong) → ((a : A) → found ≡ Some a → Right P (further a)) → Right P (given why found further)
  unfolding given
  given_at why None further h = wrong why
  given_at why (Some a) further h = h a refl

  after_at : {A : Type 0} (first : Result A Wrong) (further : A → Result B Wrong) → ((a : A) → first ≡ Ok a → Right P (further a)) → Right P (after first further)
  unfolding after
  after_at (Err why) further h = wrong why
  after_at (Ok a) further h = h a refl

  needs_at : (test : Bool) (why : Wrong) (further : Result B Wrong) → Right P further → Right P (needs test why further)
  unfolding needs
  needs_at true why further h = h
  needs_at false why further h = wrong why

  when_at : (test : Bool) (this further : Result B Wrong) → Right P this → Right P further → Right P (when test this further)
  unfolding when
  when_at true this further g h = g
  when_at false this further g h = h

  if_right : (test : Bool) (this further : Result B Wrong) → Right P this → Right P further → Right P (if test then this else further)
  if_right true this further g h = g
  if_right false this further g h = h

pub given_right : {A B : Type 0} {P : B → Type 0} (why : Wrong) {found : Option A} {further : A → Result B Wrong} → ((a : A) → found ≡ Some a → Right P (further a)) → Right P (given why found further)
given_right {P = P} why {found = found} {further = further} h = given_at P why found further h

pub after_right : {A B : Type 0} {P : B → Type 0} {first : Result A Wrong} {further : A → Result B Wrong} → ((a : A) → first ≡ Ok a → Right P (further a)) → Right P (after first further)
after_right {P = P} {first = first} {further = further} h = after_at P first further h

pub needs_right : {B : Type 0} {P : B → Type 0} (test : Bool) (why : Wrong) {further : Result B Wrong} → Right P further → Right P (needs test why further)
needs_right {P = P} test why {further = further} h = needs_at P test why further h

pub when_right : {B : Type 0} {P : B → Type 0} (test : Bool) {this further : Result B Wrong} → Right P this → Right P further → Right P (when test this further)
when_right {P = P} test {this = this} {further = further} g h = when_at P test this further g h

pub if_else : {B : Type 0} {P : B → Type 0} (test : Bool) {this further : Result B Wrong} → Right P this → Right P further → Right P (if test then this else further)
if_else {P = P} test {this = this} {further = further} g h = if_right P test this further g h
