-- The language of the command line, and where words leave it.
use Rattle.std.specs.Prelude.{◌≡◌, ◌≢◌, ◌↔◌, ℕ, ◌+◌, ◌^◌, suc, ◌<◌, ◌≤◌, ◌⊎◌, Bool, true, false, List, [], ◌∷◌, ◌++◌, length, take, replicate, slice_index_or, slice_set, codes, Option, None, Some, option_map}
use Rattle.std.specs.Fmt.{decimal}
use Rattle.ink_base.specs.Limits.{all_limits, index_of, default_numbers, option_word, greatest_of}
use Rattle.ink_base.specs.declared.limits.Limit.{Limit}
use Rattle.ink_base.specs.declared.limits.Limit.TheVariants.{Source, Height, Slice, Workers}
use Rattle.ink_words.specs.declared.command.Command.{Command}
use Rattle.ink_words.specs.declared.command.Command.TheVariants as command
use Rattle.ink_words.specs.declared.command.Setting.{Setting}
use Rattle.ink_words.specs.declared.command.Setting.TheVariants as setting
use Rattle.ink_words.specs.declared.command.Operand.{Operand}
use Rattle.ink_words.specs.declared.command.Operand.TheVariants as operand
use Rattle.ink_words.specs.declared.order.Order.{Order}
use Rattle.ink_words.specs.declared.order.Order.TheVariants as order

-- a word of a command line
abbrev pub Word : Type 0
Word = List ℕ

-- the word of a command
abbrev pub command_word : Command → Word
command_word command.Run = codes "run"
command_word command.Check = codes "check"
command_word command.List = codes "list"
command_word command.Print = codes "print"
command_word command.Replay = codes "replay"
command_word command.Make = codes "make"

-- the word of an option
abbrev pub setting_word : Setting → Word
setting_word (setting.Limit limit) = option_word limit
setting_word setting.Rounds = codes "--rounds"
setting_word setting.Record = codes "--record"

-- whether a command has an option
abbrev pub has_setting : Command → Setting → Bool
has_setting command.Run setting = true
has_setting command.Make setting = false
has_setting command (setting.Limit Source) = true
has_setting command (setting.Limit Height) = true
has_setting command.Replay (setting.Limit Slice) = false
has_setting command.Replay (setting.Limit Workers) = false
has_setting command.Replay (setting.Limit limit) = true
has_setting command setting = false

abbrev pub minus_sign : ℕ
minus_sign = 45

-- what a positional word or a file's name can be: it isn't empty, and doesn't begin with a minus sign
abbrev pub IsName : Word → Type 0
IsName [] = ⊥
IsName (byte ∷ bytes) = byte ≢ minus_sign

-- the number is from 1 to the greatest
abbrev pub IsWithin : ℕ → ℕ → Type 0
IsWithin greatest number = (1 ≤ number) × (number ≤ greatest)

-- the word is this number from 1 to the greatest, in digits without a leading zero
abbrev pub IsNumber : ℕ → ℕ → Word → Type 0
IsNumber greatest number word = IsWithin greatest number × (word ≡ decimal number)

-- the greatest number of a module that is made, and of rounds
abbrev pub greatest_module : ℕ
greatest_module = 5000

abbrev pub greatest_rounds : ℕ
greatest_rounds = 2 ^ 62

-- What words have given so far: the positional words, of each limit, in their order, whether its option was given and its
-- number, the rounds, and the file that gets the journal.
pub record Given : Type 0 where
  pub file : Option Word
  pub journal : Option Word
  pub module_number : Option ℕ
  pub given : List Bool
  pub numbers : List ℕ
  pub rounds : Option ℕ
  pub recording : Option Word

-- before the first word nothing was given, and each limit has its default
abbrev pub no_arguments : Given
no_arguments = record {
  file = None;
  journal = None;
  module_number = None;
  given = replicate (length all_limits) false;
  numbers = default_numbers;
  rounds = None;
  recording = None;
}

abbrev pub with_file : Word → Given → Given
with_file file before = record before { file = Some file }

abbrev pub with_journal : Word → Given → Given
with_journal journal before = record before { journal = Some journal }

abbrev pub with_module : ℕ → Given → Given
with_module number before = record before { module_number = Some number }

abbrev pub with_limit : Limit → ℕ → Given → Given
with_limit limit number before =
    record before { given = slice_set before.given (index_of limit) true; numbers = slice_set before.numbers (index_of limit) number }

abbrev pub with_rounds : ℕ → Given → Given
with_rounds rounds before = record before { rounds = Some rounds }

abbrev pub with_recording : Word → Given → Given
with_recording file before = record before { recording = Some file }

abbrev pub is_there : {A : Type 0} → Option A → Bool
is_there None = false
is_there (Some x) = true

-- whether an option was given
abbrev pub is_given : Setting → Given → Bool
is_given (setting.Limit limit) before = slice_index_or before.given (index_of limit) false
is_given setting.Rounds before = is_there before.rounds
is_given setting.Record before = is_there before.recording

-- this positional word where it wasn't given, and else the next
abbrev pub unless_given : {A : Type 0} → Option A → Operand → Option Operand → Option Operand
unless_given None operand next = Some operand
unless_given (Some x) operand next = next

-- the positional word that stands next
abbrev pub next_operand : Command → Given → Option Operand
next_operand command.Make before = unless_given before.module_number operand.Number None
next_operand command.Replay before = unless_given before.file operand.File (unless_given before.journal operand.Journal None)
next_operand command before = unless_given before.file operand.File None

-- what a word gives as a positional word
abbrev pub Takes : Option Operand → Word → Given → Given → Type 0
Takes None word before behind = ⊥
Takes (Some operand.File) word before behind = behind ≡ with_file word before
Takes (Some operand.Journal) word before behind = behind ≡ with_journal word before
Takes (Some operand.Number) word before behind =
    (number : ℕ) × IsNumber greatest_module number word × (behind ≡ with_module number before)

-- what a word gives as the value of an option
abbrev pub Sets : Setting → Word → Given → Given → Type 0
Sets (setting.Limit limit) word before behind =
    (number : ℕ) × IsNumber (greatest_of limit) number word × (behind ≡ with_limit limit number before)
Sets setting.Rounds word before behind =
    (number : ℕ) × IsNumber greatest_rounds number word × (behind ≡ with_rounds number before)
Sets setting.Record word before behind = IsName word × (behind ≡ with_recording word before)

-- The words behind a command, from what was given before them, and the option whose value comes next, to what is given
-- behind the last of them.
abbrev pub Follows : Command → Option Setting → Given → List Word → Given → Type 0
Follows command None before [] last = last ≡ before
Follows command (Some setting) before [] last = ⊥
-- a positional word, or an option that wasn't given before
Follows command None before (word ∷ words) last =
    ((behind : Given) × IsName word × Takes (next_operand command before) word before behind × Follows command None behind words last)
    ⊎ ((setting : Setting) × (word ≡ setting_word setting) × (has_setting command setting ≡ true) × (is_given setting before ≡ false) × Follows command (Some setting) before words last)
-- the value of an option
Follows command (Some setting) before (word ∷ words) last =
    (behind : Given) × Sets setting word before behind × Follows command None behind words last

-- what words ask for: a command, its positional words, and what its options give
pub data Asked : Type 0 where
  Runs : (file : Word) (limits : List ℕ) (rounds : Option ℕ) (recording : Option Word) → Asked
  Checks : (file : Word) (limits : List ℕ) → Asked
  Lists : (file : Word) (limits : List ℕ) → Asked
  Prints : (file : Word) (limits : List ℕ) → Asked
  Replays : (file journal : Word) (limits : List ℕ) → Asked
  Makes : (number : ℕ) → Asked

-- what an order asks for
abbrev pub asked_by : Order → Asked
asked_by (order.Run file limits rounds journal) = Asked.Runs file.now limits rounds (option_map (λ f. f.now) journal)
asked_by (order.Check file limits) = Asked.Checks file.now limits
asked_by (order.List file limits) = Asked.Lists file.now limits
asked_by (order.Print file limits) = Asked.Prints file.now limits
asked_by (order.Replay file journal limits) = Asked.Replays file.now journal.now limits
asked_by (order.Make number) = Asked.Makes number

-- what a command asks for with what was given, where no positional word is missing
abbrev pub asked_with : Command → Option Word → Option Word → Option ℕ → Given → Option Asked
asked_with command.Make file journal (Some number) given = Some (Asked.Makes number)
asked_with command.Run (Some file) journal number given = Some (Asked.Runs file given.numbers given.rounds given.recording)
asked_with command.Check (Some file) journal number given = Some (Asked.Checks file given.numbers)
asked_with command.List (Some file) journal number given = Some (Asked.Lists file given.numbers)
asked_with command.Print (Some file) journal number given = Some (Asked.Prints file given.numbers)
asked_with command.Replay (Some file) (Some journal) number given = Some (Asked.Replays file journal given.numbers)
asked_with command file journal number given = None

abbrev pub asked_of : Command → Given → Option Asked
asked_of command given = asked_with command given.file given.journal given.module_number given

-- the words behind a command make it ask for this
abbrev pub Behind : Command → List Word → Asked → Type 0
Behind command words asked =
    (last : Given) × Follows command None no_arguments words last × (asked_of command last ≡ Some asked)

-- the words ask for this
abbrev pub IsOrder : Asked → List Word → Type 0
IsOrder asked [] = ⊥
IsOrder asked (word ∷ words) = (command : Command) × (word ≡ command_word command) × Behind command words asked

-- the words are a command
abbrev pub IsCommand : List Word → Type 0
IsCommand words = (asked : Asked) × IsOrder asked words

-- a run that isn't made in rounds
abbrev pub IsFreeRun : Asked → Type 0
IsFreeRun (Asked.Runs file limits None recording) = Unit {0}
IsFreeRun asked = ⊥

-- the words ask for a run that isn't made in rounds, so that it is made by several workers
abbrev pub AsksWorkers : List Word → Type 0
AsksWorkers words = (asked : Asked) × IsOrder asked words × IsFreeRun asked

-- the file that gets the journal of what is asked for, where there is one
abbrev pub recording_of : Asked → Option Word
recording_of (Asked.Runs file limits rounds recording) = recording
recording_of asked = None

-- some list of words of a language begins with these
abbrev pub Begins : (List Word → Type 0) → List Word → Type 0
Begins Language words = (more : List Word) × Language (words ++ more)

-- A list of words leaves a language behind its first `right` words: they begin one of the language's lists, and with
-- the next word they begin none. Where no word is left, words are missing.
pub record Leaves (Language : List Word → Type 0) (words : List Word) (right : ℕ) : Type 0 where
  pub within : right ≤ length words
  pub before : Begins Language (take right words)
  pub wrong : right < length words → Begins Language (take (suc right) words) → ⊥
  pub missing : right ≡ length words → Language words → ⊥

-- the first word that no command has there, counted from 1; where words are missing, it is the one behind the last
abbrev pub IsWrongWord : List Word → ℕ → Type 0
IsWrongWord words number = (right : ℕ) × (number ≡ right + 1) × Leaves IsCommand words right

-- the words behind a command are right
abbrev pub AreRight : Command → List Word → Type 0
AreRight command words = (asked : Asked) × Behind command words asked

-- how a reader goes on behind a word: the words behind it give the same from what was given there
abbrev pub GoesOn : Command → Option Setting → Given → Word → Option Setting → Given → Type 0
GoesOn command awaited before word next behind = (words : List Word) (last : Given)
    → Follows command awaited before (word ∷ words) last ↔ Follows command next behind words last

-- no words go on with this one
abbrev pub GoesNowhere : Command → Option Setting → Given → Word → Type 0
GoesNowhere command awaited before word = (words : List Word) (last : Given) → Follows command awaited before (word ∷ words) last → ⊥
