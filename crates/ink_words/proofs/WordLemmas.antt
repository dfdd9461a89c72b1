-- How words go on behind one of them, and where they leave the language.
use Rattle.std.proofs.Common.{◌≡◌, ◌↔◌, ℕ, ◌+◌, ◌==◌, ◌<◌, ◌≤◌, inl, inr, Bool, true, false, List, [], ◌∷◌, ◌++◌, suc, length, take, sum, Option, None, Some, refl, sym, ap, ◌∙◌, subst, arith, lit≤, append_assoc, append-nil, IfSome, IfNone, if◌then◌else◌}
use Rattle.std.specs.Prelude.{codes}
use Rattle.std.proofs.lemmas.List.{take_all}
use Rattle.std.specs.Fmt.{decimal}
use Rattle.std.proofs.lemmas.Fmt.{decimal_digit}
use Rattle.ink_base.specs.Limits.{default_numbers, greatest_of}
use Rattle.ink_base.specs.declared.limits.Limit.{Limit}
use Rattle.ink_base.specs.declared.limits.Limit.TheVariants.{Source, Height, Frames, Objects, Serial, Array, Text, Processes, Mailbox, Futures, Events, Local, Slice, Workers}
use Rattle.ink_words.specs.declared.command.Command.{Command}
use Rattle.ink_words.specs.declared.command.Command.TheVariants as command
use Rattle.ink_words.specs.declared.command.Setting.{Setting}
use Rattle.ink_words.specs.declared.command.Setting.TheVariants as setting
use Rattle.ink_words.specs.declared.command.Operand.{Operand}
use Rattle.ink_words.specs.declared.command.Operand.TheVariants as operand
use Rattle.ink_words.specs.Commands.{Asked, IsOrder, IsCommand, IsWrongWord, command_word, setting_word, has_setting, is_given, Word, IsName, IsNumber, IsWithin, greatest_module, greatest_rounds, Given, no_arguments, with_file, with_journal, with_module, with_limit, with_rounds, with_recording, unless_given, next_operand, Takes, Sets, Follows, asked_of, asked_with, Behind, AreRight, Begins, Leaves, GoesOn, GoesNowhere}
use Rattle.ink_words.proofs.LimitLemmas.{one_number, greatest_fits, least}

-- positional words, options and their values

-- no option can be a positional word
not_name : (word : Word) (setting : Setting) → IsName word → word ≡ setting_word setting → ⊥
not_name word (setting.Limit Source) name is = subst IsName is name refl
not_name word (setting.Limit Height) name is = subst IsName is name refl
not_name word (setting.Limit Frames) name is = subst IsName is name refl
not_name word (setting.Limit Objects) name is = subst IsName is name refl
not_name word (setting.Limit Serial) name is = subst IsName is name refl
not_name word (setting.Limit Array) name is = subst IsName is name refl
not_name word (setting.Limit Text) name is = subst IsName is name refl
not_name word (setting.Limit Processes) name is = subst IsName is name refl
not_name word (setting.Limit Mailbox) name is = subst IsName is name refl
not_name word (setting.Limit Futures) name is = subst IsName is name refl
not_name word (setting.Limit Events) name is = subst IsName is name refl
not_name word (setting.Limit Local) name is = subst IsName is name refl
not_name word (setting.Limit Slice) name is = subst IsName is name refl
not_name word (setting.Limit Workers) name is = subst IsName is name refl
not_name word setting.Rounds name is = subst IsName is name refl
not_name word setting.Record name is = subst IsName is name refl

one_taken : (next : Option Operand) (word : Word) (before one other : Given) → Takes next word before one → Takes next word before other → one ≡ other
one_taken None word before one other takes also = absurd takes
one_taken (Some operand.File) word before one other takes also = takes ∙ sym also
one_taken (Some operand.Journal) word before one other takes also = takes ∙ sym also
one_taken (Some operand.Number) word before one other takes also =
    takes.2 ∙ ap (λ n. with_module n before) (one_number greatest_module takes.0 also.0 word (omega arith) takes.1 also.1) ∙ sym also.2

one_set : (setting : Setting) (word : Word) (before one other : Given) → Sets setting word before one → Sets setting word before other → one ≡ other
one_set (setting.Limit limit) word before one other sets also =
    sets.2 ∙ ap (λ n. with_limit limit n before) (one_number (greatest_of limit) sets.0 also.0 word (greatest_fits limit) sets.1 also.1) ∙ sym also.2
one_set setting.Rounds word before one other sets also =
    sets.2 ∙ ap (λ n. with_rounds n before) (one_number greatest_rounds sets.0 also.0 word (omega arith) sets.1 also.1) ∙ sym also.2
one_set setting.Record word before one other sets also = sets.1 ∙ sym also.1

pub operand_next : (command : Command) (before behind : Given) (word : Word) → IsName word → Takes (next_operand command before) word before behind
    → GoesOn command None before word None behind
operand_next command before behind word name takes = λ words last. (
  λ whole. elim whole [
    | inl it ↦
        subst (λ (g : Given). Follows command None g words last) (one_taken (next_operand command before) word before it.0 behind it.2 takes) it.3
    | inr it ↦ absurd (not_name word it.0 name it.1)
  ],
  λ rest. inl (behind, name, takes, rest),
)

pub value_next : (command : Command) (setting : Setting) (before behind : Given) (word : Word) → Sets setting word before behind
    → GoesOn command (Some setting) before word None behind
value_next command setting before behind word sets = λ words last. (
  λ whole. subst (λ (g : Given). Follows command None g words last) (one_set setting word before whole.0 behind whole.1 sets) whole.2,
  λ rest. (behind, sets, rest),
)

-- what words have given

-- the words read so far lead to this, whatever follows
abbrev pub Reaches : Command → List Word → Option Setting → Given → Type 0
Reaches command front awaited given = (words : List Word) (last : Given)
    → Follows command None no_arguments (front ++ words) last ↔ Follows command awaited given words last

pub reaches_next : (command : Command) (front more : List Word) (word : Word) (awaited next : Option Setting) (before behind : Given)
    → Reaches command front awaited before → GoesOn command awaited before word next behind → more ≡ front ++ word ∷ [] → Reaches command more next behind
reaches_next command front more word awaited next before behind reaches goes is = λ words last.
    let e : more ++ words ≡ front ++ word ∷ words = ap (λ m. m ++ words) is ∙ append_assoc front (word ∷ []) words in (
      λ whole. (goes words last).0 ((reaches (word ∷ words) last).0 (subst (λ (w : List Word). Follows command None no_arguments w last) e whole)),
      λ rest. subst (λ (w : List Word). Follows command None no_arguments w last) (sym e) ((reaches (word ∷ words) last).1 ((goes words last).1 rest)),
    )

-- words that end a command

abbrev some_name : Word
some_name = codes "a"

is_some_name : IsName some_name
is_some_name = λ e. absurd (omega arith)

one_is_name : IsName (decimal 1)
one_is_name = subst IsName (sym (decimal_digit 1 (lit≤ tt))) (λ e. absurd (omega arith))

one_is_number : (greatest : ℕ) → 1 ≤ greatest → IsNumber greatest 1 (decimal 1)
one_is_number greatest within = ((omega arith, within), refl)

-- from each place some words lead to an end at which no positional word is missing
record Ends (command : Command) (awaited : Option Setting) (given : Given) : Type 0 where
  more : List Word
  last : Given
  follows : Follows command awaited given more last
  ask : Asked
  asks : asked_of command last ≡ Some ask

at_end : (command : Command) (given : Given) (ask : Asked) → asked_of command given ≡ Some ask → Ends command None given
at_end command given ask asks = record { more = []; last = given; follows = refl; ask = ask; asks = asks }

one_more : (command : Command) (given behind : Given) (word : Word) (next : Operand) → next_operand command given ≡ Some next → IsName word
    → Takes (Some next) word given behind → Ends command None behind → Ends command None given
one_more command given behind word next is name takes it = record {
  more = word ∷ it.more;
  last = it.last;
  follows = inl (behind, name, subst (λ (o : Option Operand). Takes o word given behind) (sym is) takes, it.follows);
  ask = it.ask;
  asks = it.asks;
}

ends_operands : (command : Command) (given : Given) (file journal : Option Word) (number : Option ℕ) → given.file ≡ file → given.journal ≡ journal
    → given.module_number ≡ number → Ends command None given
ends_operands command.Run given (Some f) journal number file-is journal-is number-is =
    at_end command.Run given (Asked.Runs f given.numbers given.rounds given.recording) (ap (λ x. asked_with command.Run x given.journal given.module_number given) file-is)
ends_operands command.Run given None journal number file-is journal-is number-is =
    one_more command.Run given (with_file some_name given) some_name operand.File (ap (λ x. unless_given x operand.File None) file-is) is_some_name refl
    (at_end command.Run (with_file some_name given) (Asked.Runs some_name given.numbers given.rounds given.recording) refl)
ends_operands command.Check given (Some f) journal number file-is journal-is number-is =
    at_end command.Check given (Asked.Checks f given.numbers) (ap (λ x. asked_with command.Check x given.journal given.module_number given) file-is)
ends_operands command.Check given None journal number file-is journal-is number-is =
    one_more command.Check given (with_file some_name given) some_name operand.File (ap (λ x. unless_given x operand.File None) file-is) is_some_name refl
    (at_end command.Check (with_file some_name given) (Asked.Checks some_name given.numbers) refl)
ends_operands command.List given (Some f) journal number file-is journal-is number-is =
    at_end command.List given (Asked.Lists f given.numbers) (ap (λ x. asked_with command.List x given.journal given.module_number given) file-is)
ends_operands command.List given None journal number file-is journal-is number-is =
    one_more command.List given (with_file some_name given) some_name operand.File (ap (λ x. unless_given x operand.File None) file-is) is_some_name refl
    (at_end command.List (with_file some_name given) (Asked.Lists some_name given.numbers) refl)
ends_operands command.Print given (Some f) journal number file-is journal-is number-is =
    at_end command.Print given (Asked.Prints f given.numbers) (ap (λ x. asked_with command.Print x given.journal given.module_number given) file-is)
ends_operands command.Print given None journal number file-is journal-is number-is =
    one_more command.Print given (with_file some_name given) some_name operand.File (ap (λ x. unless_given x operand.File None) file-is) is_some_name refl
    (at_end command.Print (with_file some_name given) (Asked.Prints some_name given.numbers) refl)
ends_operands command.Replay given (Some f) (Some j) number file-is journal-is number-is =
    at_end command.Replay given (Asked.Replays f j given.numbers)
    (ap (λ x. asked_with command.Replay x given.journal given.module_number given) file-is
    ∙ ap (λ x. asked_with command.Replay (Some f) x given.module_number given) journal-is)
ends_operands command.Replay given (Some f) None number file-is journal-is number-is =
    one_more command.Replay given (with_journal some_name given) some_name operand.Journal
    (ap (λ x. unless_given x operand.File (unless_given given.journal operand.Journal None)) file-is
    ∙ ap (λ x. unless_given x operand.Journal None) journal-is) is_some_name refl
    (at_end command.Replay (with_journal some_name given) (Asked.Replays f some_name given.numbers)
    (ap (λ x. asked_with command.Replay x (Some some_name) given.module_number (with_journal some_name given)) file-is))
ends_operands command.Replay given None (Some j) number file-is journal-is number-is =
    one_more command.Replay given (with_file some_name given) some_name operand.File
    (ap (λ x. unless_given x operand.File (unless_given given.journal operand.Journal None)) file-is) is_some_name refl
    (at_end command.Replay (with_file some_name given) (Asked.Replays some_name j given.numbers)
    (ap (λ x. asked_with command.Replay (Some some_name) x given.module_number (with_file some_name given)) journal-is))
ends_operands command.Replay given None None number file-is journal-is number-is =
    let filed : Given = with_file some_name given in
    one_more command.Replay given filed some_name operand.File
    (ap (λ x. unless_given x operand.File (unless_given given.journal operand.Journal None)) file-is) is_some_name refl
    (one_more command.Replay filed (with_journal some_name filed) some_name operand.Journal
    (ap (λ x. unless_given x operand.Journal None) journal-is) is_some_name refl
    (at_end command.Replay (with_journal some_name filed) (Asked.Replays some_name some_name given.numbers) refl))
ends_operands command.Make given file journal (Some n) file-is journal-is number-is =
    at_end command.Make given (Asked.Makes n) (ap (λ x. asked_with command.Make given.file given.journal x given) number-is)
ends_operands command.Make given file journal None file-is journal-is number-is =
    one_more command.Make given (with_module 1 given) (decimal 1) operand.Number (ap (λ x. unless_given x operand.Number None) number-is) one_is_name
    (1, one_is_number greatest_module (lit≤ tt), refl) (at_end command.Make (with_module 1 given) (Asked.Makes 1) refl)

ends_all : (command : Command) (given : Given) → Ends command None given
ends_all command given = ends_operands command given given.file given.journal given.module_number refl refl refl

-- a word that can be the value of an option
record Value (setting : Setting) (before : Given) : Type 0 where
  word : Word
  behind : Given
  sets : Sets setting word before behind

value_of : (setting : Setting) (before : Given) → Value setting before
value_of (setting.Limit limit) before = record { word = decimal 1; behind = with_limit limit 1 before; sets = (1, (least limit, refl), refl) }
value_of setting.Rounds before = record { word = decimal 1; behind = with_rounds 1 before; sets = (1, one_is_number greatest_rounds (lit≤ tt), refl) }
value_of setting.Record before = record { word = some_name; behind = with_recording some_name before; sets = (is_some_name, refl) }

ends : (command : Command) (awaited : Option Setting) (given : Given) → Ends command awaited given
ends command None given = ends_all command given
ends command (Some setting) given =
    let value : Value setting given = value_of setting given in let it : Ends command None value.behind = ends_all command value.behind in record {
      more = value.word ∷ it.more;
      last = it.last;
      follows = (value.behind, value.sets, it.follows);
      ask = it.ask;
      asks = it.asks;
    }

begins_right : (command : Command) (front : List Word) (awaited : Option Setting) (given : Given) → Reaches command front awaited given
    → Begins (AreRight command) front
begins_right command front awaited given reaches =
    let it : Ends command awaited given = ends command awaited given in (it.more, (it.ask, (it.last, (reaches it.more it.last).1 it.follows, it.asks)))

next : (n : ℕ) → suc n ≡ n + 1
next n = omega arith

pub wrong_word : (command : Command) (words : List Word) (right : ℕ) (word : Word) (awaited : Option Setting) (given : Given)
    → Reaches command (take right words) awaited given → right < length words → take (right + 1) words ≡ take right words ++ word ∷ []
    → GoesNowhere command awaited given word → Leaves (AreRight command) words right
wrong_word command words right word awaited given reaches within is nowhere = record {
  within = omega (arith, within);
  before = begins_right command (take right words) awaited given reaches;
  wrong = λ h begins.
      let e : take (suc right) words ++ begins.0 ≡ take right words ++ word ∷ begins.0 =
      ap (λ n. take n words ++ begins.0) (next right) ∙ ap (λ m. m ++ begins.0) is ∙ append_assoc (take right words) (word ∷ []) begins.0 in
      nowhere begins.0 begins.1.1.0
      ((reaches (word ∷ begins.0) begins.1.1.0).0 (subst (λ (w : List Word). Follows command None no_arguments w begins.1.1.0) e begins.1.1.1));
  missing = λ e. absurd (omega (arith, within));
}

-- all words are read
pub ended : (command : Command) (words : List Word) (right : ℕ) (awaited : Option Setting) (given : Given) → length words ≤ right
    → Reaches command (take right words) awaited given → (last : Given)
    → Follows command None no_arguments words last ↔ Follows command awaited given [] last
ended command words right awaited given past reaches last =
    let e : take right words ++ [] ≡ words = append-nil (take right words) ∙ take_all right words past in (
      λ whole. (reaches [] last).0 (subst (λ (w : List Word). Follows command None no_arguments w last) (sym e) whole),
      λ rest. subst (λ (w : List Word). Follows command None no_arguments w last) e ((reaches [] last).1 rest),
    )

words_missing : (command : Command) (words : List Word) (right : ℕ) (awaited : Option Setting) (given : Given) → length words ≤ right
    → Reaches command (take right words) awaited given → (AreRight command words → ⊥) → Leaves (AreRight command) words (length words)
words_missing command words right awaited given past reaches missing = record {
  within = omega arith;
  before = subst (Begins (AreRight command)) (take_all right words past ∙ sym (take_all (length words) words (omega arith)))
      (begins_right command (take right words) awaited given reaches);
  wrong = λ h. absurd (omega (arith, h));
  missing = λ e. missing;
}

-- the words end where the value of an option is awaited
pub value_missing : (command : Command) (words : List Word) (right : ℕ) (setting : Setting) (given : Given) → length words ≤ right
    → Reaches command (take right words) (Some setting) given → Leaves (AreRight command) words (length words)
value_missing command words right setting given past reaches =
    words_missing command words right (Some setting) given past reaches
    (λ whole. (ended command words right (Some setting) given past reaches whole.1.0).0 whole.1.1)

-- or where a positional word is missing
pub operand_missing : (command : Command) (words : List Word) (right : ℕ) (given : Given) → length words ≤ right
    → Reaches command (take right words) None given → asked_of command given ≡ None → Leaves (AreRight command) words (length words)
operand_missing command words right given past reaches none =
    words_missing command words right None given past reaches
    (λ whole.
    let same : whole.1.0 ≡ given = (ended command words right None given past reaches whole.1.0).0 whole.1.1 in
    let both : None ≡ Some whole.0 = sym none ∙ ap (asked_of command) (sym same) ∙ whole.1.2 in cc)

-- what the words behind a command ask for

pub is_behind : (command : Command) (words : List Word) (right : ℕ) (given : Given) (ask : Asked) → length words ≤ right
    → Reaches command (take right words) None given → asked_of command given ≡ Some ask → Behind command words ask
is_behind command words right given ask past reaches asks = (given, (ended command words right None given past reaches given).1 refl, asks)

some_injective : (A : Type 0) (a b : A) → Some a ≡ Some b → a ≡ b
some_injective A a b e = cc

pub only_behind : (command : Command) (words : List Word) (right : ℕ) (given : Given) (ask other : Asked) → length words ≤ right
    → Reaches command (take right words) None given → asked_of command given ≡ Some ask → Behind command words other → other ≡ ask
only_behind command words right given ask other past reaches asks behind =
    let same : behind.0 ≡ given = (ended command words right None given past reaches behind.0).0 behind.1 in
    some_injective Asked other ask (sym behind.2 ∙ ap (asked_of command) same ∙ asks)

-- the first word

-- the command of a word, by the sum of its bytes, which tells them apart
abbrev command_summing : ℕ → Command
command_summing n =
    if n == 341 then command.Run else
    (if n == 510 then command.Check else
    (if n == 444 then command.List else
    (if n == 557 then command.Print else
    (if n == 653 then command.Replay else command.Make))))

found_command : (command : Command) → command_summing (sum (command_word command)) ≡ command
found_command command.Run = refl
found_command command.Check = refl
found_command command.List = refl
found_command command.Print = refl
found_command command.Replay = refl
found_command command.Make = refl

one_command : (one other : Command) → command_word one ≡ command_word other → one ≡ other
one_command one other same = sym (found_command one) ∙ ap (λ w. command_summing (sum w)) same ∙ found_command other

begins_command : Begins IsCommand []
begins_command =
    let it : Ends command.Run None no_arguments = ends_all command.Run no_arguments in
    (codes "run" ∷ it.more, (it.ask, (command.Run, refl, (it.last, it.follows, it.asks))))

pub nothing : (words : List Word) → length words ≡ 0 → words ≡ []
nothing [] none = refl
nothing (word ∷ words) none = absurd (omega (arith, none))

pub no_command : IsWrongWord [] 1
no_command = (
  0,
  refl,
  record {
    within = lit≤ tt;
    before = begins_command;
    wrong = λ h. absurd (omega (arith, h));
    missing = λ e whole. whole.1;
  },
)

pub wrong_command : (word : Word) (rest : List Word) → ((command : Command) → word ≡ command_word command → ⊥) → IsWrongWord (word ∷ rest) 1
wrong_command word rest none = (
  0,
  refl,
  record {
    within = omega arith;
    before = begins_command;
    wrong = λ h begins. none begins.1.1.0 begins.1.1.1;
    missing = λ e. absurd (omega (arith, e));
  },
)

forth : (command : Command) (word : Word) → word ≡ command_word command → (more : List Word) → AreRight command more → IsCommand (word ∷ more)
forth command word is more right = (right.0, (command, is, right.1))

back : (command : Command) (word : Word) → word ≡ command_word command → (more : List Word) → IsCommand (word ∷ more) → AreRight command more
back command word is more whole =
    let same : whole.1.0 ≡ command = one_command whole.1.0 command (sym whole.1.1 ∙ is) in
    subst (λ (c : Command). AreRight c more) same (whole.0, whole.1.2)

pub wrong_behind : (command : Command) (word : Word) (words : List Word) (right : ℕ) → word ≡ command_word command
    → Leaves (AreRight command) words right → IsWrongWord (word ∷ words) (right + 2)
wrong_behind command word words right is leaves = (
  right + 1,
  omega arith,
  rw (sym (next right)) (record {
    within = omega (arith, leaves.within);
    before = (leaves.before.0, forth command word is (take right words ++ leaves.before.0) leaves.before.1);
    wrong = λ h begins. leaves.wrong (omega (arith, h)) (begins.0, back command word is (take (suc right) words ++ begins.0) begins.1);
    missing = λ e whole. leaves.missing (omega (arith, e)) (back command word is words whole);
  }),
)

pub only_order : (command : Command) (word : Word) (words : List Word) (ask other : Asked) → word ≡ command_word command
    → ((one : Asked) → Behind command words one → one ≡ ask) → IsOrder other (word ∷ words) → other ≡ ask
only_order command word words ask other is only order =
    only other (subst (λ (c : Command). Behind c words other) (one_command order.0 command (sym order.1 ∙ is)) order.2)
