use Rattle.std.specs.Prelude.{ℕ, Bool, ◌&&◌, ◌||◌, ◌==◌, nat_lt, List, [], ◌++◌, codes, Option, None, Some}
use Rattle.std.specs.Fmt.{decimal}
use Rattle.ink_base.specs.declared.refusal.Rule.{Rule}
use Rattle.ink_base.specs.declared.refusal.Rule.TheVariants.{NotUtf8, BadToken, IntTooWide, UnendedText, Unexpected, TooDeep, SourceTooLong, UnknownName, DuplicateName, UnknownImport, NoMain, TypeArity, UniArgument, MissingMethod, WrongSignature, DuplicateImpl, BoundUnmet, AsyncNotSendable, WrongType, ArgumentCount, UnknownMember, NotMutable, NeedsAnnotation, JumpOutside, MissingArm, BadPattern, MovedUse, MoveOutOfBorrow, HiddenInRecover, BorrowOfUni, CrossingArgument, CrossingResult, RecoverResult, JumpOutOfRecover}
use Rattle.ink_base.specs.declared.refusal.Place.{Place}
use Rattle.ink_base.specs.declared.refusal.Refusal.{Refusal}

-- the code of a rule, as a number
abbrev pub rule_code : Rule → ℕ
rule_code NotUtf8 = 1
rule_code BadToken = 2
rule_code IntTooWide = 3
rule_code UnendedText = 4
rule_code Unexpected = 5
rule_code TooDeep = 6
rule_code SourceTooLong = 7
rule_code UnknownName = 10
rule_code DuplicateName = 11
rule_code UnknownImport = 12
rule_code NoMain = 13
rule_code TypeArity = 20
rule_code UniArgument = 21
rule_code MissingMethod = 22
rule_code WrongSignature = 23
rule_code DuplicateImpl = 24
rule_code BoundUnmet = 25
rule_code AsyncNotSendable = 26
rule_code WrongType = 30
rule_code ArgumentCount = 31
rule_code UnknownMember = 32
rule_code NotMutable = 33
rule_code NeedsAnnotation = 34
rule_code JumpOutside = 35
rule_code MissingArm = 36
rule_code BadPattern = 38
rule_code MovedUse = 40
rule_code MoveOutOfBorrow = 41
rule_code HiddenInRecover = 50
rule_code BorrowOfUni = 51
rule_code CrossingArgument = 52
rule_code CrossingResult = 53
rule_code RecoverResult = 54
rule_code JumpOutOfRecover = 55

-- the code and the name of a rule
abbrev pub rule_text : Rule → List ℕ
rule_text NotUtf8 = codes "E01 NotUtf8"
rule_text BadToken = codes "E02 BadToken"
rule_text IntTooWide = codes "E03 IntTooWide"
rule_text UnendedText = codes "E04 UnendedText"
rule_text Unexpected = codes "E05 Unexpected"
rule_text TooDeep = codes "E06 TooDeep"
rule_text SourceTooLong = codes "E07 SourceTooLong"
rule_text UnknownName = codes "E10 UnknownName"
rule_text DuplicateName = codes "E11 DuplicateName"
rule_text UnknownImport = codes "E12 UnknownImport"
rule_text NoMain = codes "E13 NoMain"
rule_text TypeArity = codes "E20 TypeArity"
rule_text UniArgument = codes "E21 UniArgument"
rule_text MissingMethod = codes "E22 MissingMethod"
rule_text WrongSignature = codes "E23 WrongSignature"
rule_text DuplicateImpl = codes "E24 DuplicateImpl"
rule_text BoundUnmet = codes "E25 BoundUnmet"
rule_text AsyncNotSendable = codes "E26 AsyncNotSendable"
rule_text WrongType = codes "E30 WrongType"
rule_text ArgumentCount = codes "E31 ArgumentCount"
rule_text UnknownMember = codes "E32 UnknownMember"
rule_text NotMutable = codes "E33 NotMutable"
rule_text NeedsAnnotation = codes "E34 NeedsAnnotation"
rule_text JumpOutside = codes "E35 JumpOutside"
rule_text MissingArm = codes "E36 MissingArm"
rule_text BadPattern = codes "E38 BadPattern"
rule_text MovedUse = codes "E40 MovedUse"
rule_text MoveOutOfBorrow = codes "E41 MoveOutOfBorrow"
rule_text HiddenInRecover = codes "E50 HiddenInRecover"
rule_text BorrowOfUni = codes "E51 BorrowOfUni"
rule_text CrossingArgument = codes "E52 CrossingArgument"
rule_text CrossingResult = codes "E53 CrossingResult"
rule_text RecoverResult = codes "E54 RecoverResult"
rule_text JumpOutOfRecover = codes "E55 JumpOutOfRecover"

-- a line and a column, as a refusal names them
abbrev pub place_text : Place → List ℕ
place_text place = codes "line " ++ decimal place.line ++ codes ", column " ++ decimal place.column

-- what is added where a refusal has a detail
abbrev pub detail_text : Option (List ℕ) → List ℕ
detail_text None = []
detail_text (Some detail) = codes ": " ++ detail

-- how a refusal is told, in one line without its line feed
abbrev pub refusal_text : Refusal → List ℕ
refusal_text refusal =
    rule_text refusal.rule ++ codes " at " ++ place_text refusal.place ++ detail_text refusal.detail

-- whether the first of two refusals of one phase is the one to tell: that at the lesser byte, and at one byte that
-- with the lesser code
abbrev pub is_before : Refusal → Refusal → Bool
is_before a b =
    nat_lt a.place.byte b.place.byte
    || (a.place.byte == b.place.byte && nat_lt (rule_code a.rule) (rule_code b.rule))
