-- Which kinds have built-in methods.
use Rattle.std.specs.Prelude.{ℕ, ◌==◌, Option, Some, None, if◌then◌else◌}
use Rattle.ink_base.specs.declared.row.Kind.{Kind}
use Rattle.ink_base.specs.declared.row.Kind.TheVariants as kind
use Rattle.ink_types.specs.declared.kind.TheConstants.{INT, BOOL, STRING, OPTION, ARRAY, STDOUT, FUTURE, PROMISE}

-- the kind that has these built-in methods
abbrev pub kind_of : Kind → ℕ
kind_of kind.Int = INT
kind_of kind.Bool = BOOL
kind_of kind.Str = STRING
kind_of kind.Array = ARRAY
kind_of kind.Option = OPTION
kind_of kind.Future = FUTURE
kind_of kind.Promise = PROMISE
kind_of kind.Stdout = STDOUT

-- the built-in methods that a kind has
abbrev pub row_kind_of : ℕ → Option Kind
row_kind_of number =
    if number == INT then Some kind.Int
    else if number == BOOL then Some kind.Bool
    else if number == STRING then Some kind.Str
    else if number == ARRAY then Some kind.Array
    else if number == OPTION then Some kind.Option
    else if number == FUTURE then Some kind.Future
    else if number == PROMISE then Some kind.Promise
    else if number == STDOUT then Some kind.Stdout
    else None
