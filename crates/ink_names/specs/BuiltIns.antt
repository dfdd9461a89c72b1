-- The built-in types: their kinds, names and numbers of parameters.
use Rattle.std.specs.Prelude.{ℕ, List, codes}
use Rattle.ink_names.specs.declared.built_in.BuiltIn.{BuiltIn}
use Rattle.ink_names.specs.declared.built_in.BuiltIn.TheVariants as kind

abbrev pub kind_of : BuiltIn → ℕ
kind_of kind.Int = 0
kind_of kind.Bool = 1
kind_of kind.String = 2
kind_of kind.Nil = 3
kind_of kind.Never = 4
kind_of kind.Option = 5
kind_of kind.Result = 6
kind_of kind.Array = 7
kind_of kind.Tuple2 = 8
kind_of kind.Tuple3 = 9
kind_of kind.Stdout = 10
kind_of kind.Future = 11
kind_of kind.Promise = 12

abbrev pub name_of : BuiltIn → List ℕ
name_of kind.Int = codes "Int"
name_of kind.Bool = codes "Bool"
name_of kind.String = codes "String"
name_of kind.Nil = codes "Nil"
name_of kind.Never = codes "Never"
name_of kind.Option = codes "Option"
name_of kind.Result = codes "Result"
name_of kind.Array = codes "Array"
name_of kind.Tuple2 = codes "Tuple2"
name_of kind.Tuple3 = codes "Tuple3"
name_of kind.Stdout = codes "Stdout"
name_of kind.Future = codes "Future"
name_of kind.Promise = codes "Promise"

abbrev pub arity_of : BuiltIn → ℕ
arity_of kind.Int = 0
arity_of kind.Bool = 0
arity_of kind.String = 0
arity_of kind.Nil = 0
arity_of kind.Never = 0
arity_of kind.Option = 1
arity_of kind.Result = 2
arity_of kind.Array = 1
arity_of kind.Tuple2 = 2
arity_of kind.Tuple3 = 3
arity_of kind.Stdout = 0
arity_of kind.Future = 1
arity_of kind.Promise = 1
