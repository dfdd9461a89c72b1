-- The kinds of a module as types.
use Rattle.std.specs.Prelude.{◌++◌, Bool, List}
use Rattle.ink_names.specs.declared.tables.Tables.{Tables}
use Rattle.ink_names.specs.Tables.{kinds}
use Rattle.ink_signatures.specs.Kinds.{are_async, behind_built_ins}
use Rattle.ink_types.specs.Table.{first_kinds}

-- Whether each kind of a module is async, the built-in ones first.
abbrev pub kinds_of : Tables → List Bool
kinds_of tables = first_kinds ++ are_async (behind_built_ins (kinds tables))
