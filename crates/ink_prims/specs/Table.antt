-- The table, and what a look-up finds in it.
use Rattle.std.specs.Prelude.{ℕ, ◌&&◌, Option, List, position, map}
use Rattle.std.specs.Str.{bytes_eq}
use Rattle.ink_base.specs.declared.row.Kind.{Kind}
use Rattle.ink_base.specs.Rows.{rows}
use Rattle.ink_prims.specs.declared.row.Row.{Row}
use Rattle.ink_prims.specs.Row.{RowView, is_same_kind, is_row_of, row_of, view_of}

-- how many rows there are
abbrev pub row_count : ℕ
row_count = 48

-- the rows of the definitions, as they are kept
unfoldable pub table_rows : List RowView
table_rows = map row_of rows

-- the number of the first of these rows that is that type's method of that name
abbrev pub number_in : List Row → List ℕ → Kind → Option ℕ
number_in kept name kind = position (λ row. is_row_of name kind (view_of row)) kept

-- the number that a type's method of that name has among the built-in methods, where there is one
unfoldable pub number_of : List ℕ → Kind → Option ℕ
number_of name kind = position (λ row. bytes_eq row.name name && is_same_kind row.receiver kind) rows
