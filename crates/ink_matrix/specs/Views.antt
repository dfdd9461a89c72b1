-- Patterns, types and arms as they are seen.
use Rattle.std.specs.Prelude.{ℕ, cond, List, [], ◌∷◌, map, slice_get, Option, Some, None}
use Rattle.ink_matrix.specs.declared.pattern.Shape as declared_shape
use Rattle.ink_matrix.specs.declared.pattern.Shape.TheVariants as shape
use Rattle.ink_matrix.specs.declared.pattern.Kind as declared_kind
use Rattle.ink_matrix.specs.declared.pattern.Kind.TheVariants as kind
use Rattle.ink_matrix.specs.declared.pattern.Pattern.{Pattern}
use Rattle.ink_matrix.specs.declared.pattern.Arm.{Arm}
use Rattle.ink_matrix.specs.declared.rows.Row as declared_row
use Rattle.ink_matrix.specs.Rows.{Shape, Any, Literal, Case, Kind, Literals, Cases, Row, gather}

abbrev pub shape_of : declared_shape.Shape → Shape
shape_of shape.Any = Any
shape_of (shape.Literal n) = Literal n
shape_of (shape.Case c ps) = Case c ps.items

abbrev pub kind_of : declared_kind.Kind → Kind
kind_of kind.Literals = Literals
kind_of (kind.Cases cs) = Cases (map (λ c. c.items) cs.items)

-- the kind of a type by its number; one that has none is without cases
abbrev pub kind_in : Option declared_kind.Kind → Kind
kind_in None = Cases []
kind_in (Some k) = kind_of k

abbrev pub kind_at : List declared_kind.Kind → ℕ → Kind
kind_at kinds t = kind_in (slice_get kinds t)

abbrev pub shapes_in : Option Pattern → List Shape
shapes_in None = []
shapes_in (Some p) = map shape_of p.alternatives.items

-- the alternatives of a pattern by its number, or of `_`
abbrev pub alternatives : List Pattern → Option ℕ → List Shape
alternatives patterns None = Any ∷ []
alternatives patterns (Some n) = shapes_in (slice_get patterns n)

abbrev pub rows_of : List declared_row.Row → List Row
rows_of rows = map (λ r. r.parts.items) rows

-- the rows of arms: those without a guard
abbrev pub row_of : Arm → List Row
row_of arm = cond arm.is_guarded [] ((arm.pattern ∷ []) ∷ [])

abbrev pub arm_rows : List Arm → List Row
arm_rows arms = gather row_of arms
