-- Which kinds of a module are async.
use Rattle.std.specs.Prelude.{Bool, true, false, List, map, drop}
use Rattle.ink_forms.specs.declared.declaration.TypeForm.{TypeForm}
use Rattle.ink_forms.specs.declared.declaration.TypeForm.TheVariants as form
use Rattle.ink_names.specs.declared.kind.KindEntry.{KindEntry}

abbrev pub is_async : TypeForm → Bool
is_async form.Plain = false
is_async form.Async = true
is_async form.Enum = false

-- whether each of these types is async
abbrev pub are_async : List KindEntry → List Bool
are_async entries = map (λ entry. is_async entry.form) entries

-- the types behind the built-in ones
abbrev pub behind_built_ins : List KindEntry → List KindEntry
behind_built_ins entries = drop 13 entries
