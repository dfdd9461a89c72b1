use Rattle.std.specs.Prelude.{ℕ, refl}
use Rattle.std.specs.declared.cmp.Ordering.{Ordering}
use Rattle.std.specs.Ordering.{nat_cmp, ordering_then}
use Rattle.std.specs.Coded.{Coded, code_by, coded×, coded_ℕ}
use Rattle.ink_base.specs.declared.ident.ObjectId.{ObjectId}

-- the order of objects: by the process that made them, and then by number
abbrev pub id_cmp : ObjectId → ObjectId → Ordering
id_cmp a b = ordering_then (nat_cmp a.process b.process) (nat_cmp a.serial b.serial)

-- an object's name is stored as the pair of its numbers, for a model that holds a map from objects
abbrev pub coded_id : Coded ObjectId
coded_id =
    code_by (ℕ × ℕ) (coded× coded_ℕ coded_ℕ) (λ id. (id.process, id.serial)) (λ p. record { process = p.0; serial = p.1 }) (λ _. refl)
