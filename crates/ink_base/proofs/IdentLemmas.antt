-- The order of objects' names is total, and it tells every two names apart: what a map from objects rests on.
use Rattle.std.proofs.Common.{ℕ, ap}
use Rattle.std.specs.Ordering.{nat_cmp}
use Rattle.std.specs.Cmp.{IsTotalOrder, nat_cmp_total, on_total, then_total}
use Rattle.std.proofs.lemmas.Map.Lookups.{CmpEqualImpliesEq, exact_pairs, exact_unsigned}
use Rattle.ink_base.specs.declared.ident.ObjectId.{ObjectId}
use Rattle.ink_base.specs.Ident.{id_cmp}

pub id_cmp_total : IsTotalOrder id_cmp
id_cmp_total = then_total (on_total (λ id. id.process) nat_cmp_total) (on_total (λ id. id.serial) nat_cmp_total)

pub id_cmp_exact : CmpEqualImpliesEq id_cmp
id_cmp_exact a b equal =
    let id : ℕ × ℕ → ObjectId = λ (p : ℕ × ℕ). record { process = p.0; serial = p.1 } in
    ap id (exact_pairs nat_cmp nat_cmp exact_unsigned exact_unsigned (a.process, a.serial) (b.process, b.serial) equal)
