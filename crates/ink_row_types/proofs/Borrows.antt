use Rattle.std.proofs.Common.{◌≡◌, Bool, List, refl}
use Rattle.ink_base.specs.declared.ident.BorrowKind.{BorrowKind}
use Rattle.ink_base.specs.declared.ident.BorrowKind.TheVariants as borrow
use Rattle.ink_types.specs.TypeTerms.{borrow_of, ref_of, mut_of}
use Rattle.ink_row_types.specs.Slots.{item, borrow_of_item}

-- a borrow of a parameter is in normal form, whatever kinds there are
pub borrowed : (kinds : List Bool) (kind : BorrowKind) → borrow_of kinds kind item ≡ borrow_of_item kind
unfolding ref_of mut_of
borrowed kinds borrow.Ref = refl
borrowed kinds borrow.Mut = refl
