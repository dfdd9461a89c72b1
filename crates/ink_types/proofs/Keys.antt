-- The test by which keys are told apart.
use Rattle.std.proofs.Common.{◌≡◌, Bool, true, false, refl, ap, eqb, eq-eqb, ◌&&◌}
use Rattle.std.proofs.lemmas.Bool.{eqb-true}
use Rattle.ink_types.specs.declared.term.Term.{Term}
use Rattle.ink_types.specs.declared.term.Term.TheVariants as term
use Rattle.ink_types.specs.declared.term.ArgumentList.{ArgumentList}
use Rattle.ink_types.specs.declared.term.ArgumentList.TheVariants as list
use Rattle.ink_types.specs.declared.term.Key.{Key}
use Rattle.ink_types.specs.declared.term.Key.TheVariants as key
use Rattle.ink_types.specs.contracts.term.KeyPartialEq.TheImpl as k
use Rattle.ink_types.specs.contracts.term.TermPartialEq.TheImpl as t
use Rattle.ink_types.specs.contracts.term.ArgumentListPartialEq.TheImpl as l

list_true : (a b : ArgumentList) → l.eq-value.it a b ≡ true → a ≡ b
list_true list.Empty list.Empty e = refl
list_true (list.Cell m) (list.Cell n) e = ap list.Cell (eqb-true m n e)
list_true list.Empty (list.Cell n) e = cc
list_true (list.Cell m) list.Empty e = cc

list_refl : (a : ArgumentList) → l.eq-value.it a a ≡ true
list_refl list.Empty = refl
list_refl (list.Cell n) = eq-eqb n n refl

both : (a b : Bool) → (a && b) ≡ true → (a ≡ true) × (b ≡ true)
both true b e = (refl, e)
both false b e = cc

and_both : (a b : Bool) → a ≡ true → b ≡ true → (a && b) ≡ true
and_both true b g h = h
and_both false b g h = cc

term_true : (a b : Term) → t.eq-value.it a b ≡ true → a ≡ b
term_true (term.Parameter m) (term.Parameter n) e = ap term.Parameter (eqb-true m n e)
term_true (term.Of i xs) (term.Of j ys) e =
    let p = both (eqb i j) (l.eq-value.it xs ys) e in
    let q : i ≡ j = eqb-true i j p.0 in
    let r : xs ≡ ys = list_true xs ys p.1 in
    cc
term_true (term.Ref m) (term.Ref n) e = ap term.Ref (eqb-true m n e)
term_true (term.Mut m) (term.Mut n) e = ap term.Mut (eqb-true m n e)
term_true (term.Uni m) (term.Uni n) e = ap term.Uni (eqb-true m n e)
term_true _ _ e = cc

term_refl : (a : Term) → t.eq-value.it a a ≡ true
term_refl (term.Parameter n) = eq-eqb n n refl
term_refl (term.Of i xs) = and_both (eqb i i) (l.eq-value.it xs xs) (eq-eqb i i refl) (list_refl xs)
term_refl (term.Ref n) = eq-eqb n n refl
term_refl (term.Mut n) = eq-eqb n n refl
term_refl (term.Uni n) = eq-eqb n n refl

pub key_true : (a b : Key) → k.eq-value.it a b ≡ true → a ≡ b
key_true (key.Term x) (key.Term y) e = ap key.Term (term_true x y e)
key_true (key.Arguments x xs) (key.Arguments y ys) e =
    let p = both (eqb x y) (l.eq-value.it xs ys) e in
    let q : x ≡ y = eqb-true x y p.0 in
    let r : xs ≡ ys = list_true xs ys p.1 in
    cc
key_true _ _ e = cc

pub key_refl : (a : Key) → k.eq-value.it a a ≡ true
key_refl (key.Term x) = term_refl x
key_refl (key.Arguments x xs) = and_both (eqb x x) (l.eq-value.it xs xs) (eq-eqb x x refl) (list_refl xs)
