-- What holds between the tokens that were read and the symbols that are still to come.
use Rattle.std.proofs.Common.{◌≡◌, true, false, ◌&&◌, List, [], ◌∷◌, ◌++◌, Option, Some, None, refl, sym, ap, subst, ◌∙◌, append_assoc, append-nil}
use Rattle.ink_grammar.specs.declared.symbol.Wanted.{Wanted}
use Rattle.ink_grammar.specs.declared.token.Terminal.{Terminal}
use Rattle.ink_grammar.specs.declared.symbol.Line.{Line}
use Rattle.ink_grammar.specs.declared.symbol.Line.TheVariants as line
use Rattle.ink_grammar.specs.declared.symbol.Nonterminal.{Nonterminal}
use Rattle.ink_grammar.specs.declared.symbol.Nonterminal.TheVariants as part_of
use Rattle.ink_grammar.specs.declared.symbol.ModulePart.TheVariants as module_of
use Rattle.ink_grammar.specs.declared.symbol.Action.{Action}
use Rattle.ink_grammar.specs.declared.symbol.Symbol.{Symbol}
use Rattle.ink_grammar.specs.declared.symbol.Symbol.TheVariants as of
use Rattle.ink_grammar.specs.Grammar.{rules}
use Rattle.ink_grammar.specs.Shapes.{is, stands}
use Rattle.ink_grammar.specs.Machine.{pick, stands_so}
use Rattle.ink_grammar.specs.Tree.{Found, keep, act, is_place}
use Rattle.ink_grammar.specs.Reads.{Derives, Reads, done, token, at_place, part, make}
use Rattle.ink_grammar.proofs.Bools.{and_both, not_both}
use Rattle.ink_grammar.proofs.Checks.{has_no_place, plain}
use Rattle.ink_grammar.proofs.Steps.{Clean, peek, chosen, unchosen, clean_append, is_parted, is_plain, pick_among}
use Rattle.ink_grammar.proofs.Samples.{readable}

abbrev pub start : List Symbol
start = of.Part line.Any (part_of.Module module_of.Module) ∷ []

abbrev pub tail : List Symbol → List Symbol
tail [] = []
tail (x ∷ r) = r

pub record Begun (read : List Terminal) : Type 0 where
  pub more : List Terminal
  pub fin : List Found
  pub reads : Reads start [] (read ++ more) fin

-- However it goes on with the next token, it is a module exactly where the symbols read the rest.
pub record Stands (read : List Terminal) (r : List Symbol) (vs : List Found) (next : Option Terminal) : Type 0 where
  pub forth : (x : List Terminal) (fin : List Found) → peek x ≡ next → Reads start [] (read ++ x) fin → Reads r vs x fin
  pub back : (x : List Terminal) (fin : List Found) → peek x ≡ next → Reads r vs x fin → Reads start [] (read ++ x) fin
  pub begun : Begun read
  pub clean : Clean r
  pub plain : has_no_place (tail r) ≡ true

-- No module begins with these tokens and the next one, or is these tokens where they end.
abbrev pub Refused : List Terminal → Option Terminal → Type 0
Refused read next = (x : List Terminal) (fin : List Found) → peek x ≡ next → Reads start [] (read ++ x) fin → ⊥

clean_start : Clean start
clean_start = (refl, (λ k b e. refl), tt)

pub stands_start : (next : Option Terminal) → Stands [] start [] next
stands_start next = let d = readable start [] clean_start refl in
    record { forth = λ x fin e d. d; back = λ x fin e d. d; begun = record { more = d.tokens; fin = d.fin; reads = d.reads }; clean = clean_start; plain = refl }

un_token : {l : Line} {w : Wanted} {r : List Symbol} {vs : List Found} {t : Terminal} {ts : List Terminal} {fin : List Found} → Reads (of.Token l w ∷ r) vs (t ∷ ts) fin → Reads r (keep w t vs) ts fin
un_token (token p q d) = d

un_place : {w : Wanted} {r : List Symbol} {vs : List Found} {t : Terminal} {ts : List Terminal} {fin : List Found} → Reads (of.Place w ∷ r) vs (t ∷ ts) fin → Reads r (keep w t vs) ts fin
un_place (at_place o p q d) = d

un_make : {a : Action} {r : List Symbol} {vs : List Found} {ts : List Terminal} {fin : List Found} → Reads (of.Do a ∷ r) vs ts fin → Reads r (act a vs) ts fin
un_make (make d) = d

place_tail : (r : List Symbol) → has_no_place r ≡ true → has_no_place (tail r) ≡ true
place_tail [] e = refl
place_tail (of.Token l w ∷ r) e = e
place_tail (of.Place w ∷ r) e = cc
place_tail (of.Part l n ∷ r) e = e
place_tail (of.Do a ∷ r) e = e

no_place_append : (r s : List Symbol) → has_no_place r ≡ true → has_no_place s ≡ true → has_no_place (r ++ s) ≡ true
no_place_append [] s e f = f
no_place_append (of.Token l w ∷ r) s e f = no_place_append r s e f
no_place_append (of.Place w ∷ r) s e f = cc
no_place_append (of.Part l n ∷ r) s e f = no_place_append r s e f
no_place_append (of.Do a ∷ r) s e f = no_place_append r s e f

plain_append : (r s : List Symbol) → plain r ≡ true → has_no_place s ≡ true → has_no_place (tail (r ++ s)) ≡ true
plain_append [] s e f = place_tail s f
plain_append (x ∷ r) s e f = no_place_append r s e f

some_same : {A : Type 0} {x y : A} → Some x ≡ Some y → x ≡ y
some_same e = cc

token_stuck : {l : Line} {w : Wanted} {r : List Symbol} {vs : List Found} {x : List Terminal} {fin : List Found} → Reads (of.Token l w ∷ r) vs x fin → (next : Option Terminal) → peek x ≡ next → (t : Terminal) × (next ≡ Some t) × (stands l t.new_line ≡ true) × (is w t.shape ≡ true)
token_stuck (token {t = t} p q d) next e = (t, sym e, p, q)

place_stuck : {w : Wanted} {r : List Symbol} {vs : List Found} {x : List Terminal} {fin : List Found} → Reads (of.Place w ∷ r) vs x fin → (next : Option Terminal) → peek x ≡ next → (t : Terminal) × (next ≡ Some t) × (is_place vs ≡ true) × (t.new_line ≡ false) × (is w t.shape ≡ true)
place_stuck (at_place {t = t} o p q d) next e = (t, sym e, o, p, q)

nothing_left : {vs : List Found} {x : List Terminal} {fin : List Found} → Reads [] vs x fin → (x ≡ []) × (fin ≡ vs)
nothing_left done = (refl, refl)

module _ (read : List Terminal) (r : List Symbol) (vs : List Found) where
  pub stands_make : (a : Action) (next : Option Terminal) → Stands read (of.Do a ∷ r) vs next → Stands read r (act a vs) next
  stands_make a next h = record {
    forth = λ x fin e d. un_make (h.forth x fin e d);
    back = λ x fin e d. h.back x fin e (make d);
    begun = h.begun;
    clean = h.clean;
    plain = place_tail r h.plain;
  }

  pub stands_token : (l : Line) (w : Wanted) (t : Terminal) (next : Option Terminal) → stands l t.new_line ≡ true → is w t.shape ≡ true → Stands read (of.Token l w ∷ r) vs (Some t) → Stands (read ++ t ∷ []) r (keep w t vs) next
  stands_token l w t next p q h =
      let d = readable r (keep w t vs) h.clean h.plain in
      record {
        forth = λ x fin e c. un_token (h.forth (t ∷ x) fin refl (subst (λ y. Reads start [] y fin) (append_assoc read (t ∷ []) x) c));
        back = λ x fin e c. subst (λ y. Reads start [] y fin) (sym (append_assoc read (t ∷ []) x)) (h.back (t ∷ x) fin refl (token p q c));
        begun = record { more = d.tokens; fin = d.fin; reads = subst (λ y. Reads start [] y d.fin) (sym (append_assoc read (t ∷ []) d.tokens)) (h.back (t ∷ d.tokens) d.fin refl (token p q d.reads)) };
        clean = h.clean;
        plain = place_tail r h.plain;
      }

  pub stands_place : (w : Wanted) (t : Terminal) (next : Option Terminal) → is_place vs ≡ true → t.new_line ≡ false → is w t.shape ≡ true → Stands read (of.Place w ∷ r) vs (Some t) → Stands (read ++ t ∷ []) r (keep w t vs) next
  stands_place w t next o p q h =
      let d = readable r (keep w t vs) h.clean h.plain in
      record {
        forth = λ x fin e c. un_place (h.forth (t ∷ x) fin refl (subst (λ y. Reads start [] y fin) (append_assoc read (t ∷ []) x) c));
        back = λ x fin e c. subst (λ y. Reads start [] y fin) (sym (append_assoc read (t ∷ []) x)) (h.back (t ∷ x) fin refl (at_place o p q c));
        begun = record { more = d.tokens; fin = d.fin; reads = subst (λ y. Reads start [] y d.fin) (sym (append_assoc read (t ∷ []) d.tokens)) (h.back (t ∷ d.tokens) d.fin refl (at_place o p q d.reads)) };
        clean = h.clean;
        plain = place_tail r h.plain;
      }

  pub stands_part : (l : Line) (n : Nonterminal) (rule : List Symbol) (next : Option Terminal) → stands_so l next ≡ true → pick (rules n) next ≡ Some rule → Stands read (of.Part l n ∷ r) vs next → Stands read (rule ++ r) vs next
  stands_part l n rule next o p h =
      let a = pick_among (rules n) next rule p in
      record {
        forth = λ x fin e d. let c = chosen h.clean.1 (h.forth x fin e d) in
            let same_rule : c.rule ≡ rule = some_same (sym c.picked ∙ ap (pick (rules n)) e ∙ p) in
            subst (λ y. Reads (y ++ r) vs x fin) same_rule c.reads;
        back = λ x fin e d. h.back x fin e (unchosen l n rule r h.clean.0 (ap (stands_so l) e ∙ o) a d);
        begun = h.begun;
        clean = clean_append n rule r (is_parted n rule a) h.clean.1 h.clean.2;
        plain = plain_append rule r (is_plain n rule a) h.plain;
      }

  pub stuck_part : (l : Line) (n : Nonterminal) (next : Option Terminal) → stands_so l next ≡ false → Stands read (of.Part l n ∷ r) vs next → Refused read next
  stuck_part l n next o h x fin e d = let c = chosen h.clean.1 (h.forth x fin e d) in not_both c.stood (ap (stands_so l) e ∙ o)

  pub stuck_rule : (l : Line) (n : Nonterminal) (next : Option Terminal) → pick (rules n) next ≡ None → Stands read (of.Part l n ∷ r) vs next → Refused read next
  stuck_rule l n next p h x fin e d = let c = chosen h.clean.1 (h.forth x fin e d) in let bad : Some c.rule ≡ None = sym c.picked ∙ ap (pick (rules n)) e ∙ p in cc

  pub stuck_token : (l : Line) (w : Wanted) (next : Option Terminal) → ((t : Terminal) → next ≡ Some t → stands l t.new_line && is w t.shape ≡ false) → Stands read (of.Token l w ∷ r) vs next → Refused read next
  stuck_token l w next f h x fin e d =
      let c = token_stuck (h.forth x fin e d) next e in
      not_both (and_both (stands l c.0.new_line) (is w c.0.shape) c.2 c.3) (f c.0 c.1)

  pub stuck_place : (w : Wanted) (next : Option Terminal) → ((t : Terminal) → next ≡ Some t → is_place vs ≡ true → t.new_line ≡ false → is w t.shape ≡ true → ⊥) → Stands read (of.Place w ∷ r) vs next → Refused read next
  stuck_place w next f h x fin e d =
      let c = place_stuck (h.forth x fin e d) next e in
      f c.0 c.1 c.2 c.3 c.4

pub stuck_end : (read : List Terminal) (vs : List Found) (t : Terminal) → Stands read [] vs (Some t) → Refused read (Some t)
stuck_end read vs t h x fin e d = let c = nothing_left (h.forth x fin e d) in let bad : peek [] ≡ Some t = sym (ap peek c.0) ∙ e in cc

pub finished : (read : List Terminal) (vs : List Found) → Stands read [] vs None → Reads start [] read vs
finished read vs h = subst (λ y. Reads start [] y vs) (append-nil read) (h.back [] vs refl done)

pub only_one : (read : List Terminal) (vs fin : List Found) → Stands read [] vs None → Reads start [] read fin → fin ≡ vs
only_one read vs fin h d = (nothing_left (h.forth [] fin refl (subst (λ y. Reads start [] y fin) (sym (append-nil read)) d))).1

-- in the words of the grammar
un_part : {l : Line} {n : Nonterminal} {vs : List Found} {x : List Terminal} {fin : List Found} → Reads (of.Part l n ∷ []) vs x fin → Derives n vs x fin
un_part {n = n} {vs = vs} {fin = fin} (part {us = us} {ws = ws} d o c e) =
    let g = nothing_left c in
    subst (λ y. Derives n vs y fin) (sym (append-nil us) ∙ ap (λ y. us ++ y) (sym g.0) ∙ sym e) (subst (λ y. Derives n vs us y) (sym g.1) d)

pub derived : {x : List Terminal} {fin : List Found} → Reads start [] x fin → Derives (part_of.Module module_of.Module) [] x fin
derived d = un_part d

pub underived : {x : List Terminal} {fin : List Found} → Derives (part_of.Module module_of.Module) [] x fin → Reads start [] x fin
underived {x} d = part d tt done (sym (append-nil x))
