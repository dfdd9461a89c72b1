-- What a parser's state says at its ends.
use Rattle.std.proofs.Common.{◌≡◌, ℕ, ◌+◌, ◌-◌, ◌<◌, ◌≤◌, List, [], ◌∷◌, ◌++◌, length, take, get_or, Option, Some, None, sym, ap, subst, ◌∙◌, append_assoc, append-nil, arith}
use Rattle.std.specs.Prelude.{slice_get}
use Rattle.std.proofs.lemmas.List.{take_more}
use Rattle.std.proofs.lemmas.Option.{slice_get_past, slice_get_within, get_or_from_slice_get, slice_get-get_or}
use Rattle.std.proofs.lemmas.List.{take_all}
use Rattle.ink_grammar.specs.declared.token.Terminal.{Terminal}
use Rattle.ink_grammar.specs.declared.parser.ParseError.TheVariants.{Unexpected}
use Rattle.ink_grammar.specs.declared.symbol.Symbol.{Symbol}
use Rattle.ink_grammar.specs.Tree.{Tree, Found, first}
use Rattle.ink_grammar.specs.Reads.{Reads}
use Rattle.ink_grammar.specs.Language.{Parses, Begins}
use Rattle.ink_grammar.specs.Faults.{IsFault}
use Rattle.ink_grammar.proofs.Runs.{start, Stands, Begun, Refused, derived, underived, stuck_end, finished, only_one, stands_start, stands_make, stands_token, stands_place, stands_part, stuck_token, stuck_place, stuck_part, stuck_rule}
use Rattle.std.proofs.Common.{◌&&◌, ◌⊎◌, inl, inr, true, false}
use Rattle.ink_grammar.specs.declared.symbol.Wanted.{Wanted}
use Rattle.ink_grammar.specs.declared.symbol.Line.{Line}
use Rattle.ink_grammar.specs.declared.symbol.Nonterminal.{Nonterminal}
use Rattle.ink_grammar.specs.declared.symbol.Action.{Action}
use Rattle.ink_grammar.specs.declared.symbol.Symbol.TheVariants as of
use Rattle.ink_grammar.specs.Grammar.{rules}
use Rattle.ink_grammar.specs.Shapes.{is, stands}
use Rattle.ink_grammar.specs.Machine.{pick, stands_so}
use Rattle.ink_grammar.specs.Tree.{keep, act, is_place}
use Rattle.ink_grammar.proofs.Measure.{work, work_part}
use Rattle.ink_grammar.proofs.Cases.{from, to}

pub one_more : (ts : List Terminal) (at : ℕ) (t : Terminal) → slice_get ts at ≡ Some t → take (at + 1) ts ≡ take at ts ++ t ∷ []
one_more ts at t e = take_more ts at t (slice_get_within ts at t e) ∙ ap (λ x. take at ts ++ x ∷ []) (get_or_from_slice_get ts at t t e)

parsed : {ts : List Terminal} {fin : List Found} → Reads start [] ts fin → Parses ts (first fin)
parsed d = let c = to (derived d) in (c.0, c.1, sym (ap first c.2))

unparsed : {ts : List Terminal} {tree : Tree} → (p : Parses ts tree) → Reads start [] ts (p.0 ∷ [])
unparsed p = underived (from p.1 [])

begins : {read : List Terminal} → Begun read → Begins read
begins b = (b.more, first b.fin, parsed b.reads)

some_at : (ts : List Terminal) (at : ℕ) → at < length ts → (t : Terminal) × (slice_get ts at ≡ Some t)
some_at [] at h = let bad : ⊥ = omega arith in absurd bad
some_at (t ∷ ts) at h = (get_or (t ∷ ts) at t, slice_get-get_or (t ∷ ts) at t h)

pub refused : (ts : List Terminal) (at : ℕ) {r : List Symbol} {vs : List Found} → at ≤ length ts → Stands (take at ts) r vs (slice_get ts at) → Refused (take at ts) (slice_get ts at) → IsFault ts (Unexpected at)
refused ts at h s n = (
  h,
  begins s.begun,
  (λ l b. let t = some_at ts at l in
      n (t.0 ∷ b.0) (b.2.0 ∷ []) (sym t.1) (subst (λ x. Reads start [] x (b.2.0 ∷ [])) (ap (λ x. x ++ b.0) (one_more ts at t.0 t.1) ∙ append_assoc (take at ts) (t.0 ∷ []) b.0) (unparsed b.2))),
  (λ e tree p. n [] (p.0 ∷ []) (sym (slice_get_past ts at (omega arith))) (subst (λ x. Reads start [] x (p.0 ∷ [])) (sym (append-nil (take at ts) ∙ ap (λ n. take n ts) e ∙ take_all (length ts) ts (omega arith))) (unparsed p))),
)

-- One turn of the parser, in its own words: the symbol x is taken off the stack s, and o is the next token.
module _ (ts : List Terminal) (at : ℕ) (s r : List Symbol) (x : Symbol) (vs : List Found) (o : Option Terminal) (e : s ≡ x ∷ r) (f : o ≡ slice_get ts at) (h : Stands (take at ts) s vs (slice_get ts at)) where
  now_at : (y : Symbol) → x ≡ y → Stands (take at ts) (y ∷ r) vs o
  now_at y g =
      let k = subst (λ z. Stands (take at ts) z vs (slice_get ts at)) (e ∙ ap (λ z. z ∷ r) g) h in
      subst (λ z. Stands (take at ts) (y ∷ r) vs z) (sym f) k

  out : Refused (take at ts) o → at ≤ length ts → IsFault ts (Unexpected at)
  out n k = refused ts at k h (subst (λ z. Refused (take at ts) z) f n)

  pub made_in : (a : Action) (vs' : List Found) → x ≡ of.Do a → vs' ≡ act a vs → Stands (take at ts) r vs' (slice_get ts at)
  made_in a vs' g v =
      let k = stands_make (take at ts) r vs a o (now_at (of.Do a) g) in
      subst (λ z. Stands (take at ts) r z (slice_get ts at)) (sym v) (subst (λ z. Stands (take at ts) r (act a vs) z) f k)

  pub token_in : (l : Line) (w : Wanted) (t : Terminal) (vs' : List Found) → x ≡ of.Token l w → o ≡ Some t → stands l t.new_line ≡ true → is w t.shape ≡ true → vs' ≡ keep w t vs → Stands (take (at + 1) ts) r vs' (slice_get ts (at + 1))
  token_in l w t vs' g m p q v =
      let k = stands_token (take at ts) r vs l w t (slice_get ts (at + 1)) p q (subst (λ z. Stands (take at ts) (of.Token l w ∷ r) vs z) m (now_at (of.Token l w) g)) in
      subst (λ z. Stands (take (at + 1) ts) r z (slice_get ts (at + 1))) (sym v)
      (subst (λ z. Stands z r (keep w t vs) (slice_get ts (at + 1))) (sym (one_more ts at t (sym f ∙ m))) k)

  pub place_in : (w : Wanted) (t : Terminal) (vs' : List Found) → x ≡ of.Place w → o ≡ Some t → is_place vs ≡ true → t.new_line ≡ false → is w t.shape ≡ true → vs' ≡ keep w t vs → Stands (take (at + 1) ts) r vs' (slice_get ts (at + 1))
  place_in w t vs' g m b p q v =
      let k = stands_place (take at ts) r vs w t (slice_get ts (at + 1)) b p q (subst (λ z. Stands (take at ts) (of.Place w ∷ r) vs z) m (now_at (of.Place w) g)) in
      subst (λ z. Stands (take (at + 1) ts) r z (slice_get ts (at + 1))) (sym v)
      (subst (λ z. Stands z r (keep w t vs) (slice_get ts (at + 1))) (sym (one_more ts at t (sym f ∙ m))) k)

  pub part_in : (l : Line) (n : Nonterminal) (rule s' : List Symbol) → x ≡ of.Part l n → stands_so l o ≡ true → pick (rules n) o ≡ Some rule → s' ≡ rule ++ r → Stands (take at ts) s' vs (slice_get ts at)
  part_in l n rule s' g p q m =
      let k = stands_part (take at ts) r vs l n rule o p q (now_at (of.Part l n) g) in
      subst (λ z. Stands (take at ts) z vs (slice_get ts at)) (sym m) (subst (λ z. Stands (take at ts) (rule ++ r) vs z) f k)

  pub part_shrinks : (l : Line) (n : Nonterminal) (rule s' : List Symbol) → x ≡ of.Part l n → pick (rules n) o ≡ Some rule → s' ≡ rule ++ r → work s' (length ts - at) < work s (length ts - at)
  part_shrinks l n rule s' g q m =
      let k = work_part l n rule r (length ts - at) o q (λ t b. let d = slice_get_within ts at t (sym f ∙ b) in omega arith) in
      subst (λ z. work s' (length ts - at) < work z (length ts - at)) (sym (e ∙ ap (λ z. z ∷ r) g)) (subst (λ z. work z (length ts - at) < work (of.Part l n ∷ r) (length ts - at)) (sym m) k)

  pub token_out : (l : Line) (w : Wanted) → x ≡ of.Token l w → ((t : Terminal) → o ≡ Some t → stands l t.new_line && is w t.shape ≡ false) → at ≤ length ts → IsFault ts (Unexpected at)
  token_out l w g n = out (stuck_token (take at ts) r vs l w o n (now_at (of.Token l w) g))

  pub place_out : (w : Wanted) → x ≡ of.Place w → ((t : Terminal) → o ≡ Some t → is_place vs ≡ true → t.new_line ≡ false → is w t.shape ≡ true → ⊥) → at ≤ length ts → IsFault ts (Unexpected at)
  place_out w g n = out (stuck_place (take at ts) r vs w o n (now_at (of.Place w) g))

  part_out : (l : Line) (n : Nonterminal) → x ≡ of.Part l n → stands_so l o ≡ false → at ≤ length ts → IsFault ts (Unexpected at)
  part_out l n g p = out (stuck_part (take at ts) r vs l n o p (now_at (of.Part l n) g))

  rule_out : (l : Line) (n : Nonterminal) → x ≡ of.Part l n → pick (rules n) o ≡ None → at ≤ length ts → IsFault ts (Unexpected at)
  rule_out l n g p = out (stuck_rule (take at ts) r vs l n o p (now_at (of.Part l n) g))

  pub part_refused : (l : Line) (n : Nonterminal) → x ≡ of.Part l n → (stands_so l o ≡ false) ⊎ (pick (rules n) o ≡ None) → at ≤ length ts → IsFault ts (Unexpected at)
  part_refused l n g (inl p) = part_out l n g p
  part_refused l n g (inr p) = rule_out l n g p

pub begun_in : (ts : List Terminal) (s : List Symbol) (vs : List Found) → s ≡ start → vs ≡ [] → Stands [] s vs (slice_get ts 0)
begun_in ts s vs e v =
    subst (λ z. Stands [] z vs (slice_get ts 0)) (sym e) (subst (λ z. Stands [] start z (slice_get ts 0)) (sym v) (stands_start (slice_get ts 0)))

-- no symbol is left
module _ (ts : List Terminal) (at : ℕ) (s : List Symbol) (vs : List Found) (e : s ≡ []) (h : Stands (take at ts) s vs (slice_get ts at)) where
  ended : (o : Option Terminal) → slice_get ts at ≡ o → Stands (take at ts) [] vs o
  ended o f = subst (λ z. Stands (take at ts) [] vs z) f (subst (λ z. Stands (take at ts) z vs (slice_get ts at)) e h)

  pub end_out : at < length ts → IsFault ts (Unexpected at)
  end_out k = let t = some_at ts at k in
      refused ts at (omega arith) h (subst (λ z. Refused (take at ts) z) (sym t.1) (stuck_end (take at ts) vs t.0 (ended (Some t.0) t.1)))

  module _ (k : length ts ≤ at) where
    all_read : take at ts ≡ ts
    all_read = take_all at ts k

    last : Stands (take at ts) [] vs None
    last = ended None (slice_get_past ts at k)

    pub end_parsed : (tree : Tree) → tree ≡ first vs → Parses ts tree
    end_parsed tree g = subst (λ z. Parses ts z) (sym g) (parsed (subst (λ z. Reads start [] z vs) all_read (finished (take at ts) vs last)))

    pub end_only : (tree : Tree) → tree ≡ first vs → (t : Tree) → Parses ts t → t ≡ tree
    end_only tree g t p = sym p.2 ∙ ap first (only_one (take at ts) vs (p.0 ∷ []) last (subst (λ z. Reads start [] z (p.0 ∷ [])) (sym all_read) (unparsed p))) ∙ sym g
