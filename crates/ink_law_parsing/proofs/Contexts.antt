-- Expressions are read as they were printed, in each context in which an expression may stand.
use Rattle.std.proofs.Common.{◌≡◌, ℕ, Bool, true, false, List, [], ◌∷◌, ◌++◌, Some, refl, sym, ap, subst, ◌∙◌, append-nil}
use Rattle.ink_grammar.specs.declared.token.Mark.TheVariants as mark
use Rattle.ink_grammar.specs.declared.token.Shape.TheVariants as shape
use Rattle.ink_grammar.specs.declared.token.Terminal.{Terminal}
use Rattle.ink_grammar.specs.declared.symbol.Line.TheVariants as line_of
use Rattle.ink_grammar.specs.Tree.{Tree, Found, leaf, in_parentheses}
use Rattle.ink_grammar.specs.Reads.{Opens}
use Rattle.ink_grammar.specs.Parts.{Expression, Chain, ChainRest, Operand, Links, Primary}
use Rattle.ink_grammar.specs.Productions.{Is, is_expression_2, is_after_operand_2, is_chain, is_chain_rest_3, is_links_2, is_operand_2, is_unnamed_operand_5, is_primary_3, is_parenthesis_rest_1}
use Rattle.ink_print.specs.declared.context.Context.{Context}
use Rattle.ink_print.specs.declared.context.Context.TheVariants as context
use Rattle.ink_print.specs.declared.step.Piece.{Piece}
use Rattle.ink_print.specs.declared.step.Piece.TheVariants as piece
use Rattle.ink_print.specs.declared.step.Sign.TheVariants as sign
use Rattle.ink_print.specs.Printed.{printed}
use Rattle.ink_law_categories.specs.Spells.{Spells, nothing, a_sign}
use Rattle.ink_law_categories.specs.Alike.{Alike}
use Rattle.ink_law_parsing.proofs.Steps.{Split, both, split_at}
use Rattle.ink_law_parsing.proofs.Words.{has_sign}
use Rattle.ink_law_parsing.proofs.Lists.{ReadAs}

-- there are tokens, and the first of them begins a line, or doesn't
abbrev pub Headed : Bool → List Terminal → Type 0
Headed line [] = ⊥
Headed line (t ∷ ts) = t.new_line ≡ line

pub headed_both : (line : Bool) (us ws : List Terminal) → Headed line us → Headed line (us ++ ws)
headed_both line [] ws h = elim h [ ]
headed_both line (t ∷ us) ws h = h

pub opens_same : (us : List Terminal) → Headed false us → Opens line_of.Same us
opens_same [] h = h
opens_same (t ∷ us) h = h

pub opens_fresh : (us : List Terminal) → Headed true us → Opens line_of.Fresh us
opens_fresh [] h = h
opens_fresh (t ∷ us) h = h

-- a value that is read from tokens that stand on a line, alike a tree
pub record At (source print : List ℕ) (K : List Terminal → Found → Type 0) (a : Tree) (line end : Bool) (us : List Terminal) : Type 0 where
  pub value : Found
  pub kind : K us value
  pub alike : Alike source print a value.tree
  pub headed : Headed line us
  pub ended : end ≡ false

pub at_widened : {source print : List ℕ} {K L : List Terminal → Found → Type 0} {a : Tree} {line end : Bool} {us : List Terminal} → ((u : List Terminal) (v : Found) → K u v → L u v) → At source print K a line end us → At source print L a line end us
at_widened f r = record { value = r.value; kind = f _ _ r.kind; alike = r.alike; headed = r.headed; ended = r.ended }

pub read_of : {source print : List ℕ} {K : List Terminal → Found → Type 0} {a : Tree} {line end : Bool} {us : List Terminal} → At source print K a line end us → ReadAs source print K a us
read_of r = record { value = r.value; kind = r.kind; alike = r.alike }

-- an operand and the rest of its chain
pub data Opened : List Terminal → Found → Type 0 where
  opened : {us ws : List Terminal} {v x : Found} → Is Operand [] us v → Is ChainRest (v ∷ []) ws x → Opened (us ++ ws) x

-- what the rest of a chain may follow
abbrev pub Chained : List Terminal → Found → Type 0
Chained us v = (w : List Terminal) (x : Found) → Is ChainRest (v ∷ []) w x → Opened (us ++ w) x

-- what links may follow
abbrev pub Linkable : List Terminal → Found → Type 0
Linkable us v = (w : List Terminal) (x : Found) → Is Links (v ∷ []) w x → Is Operand [] (us ++ w) x

pub linkable_primary : (us : List Terminal) (v : Found) → Is Primary [] us v → Linkable us v
linkable_primary us v p w x l = is_operand_2 _ _ (is_unnamed_operand_5 us v w x p l)

pub operand_linkable : (us : List Terminal) (v : Found) → Linkable us v → Is Operand [] us v
operand_linkable us v k = subst (λ z. Is Operand [] z v) (append-nil us) (k [] v is_links_2)

pub chained_operand : (us : List Terminal) (v : Found) → Is Operand [] us v → Chained us v
chained_operand us v k w x r = opened k r

opened_expression : {us : List Terminal} {v : Found} → Opened us v → Is Expression [] us v
opened_expression (opened h r) = is_expression_2 _ _ _ _ h (is_after_operand_2 _ _ r)

opened_chain : {us : List Terminal} {v : Found} → Opened us v → Is Chain [] us v
opened_chain (opened h r) = is_chain _ _ _ _ h r

pub expression_chained : (us : List Terminal) (v : Found) → Chained us v → Is Expression [] us v
expression_chained us v k = subst (λ z. Is Expression [] z v) (append-nil us) (opened_expression (k [] v is_chain_rest_3))

pub chain_chained : (us : List Terminal) (v : Found) → Chained us v → Is Chain [] us v
chain_chained us v k = subst (λ z. Is Chain [] z v) (append-nil us) (opened_chain (k [] v is_chain_rest_3))

-- how a tree in a context is read
abbrev pub ReadsAt : List ℕ → List ℕ → (List Terminal → Found → Type 0) → Context → Tree → Type 0
ReadsAt source print K p a = (line end : Bool) (us : List Terminal) → Spells source print line (printed a p) us end → At source print K a line end us

-- pieces in parentheses, and in a text
abbrev pub in_parens : List Piece → List Piece
in_parens ps = piece.Sign sign.LeftParen ∷ (ps ++ piece.Sign sign.RightParen ∷ [])

abbrev pub in_text : List Piece → List Piece
in_text ps = piece.Sign sign.TextOpening ∷ (ps ++ piece.Sign sign.TextClosing ∷ [])

-- a tree that is read as an expression
pub record Expressed (source print : List ℕ) (a : Tree) : Type 0 where
  pub at_expression : ReadsAt source print (Is Expression []) context.Expression a
  pub at_chain : ReadsAt source print Chained context.Chain a
  pub at_operand : ReadsAt source print (Is Operand []) context.Operand a
  pub at_base : ReadsAt source print Linkable context.Base a
  pub at_text : printed a context.TextItem ≡ in_text (printed a context.Expression)

-- in parentheses links may follow each expression
within : {source print : List ℕ} {a : Tree} {line end : Bool} {ps : List Piece} {t : Terminal} {us : List Terminal} → t.new_line ≡ line → Some (shape.Mark mark.LeftParen) ≡ Some t.shape
    → ((line end : Bool) (us : List Terminal) → Spells source print line ps us end → At source print (Is Expression []) a line end us) → Split source print false ps (piece.Sign sign.RightParen ∷ []) us end → At source print Linkable a line end (t ∷ us)
within {t = t} n e f (both {us = us} h (a_sign {u = u} m o nothing)) = let r = f _ _ _ h in
    record {
      value = in_parentheses (leaf t) r.value;
      kind = linkable_primary _ _ (is_primary_3 t us r.value (u ∷ []) (in_parentheses (leaf t) r.value) (has_sign e) r.kind (is_parenthesis_rest_1 u (has_sign o)));
      alike = r.alike;
      headed = n;
      ended = refl;
    }

pub parenthesised : {source print : List ℕ} {a : Tree} {ps : List Piece} → ((line end : Bool) (us : List Terminal) → Spells source print line ps us end → At source print (Is Expression []) a line end us)
    → (line end : Bool) (us : List Terminal) → Spells source print line (in_parens ps) us end → At source print Linkable a line end us
parenthesised {ps = ps} f line end us (a_sign n e h) = within n e f (split_at ps (piece.Sign sign.RightParen ∷ []) h)

here : (a : Tree) (ps : List Piece) → printed a context.Expression ≡ ps ++ [] → ps ≡ printed a context.Expression
here a ps same = sym (same ∙ append-nil ps)

inner_text : (a : Tree) (ps : List Piece) → printed a context.Expression ≡ ps ++ [] → printed a context.TextItem ≡ in_text ps → printed a context.TextItem ≡ in_text (printed a context.Expression)
inner_text a ps same text = text ∙ ap in_text (here a ps same)

plain : (a : Tree) (ps : List Piece) → printed a context.Expression ≡ ps ++ [] → {qs : List Piece} → qs ≡ ps ++ [] → qs ≡ printed a context.Expression
plain a ps same e = e ∙ append-nil ps ∙ here a ps same

wrapped : (a : Tree) (ps : List Piece) → printed a context.Expression ≡ ps ++ [] → {qs : List Piece} → qs ≡ in_parens ps → qs ≡ in_parens (printed a context.Expression)
wrapped a ps same e = e ∙ ap in_parens (here a ps same)

module _ {source print : List ℕ} {a : Tree} where
  -- what is printed alike is read alike
  pub moved : {K : List Terminal → Found → Type 0} {ps qs : List Piece} → ps ≡ qs → ((line end : Bool) (us : List Terminal) → Spells source print line qs us end → At source print K a line end us)
      → (line end : Bool) (us : List Terminal) → Spells source print line ps us end → At source print K a line end us
  moved e f line end us h = f line end us (subst (λ z. Spells source print line z us end) e h)

  mapped : {K L : List Terminal → Found → Type 0} {ps : List Piece} → ((u : List Terminal) (v : Found) → K u v → L u v) → ((line end : Bool) (us : List Terminal) → Spells source print line ps us end → At source print K a line end us)
      → (line end : Bool) (us : List Terminal) → Spells source print line ps us end → At source print L a line end us
  mapped g f line end us h = at_widened g (f line end us h)

  module _ (ps : List Piece) (same : printed a context.Expression ≡ ps ++ []) (text : printed a context.TextItem ≡ in_text ps) where
    -- a tree that needs no parentheses in any context
    pub base_form : printed a context.Chain ≡ ps ++ [] → printed a context.Operand ≡ ps ++ [] → printed a context.Base ≡ ps ++ [] → ReadsAt source print Linkable context.Expression a → Expressed source print a
    base_form e1 e2 e3 f = let g = mapped operand_linkable f in let k = mapped chained_operand g in
        record { at_expression = mapped expression_chained k; at_chain = moved (plain a ps same e1) k; at_operand = moved (plain a ps same e2) g; at_base = moved (plain a ps same e3) f; at_text = inner_text a ps same text }

    -- one that needs them where links may follow
    pub operand_form : printed a context.Chain ≡ ps ++ [] → printed a context.Operand ≡ ps ++ [] → printed a context.Base ≡ in_parens ps → ReadsAt source print (Is Operand []) context.Expression a → Expressed source print a
    operand_form e1 e2 e3 g = let k = mapped chained_operand g in let f = mapped expression_chained k in
        record { at_expression = f; at_chain = moved (plain a ps same e1) k; at_operand = moved (plain a ps same e2) g; at_base = moved (wrapped a ps same e3) (parenthesised f); at_text = inner_text a ps same text }

    -- one that needs them as an operand
    pub chain_form : printed a context.Chain ≡ ps ++ [] → printed a context.Operand ≡ in_parens ps → printed a context.Base ≡ in_parens ps → ReadsAt source print Chained context.Expression a → Expressed source print a
    chain_form e1 e2 e3 k = let f = mapped expression_chained k in let b = parenthesised f in
        record { at_expression = f; at_chain = moved (plain a ps same e1) k; at_operand = moved (wrapped a ps same e2) (mapped operand_linkable b); at_base = moved (wrapped a ps same e3) b; at_text = inner_text a ps same text }

    -- one that needs them in each chain
    pub expression_form : printed a context.Chain ≡ in_parens ps → printed a context.Operand ≡ in_parens ps → printed a context.Base ≡ in_parens ps → ReadsAt source print (Is Expression []) context.Expression a → Expressed source print a
    expression_form e1 e2 e3 f = let b = parenthesised f in let g = mapped operand_linkable b in
        record { at_expression = f; at_chain = moved (wrapped a ps same e1) (mapped chained_operand g); at_operand = moved (wrapped a ps same e2) g; at_base = moved (wrapped a ps same e3) b; at_text = inner_text a ps same text }
