-- Lists that are read item by item.
use Rattle.std.proofs.Common.{◌≡◌, ℕ, Bool, true, false, List, [], ◌∷◌, ◌++◌, None, Some, sym, ap, subst, ◌∙◌}
use Rattle.std.proofs.lemmas.List.{append_assoc}
use Rattle.ink_grammar.specs.declared.token.Mark.TheVariants as mark
use Rattle.ink_grammar.specs.declared.token.Shape.{Shape}
use Rattle.ink_grammar.specs.declared.token.Shape.TheVariants as shape
use Rattle.ink_grammar.specs.declared.token.Terminal.{Terminal}
use Rattle.ink_grammar.specs.declared.tree.TwoChildren.TheVariants as two_of
use Rattle.ink_grammar.specs.Shapes.{same}
use Rattle.ink_grammar.specs.Tree.{Tree, Missing, Empty, Two, Found, no_items, nothing, node_two}
use Rattle.ink_print.specs.declared.context.Context.{Context}
use Rattle.ink_print.specs.declared.context.Context.TheVariants as context
use Rattle.ink_print.specs.declared.step.Sign.TheVariants as sign
use Rattle.ink_print.specs.declared.step.Step.TheVariants as step
use Rattle.ink_print.specs.Table.{first_as, second}
use Rattle.ink_print.specs.Printed.{printed}
use Rattle.ink_law_categories.specs.Spells.{Spells, shape_of_sign}
use Rattle.ink_law_categories.specs.Spells as spells
use Rattle.ink_law_categories.specs.Alike.{Alike}
use Rattle.ink_law_categories.specs.Alike as alike
use Rattle.ink_law_parsing.proofs.Steps.{Stepped, stop, new_line, put, last, next, two_children, step_two}
use Rattle.ink_law_parsing.proofs.Words.{has_sign}

-- a list of trees of which this holds, one with an item at least, and something or nothing
pub data Each (G : Tree → Type 0) : Tree → Type 0 where
  no_item : Each G Empty
  one_more : {s : ℕ} {a b : Tree} → Each G a → G b → Each G (Two two_of.More s a b)

pub data EachOfSome (G : Tree → Type 0) : Tree → Type 0 where
  with_item : {s : ℕ} {a b : Tree} → Each G a → G b → EachOfSome G (Two two_of.More s a b)

pub data Perhaps (G : Tree → Type 0) : Tree → Type 0 where
  left_out : Perhaps G Missing
  there : {a : Tree} → G a → Perhaps G a

-- a value that is read from tokens, alike a tree
pub record ReadAs (source print : List ℕ) (K : List Terminal → Found → Type 0) (a : Tree) (us : List Terminal) : Type 0 where
  pub value : Found
  pub kind : K us value
  pub alike : Alike source print a value.tree

-- how a tree is read where each expression may stand, and each pattern, type and declaration
abbrev pub Reading : List ℕ → List ℕ → (List Terminal → Found → Type 0) → Tree → Type 0
Reading source print K a = (line end : Bool) (us : List Terminal) → Spells source print line (printed a context.Expression) us end → ReadAs source print K a us

-- an item and the rest of its list, behind the items so far
pub data Items (P : Bool → List Terminal → Found → Type 0) (Rest : Found → List Terminal → Found → Type 0) (line : Bool) (a : Found) : List Terminal → Found → Type 0 where
  item : {u w : List Terminal} {v x : Found} → P line u v → Rest (node_two two_of.More a v) w x → Items P Rest line a (u ++ w) x

-- items that more items follow
pub record Listed (source print : List ℕ) (P : Bool → List Terminal → Found → Type 0) (Rest : Found → List Terminal → Found → Type 0) (line end : Bool) (a : Tree) (us : List Terminal) : Type 0 where
  pub value : Found
  pub alike : Alike source print a value.tree
  pub goes : (w : List Terminal) (x : Found) → Items P Rest end value w x → Items P Rest line no_items (us ++ w) x

-- how items are read
abbrev pub Reader : List ℕ → List ℕ → (Tree → Type 0) → (Bool → List Terminal → Found → Type 0) → Type 0
Reader source print G P = (b : Tree) (line end : Bool) (us : List Terminal) → G b → Spells source print line (printed b context.Expression) us end → ReadAs source print (P line) b us

-- the tokens of items, of one more item and of a sign
pub data WithSign (source print : List ℕ) (p : Context) (x : Shape) (line : Bool) (a b : Tree) : List Terminal → Bool → Type 0 where
  with_sign : {mid last : Bool} {us ws : List Terminal} (u : Terminal) → Spells source print line (printed a p) us mid → Spells source print mid (printed b context.Expression) ws last → same x u.shape ≡ true
      → WithSign source print p x line a b (us ++ (ws ++ (u ∷ []))) false

-- items with a sign behind each
pub record Separated (source print : List ℕ) (p : Context) (x : Shape) : Type 0 where
  pub empty : (line end : Bool) (us : List Terminal) → Spells source print line (printed Empty p) us end → Spells source print line [] us end
  pub more : (k : ℕ) (a b : Tree) (line end : Bool) (us : List Terminal) → Spells source print line (printed (Two two_of.More k a b) p) us end → WithSign source print p x line a b us end

with_comma : {source print : List ℕ} {line end : Bool} {a b : Tree} {us : List Terminal} → Stepped source print (two_children a b) line (first_as context.BeforeComma ∷ second ∷ step.Sign sign.Comma ∷ []) us end → WithSign source print context.BeforeComma (shape.Mark mark.Comma) line a b us end
with_comma (next h (next m (put n e stop))) = with_sign _ h m (has_sign e)

with_dot : {source print : List ℕ} {line end : Bool} {a b : Tree} {us : List Terminal} → Stepped source print (two_children a b) line (first_as context.BeforeDot ∷ second ∷ step.Sign sign.Dot ∷ []) us end → WithSign source print context.BeforeDot (shape.Mark mark.Dot) line a b us end
with_dot (next h (next m (put n e stop))) = with_sign _ h m (has_sign e)

with_plus : {source print : List ℕ} {line end : Bool} {a b : Tree} {us : List Terminal} → Stepped source print (two_children a b) line (first_as context.BeforePlus ∷ second ∷ step.Sign sign.Plus ∷ []) us end → WithSign source print context.BeforePlus (shape.Mark mark.Plus) line a b us end
with_plus (next h (next m (put n e stop))) = with_sign _ h m (has_sign e)

pub commas : (source print : List ℕ) → Separated source print context.BeforeComma (shape.Mark mark.Comma)
unfolding printed
commas source print = record { empty = λ line end us h. h; more = λ k a b line end us h. with_comma (step_two two_of.More k a b context.BeforeComma h) }

pub dots : (source print : List ℕ) → Separated source print context.BeforeDot (shape.Mark mark.Dot)
unfolding printed
dots source print = record { empty = λ line end us h. h; more = λ k a b line end us h. with_dot (step_two two_of.More k a b context.BeforeDot h) }

pub pluses : (source print : List ℕ) → Separated source print context.BeforePlus (shape.Mark mark.Plus)
unfolding printed
pluses source print = record { empty = λ line end us h. h; more = λ k a b line end us h. with_plus (step_two two_of.More k a b context.BeforePlus h) }

-- the tokens of items between two signs
pub data Between (source print : List ℕ) (x y : Shape) (a b : Tree) : List Terminal → Bool → Type 0 where
  between : {mid last : Bool} {us ws : List Terminal} (t u : Terminal) → same x t.shape ≡ true → Spells source print false (printed a context.BeforeComma) us mid → Spells source print mid (printed b context.Expression) ws last → same y u.shape ≡ true
      → Between source print x y a b (t ∷ (us ++ (ws ++ (u ∷ [])))) false

-- a context in which a list stands between two signs
pub record Enclosing (source print : List ℕ) (p : Context) (x y : Shape) : Type 0 where
  pub none : (line end : Bool) (us : List Terminal) → Spells source print line (printed Missing p) us end → Spells source print line [] us end
  pub some : (k : ℕ) (a b : Tree) (line end : Bool) (us : List Terminal) → Spells source print line (printed (Two two_of.More k a b) p) us end → Between source print x y a b us end

in_brackets : {source print : List ℕ} {line end : Bool} {a b : Tree} {us : List Terminal} → Stepped source print (two_children a b) line (step.Sign sign.LeftBracket ∷ first_as context.BeforeComma ∷ second ∷ step.Sign sign.RightBracket ∷ []) us end → Between source print (shape.Mark mark.LeftBracket) (shape.Mark mark.RightBracket) a b us end
in_brackets (put n e (next h (next m (put o f stop)))) = between _ _ (has_sign e) h m (has_sign f)

in_parens : {source print : List ℕ} {line end : Bool} {a b : Tree} {us : List Terminal} → Stepped source print (two_children a b) line (step.Sign sign.LeftParen ∷ first_as context.BeforeComma ∷ second ∷ step.Sign sign.RightParen ∷ []) us end → Between source print (shape.Mark mark.LeftParen) (shape.Mark mark.RightParen) a b us end
in_parens (put n e (next h (next m (put o f stop)))) = between _ _ (has_sign e) h m (has_sign f)

in_import_parens : {source print : List ℕ} {line end : Bool} {a b : Tree} {us : List Terminal} → Stepped source print (two_children a b) line (step.Sign sign.ImportParen ∷ first_as context.BeforeComma ∷ second ∷ step.Sign sign.RightParen ∷ []) us end → Between source print (shape.Mark mark.LeftParen) (shape.Mark mark.RightParen) a b us end
in_import_parens (put n e (next h (next m (put o f stop)))) = between _ _ (has_sign e) h m (has_sign f)

pub bracketed : (source print : List ℕ) → Enclosing source print context.Bracketed (shape.Mark mark.LeftBracket) (shape.Mark mark.RightBracket)
unfolding printed
bracketed source print = record { none = λ line end us h. h; some = λ k a b line end us h. in_brackets (step_two two_of.More k a b context.Bracketed h) }

pub parenthesised : (source print : List ℕ) → Enclosing source print context.Parenthesised (shape.Mark mark.LeftParen) (shape.Mark mark.RightParen)
unfolding printed
parenthesised source print = record { none = λ line end us h. h; some = λ k a b line end us h. in_parens (step_two two_of.More k a b context.Parenthesised h) }

pub import_parens : (source print : List ℕ) → Enclosing source print context.ImportNames (shape.Mark mark.LeftParen) (shape.Mark mark.RightParen)
unfolding printed
import_parens source print = record { none = λ line end us h. h; some = λ k a b line end us h. in_import_parens (step_two two_of.More k a b context.ImportNames h) }

-- what follows an opening sign
pub data Behind (x : Shape) (P : Bool → List Terminal → Found → Type 0) (Rest : Found → List Terminal → Found → Type 0) : List Terminal → Found → Type 0 where
  behind : {w : List Terminal} {v : Found} (t : Terminal) → same x t.shape ≡ true → Items P Rest false no_items w v → Behind x P Rest (t ∷ w) v

-- what may stand behind a sign, stands behind an item with the sign
abbrev pub Again : (Bool → List Terminal → Found → Type 0) → (Found → List Terminal → Found → Type 0) → Shape → Type 0
Again P Rest x = (a : Found) (t : Terminal) (w : List Terminal) (y : Found) → same x t.shape ≡ true → Items P Rest false a w y → Rest a (t ∷ w) y

pub widened : {source print : List ℕ} {K L : List Terminal → Found → Type 0} {a : Tree} {us : List Terminal} → ((u : List Terminal) (v : Found) → K u v → L u v) → ReadAs source print K a us → ReadAs source print L a us
widened f r = record { value = r.value; kind = f _ _ r.kind; alike = r.alike }

pub read_empty : {source print : List ℕ} {K : List Terminal → Found → Type 0} {line end : Bool} {us : List Terminal} → K [] no_items → Spells source print line [] us end → ReadAs source print K Empty us
read_empty k spells.nothing = record { value = no_items; alike = alike.empty; kind = k }

pub read_missing : {source print : List ℕ} {K : List Terminal → Found → Type 0} {line end : Bool} {us : List Terminal} → K [] nothing → Spells source print line [] us end → ReadAs source print K Missing us
read_missing k spells.nothing = record { value = nothing; alike = alike.missing; kind = k }

module _ {source print : List ℕ} {G : Tree → Type 0} {P : Bool → List Terminal → Found → Type 0} {Rest : Found → List Terminal → Found → Type 0} (read : Reader source print G P) where
  listed_none : {line end : Bool} {us : List Terminal} → Spells source print line [] us end → Listed source print P Rest line end Empty us
  listed_none spells.nothing = record { value = no_items; alike = alike.empty; goes = λ w x h. h }

  -- items and the last of them
  pub sequence : {line mid end : Bool} {s : ℕ} {a b : Tree} {us ws : List Terminal} → Listed source print P Rest line mid a us → G b → Spells source print mid (printed b context.Expression) ws end
      → ReadAs source print (λ z v. (w : List Terminal) (x : Found) → Rest v w x → Items P Rest line no_items (z ++ w) x) (Two two_of.More s a b) (us ++ ws)
  sequence {line = line} {us = us} {ws = ws} l g h = let r = read _ _ _ _ g h in
      record {
        value = node_two two_of.More l.value r.value;
        alike = alike.two l.alike r.alike;
        kind = λ w x m. subst (λ z. Items P Rest line no_items z x) (sym (append_assoc us ws w)) (l.goes (ws ++ w) x (item r.kind m));
      }

  module _ {p : Context} {x : Shape} (separated : Separated source print p x) (again : Again P Rest x) where
    listed_more : {line end : Bool} {k : ℕ} {a b : Tree} {us : List Terminal} → ((end : Bool) (us : List Terminal) → Spells source print line (printed a p) us end → Listed source print P Rest line end a us) → G b
        → WithSign source print p x line a b us end → Listed source print P Rest line end (Two two_of.More k a b) us
    listed_more {line = line} f g (with_sign {us = us} {ws = ws} u h m e) = let l = f _ _ h in let r = read _ _ _ _ g m in
        record {
          value = node_two two_of.More l.value r.value;
          alike = alike.two l.alike r.alike;
          goes = λ w y i. subst (λ z. Items P Rest line no_items z y) (sym (append_assoc us (ws ++ (u ∷ [])) w ∙ ap (λ z. us ++ z) (append_assoc ws (u ∷ []) w))) (l.goes (ws ++ (u ∷ w)) y (item r.kind (again _ u w y e i)));
        }

    pub listed : {line end : Bool} {a : Tree} {us : List Terminal} → Each G a → Spells source print line (printed a p) us end → Listed source print P Rest line end a us
    listed no_item h = listed_none (separated.empty _ _ _ h)
    listed (one_more e g) h = listed_more (λ end us m. listed e m) g (separated.more _ _ _ _ _ _ h)

  -- items between two signs
  module _ {p : Context} {x y : Shape} (enclosing : Enclosing source print p x y) (again : Again P Rest (shape.Mark mark.Comma)) (close : (v : Found) (t : Terminal) → same y t.shape ≡ true → Rest v (t ∷ []) v) where
    enclosed : {end : Bool} {k : ℕ} {a b : Tree} {us : List Terminal} → Each G a → G b → Between source print x y a b us end → ReadAs source print (Behind x P Rest) (Two two_of.More k a b) us
    enclosed e g (between {us = us} {ws = ws} t u f h m o) = let l = listed (commas source print) again e h in let r = read _ _ _ _ g m in
        record {
          value = node_two two_of.More l.value r.value;
          alike = alike.two l.alike r.alike;
          kind = behind t f (l.goes (ws ++ (u ∷ [])) (node_two two_of.More l.value r.value) (item r.kind (close _ u o)));
        }

    pub enclosed_some : {line end : Bool} {a : Tree} {us : List Terminal} → EachOfSome G a → Spells source print line (printed a p) us end → ReadAs source print (Behind x P Rest) a us
    enclosed_some (with_item {s = s} {a = a} {b = b} e g) h = enclosed e g (enclosing.some s a b _ _ _ h)

    pub enclosed_or_none : {K : List Terminal → Found → Type 0} {line end : Bool} {a : Tree} {us : List Terminal} → K [] nothing → ((u : List Terminal) (v : Found) → Behind x P Rest u v → K u v) → Perhaps (EachOfSome G) a → Spells source print line (printed a p) us end → ReadAs source print K a us
    enclosed_or_none k f left_out h = read_missing k (enclosing.none _ _ _ h)
    enclosed_or_none k f (there g) h = widened f (enclosed_some g h)

  -- items in their context, which something follows
  seen : {line end : Bool} {k : ℕ} {a b : Tree} {us : List Terminal} (again : Again P Rest (shape.Mark mark.Comma)) → Each G a → G b → Stepped source print (two_children a b) line (first_as context.BeforeComma ∷ second ∷ []) us end
      → ReadAs source print (λ z v. (w : List Terminal) (x : Found) → Rest v w x → Items P Rest line no_items (z ++ w) x) (Two two_of.More k a b) us
  seen again e g (next h (last m)) = sequence (listed (commas source print) again e h) g m

  pub seen_some : {line end : Bool} {a : Tree} {us : List Terminal} (again : Again P Rest (shape.Mark mark.Comma)) → EachOfSome G a → Spells source print line (printed a context.Items) us end
      → ReadAs source print (λ z v. (w : List Terminal) (x : Found) → Rest v w x → Items P Rest line no_items (z ++ w) x) a us
  seen_some again (with_item {s = s} {a = a} {b = b} e g) h = seen again e g (step_two two_of.More s a b context.Items h)

  pub seen_or_none : {K : List Terminal → Found → Type 0} {line end : Bool} {a : Tree} {us : List Terminal} (again : Again P Rest (shape.Mark mark.Comma)) → K [] no_items
      → ((line : Bool) (u : List Terminal) (v : Found) → ((w : List Terminal) (x : Found) → Rest v w x → Items P Rest line no_items (u ++ w) x) → K u v) → Each G a → Spells source print line (printed a context.Items) us end → ReadAs source print K a us
  unfolding printed
  seen_or_none again k f no_item h = read_empty k h
  seen_or_none {line = line} again k f (one_more {s = s} {a = a} {b = b} e g) h = widened (f line) (seen again e g (step_two two_of.More s a b context.Items h))

  -- items on lines of their own
  module _ (again : (a : Found) (w : List Terminal) (y : Found) → Items P Rest true a w y → Rest a w y) where
    lines_more : {line end : Bool} {k : ℕ} {a b : Tree} {us : List Terminal} → ((end : Bool) (us : List Terminal) → Spells source print line (printed a context.Lines) us end → Listed source print P Rest line end a us) → G b
        → Stepped source print (two_children a b) line (first_as context.Lines ∷ second ∷ step.Sign sign.Line ∷ []) us end → Listed source print P Rest line end (Two two_of.More k a b) us
    lines_more {line = line} f g (next {us = us} h (next {us = ws} m (new_line stop))) = let l = f _ _ h in let r = read _ _ _ _ g m in
        record {
          value = node_two two_of.More l.value r.value;
          alike = alike.two l.alike r.alike;
          goes = λ w y i. subst (λ z. Items P Rest line no_items z y) (sym (append_assoc us (ws ++ []) w ∙ ap (λ z. us ++ z) (append_assoc ws [] w))) (l.goes (ws ++ w) y (item r.kind (again _ w y i)));
        }
    lines_more f g (next h (next m (put n e stop))) = let bad : None ≡ Some _ = e in cc

    pub lines : {line end : Bool} {a : Tree} {us : List Terminal} → Each G a → Spells source print line (printed a context.Lines) us end → Listed source print P Rest line end a us
    unfolding printed
    lines no_item h = listed_none h
    lines (one_more {s = s} {a = a} {b = b} e g) h = lines_more (λ end us m. lines e m) g (step_two two_of.More s a b context.Lines h)

    -- the items between the braces of a block
    body_more : {line end : Bool} {k : ℕ} {a b : Tree} {us : List Terminal} → (stay : (v : Found) → Rest v [] v) → Each G a → G b
        → Stepped source print (two_children a b) line (step.Sign sign.Line ∷ first_as context.Lines ∷ second ∷ step.Sign sign.Line ∷ []) us end → ReadAs source print (Items P Rest true no_items) (Two two_of.More k a b) us
    body_more stay e g (new_line (next {us = us} h (next {us = ws} m (new_line stop)))) = let l = lines e h in let r = read _ _ _ _ g m in
        record {
          value = node_two two_of.More l.value r.value;
          alike = alike.two l.alike r.alike;
          kind = l.goes (ws ++ []) (node_two two_of.More l.value r.value) (item r.kind (stay _));
        }
    body_more stay e g (new_line (next h (next m (put n f stop)))) = let bad : None ≡ Some _ = f in cc
    body_more stay e g (put n f _) = let bad : None ≡ Some _ = f in cc

    pub body_of_some : {line end : Bool} {a : Tree} {us : List Terminal} → ((v : Found) → Rest v [] v) → EachOfSome G a → Spells source print line (printed a context.Body) us end → ReadAs source print (Items P Rest true no_items) a us
    body_of_some stay (with_item {s = s} {a = a} {b = b} e g) h = body_more stay e g (step_two two_of.More s a b context.Body h)

    pub body_of_each : {K : List Terminal → Found → Type 0} {line end : Bool} {a : Tree} {us : List Terminal} → ((v : Found) → Rest v [] v) → K [] no_items → ((u : List Terminal) (v : Found) → Items P Rest true no_items u v → K u v)
        → Each G a → Spells source print line (printed a context.Body) us end → ReadAs source print K a us
    unfolding printed
    body_of_each stay k f no_item h = read_empty k h
    body_of_each stay k f (one_more {s = s} {a = a} {b = b} e g) h = widened f (body_more stay e g (step_two two_of.More s a b context.Body h))

    -- the items of a module
    line_more : {line end : Bool} {k : ℕ} {a b : Tree} {us : List Terminal} → (stay : (v : Found) → Rest v [] v) → Each G a → G b
        → Stepped source print (two_children a b) line (first_as context.Lines ∷ second ∷ step.Sign sign.Line ∷ []) us end → ReadAs source print (Items P Rest line no_items) (Two two_of.More k a b) us
    line_more stay e g (next {us = us} h (next {us = ws} m (new_line stop))) = let l = lines e h in let r = read _ _ _ _ g m in
        record {
          value = node_two two_of.More l.value r.value;
          alike = alike.two l.alike r.alike;
          kind = l.goes (ws ++ []) (node_two two_of.More l.value r.value) (item r.kind (stay _));
        }
    line_more stay e g (next h (next m (put n f stop))) = let bad : None ≡ Some _ = f in cc

    pub lines_of_each : {K : List Terminal → Found → Type 0} {line end : Bool} {a : Tree} {us : List Terminal} → ((v : Found) → Rest v [] v) → K [] no_items → ((line : Bool) (u : List Terminal) (v : Found) → Items P Rest line no_items u v → K u v)
        → Each G a → Spells source print line (printed a context.Lines) us end → ReadAs source print K a us
    unfolding printed
    lines_of_each stay k f no_item h = read_empty k h
    lines_of_each {line = line} stay k f (one_more {s = s} {a = a} {b = b} e g) h = widened (f line) (line_more stay e g (step_two two_of.More s a b context.Lines h))
