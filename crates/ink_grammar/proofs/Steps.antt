-- The step of a part: one token tells which rule it is.
use Rattle.std.proofs.Common.{◌≡◌, Bool, true, false, not, ◌&&◌, ◌||◌, if◌then◌else◌, List, [], ◌∷◌, ◌++◌, inl, inr, Option, Some, None, refl, sym, ap, subst, ◌∙◌, append_assoc}
use Rattle.ink_grammar.specs.declared.token.Shape.{Shape}
use Rattle.ink_grammar.specs.declared.token.Terminal.{Terminal}
use Rattle.ink_grammar.specs.declared.symbol.Line.{Line}
use Rattle.ink_grammar.specs.declared.symbol.Line.TheVariants as line
use Rattle.ink_grammar.specs.declared.symbol.Nonterminal.{Nonterminal}
use Rattle.ink_grammar.specs.declared.symbol.Symbol.{Symbol}
use Rattle.ink_grammar.specs.declared.symbol.Symbol.TheVariants as of
use Rattle.ink_grammar.specs.Grammar.{rules, begins, may_be_empty}
use Rattle.ink_grammar.specs.Shapes.{is, stands}
use Rattle.ink_grammar.specs.Machine.{goes, ends, fits, pick, stands_so}
use Rattle.ink_grammar.specs.Tree.{Found}
use Rattle.ink_grammar.specs.Reads.{Among, Opens, Derives, by, Reads, done, token, at_place, part, make}
use Rattle.ink_grammar.proofs.Bools.{and_left, and_right, and_both, or_left, or_right, by_cases, not_both, not_true, not_false, implies, implied, all, all_at, every, every_at}
use Rattle.ink_grammar.proofs.Checks.{opens, empties, strict, clash, closed, told, told_empty, parted, plain, is_sound}

-- what is_sound says, one by one
module _ (n : Nonterminal) where
  is_closed : (r : List Symbol) → Among r (rules n) → closed n r ≡ true
  is_closed r h = all_at (closed n) (rules n) r (and_left _ _ (and_left _ _ (and_left _ _ (and_left _ _ (is_sound n))))) h

  is_told : told (rules n) ≡ true
  is_told = and_right (all (closed n) (rules n)) _ (and_left _ _ (and_left _ _ (and_left _ _ (is_sound n))))

  is_told_empty : told_empty n (rules n) ≡ true
  is_told_empty = and_right (all (closed n) (rules n) && told (rules n)) _ (and_left _ _ (and_left _ _ (is_sound n)))

  pub is_parted : (r : List Symbol) → Among r (rules n) → parted n r ≡ true
  is_parted r h = all_at (parted n) (rules n) r (and_right (all (closed n) (rules n) && told (rules n) && told_empty n (rules n)) _ (and_left _ _ (is_sound n))) h

  pub is_plain : (r : List Symbol) → Among r (rules n) → plain r ≡ true
  is_plain r h = all_at plain (rules n) r (and_right (all (closed n) (rules n) && told (rules n) && told_empty n (rules n) && all (parted n) (rules n)) _ (is_sound n)) h

  closed_empties : (r : List Symbol) → Among r (rules n) → empties r ≡ true → may_be_empty n ≡ true
  closed_empties r h = implied (empties r) (may_be_empty n) (and_left _ _ (is_closed r h))

  closed_opens : (r : List Symbol) → Among r (rules n) → (shape : Shape) (new_line : Bool) → opens r shape new_line ≡ true → begins n shape new_line ≡ true
  closed_opens r h shape new_line = implied (opens r shape new_line) (begins n shape new_line)
      (every_at (λ k b. implies (opens r k b) (begins n k b)) (and_right (implies (empties r) (may_be_empty n)) _ (is_closed r h)) shape new_line)

nil_left : (us ws : List Terminal) → us ++ ws ≡ [] → us ≡ []
nil_left [] ws e = refl
nil_left (u ∷ us) ws e = cc

nil_right : (us ws : List Terminal) → us ++ ws ≡ [] → ws ≡ []
nil_right [] ws e = e
nil_right (u ∷ us) ws e = cc

mutual
  pub derives_empty : {n : Nonterminal} {vs : List Found} {ts : List Terminal} {fin : List Found} → Derives n vs ts fin → ts ≡ [] → may_be_empty n ≡ true
  derives_empty (by {n = n} {r = r} h d) e = closed_empties n r h (reads_empty d e)

  pub reads_empty : {r : List Symbol} {vs : List Found} {ts : List Terminal} {fin : List Found} → Reads r vs ts fin → ts ≡ [] → empties r ≡ true
  reads_empty done e = refl
  reads_empty (token p q d) e = cc
  reads_empty (at_place o p q d) e = cc
  reads_empty (part {n = n} {r = r} {us = us} {ws = ws} d o c f) e =
      and_both (may_be_empty n) (empties r) (derives_empty d (nil_left us ws (sym f ∙ e))) (reads_empty c (nil_right us ws (sym f ∙ e)))
  reads_empty (make d) e = reads_empty d e

head_of : {t u : Terminal} {ts us : List Terminal} → t ∷ ts ≡ u ∷ us → t ≡ u
head_of e = cc

opens_stands : (l : Line) (t : Terminal) (ts : List Terminal) → Opens l (t ∷ ts) → stands l t.new_line ≡ true
opens_stands line.Any t ts o = refl
opens_stands line.Same t ts o = not_false t.new_line o
opens_stands line.Fresh t ts o = o

mutual
  pub derives_opens : {n : Nonterminal} {vs : List Found} {ts : List Terminal} {fin : List Found} → Derives n vs ts fin → (t : Terminal) (more : List Terminal) → ts ≡ t ∷ more → begins n t.shape t.new_line ≡ true
  derives_opens (by {n = n} {r = r} h d) t more e = closed_opens n r h t.shape t.new_line (reads_opens d t more e)

  pub reads_opens : {r : List Symbol} {vs : List Found} {ts : List Terminal} {fin : List Found} → Reads r vs ts fin → (t : Terminal) (more : List Terminal) → ts ≡ t ∷ more → opens r t.shape t.new_line ≡ true
  reads_opens done t more e = cc
  reads_opens (token {l = l} {w = w} {t = u} p q d) t more e =
      subst (λ (x : Terminal). stands l x.new_line && is w x.shape ≡ true) (head_of e) (and_both (stands l u.new_line) (is w u.shape) p q)
  reads_opens (at_place {w = w} {t = u} o p q d) t more e =
      subst (λ (x : Terminal). not x.new_line && is w x.shape ≡ true) (head_of e) (and_both (not u.new_line) (is w u.shape) (not_false u.new_line p) q)
  reads_opens (part {l = l} {n = n} {r = r} {us = []} {ws = ws} d o c f) t more e =
      or_right (stands l t.new_line && begins n t.shape t.new_line) (may_be_empty n && opens r t.shape t.new_line)
      (and_both (may_be_empty n) (opens r t.shape t.new_line) (derives_empty d refl) (reads_opens c t more (sym f ∙ e)))
  reads_opens (part {l = l} {n = n} {r = r} {us = u ∷ us} {ws = ws} d o c f) t more e =
      let h : u ≡ t = head_of (sym f ∙ e) in
      or_left (stands l t.new_line && begins n t.shape t.new_line) (may_be_empty n && opens r t.shape t.new_line)
      (and_both (stands l t.new_line) (begins n t.shape t.new_line)
      (subst (λ (x : Terminal). stands l x.new_line ≡ true) h (opens_stands l u us o))
      (subst (λ (x : Terminal). begins n x.shape x.new_line ≡ true) h (derives_opens d u us refl)))
  reads_opens (make d) t more e = reads_opens d t more e

pub joined : {r s : List Symbol} {vs mid : List Found} {us ws : List Terminal} {fin : List Found} → Reads r vs us mid → Reads s mid ws fin → Reads (r ++ s) vs (us ++ ws) fin
joined done c = c
joined (token p q d) c = token p q (joined d c)
joined (at_place o p q d) c = at_place o p q (joined d c)
joined {ws = ws} (part {us = us} {ws = vs} d o e f) c = part d o (joined e c) (ap (λ x. x ++ ws) f ∙ append_assoc us vs ws)
joined (make d) c = make (joined d c)

pub record Split (r s : List Symbol) (vs : List Found) (ts : List Terminal) (fin : List Found) : Type 0 where
  pub mid : List Found
  pub us : List Terminal
  pub ws : List Terminal
  pub front : Reads r vs us mid
  pub back : Reads s mid ws fin
  pub whole : ts ≡ us ++ ws

pub split : (r s : List Symbol) {vs : List Found} {ts : List Terminal} {fin : List Found} → Reads (r ++ s) vs ts fin → Split r s vs ts fin
split [] s {vs} {ts} d = record { mid = vs; us = []; ws = ts; front = done; back = d; whole = refl }
split (of.Token l w ∷ r) s (token {t = t} p q d) =
    let h = split r s d in record { mid = h.mid; us = t ∷ h.us; ws = h.ws; front = token p q h.front; back = h.back; whole = ap (λ x. t ∷ x) h.whole }
split (of.Place w ∷ r) s (at_place {t = t} o p q d) =
    let h = split r s d in record { mid = h.mid; us = t ∷ h.us; ws = h.ws; front = at_place o p q h.front; back = h.back; whole = ap (λ x. t ∷ x) h.whole }
split (of.Part l n ∷ r) s (part {us = us} {ws = ws} d o c f) =
    let h = split r s c in record { mid = h.mid; us = us ++ h.us; ws = h.ws; front = part d o h.front refl; back = h.back; whole = f ∙ ap (λ x. us ++ x) h.whole ∙ sym (append_assoc us h.us h.ws) }
split (of.Do a ∷ r) s (make d) =
    let h = split r s d in record { mid = h.mid; us = h.us; ws = h.ws; front = make h.front; back = h.back; whole = h.whole }

pub pick_among : (rs : List (List Symbol)) (o : Option Terminal) (r : List Symbol) → pick rs o ≡ Some r → Among r rs
pick_among [] o r e = cc
pick_among (q ∷ rs) o r e = by_cases (fits q o)
    (λ f. let g : Some q ≡ Some r = sym (ap (λ b. if b then Some q else pick rs o) f) ∙ e in inl cc)
    (λ f. inr (pick_among rs o r (sym (ap (λ b. if b then Some q else pick rs o) f) ∙ e)))

pick_first : (q : List Symbol) (rs : List (List Symbol)) (o : Option Terminal) → fits q o ≡ true → pick (q ∷ rs) o ≡ Some q
pick_first q rs o f = ap (λ b. if b then Some q else pick rs o) f

pick_later : (q : List Symbol) (rs : List (List Symbol)) (o : Option Terminal) → fits q o ≡ false → pick (q ∷ rs) o ≡ pick rs o
pick_later q rs o f = ap (λ b. if b then Some q else pick rs o) f

pick_told : (rs : List (List Symbol)) (r : List Symbol) (t : Terminal) → told rs ≡ true → Among r rs → opens r t.shape t.new_line ≡ true → pick rs (Some t) ≡ Some r
pick_told [] r t e h o = elim h [ ]
pick_told (q ∷ rs) r t e (inl h) o =
    let good : goes q t.shape t.new_line ≡ true =
    implied (opens q t.shape t.new_line) (goes q t.shape t.new_line)
    (every_at (λ k b. implies (opens q k b) (goes q k b)) (and_left _ _ (and_left _ _ e)) t.shape t.new_line)
    (subst (λ x. opens x t.shape t.new_line ≡ true) h o) in
    pick_first q rs (Some t) good ∙ ap Some (sym h)
pick_told (q ∷ rs) r t e (inr h) o =
    let each = all_at (λ x. every (λ k b. implies (opens x k b) (not (goes q k b)))) rs r (and_right (every (λ k b. implies (opens q k b) (goes q k b))) _ (and_left _ _ e)) h in
    let bad : goes q t.shape t.new_line ≡ false =
    not_true (goes q t.shape t.new_line) (implied (opens r t.shape t.new_line) (not (goes q t.shape t.new_line)) (every_at (λ k b. implies (opens r k b) (not (goes q k b))) each t.shape t.new_line) o) in
    pick_later q rs (Some t) bad ∙ pick_told rs r t (and_right (every (λ k b. implies (opens q k b) (goes q k b)) && all (λ x. every (λ k b. implies (opens x k b) (not (goes q k b)))) rs) _ e) h o

abbrev pub Safe : Nonterminal → Option Terminal → Type 0
Safe n None = Unit {0}
Safe n (Some t) = clash n t.shape t.new_line ≡ false

fits_all : (q : List Symbol) (o : Option Terminal) → ends q && every (λ k b. goes q k b) ≡ true → fits q o ≡ true
fits_all q None e = and_left _ _ e
fits_all q (Some t) e = every_at (λ k b. goes q k b) (and_right (ends q) _ e) t.shape t.new_line

fits_none : (n : Nonterminal) (q : List Symbol) (o : Option Terminal) → not (ends q) && every (λ k b. implies (goes q k b) (clash n k b)) ≡ true → Safe n o → fits q o ≡ false
fits_none n q None e h = not_true (ends q) (and_left _ _ e)
fits_none n q (Some t) e h = by_cases (goes q t.shape t.new_line)
    (λ g. not_both (implied (goes q t.shape t.new_line) (clash n t.shape t.new_line) (every_at (λ k b. implies (goes q k b) (clash n k b)) (and_right (not (ends q)) _ e) t.shape t.new_line) g) h)
    (λ g. g)

pick_empty : (n : Nonterminal) (rs : List (List Symbol)) (r : List Symbol) (o : Option Terminal) → told_empty n rs ≡ true → Among r rs → empties r ≡ true → Safe n o → pick rs o ≡ Some r
pick_empty n [] r o e h v safe = elim h [ ]
pick_empty n (q ∷ rs) r o e (inl h) v safe =
    pick_first q rs o (fits_all q o (implied (empties q) _ (and_left _ _ (and_left _ _ e)) (subst (λ x. empties x ≡ true) h v))) ∙ ap Some (sym h)
pick_empty n (q ∷ rs) r o e (inr h) v safe =
    let each = all_at (λ x. implies (empties x) (not (ends q) && every (λ k b. implies (goes q k b) (clash n k b)))) rs r (and_right (implies (empties q) (ends q && every (λ k b. goes q k b))) _ (and_left _ _ e)) h in
    pick_later q rs o (fits_none n q o (implied (empties r) _ each v) safe)
    ∙ pick_empty n rs r o (and_right (implies (empties q) (ends q && every (λ k b. goes q k b)) && all (λ x. implies (empties x) (not (ends q) && every (λ k b. implies (goes q k b) (clash n k b)))) rs) _ e) h v safe

-- the part is followed by nothing that never follows it
abbrev pub Follows : Nonterminal → List Symbol → Type 0
Follows n r = (shape : Shape) (new_line : Bool) → clash n shape new_line ≡ true → opens r shape new_line ≡ false

abbrev pub Clean : List Symbol → Type 0
Clean [] = Unit {0}
Clean (of.Part l n ∷ r) = (strict l n ≡ true) × Follows n r × Clean r
Clean (of.Token l w ∷ r) = Clean r
Clean (of.Place w ∷ r) = Clean r
Clean (of.Do a ∷ r) = Clean r

or_false : (x y z : Bool) → x || y ≡ false → (y ≡ false → z ≡ false) → x || z ≡ false
or_false true y z e f = cc
or_false false y z e f = f e

opens_append : (r s : List Symbol) (shape : Shape) (new_line : Bool) → opens r shape new_line ≡ false → (empties r ≡ true → opens s shape new_line ≡ false) → opens (r ++ s) shape new_line ≡ false
opens_append [] s shape b e f = f refl
opens_append (of.Token l w ∷ r) s shape b e f = e
opens_append (of.Place w ∷ r) s shape b e f = e
opens_append (of.Do a ∷ r) s shape b e f = opens_append r s shape b e f
opens_append (of.Part l n ∷ r) s shape b e f =
    or_false (stands l b && begins n shape b) (may_be_empty n && opens r shape b) (may_be_empty n && opens (r ++ s) shape b) e
    (λ g. by_cases (may_be_empty n)
    (λ m. ap (λ x. x && opens (r ++ s) shape b) m ∙ opens_append r s shape b (sym (ap (λ x. x && opens r shape b) m) ∙ g) (λ v. f (and_both (may_be_empty n) (empties r) m v)))
    (λ m. ap (λ x. x && opens (r ++ s) shape b) m))

pub clean_append : (n : Nonterminal) (r s : List Symbol) → parted n r ≡ true → Follows n s → Clean s → Clean (r ++ s)
clean_append n [] s e f c = c
clean_append n (of.Token l w ∷ r) s e f c = clean_append n r s e f c
clean_append n (of.Place w ∷ r) s e f c = clean_append n r s e f c
clean_append n (of.Do a ∷ r) s e f c = clean_append n r s e f c
clean_append n (of.Part l m ∷ r) s e f c =
    let e1 = and_left (strict l m) _ (and_left _ _ (and_left _ _ e)) in
    let e2 = and_right (strict l m) (every (λ k b. implies (clash m k b) (not (opens r k b)))) (and_left _ _ (and_left _ _ e)) in
    let e3 = and_right (strict l m && every (λ k b. implies (clash m k b) (not (opens r k b)))) (implies (empties r) (every (λ k b. implies (clash m k b) (clash n k b)))) (and_left _ _ e) in
    let e4 = and_right (strict l m && every (λ k b. implies (clash m k b) (not (opens r k b))) && implies (empties r) (every (λ k b. implies (clash m k b) (clash n k b)))) (parted n r) e in (
      e1,
      (λ k b g. opens_append r s k b
          (not_true (opens r k b) (implied (clash m k b) (not (opens r k b)) (every_at (λ k b. implies (clash m k b) (not (opens r k b))) e2 k b) g))
          (λ v. f k b (implied (clash m k b) (clash n k b) (every_at (λ k b. implies (clash m k b) (clash n k b)) (implied (empties r) _ e3 v) k b) g))),
      clean_append n r s e4 f c,
    )

abbrev pub peek : List Terminal → Option Terminal
peek [] = None
peek (t ∷ ts) = Some t

pub record Chosen (l : Line) (n : Nonterminal) (s : List Symbol) (vs : List Found) (x : List Terminal) (fin : List Found) : Type 0 where
  pub stood : stands_so l (peek x) ≡ true
  pub rule : List Symbol
  pub picked : pick (rules n) (peek x) ≡ Some rule
  pub reads : Reads (rule ++ s) vs x fin

opens_stands_so : (l : Line) (t : Terminal) (ts : List Terminal) → Opens l (t ∷ ts) → stands_so l (Some t) ≡ true
opens_stands_so line.Any t ts o = refl
opens_stands_so line.Same t ts o = not_false t.new_line o
opens_stands_so line.Fresh t ts o = o

any_stands_so : (l : Line) (x : Option Terminal) → Opens l [] → stands_so l x ≡ true
any_stands_so line.Any x o = refl
any_stands_so line.Same x o = elim o [ ]
any_stands_so line.Fresh x o = elim o [ ]

safe_at : (n : Nonterminal) (s : List Symbol) {mid : List Found} (ws : List Terminal) {fin : List Found} → Follows n s → Reads s mid ws fin → Safe n (peek ws)
safe_at n s [] f c = tt
safe_at n s (t ∷ ws) f c = by_cases (clash n t.shape t.new_line) (λ g. not_both (reads_opens c t ws refl) (f t.shape t.new_line g)) (λ g. g)

-- What reads a part begins with the rule that the first token tells.
pub chosen : {l : Line} {n : Nonterminal} {s : List Symbol} {vs : List Found} {x : List Terminal} {fin : List Found} → Follows n s → Reads (of.Part l n ∷ s) vs x fin → Chosen l n s vs x fin
chosen {l} {n} {s} {vs} {x} {fin} f (part {us = []} {ws = ws} (by {r = r} h d) o c e) = record {
  stood = any_stands_so l (peek x) o;
  rule = r;
  picked = ap (λ y. pick (rules n) (peek y)) e ∙ pick_empty n (rules n) r (peek ws) (is_told_empty n) h (reads_empty d refl) (safe_at n s ws f c);
  reads = subst (λ y. Reads (r ++ s) vs y fin) (sym e) (joined d c);
}
chosen {l} {n} {s} {vs} {x} {fin} f (part {us = u ∷ us} {ws = ws} (by {r = r} h d) o c e) = record {
  stood = ap (λ y. stands_so l (peek y)) e ∙ opens_stands_so l u us o;
  rule = r;
  picked = ap (λ y. pick (rules n) (peek y)) e ∙ pick_told (rules n) r u (is_told n) h (reads_opens d u us refl);
  reads = subst (λ y. Reads (r ++ s) vs y fin) (sym e) (joined d c);
}

stands_opens : (l : Line) (n : Nonterminal) (r : List Symbol) {vs : List Found} (us ws : List Terminal) {mid : List Found} → strict l n ≡ true → Among r (rules n) → Reads r vs us mid → stands_so l (peek (us ++ ws)) ≡ true → Opens l us
stands_opens line.Any n r us ws e h d o = tt
stands_opens line.Same n r [] ws e h d o = not_both (closed_empties n r h (reads_empty d refl)) (not_true (may_be_empty n) e)
stands_opens line.Same n r (u ∷ us) ws e h d o = not_true u.new_line o
stands_opens line.Fresh n r [] ws e h d o = not_both (closed_empties n r h (reads_empty d refl)) (not_true (may_be_empty n) e)
stands_opens line.Fresh n r (u ∷ us) ws e h d o = o

-- What a rule of the part reads is read as the part.
pub unchosen : (l : Line) (n : Nonterminal) (r s : List Symbol) {vs : List Found} {x : List Terminal} {fin : List Found} → strict l n ≡ true → stands_so l (peek x) ≡ true → Among r (rules n) → Reads (r ++ s) vs x fin → Reads (of.Part l n ∷ s) vs x fin
unchosen l n r s e o h d =
    let p = split r s d in
    part (by h p.front) (stands_opens l n r p.us p.ws e h p.front (subst (λ y. stands_so l (peek y) ≡ true) p.whole o)) p.back p.whole
