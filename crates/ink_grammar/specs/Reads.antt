-- What a grammar means.
use Rattle.std.specs.Prelude.{◌≡◌, true, false, List, [], ◌∷◌, ◌++◌, ◌⊎◌}
use Rattle.ink_grammar.specs.declared.symbol.Wanted.{Wanted}
use Rattle.ink_grammar.specs.declared.token.Terminal.{Terminal}
use Rattle.ink_grammar.specs.declared.symbol.Line.{Line}
use Rattle.ink_grammar.specs.declared.symbol.Line.TheVariants as line
use Rattle.ink_grammar.specs.declared.symbol.Nonterminal.{Nonterminal}
use Rattle.ink_grammar.specs.declared.symbol.Action.{Action}
use Rattle.ink_grammar.specs.declared.symbol.Symbol.{Symbol}
use Rattle.ink_grammar.specs.declared.symbol.Symbol.TheVariants as s
use Rattle.ink_grammar.specs.Grammar.{rules}
use Rattle.ink_grammar.specs.Shapes.{stands, is}
use Rattle.ink_grammar.specs.Tree.{Found, keep, act, is_place}

-- the list has it
abbrev pub Among : {A : Type 0} → A → List A → Type 0
Among x [] = ⊥
Among x (y ∷ ys) = (x ≡ y) ⊎ Among x ys

-- the first of the tokens stands so
abbrev pub Opens : Line → List Terminal → Type 0
Opens line.Any ts = Unit {0}
Opens line.Same [] = ⊥
Opens line.Same (t ∷ ts) = t.new_line ≡ false
Opens line.Fresh [] = ⊥
Opens line.Fresh (t ∷ ts) = t.new_line ≡ true

mutual
  -- These tokens are this part, and what was found before becomes this.
  pub data Derives : Nonterminal → List Found → List Terminal → List Found → Type 0 where
    by : {n : Nonterminal} {vs : List Found} {ts : List Terminal} {fin : List Found} {r : List Symbol} → Among r (rules n) → Reads r vs ts fin → Derives n vs ts fin

  -- These tokens are these symbols, one after the other.
  pub data Reads : List Symbol → List Found → List Terminal → List Found → Type 0 where
    done : {vs : List Found} → Reads [] vs [] vs
    token : {l : Line} {w : Wanted} {r : List Symbol} {vs : List Found} {t : Terminal} {ts : List Terminal} {fin : List Found} →
        stands l t.new_line ≡ true → is w t.shape ≡ true → Reads r (keep w t vs) ts fin → Reads (s.Token l w ∷ r) vs (t ∷ ts) fin
    at_place : {w : Wanted} {r : List Symbol} {vs : List Found} {t : Terminal} {ts : List Terminal} {fin : List Found} →
        is_place vs ≡ true → t.new_line ≡ false → is w t.shape ≡ true → Reads r (keep w t vs) ts fin → Reads (s.Place w ∷ r) vs (t ∷ ts) fin
    part : {l : Line} {n : Nonterminal} {r : List Symbol} {vs mid : List Found} {us ws ts : List Terminal} {fin : List Found} →
        Derives n vs us mid → Opens l us → Reads r mid ws fin → ts ≡ us ++ ws → Reads (s.Part l n ∷ r) vs ts fin
    make : {a : Action} {r : List Symbol} {vs : List Found} {ts : List Terminal} {fin : List Found} →
        Reads r (act a vs) ts fin → Reads (s.Do a ∷ r) vs ts fin
