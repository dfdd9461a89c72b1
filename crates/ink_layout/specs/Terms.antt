-- What is asked of an expression without its parts.
use Rattle.std.specs.Prelude.{ℕ, Bool, true, false}
use Rattle.ink_forms.specs.Trees.{Term, Lit, Var, SelfValue, Field, Borrow, Set, Swap, Let, Block, New, Arr, Call, Fn, Static, Match, Loop, Break, Next, Return, Recover, Panic, Drop, Statement}

abbrev pub number_of : Term → ℕ
number_of (Lit s x) = s.number
number_of (Var s x) = s.number
number_of (SelfValue s) = s.number
number_of (Field s x t) = s.number
number_of (Borrow s x t) = s.number
number_of (Set s p t) = s.number
number_of (Swap s p t) = s.number
number_of (Let s x y t) = s.number
number_of (Block s x ts) = s.number
number_of (New s x ts) = s.number
number_of (Arr s ts) = s.number
number_of (Call s x t ts) = s.number
number_of (Fn s x ts) = s.number
number_of (Static s x y ts) = s.number
number_of (Match s x t xs) = s.number
number_of (Loop s t) = s.number
number_of (Break s) = s.number
number_of (Next s) = s.number
number_of (Return s t) = s.number
number_of (Recover s t) = s.number
number_of (Panic s ts) = s.number
number_of (Drop s t) = s.number
number_of (Statement s t) = s.number

-- whether it is the word `self`
abbrev pub is_self : Term → Bool
is_self (SelfValue s) = true
is_self t = false
