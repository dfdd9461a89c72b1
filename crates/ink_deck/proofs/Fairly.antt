-- Each move keeps the balance.
use Rattle.std.proofs.Common.{◌≡◌, ℕ, zero, suc, ◌+◌, List, [], ◌∷◌, ◌++◌, set, sym, refl, ap, arith}
use mathlib.Core.Option.{some, some-injective, some-ne-none}
use lib.ListN.{get_elem?}
use Rattle.crossbeam_deque.specs.Tasks as tasks
use Rattle.crossbeam_queue.specs.Fifo as fifo
use Rattle.ink_deck.specs.declared.hand.Hand.{Hand}
use Rattle.ink_deck.specs.Hands.{hand, and_put, and_taken, times, total, Balanced}

times-append : (x : ℕ) (xs ys : List ℕ) → times x (xs ++ ys) ≡ times x xs + times x ys
times-append x [] ys = omega arith
times-append x (z ∷ xs) ys = let e = times-append x xs ys in omega arith

-- the total after a change of one pass
total_set : (f : Hand → ℕ) (views : List Hand) (port : ℕ) (v w : Hand) → get_elem? views port ≡ some v → total f (set views port w) + f v ≡ total f views + f w
total_set f [] port v w e = absurd (some-ne-none v (sym e))
total_set f (u ∷ us) zero v w e = let same : f u ≡ f v = ap f (some-injective u v e) in omega arith
total_set f (u ∷ us) (suc port) v w e = let r = total_set f us port v w e in omega arith

total_snoc : (f : Hand → ℕ) (views : List Hand) (w : Hand) → total f (views ++ w ∷ []) ≡ total f views + f w
total_snoc f [] w = omega arith
total_snoc f (u ∷ us) w = let r = total_snoc f us w in omega arith

module _ (items : List ℕ) (views : List Hand) (port : ℕ) (v : Hand) (at : get_elem? views port ≡ some v) where
  put_more : (xs : List ℕ) → Balanced items views → Balanced (items ++ xs) (set views port (hand (v.put ++ xs) v.taken))
  put_more xs b x = let w : Hand = hand (v.put ++ xs) v.taken in
      let s = total_set (λ (u : Hand). times x u.put) views port v w at in let t = total_set (λ (u : Hand). times x u.taken) views port v w at in
      let p = b x in let e = times-append x v.put xs in let f = times-append x items xs in omega arith

  take_some : (xs : List ℕ) → Balanced (xs ++ items) views → Balanced items (set views port (hand v.put (v.taken ++ xs)))
  take_some xs b x = let w : Hand = hand v.put (v.taken ++ xs) in
      let s = total_set (λ (u : Hand). times x u.put) views port v w at in let t = total_set (λ (u : Hand). times x u.taken) views port v w at in
      let p = b x in let e = times-append x v.taken xs in let f = times-append x xs items in omega arith

pub admits : (items : List ℕ) (views : List Hand) → Balanced items views → Balanced items (views ++ hand [] [] ∷ [])
admits items views b x = let s = total_snoc (λ (u : Hand). times x u.put) views (hand [] []) in let t = total_snoc (λ (u : Hand). times x u.taken) views (hand [] []) in let p = b x in omega arith

pub deque_puts : (port : ℕ) (v : Hand) (xs : List ℕ) → tasks.Pushes Balanced port v xs (λ w. w ≡ hand (v.put ++ xs) v.taken)
deque_puts port v xs items views b at = (hand (v.put ++ xs) v.taken, put_more items views port v at xs b, refl)

pub deque_takes : (port most : ℕ) (v : Hand) → tasks.Takes Balanced port v most (λ xs w. w ≡ hand v.put (v.taken ++ xs))
deque_takes port most v xs items views least few b at = (hand v.put (v.taken ++ xs), take_some items views port v at xs b, refl)

pub queue_puts : (n port : ℕ) (v : Hand) (x : ℕ) → fifo.Pushes Balanced n port v x (λ w. w ≡ and_put x v)
queue_puts n port v x items views room b at = (and_put x v, put_more items views port v at (x ∷ []) b, refl)

pub queue_takes : (port : ℕ) (v : Hand) → fifo.Pops Balanced port v (λ x w. w ≡ and_taken x v)
queue_takes port v x items views b at = (and_taken x v, take_some items views port v at (x ∷ []) b, refl)
