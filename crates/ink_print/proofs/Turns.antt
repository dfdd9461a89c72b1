-- What a turn of the printer does to the pieces that are still to come, and to its cost.
use Rattle.std.proofs.Common.{◌≡◌, ℕ, ◌<◌, List, [], ◌∷◌, ◌++◌, sym, ap, ◌∙◌, arith}
use Rattle.std.proofs.lemmas.List.{append_assoc, append-nil}
use Rattle.ink_grammar.specs.declared.tree.Node.{Node}
use Rattle.ink_grammar.specs.Built.{at, trees}
use Rattle.ink_print.specs.declared.context.Context.{Context}
use Rattle.ink_print.specs.declared.step.Piece.{Piece}
use Rattle.ink_print.specs.declared.work.Work.{Work}
use Rattle.ink_print.specs.declared.work.Work.TheVariants as work
use Rattle.ink_print.specs.Printed.{printed}
use Rattle.ink_print.specs.Work.{opened}
use Rattle.ink_print.proofs.Told.{told, told_none, told_next, told_both, told_opened}
use Rattle.ink_print.proofs.Cost.{cost, cost_next, cost_both, cost_opened}

module _ (ns : List Node) where
  -- before the first turn
  pub begun : (root : ℕ) (p : Context) (ps : List Piece) (none new : List Work) → ps ≡ [] → none ≡ [] → new ≡ work.Node root p ∷ none → ps ++ told (trees ns) new ≡ printed (at (trees ns) root) p
  begun root p ps none new e f g = ap (λ y. y ++ told (trees ns) new) e ∙ ap (λ y. told (trees ns) y) (g ∙ ap (λ y. work.Node root p ∷ y) f)
      ∙ told_next (trees ns) (work.Node root p) [] ∙ ap (λ y. printed (at (trees ns) root) p ++ y) (told_none (trees ns)) ∙ append-nil (printed (at (trees ns) root) p)

  -- after the last turn
  pub done : (ps whole : List Piece) (ws : List Work) → ws ≡ [] → ps ++ told (trees ns) ws ≡ whole → ps ≡ whole
  done ps whole ws e h = sym (append-nil ps) ∙ ap (λ y. ps ++ y) (sym (ap (λ y. told (trees ns) y) e ∙ told_none (trees ns))) ∙ h

  module _ (ps whole : List Piece) (old new : List Work) (w : Work) (taken : old ≡ w ∷ new) (kept : ps ++ told (trees ns) old ≡ whole) where
    pub nothing_said : w ≡ work.Nothing → ps ++ told (trees ns) new ≡ whole
    nothing_said e = ap (λ y. ps ++ y) (sym (ap (λ y. told (trees ns) y) (taken ∙ ap (λ y. y ∷ new) e) ∙ told_next (trees ns) work.Nothing new)) ∙ kept

    pub piece_said : (p : Piece) (qs : List Piece) → w ≡ work.Piece p → qs ≡ ps ++ p ∷ [] → qs ++ told (trees ns) new ≡ whole
    piece_said p qs e f = ap (λ y. y ++ told (trees ns) new) f ∙ append_assoc ps (p ∷ []) (told (trees ns) new)
        ∙ ap (λ y. ps ++ y) (sym (ap (λ y. told (trees ns) y) (taken ∙ ap (λ y. y ∷ new) e) ∙ told_next (trees ns) (work.Piece p) new)) ∙ kept

    pub node_said : (k : ℕ) (p : Context) (more : List Work) → w ≡ work.Node k p → more ≡ opened ns k p ++ new → ps ++ told (trees ns) more ≡ whole
    node_said k p more e f =
        let left : told (trees ns) more ≡ printed (at (trees ns) k) p ++ told (trees ns) new = ap (λ y. told (trees ns) y) f ∙ told_both (trees ns) (opened ns k p) new ∙ ap (λ y. y ++ told (trees ns) new) (told_opened ns k p) in
        let right : told (trees ns) old ≡ printed (at (trees ns) k) p ++ told (trees ns) new = ap (λ y. told (trees ns) y) (taken ∙ ap (λ y. y ∷ new) e) ∙ told_next (trees ns) (work.Node k p) new in
        ap (λ y. ps ++ y) (left ∙ sym right) ∙ kept

  module _ (old new : List Work) (w : Work) (taken : old ≡ w ∷ new) where
    pub nothing_costs : w ≡ work.Nothing → cost (trees ns) new < cost (trees ns) old
    nothing_costs e = omega (arith, ap (λ y. cost (trees ns) y) (taken ∙ ap (λ y. y ∷ new) e), cost_next (trees ns) work.Nothing new)

    pub piece_costs : (p : Piece) → w ≡ work.Piece p → cost (trees ns) new < cost (trees ns) old
    piece_costs p e = omega (arith, ap (λ y. cost (trees ns) y) (taken ∙ ap (λ y. y ∷ new) e), cost_next (trees ns) (work.Piece p) new)

    pub node_costs : (k : ℕ) (p : Context) (more : List Work) → w ≡ work.Node k p → more ≡ opened ns k p ++ new → cost (trees ns) more < cost (trees ns) old
    node_costs k p more e f = omega (arith, ap (λ y. cost (trees ns) y) f, cost_both (trees ns) (opened ns k p) new, cost_opened ns k p, ap (λ y. cost (trees ns) y) (taken ∙ ap (λ y. y ∷ new) e), cost_next (trees ns) (work.Node k p) new)
