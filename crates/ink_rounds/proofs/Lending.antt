-- The processes that are ready are lent, by number.
use Rattle.std.proofs.Common.{◌≡◌, ◌≤◌, ◌<◌, ◌+◌, ℕ, zero, suc, not, Bool, true, false, cond, Option, None, Some, List, [], ◌∷◌, ◌++◌, length, map, set, refl, sym, ap, ◌∙◌, subst, arith, append_assoc, ltb-true, ltb-false}
use Rattle.std.specs.Prelude.{nat_lt}
use Rattle.std.specs.List.{position, position_or_len, slice_get}
use Rattle.std.specs.Option.{option_map}
use Rattle.ink_base.specs.Numbered.{numbered, set_numbered}
use Rattle.ink_code.specs.Process.{Process}
use Rattle.ink_law_turns.proofs.Numbering.{none_some, numbered-suc, set_numbered-suc, some_is}
use Rattle.ink_post.specs.Answers.{Lends}
use Rattle.ink_post.specs.Worlds.{CodeState, home_of, world_of}
use Rattle.ink_post.specs.declared.post.Post.{Post}
use Rattle.ink_proc.specs.State.{state_of}
use Rattle.ink_rounds.specs.Machine.{Gone, LendsAll, gone_if, gone_of, homes_without, put_at_each, ready_from, ready_in, statuses_without}
use Rattle.ink_rounds.specs.declared.lent.Lent.{Lent}
use Rattle.ink_statuses.specs.Readings.{is_ready}
use Rattle.ink_worlds.specs.State.{checked_out}
use Rattle.ink_worlds.specs.declared.status.Status.{Status}
use Rattle.ink_worlds.specs.declared.status.Status.TheVariants.{Ready, Out, Idle, Held, Stopped}

calm_if : (first : ℕ) (s : Status) (h : Option Process) (gone : Gone) → is_ready s ≡ false → gone_if first s h gone ≡ gone
calm_if first Ready h gone calm = absurd (cc)
calm_if first (Out seat ran) h gone calm = refl
calm_if first Idle h gone calm = refl
calm_if first (Held future) h gone calm = refl
calm_if first Stopped h gone calm = refl

ready_is : (s : Status) → is_ready s ≡ true → s ≡ Ready
ready_is Ready ready = refl
ready_is (Out seat ran) ready = absurd (cc)
ready_is Idle ready = absurd (cc)
ready_is (Held future) ready = absurd (cc)
ready_is Stopped ready = absurd (cc)

abbrev first_place : List Status → ℕ
first_place ss = position_or_len is_ready ss

-- the first that is ready goes, and then the others
ready_place : (first seat ran : ℕ) (ss : List Status) (hs : List (Option Process)) (k : ℕ) (p : Process) → k ≡ first_place ss → k < length ss → slice_get hs k ≡ Some (Some p) → ready_from first ss hs ≡ (first + k, p) ∷ ready_from first (set ss k (Out seat ran)) (set hs k None)
ready_place first seat ran [] hs k p is low there = absurd (omega (arith, low))
ready_place first seat ran (s ∷ ss) [] k p is low there = absurd (none_some (Some p) there)
ready_place first seat ran (s ∷ ss) (h ∷ hs) k p is low there = by (λ j at below found. ready_place (first + 1) seat ran ss hs j p at below found) (is_ready s) refl k is low there
  where
    by : ((j : ℕ) → j ≡ first_place ss → j < length ss → slice_get hs j ≡ Some (Some p) → ready_from (first + 1) ss hs ≡ (first + 1 + j, p) ∷ ready_from (first + 1) (set ss j (Out seat ran)) (set hs j None)) → (b : Bool) → is_ready s ≡ b → (n : ℕ) → n ≡ cond (not b) (1 + first_place ss) 0 → n < suc (length ss) → slice_get (h ∷ hs) n ≡ Some (Some p) → ready_from first (s ∷ ss) (h ∷ hs) ≡ (first + n, p) ∷ ready_from first (set (s ∷ ss) n (Out seat ran)) (set (h ∷ hs) n None)
    by again true e zero at below found =
        let home : h ≡ Some p = some_is h (Some p) found in
        ap (λ (x : Status). gone_if first x h (ready_from (first + 1) ss hs)) (ready_is s e)
        ∙ (ap (λ (x : Option Process). gone_if first Ready x (ready_from (first + 1) ss hs)) home
        ∙ ap (λ (n : ℕ). (n, p) ∷ ready_from (first + 1) ss hs) (omega arith))
    by again true e (suc j) at below found = absurd (omega (arith, at))
    by again false e zero at below found = absurd (omega (arith, at))
    by again false e (suc j) at below found =
        calm_if first s h (ready_from (first + 1) ss hs) e
        ∙ (again j (omega (arith, at)) (omega (arith, below)) found
        ∙ (ap (λ (n : ℕ). (n, p) ∷ ready_from (first + 1) (set ss j (Out seat ran)) (set hs j None)) (omega arith)
        ∙ ap (λ (xs : Gone). (first + suc j, p) ∷ xs) (sym (calm_if first s h (ready_from (first + 1) (set ss j (Out seat ran)) (set hs j None)) e))))

ready_none : (first : ℕ) (ss : List Status) (hs : List (Option Process)) → length ss ≤ first_place ss → ready_from first ss hs ≡ []
ready_none first [] hs past = refl
ready_none first (s ∷ ss) [] past = refl
ready_none first (s ∷ ss) (h ∷ hs) past = by (λ beyond. ready_none (first + 1) ss hs beyond) (is_ready s) refl past
  where
    by : (length ss ≤ first_place ss → ready_from (first + 1) ss hs ≡ []) → (b : Bool) → is_ready s ≡ b → suc (length ss) ≤ cond (not b) (1 + first_place ss) 0 → ready_from first (s ∷ ss) (h ∷ hs) ≡ []
    by again true e beyond = absurd (omega (arith, beyond))
    by again false e beyond = calm_if first s h (ready_from (first + 1) ss hs) e ∙ again (omega (arith, beyond))

-- where the first that is ready stands
found_at : (ss : List Status) (number : ℕ) → option_map (λ index. index + 1) (position is_ready ss) ≡ Some number → (number ≡ suc (first_place ss)) × (first_place ss < length ss)
found_at ss number e = by (nat_lt (first_place ss) (length ss)) refl e
  where
    by : (b : Bool) → nat_lt (first_place ss) (length ss) ≡ b → option_map (λ index. index + 1) (cond b (Some (first_place ss)) None) ≡ Some number → (number ≡ suc (first_place ss)) × (first_place ss < length ss)
    by true is at = let same : first_place ss + 1 ≡ number = some_is (first_place ss + 1) number at in (omega (arith, same), ltb-true (first_place ss) (length ss) is)
    by false is at = absurd (none_some number at)

none_at : (ss : List Status) → option_map (λ index. index + 1) (position is_ready ss) ≡ None → length ss ≤ first_place ss
none_at ss e = by (nat_lt (first_place ss) (length ss)) refl e
  where
    by : (b : Bool) → nat_lt (first_place ss) (length ss) ≡ b → option_map (λ index. index + 1) (cond b (Some (first_place ss)) None) ≡ None → length ss ≤ first_place ss
    by true is at = absurd (none_some (first_place ss + 1) (sym at))
    by false is at = ltb-false (first_place ss) (length ss) is

-- so far these went, and the others that are ready go after them
pub record Lending (old new : Post) (gone : Gone) : Type 0 where
  pub ready : gone ++ ready_in new ≡ ready_in old
  pub after : (output : List ℕ) → world_of new output ≡ (let state = world_of old output in record state { homes = homes_without gone state.homes; statuses = statuses_without gone state.statuses })

pub lends_none : (post : Post) (lent : List Lent) → lent ≡ [] → Lending post post (gone_of lent)
lends_none post lent none = subst (λ (xs : List Lent). Lending post post (gone_of xs)) (sym none) (record { ready = refl; after = λ output. refl })

put_more : {X : Type 0} (put : ℕ × Process → X) (gone : Gone) (g : ℕ × Process) (xs : List X) → put_at_each put (gone ++ g ∷ []) xs ≡ set_numbered (put_at_each put gone xs) g.0 (put g)
put_more put [] g xs = refl
put_more put (x ∷ gone) g xs = put_more put gone g (set_numbered xs x.0 (put x))

pub gone_more : (lent : List Lent) (x : Lent) → gone_of (lent ++ x ∷ []) ≡ gone_of lent ++ (x.number, state_of x.proc) ∷ []
gone_more [] x = refl
gone_more (y ∷ lent) x = ap (λ (gone : Gone). (y.number, state_of y.proc) ∷ gone) (gone_more lent x)

module _ (number : ℕ) (p : Process) (old new : Post) (lends : Lends number number old new p) where
  went : (output : List ℕ) → world_of new output ≡ checked_out number number p.ran (world_of old output)
  went output = (lends output).2

  -- the first that is ready was lent
  pub ready_next : option_map (λ index. index + 1) (position is_ready old.statuses.items) ≡ Some number → ready_in old ≡ (number, p) ∷ ready_in new
  ready_next found =
      let at = found_at old.statuses.items number found in
      let k : ℕ = first_place old.statuses.items in
      let hs : List (Option Process) = map home_of old.homes.items in
      let there : slice_get hs k ≡ Some (Some p) = sym (numbered-suc hs k) ∙ (ap (λ (n : ℕ). numbered hs n) (sym at.0) ∙ (lends []).1) in
      let homes : map home_of new.homes.items ≡ set hs k None = ap (λ (s : CodeState). s.homes) (went []) ∙ (ap (λ (n : ℕ). set_numbered hs n None) at.0 ∙ set_numbered-suc hs k None) in
      let statuses : new.statuses.items ≡ set old.statuses.items k (Out number p.ran) = ap (λ (s : CodeState). s.statuses) (went []) ∙ (ap (λ (n : ℕ). set_numbered old.statuses.items n (Out number p.ran)) at.0 ∙ set_numbered-suc old.statuses.items k (Out number p.ran)) in
      let same : number ≡ suc k = at.0 in
      ready_place 1 number p.ran old.statuses.items hs k p refl at.1 there
      ∙ (ap (λ (n : ℕ). (n, p) ∷ ready_from 1 (set old.statuses.items k (Out number p.ran)) (set hs k None)) (omega (arith, same))
      ∙ (ap (λ (ss : List Status). (number, p) ∷ ready_from 1 ss (set hs k None)) (sym statuses)
      ∙ ap (λ (xs : List (Option Process)). (number, p) ∷ ready_from 1 new.statuses.items xs) (sym homes)))

  pub lends_more : (first : Post) (gone : Gone) → option_map (λ index. index + 1) (position is_ready old.statuses.items) ≡ Some number → Lending first old gone → Lending first new (gone ++ (number, p) ∷ [])
  lends_more first gone found lending = record {
    ready = append_assoc gone ((number, p) ∷ []) (ready_in new) ∙ (ap (λ (xs : Gone). gone ++ xs) (sym (ready_next found)) ∙ lending.ready);
    after = λ output.
        let state : CodeState = world_of first output in
        went output
        ∙ (ap (λ (s : CodeState). checked_out number number p.ran s) (lending.after output)
        ∙ (ap (λ (hs : List (Option Process)). let s = state in record s { homes = hs; statuses = set_numbered (statuses_without gone s.statuses) number (Out number p.ran) }) (sym (put_more (λ (x : ℕ × Process). None) gone (number, p) state.homes))
        ∙ ap (λ (ss : List Status). let s = state in record s { homes = homes_without (gone ++ (number, p) ∷ []) s.homes; statuses = ss }) (sym (put_more (λ (x : ℕ × Process). Out x.0 x.1.ran) gone (number, p) state.statuses))));
  }

-- all that were ready went, or some of them
pub lends_all : (old new : Post) (gone : Gone) → Lending old new gone → option_map (λ index. index + 1) (position is_ready new.statuses.items) ≡ None → LendsAll true old new gone
lends_all old new gone lending none = record {
  rest = ready_in new;
  ready = lending.ready;
  all = λ whole. ready_none 1 new.statuses.items (map home_of new.homes.items) (none_at new.statuses.items none);
  after = lending.after;
}

pub lends_some : (old new : Post) (gone : Gone) → Lending old new gone → LendsAll false old new gone
lends_some old new gone lending = record {
  rest = ready_in new;
  ready = lending.ready;
  all = λ whole. absurd (cc);
  after = lending.after;
}

-- the same where nothing is told otherwise
pub lending_same : (old middle new : Post) (gone : Gone) → ((output : List ℕ) → world_of new output ≡ world_of middle output) → Lending old middle gone → Lending old new gone
lending_same old middle new gone same lending = record {
  ready = ap (λ (s : CodeState). gone ++ ready_from 1 s.statuses s.homes) (same []) ∙ lending.ready;
  after = λ output. same output ∙ lending.after output;
}

-- one more was put to those that went
pub gone_pushed : (items lent : List Lent) (x : Lent) (number : ℕ) (p : Process) → items ≡ lent ++ x ∷ [] → x.number ≡ number → state_of x.proc ≡ p → gone_of items ≡ gone_of lent ++ (number, p) ∷ []
gone_pushed items lent x number p is same holds =
    ap gone_of is
    ∙ (gone_more lent x
    ∙ (ap (λ (n : ℕ). gone_of lent ++ (n, state_of x.proc) ∷ []) same
    ∙ ap (λ (q : Process). gone_of lent ++ (number, q) ∷ []) holds))
